-- What a world in memory keeps under each name.
use Rattle.std.specs.Prelude.{ℕ, List, Option, IsSome}
use Rattle.rtt_io.specs.declared.mem_worlds.MemWorld.{MemWorld}
use Rattle.rtt_io.specs.declared.faults.Faults.{Faults}
use Rattle.rtt_io.specs.Counts.{AddsCount}
use Rattle.rtt_io.specs.Names.{Same, SameBut, Replaces}
use Rattle.rtt_io.specs.Files.{octets_of, own_of, objects_of}

-- the octets
abbrev pub octets_held : MemWorld → List ℕ → Option (List ℕ)
octets_held world name = octets_of world.files.items name

-- the faults of the calls that open or create the name
abbrev pub own_counted : MemWorld → List ℕ → ℕ
own_counted world name = own_of world.faults world.files.items name

-- the faults of the objects of the name
abbrev pub objects_counted : MemWorld → List ℕ → ℕ
objects_counted world name = objects_of world.faults world.files.items name

-- where something was under the name, these octets are there in its place
pub record Stores (name octets : List ℕ) (old new : MemWorld) : Type 0 where
  pub stored : Replaces octets_held name octets old new
  pub others : SameBut name octets_held old new
  pub same_own : Same own_counted old new
  pub same_objects : Same objects_counted old new

-- so many more faults of the name came
pub record Counts (name : List ℕ) (more : Faults) (old new : MemWorld) : Type 0 where
  pub own : AddsCount (IsSome (octets_held old name)) name more.own (own_counted old) (own_counted new)
  pub objects : AddsCount (IsSome (octets_held old name)) name more.objects (objects_counted old) (objects_counted new)
  pub same_contents : Same octets_held old new
