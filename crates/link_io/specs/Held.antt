-- What links in memory keep under each port.
use Rattle.std.specs.Prelude.{◌≡◌, ℕ, Bool, true, List}
use Rattle.rtt_io.specs.declared.faults.Faults.{Faults}
use Rattle.rtt_io.specs.Counts.{AddsCount}
use Rattle.stream_spec.specs.Links.{Takes}
use Rattle.link_io.specs.declared.mem_links.MemLinks.{MemLinks}
use Rattle.link_io.specs.Ports.{Same, SameBut, Replaces}
use Rattle.link_io.specs.MemPorts.{opened_of, takes_of, given_of, own_of, objects_of}

-- a link was opened there
abbrev pub opened_in : MemLinks → ℕ → Bool
opened_in links port = opened_of links.ports.items port

-- what came
abbrev pub taken_in : MemLinks → ℕ → Takes
taken_in links port = takes_of links.ports.items port

-- what was given
abbrev pub given_in : MemLinks → ℕ → List (ℕ × List ℕ)
given_in links port = given_of links.ports.items port

-- the faults of the calls that open the port
abbrev pub own_in : MemLinks → ℕ → ℕ
own_in links port = own_of links.faults links.ports.items port

-- the faults of the ends of the port
abbrev pub objects_in : MemLinks → ℕ → ℕ
objects_in links port = objects_of links.faults links.ports.items port

-- where links lead, the clock, and how often it was paused
pub record SameRest (old new : MemLinks) : Type 0 where
  pub leads : new.leads ≡ old.leads
  pub moment : new.clock.moment ≡ old.clock.moment
  pub pauses : new.pauses ≡ old.pauses

-- of the two things that are kept under each port, this is there in place of the one, where a link was opened at the port
pub record Stores {K L : Type 0} (kept : MemLinks → ℕ → K) (beside : MemLinks → ℕ → L) (port : ℕ) (it : K) (old new : MemLinks) : Type 0 where
  pub stored : Replaces opened_in kept port it old new
  pub others : SameBut port kept old new
  pub same_beside : Same beside old new
  pub same_opened : Same opened_in old new
  pub same_own : Same own_in old new
  pub same_objects : Same objects_in old new
  pub same_rest : SameRest old new

-- so many more faults of the port came
pub record Counts (port : ℕ) (more : Faults) (old new : MemLinks) : Type 0 where
  pub own : AddsCount (opened_in old port ≡ true) port more.own (own_in old) (own_in new)
  pub objects : AddsCount (opened_in old port ≡ true) port more.objects (objects_in old) (objects_in new)
  pub same_opened : Same opened_in old new
  pub same_taken : Same taken_in old new
  pub same_given : Same given_in old new
  pub same_rest : SameRest old new
