-- What a world in memory holds (profile): under a name the first file that bears it, and that file's counts.
use Rattle.std.specs.Prelude.{ℕ, Bool, List, [], ◌∷◌, Option, Some, None, cond, nat_eq}
use Rattle.std.specs.Option.{option_map, option_map_or}
use Rattle.std.specs.Cmp.Lexicographic.{pointwise}
use Rattle.rtt_io.specs.declared.mem_files.MemFile.{MemFile}
use Rattle.rtt_io.specs.declared.faults.Faults.{Faults}
use Rattle.rtt_io.specs.Counts.{counted}

-- the file bears this name
abbrev pub is_named : List ℕ → MemFile → Bool
is_named name file = pointwise nat_eq file.name name

-- the first file of a name
abbrev pub file_of : List MemFile → List ℕ → Option MemFile
file_of [] name = None
file_of (file ∷ files) name = cond (is_named name file) (Some file) (file_of files name)

-- the octets of a file
abbrev pub octets_in : Option MemFile → Option (List ℕ)
octets_in file = option_map (λ (f : MemFile). f.octets) file

-- the octets under a name
abbrev pub octets_of : List MemFile → List ℕ → Option (List ℕ)
octets_of files name = octets_in (file_of files name)

-- what a file counts; no file counts nothing
abbrev pub own_count : Option MemFile → ℕ
own_count file = option_map_or (λ (f : MemFile). f.faults.own) file 0

abbrev pub object_count : Option MemFile → ℕ
object_count file = option_map_or (λ (f : MemFile). f.faults.objects) file 0

-- the faults of the calls that open or create a name, with those that no file counts
abbrev pub own_of : Faults → List MemFile → List ℕ → ℕ
own_of others files name = counted others.own (own_count (file_of files name))

-- the faults of the objects of a name, with those that no file counts
abbrev pub objects_of : Faults → List MemFile → List ℕ → ℕ
objects_of others files name = counted others.objects (object_count (file_of files name))
