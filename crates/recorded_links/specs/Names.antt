-- The names of the files of a recording.
use Rattle.std.specs.Prelude.{ℕ, List, ◌++◌, codes, decimal}
use Rattle.recorded_links.specs.declared.names.Way.{Way}
use Rattle.recorded_links.specs.declared.names.Way.TheVariants.{In, Out}

abbrev pub way_text : Way → List ℕ
way_text In = codes ".in."
way_text Out = codes ".out."

-- what they begin with
abbrev pub stem_of : List ℕ → List ℕ → Way → List ℕ
stem_of prefix name way = prefix ++ codes "." ++ name ++ way_text way

-- the file with this number: `file_name` of live_spec
abbrev pub numbered : List ℕ → ℕ → List ℕ
numbered stem k = stem ++ decimal k ++ codes ".rtp"
