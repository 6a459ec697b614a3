-- The parts of a label.
use Rattle.std.specs.Prelude.{Bool, true, false, ℕ, List, [], encode_utf8}

-- U+2028 where a line is open
abbrev pub line_start : Bool → List ℕ
line_start true = encode_utf8 0x2028
line_start false = []
