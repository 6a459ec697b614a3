-- Where the line of a recording ends.
use Rattle.std.specs.Prelude.{ℕ, List, codes, nat_eq, Option, None, if◌then◌else◌}
use Rattle.std.specs.List.{starts_with}
use Rattle.wire_spec.specs.Dump.{past_line}

-- what follows the line
abbrev pub behind_line : List ℕ → Option (List ℕ)
behind_line octets = if starts_with nat_eq octets (codes "#!rtpplay1.0 ") then past_line 128 octets else None
