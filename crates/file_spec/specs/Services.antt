-- What is asked beside the mixing: `counts` of any conference, the rest of a call over links (profile).
use Rattle.std.specs.Prelude.{ℕ, Bool, true, false, ◌&&◌, nat_le, Option, None, Some, List, length}
use Rattle.std.specs.List.{list_all}
use Rattle.std.specs.Char.{is_ascii_alphanumeric}
use Rattle.file_spec.specs.declared.limits.TheConstants.{SHORTEST_WORD, LONGEST_WORD}
use Rattle.file_spec.specs.declared.services.Service.{Service}
use Rattle.file_spec.specs.declared.services.ServiceLine.{ServiceLine}
use Rattle.file_spec.specs.declared.services.ServiceLine.TheVariants.{Gone, Operator, Record, Counts}

-- nothing is asked
abbrev pub no_service : Service
no_service = record { gone = None; operator = None; recorded = None; counts = false }

-- what is asked, and what one line more asks
abbrev pub with_service : Service → ServiceLine → Service
with_service s (Gone n) = record s { gone = Some n }
with_service s (Operator o) = record s { operator = Some o }
with_service s (Record p) = record s { recorded = Some p }
with_service s Counts = record s { counts = true }

-- 8 to 64 ASCII letters and digits
abbrev pub is_operator_word : List ℕ → Bool
is_operator_word text = nat_le SHORTEST_WORD (length text) && (nat_le (length text) LONGEST_WORD && list_all is_ascii_alphanumeric text)
