-- What `make` makes of a number (profile): the script of each leg of the generated conference is sent into a recording in
-- memory, the conference is mixed over these, and one line is printed. No file is read or made.
use Rattle.std.specs.Prelude.{ℕ, Option, None, Some, List, [], ◌++◌, length, map, codes, decimal, slice_index_or}
use Rattle.std.specs.List.{range_with_len, sum_by}
use Rattle.command_spec.specs.declared.faults.Refusal.TheVariants.{AfterTurns}
use Rattle.command_spec.specs.Generated.{Generated, generated, leg}
use Rattle.command_spec.specs.Scripts.{Sending, recording, text_of_lines, usual_sending}
use Rattle.command_spec.specs.Sums.{Sums, sums_mixed}
use Rattle.command_spec.specs.Work.{Steps, Refuses, Makes}

-- ---- what is mixed
-- what the leg i sends its script with
abbrev pub sending_at : Generated → ℕ → Sending
sending_at made i = usual_sending (leg i).ssrc (slice_index_or made.firsts i 0) 0

-- what it sends, as `send` does
abbrev pub recording_at : Generated → ℕ → List ℕ
recording_at made i = recording (sending_at made i) (slice_index_or made.scripts i [])

abbrev pub recordings : Generated → List (List ℕ)
recordings made = map (recording_at made) (range_with_len 0 (length made.scripts))

-- ---- what is printed
-- how many lines are typed
abbrev pub lines_typed : Generated → ℕ
lines_typed made = sum_by length made.scripts

-- how many octets of text
abbrev pub octets_typed : Generated → ℕ
octets_typed made = sum_by (λ script. length (text_of_lines script)) made.scripts

-- the line
unfoldable pub summary : ℕ → Generated → Sums → List ℕ
summary n made sums =
    codes "make " ++ decimal n ++ codes " legs " ++ decimal (length made.conference.legs)
    ++ codes " lines " ++ decimal (lines_typed made) ++ codes " typed " ++ decimal (octets_typed made)
    ++ codes " packets " ++ decimal sums.packets ++ codes " used " ++ decimal sums.used
    ++ codes " marks " ++ decimal sums.markers ++ codes "\n"

-- ---- the steps
-- where mixing is over within the turns there are sums, which are printed
abbrev pub makes_summary : ℕ → Generated → Option Sums → Steps
makes_summary n made None = Refuses 0 (AfterTurns made.conference.turns)
makes_summary n made (Some sums) = Makes (summary n made sums) []

-- a generated conference is mixed
abbrev pub makes_mixed : ℕ → Generated → Steps
makes_mixed n made = makes_summary n made (sums_mixed made.conference (recordings made))

-- the conference of this number is
abbrev pub making : ℕ → Steps
making n = makes_mixed n (generated n)
