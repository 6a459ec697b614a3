-- What each leg of a live call counted, and the lines that say it.
use Rattle.std.specs.Prelude.{ℕ, Some, List, [], ◌∷◌, ◌++◌, map, slice_get, ◌≡◌, if◌then◌else◌}
use Rattle.file_spec.specs.declared.conference_lines.LegLine.{LegLine}
use Rattle.file_spec.specs.Conference.{Conference}
use Rattle.view_spec.specs.declared.tallies.Tally.{Tally}
use Rattle.view_spec.specs.Tallies.{tally_line}
use Rattle.stream_spec.specs.Links.{Takes}
use Rattle.live_spec.specs.Tally.{tally_by}
use Rattle.live_leg.specs.LinkLegs.{LinkLeg}
use Rattle.live_leg.specs.declared.tallies.LegTally.{LegTally}
use Rattle.live_leg.specs.Tallies.{IsTally}
use Rattle.live_spec.specs.Served.{hearing_at}

-- what each of these legs counted is what came of its link
abbrev pub AreTallies : Conference → (ℕ → Takes) → List LegTally → Type 0
AreTallies c takes tallies = (j : ℕ) (kept : LegTally) → slice_get tallies j ≡ Some kept
    → IsTally kept (tally_by (hearing_at c j) (takes j))

-- what each leg counted
abbrev pub tallies_in : {I : Type 0} → List (LinkLeg I) → List LegTally
tallies_in {I} legs = map (λ (leg : LinkLeg I). leg.tally) legs

-- as it is printed
abbrev pub as_tally : LegTally → Tally
as_tally t = record { came = t.came; text = t.text; refused = t.refused; foreign = t.foreign; senders = t.senders }

-- a line for each of these legs, which counted that
abbrev pub tally_lines : List LegLine → List LegTally → List ℕ
tally_lines [] tallies = []
tally_lines (leg ∷ legs) [] = []
tally_lines (leg ∷ legs) (t ∷ tallies) = tally_line leg.name (as_tally t) ++ tally_lines legs tallies

-- where the conference asks for it
abbrev pub asked_lines : Conference → List LegTally → List ℕ
asked_lines c tallies = if c.service.counts then tally_lines c.legs tallies else []
