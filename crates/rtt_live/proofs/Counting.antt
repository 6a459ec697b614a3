-- The lines behind the views say what was counted of each leg.
use Rattle.std.proofs.Common.{◌≡◌, ◌+◌, ℕ, suc, Some, List, [], ◌∷◌, ◌++◌, append_assoc, length, refl, ap, ◌∙◌, subst, arith, if◌then◌else◌}
use Rattle.std.specs.Prelude.{flat_map, slice_get}
use Rattle.std.specs.List.{enumerate_from}
use Rattle.file_spec.specs.declared.conference_lines.LegLine.{LegLine}
use Rattle.file_spec.specs.Conference.{Conference}
use Rattle.view_spec.specs.declared.tallies.Tally.{Tally}
use Rattle.view_spec.specs.Tallies.{tally_line}
use Rattle.stream_spec.specs.Links.{Takes}
use Rattle.live_spec.specs.Tally.{kept, tally_by}
use Rattle.live_leg.specs.declared.tallies.LegTally.{LegTally}
use Rattle.live_leg.specs.Tallies.{IsTally}
use Rattle.live_spec.specs.Served.{End, counted, end_line, hearing_at, live_views}
use Rattle.rtt_live.specs.Listeners.{ArePrintedOf, AreViewsOf, Listening}
use Rattle.rtt_live.specs.Tallies.{AreTallies, as_tally, asked_lines, tally_lines}

-- what a leg counted is printed as what came of its link
tally_is : (t : LegTally) (y : Tally) → IsTally t y → as_tally t ≡ kept y
tally_is t y is = cc (is.came, is.text, is.refused, is.foreign, is.senders)

line_is : (name : List ℕ) (t : LegTally) (y : Tally) → IsTally t y → tally_line name (as_tally t) ≡ tally_line name (kept y)
line_is name t y is = ap (tally_line name) (tally_is t y is)

-- these legs have the numbers from k on
lines_from : (c : Conference) (takes : ℕ → Takes) (k : ℕ) (legs : List LegLine) (tallies : List LegTally) → length tallies ≡ length legs
    → ((j : ℕ) (t : LegTally) → slice_get tallies j ≡ Some t → IsTally t (tally_by (hearing_at c (k + j)) (takes (k + j))))
    → tally_lines legs tallies ≡ flat_map (λ x. tally_line x.1.name (kept (tally_by (hearing_at c x.0) (takes x.0)))) (enumerate_from k legs)
lines_from c takes k [] tallies many are = refl
lines_from c takes k (leg ∷ legs) [] many are = absurd (omega (arith, many))
lines_from c takes k (leg ∷ legs) (t ∷ tallies) many are =
    let count : ℕ → Tally = λ n. tally_by (hearing_at c n) (takes n) in
    let here : k + 0 ≡ k = omega arith in
    let first : IsTally t (count k) = subst (λ (n : ℕ). IsTally t (count n)) here (are 0 t refl) in
    let line : ℕ × LegLine → List ℕ = λ x. tally_line x.1.name (kept (tally_by (hearing_at c x.0) (takes x.0))) in
    ap (λ (xs : List ℕ). xs ++ tally_lines legs tallies) (line_is leg.name t (count k) first)
    ∙ ap (λ (xs : List ℕ). line (k, leg) ++ xs)
    (lines_from c takes (k + 1) legs tallies (omega (arith, many)) (λ j u there. subst (λ (n : ℕ). IsTally u (count n)) (omega arith) (are (suc j) u there)))

asked_are : (c : Conference) (takes : ℕ → Takes) (tallies : List LegTally) → length tallies ≡ length c.legs → AreTallies c takes tallies → asked_lines c tallies ≡ counted c takes
asked_are c takes tallies many are =
    ap (λ (xs : List ℕ). if c.service.counts then xs else [])
    (lines_from c takes 0 c.legs tallies many (λ j t there. subst (λ (n : ℕ). IsTally t (tally_by (hearing_at c n) (takes n))) (omega arith) (are j t there)))

-- the views, how the call ended, and what was counted
pub printed_are : (c : Conference) (listeners : List Listening) (tallies : List LegTally) (end : End) (views ended printed : List ℕ) → length tallies ≡ length c.legs
    → AreViewsOf c listeners views → ended ≡ views ++ end_line end → printed ≡ ended ++ asked_lines c tallies → ArePrintedOf c listeners tallies end printed
printed_are c listeners tallies end views ended printed many shown ends is = λ takes given are heard.
    is
    ∙ (ap (λ (xs : List ℕ). xs ++ asked_lines c tallies) (ends ∙ ap (λ (xs : List ℕ). xs ++ end_line end) (shown given heard))
    ∙ (append_assoc (live_views c given) (end_line end) (asked_lines c tallies)
    ∙ ap (λ (xs : List ℕ). live_views c given ++ (end_line end ++ xs)) (asked_are c takes tallies many are)))
