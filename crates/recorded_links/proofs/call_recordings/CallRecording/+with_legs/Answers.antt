use Rattle.std.proofs.Common.{◌≡◌, ℕ, ◌-◌, ◌≤◌, List, [], ◌∷◌, ◌++◌, Result, Ok, Err, IfOk, length, get_or, take, drop, ap, ap₂, ◌∙◌, append_assoc, arith}
use Rattle.std.proofs.lemmas.List.{take_rest}
use Rattle.file_spec.specs.declared.conference_lines.LegLine.{LegLine}
use Rattle.recorded_links.specs.Begun.{names_of}
use Rattle.recorded_links.specs.Calls.{Named, leg_named, legs_named}
use Rattle.recorded_links.proofs.call_recordings.CallRecording.+with_legs.Goals as goal

-- those of the first leg, and of the others
of_first : (prefix : List ℕ) (start begun : ℕ) (legs : List LegLine) (leg : LegLine) → 1 ≤ length legs → leg ≡ get_or legs 0 leg → begun ≡ start
    → leg_named prefix start leg ++ legs_named prefix begun (take (length legs - 1) (drop 1 legs)) ≡ legs_named prefix start legs
of_first prefix start begun [] leg some is same = absurd (omega arith)
of_first prefix start begun (l ∷ rest) leg some is same = ap₂ (λ (x y : List Named). x ++ y) (ap (leg_named prefix start) is) (ap₂ (legs_named prefix) same (take_rest (l ∷ rest) 1))

module _ {X E : Type 0} where
  legs_more : (names : X → List Named) (old more : List Named) (prefix : List ℕ) (start begun : ℕ) (legs : List LegLine) (leg : LegLine) → 1 ≤ length legs → leg ≡ get_or legs 0 leg
      → begun ≡ start → more ≡ old ++ leg_named prefix start leg
      → (r : Result X E) → IfOk r (λ c. names c ≡ more ++ legs_named prefix begun (take (length legs - 1) (drop 1 legs)))
      → IfOk r (λ c. names c ≡ old ++ legs_named prefix start legs)
  legs_more names old more prefix start begun legs leg some first same is (Ok c) n =
      let rest = legs_named prefix begun (take (length legs - 1) (drop 1 legs)) in
      n ∙ (ap (λ l. l ++ rest) is ∙ (append_assoc old (leg_named prefix start leg) rest ∙ ap (λ l. old ++ l) (of_first prefix start begun legs leg some first same)))
  legs_more names old more prefix start begun legs leg some first same is (Err e) n = tt

pub returns-in_ok-more-in-len1-up : goal.returns-in_ok-more-in-len1-up
returns-in_ok-more-in-len1-up g t c =
    legs_more (λ x. names_of x) (names_of c.args.self) (names_of c.in_ok-more-in-len1-up.more) c.args.prefix.now c.args.self.start c.in_ok-more-in-len1-up.more.start c.args.legs.now c.leg-item.result c.in-len1-up.len_at_least c.leg-item.is
    c.in_ok-more-in-len1-up.ensures.start c.in_ok-more-in-len1-up.ensures.names c.with_legs.result c.with_legs.ensures
