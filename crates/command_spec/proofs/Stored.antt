-- What lies in files of different names that are made one after another.
use Rattle.std.proofs.Common.{◌≡◌, ℕ, zero, suc, ◌+◌, Some, List, [], ◌∷◌, sym, ap, ◌∙◌, arith}
use Rattle.std.specs.Prelude.{◌≢◌, map, AllPairs, All}
use Rattle.std.specs.List.{enumerate_from}
use Rattle.std.proofs.lemmas.List.Elements.{All-head, All-tail}
use Rattle.file_spec.specs.declared.conference_lines.LegLine.{LegLine}
use Rattle.file_spec.specs.Kept.{Differ}
use Rattle.mixer_spec.specs.Setups.{leg_at}
use Rattle.command_spec.specs.Work.{Contents, Made}
use Rattle.command_spec.specs.Outcomes.{AllStored}

-- what is made of each of these legs, the first of which has the number n
abbrev pub made_of : (ℕ → LegLine → Made) → ℕ → List LegLine → List Made
made_of made n legs = map (λ x. made x.0 x.1) (enumerate_from n legs)

-- under a name of which nothing is made lies what lay there
untouched : (made : ℕ → LegLine → Made) → ((n : ℕ) (leg : LegLine) → (made n leg).name ≡ leg.output) → (name : List ℕ) (n : ℕ) (legs : List LegLine) (old new : Contents)
    → All (λ leg. name ≢ leg.output) legs → AllStored (made_of made n legs) old new → new name ≡ old name
untouched made named name n [] old new a s = s name
untouched made named name n (leg ∷ legs) old new a s =
    untouched made named name (n + 1) legs s.0 new (All-tail (λ l. name ≢ l.output) leg legs a) s.2
    ∙ s.1.others name (λ e. All-head (λ l. name ≢ l.output) leg legs a (e ∙ named n leg))

others : (leg : LegLine) (legs : List LegLine) → AllPairs (λ a b. Differ a b) (leg ∷ legs) → All (λ l. leg.output ≢ l.output) legs
others leg legs p i d h = (p zero (suc i) d (omega arith) (omega arith)).outputs

rest : (leg : LegLine) (legs : List LegLine) → AllPairs (λ a b. Differ a b) (leg ∷ legs) → AllPairs (λ a b. Differ a b) legs
rest leg legs p i j d l h = p (suc i) (suc j) d (omega arith) (omega arith)

pub stored_at : (made : ℕ → LegLine → Made) → ((n : ℕ) (leg : LegLine) → (made n leg).name ≡ leg.output) → (n : ℕ) (legs : List LegLine) (old new : Contents)
    → AllPairs (λ a b. Differ a b) legs → AllStored (made_of made n legs) old new → (j : ℕ) (leg : LegLine) → leg_at legs j ≡ Some leg → new leg.output ≡ Some (made (n + j) leg).octets
stored_at made named n [] old new p s j leg e = absurd (cc e)
stored_at made named n (l ∷ legs) old new p s zero leg e =
    let same : l ≡ leg = cc e in
    let k : n ≡ n + 0 = omega arith in
    ap (λ (x : LegLine). new x.output) (sym same)
    ∙ (untouched made named l.output (n + 1) legs s.0 new (others l legs p) s.2
    ∙ (ap s.0 (sym (named n l)) ∙ (s.1.stored ∙ (ap (λ (x : LegLine). Some (made n x).octets) same ∙ ap (λ m. Some (made m leg).octets) k))))
stored_at made named n (l ∷ legs) old new p s (suc j) leg e =
    let k : n + 1 + j ≡ n + suc j = omega arith in
    stored_at made named (n + 1) legs s.0 new (rest l legs p) s.2 j leg e ∙ ap (λ m. Some (made m leg).octets) k
