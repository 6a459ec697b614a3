-- Texts that stand one behind the other.
use Rattle.std.proofs.Common.{◌≡◌, ℕ, zero, suc, ◌+◌, ◌-◌, ◌<◌, inl, inr, List, [], ◌∷◌, ◌++◌, length, take, drop, append-nil, refl, ap, subst, sym, ◌∙◌, arith}
use Rattle.std.specs.Prelude.{◌==◌, slice_index, slice_index_or, slice_set, if◌then◌else◌}
use Rattle.std.proofs.Math.Seq.{get_or-set_same, get_or-set_other, take-add}
use Rattle.std.proofs.lemmas.Bool.{cases_eq, eq-eqb, ne_eqb}
use Rattle.std.proofs.lemmas.List.{drop-drop}
use Rattle.stream_spec.specs.Lists.{In}
use Rattle.stream_spec.specs.Own.{Sent}
use Rattle.packetizer.specs.Speakers.{AreDistinct}
use Rattle.sent_log.specs.declared.runs.Run.{Run}
use Rattle.sent_log.specs.Lists.{StandsAt, octets_at}
use Rattle.sent_log.specs.Runs.{Follows, IsRun, empty_run}
use Rattle.sent_log.specs.States.{said}

-- ---- a run

-- of nothing
pub run_empty : (octets : List ℕ) (run : Run) → run ≡ empty_run → IsRun octets [] run
run_empty octets run e = subst (λ (r : Run). IsRun octets [] r) (sym e) (record { order = omega arith; within = omega arith; is = λ j. refl })

-- with a text more
pub run_more : (octets texts text : List ℕ) (old new : Run) (place : ℕ) → IsRun octets texts old → StandsAt octets place text → Follows old place (length text) new → IsRun octets (texts ++ text) new
run_more octets texts text old new place r s f = record {
  order = f.order r.order;
  within = omega (arith, f.to, s.within);
  is = λ j. elim (cases_eq old.from old.to) [
    | inl q ↦
        let from = f.first q in
        let none : old.to - old.from ≡ 0 = omega (arith, q) in
        let nothing : texts ≡ [] = sym (r.is (f.joined j)) ∙ ap (λ (n : ℕ). octets_at octets old.from n) none in
        let size : new.to - new.from ≡ length text = omega (arith, from, f.to) in
        ap (λ (n : ℕ). octets_at octets n (new.to - new.from)) from
        ∙ (ap (λ (n : ℕ). octets_at octets place n) size ∙ (s.is ∙ ap (λ (xs : List ℕ). xs ++ text) (sym nothing)))
    | inr n ↦
        let p = f.next n j in
        let size : new.to - new.from ≡ (old.to - old.from) + length text = omega (arith, p.0, p.1, f.to, r.order) in
        let behind : old.from + (old.to - old.from) ≡ place = omega (arith, p.0, r.order) in
        ap (λ (n : ℕ). octets_at octets n (new.to - new.from)) p.1
        ∙ (ap (λ (n : ℕ). octets_at octets old.from n) size
        ∙ (take-add (old.to - old.from) (length text) (drop old.from octets)
        ∙ (ap (λ (xs : List ℕ). take (old.to - old.from) (drop old.from octets) ++ take (length text) xs) (dropped (old.to - old.from) old.from place octets behind)
        ∙ (ap (λ (xs : List ℕ). xs ++ take (length text) (drop place octets)) (r.is (f.joined j)) ∙ ap (λ (xs : List ℕ). texts ++ xs) s.is))))
  ];
}
  where
    dropped : (n m k : ℕ) (xs : List ℕ) → m + n ≡ k → drop n (drop m xs) ≡ drop k xs
    dropped n m k xs e = drop-drop n m xs ∙ ap (λ (i : ℕ). drop i xs) e

-- ---- what was said of a source

source_in : (sources : List ℕ) (i : ℕ) → i < length sources → In (slice_index sources i) sources
source_in [] i l = absurd (omega arith)
source_in (s ∷ sources) zero l = inl refl
source_in (s ∷ sources) (suc i) l = inr (source_in sources i (omega arith))

-- two sources are different
pub apart : (sources : List ℕ) (i k : ℕ) → AreDistinct sources → i < length sources → k < length sources → (i ≡ k → ⊥) → slice_index sources i ≡ slice_index sources k → ⊥
apart [] i k d l m n e = absurd (omega arith)
apart (s ∷ sources) zero zero d l m n e = n refl
apart (s ∷ sources) zero (suc k) d l m n e = d.0 (slice_index sources k) (source_in sources k (omega arith)) e
apart (s ∷ sources) (suc i) zero d l m n e = d.0 (slice_index sources i) (source_in sources i (omega arith)) (sym e)
apart (s ∷ sources) (suc i) (suc k) d l m n e = apart sources i k d.1 (omega arith) (omega arith) (λ q. n (ap suc q)) e

-- a text more of one of them
pub runs_more : (sources : List ℕ) (source s : ℕ) (octets : List ℕ) (runs new : List Run) (run d : Run) (past : List Sent) (e : Sent) (place : ℕ) → AreDistinct sources → source < length sources → s < length sources
    → length runs ≡ length sources → e.source ≡ slice_index sources source → ((x : Run) → IsRun octets (said (slice_index sources s) past) (slice_index_or runs s x)) → (s ≡ source → StandsAt octets place e.text)
    → ((x : Run) → Follows (slice_index_or runs source x) place (length e.text) run) → new ≡ slice_set runs source run → IsRun octets (said (slice_index sources s) (e ∷ past)) (slice_index_or new s d)
runs_more sources source s octets runs new run d past e place distinct l m many name r stands follows is = elim (cases_eq s source) [
  | inl q ↦
      let own : e.source ≡ slice_index sources s = name ∙ ap (slice_index sources) (sym q) in
      let here : slice_index_or new s d ≡ run = ap (λ (xs : List Run). slice_index_or xs s d) is ∙ (ap (λ (i : ℕ). slice_index_or (slice_set runs source run) i d) q ∙ get_or-set_same runs source run d (omega (arith, many, l))) in
      let before : IsRun octets (said (slice_index sources s) past) (slice_index_or runs source d) = subst (λ (i : ℕ). IsRun octets (said (slice_index sources s) past) (slice_index_or runs i d)) q (r d) in
      let more = run_more octets (said (slice_index sources s) past) e.text (slice_index_or runs source d) run place before (stands q) (follows d) in
      subst (λ (x : Run). IsRun octets (said (slice_index sources s) (e ∷ past)) x) (sym here)
      (subst (λ (xs : List ℕ). IsRun octets xs run) (sym (own_text (slice_index sources s) (said (slice_index sources s) past) own)) more)
  | inr n ↦
      let there : slice_index_or new s d ≡ slice_index_or runs s d = ap (λ (xs : List Run). slice_index_or xs s d) is ∙ get_or-set_other runs source s run d n in
      let other : e.source ≡ slice_index sources s → ⊥ = λ q. apart sources s source distinct m l n (sym q ∙ name) in
      subst (λ (x : Run). IsRun octets (said (slice_index sources s) (e ∷ past)) x) (sym there)
      (subst (λ (xs : List ℕ). IsRun octets xs (slice_index_or runs s d)) (sym (other_text (slice_index sources s) (said (slice_index sources s) past) other)) (r d))
]
  where
    own_text : (n : ℕ) (before : List ℕ) → e.source ≡ n → before ++ (if e.source == n then e.text else []) ≡ before ++ e.text
    own_text n before q = rw (eq-eqb e.source n q) refl

    other_text : (n : ℕ) (before : List ℕ) → (e.source ≡ n → ⊥) → before ++ (if e.source == n then e.text else []) ≡ before
    other_text n before q = rw (ne_eqb e.source n q) (append-nil before)
