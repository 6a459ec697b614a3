-- Each leg is read to its end; the lowest fault, and what a mixing tells in the end.
use Rattle.std.proofs.Common.{◌≡◌, ◌<◌, ◌≤◌, ◌+◌, ℕ, zero, suc, true, false, true≢false, inl, inr, Some, None, Option, List, [], ◌∷◌, length, set, refl, ap, sym, subst, ◌∙◌, arith, length-set as set_length}
use Rattle.std.specs.Prelude.{slice_get}
use Rattle.std.proofs.lemmas.Bool.{cases_eq}
use Rattle.mixer_spec.specs.Rounds.{set_at}
use Rattle.mixer_spec.specs.Setups.{Setup}
use Rattle.mixer_spec.specs.Table.{Table, Call}
use Rattle.mixer_spec.specs.Plain.{plain}
use Rattle.mixer_spec.proofs.Lists.{nil, set_same, set_other}
use Rattle.mix_loop.specs.declared.items.TextsEnd.{TextsEnd}
use Rattle.mix_loop.specs.declared.items.TextsEnd.TheVariants.{Open, AtEnd, AtFault}
use Rattle.mix_loop.specs.declared.ports.Port.{Port}
use Rattle.mix_loop.specs.declared.turns.TurnsEnd.{TurnsEnd}
use Rattle.mix_loop.specs.declared.turns.TurnsEnd.TheVariants as turn
use Rattle.mix_loop.specs.declared.turns.MixEnd.TheVariants as mixing
use Rattle.mix_loop.specs.Items.{Gave, nothing, is_open, is_fault, fault_in}
use Rattle.mix_loop.specs.Mixers.{At}
use Rattle.mix_loop.specs.Ports.{MayCome, SameSeat, StaysAs, PortHolds, DrainedTo, Grows, hand_of}
use Rattle.mix_loop.specs.Turns.{Known, all_of, Answers, AnswersAs, GrowsAll, AllAtEnd, mixing_of, AllKnown, TurnsTo, DrainsTo, ended_at, NoFaultBelow, IsLowestAt, GaveAt, MixedAs, TellsMixing, UnlessStopped, UnlessUnsent}
use Rattle.mix_loop.proofs.Lists.{lt_or_ge, get_within}
use Rattle.mix_loop.proofs.Reaching.{known_set, back, back_may, back_all, known_on}
use Rattle.wire_spec.proofs.Plain.{funext}

-- ---- draining
module _ {F : Type 0} (kn kn' : ℕ → Known F) (i : ℕ) (y : Known F) (o : GrowsAll kn kn') (g : Grows (kn' i).gave y.gave) where
  grows_more : GrowsAll kn (set_at kn' i y)
  grows_more = record {
    goes = λ rest' may'.
        let r = g.goes (rest' i) (subst (λ (k : Known F). MayCome k.gave.ended (rest' i)) (set_same kn' i y i refl) (may' i)) in
        let q = o.goes (back rest' i r.0) (back_may kn' i y rest' may' r.0 r.1) in
        (q.0, q.1, q.2 ∙ back_all kn' i y rest' r.0 r.2);
    kept = λ j e. elim (cases_eq j i) [
      | inl same ↦
          let was = o.kept j e in
          let here : (kn' i).gave ≡ (kn j).gave = ap (λ m. (kn' m).gave) (sym same) ∙ was in
          ap (λ (k : Known F). k.gave) (set_same kn' i y j same) ∙ (g.kept (ap (λ (x : Gave F). is_open x.ended) here ∙ e) ∙ here)
      | inr other ↦ ap (λ (k : Known F). k.gave) (set_other kn' i y j other) ∙ o.kept j e
    ];
  }

module _ {I F : Type 0} (stands : I → I → Gave F → Type 0) (s : Setup) (firsts : List I) (kn : ℕ → Known F) where
  pub drains_none : (ps : List (Port I F)) → AllKnown stands s firsts ps kn → DrainsTo stands s firsts 0 kn ps
  drains_none ps known = record { kn' = kn; known = known; grows = record { goes = λ rest may. (rest, may, refl); kept = λ j e. refl }; above = λ j high. refl; closed = λ j low. absurd (omega arith) }

  pub drains_more : (i : ℕ) (ps : List (Port I F)) (p r : Port I F) → DrainsTo stands s firsts i kn ps → slice_get ps i ≡ Some p → SameSeat p r → is_open r.ended ≡ false
      → ((first : I) (gave : Gave F) → PortHolds stands i first p gave → DrainedTo stands i first gave r) → DrainsTo stands s firsts (i + 1) kn (set ps i r)
  drains_more i ps p r o at same closed d =
      let low = get_within ps i p at in
      let x = o.kn' i in
      let k = o.known i p at in
      let g = d k.first x.gave k.holds in
      let y : Known F = record { gave = g.gave'; hand = hand_of r; seat = x.seat } in
      let known = known_on stands s firsts i p r x k g.gave' same g.holds in
      let shut : is_open y.gave.ended ≡ false = ap is_open (sym g.holds.ended) ∙ closed in
      let still : (j : ℕ) → (j ≡ i → ⊥) → j < i + 1 → j < i = λ j other less. omega (arith, other, less) in
      record {
        kn' = set_at o.kn' i y;
        known = known_set stands s firsts ps o.kn' i r y o.known low known;
        grows = grows_more kn o.kn' i y o.grows g.grows;
        above = λ j high.
            let more : length ps ≤ j = (let e = set_length ps i r in omega (arith, e, high)) in
            set_other o.kn' i y j (λ e. absurd (omega (arith, e, more, low))) ∙ o.above j more;
        closed = λ j less. elim (cases_eq j i) [
          | inl here ↦ ap (λ (z : Known F). is_open z.gave.ended) (set_same o.kn' i y j here) ∙ shut
          | inr other ↦ ap (λ (z : Known F). is_open z.gave.ended) (set_other o.kn' i y j other) ∙ o.closed j (still j other less)
        ];
      }

-- ---- the lowest fault
module _ {I F : Type 0} where
  pub ended_get : (ps : List (Port I F)) (i : ℕ) (p : Port I F) → slice_get ps i ≡ Some p → ended_at ps i ≡ p.ended
  ended_get [] i p e = absurd (cc e)
  ended_get (q ∷ ps) zero p e = let same : q ≡ p = cc e in ap (λ (y : Port I F). y.ended) same
  ended_get (q ∷ ps) (suc i) p e = ended_get ps i p e

  some_at : (ps : List (Port I F)) (i : ℕ) → i < length ps → (p : Port I F) × (slice_get ps i ≡ Some p)
  some_at [] i low = absurd (omega arith)
  some_at (q ∷ ps) zero low = (q, refl)
  some_at (q ∷ ps) (suc i) low = some_at ps i (omega arith)

some_fault : {F : Type 0} (e : TextsEnd F) (f : F) → fault_in e ≡ Some f → e ≡ AtFault f
some_fault Open f q = absurd (cc q)
some_fault AtEnd f q = absurd (cc q)
some_fault (AtFault g) f q = ap AtFault (cc q)

none_fault : {F : Type 0} (e : TextsEnd F) → fault_in e ≡ None → is_fault e ≡ false
none_fault Open q = refl
none_fault AtEnd q = refl
none_fault (AtFault g) q = absurd (cc q)

at_end : {F : Type 0} (e : TextsEnd F) → is_open e ≡ false → is_fault e ≡ false → e ≡ AtEnd
at_end Open o f = absurd (true≢false o)
at_end AtEnd o f = refl
at_end (AtFault g) o f = absurd (true≢false f)

fault_closed : {F : Type 0} (e : TextsEnd F) → is_fault e ≡ true → is_open e ≡ false
fault_closed Open f = absurd (true≢false (sym f))
fault_closed AtEnd f = refl
fault_closed (AtFault g) f = refl

module _ {I F : Type 0} (ps : List (Port I F)) where
  pub lowest_none : NoFaultBelow 0 ps
  lowest_none j less = absurd (omega arith)

  pub lowest_more : (i : ℕ) → NoFaultBelow i ps → fault_in (ended_at ps i) ≡ None → NoFaultBelow (i + 1) ps
  lowest_more i none e j less = elim (cases_eq j i) [
    | inl q ↦ ap (λ m. is_fault (ended_at ps m)) q ∙ none_fault (ended_at ps i) e
    | inr n ↦ none j (omega (arith, n))
  ]

  pub lowest_one : (i : ℕ) (f : F) → NoFaultBelow i ps → i < length ps → fault_in (ended_at ps i) ≡ Some f → IsLowestAt ps i f
  lowest_one i f none low e = record { below = low; is = some_fault (ended_at ps i) f e; lowest = none }

-- ---- in the end
module _ {I F M T : Type 0} (stands : I → I → Gave F → Type 0) (mixes : M → Setup → List Call → Type 0) (s : Setup) (firsts : List I) (tick turns : ℕ)
    (t : TurnsEnd T) (ps qs : List (Port I F)) (m : M) (o : TurnsTo stands mixes s firsts tick turns t ps m) (same_length : length qs ≡ length ps) (d : DrainsTo stands s firsts (length qs) o.kn qs) where
  abbrev gave : ℕ → Gave F
  gave j = (d.kn' j).gave

  legs : s.legs ≡ length qs
  legs = o.legs ∙ sym same_length

  closed : (j : ℕ) → j < s.legs → is_open (gave j).ended ≡ false
  closed j low = d.closed j (let e = legs in omega (arith, e, low))

  ended_is : (j : ℕ) → j < s.legs → ended_at qs j ≡ (gave j).ended
  ended_is j low =
      let r = some_at qs j (let e = legs in omega (arith, e, low)) in
      ended_get qs j r.0 r.1 ∙ (d.known j r.0 r.1).holds.ended

  above : (j : ℕ) → s.legs ≤ j → gave j ≡ nothing
  above j high = ap (λ (k : Known F). k.gave) (d.above j (let e = legs in omega (arith, e, high)) ∙ o.above j high)

  all_gave : (j : ℕ) (p : Port I F) → slice_get qs j ≡ Some p → j < s.legs → GaveAt stands firsts j p (gave j)
  all_gave j p e low = let k = d.known j p e in record { first = k.first; of = k.of; whole = k.holds.whole; gives = k.holds.gives; is = k.holds.is; closed = closed j low }

  at_end_below : (n : ℕ) → n ≤ s.legs → NoFaultBelow n qs → AllAtEnd n gave
  at_end_below n few none j low = at_end (gave j).ended (closed j (omega arith)) (ap is_fault (sym (ended_is j (omega arith))) ∙ none j low)

  answers_all : (a : Option Table) → Answers s tick turns o.kn a → plain s tick turns (λ j. (gave j).chunks) ≡ a
  answers_all a w =
      let r = d.grows.goes (λ j. []) (λ j e. refl) in
      ap (plain s tick turns) (sym (funext (all_of d.kn' (λ j. [])) (λ j. (gave j).chunks) (λ j. nil (gave j).chunks)) ∙ sym r.2) ∙ w.goes r.0 r.1

  legs_gave : (j : ℕ) (p : Port I F) → slice_get qs j ≡ Some p → GaveAt stands firsts j p (gave j)
  legs_gave j p e = all_gave j p e (let l = legs in let w = get_within qs j p e in omega (arith, l, w))

  all_stay : (j : ℕ) (p : Port I F) → slice_get qs j ≡ Some p → StaysAs s j p
  all_stay j p e = (d.known j p e).stays

  pub faulted_tells : (leg : ℕ) (fault : F) → IsLowestAt qs leg fault → MixedAs {T = T} stands mixes s firsts tick turns (mixing.Faulted leg fault) qs m
  faulted_tells leg fault l =
      let below : leg < s.legs = (let e = legs in let b = l.below in omega (arith, e, b)) in
      record {
        gave = gave;
        table = o.table;
        legs = legs_gave;
        above = above;
        stays = all_stay;
        mixed = tt;
        tells = record { below = below; is = sym (ended_is leg below) ∙ l.is; lowest = at_end_below leg (omega (arith, below)) l.lowest };
      }

  no_fault : NoFaultBelow (length qs) qs → (j : ℕ) → is_fault (o.kn j).gave.ended ≡ true → ⊥
  no_fault none j f =
      let shut = fault_closed (o.kn j).gave.ended f in
      let same : (gave j).ended ≡ (o.kn j).gave.ended = ap (λ (x : Gave F). x.ended) (d.grows.kept j shut) in
      elim (lt_or_ge j s.legs) [
        | inl low ↦ absurd (true≢false (sym f ∙ (ap is_fault (sym same) ∙ (ap is_fault (sym (ended_is j low)) ∙ none j (let e = legs in omega (arith, e, low))))))
        | inr high ↦ absurd (true≢false (sym f ∙ ap (λ (k : Known F). is_fault k.gave.ended) (o.above j high)))
      ]

  module _ (none : NoFaultBelow (length qs) qs) where
    all_end : AllAtEnd s.legs gave
    all_end = at_end_below s.legs (omega arith) (λ j low. none j (let e = legs in omega (arith, e, low)))

    tells_all : (x : TurnsEnd T) → t ≡ x → UnlessUnsent {F = F} (mixing_of x) (At mixes m s o.table) → TellsMixing (mixing_of x) s tick turns gave o.table → MixedAs stands mixes s firsts tick turns (mixing_of x) qs m
    tells_all x e mixed tells = record { gave = gave; table = o.table; legs = legs_gave; above = above; stays = all_stay; mixed = mixed; tells = tells }

    told : (x : TurnsEnd T) → t ≡ x → AnswersAs x s tick turns o.kn o.table
    told x e = subst (λ (x : TurnsEnd T). AnswersAs x s tick turns o.kn o.table) e o.answers

    at_table : (x : TurnsEnd T) → t ≡ x → UnlessStopped x (At mixes m s o.table)
    at_table x e = subst (λ (x : TurnsEnd T). UnlessStopped x (At mixes m s o.table)) e o.mixed

    pub end_tells : (x : TurnsEnd T) → t ≡ x → MixedAs stands mixes s firsts tick turns (mixing_of x) qs m
    end_tells turn.Over e = tells_all turn.Over e (at_table turn.Over e) (answers_all (Some o.table) (told turn.Over e), all_end)
    end_tells turn.TooLong e = tells_all turn.TooLong e (at_table turn.TooLong e) (answers_all None (told turn.TooLong e), all_end)
    end_tells (turn.Stopped why) e = tells_all (turn.Stopped why) e tt tt
    end_tells turn.Faulted e = let h = told turn.Faulted e in absurd (no_fault none h.0 h.1)
