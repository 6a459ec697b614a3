-- The inputs of legs, opened one by one and handed back.
use Rattle.std.proofs.Common.{◌≡◌, ◌≢◌, ℕ, zero, suc, ◌+◌, ◌<◌, ◌≤◌, inl, inr, Option, Some, List, [], ◌∷◌, ◌++◌, get_or, length, refl, ap, subst, sym, ◌∙◌, arith}
use Rattle.std.specs.Prelude.{IsSome, slice_get}
use Rattle.std.proofs.lemmas.Bool.{cases_lt}
use Rattle.std.proofs.lemmas.Option.{slice_get_read}
use Rattle.file_spec.specs.declared.conference_lines.LegLine.{LegLine}
use Rattle.rtt_io.specs.Counts.{Rose, counted, last_count}
use Rattle.leg.specs.declared.inlets.LegInlet.{LegInlet}
use Rattle.rtt_mix.specs.declared.hearings.LegHearing.{LegHearing}
use Rattle.rtt_mix.specs.declared.results.MixFault.{MixFault}
use Rattle.rtt_mix.specs.declared.results.MixFault.TheVariants.{Open, Dump, TooLong, NoMemory}
use Rattle.mixer_spec.specs.Setups.{leg_at}
use Rattle.command_spec.specs.Mixing.{input_at}
use Rattle.rtt_mix.specs.Mixes.{IsFirst}
use Rattle.rtt_mix.specs.Opened.{AllOpened, AllOver, IsNotOpened, IsOpened, IsOver, OpeningIsRefused, LeavesCount}
use Rattle.stream_spec.proofs.Plain.{get_push as pushed, get_at as is_there}

-- a count of faults that rose, behind others
pub rose_behind : (before between after faults : ℕ) → before ≤ between → after ≡ counted between faults → Rose 0 faults → Rose before after
rose_behind before between after faults l e (inl r) = elim (cases_lt (between + faults) last_count) [ inl lt ↦ inl (omega arith) | inr ge ↦ inr (omega arith) ]
rose_behind before between after faults l e (inr r) = inr (omega arith)

-- and one that rose stays risen
pub rose_on : (before after later : ℕ) → before ≤ after → after ≤ later → Rose before after → Rose before later
rose_on before after later l m (inl r) = inl (omega arith)
rose_on before after later l m (inr r) = elim (cases_lt last_count later) [ inl lt ↦ inl (omega arith) | inr ge ↦ inr (omega arith) ]

-- a source that leaves the count of this name was handed back
pub left_by : {S : Type 0} (faults : S → ℕ) (name_of : S → List ℕ) (contents contents_now : List ℕ → Option (List ℕ)) (before after : List ℕ → ℕ) (s : S) (n : List ℕ)
    → ((m : List ℕ) → contents_now m ≡ contents m) → (faults s ≡ 0 → (m : List ℕ) → after m ≡ before m) → (IsSome (contents_now (name_of s)) → (m : List ℕ) → m ≢ name_of s → after m ≡ before m)
    → LeavesCount faults name_of contents n s → after n ≡ before n
left_by faults name_of contents contents_now before after s n same calm other (inl z) = calm z n
left_by faults name_of contents contents_now before after s n same calm other (inr r) = other (subst (λ (o : Option (List ℕ)). IsSome o) (sym (same (name_of s))) r.1) n r.0

module _ {S : Type 0} where
  -- what lies under a name is what lay there before
  opened_before : (tells : Type 0) (left : S → List ℕ) (faults : S → ℕ) (name_of : S → List ℕ) (now before : List ℕ → Option (List ℕ)) (hearing : LegHearing) (limit : ℕ) (leg : LegLine) (p : LegInlet S)
      → (tells → (n : List ℕ) → now n ≡ before n) → IsOpened tells left faults name_of now hearing limit leg p → IsOpened tells left faults name_of before hearing limit leg p
  opened_before tells left faults name_of now before hearing limit leg p same h = record {
    not_over = h.not_over;
    named = h.named;
    fresh = h.fresh;
    told = λ t. let r = h.told t in (r.0, sym (same t leg.input) ∙ r.1, r.2);
  }

  -- one more leg
  pub opened_more : (tells : Type 0) (left : S → List ℕ) (faults : S → ℕ) (name_of : S → List ℕ) (now before : List ℕ → Option (List ℕ)) (hearing : LegHearing) (limit j : ℕ) (legs : List LegLine) (leg : LegLine) (ps : List (LegInlet S)) (p : LegInlet S)
      → (tells → (n : List ℕ) → now n ≡ before n) → AllOpened tells left faults name_of before hearing limit legs ps → length ps ≡ j → leg_at legs j ≡ Some leg → IsOpened tells left faults name_of now hearing limit leg p
      → AllOpened tells left faults name_of before hearing limit legs (ps ++ p ∷ [])
  opened_more tells left faults name_of now before hearing limit j legs leg ps p same h l g o = λ k x e. elim (pushed ps p k x e) [
    | inl f ↦ h k x f
    | inr q ↦
        let at : k ≡ j = q.0 ∙ l in (
          leg,
          ap (λ (i : ℕ). leg_at legs i) at ∙ g,
          subst (λ (y : LegInlet S). IsOpened tells left faults name_of before hearing limit leg y) (sym q.1) (opened_before tells left faults name_of now before hearing limit leg p same o),
        )
  ]

  -- one more over its input
  pub over_more : (tells : Type 0) (left : S → List ℕ) (hearing : LegHearing) (limit j : ℕ) (legs : List LegLine) (leg : LegLine) (inputs : List (List ℕ)) (octets : List ℕ) (ps : List (LegInlet S)) (p : LegInlet S)
      → AllOver tells left hearing limit legs inputs ps → length ps ≡ j → leg_at legs j ≡ Some leg → octets ≡ input_at inputs j → IsOver tells left hearing limit leg octets p
      → AllOver tells left hearing limit legs inputs (ps ++ p ∷ [])
  over_more tells left hearing limit j legs leg inputs octets ps p h l g is o = λ k x e. elim (pushed ps p k x e) [
    | inl f ↦ h k x f
    | inr q ↦
        let at : k ≡ j = q.0 ∙ l in
        let here : IsOver tells left hearing limit leg (input_at inputs j) p = subst (λ (os : List ℕ). IsOver tells left hearing limit leg os p) is o in (
          leg,
          ap (λ (i : ℕ). leg_at legs i) at ∙ g,
          subst (λ (i : ℕ). IsOver tells left hearing limit leg (input_at inputs i) x) (sym at)
              (subst (λ (y : LegInlet S). IsOver tells left hearing limit leg (input_at inputs j) y) (sym q.1) here),
        )
  ]

  -- the leg behind these was refused
  pub not_opened : (tells : Type 0) (left : S → List ℕ) (faults : S → ℕ) (name_of : S → List ℕ) (contents : List ℕ → Option (List ℕ)) (hearing : LegHearing) (limit j : ℕ) (legs : List LegLine) (leg : LegLine) (ps : List (LegInlet S))
      (before now after last : List ℕ → ℕ) (fault : MixFault) → AllOpened tells left faults name_of contents hearing limit legs ps → length ps ≡ j → leg_at legs j ≡ Some leg → ((n : List ℕ) → now n ≡ before n) → ((n : List ℕ) → last n ≡ after n)
      → OpeningIsRefused now after j leg fault → IsNotOpened tells contents before last legs fault
  not_opened tells left faults name_of contents hearing limit j legs leg ps before now after last (Open k) h l g b a r = (
    leg,
    ap (λ (i : ℕ). leg_at legs i) r.0 ∙ g,
    subst (λ (x : ℕ). Rose x (last leg.input)) (b leg.input) (subst (λ (x : ℕ). Rose (now leg.input) x) (sym (a leg.input)) r.1),
    λ t i x u e.
        let p = is_there ps i (omega (arith, u, r.0, l)) in
        let o = h i p.0 p.1 in
        let same : o.0 ≡ x = cc (o.1, e) in
        subst (λ (y : LegLine). IsSome (contents y.input)) same (let w = o.2.told t in subst (λ (z : Option (List ℕ)). IsSome z) (sym w.1) refl),
  )
  not_opened tells left faults name_of contents hearing limit j legs leg ps before now after last (Dump k fault) h l g b a r = r
  not_opened tells left faults name_of contents hearing limit j legs leg ps before now after last TooLong h l g b a r = r
  not_opened tells left faults name_of contents hearing limit j legs leg ps before now after last NoMemory h l g b a r = r

-- the leg k can't be opened, and is the first; counts at first, before its call, behind it and last
pub first_here : (tells : Type 0) (contents contents_now : List ℕ → Option (List ℕ)) (legs : List LegLine) (k : ℕ) (leg : LegLine) (before now after last : List ℕ → ℕ)
    → leg_at legs k ≡ Some leg → (tells → (n : List ℕ) → contents_now n ≡ contents n)
    → (tells → IsSome (contents_now leg.input) → (n : List ℕ) → n ≢ leg.input → after n ≡ now n)
    → ((n : List ℕ) → now n ≡ before n) → ((n : List ℕ) → last n ≡ after n) → IsFirst tells contents legs before last (Open k)
first_here tells contents contents_now legs k leg before now after last g same other b a = λ t line at some n differs.
    let is : leg ≡ line = cc (g, at) in
    let there : IsSome (contents_now leg.input) = subst (λ (o : Option (List ℕ)). IsSome o) (sym (same t leg.input)) (subst (λ (l : LegLine). IsSome (contents l.input)) (sym is) some) in
    a n ∙ (other t there n (λ e. differs (e ∙ ap (λ (l : LegLine). l.input) is)) ∙ b n)

pub is_first : (tells : Type 0) (contents contents_now : List ℕ → Option (List ℕ)) (legs : List LegLine) (j : ℕ) (leg : LegLine) (before now after last : List ℕ → ℕ) (fault : MixFault)
    → leg_at legs j ≡ Some leg → OpeningIsRefused now after j leg fault → (tells → (n : List ℕ) → contents_now n ≡ contents n)
    → (tells → IsSome (contents_now leg.input) → (n : List ℕ) → n ≢ leg.input → after n ≡ now n)
    → ((n : List ℕ) → now n ≡ before n) → ((n : List ℕ) → last n ≡ after n) → IsFirst tells contents legs before last fault
is_first tells contents contents_now legs j leg before now after last (Open k) g r same other b a =
    first_here tells contents contents_now legs k leg before now after last (ap (λ (i : ℕ). leg_at legs i) r.0 ∙ g) same other b a
is_first tells contents contents_now legs j leg before now after last (Dump k fault) g r same other b a = absurd r
is_first tells contents contents_now legs j leg before now after last TooLong g r same other b a = absurd r
is_first tells contents contents_now legs j leg before now after last NoMemory g r same other b a = tt

-- the leg with this number
pub leg_got : (legs : List LegLine) (k : ℕ) → leg_at legs k ≡ slice_get legs k
leg_got [] k = refl
leg_got (l ∷ legs) zero = refl
leg_got (l ∷ legs) (suc k) = leg_got legs k

-- a leg that is read by its number
pub leg_read_at : (legs : List LegLine) (k : ℕ) (leg : LegLine) → k < length legs → leg ≡ get_or legs k leg → leg_at legs k ≡ Some leg
leg_read_at legs k leg low is = leg_got legs k ∙ slice_get_read legs (length legs) k leg refl low is
