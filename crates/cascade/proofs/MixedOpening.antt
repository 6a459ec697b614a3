-- Legs over splits and inputs, opened one by one and handed back.
use Rattle.std.proofs.Common.{◌≡◌, ℕ, zero, suc, ◌≤◌, inl, inr, false, cond, Option, Some, List, [], ◌∷◌, ◌++◌, length, ap, subst, sym, ◌∙◌, arith}
use Rattle.std.specs.Prelude.{IsSome, slice_get, unwrap_or}
use Rattle.file_spec.specs.declared.conference_lines.LegLine.{LegLine}
use Rattle.rtt_io.specs.Counts.{Rose}
use Rattle.leg.specs.Gives.{Stands, begins}
use Rattle.leg.specs.declared.inlets.LegInlet.{LegInlet}
use Rattle.mixer_spec.specs.Setups.{leg_at}
use Rattle.command_spec.specs.Work.{Contents}
use Rattle.command_spec.specs.Mixing.{input_at}
use Rattle.command_spec.specs.Cascading.{is_on_trunk}
use Rattle.rtt_mix.specs.declared.hearings.LegHearing.{LegHearing}
use Rattle.rtt_mix.specs.declared.results.MixFault.{MixFault}
use Rattle.rtt_mix.specs.declared.results.MixFault.TheVariants.{Open, Dump, TooLong, NoMemory}
use Rattle.rtt_mix.specs.Opened as of_inputs
use Rattle.rtt_mix.specs.Opened.{ear_of}
use Rattle.rtt_mix.proofs.Opening.{rose_behind, rose_on}
use Rattle.cascade.specs.Texts.{text_of}
use Rattle.cascade.specs.Feeding.{AddsFaults, AllFed, IsFedLeg, IsNotOpened, FeedIsRefused, LeavesCount, RisesFor}
use Rattle.stream_spec.proofs.Plain.{get_push as pushed, get_at as is_there}

-- ---- sources
-- a source that leaves the count of this name was handed back
pub left_by : {S : Type 0} (Told : Type 0) (faults : S → ℕ) (name : S → List ℕ) (held held_now : Contents) (before after : List ℕ → ℕ) (s : S) (n : List ℕ) → Told
    → ((m : List ℕ) → held_now m ≡ held m) → AddsFaults Told held_now before after (faults s) (name s) → LeavesCount faults name held n s → after n ≡ before n
left_by Told faults name held held_now before after s n told same adds (inl z) = adds.calm z n
left_by Told faults name held held_now before after s n told same adds (inr r) =
    adds.others told r.0 r.1 (subst (λ (o : Option (List ℕ)). IsSome o) (sym (same r.0)) r.3) n r.2

-- and one whose reading failed: its count rose
pub risen_by : {S : Type 0} (Told : Type 0) (faults : S → ℕ) (name : S → List ℕ) (held_now : Contents) (first before after : List ℕ → ℕ) (s : S)
    → ((n : List ℕ) → first n ≤ before n) → AddsFaults Told held_now before after (faults s) (name s) → RisesFor faults name first after s
risen_by Told faults name held_now first before after s low adds = λ own named rose.
    rose_behind (first own) (before own) (after own) (faults s) (low own) (adds.added own named) rose

pub risen_on : {S : Type 0} (faults : S → ℕ) (name : S → List ℕ) (first before after : List ℕ → ℕ) (s : S) → ((n : List ℕ) → first n ≤ before n) → ((n : List ℕ) → before n ≤ after n)
    → RisesFor faults name first before s → RisesFor faults name first after s
risen_on faults name first before after s low up past = λ own named rose. rose_on (first own) (before own) (after own) (low own) (up own) (past own named rose)

-- ---- legs
module _ {S : Type 0} (Told Tells : Type 0) (left : S → List ℕ) (faults : S → ℕ) (name : S → List ℕ) where
  -- what lies under a name is what lay there before
  fed_before : (now before : Contents) (hearing : LegHearing) (limit : ℕ) (leg : LegLine) (recording : List ℕ) (i : LegInlet S) → (Told → (n : List ℕ) → now n ≡ before n)
      → IsFedLeg Told Tells left faults name now hearing limit leg recording i → IsFedLeg Told Tells left faults name before hearing limit leg recording i
  fed_before now before hearing limit leg recording i same h =
      let text : Told → text_of now recording leg ≡ text_of before recording leg = λ told. ap (λ (o : Option (List ℕ)). cond (is_on_trunk leg) recording (unwrap_or o [])) (same told leg.input) in
      record {
        not_over = h.not_over;
        source = record {
          fresh = h.source.fresh;
          named = h.source.named;
          holds = λ told. h.source.holds told ∙ text told;
          lies = λ told off. subst (λ (o : Option (List ℕ)). IsSome o) (same told leg.input) (h.source.lies told off);
        };
        told = λ told tells. subst (λ octets. Stands left i.leg (begins (ear_of hearing leg) limit octets)) (text told) (h.told told tells);
      }

  -- one more leg
  pub fed_more : (now before : Contents) (hearing : LegHearing) (limit j : ℕ) (legs : List LegLine) (recordings : List (List ℕ)) (leg : LegLine) (recording : List ℕ) (ps : List (LegInlet S)) (p : LegInlet S)
      → (Told → (n : List ℕ) → now n ≡ before n) → AllFed Told Tells left faults name before hearing limit legs recordings ps → length ps ≡ j → leg_at legs j ≡ Some leg → recording ≡ input_at recordings j
      → IsFedLeg Told Tells left faults name now hearing limit leg recording p → AllFed Told Tells left faults name before hearing limit legs recordings (ps ++ p ∷ [])
  fed_more now before hearing limit j legs recordings leg recording ps p same h l g is o = λ k x e. elim (pushed ps p k x e) [
    | inl f ↦ h k x f
    | inr q ↦
        let at : k ≡ j = q.0 ∙ l in
        let here : IsFedLeg Told Tells left faults name before hearing limit leg (input_at recordings j) p =
        subst (λ (r : List ℕ). IsFedLeg Told Tells left faults name before hearing limit leg r p) is (fed_before now before hearing limit leg recording p same o) in (
          leg,
          ap (λ (i : ℕ). leg_at legs i) at ∙ g,
          subst (λ (i : ℕ). IsFedLeg Told Tells left faults name before hearing limit leg (input_at recordings i) x) (sym at)
              (subst (λ (y : LegInlet S). IsFedLeg Told Tells left faults name before hearing limit leg (input_at recordings j) y) (sym q.1) here),
        )
  ]

  -- the leg behind these was refused
  pub not_opened : (held : Contents) (hearing : LegHearing) (limit j : ℕ) (legs : List LegLine) (recordings : List (List ℕ)) (leg : LegLine) (ps : List (LegInlet S)) (before now after last : List ℕ → ℕ) (fault : MixFault)
      → AllFed Told Tells left faults name held hearing limit legs recordings ps → length ps ≡ j → leg_at legs j ≡ Some leg → ((n : List ℕ) → now n ≡ before n) → ((n : List ℕ) → last n ≡ after n)
      → FeedIsRefused now after j leg fault → IsNotOpened Told held before last legs fault
  not_opened held hearing limit j legs recordings leg ps before now after last (Open k) h l g b a r = (
    leg,
    ap (λ (i : ℕ). leg_at legs i) r.0 ∙ g,
    (r.1.0, subst (λ (x : ℕ). Rose x (last leg.input)) (b leg.input) (subst (λ (x : ℕ). Rose (now leg.input) x) (sym (a leg.input)) r.1.1)),
    λ t i x u e off.
        let p = is_there ps i (omega (arith, u, r.0, l)) in
        let o = h i p.0 p.1 in
        let same : o.0 ≡ x = let w = o.1 in cc (w, e) in
        subst (λ (y : LegLine). IsSome (held y.input)) same (o.2.source.lies t (subst (λ (y : LegLine). is_on_trunk y ≡ false) (sym same) off)),
  )
  not_opened held hearing limit j legs recordings leg ps before now after last (Dump k fault) h l g b a r = r
  not_opened held hearing limit j legs recordings leg ps before now after last TooLong h l g b a r = r
  not_opened held hearing limit j legs recordings leg ps before now after last NoMemory h l g b a r = r

-- it was refused as one over its input is
pub refused : (now after : List ℕ → ℕ) (j : ℕ) (leg : LegLine) (fault : MixFault) → FeedIsRefused now after j leg fault → of_inputs.OpeningIsRefused now after j leg fault
refused now after j leg (Open k) r = (r.0, r.1.1)
refused now after j leg (Dump k fault) r = absurd r
refused now after j leg TooLong r = absurd r
refused now after j leg NoMemory r = tt

-- an element that is read by its number
pub got_input : (recordings : List (List ℕ)) (j : ℕ) (recording : List ℕ) → slice_get recordings j ≡ Some recording → recording ≡ input_at recordings j
got_input [] j recording e = absurd (cc e)
got_input (r ∷ rs) zero recording e = cc e
got_input (r ∷ rs) (suc j) recording e = got_input rs j recording e
