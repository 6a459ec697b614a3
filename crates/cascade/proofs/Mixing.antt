-- A conference is mixed over splits and the inputs that were opened.
use Rattle.std.proofs.Common.{◌≡◌, ℕ, zero, suc, ◌+◌, ◌<◌, ◌⊎◌, Bool, true, false, cond, Option, Some, List, [], ◌∷◌, length, Result, Ok, Err, refl, ap, sym, subst, ◌∙◌, inl, inr, arith}
use Rattle.std.specs.Prelude.{IsSome}
use Rattle.rtt_io.specs.Counts.{Rose}
use Rattle.rtpdump_io.specs.declared.items.DumpFault.{DumpFault}
use Rattle.rtpdump_io.specs.Reading.{is_of_source}
use Rattle.file_spec.specs.declared.conference_lines.LegLine.{LegLine}
use Rattle.file_spec.specs.Conference.{Conference}
use Rattle.mixer_spec.specs.Setups.{leg_at, ssrc_of, is_long}
use Rattle.mixer_spec.specs.Bridged.{input_limit}
use Rattle.command_spec.specs.Work.{Contents}
use Rattle.command_spec.specs.Mixing.{input_at}
use Rattle.command_spec.specs.Cascading.{is_on_trunk}
use Rattle.receiver.specs.Cuts.{cut_within}
use Rattle.leg.specs.Gives.{Stands, LegPast}
use Rattle.mix_loop.proofs.Lists.{lt_or_ge}
use Rattle.leg.specs.declared.inlets.LegInlet.{LegInlet}
use Rattle.leg.specs.Answers.{AllAsked, AllNew, read_well, source_in}
use Rattle.mixer_posts.specs.Streams.{payload_types_of}
use Rattle.cascade.specs.declared.trunk_sources.TrunkSource.{TrunkSource}
use Rattle.cascade.specs.declared.trunk_sources.TrunkSource.TheVariants.{Split, Below}
use Rattle.cascade.specs.TrunkSources.{below, faults_in, left_in, name_in}
use Rattle.rtt_mix.specs.declared.hearings.LegHearing.{LegHearing}
use Rattle.rtt_mix.specs.declared.results.MixFault.{MixFault}
use Rattle.rtt_mix.specs.declared.results.MixFault.TheVariants.{Open, Dump, TooLong, NoMemory}
use Rattle.rtt_mix.specs.declared.results.Mixed.{Mixed}
use Rattle.rtt_mix.specs.Answered.{AreKept, IsOfLegs, MixesAsked, MixesTo, WasReadWell, asked_of}
use Rattle.rtt_mix.specs.Opened.{hearing_of}
use Rattle.rtt_mix.proofs.Handing.{all_calm, by_reading, leg_before, never_rose as no_rise}
use Rattle.cascade.specs.Texts.{AllOwnLie, text_of, texts_of}
use Rattle.cascade.specs.Feeding.{AllFed, AreCalm, EachSource, IsNotOpened, LeavesCount, RisesFor, source_name}
use Rattle.cascade.specs.Mixes.{CountsKept, IsCaused, MixesFed}
use Rattle.cascade.proofs.Chain.{length_texts}
use Rattle.stream_spec.proofs.Plain.{get_at as is_there}

pub text_at : (held : Contents) (legs : List LegLine) (recordings : List (List ℕ)) (j : ℕ) (leg : LegLine) → leg_at legs j ≡ Some leg
    → input_at (texts_of held legs recordings) j ≡ text_of held (input_at recordings j) leg
text_at held [] recordings j leg at = absurd (cc at)
text_at held (l ∷ legs) [] zero leg at = let same : l ≡ leg = cc at in ap (text_of held []) same
text_at held (l ∷ legs) [] (suc j) leg at = text_at held legs [] j leg at
text_at held (l ∷ legs) (r ∷ rs) zero leg at = let same : l ≡ leg = cc at in ap (text_of held r) same
text_at held (l ∷ legs) (r ∷ rs) (suc j) leg at = text_at held legs rs j leg at

pub decide : (b : Bool) → (b ≡ true) ⊎ (b ≡ false)
decide true = inl refl
decide false = inr refl

below_well : (j leg : ℕ) (fault : DumpFault) → j < leg → j < read_well leg fault
below_well j leg fault low = go (is_of_source fault.kind)
  where
    go : (b : Bool) → j < cond b leg (leg + 1)
    go true = low
    go false = omega (arith, low)

-- no reading of a split fails
split_calm : {S : Type 0} (faults : S → ℕ) (name : S → List ℕ) (s : TrunkSource S) → name_in name s ≡ [] → faults_in faults s ≡ 0
split_calm faults name (Split own) e = refl
split_calm faults name (Below b) e = absurd (cc e)

module _ {S : Type 0} (Told Tells : Type 0) (left : S → List ℕ) (faults : S → ℕ) (name : S → List ℕ) (held : Contents) (c : Conference) (recordings : List (List ℕ)) (lines : List LegLine) (hearing : LegHearing) (limit : ℕ) (inlets : List (LegInlet (TrunkSource S)))
    (are : lines ≡ c.legs) (heard : hearing ≡ hearing_of c) (fits : limit ≡ input_limit c) (count : length inlets ≡ length lines)
    (fed_of : AllFed Told Tells (left_in left) (faults_in faults) (name_in name) held hearing limit lines recordings inlets) where
  many : length inlets ≡ length c.legs
  many = count ∙ ap (λ (xs : List LegLine). length xs) are

  fed : AllFed Told Tells (left_in left) (faults_in faults) (name_in name) held (hearing_of c) (input_limit c) c.legs recordings inlets
  fed =
      subst (λ h. AllFed Told Tells (left_in left) (faults_in faults) (name_in name) held h (input_limit c) c.legs recordings inlets) heard
      (subst (λ l. AllFed Told Tells (left_in left) (faults_in faults) (name_in name) held hearing l c.legs recordings inlets) fits
      (subst (λ (xs : List LegLine). AllFed Told Tells (left_in left) (faults_in faults) (name_in name) held hearing limit xs recordings inlets) are fed_of))

  abbrev pub texts : List (List ℕ)
  texts = texts_of held c.legs recordings

  pub are_new : AllNew inlets
  are_new = λ j i at. (fed j i at).2.not_over

  all_asked : Told → Tells → AllAsked (left_in left) (asked_of c texts) inlets
  all_asked told tells = λ j p at.
      let o = fed j p at in
      let past : Option LegLine → List ℕ → LegPast = λ leg octets. record {
        settings = record { ssrc = ssrc_of leg; payload_types = payload_types_of leg; wait = c.wait; long = is_long leg; cut = cut_within c.mtu };
        limit = input_limit c;
        octets = octets;
        gave = [];
      } in
      subst (λ leg. Stands (left_in left) p.leg (past leg (input_at texts j))) (sym o.1)
      (subst (λ octets. Stands (left_in left) p.leg (past (Some o.0) octets)) (sym (text_at held c.legs recordings j o.0 o.1)) (o.2.told told tells))

  own_lie : Told → AllOwnLie held c.legs
  own_lie told = λ k leg less at off.
      let p = is_there inlets k (omega (arith, less, many)) in
      let o = fed k p.0 p.1 in
      let same : o.0 ≡ leg = let a = o.1 in cc (a, at) in
      subst (λ (x : LegLine). IsSome (held x.input)) same (o.2.source.lies told (subst (λ (x : LegLine). is_on_trunk x ≡ false) (sym same) off))

  module _ (result : Result Mixed MixFault) (of : IsOfLegs (length c.legs) result) where
    pub mixes_fed : (Tells → MixesAsked (left_in left) c inlets result) → Told → Tells → MixesFed held recordings c result
    mixes_fed mixes told tells = go result of (mixes tells texts (length_texts held c.legs recordings) (all_asked told tells))
      where
        go : (r : Result Mixed MixFault) → IsOfLegs (length c.legs) r → MixesTo c texts r → MixesFed held recordings c r
        go (Ok mixed) of m = (own_lie told, m)
        go (Err (Open leg)) of m = absurd of
        go (Err (Dump leg fault)) of m = (own_lie told, m)
        go (Err TooLong) of m = (own_lie told, m)
        go (Err NoMemory) of m = tt

    -- ---- by the legs as they came back, the counts before and those after they were handed back
    module _ (objects objects_then : List ℕ → ℕ) (after : List (LegInlet (TrunkSource S))) (same : length after ≡ length inlets) (kept : AreKept (faults_in faults) (name_in name) result inlets after) where
      pub caused : (Call : List ℕ → Type 0) → EachSource (RisesFor (faults_in faults) (name_in name) objects objects_then) after
          → IsCaused Call (λ n. Rose (objects n) (objects_then n)) c.legs result
      caused Call rose = go result of kept
        where
          go : (r : Result Mixed MixFault) → IsOfLegs (length c.legs) r → AreKept (faults_in faults) (name_in name) r inlets after → IsCaused Call (λ n. Rose (objects n) (objects_then n)) c.legs r
          go (Ok mixed) of kept = tt
          go (Err (Open leg)) of kept = absurd of
          go (Err TooLong) of kept = tt
          go (Err NoMemory) of kept = tt
          go (Err (Dump leg fault)) of kept =
              let p = is_there inlets leg (omega (arith, of, many)) in
              let q = is_there after leg (omega (arith, of, many, same)) in
              let o = fed leg p.0 p.1 in
              let here = kept leg p.0 q.0 p.1 q.1 in
              let named : name_in name (source_in q.0) ≡ source_name o.0 = here.same_name ∙ o.2.source.named in (
                o.0,
                o.1,
                λ source.
                    let risen = here.read fault refl source in
                    elim (decide (is_on_trunk o.0)) [
                      | inl on ↦ absurd (no_rise (faults_in faults (source_in p.0)) (faults_in faults (source_in q.0)) o.2.source.fresh
                          (split_calm faults name (source_in q.0) (named ∙ ap (λ b. cond b [] (below o.0.input)) on)) risen)
                      | inr off ↦ (
                        off,
                        rose leg q.0 q.1 o.0.input (named ∙ ap (λ b. cond b [] (below o.0.input)) off)
                            (subst (λ n. Rose n (faults_in faults (source_in q.0))) o.2.source.fresh risen),
                      )
                    ],
              )

      pub counts_kept : (held_then : Contents) → (Told → (n : List ℕ) → held_then n ≡ held n) → (AreCalm (faults_in faults) after → (n : List ℕ) → objects_then n ≡ objects n)
          → (Told → (n : List ℕ) → EachSource (LeavesCount (faults_in faults) (name_in name) held_then n) after → objects_then n ≡ objects n) → CountsKept Told c.legs objects objects_then result
      counts_kept held_then lie calm leaves =
          by_reading (length c.legs) (λ (r : Result Mixed MixFault). CountsKept Told c.legs objects objects_then r) ((n : List ℕ) → objects_then n ≡ objects n) result of
          (λ well. calm (all_calm (faults_in faults) (name_in name) inlets after result same kept (λ j p at. (fed j p at).2.source.fresh) well)) (λ mixed same_counts. same_counts) (λ same_counts. same_counts) tt
          (λ leg fault is told n none. leaves told n (λ j q at.
          let p = leg_before inlets after same j q at in
          let o = fed j p.0 p.1 in
          let here = kept j p.0 q p.1 at in
          let named : name_in name (source_in q) ≡ source_name o.0 = here.same_name ∙ o.2.source.named in
          elim (lt_or_ge j leg) [
            | inl low ↦ inl (here.calm (subst (λ (r : Result Mixed MixFault). WasReadWell r j) (sym is) (below_well j leg fault low)) ∙ o.2.source.fresh)
            | inr high ↦ elim (decide (is_on_trunk o.0)) [
              | inl on ↦ inl (split_calm faults name (source_in q) (named ∙ ap (λ b. cond b [] (below o.0.input)) on))
              | inr off ↦ inr (
                o.0.input,
                named ∙ ap (λ b. cond b [] (below o.0.input)) off,
                (λ e. none j o.0 high o.1 off (sym e)),
                subst (λ (x : Option (List ℕ)). IsSome x) (sym (lie told o.0.input)) (o.2.source.lies told off),
              )
            ]
          ]))

-- not all legs were opened
pub fed_none : (Told : Type 0) (held : Contents) (own own_then : List ℕ → ℕ) (recordings : List (List ℕ)) (c : Conference) (fault : MixFault) → IsNotOpened Told held own own_then c.legs fault
    → Told → MixesFed held recordings c (Err fault)
fed_none Told held own own_then recordings c (Open k) r told = r.3 told
fed_none Told held own own_then recordings c (Dump k fault) r told = absurd r
fed_none Told held own own_then recordings c TooLong r told = absurd r
fed_none Told held own own_then recordings c NoMemory r told = tt

pub caused_none : (Told : Type 0) (held : Contents) (own own_then : List ℕ → ℕ) (Object : List ℕ → Type 0) (legs : List LegLine) (fault : MixFault) → IsNotOpened Told held own own_then legs fault
    → IsCaused (λ n. Rose (own n) (own_then n)) Object legs (Err fault)
caused_none Told held own own_then Object legs (Open k) r = (r.0, r.1, r.2)
caused_none Told held own own_then Object legs (Dump k fault) r = absurd r
caused_none Told held own own_then Object legs TooLong r = absurd r
caused_none Told held own own_then Object legs NoMemory r = tt

pub kept_none : (Told : Type 0) (held : Contents) (own own_then objects objects_then : List ℕ → ℕ) (legs : List LegLine) (fault : MixFault) → IsNotOpened Told held own own_then legs fault
    → ((n : List ℕ) → objects_then n ≡ objects n) → CountsKept Told legs objects objects_then (Err fault)
kept_none Told held own own_then objects objects_then legs (Open k) r same = same
kept_none Told held own own_then objects objects_then legs (Dump k fault) r same = absurd r
kept_none Told held own own_then objects objects_then legs TooLong r same = absurd r
kept_none Told held own own_then objects objects_then legs NoMemory r same = tt
