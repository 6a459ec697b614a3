-- A conference is mixed over the inputs that were opened.
use Rattle.std.proofs.Common.{◌≡◌, ℕ, zero, suc, ◌<◌, Option, Some, None, List, [], ◌∷◌, length, Result, Ok, Err, refl, ap, sym, subst, ◌∙◌, inl, inr, arith}
use Rattle.std.specs.Prelude.{IfErr, IfOk, IsSome, OnOk, slice_get, unwrap_or}
use Rattle.std.proofs.lemmas.List.{length-map}
use Rattle.rtt_io.specs.Counts.{Rose}
use Rattle.rtpdump_io.specs.declared.items.DumpFault.{DumpFault}
use Rattle.rtpdump_io.specs.Reading.{is_of_source}
use Rattle.file_spec.specs.declared.conference_lines.LegLine.{LegLine}
use Rattle.file_spec.specs.Conference.{Conference}
use Rattle.mixer_spec.specs.Setups.{leg_at, ssrc_of, is_long}
use Rattle.mixer_spec.specs.Bridged.{input_limit}
use Rattle.command_spec.specs.Work.{Contents}
use Rattle.command_spec.specs.Mixing.{input_at}
use Rattle.receiver.specs.Cuts.{cut_within}
use Rattle.leg.specs.Gives.{Stands, LegPast, begins}
use Rattle.mix_loop.proofs.Lists.{get_within, lt_or_ge}
use Rattle.leg.specs.declared.inlets.LegInlet.{LegInlet}
use Rattle.leg.specs.Answers.{AllAsked, AllNew, read_well, source_in}
use Rattle.mixer_posts.specs.Streams.{payload_types_of}
use Rattle.rtt_mix.specs.declared.hearings.LegHearing.{LegHearing}
use Rattle.rtt_mix.specs.declared.results.MixFault.{MixFault}
use Rattle.rtt_mix.specs.declared.results.MixFault.TheVariants.{Open, Dump, TooLong, NoMemory}
use Rattle.rtt_mix.specs.declared.results.Mixed.{Mixed}
use Rattle.rtt_mix.specs.Answered.{AreKept, IsOfLegs, MixesAsked, MixesTo, NoReadFailed, WasReadWell, asked_of}
use Rattle.command_spec.specs.Inputs.{AllLie, inputs_under, octets_under}
use Rattle.rtt_mix.specs.Mixes.{IsFirst, IsMade, NoneFailed, RoseAt, Stops}
use Rattle.rtt_mix.specs.Opened.{AllOpened, AllOver, AreCalm, EachSource, IsNotOpened, LeavesCount, ear_of, hearing_of}
use Rattle.std.proofs.lemmas.Bool.{false_from_ne_true as no_fault}
use Rattle.stream_spec.proofs.Plain.{get_at as is_there}

-- ---- lists
pub input_is : (held : Contents) (legs : List LegLine) (j : ℕ) (leg : LegLine) (octets : List ℕ) → leg_at legs j ≡ Some leg → held leg.input ≡ Some octets
    → octets ≡ input_at (inputs_under held legs) j
input_is held [] j leg octets at is = absurd (cc at)
input_is held (l ∷ legs) zero leg octets at is =
    let same : l ≡ leg = cc at in sym (ap (λ (x : LegLine). octets_under held x.input) same ∙ ap (λ o. unwrap_or o []) is)
input_is held (l ∷ legs) (suc j) leg octets at is = input_is held legs j leg octets at is

pub some_of : (o : Option (List ℕ)) (octets : List ℕ) → o ≡ Some octets → IsSome o
some_of None octets e = absurd (cc e)
some_of (Some x) octets e = refl

-- ---- legs as they came back
-- the leg before of one that came back
pub leg_before : {S : Type 0} (before after : List (LegInlet S)) → length after ≡ length before → (j : ℕ) (q : LegInlet S) → slice_get after j ≡ Some q → (p : LegInlet S) × (slice_get before j ≡ Some p)
leg_before before after same j q at = let low = get_within after j q at in is_there before j (omega (arith, low, same))

-- no reading failed, where by this result none did
pub all_calm : {S : Type 0} (faults : S → ℕ) (name : S → List ℕ) (before after : List (LegInlet S)) (result : Result Mixed MixFault) → length after ≡ length before
    → AreKept faults name result before after → AreCalm faults before → ((j : ℕ) → WasReadWell result j) → AreCalm faults after
all_calm faults name before after result same kept fresh well = λ j q at. (let p = leg_before before after same j q at in (kept j p.0 q p.1 at).calm (well j) ∙ fresh j p.0 p.1)

-- By what a mixing comes to, once all inputs were opened: all were read well, or memory ran out, or a recording has a fault.
pub by_reading : (n : ℕ) (P : Result Mixed MixFault → Type 0) (Well : Type 0) (result : Result Mixed MixFault) → IsOfLegs n result → (((j : ℕ) → WasReadWell result j) → Well)
    → ((mixed : Mixed) → Well → P (Ok mixed)) → (Well → P (Err TooLong)) → P (Err NoMemory) → ((leg : ℕ) (fault : DumpFault) → result ≡ Err (Dump leg fault) → P (Err (Dump leg fault))) → P result
by_reading n P Well (Ok mixed) of well made long none dump = made mixed (well (λ j. tt))
by_reading n P Well (Err (Open leg)) of well made long none dump = absurd of
by_reading n P Well (Err (Dump leg fault)) of well made long none dump = dump leg fault refl
by_reading n P Well (Err TooLong) of well made long none dump = long (well (λ j. tt))
by_reading n P Well (Err NoMemory) of well made long none dump = none

-- ---- legs over inputs
module _ {S : Type 0} (Told : Type 0) (left : S → List ℕ) (c : Conference) (inputs : List (List ℕ)) (inlets : List (LegInlet S))
    (over : AllOver Told left (hearing_of c) (input_limit c) c.legs inputs inlets) where
  pub new_over : AllNew inlets
  new_over = λ j i at. (over j i at).2.not_over

  pub asked_over : Told → AllAsked left (asked_of c inputs) inlets
  asked_over told = λ j p at.
      let o = over j p at in
      let past : Option LegLine → LegPast = λ leg. record {
        settings = record { ssrc = ssrc_of leg; payload_types = payload_types_of leg; wait = c.wait; long = is_long leg; cut = cut_within c.mtu };
        limit = input_limit c;
        octets = input_at inputs j;
        gave = [];
      } in
      subst (λ leg. Stands left p.leg (past leg)) (sym o.1) (o.2.told told)

-- the same, as these lines and this limit are those of the conference
pub over_of : {S : Type 0} (Told : Type 0) (left : S → List ℕ) (c : Conference) (lines : List LegLine) (hearing : LegHearing) (limit : ℕ) (inputs : List (List ℕ)) (inlets : List (LegInlet S)) → lines ≡ c.legs → hearing ≡ hearing_of c → limit ≡ input_limit c
    → AllOver Told left hearing limit lines inputs inlets → AllOver Told left (hearing_of c) (input_limit c) c.legs inputs inlets
over_of Told left c lines hearing limit inputs inlets are heard fits over =
    subst (λ h. AllOver Told left h (input_limit c) c.legs inputs inlets) heard
    (subst (λ l. AllOver Told left hearing l c.legs inputs inlets) fits (subst (λ (xs : List LegLine). AllOver Told left hearing limit xs inputs inlets) are over))

module _ {S : Type 0} (Told : Type 0) (left : S → List ℕ) (faults : S → ℕ) (name : S → List ℕ) (held : Contents) (c : Conference) (lines : List LegLine) (hearing : LegHearing) (limit : ℕ) (inlets : List (LegInlet S))
    (are : lines ≡ c.legs) (heard : hearing ≡ hearing_of c) (fits : limit ≡ input_limit c) (count : length inlets ≡ length lines) (opened_of : AllOpened Told left faults name held hearing limit lines inlets) where
  many : length inlets ≡ length c.legs
  many = count ∙ ap (λ (xs : List LegLine). length xs) are

  opened : AllOpened Told left faults name held (hearing_of c) (input_limit c) c.legs inlets
  opened =
      subst (λ h. AllOpened Told left faults name held h (input_limit c) c.legs inlets) heard
      (subst (λ l. AllOpened Told left faults name held hearing l c.legs inlets) fits (subst (λ (xs : List LegLine). AllOpened Told left faults name held hearing limit xs inlets) are opened_of))

  all_over : AllOver Told left (hearing_of c) (input_limit c) c.legs (inputs_under held c.legs) inlets
  all_over = λ j p at.
      let o = opened j p at in (
        o.0,
        o.1,
        record {
          not_over = o.2.not_over;
          told = λ told. (let t = o.2.told told in
              subst (λ octets. Stands left p.leg (begins (ear_of (hearing_of c) o.0) (input_limit c) octets)) (input_is held c.legs j o.0 t.0 o.1 t.1) t.2);
        },
      )

  pub are_new : AllNew inlets
  are_new = λ j i at. (opened j i at).2.not_over

  all_asked : Told → AllAsked left (asked_of c (inputs_under held c.legs)) inlets
  all_asked = asked_over Told left c (inputs_under held c.legs) inlets all_over

  all_lie : Told → AllLie held c.legs
  all_lie told = λ k leg less at.
      let p = is_there inlets k (omega (arith, less, many)) in
      let o = opened k p.0 p.1 in
      let same : o.0 ≡ leg = let a = o.1 in cc (a, at) in
      let t = o.2.told told in
      some_of (held leg.input) t.0 (ap (λ (x : LegLine). held x.input) (sym same) ∙ t.1)

  -- ---- what is answered
  module _ (result : Result Mixed MixFault) (Tells : Type 0) (some : 0 < length lines) (shown : Told → 0 < length lines → Tells) (mixes_to : Tells → MixesAsked left c inlets result) where
    answered : Told → MixesTo c (inputs_under held c.legs) result
    answered told = mixes_to (shown told some) (inputs_under held c.legs) (length-map c.legs (λ leg. octets_under held leg.input)) (all_asked told)

    pub is_made : Told → IfOk result (IsMade held c)
    is_made told = go result (answered told)
      where
        go : (r : Result Mixed MixFault) → MixesTo c (inputs_under held c.legs) r → IfOk r (IsMade held c)
        go (Ok mixed) m = record { lie = all_lie told; makes = m.makes; sums = m.sums }
        go (Err f) m = tt

    -- ---- by the legs as they came back, the counts before and those after they were handed back
    module _ (objects objects_then : List ℕ → ℕ) (after : List (LegInlet S)) (same : length after ≡ length inlets) where
      pub stops : (Call : List ℕ → Type 0) → AreKept faults name result inlets after → IsOfLegs (length c.legs) result
          → EachSource (λ s. Rose 0 (faults s) → Rose (objects (name s)) (objects_then (name s))) after
          → IfErr result (Stops Told Call (RoseAt objects objects_then) held c)
      stops Call kept of rose = go result answered kept of
        where
          go : (r : Result Mixed MixFault) → (Told → MixesTo c (inputs_under held c.legs) r) → AreKept faults name r inlets after → IsOfLegs (length c.legs) r → IfErr r (Stops Told Call (RoseAt objects objects_then) held c)
          go (Ok mixed) m kept of = tt
          go (Err (Open leg)) m kept of = absurd of
          go (Err TooLong) m kept of = λ told. (all_lie told, m told)
          go (Err NoMemory) m kept of = tt
          go (Err (Dump leg fault)) m kept of =
              let p = is_there inlets leg (omega (arith, of, many)) in
              let q = is_there after leg (omega (arith, of, many, same)) in
              let o = opened leg p.0 p.1 in
              let kept_here = kept leg p.0 q.0 p.1 q.1 in
              let named : name (source_in q.0) ≡ o.0.input = kept_here.same_name ∙ o.2.named in (
                o.0,
                o.1,
                record {
                  lie = all_lie;
                  read = λ source.
                      subst (λ n. Rose (objects n) (objects_then n)) named
                      (rose leg q.0 q.1 (subst (λ n. Rose n (faults (source_in q.0))) o.2.fresh (kept_here.read fault refl source)));
                  lowest = λ told. (m told).0;
                  refused = λ none told. (m told).1 none;
                },
              )

      pub none_failed : (contents_then : Contents) → AreKept faults name result inlets after → IsOfLegs (length c.legs) result → (Told → (n : List ℕ) → contents_then n ≡ held n)
          → (AreCalm faults after → (n : List ℕ) → objects_then n ≡ objects n) → (Told → (n : List ℕ) → EachSource (LeavesCount faults name contents_then n) after → objects_then n ≡ objects n)
          → NoneFailed Told c.legs objects objects_then result
      none_failed contents_then kept of lie calm left =
          by_reading (length c.legs) (λ (r : Result Mixed MixFault). NoneFailed Told c.legs objects objects_then r) ((n : List ℕ) → objects_then n ≡ objects n) result of
          (λ well. calm (all_calm faults name inlets after result same kept (λ j p at. (opened j p at).2.fresh) well)) (λ mixed same_counts. same_counts) (λ same_counts. same_counts) tt
          (λ leg fault is told n none. left told n (λ j q at.
          let p = leg_before inlets after same j q at in
          let o = opened j p.0 p.1 in
          let kept_here = kept j p.0 q p.1 at in
          let named : name (source_in q) ≡ o.0.input = kept_here.same_name ∙ o.2.named in
          elim (lt_or_ge j (read_well leg fault)) [
            | inl low ↦ inl (kept_here.calm (subst (λ (r : Result Mixed MixFault). WasReadWell r j) (sym is) low) ∙ o.2.fresh)
            | inr high ↦ inr (
              λ e. none j o.0 high o.1 (sym (e ∙ named)),
              subst (λ (x : Option (List ℕ)). IsSome x) (sym (lie told (name (source_in q)) ∙ ap held named)) (let low = get_within inlets j p.0 p.1 in all_lie told j o.0 (omega (arith, low, many)) o.1),
            )
          ]))

-- nothing was read, since not all inputs were opened
pub none_failed_yet : (Told : Type 0) (contents : List ℕ → Option (List ℕ)) (before after objects objects_then : List ℕ → ℕ) (legs legs' : List LegLine) (fault : MixFault) → IsNotOpened Told contents before after legs fault
    → ((n : List ℕ) → objects_then n ≡ objects n) → NoneFailed Told legs' objects objects_then (Err fault)
none_failed_yet Told contents before after objects objects_then legs legs' (Open k) r same = same
none_failed_yet Told contents before after objects objects_then legs legs' (Dump k fault) r same = absurd r
none_failed_yet Told contents before after objects objects_then legs legs' TooLong r same = absurd r
none_failed_yet Told contents before after objects objects_then legs legs' NoMemory r same = tt

-- all inputs were opened, and no call failed
pub none_refused : (Told : Type 0) (held : Contents) (legs : List LegLine) (own own_then : List ℕ → ℕ) (n : ℕ) (result : Result Mixed MixFault) → IsOfLegs n result
    → ((name : List ℕ) → own_then name ≡ own name) → IfErr result (IsFirst Told held legs own own_then)
none_refused Told held legs own own_then n (Ok mixed) of same = tt
none_refused Told held legs own own_then n (Err (Open leg)) of same = absurd of
none_refused Told held legs own own_then n (Err (Dump leg fault)) of same = same
none_refused Told held legs own own_then n (Err TooLong) of same = same
none_refused Told held legs own own_then n (Err NoMemory) of same = tt

pub on_ok : (result : Result Mixed MixFault) (P : Type 0) → P → OnOk result P
on_ok (Ok mixed) P p = p
on_ok (Err fault) P p = tt

-- ---- sources that never fail
pub never_rose : (old new : ℕ) → old ≡ 0 → new ≡ 0 → Rose old new → ⊥
never_rose old new o n (inl l) = omega (arith, o, n, l)
never_rose old new o n (inr e) = omega (arith, n, e)

pub never_read : {S : Type 0} (faults : S → ℕ) (name : S → List ℕ) (n : ℕ) (result : Result Mixed MixFault) (old new : List (LegInlet S)) → ((s : S) → faults s ≡ 0) → length old ≡ n → length new ≡ length old
    → AreKept faults name result old new → IsOfLegs n result → NoReadFailed result
never_read faults name n result old new calm many same kept of leg fault e =
    let within : leg < n = subst (IsOfLegs n) e of in
    let p = is_there old leg (omega (arith, within, many)) in
    let q = is_there new leg (omega (arith, within, many, same)) in
    no_fault (is_of_source fault.kind) (λ source. never_rose (faults (source_in p.0)) (faults (source_in q.0)) (calm (source_in p.0)) (calm (source_in q.0)) ((kept leg p.0 q.0 p.1 q.1).read fault e source))
