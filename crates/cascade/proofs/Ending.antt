-- How a conference behind another mixer ends, from how its recording is split and its legs are mixed.
use Rattle.std.proofs.Common.{◌≡◌, ℕ, zero, suc, ◌≤◌, true, false, cond, Option, Some, None, List, [], ◌∷◌, Result, Ok, Err, refl, ap, sym, subst, ◌∙◌, inl, inr, arith}
use Rattle.std.specs.Prelude.{IsSome, map, unwrap_or}
use Rattle.std.specs.List.{concat}
use Rattle.rtt_io.specs.Counts.{Rose}
use Rattle.wire_spec.specs.Dump.{dump}
use Rattle.rtpdump_io.specs.declared.items.DumpFault.{DumpFault}
use Rattle.rtpdump_io.specs.declared.items.RecordingFault.{RecordingFault}
use Rattle.rtpdump_io.specs.declared.items.RecordingFault.TheVariants as recorded
use Rattle.rtpdump_io.specs.Reading.{is_of_source}
use Rattle.file_spec.specs.declared.conference_lines.LegLine.{LegLine}
use Rattle.file_spec.specs.Conference.{Conference}
use Rattle.mixer_spec.specs.Setups.{leg_at}
use Rattle.mixer_spec.specs.Bridged.{input_limit}
use Rattle.command_spec.specs.Splitting.{Trunk, splits}
use Rattle.command_spec.specs.Laws.{split_of}
use Rattle.command_spec.specs.declared.faults.Refusal.TheVariants.{AtByte}
use Rattle.command_spec.specs.Work.{Contents}
use Rattle.command_spec.specs.Outcomes.{Refused}
use Rattle.command_spec.specs.Mixing.{input_at}
use Rattle.command_spec.specs.Cascading.{cascades, is_on_trunk, trunk_of}
use Rattle.cascade.specs.declared.splits.Splits.{Splits}
use Rattle.cascade.specs.Splits.{recordings_of}
use Rattle.rtt_mix.specs.declared.results.MixFault.{MixFault}
use Rattle.rtt_mix.specs.declared.results.MixFault.TheVariants as mix
use Rattle.rtt_mix.specs.declared.results.Mixed.{Mixed}
use Rattle.sent_log.specs.Files as sent
use Rattle.rtt_mix.specs.Mixes as bridge
use Rattle.rtt_mix.specs.Mixes.{outputs_of}
use Rattle.rtt_mix.specs.Answered.{AreMixed, MixesTo}
use Rattle.cascade.specs.declared.faults.CascadeFault.{CascadeFault}
use Rattle.cascade.specs.declared.faults.CascadeFault.TheVariants.{Open, Dump, TooLong, NoMemory}
use Rattle.cascade.specs.Inputs.{IsInputBehind, RefusesNoneBefore, input_name, input_number}
use Rattle.cascade.specs.Texts.{AllOwnLie, OwnLieBelow, SplitsAreWhole, texts_of}
use Rattle.cascade.specs.Feeding.{OfOwn}
use Rattle.cascade.specs.Mixes.{AllKept, CountsKept, IsCaused, MixesFed}
use Rattle.cascade.specs.Cascades.{AreSplits, IsBroken, IsFirst, IsMadeBehind, IsRefusedAt, IsUnsplit, NoneFailed, OthersKept, Stops, fault_of, outcome_behind, trunk_fault}
use Rattle.cascade.proofs.Chain.{done_is, fault_at, input_named, is_input, none_before, none_first, number_rises, number_trunk, recording_refused, refused_is, some_read, splits_by, too_long_is}
use Rattle.cascade.proofs.Mixing.{decide, text_at}
use Rattle.command_spec.proofs.SentBack.{below_legs as leg_within}

-- ---- the recording
unsplit_input : (Told : Type 0) (held : Contents) (file : List ℕ) (ssrc : ℕ) (c : Conference) (input : ℕ) → input ≡ 1 → IsInputBehind Told held (cascades file ssrc c) input (input_name file c.legs input)
unsplit_input Told held file ssrc c input e = subst (λ n. IsInputBehind Told held (cascades file ssrc c) n (input_name file c.legs n)) (sym e) refl

-- where the recording was not split
pub unsplit_stops : (Told : Type 0) (Call Object : List ℕ → Type 0) (held : Contents) (file : List ℕ) (ssrc : ℕ) (c : Conference) (fault : CascadeFault) → IsUnsplit Told (Call file) (Object file) held file c fault
    → Stops Told Call Object held file ssrc c fault
unsplit_stops Told Call Object held file ssrc c (Open input) u = (
  unsplit_input Told held file ssrc c input u.0,
  subst (λ n. Call (input_name file c.legs n)) (sym u.0) u.1,
)
unsplit_stops Told Call Object held file ssrc c (Dump input fault) u = record {
  is_input = unsplit_input Told held file ssrc c input u.0;
  read = λ source. subst (λ n. Object (input_name file c.legs n)) (sym u.0) (u.1 source);
  lowest = λ told whole. subst (λ n. RefusesNoneBefore n (outcome_behind held file ssrc c)) (sym u.0) (none_first held file ssrc c);
  refused = λ none told.
      let r = u.2 none told in
      recording_refused held file ssrc c r.0 (record { byte = fault.offset; kind = fault.kind }) r.1 r.2
      ∙ ap (λ n. Refused n (AtByte fault.offset fault.kind)) (sym u.0);
}
unsplit_stops Told Call Object held file ssrc c TooLong u = absurd u
unsplit_stops Told Call Object held file ssrc c NoMemory u = tt

pub unsplit_kept : (Told : Type 0) (held : Contents) (file : List ℕ) (ssrc : ℕ) (c : Conference) (old new : List ℕ → ℕ) (fault : CascadeFault) (Call Object : Type 0) → IsUnsplit Told Call Object held file c fault
    → OthersKept Told file old new (Err fault) → NoneFailed Told held file ssrc c old new (Err fault)
unsplit_kept Told held file ssrc c old new (Open input) Call Object u k = k
unsplit_kept Told held file ssrc c old new (Dump input fault) Call Object u k = λ told name none. k told name (λ e. none 1 (let one = u.0 in omega (arith, one)) e)
unsplit_kept Told held file ssrc c old new TooLong Call Object u k = absurd u
unsplit_kept Told held file ssrc c old new NoMemory Call Object u k = tt

pub unsplit_first : (Told : Type 0) (held : Contents) (file : List ℕ) (legs : List LegLine) (old new : List ℕ → ℕ) (fault : RecordingFault) → AllKept old new → IsFirst Told held file legs old new (trunk_fault fault)
unsplit_first Told held file legs old new (recorded.Dump fault) same = same
unsplit_first Told held file legs old new recorded.NoMemory same = tt

-- the recordings of the SSRCs of the legs
map_twice : (split : ℕ → List ℕ) (legs : List LegLine) → map split (map (λ (leg : LegLine). leg.ssrc) legs) ≡ map (λ (leg : LegLine). split leg.ssrc) legs
map_twice split [] = refl
map_twice split (l ∷ legs) = ap (λ (xs : List (List ℕ)). split l.ssrc ∷ xs) (map_twice split legs)

pub are_splits : (held : Contents) (file : List ℕ) (ssrc : ℕ) (c : Conference) (s : Splits) (octets : List ℕ) (t : Trunk) (sources : List ℕ) → t ≡ trunk_of c ssrc → held file ≡ Some octets
    → (dump t.limit octets).fault ≡ None → sources ≡ map (λ (leg : LegLine). leg.ssrc) c.legs → recordings_of s ≡ splits t sources octets → AreSplits held file ssrc c s
are_splits held file ssrc c s octets t sources same there whole from are = record {
  octets = octets;
  lies = there;
  whole = subst (λ (x : Trunk). (dump x.limit octets).fault ≡ None) same whole;
  are = are
      ∙ (ap (λ (x : Trunk). splits x sources octets) same
      ∙ (ap (λ (xs : List ℕ). splits (trunk_of c ssrc) xs octets) from ∙ map_twice (split_of (trunk_of c ssrc) octets) c.legs));
}

pub refused_at : (held : Contents) (file : List ℕ) (ssrc : ℕ) (c : Conference) (octets : List ℕ) (t : Trunk) (fault : DumpFault) → t ≡ trunk_of c ssrc → held file ≡ Some octets
    → (dump t.limit octets).fault ≡ Some (record { byte = fault.offset; kind = fault.kind }) → IsRefusedAt held file c fault
refused_at held file ssrc c octets t fault same there is =
    (octets, there, subst (λ (x : Trunk). (dump x.limit octets).fault ≡ Some (record { byte = fault.offset; kind = fault.kind })) same is)

-- ---- counts over two calls
rose_since : (old mid new : ℕ) → old ≤ mid → Rose mid new → Rose old new
rose_since old mid new low (inl r) = inl (omega (arith, low, r))
rose_since old mid new low (inr e) = inr e

-- the counts of calls before, between and after, and those of objects, which no call between changed
pub caused_since : (own own_mid own_new objects objects_mid objects_new : List ℕ → ℕ) (legs : List LegLine) (result : Result Mixed MixFault) → ((n : List ℕ) → own n ≤ own_mid n) → AllKept objects objects_mid
    → IsCaused (λ n. Rose (own_mid n) (own_new n)) (λ n. Rose (objects_mid n) (objects_new n)) legs result → IsCaused (λ n. Rose (own n) (own_new n)) (λ n. Rose (objects n) (objects_new n)) legs result
caused_since own own_mid own_new objects objects_mid objects_new legs (Ok mixed) low same k = tt
caused_since own own_mid own_new objects objects_mid objects_new legs (Err (mix.Open leg)) low same k =
    (k.0, k.1, (k.2.0, rose_since (own k.0.input) (own_mid k.0.input) (own_new k.0.input) (low k.0.input) k.2.1))
caused_since own own_mid own_new objects objects_mid objects_new legs (Err (mix.Dump leg fault)) low same k =
    (k.0, k.1, λ source. let r = k.2 source in (r.0, subst (λ n. Rose n (objects_new k.0.input)) (same k.0.input) r.1))
caused_since own own_mid own_new objects objects_mid objects_new legs (Err mix.TooLong) low same k = tt
caused_since own own_mid own_new objects objects_mid objects_new legs (Err mix.NoMemory) low same k = tt

pub kept_since : (Told : Type 0) (old mid new : List ℕ → ℕ) (legs : List LegLine) (result : Result Mixed MixFault) → AllKept old mid → CountsKept Told legs mid new result → CountsKept Told legs old new result
kept_since Told old mid new legs (Ok mixed) same k = λ n. k n ∙ same n
kept_since Told old mid new legs (Err (mix.Open leg)) same k = λ n. k n ∙ same n
kept_since Told old mid new legs (Err (mix.Dump leg fault)) same k = λ told n none. k told n none ∙ same n
kept_since Told old mid new legs (Err mix.TooLong) same k = λ n. k n ∙ same n
kept_since Told old mid new legs (Err mix.NoMemory) same k = tt

pub first_since : (Told : Type 0) (held mid : Contents) (file : List ℕ) (legs : List LegLine) (old own_mid new : List ℕ → ℕ) (Call Object : List ℕ → Type 0) (fault : MixFault)
    → AllKept old own_mid → (Told → (n : List ℕ) → mid n ≡ held n) → IsCaused Call Object legs (Err fault) → bridge.IsFirst Told mid legs own_mid new fault → IsFirst Told held file legs old new (fault_of legs fault)
first_since Told held mid file legs old own_mid new Call Object (mix.Open k) same lie is f = λ told some n differs.
    let named = input_named file legs k is.0 is.1 is.2.0 in
    let there : IsSome (mid is.0.input) = subst (λ (o : Option (List ℕ)). IsSome o) (sym (lie told is.0.input)) (subst (λ m. IsSome (held m)) named some) in
    f told is.0 is.1 there n (λ e. differs (e ∙ sym named)) ∙ same n
first_since Told held mid file legs old own_mid new Call Object (mix.Dump k fault) same lie is f = λ n. f n ∙ same n
first_since Told held mid file legs old own_mid new Call Object mix.TooLong same lie is f = λ n. f n ∙ same n
first_since Told held mid file legs old own_mid new Call Object mix.NoMemory same lie is f = tt

-- what lay there is what lies there
pub fed_since : (held mid : Contents) (recordings : List (List ℕ)) (c : Conference) (result : Result Mixed MixFault) → ((n : List ℕ) → mid n ≡ held n) → MixesFed mid recordings c result → MixesFed held recordings c result
fed_since held mid recordings c result same m = subst (λ (h : Contents). MixesFed h recordings c result) (λ i n. same n i) m

-- ---- the legs
lie_below : (held : Contents) (legs : List LegLine) (n : ℕ) → AllOwnLie held legs → OwnLieBelow n held legs
lie_below held legs n lie = λ k leg less at off. lie k leg (leg_within legs k leg at) at off

split_at : (split : ℕ → List ℕ) (legs : List LegLine) (j : ℕ) (l : LegLine) → leg_at legs j ≡ Some l → input_at (splits_by split legs) j ≡ split l.ssrc
split_at split [] j l at = absurd (cc at)
split_at split (x ∷ legs) zero l at = let same : x ≡ l = cc at in ap (λ (y : LegLine). split y.ssrc) same
split_at split (x ∷ legs) (suc j) l at = split_at split legs j l at

module _ (Told : Type 0) (held : Contents) (file : List ℕ) (ssrc : ℕ) (c : Conference) (s : Splits) (are : Told → AreSplits held file ssrc c s) where
  pub made : (mixed : Mixed) → Told → MixesFed held (recordings_of s) c (Ok mixed) → IsMadeBehind held file ssrc c mixed
  made mixed told m =
      let a = are told in
      let texts : AreMixed c (texts_of held c.legs (splits_by (split_of (trunk_of c ssrc) a.octets) c.legs)) mixed = subst (λ (rs : List (List ℕ)). AreMixed c (texts_of held c.legs rs) mixed) a.are m.1 in
      done_is held file ssrc c a.octets a.lies a.whole m.0 (concat mixed.views.items) (outputs_of c.legs (sent.recordings_of mixed.outs)) texts.makes

  -- an input of a leg that does not stand behind the other mixer
  own_input : (k : ℕ) (leg : LegLine) → leg_at c.legs k ≡ Some leg → is_on_trunk leg ≡ false → (Told → OwnLieBelow k held c.legs)
      → IsInputBehind Told held (cascades file ssrc c) (input_number c.legs k) leg.input
  own_input k leg at off lie =
      let r = some_read Told held file c (λ told. let a = are told in (a.octets, a.lies, a.whole)) in
      is_input Told held file ssrc c r.0 k leg r.1 at off lie

  named_input : (k : ℕ) (leg : LegLine) → leg_at c.legs k ≡ Some leg → is_on_trunk leg ≡ false → (Told → OwnLieBelow k held c.legs)
      → IsInputBehind Told held (cascades file ssrc c) (input_number c.legs k) (input_name file c.legs (input_number c.legs k))
  named_input k leg at off lie =
      subst (λ n. IsInputBehind Told held (cascades file ssrc c) (input_number c.legs k) n) (sym (input_named file c.legs k leg at off)) (own_input k leg at off lie)

  -- the text of a leg behind the other mixer is read to its end, where each split is
  split_whole : (a : AreSplits held file ssrc c s) → SplitsAreWhole held file ssrc c → (j : ℕ) (l : LegLine) → leg_at c.legs j ≡ Some l → is_on_trunk l ≡ true
      → fault_at (input_limit c) (texts_of held c.legs (splits_by (split_of (trunk_of c ssrc) a.octets) c.legs)) j ≡ None
  split_whole a whole j l at on =
      let split = split_of (trunk_of c ssrc) a.octets in
      let is : input_at (texts_of held c.legs (splits_by split c.legs)) j ≡ split l.ssrc =
      text_at held c.legs (splits_by split c.legs) j l at ∙ (ap (λ b. cond b (input_at (splits_by split c.legs) j) (unwrap_or (held l.input) [])) on ∙ split_at split c.legs j l at) in
      ap (λ (os : List ℕ). (dump (input_limit c) os).fault) is ∙ whole a.octets a.lies j l at

  broken : (Object : List ℕ → Type 0) (k : ℕ) (fault : DumpFault) → (Told → MixesFed held (recordings_of s) c (Err (mix.Dump k fault)))
      → (leg : LegLine) → leg_at c.legs k ≡ Some leg → (is_of_source fault.kind ≡ true → OfOwn Object leg)
      → IsBroken Told Object held file ssrc c (input_number c.legs k) (input_name file c.legs (input_number c.legs k)) fault
  broken Object k fault m leg at source = record {
    is_input = elim (decide (is_on_trunk leg)) [
      | inl on ↦ subst (λ n. IsInputBehind Told held (cascades file ssrc c) n (input_name file c.legs n)) (sym (number_trunk 2 c.legs k leg at on)) refl
      | inr off ↦ named_input k leg at off (λ told. lie_below held c.legs k (m told).0)
    ];
    read = λ e. let o = source e in subst Object (sym (input_named file c.legs k leg at o.0)) o.1;
    lowest = λ told whole.
        let a = are told in
        let t = texts told in
        none_before held file ssrc c a.octets a.lies a.whole (m told).0 k leg at t.0 (split_whole a whole);
    refused = λ none told.
        let a = are told in
        let t = texts told in
        refused_is held file ssrc c a.octets a.lies a.whole (m told).0 k fault.offset fault.kind (leg_within c.legs k leg at) t.0 (t.1 none);
  }
    where
      texts : (told : Told) → MixesTo c (texts_of held c.legs (splits_by (split_of (trunk_of c ssrc) (are told).octets) c.legs)) (Err (mix.Dump k fault))
      texts told = subst (λ (rs : List (List ℕ)). MixesTo c (texts_of held c.legs rs) (Err (mix.Dump k fault))) (are told).are (m told).1

  pub stops : (Call Object : List ℕ → Type 0) (fault : MixFault) → (Told → MixesFed held (recordings_of s) c (Err fault)) → IsCaused Call Object c.legs (Err fault)
      → Stops Told Call Object held file ssrc c (fault_of c.legs fault)
  stops Call Object (mix.Open k) m k_is = (
    named_input k k_is.0 k_is.1 k_is.2.0 m,
    subst Call (sym (input_named file c.legs k k_is.0 k_is.1 k_is.2.0)) k_is.2.1,
  )
  stops Call Object (mix.Dump k fault) m k_is = broken Object k fault m k_is.0 k_is.1 k_is.2
  stops Call Object mix.TooLong m k_is = λ told.
      let a = are told in
      too_long_is held file ssrc c a.octets a.lies a.whole (m told).0
      (subst (λ (rs : List (List ℕ)). MixesTo c (texts_of held c.legs rs) (Err mix.TooLong)) a.are (m told).1)
  stops Call Object mix.NoMemory m k_is = tt

  pub none_failed : (old new : List ℕ → ℕ) (fault : MixFault) → (Told → MixesFed held (recordings_of s) c (Err fault)) → CountsKept Told c.legs old new (Err fault)
      → NoneFailed Told held file ssrc c old new (Err (fault_of c.legs fault))
  none_failed old new (mix.Open k) m kept = kept
  none_failed old new (mix.Dump k fault) m kept = λ told name none. kept told name (λ j leg low at off same.
      none (input_number c.legs j) (number_rises 2 c.legs k j leg (omega arith) low at off)
      (subst (λ n. IsInputBehind Told held (cascades file ssrc c) (input_number c.legs j) n) same (own_input j leg at off (λ t. lie_below held c.legs j (m t).0))))
  none_failed old new mix.TooLong m kept = kept
  none_failed old new mix.NoMemory m kept = tt
