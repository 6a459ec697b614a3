-- The inputs of a conference's legs, heard one by one.
use Rattle.std.proofs.Common.{◌≡◌, ◌≢◌, ℕ, ◌+◌, ◌<◌, Bool, true, false, Option, Some, None, List, [], ◌∷◌, ◌++◌, length, drop, get_or, cond, refl, ap, sym, subst, ◌∙◌, inl, inr, arith}
use Rattle.std.specs.Prelude.{IsSome, slice_get, Result, Ok, Err, IfErr}
use Rattle.std.proofs.lemmas.List.{length-map}
use Rattle.wire_spec.specs.Dump.{dump}
use Rattle.rtpdump_io.specs.declared.items.DumpFault.{DumpFault}
use Rattle.rtpdump_io.specs.Reading.{UnlessOfSource, is_of_source}
use Rattle.rtt_io.specs.Counts.{Rose, counted}
use Rattle.file_spec.specs.declared.conference_lines.LegLine.{LegLine}
use Rattle.file_spec.specs.Conference.{Conference}
use Rattle.mixer_spec.specs.Setups.{leg_at, ssrc_of}
use Rattle.mixer_spec.specs.Bridged.{input_limit, leg_chunks}
use Rattle.mixer_spec.specs.Plain.{plain}
use Rattle.mixer_spec.specs.Setups.{setup}
use Rattle.command_spec.specs.Work.{Contents}
use Rattle.command_spec.specs.Mixing.{input_at, makes}
use Rattle.command_spec.specs.Attending.{named, named_by, says_of}
use Rattle.command_spec.proofs.Naming.{same_named}
use Rattle.leg.specs.Answers.{read_well}
use Rattle.rtt_mix.specs.declared.results.MixFault.{MixFault}
use Rattle.rtt_mix.specs.declared.results.MixFault.TheVariants.{Open, Dump, TooLong, NoMemory}
use Rattle.command_spec.specs.Inputs.{AllLie, LieBelow, NoneFailedBelow, inputs_under, octets_under}
use Rattle.rtt_mix.specs.Mixes.{IsFirst, NoneFailed, RoseAt, Stops}
use Rattle.rtt_mix.specs.Opened.{IsNotOpened}
use Rattle.rtt_mix.proofs.Opening.{leg_read_at, rose_behind}
use Rattle.rtt_mix.proofs.Handing.{input_is, some_of}
use Rattle.rtt_mix.proofs.Answering.{broken_steps}
use Rattle.rtt_attend.specs.declared.source_notes.SourceNotes.{SourceNotes}
use Rattle.rtt_attend.specs.Heard.{Hears, IsRead, sender_of, tally_of}
use Rattle.rtt_attend.specs.Opened.{heard_as, AreFresh, AreHeard, AreInputs, AreUnheard, HearsLeg, IsInput, IsUnheard}
use Rattle.rtt_attend.specs.Named.{AreTold, IsNamed, or_nothing, says_in}
use Rattle.rtt_attend.proofs.Lists.{in_rest}
use Rattle.command_spec.proofs.SentBack.{below_legs as leg_within}
use Rattle.wire_spec.proofs.Plain.{funext as same_function}
use Rattle.stream_spec.proofs.Plain.{get_push as pushed, get_at as is_there}

-- ---- inputs
module _ {S : Type 0} (tells : Type 0) (left : S → List ℕ) (faults : S → ℕ) (name_of : S → List ℕ) where
  -- one more was opened
  pub opened_more : (held now : Contents) (legs : List LegLine) (k : ℕ) (leg : LegLine) (sources : List S) (s : S) → AreInputs tells left faults name_of held legs sources → length sources ≡ k → leg_at legs k ≡ Some leg
      → name_of s ≡ leg.input → faults s ≡ 0 → (tells → now leg.input ≡ Some (left s)) → (tells → (n : List ℕ) → now n ≡ held n) → AreInputs tells left faults name_of held legs (sources ++ s ∷ [])
  opened_more held now legs k leg sources s are many at named fresh told same = λ j x e. elim (pushed sources s j x e) [
    | inl f ↦ are j x f
    | inr q ↦ (
      leg,
      ap (λ (i : ℕ). leg_at legs i) (q.0 ∙ many) ∙ at,
      subst (λ (y : S). IsInput tells left faults name_of held leg y) (sym q.1) (record { named = named; fresh = fresh; told = λ t. sym (same t leg.input) ∙ told t }),
    )
  ]

  pub are_fresh : (held : Contents) (legs : List LegLine) (sources : List S) → AreInputs tells left faults name_of held legs sources → AreFresh faults sources
  are_fresh held legs sources are = λ j s at. (are j s at).2.fresh

  pub rest_fresh : (held : Contents) (legs : List LegLine) (sources rest : List S) (k : ℕ) → AreInputs tells left faults name_of held legs sources → rest ≡ drop k sources → AreFresh faults rest
  rest_fresh held legs sources rest k are is = λ j s at. (are (k + j) s (in_rest sources k j s (subst (λ (l : List S). slice_get l j ≡ Some s) is at))).2.fresh

  -- something lies under the inputs of those that were opened
  pub lie_below : (held : Contents) (legs : List LegLine) (sources : List S) (n : ℕ) → AreInputs tells left faults name_of held legs sources → length sources ≡ n → tells → LieBelow n held legs
  lie_below held legs sources n are many t = λ k leg less at.
      let p = is_there sources k (omega (arith, less, many)) in
      let o = are k p.0 p.1 in
      let same : o.0 ≡ leg = let a = o.1 in cc (a, at) in
      some_of (held leg.input) (left p.0) (ap (λ (x : LegLine). held x.input) (sym same) ∙ o.2.told t)

  -- what is heard of an opened input is heard of its leg
  pub hears_leg : (limit : ℕ) (held : Contents) (legs : List LegLine) (k : ℕ) (leg : LegLine) (s : S) (result : Result SourceNotes DumpFault) → leg_at legs k ≡ Some leg → IsInput tells left faults name_of held leg s
      → tells → Hears limit (sender_of leg) (left s) result → HearsLeg limit held legs k result
  hears_leg limit held legs k leg s result at is t hears =
      subst (λ (o : Option LegLine). Hears limit (heard_as o) (input_at (inputs_under held legs) k) result) (sym at)
      (subst (λ (octets : List ℕ). Hears limit (sender_of leg) octets result) (input_is held legs k leg (left s) at (is.told t)) hears)

  -- ---- a source that was read and handed back
  module _ (result : Result SourceNotes DumpFault) (old new : S) (objects objects_then : List ℕ → ℕ) (read : IsRead faults name_of result old new) (fresh : faults old ≡ 0) where
    pub failed_read : objects_then (name_of new) ≡ counted (objects (name_of new)) (faults new) → IfErr result (λ fault. is_of_source fault.kind ≡ true → RoseAt objects objects_then (name_of old))
    failed_read added = go result read.read
      where
        go : (r : Result SourceNotes DumpFault) → IfErr r (λ fault. is_of_source fault.kind ≡ true → Rose (faults old) (faults new)) → IfErr r (λ fault. is_of_source fault.kind ≡ true → RoseAt objects objects_then (name_of old))
        go (Ok said) rose = tt
        go (Err fault) rose = λ source.
            subst (λ n. Rose (objects n) (objects_then n)) read.same_name
            (rose_behind (objects (name_of new)) (objects (name_of new)) (objects_then (name_of new)) (faults new) (omega arith) added (subst (λ n. Rose n (faults new)) fresh (rose source)))

    pub calm_read : (faults new ≡ 0 → (n : List ℕ) → objects_then n ≡ objects n) → UnlessOfSource result ((n : List ℕ) → objects_then n ≡ objects n)
    calm_read calm = go result read.calm
      where
        go : (r : Result SourceNotes DumpFault) → UnlessOfSource r (faults new ≡ faults old) → UnlessOfSource r ((n : List ℕ) → objects_then n ≡ objects n)
        go (Ok said) same = calm (same ∙ fresh)
        go (Err fault) same = λ none. calm (same none ∙ fresh)

-- ---- what was heard
pub heard_more : (limit : ℕ) (held : Contents) (legs : List LegLine) (all : List SourceNotes) (said : SourceNotes) → AreHeard limit held legs all → HearsLeg limit held legs (length all) (Ok said) → AreHeard limit held legs (all ++ said ∷ [])
heard_more limit held legs all said are here = λ k x e. elim (pushed all said k x e) [
  | inl f ↦ are k x f
  | inr q ↦ subst (λ (i : ℕ). HearsLeg limit held legs i (Ok x)) (sym q.0) (subst (λ (y : SourceNotes). HearsLeg limit held legs (length all) (Ok y)) (sym q.1) here)
]

pub none_heard : (limit : ℕ) (held : Contents) (legs : List LegLine) (all : List SourceNotes) → all ≡ [] → AreHeard limit held legs all
none_heard limit held legs [] e = λ k said at. absurd (cc at)
none_heard limit held legs (said ∷ all) e = absurd (cc e)

pub whole_below : (limit : ℕ) (held : Contents) (legs : List LegLine) (all : List SourceNotes) → AreHeard limit held legs all → (k : ℕ) → k < length all → (dump limit (input_at (inputs_under held legs) k)).fault ≡ None
whole_below limit held legs all are k less = let p = is_there all k less in (are k p.0 p.1).1

-- ---- a fault
-- No reading for another leg failed, nor for this one where its recording is refused.
pub others_kept : (held : Contents) (legs : List LegLine) (number : ℕ) (leg : LegLine) (name : List ℕ) (fault : DumpFault) (objects objects_then : List ℕ → ℕ) → leg_at legs number ≡ Some leg → name ≡ leg.input
    → (is_of_source fault.kind ≡ false → (n : List ℕ) → objects_then n ≡ objects n) → ((n : List ℕ) → n ≢ name → objects_then n ≡ objects n) → NoneFailedBelow (read_well number fault) legs objects objects_then
others_kept held legs number leg name fault objects objects_then at named calm other = go (is_of_source fault.kind) refl
  where
    go : (b : Bool) → is_of_source fault.kind ≡ b → NoneFailedBelow (cond b number (number + 1)) legs objects objects_then
    go false e = λ n none. calm e n
    go true e = λ n none. other n (λ same. none number leg (omega arith) at (sym (same ∙ named)))

module _ {S : Type 0} (tells : Type 0) (left : S → List ℕ) (faults : S → ℕ) (name_of : S → List ℕ) where
  -- the input of this leg
  pub opened_at : (held : Contents) (legs : List LegLine) (sources : List S) (k : ℕ) (leg : LegLine) (s : S) → AreInputs tells left faults name_of held legs sources → slice_get sources k ≡ Some s → leg_at legs k ≡ Some leg
      → IsInput tells left faults name_of held leg s
  opened_at held legs sources k leg s are there at =
      let o = are k s there in
      let same : o.0 ≡ leg = let a = o.1 in cc (a, at) in
      subst (λ (l : LegLine). IsInput tells left faults name_of held l s) same o.2

  -- and the leg that is read there, with its input
  pub read_at : (held : Contents) (legs : List LegLine) (sources : List S) (k number : ℕ) (leg : LegLine) (s : S) → AreInputs tells left faults name_of held legs sources → slice_get sources k ≡ Some s → number ≡ k
      → number < length legs → leg ≡ get_or legs number leg → (leg_at legs k ≡ Some leg) × IsInput tells left faults name_of held leg s
  read_at held legs sources k number leg s are there at low is =
      let got : leg_at legs k ≡ Some leg = subst (λ (n : ℕ). leg_at legs n ≡ Some leg) at (leg_read_at legs number leg low is) in
      (got, opened_at held legs sources k leg s are there got)

  -- the leg k, its input and what was heard of those before it; what is counted at first, before it is read, behind that and last
  module _ (limit : ℕ) (held now : Contents) (legs : List LegLine) (k : ℕ) (leg : LegLine) (s : S) (all : List SourceNotes) (fault : DumpFault) (objects objects_now objects_read objects_then : List ℕ → ℕ)
      (at : leg_at legs k ≡ Some leg) (is : IsInput tells left faults name_of held leg s) (many : length all ≡ k) where
    pub unheard : (tells → AreHeard limit held legs all) → (tells → Hears limit (sender_of leg) (left s) (Err fault)) → (is_of_source fault.kind ≡ true → RoseAt objects_now objects_read (name_of s))
        → (is_of_source fault.kind ≡ false → (n : List ℕ) → objects_read n ≡ objects_now n) → (tells → IsSome (now (name_of s)) → (n : List ℕ) → n ≢ name_of s → objects_read n ≡ objects_now n)
        → ((n : List ℕ) → objects_now n ≡ objects n) → ((n : List ℕ) → objects_then n ≡ objects_read n) → (tells → (n : List ℕ) → now n ≡ held n)
        → IsUnheard tells objects objects_then held limit legs k fault
    unheard heard hears rose calm other before behind same = record {
      leg = leg;
      at = at;
      read = λ source.
          subst (λ (n : List ℕ). Rose (objects n) (objects_then n)) is.named
          (subst (λ (x : ℕ). Rose x (objects_then (name_of s))) (before (name_of s)) (subst (λ (x : ℕ). Rose (objects_now (name_of s)) x) (sym (behind (name_of s))) (rose source)));
      refused = λ t. hears_leg tells left faults name_of limit held legs k leg s (Err fault) at is t (hears t);
      lowest = λ t j less. whole_below limit held legs all (heard t) j (omega (arith, less, many));
      others = λ t.
          others_kept held legs k leg (name_of s) fault objects objects_then at is.named
          (λ none n. behind n ∙ (calm none n ∙ before n))
          (λ n differs. behind n ∙ (other t (some_of (now (name_of s)) (left s) (same t (name_of s) ∙ (ap held is.named ∙ is.told t))) n differs ∙ before n));
    }

-- a world that holds the same where it is told
pub unheard_in : (Told : Type 0) (objects now objects_then : List ℕ → ℕ) (held then : Contents) (limit : ℕ) (legs : List LegLine) (fault : MixFault) → ((n : List ℕ) → now n ≡ objects n) → (Told → (n : List ℕ) → then n ≡ held n)
    → AreUnheard Told now objects_then then limit legs fault → AreUnheard Told objects objects_then held limit legs fault
unheard_in Told objects now objects_then held then limit legs (Open k) counts same u = u
unheard_in Told objects now objects_then held then limit legs TooLong counts same u = u
unheard_in Told objects now objects_then held then limit legs NoMemory counts same u = u
unheard_in Told objects now objects_then held then limit legs (Dump k fault) counts same u = record {
  leg = u.leg;
  at = u.at;
  read = λ source. subst (λ (n : ℕ). Rose n (objects_then u.leg.input)) (counts u.leg.input) (u.read source);
  refused = λ t. subst (λ (h : Contents). HearsLeg limit h legs k (Err fault)) (same_function then held (same t)) (u.refused t);
  lowest = λ t. subst (λ (h : Contents). (j : ℕ) → j < k → (dump limit (input_at (inputs_under h legs) j)).fault ≡ None) (same_function then held (same t)) (u.lowest t);
  others = λ t n none. u.others t n none ∙ counts n;
}

-- and so of the lines and the limit that these are
pub unheard_of : (Told : Type 0) (objects now objects_then : List ℕ → ℕ) (held then : Contents) (limit most : ℕ) (lines legs : List LegLine) (fault : MixFault) → lines ≡ legs → limit ≡ most
    → ((n : List ℕ) → now n ≡ objects n) → (Told → (n : List ℕ) → then n ≡ held n) → AreUnheard Told now objects_then then limit lines fault → AreUnheard Told objects objects_then held most legs fault
unheard_of Told objects now objects_then held then limit most lines legs fault are fits counts same u =
    subst (λ (n : ℕ). AreUnheard Told objects objects_then held n legs fault) fits
    (subst (λ (l : List LegLine). AreUnheard Told objects objects_then held limit l fault) are (unheard_in Told objects now objects_then held then limit lines fault counts same u))

-- ---- the conference
module _ (held : Contents) (c : Conference) where
  pub are_told : (all : List SourceNotes) → length all ≡ length c.legs → AllLie held c.legs → AreHeard (input_limit c) held c.legs all → AreTold held c all
  are_told all many lie are = record {
    lie = lie;
    whole = λ k less. whole_below (input_limit c) held c.legs all are k (omega (arith, less, many));
    says = λ k less. (let p = is_there all k (omega (arith, less, many)) in ap or_nothing p.1 ∙ (are k p.0 p.1).0);
    counts = λ k said leg at is. (are k said at).2 ∙ ap (λ (o : Option LegLine). tally_of (heard_as o) (dump (input_limit c) (input_at (inputs_under held c.legs) k)).items) is;
  }

  pub is_named : (all : List SourceNotes) (new : Conference) → AreTold held c all → new ≡ named_by (says_in all) c → IsNamed held c new
  is_named all new told is = record {
    lie = told.lie;
    whole = told.whole;
    is = is ∙ same_named (says_in all) (says_of c (inputs_under held c.legs)) c told.says;
  }

  module _ (Told : Type 0) (Call : List ℕ → Type 0) (objects objects_then : List ℕ → ℕ) where
    -- not all inputs were opened
    pub stops_yet : (before after : List ℕ → ℕ) (fault : MixFault) → IsNotOpened Told held before after c.legs fault → Stops Told (RoseAt before after) (RoseAt objects objects_then) held c fault
    stops_yet before after (Open k) r = r
    stops_yet before after (Dump k fault) r = absurd r
    stops_yet before after TooLong r = absurd r
    stops_yet before after NoMemory r = tt

    -- or not all were heard
    pub stops : (fault : MixFault) → (Told → AllLie held c.legs) → AreUnheard Told objects objects_then held (input_limit c) c.legs fault → Stops Told Call (RoseAt objects objects_then) held c fault
    stops (Open k) lie r = absurd r
    stops TooLong lie r = absurd r
    stops NoMemory lie r = absurd r
    stops (Dump k fault) lie r = (
      r.leg,
      r.at,
      record {
        lie = lie;
        read = r.read;
        lowest = r.lowest;
        refused = λ none t.
            broken_steps (input_limit c) 1 (inputs_under held c.legs) (makes c (plain (setup c) c.tick c.turns (leg_chunks c (input_at (inputs_under held c.legs))))) k (record { byte = fault.offset; kind = fault.kind })
            (let within = leg_within c.legs k r.leg r.at in omega (arith, within, length-map c.legs (λ leg. octets_under held leg.input))) (r.lowest t) (r.refused t none);
      },
    )

    pub none_failed : (fault : MixFault) → AreUnheard Told objects objects_then held (input_limit c) c.legs fault → NoneFailed Told c.legs objects objects_then (Err fault)
    none_failed (Open k) r = absurd r
    none_failed (Dump k fault) r = r.others
    none_failed TooLong r = absurd r
    none_failed NoMemory r = absurd r

-- all inputs were opened
pub none_refused : (Told : Type 0) (own own_then objects objects_then : List ℕ → ℕ) (held then : Contents) (limit : ℕ) (legs lines : List LegLine) (fault : MixFault)
    → AreUnheard Told objects objects_then then limit lines fault → ((n : List ℕ) → own_then n ≡ own n) → IsFirst Told held legs own own_then fault
none_refused Told own own_then objects objects_then held then limit legs lines (Open k) u same = absurd u
none_refused Told own own_then objects objects_then held then limit legs lines (Dump k fault) u same = same
none_refused Told own own_then objects objects_then held then limit legs lines TooLong u same = absurd u
none_refused Told own own_then objects objects_then held then limit legs lines NoMemory u same = absurd u

pub not_too_long : (Told : Type 0) (held : Contents) (before after : List ℕ → ℕ) (legs : List LegLine) (fault : MixFault) → IsNotOpened Told held before after legs fault → fault ≢ TooLong
not_too_long Told held before after legs (Open k) r e = cc e
not_too_long Told held before after legs (Dump k fault) r e = cc e
not_too_long Told held before after legs TooLong r e = r
not_too_long Told held before after legs NoMemory r e = cc e

pub never_too_long : (Told : Type 0) (objects objects_then : List ℕ → ℕ) (held : Contents) (limit : ℕ) (legs : List LegLine) (fault : MixFault) → AreUnheard Told objects objects_then held limit legs fault → fault ≢ TooLong
never_too_long Told objects objects_then held limit legs (Open k) r e = r
never_too_long Told objects objects_then held limit legs (Dump k fault) r e = cc e
never_too_long Told objects objects_then held limit legs TooLong r e = r
never_too_long Told objects objects_then held limit legs NoMemory r e = r
