-- What was given of the legs is what is heard of their recordings.
use Rattle.std.proofs.Common.{◌≡◌, ◌<◌, ◌≤◌, ◌+◌, ℕ, zero, suc, Bool, true, false, cond, inl, inr, Some, None, List, [], ◌∷◌, length, map, refl, ap, sym, ◌∙◌, subst, arith}
use Rattle.std.specs.Prelude.{slice_get}
use Rattle.rtpdump_io.specs.declared.items.DumpFault.{DumpFault}
use Rattle.rtpdump_io.specs.Reading.{is_of_source}
use Rattle.stream_spec.specs.Ready.{Chunk}
use Rattle.mixer_spec.specs.Setups.{Setup, in_stay}
use Rattle.mixer_spec.specs.Table.{Call}
use Rattle.mixer_spec.specs.Plain.{plain}
use Rattle.mix_loop.specs.declared.items.TextsEnd.{TextsEnd}
use Rattle.mix_loop.specs.declared.items.TextsEnd.TheVariants.{AtEnd}
use Rattle.mix_loop.specs.declared.turns.MixEnd.{MixEnd}
use Rattle.mix_loop.specs.declared.turns.MixEnd.TheVariants as mixing
use Rattle.mix_loop.specs.Items.{Gave}
use Rattle.mix_loop.specs.Mixing.{MixedAll, NoneGave, part_of}
use Rattle.mix_loop.specs.Ports.{of_leg}
use Rattle.mix_loop.specs.Turns.{AllAtEnd, TellsMixing}
use Rattle.mix_loop.proofs.Lists.{get_within, lt_or_ge}
use Rattle.leg.specs.declared.inlets.LegInlet.{LegInlet}
use Rattle.leg.specs.Feds.{Asked, GivesAs, Fed, recording_asked, chunks_asked, is_source_fault}
use Rattle.leg.specs.Answers.{AllWhole, IsAnswer, IsReadWell, AreChunks, AllNew, AllAsked, SourceKept, PlainMixed, source_in}
use Rattle.leg.proofs.Feeding.{fed_none}
use Rattle.wire_spec.proofs.Plain.{funext}

pub none_gave : {S : Type 0} (tells : Type 0) (left : S → List ℕ) (faults : S → ℕ) (name : S → List ℕ) (legs : List (LegInlet S)) → AllNew legs
    → NoneGave (λ first now gave. Fed tells left faults name first now gave) legs
none_gave tells left faults name legs new j i e = fed_none tells left faults name i (new j i e)

module _ {S M T : Type 0} (tells : Type 0) (left : S → List ℕ) (faults : S → ℕ) (name : S → List ℕ) (mixes : M → Setup → List Call → Type 0) (s : Setup) (tick turns : ℕ) (answer : MixEnd DumpFault T)
    (old new : List (LegInlet S)) (m : M) (legs : s.legs ≡ length old) (same : length new ≡ length old)
    (x : MixedAll (λ first now gave. Fed tells left faults name first now gave) mixes s tick turns answer old new m) where
  abbrev parts : ℕ → Gave DumpFault
  parts j = part_of s j (x.gave j)

  -- a leg before and after, and what it gave
  record OfLeg (j : ℕ) : Type 0 where
    before : LegInlet S
    after : LegInlet S
    was : slice_get old j ≡ Some before
    fed : Fed tells left faults name before after (x.gave j)

  some_at : (xs : List (LegInlet S)) (j : ℕ) → j < length xs → (i : LegInlet S) × (slice_get xs j ≡ Some i)
  some_at [] j low = absurd (omega arith)
  some_at (y ∷ xs) zero low = (y, refl)
  some_at (y ∷ xs) (suc j) low = some_at xs j (omega arith)

  abbrev at_leg : (j : ℕ) (k : LegInlet S) → slice_get new j ≡ Some k → OfLeg j
  at_leg j k e = let g = x.legs j k e in record { before = g.first; after = k; was = g.of; fed = g.gives }

  of : (j : ℕ) → j < s.legs → OfLeg j
  of j low = let r = some_at new j (omega (arith, low, legs, same)) in at_leg j r.0 r.1

  -- a leg that was read without a failure did not end at one of its source
  calm_end : (j : ℕ) → j < s.legs → (a : MixEnd DumpFault T) → TellsMixing a s tick turns parts x.table → IsReadWell a j → is_source_fault (x.gave j).ended ≡ false
  calm_end j low mixing.Over w r = ap is_source_fault (w.1 j low)
  calm_end j low mixing.TooLong w r = ap is_source_fault (w.1 j low)
  calm_end j low (mixing.Stopped why) w r = absurd r
  calm_end j low (mixing.Faulted leg fault) w r = go (is_of_source fault.kind) refl r
    where
      go : (b : Bool) → is_of_source fault.kind ≡ b → j < cond b leg (leg + 1) → is_source_fault (x.gave j).ended ≡ false
      go true e below = ap is_source_fault (w.lowest j below)
      go false e below = elim (lt_or_ge j leg) [
        | inl lower ↦ ap is_source_fault (w.lowest j lower)
        | inr high ↦
            let here : j ≡ leg = omega (arith, below, high) in
            ap (λ (k : ℕ). is_source_fault (x.gave k).ended) here ∙ (ap is_source_fault w.is ∙ e)
      ]

  sources_kept : (j : ℕ) (i k : LegInlet S) → slice_get old j ≡ Some i → slice_get new j ≡ Some k → SourceKept faults name answer j (source_in i) (source_in k)
  sources_kept j i k was now =
      let o = at_leg j k now in
      let here : o.before ≡ i = cc (sym o.was ∙ was) in
      let fed : Fed tells left faults name i k (x.gave j) = subst (λ (y : LegInlet S). Fed tells left faults name y k (x.gave j)) here o.fed in
      record {
        never_falls = fed.never_falls;
        same_name = fed.same_name;
        read = λ fault e kind. fed.read fault (subst (λ (a : MixEnd DumpFault T). TellsMixing a s tick turns parts x.table) e x.tells).is kind;
        calm = λ r. fed.calm (calm_end j (let low = get_within old j i was in omega (arith, low, legs)) answer x.tells r);
      }

  module _ (t : tells) (asked : ℕ → Asked) (chunks : ℕ → List Chunk) (asks : AllAsked left asked old) (are : AreChunks s asked chunks) where
    gives : (j : ℕ) (o : OfLeg j) → GivesAs left o.after.leg (asked j) (x.gave j).chunks (x.gave j).ended
    gives j o = o.fed.gives t (asked j) (asks j o.before o.was)

    -- a leg that was read to its end
    ended : (j : ℕ) → j < s.legs → (x.gave j).ended ≡ AtEnd → ((x.gave j).chunks ≡ chunks_asked (asked j)) × ((recording_asked (asked j)).fault ≡ None)
    ended j low e =
        let o = of j low in
        subst (λ (y : TextsEnd DumpFault). GivesAs left o.after.leg (asked j) (x.gave j).chunks y) e (gives j o)

    whole : (n : ℕ) → n ≤ s.legs → AllAtEnd n parts → AllWhole n asked
    whole n few all j low = (ended j (omega arith) (all j low)).1

    all_chunks : AllAtEnd s.legs parts → (λ j. (parts j).chunks) ≡ chunks
    all_chunks all = funext (λ j. (parts j).chunks) chunks (λ j. elim (lt_or_ge j s.legs) [
      | inl low ↦ ap (λ cs. map (of_leg j) (in_stay s j cs)) (ended j low (all j low)).0 ∙ sym (are.legs j low)
      | inr high ↦ ap (λ (g : Gave DumpFault). (part_of s j g).chunks) (x.above j high) ∙ sym (are.above j high)
    ])

    answers : (a : MixEnd DumpFault T) → TellsMixing a s tick turns parts x.table → IsAnswer a s tick turns asked chunks x.table
    answers mixing.Over w = (ap (plain s tick turns) (sym (all_chunks w.1)) ∙ w.0, whole s.legs (omega arith) w.1)
    answers mixing.TooLong w = (ap (plain s tick turns) (sym (all_chunks w.1)) ∙ w.0, whole s.legs (omega arith) w.1)
    answers (mixing.Stopped why) w = tt
    answers (mixing.Faulted leg fault) w = (
      w.below,
      (let o = of leg w.below in subst (λ (y : TextsEnd DumpFault). GivesAs left o.after.leg (asked leg) (x.gave leg).chunks y) w.is (gives leg o)),
      whole leg (let b = w.below in omega (arith, b)) w.lowest,
    )

  pub plain_mixed : PlainMixed mixes tells left faults name s tick turns answer old new m
  plain_mixed = record {
    table = x.table;
    mixed = x.mixed;
    within = λ leg fault is. (let t = subst (λ (a : MixEnd DumpFault T). TellsMixing a s tick turns parts x.table) is x.tells in t.below);
    sources = sources_kept;
    is = λ t asked chunks asks are. answers t asked chunks asks are answer x.tells;
  }
