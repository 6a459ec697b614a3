-- What mixing recordings answers.
use Rattle.std.proofs.Common.{◌≡◌, ℕ, zero, suc, ◌+◌, ◌<◌, true, false, Option, Some, None, List, [], ◌∷◌, length, map, Result, Ok, Err, refl, ap, sym, subst, ◌∙◌, arith}
use Rattle.std.specs.Prelude.{IfErr, IfOk}
use Rattle.std.specs.List.{concat, enumerate_from}
use Rattle.std.proofs.lemmas.List.{length-map}
use Rattle.std.specs.Option.{option_map}
use Rattle.wire_spec.specs.Dump.{dump, dump_written}
use Rattle.wire_spec.specs.Dump as dumps
use Rattle.wire_spec.specs.declared.faults.DumpKind.{DumpKind}
use Rattle.wire_spec.specs.declared.faults.DumpKind.TheVariants.{NotDump, BadLength, EndsInside, TooLarge, Read}
use Rattle.rtpdump_io.specs.declared.items.DumpFault.{DumpFault}
use Rattle.rtt_base.specs.declared.errors.NoMemory as memory
use Rattle.rtpdump_io.specs.Reading.{is_of_source}
use Rattle.file_spec.specs.declared.conference_lines.LegLine.{LegLine}
use Rattle.file_spec.specs.Conference.{Conference}
use Rattle.mixer_spec.specs.Setups.{Setup, leg_at, setup, ssrc_of, is_long}
use Rattle.mixer_spec.specs.Table.{Call, Table}
use Rattle.mixer_spec.specs.Plain.{plain}
use Rattle.mixer_spec.specs.Bridged.{input_limit, leg_chunks}
use Rattle.command_spec.specs.declared.faults.Refusal.TheVariants.{AtByte, AfterTurns}
use Rattle.command_spec.specs.Work.{Made, Steps, Refuses, Makes}
use Rattle.command_spec.specs.Mixing.{input_at, makes, mixes, out_of, outs, records_to, unless_one_broken, views}
use Rattle.command_spec.specs.Sums.{sums}
use Rattle.mix_loop.specs.declared.turns.MixEnd.{MixEnd}
use Rattle.mix_loop.specs.declared.turns.MixEnd.TheVariants as mixing
use Rattle.sent_log.specs.Files.{recordings_of}
use Rattle.rtt_mix.specs.Logs.{LogOf, out_at}
use Rattle.receiver.specs.Cuts.{cut_within}
use Rattle.leg.specs.declared.inlets.LegInlet.{LegInlet}
use Rattle.leg.specs.Answers.{AllAsked, AllWhole, AreChunks, AreOfConference, IsAnswer, IsReadWell, PlainMixed, SourceKept, source_in}
use Rattle.leg.proofs.OfConferences.{asked_law}
use Rattle.mixer_posts.specs.Streams.{payload_types_at, payload_types_of}
use Rattle.sent_log.specs.States.{State, recording_of}
use Rattle.rtt_mix.specs.declared.results.MixFault.{MixFault}
use Rattle.rtt_mix.specs.declared.results.MixFault.TheVariants.{Dump, NoMemory}
use Rattle.rtt_mix.specs.declared.results.Mixed.{Mixed}
use Rattle.rtt_mix.specs.Answered.{AreKept, IsKept, IsOfLegs, MixesTo, WasReadWell, asked_of}
use Rattle.rtt_mix.specs.Mixes.{counted, outputs_of}
use Rattle.command_spec.proofs.SentBack.{below_legs as leg_within}

-- ---- the recordings
whole_steps : (limit n : ℕ) (inputs : List (List ℕ)) (steps : Steps) → ((k : ℕ) → k < length inputs → (dump limit (input_at inputs k)).fault ≡ None)
    → unless_one_broken limit n inputs steps ≡ steps
whole_steps limit n [] steps w = refl
whole_steps limit n (o ∷ os) steps w =
    let P : Option dumps.Fault → Steps = λ f. elim f [ None ↦ unless_one_broken limit (suc n) os steps | Some fault ↦ Refuses n (AtByte fault.byte fault.kind) ] in
    ap P (w 0 (omega arith)) ∙ whole_steps limit (suc n) os steps (λ k l. w (suc k) (omega arith))

pub broken_steps : (limit n : ℕ) (inputs : List (List ℕ)) (steps : Steps) (k : ℕ) (fault : dumps.Fault) → k < length inputs
    → ((i : ℕ) → i < k → (dump limit (input_at inputs i)).fault ≡ None) → (dump limit (input_at inputs k)).fault ≡ Some fault
    → unless_one_broken limit n inputs steps ≡ Refuses (k + n) (AtByte fault.byte fault.kind)
broken_steps limit n [] steps k fault l w b = absurd (omega arith)
broken_steps limit n (o ∷ os) steps zero fault l w b =
    let P : Option dumps.Fault → Steps = λ f. elim f [ None ↦ unless_one_broken limit (suc n) os steps | Some fault ↦ Refuses n (AtByte fault.byte fault.kind) ] in
    let here : n ≡ 0 + n = omega arith in
    ap P b ∙ ap (λ i. Refuses i (AtByte fault.byte fault.kind)) here
broken_steps limit n (o ∷ os) steps (suc k) fault l w b =
    let P : Option dumps.Fault → Steps = λ f. elim f [ None ↦ unless_one_broken limit (suc n) os steps | Some fault ↦ Refuses n (AtByte fault.byte fault.kind) ] in
    let there : k + suc n ≡ suc k + n = omega arith in
    ap P (w 0 (omega arith)) ∙ (broken_steps limit (suc n) os steps k fault (omega arith) (λ i l. w (suc i) (omega arith)) b
    ∙ ap (λ i. Refuses i (AtByte fault.byte fault.kind)) there)

-- ---- the outputs
outs_from : (c : Conference) (table : Table) (n : ℕ) (legs : List LegLine) (logs : List (List ℕ)) → length logs ≡ length legs
    → ((i : ℕ) (leg : LegLine) → leg_at legs i ≡ Some leg → out_at logs i ≡ dump_written (records_to c table (i + n) leg))
    → outputs_of legs logs ≡ map (λ x. out_of c table x.0 x.1) (enumerate_from n legs)
outs_from c table n [] logs same h = refl
outs_from c table n (l ∷ ls) [] same h = absurd (omega arith)
outs_from c table n (l ∷ ls) (o ∷ os) same h =
    let here : 0 + n ≡ n = omega arith in
    let made : List ℕ → Made = λ octets. record { name = l.output; octets = octets } in
    let head = ap made (h 0 l refl ∙ ap (λ j. dump_written (records_to c table j l)) here) in
    let next : suc n ≡ n + 1 = omega arith in
    let tail = outs_from c table (suc n) ls os (omega arith) (λ i leg at. (let there : suc i + n ≡ i + suc n = omega arith in
    h (suc i) leg at ∙ ap (λ j. dump_written (records_to c table j leg)) there)) in
    ap (λ (x : Made). x ∷ outputs_of ls os) head
    ∙ ap (λ xs. out_of c table n l ∷ xs) (tail ∙ ap (λ k. map (λ x. out_of c table x.0 x.1) (enumerate_from k ls)) next)

-- what was sent to the terminal of a leg
pub sent_at : (c : Conference) (table : Table) (logs : List (List ℕ)) (i : ℕ) (leg : LegLine) → LogOf (payload_types_at c) (setup c) table logs → leg_at c.legs i ≡ Some leg
    → out_at logs i ≡ dump_written (records_to c table i leg)
sent_at c table logs i leg log at =
    let same : payload_types_at c i ≡ leg.payload_types = ap payload_types_of at in
    log i (leg_within c.legs i leg at) ∙ ap (λ payload_types. dump_written (records_to c table i (record leg { payload_types = payload_types }))) same

pub outs_are : (c : Conference) (table : Table) (logs : List (List ℕ)) → length logs ≡ length c.legs → LogOf (payload_types_at c) (setup c) table logs → outputs_of c.legs logs ≡ outs c table
outs_are c table logs same log = outs_from c table 0 c.legs logs same (λ i leg at. (let none : i ≡ i + 0 = omega arith in
    sent_at c table logs i leg log at ∙ ap (λ j. dump_written (records_to c table j leg)) none))

-- ---- the answers
module _ (c : Conference) (inputs : List (List ℕ)) (legs : length inputs ≡ length c.legs) where
  whole : AllWhole (length c.legs) (asked_of c inputs) → mixes c inputs ≡ makes c (plain (setup c) c.tick c.turns (leg_chunks c (input_at inputs)))
  whole w = whole_steps (input_limit c) 1 inputs (makes c (plain (setup c) c.tick c.turns (leg_chunks c (input_at inputs)))) (λ k l. w k (omega (arith, l, legs)))

  pub over_makes : (table : Table) (logs : List (List ℕ)) (seen : List ℕ) → length logs ≡ length c.legs
      → IsAnswer {T = memory.NoMemory} mixing.Over (setup c) c.tick c.turns (asked_of c inputs) (leg_chunks c (input_at inputs)) table → LogOf (payload_types_at c) (setup c) table logs → seen ≡ views c table
      → mixes c inputs ≡ Makes seen (outputs_of c.legs logs)
  over_makes table logs seen same answer log is =
      whole answer.1 ∙ (ap (makes c) answer.0 ∙ (ap (λ v. Makes v (outs c table)) (sym is) ∙ ap (Makes seen) (sym (outs_are c table logs same log))))

  pub too_long_refuses : (table : Table) → IsAnswer {T = memory.NoMemory} mixing.TooLong (setup c) c.tick c.turns (asked_of c inputs) (leg_chunks c (input_at inputs)) table
      → mixes c inputs ≡ Refuses 0 (AfterTurns c.turns)
  too_long_refuses table answer = whole answer.1 ∙ ap (makes c) answer.0

  pub broken_refuses : (table : Table) (leg : ℕ) (fault : DumpFault) → IsAnswer {T = memory.NoMemory} (mixing.Faulted leg fault) (setup c) c.tick c.turns (asked_of c inputs) (leg_chunks c (input_at inputs)) table
      → is_of_source fault.kind ≡ false → mixes c inputs ≡ Refuses (leg + 1) (AtByte fault.offset fault.kind)
  broken_refuses table leg fault answer none =
      broken_steps (input_limit c) 1 inputs (makes c (plain (setup c) c.tick c.turns (leg_chunks c (input_at inputs)))) leg (record { byte = fault.offset; kind = fault.kind })
      (omega (arith, answer.0, legs)) answer.2 (answer.1 none)

  pub over_mixes : (result : Result Mixed MixFault) (table : Table) (log : State) → length log ≡ length c.legs
      → IsAnswer {T = memory.NoMemory} mixing.Over (setup c) c.tick c.turns (asked_of c inputs) (leg_chunks c (input_at inputs)) table → LogOf (payload_types_at c) (setup c) table (recordings_of log)
      → IfOk result (λ mixed. concat mixed.views.items ≡ views c table) → IfOk result (λ mixed. counted mixed ≡ sums c table) → IfOk result (λ mixed. mixed.outs ≡ log) → IfErr result (λ fault. fault ≡ NoMemory)
      → MixesTo c inputs result
  over_mixes (Ok mixed) table log same answer logged is sum out fault = record {
    makes =
        (let seen = concat mixed.views.items in
        over_makes table (recordings_of log) seen (length-map log recording_of ∙ same) answer logged is ∙ ap (λ (outs : State). Makes seen (outputs_of c.legs (recordings_of outs))) (sym out));
    sums = ap (option_map (sums c)) answer.0 ∙ ap Some (sym sum);
  }
  over_mixes (Err f) table log same answer logged is sum out fault = subst (λ x. MixesTo c inputs (Err x)) (sym fault) tt

-- what the legs of a conference are asked for
pub are_of_settings : (c : Conference) (inputs : List (List ℕ)) → AreOfConference c (input_at inputs) (asked_of c inputs)
are_of_settings c inputs = λ j l at.
    ap (λ (o : Option LegLine). record {
      settings = record { ssrc = ssrc_of o; payload_types = payload_types_of o; wait = c.wait; long = is_long o; cut = cut_within c.mtu };
      limit = input_limit c;
      octets = input_at inputs j;
    }) at

are_chunks : (c : Conference) (inputs : List (List ℕ)) → AreChunks (setup c) (asked_of c inputs) (leg_chunks c (input_at inputs))
are_chunks c inputs = asked_law c (input_at inputs) (asked_of c inputs) (are_of_settings c inputs)

-- ---- sources
pub source_read : (kind : DumpKind) → is_of_source kind ≡ true → kind ≡ Read
source_read NotDump e = absurd (cc e)
source_read BadLength e = absurd (cc e)
source_read EndsInside e = absurd (cc e)
source_read DumpKind.TooLong e = absurd (cc e)
source_read TooLarge e = absurd (cc e)
source_read Read e = refl

module _ {S : Type 0} where
  pub kept : {T : Type 0} (faults : S → ℕ) (name : S → List ℕ) (answer : MixEnd DumpFault T) (result : Result Mixed MixFault) (j : ℕ) (old new : S)
      → ((fault : DumpFault) → result ≡ Err (Dump j fault) → answer ≡ mixing.Faulted j fault) → (WasReadWell result j → IsReadWell answer j)
      → SourceKept faults name answer j old new → IsKept faults name result j old new
  kept faults name answer result j old new same well k = record {
    never_falls = k.never_falls;
    same_name = k.same_name;
    read = λ fault is source. k.read fault (same fault is) (source_read fault.kind source);
    calm = λ w. k.calm (well w);
  }

  -- The answer of plain mixing as that of the conference.
  module _ {M T : Type 0} (mixes_by : M → Setup → List Call → Type 0) (tells : Type 0) (left : S → List ℕ) (faults : S → ℕ) (name : S → List ℕ)
      (c : Conference) (tick turns : ℕ) (answer : MixEnd DumpFault T) (old new : List (LegInlet S)) (m : M)
      (x : PlainMixed mixes_by tells left faults name (setup c) tick turns answer old new m) (is_tick : tick ≡ c.tick) (is_turns : turns ≡ c.turns) where
    pub is_answer : (said : MixEnd DumpFault T) → answer ≡ said → tells → (inputs : List (List ℕ)) → AllAsked left (asked_of c inputs) old
        → IsAnswer said (setup c) c.tick c.turns (asked_of c inputs) (leg_chunks c (input_at inputs)) x.table
    is_answer said is t inputs asks =
        subst (λ k. IsAnswer said (setup c) c.tick k (asked_of c inputs) (leg_chunks c (input_at inputs)) x.table) is_turns
        (subst (λ k. IsAnswer said (setup c) k turns (asked_of c inputs) (leg_chunks c (input_at inputs)) x.table) is_tick
        (subst (λ (a : MixEnd DumpFault T). IsAnswer a (setup c) tick turns (asked_of c inputs) (leg_chunks c (input_at inputs)) x.table) is
        (x.is t (asked_of c inputs) (leg_chunks c (input_at inputs)) asks (are_chunks c inputs))))

    pub all_kept : (result : Result Mixed MixFault) → ((j : ℕ) (fault : DumpFault) → result ≡ Err (Dump j fault) → answer ≡ mixing.Faulted j fault) → ((j : ℕ) → WasReadWell result j → IsReadWell answer j)
        → AreKept faults name result old new
    all_kept result same well = λ j i k a b. kept faults name answer result j (source_in i) (source_in k) (same j) (well j) (x.sources j i k a b)

pub no_dump : (result : Result Mixed MixFault) (leg : ℕ) (fault : DumpFault) → IfErr result (λ fault. fault ≡ NoMemory) → result ≡ Err (Dump leg fault) → ⊥
no_dump (Ok mixed) leg fault none e = cc e
no_dump (Err f) leg fault none e = cc (e, none)

pub of_legs : (result : Result Mixed MixFault) (n : ℕ) → IfErr result (λ fault. fault ≡ NoMemory) → IsOfLegs n result
of_legs (Ok mixed) n none = tt
of_legs (Err f) n none = subst (λ (x : MixFault). IsOfLegs n (Err x)) (sym none) tt
