-- A leg that reads a record, and one that gives what is heard.
use Rattle.std.proofs.Common.{◌≡◌, ◌≢◌, ℕ, ◌+◌, ◌≤◌, ◌<◌, true, false, Some, None, Ok, Err, List, [], ◌∷◌, ◌++◌, refl, ap, sym, ◌∙◌, arith, subst}
use Rattle.std.proofs.lemmas.Bool.{true≢false}
use Rattle.std.proofs.lemmas.List.{append-nil}
use Rattle.wire_spec.specs.Packets.{Arrival}
use Rattle.wire_spec.specs.Dump.{Recording, with_item, with_arrival}
use Rattle.file_spec.specs.Primaries.{primary_limit}
use Rattle.stream_spec.specs.Ready.{Chunk, chunks}
use Rattle.reorder_buffer.specs.Stories.{Story, Given, ended}
use Rattle.rtpdump_io.specs.declared.items.DumpFault.{DumpFault}
use Rattle.rtpdump_io.specs.declared.items.DumpItem.{DumpItem}
use Rattle.rtpdump_io.specs.declared.items.DumpItem.TheVariants.{Packet, Rtcp, Cut, Large, End}
use Rattle.rtpdump_io.specs.declared.readers.DumpReader.{DumpReader}
use Rattle.rtpdump_io.specs.Reading.{Gives, nothing, to_come, is_ended, most_answers, IsFaultOf}
use Rattle.rtpdump_io.specs.Reading as reading
use Rattle.rtpdump_io.specs.Answers.{record_of, is_end}
use Rattle.rtpdump_io.proofs.Records.{gives_item, not_last}
use Rattle.rtpdump_io.proofs.Told.{gives_fault}
use Rattle.receiver.specs.declared.answers.PlainAnswer.{PlainAnswer}
use Rattle.receiver.specs.declared.answers.PlainAnswer.TheVariants as answers
use Rattle.receiver.specs.declared.settings.EarSettings.{EarSettings}
use Rattle.receiver.specs.declared.ears.Ear.{Ear}
use Rattle.receiver.specs.Hears.{IsGiving, Becomes, GivesChunk, GivesNone, GaveReady, AllReady, IsToldOf, IsReadyAtEnd, arrival_count, is_finished, text_for}
use Rattle.receiver.specs.Cuts.{chunks_given}
use Rattle.receiver.proofs.ReadyBy.{told_arrived}
use Rattle.leg.specs.declared.legs.Leg.{Leg}
use Rattle.leg.specs.Sound.{FewCame, EndsWith}
use Rattle.leg.specs.Items.{after_item, GivesItem}
use Rattle.leg.specs.Gives.{LegPast, gave_chunk, recording_of, chunks_of, IsRead, IsWhole, Phase, Within, Behind, Stands, came_after}

-- what was heard where it lies is a plain packet
pub one_is_plain : (a : PlainAnswer) → a ≡ answers.Chunk → a ≢ answers.NotPlain
one_is_plain a e q = clash (sym e ∙ q)
  where
    clash : answers.Chunk ≡ answers.NotPlain → ⊥
    clash r = cc

pub none_is_plain : (a : PlainAnswer) → a ≡ answers.Nothing → a ≢ answers.NotPlain
none_is_plain a e q = clash (sym e ∙ q)
  where
    clash : answers.Nothing ≡ answers.NotPlain → ⊥
    clash r = cc

-- ---- what is always so
pub still_giving : (old new : Ear) (c : Chunk) → GivesChunk old new c → IsGiving old → IsGiving new
still_giving old new c g i = let m = g i.0 i.1 i.2 i.3 i.4 in (i.0, i.1, record i.2 { given = m.0 }, i.3 ++ c ∷ [], m.1)

pub rests_giving : (old new : Ear) → GivesNone old new → IsGiving old → IsGiving new
rests_giving old new g i = let m = g i.0 i.1 i.2 i.3 i.4 in (i.0, i.1, record i.2 { given = m.0 }, i.3, m.1)

pub item_giving : (old new : Ear) (item : DumpItem) (octets : List ℕ) (more : List Chunk) → GivesItem old new item octets more → IsGiving old → IsGiving new
item_giving old new item octets more g i = let m = g i.0 i.1 i.2 i.3 i.4 in (i.0, i.1, record (after_item i.0 i.2 item octets) { given = m.0 }, i.3 ++ more, m.1)

pub becomes_giving : (old new : Ear) (f : EarSettings → Story → Story) → Becomes old new f → IsGiving old → IsGiving new
becomes_giving old new f b i = (i.0, i.1, f i.0 i.2, i.3, b.gave i.0 i.1 i.2 i.3 i.4)

open_item : (item : DumpItem) → reading.is_last (Ok item) ≡ false → is_end item ≡ false
open_item (Packet at) e = refl
open_item (Rtcp at) e = refl
open_item (Cut at) e = refl
open_item (Large at) e = refl
open_item End e = e

module _ {S : Type 0} where
  pub reads_few : (before after : DumpReader S) (old new : Ear) → FewCame before old → most_answers after < most_answers before → arrival_count new ≤ arrival_count old + 1 → FewCame after new
  reads_few before after old new s n a = omega (arith, n, a, s)

  pub reads_ends : (after : DumpReader S) (new : Ear) (item : DumpItem) → is_ended after ≡ reading.is_last (Ok item) → is_finished new ≡ is_end item → EndsWith after new
  reads_ends after new item e d o = d ∙ open_item item (sym e ∙ o)

-- ---- what is given
module _ {S : Type 0} (left : S → List ℕ) where
  moved : (reader : DumpReader S) (past : LegPast) (story : Story) (c : Chunk) (given : List Given) → Phase left reader past story → Phase left reader (gave_chunk past c) (record story { given = given })
  moved reader past story c given (Within o r) = Within o (record { came = r.came; told = record { arrivals = r.told.arrivals; moment = r.told.moment }; same = r.same; fault = r.fault })
  moved reader past story c given (Behind e w) = Behind e (record { came = w.came; ready = w.ready; no_fault = w.no_fault })

  waits : (reader : DumpReader S) (past : LegPast) (story : Story) (given : List Given) → Phase left reader past story → Phase left reader past (record story { given = given })
  waits reader past story given (Within o r) = Within o (record { came = r.came; told = record { arrivals = r.told.arrivals; moment = r.told.moment }; same = r.same; fault = r.fault })
  waits reader past story given (Behind e w) = Behind e (record { came = w.came; ready = w.ready; no_fault = w.no_fault })

  pub gives_chunk : (l m : Leg S) (c : Chunk) → m.reader ≡ l.reader → GivesChunk l.ear m.ear c → (past : LegPast) → Stands left l past → Stands left m (gave_chunk past c)
  gives_chunk l m c r g past s =
      let more = g past.settings past.settings.ssrc s.story past.gave s.gave in
      record { story = record s.story { given = more.0 }; gave = more.1; phase = subst (λ (q : DumpReader S). Phase left q (gave_chunk past c) (record s.story { given = more.0 })) (sym r) (moved l.reader past s.story c more.0 s.phase) }

  pub gives_none : (l m : Leg S) → m.reader ≡ l.reader → GivesNone l.ear m.ear → (past : LegPast) → Stands left l past → Stands left m past
  gives_none l m r g past s =
      let more = g past.settings past.settings.ssrc s.story past.gave s.gave in
      record { story = record s.story { given = more.0 }; gave = more.1; phase = subst (λ (q : DumpReader S). Phase left q past (record s.story { given = more.0 })) (sym r) (waits l.reader past s.story more.0 s.phase) }

  pub gives_end : (l : Leg S) → is_ended l.reader ≡ true → GaveReady l.ear → (past : LegPast) → Stands left l past → (past.gave ≡ chunks_of past) × ((recording_of past).fault ≡ None)
  gives_end l e g past s = go s.phase
    where
      go : Phase left l.reader past s.story → (past.gave ≡ chunks_of past) × ((recording_of past).fault ≡ None)
      go (Within o r) = absurd (true≢false (sym e ∙ o))
      go (Behind f w) = (g past.settings past.settings.ssrc s.story past.gave s.gave ∙ (w.ready ∙ ap (λ (a : List Arrival). chunks_given past.settings.cut (chunks past.settings.wait 0 a past.settings.ssrc)) w.came), w.no_fault)

  -- ---- what is read
  reads_on : (past : LegPast) (story : Story) (item : DumpItem) (out : List ℕ) (before rest : Recording) → IsRead past story before → before ≡ with_item (record_of item out) rest → is_end item ≡ false → IsRead past (after_item past.settings story item out) rest
  reads_on past story item out before rest r e n = record {
    came = with_arrival (primary_limit past.settings.long) past.settings.ssrc past.settings.payload_types (record_of item out) r.came;
    told = told item n;
    same = ap (λ (q : Recording). came_after past.settings r.came q.items) (sym e) ∙ r.same;
    fault = ap (λ (q : Recording). q.fault) (sym e) ∙ r.fault;
  }
    where
      told : (i : DumpItem) → is_end i ≡ false → IsToldOf (after_item past.settings story i out) (with_arrival (primary_limit past.settings.long) past.settings.ssrc past.settings.payload_types (record_of i out) r.came)
      told (Packet at) e = told_arrived story r.came at (text_for past.settings out) r.told
      told (Rtcp at) e = r.told
      told (Cut at) e = r.told
      told (Large at) e = r.told
      told End e = absurd (true≢false e)

  reads_end : (past : LegPast) (story : Story) (before : Recording) → IsRead past story before → before ≡ nothing → IsReadyAtEnd past.settings story → IsWhole past (ended story)
  reads_end past story before r e d = record {
    came = r.told.arrivals ∙ (ap (λ (q : Recording). came_after past.settings r.came q.items) (sym e) ∙ r.same);
    ready = d.chunks past.settings.ssrc;
    no_fault = sym r.fault ∙ ap (λ (q : Recording). q.fault) e;
  }

  reading_yet : (reader : DumpReader S) (past : LegPast) (story : Story) → is_ended reader ≡ false → Phase left reader past story → IsRead past story (to_come left reader)
  reading_yet reader past story o (Within p r) = r
  reading_yet reader past story o (Behind e w) = absurd (true≢false (sym e ∙ o))

  pub reads_item : (l m : Leg S) (item : DumpItem) (out : List ℕ) → is_ended l.reader ≡ false → Gives (Ok item) out (to_come left l.reader) (to_come left m.reader) → is_ended m.reader ≡ reading.is_last (Ok item)
      → Becomes l.ear m.ear (λ settings story. after_item settings story item out) → (item ≡ End → AllReady l.ear) → (past : LegPast) → Stands left l past → Stands left m past
  reads_item l m item out o g e b all past s = record { story = after_item past.settings s.story item out; gave = b.gave past.settings past.settings.ssrc s.story past.gave s.gave; phase = go item refl g e }
    where
      r : IsRead past s.story (to_come left l.reader)
      r = reading_yet l.reader past s.story o s.phase

      on : (i : DumpItem) → is_end i ≡ false → Gives (Ok i) out (to_come left l.reader) (to_come left m.reader) → is_ended m.reader ≡ reading.is_last (Ok i) → Phase left m.reader past (after_item past.settings s.story i out)
      on i n h f = Within (f ∙ not_last i n) (reads_on past s.story i out (to_come left l.reader) (to_come left m.reader) r (gives_item i out (to_come left l.reader) (to_come left m.reader) n h) n)

      go : (i : DumpItem) → item ≡ i → Gives (Ok i) out (to_come left l.reader) (to_come left m.reader) → is_ended m.reader ≡ reading.is_last (Ok i) → Phase left m.reader past (after_item past.settings s.story i out)
      go (Packet at) q h f = on (Packet at) refl h f
      go (Rtcp at) q h f = on (Rtcp at) refl h f
      go (Cut at) q h f = on (Cut at) refl h f
      go (Large at) q h f = on (Large at) refl h f
      go End q h f = Behind f (reads_end past s.story (to_come left l.reader) r h (all q past.settings (past.settings.ssrc ∷ []) s.story s.gave.hears))

  -- the record was told, and these chunks were given
  given_more : (reader : DumpReader S) (past : LegPast) (story : Story) (more : List Chunk) (given : List Given) → Phase left reader past story → Phase left reader (record past { gave = past.gave ++ more }) (record story { given = given })
  given_more reader past story more given (Within o r) = Within o (record { came = r.came; told = record { arrivals = r.told.arrivals; moment = r.told.moment }; same = r.same; fault = r.fault })
  given_more reader past story more given (Behind e w) = Behind e (record { came = w.came; ready = w.ready; no_fault = w.no_fault })

  pub hears_item : (l m : Leg S) (item : DumpItem) (out : List ℕ) (more : List Chunk) → is_ended l.reader ≡ false → Gives (Ok item) out (to_come left l.reader) (to_come left m.reader) → is_ended m.reader ≡ reading.is_last (Ok item) → is_end item ≡ false
      → GivesItem l.ear m.ear item out more → (past : LegPast) → Stands left l past → Stands left m (record past { gave = past.gave ++ more })
  hears_item l m item out more o g e n gives past s =
      let r = reading_yet l.reader past s.story o s.phase in
      let told = after_item past.settings s.story item out in
      let after = gives past.settings past.settings.ssrc s.story past.gave s.gave in
      let read = reads_on past s.story item out (to_come left l.reader) (to_come left m.reader) r (gives_item item out (to_come left l.reader) (to_come left m.reader) n g) n in
      record { story = record told { given = after.0 }; gave = after.1; phase = given_more m.reader past told more after.0 (Within (e ∙ not_last item n) read) }

  pub hears_nothing : (l m : Leg S) (item : DumpItem) (out : List ℕ) → is_ended l.reader ≡ false → Gives (Ok item) out (to_come left l.reader) (to_come left m.reader) → is_ended m.reader ≡ reading.is_last (Ok item) → is_end item ≡ false
      → GivesItem l.ear m.ear item out [] → (past : LegPast) → Stands left l past → Stands left m past
  hears_nothing l m item out o g e n gives past s =
      subst (λ (gave : List Chunk). Stands left m (record past { gave = gave })) (append-nil past.gave) (hears_item l m item out [] o g e n gives past s)

  pub reads_fault : (l : Leg S) (fault : DumpFault) (out : List ℕ) (rest : Recording) → is_ended l.reader ≡ false → Gives (Err fault) out (to_come left l.reader) rest → (past : LegPast) → Stands left l past → IsFaultOf (recording_of past) fault
  reads_fault l fault out rest o g past s not_read =
      let r = reading_yet l.reader past s.story o s.phase in
      sym r.fault ∙ gives_fault fault out (to_come left l.reader) rest g not_read
