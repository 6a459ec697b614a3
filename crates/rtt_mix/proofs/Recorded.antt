-- What was sent by a mixer whose packets are noted is heard and written as it was sent.
use Rattle.std.proofs.Common.{◌≡◌, ℕ, zero, suc, ◌<◌, ◌≤◌, ◌^◌, Some, List, [], ◌∷◌, ◌++◌, length, map, refl, ap, sym, subst, ◌∙◌, arith}
use Rattle.std.specs.Prelude.{All, slice_get, slice_index_or}
use Rattle.std.proofs.lemmas.List.{length-map, map-append}
use Rattle.std.proofs.lemmas.Option.{same_Some, slice_get-get_or}
use Rattle.std.specs.List.{AllByRecursion}
use Rattle.file_spec.specs.declared.conference_lines.LegLine.{LegLine}
use Rattle.file_spec.specs.Conference.{Conference}
use Rattle.rtt_base.specs.declared.text_packets.PayloadTypes.{PayloadTypes}
use Rattle.wire_spec.specs.Dump.{dump_written}
use Rattle.stream_spec.specs.Own.{Sent}
use Rattle.packetizer.specs.declared.outputs.PacketizerSettings.{PacketizerSettings}
use Rattle.packetizer.specs.OutputSettings.{stream_of}
use Rattle.packetizer.specs.Sending.{octets_of}
use Rattle.packetizer.specs.Speakers.{EachIsNext}
use Rattle.mixer_spec.specs.Setups.{leg_at, setup, stream}
use Rattle.mixer_spec.specs.Table.{Table, TurnEntry, Call, Admit, Hush, Leave, Offer, Turn, after_calls, packets}
use Rattle.mixer_spec.specs.Table as tables
use Rattle.command_spec.specs.Mixing as commands
use Rattle.mix_loop.specs.Mixers.{At, Of}
use Rattle.mixer.specs.Early.{AreEarly}
use Rattle.mixer.proofs.Nexts.{each_is_next}
use Rattle.mixer.proofs.Recording.{AreRecords, IsShortRecord, mixer_records}
use Rattle.mixer_posts.specs.States.{SendingState}
use Rattle.mixer_posts.specs.Standing.{AreBefore}
use Rattle.mixer_posts.specs.Streams.{settings_at, payload_types_at, payload_types_of}
use Rattle.mixer_posts.proofs.Entering.{entered_law}
use Rattle.rtpdump_io.specs.InMemory.{IsRecord}
use Rattle.sent_log.specs.States.{Sending, State, recording_of, records_of, sents}
use Rattle.playback.specs.Written.{IsPlayable, IsWrittenOf}
use Rattle.sent_log.specs.Files.{recording_at, recordings_of}
use Rattle.rtt_mix.specs.Logs.{LogOf, out_at, records, records_to}
use Rattle.rtt_mix.specs.Loggers.{RecordsFor}
use Rattle.rtt_mix.specs.Viewed.{AreSent}
use Rattle.mixer_spec.proofs.Plain.{leg_there as found_leg}
use Rattle.sent_log.proofs.Recorded.{terminal_there as found_at}

-- ---- lists
read_leg : (legs : List LegLine) (j : ℕ) (d leg : LegLine) → leg_at legs j ≡ Some leg → slice_index_or legs j d ≡ leg
read_leg [] j d leg at = absurd (cc at)
read_leg (x ∷ legs) zero d leg at = cc at
read_leg (x ∷ legs) (suc j) d leg at = read_leg legs j d leg at

-- the recording of a terminal, as it is read in two ways
pub read_recording : (log : State) (j : ℕ) (x : Sending) → slice_get log j ≡ Some x → recording_at log j ≡ recording_of x
read_recording [] j x at = absurd (cc at)
read_recording (y ∷ log) zero x at = ap recording_of (same_Some y x at)
read_recording (y ∷ log) (suc j) x at = read_recording log j x at

read_out : (log : State) (j : ℕ) (x : Sending) → slice_get log j ≡ Some x → out_at (recordings_of log) j ≡ recording_of x
read_out [] j x at = absurd (cc at)
read_out (y ∷ log) zero x at = ap recording_of (same_Some y x at)
read_out (y ∷ log) (suc j) x at = read_out log j x at

pub sent_within : (P : Sending → Type 0) (log : State) (j : ℕ) (x : Sending) → All P log → slice_get log j ≡ Some x → P x
sent_within P [] j x all at = absurd (cc at)
sent_within P (y ∷ log) zero x all at = subst P (same_Some y x at) (all 0 y (omega arith))
sent_within P (y ∷ log) (suc j) x all at = sent_within P log j x (λ k d l. all (suc k) d (omega (arith, l))) at

weaker : (records : List (ℕ × List ℕ)) → AllByRecursion IsShortRecord records → AllByRecursion IsRecord records
weaker [] a = tt
weaker (r ∷ records) a = (record { moment = a.0.0; fits = omega (arith, a.0.1) }, weaker records a.1)

all_early : (calls : List Call) → AreBefore (2 ^ 32) calls → AreEarly calls
all_early [] a = tt
all_early (Admit i l ∷ past) a = all_early past a
all_early (Hush i ∷ past) a = all_early past a
all_early (Leave i ∷ past) a = all_early past a
all_early (Offer c ∷ past) a = all_early past a
all_early (Turn now ∷ past) a = (a.0, all_early past a.1)

-- ---- what was sent, as the table has it
abbrev entered : List TurnEntry → List (ℕ × Sent)
entered past = map (λ e. (e.at, e.sent)) past

sents_entered : (past : List TurnEntry) → sents (entered past) ≡ tables.sents past
sents_entered [] = refl
sents_entered (e ∷ past) = ap (λ (sent : List Sent). e.sent ∷ sent) (sents_entered past)

records_entered : (settings : PacketizerSettings) (past : List TurnEntry) → records_of settings (entered past) ≡ records settings.payload_types (packets (stream_of settings) past)
records_entered settings [] = refl
records_entered settings (e ∷ past) =
    let last : List Sent → List (ℕ × List ℕ) = λ sent. (e.at, octets_of settings sent e.sent) ∷ [] in
    ap (λ (front : List (ℕ × List ℕ)). front ++ last (sents (entered past))) (records_entered settings past)
    ∙ (ap (λ (sent : List Sent). records settings.payload_types (packets (stream_of settings) past) ++ last sent) (sents_entered past)
    ∙ sym (map-append _ (packets (stream_of settings) past) _))

-- ---- one terminal
-- the mixer of a conference has come to this table, and what it sent is noted
abbrev pub HasMixed : Conference → SendingState State → Table → Type 0
HasMixed c m table = At (Of (λ (m : SendingState State) s payload_types calls. RecordsFor m s payload_types calls) (payload_types_at c)) m (setup c) table

module _ (c : Conference) (m : SendingState State) (table : Table) (mixed : HasMixed c m table) where
  pub many : length m.outbound ≡ length c.legs
  many = sym (length-map m.outbound (λ (x : Sending). length x.sources)) ∙ mixed.made.all

  abbrev past_at : ℕ → List TurnEntry
  past_at j = (table.terminals j).past

  module _ (j : ℕ) (x : Sending) (at : slice_get m.outbound j ≡ Some x) (low : j < length c.legs) where
    noted : (x.settings ≡ settings_at (setup c) (payload_types_at c j) j) × (x.sent ≡ entered (past_at j))
    noted =
        let it = mixed.made.sent j low x at in
        let sent = it.sent ∙ entered_law (setup c) mixed.calls j x.sources low it.sources in
        (it.settings, sent ∙ ap (λ (t : Table). entered (t.terminals j).past) mixed.leads)

    is_sent : records_of x.settings x.sent ≡ records_to (payload_types_at c) (setup c) table j
    is_sent =
        ap (λ (settings : PacketizerSettings). records_of settings x.sent) noted.0
        ∙ (ap (records_of (settings_at (setup c) (payload_types_at c j) j)) noted.1 ∙ records_entered (settings_at (setup c) (payload_types_at c j) j) (past_at j))

    short : AreRecords 5000000 (records_of x.settings x.sent)
    short =
        let h = mixed.made in
        let turns : m.mixer.turns ≤ 5000000 = omega (arith, h.stands.turns, h.few) in
        let r = mixer_records (setup c) (payload_types_at c) m.mixer mixed.calls j h.stands turns (all_early mixed.calls h.early) low in
        subst (λ (rs : List (ℕ × List ℕ)). AreRecords 5000000 rs) (sym is_sent)
        (subst (λ (t : Table). AreRecords 5000000 (records_to (payload_types_at c) (setup c) t j)) mixed.leads r)

    playable : IsPlayable x
    playable =
        let next = each_is_next (setup c) m.mixer mixed.calls j low mixed.made.stands in
        let here : EachIsNext (stream (setup c) j) (tables.sents (past_at j)) =
        subst (λ (t : Table). EachIsNext (stream (setup c) j) (tables.sents (t.terminals j).past)) mixed.leads next in
        let sent : tables.sents (past_at j) ≡ sents x.sent = sym (sents_entered (past_at j)) ∙ ap sents (sym noted.1) in
        record {
          lawful = subst (λ (settings : PacketizerSettings). EachIsNext (stream_of settings) (sents x.sent)) (sym noted.0) (subst (λ (past : List Sent). EachIsNext (stream (setup c) j) past) sent here);
          written = record { is = refl; each = weaker (records_of x.settings x.sent) short.each; few = omega (arith, short.few) };
        }

  -- ---- all terminals
  pub logged : LogOf (payload_types_at c) (setup c) table (recordings_of m.outbound)
  logged = λ j low. (let own = found_at m.outbound j (omega (arith, low, many)) in
      read_out m.outbound j own.0 own.1 ∙ ap dump_written (is_sent j own.0 own.1 low))

  pub all_sent : AreSent c table (recordings_of m.outbound)
  all_sent = λ j d low.
      let own = found_at m.outbound j (omega (arith, low, many)) in
      let leg = found_leg c.legs j low in
      let same : payload_types_at c j ≡ leg.0.payload_types = ap payload_types_of leg.1 in
      let is : records_of own.0.settings own.0.sent ≡ commands.records_to c table j leg.0 =
      is_sent j own.0 own.1 low ∙ ap (λ (payload_types : PayloadTypes). records payload_types (packets (stream (setup c) j) (past_at j))) same in
      subst (λ (octets : List ℕ). IsWrittenOf octets (commands.records_to c table j (slice_index_or c.legs j d))) (sym (read_recording m.outbound j own.0 own.1))
      (subst (λ (l : LegLine). IsWrittenOf (recording_of own.0) (commands.records_to c table j l)) (sym (read_leg c.legs j d leg.0 leg.1))
      (subst (λ (rs : List (ℕ × List ℕ)). IsWrittenOf (recording_of own.0) rs) is (playable j own.0 own.1 low).written))

  pub all_playable : All IsPlayable m.outbound
  all_playable = λ j d low. playable j (slice_index_or m.outbound j d) (slice_get-get_or m.outbound j d low) (omega (arith, low, many))
