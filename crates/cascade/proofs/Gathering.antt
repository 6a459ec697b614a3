-- A divider that hears, gathers and ends.
use Rattle.std.proofs.Common.{◌≡◌, ℕ, zero, suc, ◌+◌, ◌<◌, ◌≤◌, ◌^◌, false, Some, None, List, [], ◌∷◌, ◌++◌, Result, Ok, Err, refl, ap, sym, ◌∙◌, subst, arith, length, length-append, inl, inr, map, filter}
use Rattle.std.specs.Prelude.{All, OnOk, get_or, set, slice_index}
use Rattle.std.proofs.lemmas.Bool.{cases_eq}
use Rattle.std.proofs.lemmas.List.Elements.{at_read}
use Rattle.std.proofs.lemmas.List.{get_or-set_other, get_or-set_same, length-set, map-append}
use Rattle.rtt_base.specs.declared.text_packets.PayloadTypes.{PayloadTypes}
use Rattle.rtt_base.specs.declared.text_packets.TextPacket.{TextPacket}
use Rattle.wire_spec.specs.declared.faults.TextFault.{TextFault}
use Rattle.wire_spec.specs.Packets.{Arrival, Packet}
use Rattle.wire_spec.specs.Dump.{arrived, sent_item}
use Rattle.rtt_base.specs.declared.limits.TheConstants.{MOST_TEXT_OCTETS}
use Rattle.mixer_spec.specs.Laws.{AreShortArrivals, AreShortBlocks}
use Rattle.mixer_spec.proofs.Recordings.{recordings_law}
use Rattle.wire_spec.specs.Text.{text_of}
use Rattle.stream_spec.specs.Numbering.{Numbered, numbered, used}
use Rattle.stream_spec.specs.Ready.{Chunk, chunks}
use Rattle.stream_spec.specs.Still.{is_lively_chunk, still}
use Rattle.stream_spec.proofs.ByNumber.{all_by}
use Rattle.stream_spec.proofs.StillChunks.{chunks_still}
use Rattle.reorder_buffer.specs.Stories.{Story, Given, came, dues, ended, gave, given_of, ready_dues}
use Rattle.reorder_buffer.specs.States.{State, has_ready, is_finished, with_packet}
use Rattle.reorder_buffer.specs.Tracks.{Tracks}
use Rattle.reorder_buffer.specs.declared.answers.Due.{Due}
use Rattle.reorder_buffer.proofs.Steps.{tracks_with}
use Rattle.receiver.specs.declared.receivers.Receiver.{Receiver}
use Rattle.receiver.specs.Stands.{Stands, latest_number}
use Rattle.receiver.specs.Hears.{all_given, last_after, ready_packet, ready_packets}
use Rattle.receiver.proofs.Given.{last_snoc, ready_stamped}
use Rattle.receiver.proofs.ReadyBy.{told_arrived}
use Rattle.command_spec.specs.Splitting.{Trunk, chunks_of, groups, packets_in, recorded, split}
use Rattle.cascade.specs.declared.splitters.SourceRecording.{SourceRecording}
use Rattle.cascade.specs.declared.dividers.Demux.{Demux}
use Rattle.cascade.specs.Splitters.{Closes, Splits}
use Rattle.cascade.specs.Dividing.{AreSplit, Divides, TakesDue, due_packet, lively_by}
use Rattle.cascade.specs.Dividers.{AreAdded, ClosesAll, Ends, Gathers, Hears, Listens, Takes}

-- ---- between two packets that are given
pub record Gathering (old d : Demux) : Type 0 where
  pub hears : (t : Trunk) (sources : List ℕ) (story : Story) → Hears old t sources story → (given : List Given) × Hears d t sources (record story { given = given })
  pub arrivals : d.buffer.arrivals ≡ old.buffer.arrivals
  pub finished : is_finished d.buffer ≡ is_finished old.buffer

pub gathers_none : (d : Demux) → Gathering d d
gathers_none d = record { hears = λ t sources story h. (story.given, h); arrivals = refl; finished = refl }

-- one more is given
pub gathers_one : (old d e : Demux) (due : Due) → Gathering old d → e.ssrc ≡ d.ssrc → e.payload_types ≡ d.payload_types
    → ((story : Story) → Tracks d.buffer story → Tracks e.buffer (gave story (given_of due e.buffer.current)))
    → TakesDue d.receiver e.receiver due e.buffer.current → latest_number e.receiver ≡ Some due.number
    → Divides d.receiver d.splitters.items e.splitters.items due e.buffer.current
    → (t : Trunk) (sources : List ℕ) (story : Story) → Hears old t sources story → (given : List Given) × Hears e t sources (record story { given = given })
gathers_one old d e due g s p tracks takes latest divides t sources story h =
    let now = g.hears t sources story h in
    let before : Story = record story { given = now.0 } in
    let one : Given = given_of due e.buffer.current in
    let us : List Numbered = ready_packets now.0 in
    let more : ready_packets (now.0 ++ one ∷ []) ≡ us ++ due_packet due e.buffer.current ∷ [] = map-append ready_packet now.0 (one ∷ []) in (
      now.0 ++ one ∷ [],
      record {
        ssrc = s ∙ now.1.ssrc;
        types = p ∙ now.1.types;
        t140 = now.1.t140;
        wait = now.1.wait;
        tracks = tracks before now.1.tracks;
        stands = subst (Stands e.receiver sources) (sym more) (takes sources us now.1.stands);
        short = now.1.short;
        latest = latest ∙ sym (ap (last_after None) more ∙ last_snoc None us (due_packet due e.buffer.current));
        split_off = subst (λ (vs : List Numbered). AreSplit t.payload_types sources vs e.splitters.items) (sym more) (divides t.payload_types sources us now.1.stands now.1.split_off);
      },
    )

-- what stands there may stand in another, but for the packet in hand
pub hears_same : (d e : Demux) (t : Trunk) (sources : List ℕ) (story : Story) → e.ssrc ≡ d.ssrc → e.payload_types ≡ d.payload_types → e.buffer ≡ d.buffer → e.receiver ≡ d.receiver → e.splitters ≡ d.splitters → Hears d t sources story → Hears e t sources story
hears_same d e t sources story s p k r v h = record {
  ssrc = s ∙ h.ssrc;
  types = p ∙ h.types;
  t140 = h.t140;
  wait = h.wait;
  tracks = subst (λ (x : State). Tracks x story) (sym k) h.tracks;
  stands = subst (λ (x : Receiver). Stands x sources (ready_packets story.given)) (sym r) h.stands;
  latest = ap latest_number r ∙ h.latest;
  short = h.short;
  split_off = subst (AreSplit t.payload_types sources (ready_packets story.given)) (sym (ap (λ w. w.items) v)) h.split_off;
}

-- nothing more is ready
pub gathered : (old d e : Demux) → Gathering old d → e.ssrc ≡ d.ssrc → e.payload_types ≡ d.payload_types → e.buffer ≡ d.buffer → e.receiver ≡ d.receiver → e.splitters ≡ d.splitters
    → ((story : Story) → Tracks d.buffer story → story.given ≡ ready_dues story) → Gathers old e
gathered old d e g s p k r v all t sources story h =
    let now = g.hears t sources story h in
    let whole : now.0 ≡ ready_dues story = all (record story { given = now.0 }) now.1.tracks in
    hears_same d e t sources (all_given story) s p k r v (subst (λ (gs : List Given). Hears d t sources (record story { given = gs })) whole now.1)

-- ---- what comes
-- the tracker was told more
pub hears_told : (d : Demux) (s : State) (t : Trunk) (sources : List ℕ) (story after : Story) → after.wait ≡ story.wait → after.given ≡ story.given → AreShortArrivals after.past → (Tracks d.buffer story → Tracks s after)
    → Hears d t sources story → Hears (record d { buffer = s }) t sources after
hears_told d s t sources story after w g short k h = record {
  ssrc = h.ssrc;
  types = h.types;
  t140 = h.t140;
  wait = w ∙ h.wait;
  tracks = k h.tracks;
  stands = rw g h.stands;
  latest = rw g h.latest;
  short = short;
  split_off = rw g h.split_off;
}

-- a packet that is read is short
pub short_more : (octets : List ℕ) (ssrc : ℕ) (payload_types : PayloadTypes) (p : Packet) (past : List Arrival) → text_of octets (Some ssrc) payload_types ≡ Ok p → AreShortArrivals past
    → (AreShortBlocks p.older) × (length p.primary ≤ MOST_TEXT_OCTETS) × AreShortArrivals past
short_more octets ssrc payload_types p past x short =
    let one : AreShortArrivals (arrived 0 (Ok p) []) = subst (λ (r : Result Packet TextFault). AreShortArrivals (arrived 0 r [])) x (recordings_law (sent_item (0, octets) ∷ []) ssrc payload_types).1 in
    (one.0, one.1, short)

-- a packet of the stream came, and what is ready then was added
pub takes_packet : (d e : Demux) (s : State) (now : ℕ) (octets : List ℕ) (p : Packet) → text_of octets (Some d.ssrc) d.payload_types ≡ Ok p
    → ((story : Story) → Tracks d.buffer story → Tracks s (came story now p)) → is_finished s ≡ is_finished d.buffer
    → Gathers (record d { buffer = s }) e → has_ready e.buffer ≡ false → is_finished e.buffer ≡ is_finished s → Takes d e now octets
takes_packet d e s now octets p x k f g q ef t sources past l =
    let same : text_of octets (Some t.ssrc) t.payload_types ≡ Ok p =
    sym (ap (λ (n : ℕ). text_of octets (Some n) d.payload_types) l.hears.ssrc ∙ ap (λ (ps : PayloadTypes). text_of octets (Some t.ssrc) ps) l.hears.types) ∙ x in
    subst (λ (r : Result Packet TextFault). Listens e t sources (arrived now r past)) (sym same) (record {
      story = all_given (came l.story now p);
      hears = g t sources (came l.story now p) (hears_told d s t sources l.story (came l.story now p) refl refl (short_more octets d.ssrc d.payload_types p l.story.past x l.hears.short) (k l.story) l.hears);
      told = let more = told_arrived l.story past now (Ok p) l.told in record { arrivals = more.arrivals; moment = more.moment };
      quiet = q;
      open_still = ef ∙ (f ∙ l.open_still);
    })

-- what is no packet of the stream changes nothing
pub takes_nothing : (d : Demux) (q : TextPacket) (now : ℕ) (octets : List ℕ) (x : TextFault) → text_of octets (Some d.ssrc) d.payload_types ≡ Err x → Takes d (record d { buffer = with_packet d.buffer q }) now octets
takes_nothing d q now octets x e t sources past l =
    let same : text_of octets (Some t.ssrc) t.payload_types ≡ Err x =
    sym (ap (λ (n : ℕ). text_of octets (Some n) d.payload_types) l.hears.ssrc ∙ ap (λ (ps : PayloadTypes). text_of octets (Some t.ssrc) ps) l.hears.types) ∙ e in
    subst (λ (r : Result Packet TextFault). Listens (record d { buffer = with_packet d.buffer q }) t sources (arrived now r past)) (sym same) (record {
      story = l.story;
      hears = hears_told d (with_packet d.buffer q) t sources l.story l.story refl refl l.hears.short (tracks_with d.buffer q l.story) l.hears;
      told = l.told;
      quiet = l.quiet;
      open_still = l.open_still;
    })

-- ---- the end
-- what is heard by all used packets is what is heard by these arrivals
lively_all : (wait : ℕ) (past : List Arrival) (story : Story) (s : ℕ) → story.wait ≡ wait → story.past ≡ past → lively_by (ready_packets (dues story)) s ≡ chunks_of wait past s
lively_all wait past story s w p =
    ap (λ us. lively_by us s) (ready_stamped story.wait (numbered story.past) (used story.wait (numbered story.past)))
    ∙ (ap (filter is_lively_chunk) (sym (all_by story.wait 0 story.past s))
    ∙ (sym (chunks_still story.wait 0 story.past s)
    ∙ (ap (λ n. chunks n 0 (still story.past) s) w ∙ ap (λ a. chunks wait 0 (still a) s) p)))

pub ends : (d e : Demux) (s : State) → ((story : Story) → Tracks d.buffer story → Tracks s (ended story))
    → ((story : Story) → Tracks d.buffer story → ready_dues (ended story) ≡ dues story) → Gathers (record d { buffer = s }) e → Ends d e
ends d e s k all g t sources past l =
    let story : Story = l.story in
    let h : Hears e t sources (all_given (ended story)) = g t sources (ended story) (hears_told d s t sources story (ended story) refl refl l.hears.short (k story) l.hears) in
    let due : ready_dues (ended story) ≡ dues story = all story l.hears.tracks in
    record {
      t140 = l.hears.t140;
      each = h.split_off.each;
      splits = λ n x below.
          subst (Splits (get_or e.splitters.items n x) t.payload_types (slice_index sources n))
          (ap (λ gs. lively_by (ready_packets gs) (slice_index sources n)) due ∙ lively_all t.wait past story (slice_index sources n) l.hears.wait l.told.arrivals)
          (h.split_off.splits n x below);
    }

-- ---- all recordings

-- a recording without packets more
pub started_more : (payload_types : PayloadTypes) (sources : List ℕ) (items more : List SourceRecording) (i : ℕ) (x : SourceRecording) → more ≡ items ++ x ∷ [] → length items ≡ i
    → ((k : ℕ) (d : SourceRecording) → k < i → Splits (get_or items k d) payload_types (slice_index sources k) []) → Splits x payload_types (slice_index sources i) []
    → (length more ≡ i + 1) × ((k : ℕ) (d : SourceRecording) → k < i + 1 → Splits (get_or more k d) payload_types (slice_index sources k) [])
started_more payload_types sources items more i x e n f h = (
  ap (λ (xs : List SourceRecording). length xs) e ∙ omega (arith, length-append items (x ∷ []), n),
  λ k d below. subst (λ (xs : List SourceRecording). Splits (get_or xs k d) payload_types (slice_index sources k) []) (sym e) (elim (cases_eq k (length items)) [
    | inl q ↦ subst (λ (y : SourceRecording). Splits y payload_types (slice_index sources k) []) (sym (ap (λ (m : ℕ). get_or (items ++ x ∷ []) m d) q ∙ seam items x d))
        (subst (λ (m : ℕ). Splits x payload_types (slice_index sources m) []) (sym (q ∙ n)) h)
    | inr ne ↦ subst (λ (y : SourceRecording). Splits y payload_types (slice_index sources k) []) (sym (front items x k d (omega (arith, below, n, ne)))) (f k d (omega (arith, below, n, ne)))
  ]),
)
  where
    seam : (xs : List SourceRecording) (x d : SourceRecording) → get_or (xs ++ x ∷ []) (length xs) d ≡ x
    seam [] x d = refl
    seam (y ∷ xs) x d = seam xs x d

    front : (xs : List SourceRecording) (x : SourceRecording) (k : ℕ) (d : SourceRecording) → k < length xs → get_or (xs ++ x ∷ []) k d ≡ get_or xs k d
    front [] x k d b = absurd (omega (arith, b))
    front (y ∷ xs) x zero d b = refl
    front (y ∷ xs) x (suc k) d b = front xs x k d (omega (arith, b))

-- the first i are closed
pub record Closing (old now : List SourceRecording) (i : ℕ) : Type 0 where
  pub each : length now ≡ length old
  pub done : (k : ℕ) (d : SourceRecording) → k < i → k < length old → Closes (get_or old k d) (get_or now k d)
  pub rest : (k : ℕ) (d : SourceRecording) → i ≤ k → get_or now k d ≡ get_or old k d

pub closing_none : (xs : List SourceRecording) → Closing xs xs 0
closing_none xs = record { each = refl; done = λ k d b. absurd (omega (arith, b)); rest = λ k d b. refl }

pub closing_one : (old now : List SourceRecording) (i : ℕ) (was new : SourceRecording) → Closing old now i → i < length now → was ≡ get_or now i was → Closes was new → Closing old (set now i new) (i + 1)
closing_one old now i was new g below at c = record {
  each = length-set now i new ∙ g.each;
  done = λ k d b within. elim (cases_eq k i) [
    | inl q ↦
        let there : get_or (set now i new) k d ≡ new = ap (λ (m : ℕ). get_or (set now i new) m d) q ∙ get_or-set_same now i new d below in
        let before : get_or old k d ≡ was = ap (λ (m : ℕ). get_or old m d) q ∙ (sym (g.rest i d (omega arith)) ∙ at_read now (λ (x : SourceRecording). x ≡ was) i was below at refl d) in
        subst (Closes (get_or old k d)) (sym there) (subst (λ (x : SourceRecording). Closes x new) (sym before) c)
    | inr ne ↦ subst (Closes (get_or old k d)) (sym (get_or-set_other now i k new d ne)) (g.done k d (omega (arith, b, ne)) within)
  ];
  rest = λ k d b. get_or-set_other now i k new d (λ q. omega (arith, b, q)) ∙ g.rest k d (omega (arith, b));
}

pub closing_all : (old now : List SourceRecording) (i : ℕ) → Closing old now i → length old ≤ i → ClosesAll old now
closing_all old now i g n = (g.each, λ k d b. g.done k d (omega (arith, b, n)) b)

pub still_typed : (old now : List SourceRecording) (i : ℕ) (was : SourceRecording) → Closing old now i → i < length now → was ≡ get_or now i was → All (λ (s : SourceRecording). s.payload_types.t140 < 2 ^ 7) old → was.payload_types.t140 < 2 ^ 7
still_typed old now i was g below at all =
    subst (λ (x : SourceRecording). x.payload_types.t140 < 2 ^ 7) (sym (at ∙ g.rest i was (omega arith))) (all i was (omega (arith, below, g.each)))

-- all are of one stream
pub all_typed : (payload_types : PayloadTypes) (sources : List ℕ) (xs : List SourceRecording) (P : ℕ → List Chunk) → payload_types.t140 < 2 ^ 7 → length xs ≡ length sources
    → ((k : ℕ) (d : SourceRecording) → k < length sources → Splits (get_or xs k d) payload_types (slice_index sources k) (P (slice_index sources k))) → All (λ (s : SourceRecording). s.payload_types.t140 < 2 ^ 7) xs
all_typed payload_types sources xs P t n f k d below = subst (λ (p : PayloadTypes). p.t140 < 2 ^ 7) (sym (f k d (omega (arith, below, n))).types) t

-- each is the split of its source
split_is : (payload_types : PayloadTypes) (wait : ℕ) (past : List Arrival) (s : ℕ) → recorded payload_types (packets_in s (groups (chunks_of wait past s))) ≡ split payload_types wait past s
unfolding split
split_is payload_types wait past s = refl

pub all_split : (t : Trunk) (sources : List ℕ) (past : List Arrival) (old new : List SourceRecording) → AreAdded t sources past old → ClosesAll old new → map (λ (s : SourceRecording). s.octets) new ≡ map (split t.payload_types t.wait past) sources
all_split t sources past old new a c = go sources new (c.0 ∙ a.each)
    (λ k d below. c.1 k d (omega (arith, below, a.each)) t.payload_types (slice_index sources k) (chunks_of t.wait past (slice_index sources k)) (a.splits k d below) ∙ split_is t.payload_types t.wait past (slice_index sources k))
  where
    go : (ss : List ℕ) (xs : List SourceRecording) → length xs ≡ length ss → ((k : ℕ) (d : SourceRecording) → k < length ss → (get_or xs k d).octets ≡ split t.payload_types t.wait past (slice_index ss k))
        → map (λ (s : SourceRecording). s.octets) xs ≡ map (split t.payload_types t.wait past) ss
    go [] [] n f = refl
    go [] (x ∷ xs) n f = absurd (omega (arith, n))
    go (s ∷ ss) [] n f = absurd (omega (arith, n))
    go (s ∷ ss) (x ∷ xs) n f = λ i. f 0 x (omega arith) i ∷ go ss xs (omega (arith, n)) (λ k d b. f (suc k) d (omega (arith, b))) i

-- ---- answers that are Ok
pub on_ok3 : {T E P Q R S : Type 0} (r : Result T E) → OnOk r P → OnOk r Q → OnOk r R → (P → Q → R → S) → OnOk r S
on_ok3 (Ok x) p q s f = f p q s
on_ok3 (Err e) p q s f = tt
