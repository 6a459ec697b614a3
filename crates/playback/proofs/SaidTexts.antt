-- What was sent is added to the texts of its sources; a terminal that has these heard it.
use Rattle.std.proofs.Common.{◌≡◌, ℕ, ◌+◌, ◌<◌, ◌^◌, Bool, inl, inr, Result, Ok, Err, List, [], ◌∷◌, ◌++◌, length, append-nil, refl, ap, subst, sym, ◌∙◌, arith, set}
use Rattle.std.specs.Prelude.{◌==◌, ◌≢◌, All, AllPairs, map, slice_index, slice_index_or, if◌then◌else◌, IsUtf8, IfOk}
use Rattle.std.specs.List.{concat}
use Rattle.std.proofs.Math.Seq.{get_or-set_same, get_or-set_other}
use Rattle.std.proofs.lemmas.Bool.{cases_eq, cases_order, eq-eqb, ne_eqb}
use Rattle.std.proofs.lemmas.List.{get_or_append_left, get_or_push, length-map, length-set}
use Rattle.rtt_base.specs.declared.text_packets.PayloadTypes.{PayloadTypes}
use Rattle.wire_spec.specs.Packets.{Arrival}
use Rattle.wire_spec.specs.Dump.{Item, arrivals_after, sent_item}
use Rattle.stream_spec.specs.Own.{Sendable, Sent}
use Rattle.stream_spec.specs.Numbering.{numbered, used}
use Rattle.stream_spec.specs.Hearing.{heard}
use Rattle.receiver.specs.declared.source_texts.SourceText.{SourceText}
use Rattle.view_spec.specs.declared.counts.Counts.{Counts}
use Rattle.view_spec.specs.Seen.{Fate, Text, arrivals_at, fate_at, is_foreign, is_packet, is_refused, many}
use Rattle.view_spec.specs.Markers.{marker_count}
use Rattle.terminal.specs.declared.settings.TerminalSettings.{TerminalSettings}
use Rattle.terminal.specs.declared.terminals.Terminal.{Terminal}
use Rattle.terminal.specs.Terminals.{Heard, IsEmpty, IsWhole, all_used, counts_of, reception, texts_of}
use Rattle.packetizer.specs.OutputSettings.{stream_of}
use Rattle.packetizer.proofs.Speaking.{sendable}
use Rattle.sent_log.specs.States.{IsStreamOf, Sending, records_of, sents}
use Rattle.playback.specs.Written.{IsPlayable}
use Rattle.playback.specs.Whole.{AreSaid, IsHeardAsSent, IsSaid, SaysMore, said}
use Rattle.playback.proofs.Whole.{AllCame, all_came, all_used_is, arrive, arrived_all, counted_if, fates, heard_is, markers_none, said_utf8}

-- what a result tells, if it is a success, gives more
pub if_ok : {X E : Type 0} {P S : X → Type 0} (r : Result X E) → IfOk r P → ((x : X) → P x → S x) → IfOk r S
if_ok (Ok x) p f = f x p
if_ok (Err e) p f = tt

pub if_ok3 : {X E : Type 0} {P Q R S : X → Type 0} (r : Result X E) → IfOk r P → IfOk r Q → IfOk r R → ((x : X) → P x → Q x → R x → S x) → IfOk r S
if_ok3 (Ok x) p q s f = f x p q s
if_ok3 (Err e) p q s f = tt

-- ---- nothing yet
pub none_said : (sources : List ℕ) (texts : List SourceText) → length texts ≡ length sources → All IsEmpty texts → AreSaid sources [] texts
none_said sources texts n e = record {
  each = n;
  are = λ k d l. let t = e k d (omega (arith, l, n)) in record { text = t.text; markers = t.markers };
}

-- ---- one more
apart : (xs : List ℕ) (i k : ℕ) → AllPairs (λ a b. a ≢ b) xs → i < length xs → k < length xs → (i ≡ k → ⊥) → slice_index xs i ≡ slice_index xs k → ⊥
apart xs i k d l m n e = elim (cases_order i k) [
  | inl q ↦ n q
  | inr (inl lt) ↦ d i k 0 lt m e
  | inr (inr gt) ↦ d k i 0 gt l (sym e)
]

own_text : (s : ℕ) (e : Sent) (before : List ℕ) → e.source ≡ s → before ++ (if e.source == s then e.text else []) ≡ before ++ e.text
own_text s e before q = rw (eq-eqb e.source s q) refl

other_text : (s : ℕ) (e : Sent) (before : List ℕ) → (e.source ≡ s → ⊥) → before ++ (if e.source == s then e.text else []) ≡ before
other_text s e before q = rw (ne_eqb e.source s q) (append-nil before)

-- of one of these sources
pub said_more : (sources : List ℕ) (ssrc : ℕ) (text : List ℕ) (texts : List SourceText) (place : ℕ) (old new : SourceText) → AllPairs (λ a b. a ≢ b) sources → place < length sources → slice_index sources place ≡ ssrc
    → old ≡ slice_index_or texts place old → new.text ≡ old.text ++ text → new.markers ≡ old.markers → SaysMore sources ssrc text texts (set texts place new)
said_more sources ssrc text texts place old new d l q at t m past media s =
    let e : Sent = record { source = ssrc; media = media; text = text } in
    record {
      each = length-set texts place new ∙ s.each;
      are = λ k f below. elim (cases_eq k place) [
        | inl same ↦
            let here : slice_index_or (set texts place new) k f ≡ new = ap (λ (i : ℕ). slice_index_or (set texts place new) i f) same ∙ get_or-set_same texts place new f (omega (arith, s.each, l)) in
            let was = s.are place old l in
            let name : ssrc ≡ slice_index sources k = sym q ∙ ap (slice_index sources) (sym same) in
            record {
              text =
                  ap (λ (x : SourceText). x.text) here
                  ∙ (t ∙ (ap (λ (xs : List ℕ). xs ++ text) (ap (λ (x : SourceText). x.text) at ∙ (was.text ∙ ap (λ (i : ℕ). said (slice_index sources i) past) (sym same))) ∙ sym (own_text (slice_index sources k) e (said (slice_index sources k) past) name)));
              markers = ap (λ (x : SourceText). x.markers) here ∙ (m ∙ (ap (λ (x : SourceText). x.markers) at ∙ was.markers));
            }
        | inr n ↦
            let there : slice_index_or (set texts place new) k f ≡ slice_index_or texts k f = get_or-set_other texts place k new f n in
            let was = s.are k f below in
            record {
              text =
                  ap (λ (x : SourceText). x.text) there
                  ∙ (was.text ∙ sym (other_text (slice_index sources k) e (said (slice_index sources k) past) (λ r. apart sources place k d l below (λ z. n (sym z)) (q ∙ r))));
              markers = ap (λ (x : SourceText). x.markers) there ∙ was.markers;
            }
      ];
    }

-- of another
pub said_other : (sources : List ℕ) (ssrc : ℕ) (text : List ℕ) (texts : List SourceText) → All (λ s. s ≢ ssrc) sources → SaysMore sources ssrc text texts texts
said_other sources ssrc text texts a past media s =
    let e : Sent = record { source = ssrc; media = media; text = text } in
    record {
      each = s.each;
      are = λ k f below.
          let was = s.are k f below in
          record { text = was.text ∙ sym (other_text (slice_index sources k) e (said (slice_index sources k) past) (λ r. a k 0 below (sym r))); markers = was.markers };
    }

-- ---- one source behind the others
pub one_said : (sources : List ℕ) (past : List Sent) (texts new : List SourceText) (place : ℕ) (source : SourceText) → length texts ≡ place → new ≡ texts ++ source ∷ []
    → ((k : ℕ) (d : SourceText) → k < place → IsSaid (slice_index sources k) past (slice_index_or texts k d)) → IsSaid (slice_index sources place) past source
    → (k : ℕ) (d : SourceText) → k < place + 1 → IsSaid (slice_index sources k) past (slice_index_or new k d)
one_said sources past texts new place source n e all own k d l = elim (cases_eq k place) [
  | inl q ↦
      let here : slice_index_or new k d ≡ source = ap (λ (xs : List SourceText). slice_index_or xs k d) e ∙ get_or_push texts source d k (omega (arith, n, q)) in
      subst (λ (t : SourceText). IsSaid (slice_index sources k) past t) (sym here) (subst (λ (i : ℕ). IsSaid (slice_index sources i) past source) (sym q) own)
  | inr other ↦
      let there : slice_index_or new k d ≡ slice_index_or texts k d = ap (λ (xs : List SourceText). slice_index_or xs k d) e ∙ get_or_append_left texts (source ∷ []) d k (omega (arith, n, l, other)) in
      subst (λ (t : SourceText). IsSaid (slice_index sources k) past t) (sym there) (all k d (omega (arith, l, other)))
]

-- ---- a terminal that has these texts
same_counts : (a a' b b' c c' d d' : ℕ) → a ≡ a' → b ≡ b' → c ≡ c' → d ≡ d' → (let n : Counts = record { packets = a; used = b; refused = c; foreign = d } in n) ≡ record { packets = a'; used = b'; refused = c'; foreign = d' }
same_counts a a' b b' c c' d d' p q r s = rw (p, q, r, s) refl

pub heard_as_sent : (x : Sending) (settings : TerminalSettings) → IsPlayable x → IsStreamOf settings.ssrc settings.payload_types x → settings.ssrc < 2 ^ 32
    → IsHeardAsSent (reception settings) (sents x.sent) (map sent_item (records_of x.settings x.sent))
heard_as_sent x settings p is b = record {
  texts = λ s. ap (λ (came_in : List Arrival). concat (heard settings.wait came_in s)) here ∙ heard_is x.settings x.sent settings.wait s all;
  utf8 = λ s. said_utf8 (stream_of x.settings) s zs may;
  markers = λ s. ap (λ (came_in : List Arrival). marker_count settings.wait came_in s) here ∙ markers_none x.settings x.sent settings.wait s all;
  counts = same_counts _ (length zs) _ (length zs) _ 0 _ 0 (many_is is_packet ∙ count) (ap (λ (came_in : List Arrival). length (used settings.wait (numbered came_in))) here ∙ (all_used_is x.settings x.sent settings.wait all ∙ count)) (many_is is_refused) (many_is is_foreign);
}
  where
    zs : List Sent
    zs = sents x.sent

    count : length x.sent ≡ length zs
    count = sym (length-map x.sent (λ (e : ℕ × Sent). e.1))

    may : Sendable (stream_of x.settings) zs
    may = sendable (stream_of x.settings) zs is.settings.generations p.lawful

    all : AllCame x.settings x.sent settings.wait
    all = all_came x.settings x.sent settings.wait is.settings may

    ssrc : x.settings.ssrc < 2 ^ 32
    ssrc = omega (arith, b, is.ssrc_is)

    came : List Item
    came = map sent_item (records_of x.settings x.sent)

    here : arrivals_at (reception settings) came ≡ arrived_all x.settings x.sent
    here =
        ap (λ (m : ℕ). arrivals_after m settings.payload_types [] came) (sym is.ssrc_is)
        ∙ (ap (λ (q : PayloadTypes). arrivals_after x.settings.ssrc q [] came) (sym is.payload_types_are) ∙ arrive x.settings x.sent is.settings ssrc is.words may)

    many_is : (q : Fate → Bool) → many q (fate_at (reception settings)) came ≡ counted_if (q Text) (length x.sent)
    many_is q =
        ap (λ (m : ℕ). many q (fate_at (record { ssrc = m; payload_types = settings.payload_types; wait = settings.wait })) came) (sym is.ssrc_is)
        ∙ (ap (λ (ps : PayloadTypes). many q (fate_at (record { ssrc = x.settings.ssrc; payload_types = ps; wait = settings.wait })) came) (sym is.payload_types_are) ∙ fates q settings.wait x.settings x.sent is.settings ssrc is.words may)

pub heard_whole : (x : Sending) (t : Terminal) (settings : TerminalSettings) (sources : List ℕ) (texts : List SourceText) (packets : ℕ) → IsPlayable x → IsStreamOf settings.ssrc settings.payload_types x → 0 < length sources → settings.ssrc < 2 ^ 32
    → texts_of t ≡ texts → counts_of t ≡ all_used packets → IsWhole t → packets ≡ length x.sent → AreSaid sources (sents x.sent) texts → Heard t settings sources (map sent_item (records_of x.settings x.sent))
heard_whole x t settings sources texts packets p is some b te ce whole n s = record {
  some = some;
  each = te_each;
  texts = λ k d l. record {
    text = text k d l ∙ sym (h.texts (slice_index sources k));
    markers = (at k d l).markers ∙ sym (h.markers (slice_index sources k));
  };
  utf8 = λ k d l. let below : k < length sources = omega (arith, l, te_each) in subst IsUtf8 (sym (text k d below)) (h.utf8 (slice_index sources k));
  counts = ce ∙ (ap (λ (k : ℕ). all_used k) (n ∙ sym (length-map x.sent (λ (e : ℕ × Sent). e.1))) ∙ sym h.counts);
  whole = whole;
}
  where
    h : IsHeardAsSent (reception settings) (sents x.sent) (map sent_item (records_of x.settings x.sent))
    h = heard_as_sent x settings p is b

    te_each : length (texts_of t) ≡ length sources
    te_each = ap (λ (ts : List SourceText). length ts) te ∙ s.each

    at : (k : ℕ) (d : SourceText) → k < length sources → IsSaid (slice_index sources k) (sents x.sent) (slice_index_or (texts_of t) k d)
    at k d l = subst (λ (ts : List SourceText). IsSaid (slice_index sources k) (sents x.sent) (slice_index_or ts k d)) (sym te) (s.are k d l)

    text : (k : ℕ) (d : SourceText) → k < length sources → (slice_index_or (texts_of t) k d).text ≡ said (slice_index sources k) (sents x.sent)
    text k d l = (at k d l).text
