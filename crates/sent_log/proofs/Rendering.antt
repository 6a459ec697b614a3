-- The packets of a terminal, made one by one.
use Rattle.std.proofs.Common.{◌≡◌, ℕ, zero, suc, ◌+◌, ◌-◌, ◌<◌, ◌≤◌, ◌^◌, inl, inr, List, [], ◌∷◌, ◌++◌, length, get_or, take, drop, Some, refl, ap, subst, sym, ◌∙◌, arith}
use Rattle.std.specs.Prelude.{All, map, reverse, slice_get, slice_index}
use Rattle.std.proofs.lemmas.List.Elements.{All-head, All-tail}
use Rattle.std.specs.List.Sorted.{IsNonDecreasing, IsNonDecreasingBy}
use Rattle.std.proofs.lemmas.List.{drop-map, drop_at, get_or-map, get_or-take, get_or_read, length-drop, length-map, length-reverse, length-take-le, map-append, reverse-append, reverse-reverse, take-append-drop, take_more}
use Rattle.std.proofs.lemmas.List.Sorted.{IsNonDecreasingBy-push}
use Rattle.std.proofs.lemmas.Option.{get_or_from_slice_get, slice_get_read, slice_get_within}
use Rattle.stream_spec.specs.Own.{Sent, Stream}
use Rattle.packetizer.specs.declared.outputs.PacketizerSettings.{PacketizerSettings}
use Rattle.packetizer.specs.Sending.{octets_of}
use Rattle.packetizer.specs.Speakers.{EachIsNext, text_of}
use Rattle.sent_log.specs.declared.logs.SentLog.TheInside.{Inside}
use Rattle.sent_log.specs.declared.terminals.LoggedPacket.{LoggedPacket}
use Rattle.sent_log.specs.declared.terminals.TerminalLog.{TerminalLog}
use Rattle.sent_log.specs.declared.turns.Turn.{Turn}
use Rattle.sent_log.specs.Insides.{IsEntry, IsLog, IsTerminal, sending_of, sent_by, state_of, turn_at}
use Rattle.sent_log.specs.Lists.{list_at, octets_at}
use Rattle.stream_spec.specs.Lists.{In}
use Rattle.stream_spec.proofs.Lists.{in_append}
use Rattle.rtt_base.specs.declared.text_packets.PayloadTypes.{PayloadTypes}
use Rattle.sent_log.specs.States.{IsStreamOf, NeverFalls, OfTerminal, Sending, State, TellsText, first_sent, records_of, sents}
use Rattle.wire_spec.proofs.Plain.{get_map}

-- ---- what holds of a terminal

pub of_terminal : (turns : List Turn) (texts : List (List ℕ)) (ts : List TerminalLog) (log : State) (terminal : ℕ) (t : TerminalLog) (P : Sending → Type 0) → map (sending_of turns texts) ts ≡ log → slice_get ts terminal ≡ Some t → P (sending_of turns texts t) → OfTerminal log terminal P
of_terminal turns texts ts log terminal t P v g p = λ x e.
    let same : Some (sending_of turns texts t) ≡ Some x = sym (get_map (sending_of turns texts) ts terminal t g) ∙ (ap (λ (l : State). slice_get l terminal) v ∙ e) in
    subst P (cc) p

-- the terminal that was read
pub terminal_in : (turns : List Turn) (texts : List (List ℕ)) (ts : List TerminalLog) (log : State) (terminal : ℕ) (t : TerminalLog) → map (sending_of turns texts) ts ≡ log → t ≡ get_or ts terminal t → terminal < length log → slice_get ts terminal ≡ Some t
terminal_in turns texts ts log terminal t v e l = slice_get_read ts (length ts) terminal t refl (omega (arith, ap length v, length-map ts (sending_of turns texts))) e

-- what is told of it
pub tells : (turns : List Turn) (texts : List (List ℕ)) (ts : List TerminalLog) (log : State) (terminal : ℕ) (t : TerminalLog) (P : Sending → Type 0) → map (sending_of turns texts) ts ≡ log → slice_get ts terminal ≡ Some t → OfTerminal log terminal P
    → P (sending_of turns texts t)
tells turns texts ts log terminal t P v g o =
    let x = sending_of turns texts t in
    o x (subst (λ (l : State). slice_get l terminal ≡ Some x) v (get_map (sending_of turns texts) ts terminal t g))

pub is_terminal : (turns : List Turn) (texts : List (List ℕ)) (ts : List TerminalLog) (terminal : ℕ) (t : TerminalLog) → All (IsTerminal turns texts) ts → slice_get ts terminal ≡ Some t → IsTerminal turns texts t
is_terminal turns texts ts terminal t a g = subst (λ (u : TerminalLog). IsTerminal turns texts u) (get_or_from_slice_get ts terminal t t g) (a terminal t (slice_get_within ts terminal t g))

pub is_entry : (turns : List Turn) (texts : List (List ℕ)) (t : TerminalLog) (number : ℕ) (e : LoggedPacket) → IsTerminal turns texts t → slice_get t.entries.items number ≡ Some e → IsEntry turns texts t.first t.sources.items e
is_entry turns texts t number e k g =
    subst (λ (u : LoggedPacket). IsEntry turns texts t.first t.sources.items u) (get_or_from_slice_get t.entries.items number e e g) (k.entries number e (slice_get_within t.entries.items number e g))

pub sent_count : (turns : List Turn) (texts : List (List ℕ)) (t : TerminalLog) → length t.entries.items ≡ length (sending_of turns texts t).sent
sent_count turns texts t =
    let ys = map (sent_by turns texts t.first t.sources.items) t.entries.items in
    sym (length-reverse ys ∙ length-map t.entries.items (sent_by turns texts t.first t.sources.items))

pub number_within : (i : Inside) (log : State) (terminal : ℕ) (t : TerminalLog) (number : ℕ) → state_of i ≡ log → t ≡ get_or i.terminals.items terminal t → terminal < length log
    → OfTerminal log terminal (λ x. number < length x.sent) → number < length t.entries.items
number_within i log terminal t number v e l o =
    let there = terminal_in i.turns.items i.texts.items i.terminals.items log terminal t v e l in
    let n = tells i.turns.items i.texts.items i.terminals.items log terminal t (λ x. number < length x.sent) v there o in
    omega (arith, n, sent_count i.turns.items i.texts.items t)

-- the terminal and its entry that were read
pub record Reads (i : Inside) (terminal : ℕ) (t : TerminalLog) (number : ℕ) (e : LoggedPacket) : Type 0 where
  pub there : slice_get i.terminals.items terminal ≡ Some t
  pub stands : IsTerminal i.turns.items i.texts.items t
  pub read : slice_get t.entries.items number ≡ Some e
  pub entry : IsEntry i.turns.items i.texts.items t.first t.sources.items e

pub reads : (i : Inside) (log : State) (terminal : ℕ) (t : TerminalLog) (number : ℕ) (e : LoggedPacket) → state_of i ≡ log → IsLog i → t ≡ get_or i.terminals.items terminal t
    → e ≡ get_or t.entries.items number e → terminal < length log → OfTerminal log terminal (λ x. number < length x.sent) → Reads i terminal t number e
reads i log terminal t number e v a s q l o =
    let turns = i.turns.items in
    let texts = i.texts.items in
    let there = terminal_in turns texts i.terminals.items log terminal t v s l in
    let read = slice_get_read t.entries.items (length t.entries.items) number e refl (number_within i log terminal t number v s l o) q in
    let k = is_terminal turns texts i.terminals.items terminal t a there in
    record { there = there; stands = k; read = read; entry = is_entry turns texts t number e k read }

-- the list that its text stands in
pub list_read : (i : Inside) (terminal : ℕ) (t : TerminalLog) (number : ℕ) (e : LoggedPacket) (list : List ℕ) → Reads i terminal t number e → list ≡ get_or i.texts.items (t.first + e.source) list → list ≡ list_at i.texts.items (t.first + e.source)
list_read i terminal t number e list r q = get_or_read i.texts.items (t.first + e.source) list (omega (arith, r.entry.source, r.stands.lists)) q []

-- ---- the first of them

first_reversed : (k : ℕ) (ys : List (ℕ × Sent)) → k ≤ length ys → first_sent k (reverse ys) ≡ reverse (take k ys)
first_reversed k ys l =
    let front = take k ys in
    let rest = drop k ys in
    let split : reverse ys ≡ reverse rest ++ reverse front = ap (λ (zs : List (ℕ × Sent)). reverse zs) (sym (take-append-drop k ys)) ∙ reverse-append front rest in
    let size : length (reverse rest) ≡ length (reverse ys) - k = omega (arith, length-reverse ys, length-reverse rest, length-drop k ys) in
    ap (λ (zs : List (ℕ × Sent)). drop (length (reverse ys) - k) zs) split ∙ drop_at (reverse rest) (reverse front) (length (reverse ys) - k) size

next_reversed : (k : ℕ) (ys : List (ℕ × Sent)) (d : ℕ × Sent) → k < length ys → first_sent (k + 1) (reverse ys) ≡ get_or ys k d ∷ first_sent k (reverse ys)
next_reversed k ys d l =
    let x = get_or ys k d in
    first_reversed (k + 1) ys (omega arith)
    ∙ (ap (λ (zs : List (ℕ × Sent)). reverse zs) (take_more ys k d l)
    ∙ (reverse-append (take k ys) (x ∷ []) ∙ ap (λ (zs : List (ℕ × Sent)). x ∷ zs) (sym (first_reversed k ys (omega arith)))))

each_drop : (c : Stream) (n : ℕ) (sent : List Sent) → EachIsNext c sent → EachIsNext c (drop n sent)
each_drop c zero sent e = e
each_drop c (suc n) [] e = e
each_drop c (suc n) (x ∷ sent) e = each_drop c n sent e.1

pub each_first : (c : Stream) (k : ℕ) (sent : List (ℕ × Sent)) → EachIsNext c (sents sent) → EachIsNext c (sents (first_sent k sent))
each_first c k sent e = subst (λ (xs : List Sent). EachIsNext c xs) (drop-map (λ (x : ℕ × Sent). x.1) (length sent - k) sent) (each_drop c (length sent - k) (sents sent) e)

-- ---- one entry

-- it is the newest of the first of them
pub entry_next : (turns : List Turn) (texts : List (List ℕ)) (t : TerminalLog) (number : ℕ) (e : LoggedPacket) → slice_get t.entries.items number ≡ Some e
    → first_sent (number + 1) (sending_of turns texts t).sent ≡ sent_by turns texts t.first t.sources.items e ∷ first_sent number (sending_of turns texts t).sent
entry_next turns texts t number e g =
    let f = sent_by turns texts t.first t.sources.items in
    let entries = t.entries.items in
    let ys = map f entries in
    let l = slice_get_within entries number e g in
    let one : get_or ys number (f e) ≡ f e = get_or-map f entries number e (f e) l ∙ ap f (get_or_from_slice_get entries number e e g) in
    next_reversed number ys (f e) (omega (arith, l, length-map entries f)) ∙ ap (λ (x : ℕ × Sent). x ∷ first_sent number (reverse ys)) one

-- ---- one text

pub text_told : (turns : List Turn) (texts : List (List ℕ)) (t : TerminalLog) (number : ℕ) (e : LoggedPacket) (ssrc : ℕ) (text : List ℕ) → slice_get t.entries.items number ≡ Some e → ssrc ≡ slice_index t.sources.items e.source
    → text ≡ octets_at (list_at texts (t.first + e.source)) e.place e.len → TellsText (sending_of turns texts t) number ssrc text
text_told turns texts t number e ssrc text g se xe =
    let f = sent_by turns texts t.first t.sources.items in
    let entries = t.entries.items in
    let ys = map f entries in
    let sent = reverse ys in
    let l = slice_get_within entries number e g in
    let turn = turn_at turns e.turn in
    let one : get_or ys number (f e) ≡ f e = get_or-map f entries number e (f e) l ∙ ap f (get_or_from_slice_get entries number e e g) in
    let same : f e ≡ (turn.now, record { source = ssrc; media = turn.media; text = text }) =
    ap (λ (xs : List ℕ). (turn.now, text_of t.sources.items e.source turn.media xs)) (sym xe)
    ∙ ap (λ (n : ℕ). let z : Sent = record { source = n; media = turn.media; text = text } in (turn.now, z)) (sym se) in
    record {
      at = turn.now;
      media = turn.media;
      next = next_reversed number ys (f e) (omega (arith, l, length-map entries f)) ∙ ap (λ (x : ℕ × Sent). x ∷ first_sent number sent) (one ∙ same);
    }

-- ---- the whole stream

in_reverse : (e : Sent) (xs : List (ℕ × Sent)) → In e (sents (reverse xs)) → In e (sents xs)
in_reverse e [] i = i
in_reverse e (x ∷ xs) i =
    elim (in_append e (sents (reverse xs)) (x.1 ∷ []) (subst (λ (ys : List Sent). In e ys) (ap (λ (ys : List (ℕ × Sent)). sents ys) (reverse-append (x ∷ []) xs) ∙ map-append (λ (y : ℕ × Sent). y.1) (reverse xs) (x ∷ [])) i)) [
      | inl j ↦ inr (in_reverse e xs j)
      | inr (inl q) ↦ inl q
      | inr (inr j) ↦ absurd j
    ]

each_word : (turns : List Turn) (texts : List (List ℕ)) (first : ℕ) (sources : List ℕ) (entries : List LoggedPacket) → All (λ s. s < 2 ^ 32) sources → All (IsEntry turns texts first sources) entries
    → (e : Sent) → In e (sents (map (sent_by turns texts first sources) entries)) → e.source < 2 ^ 32
each_word turns texts first sources [] w a e i = absurd i
each_word turns texts first sources (x ∷ entries) w a e (inl q) =
    let l = w x.source 0 (All-head (IsEntry turns texts first sources) x entries a).source in omega (arith, l, ap (λ (z : Sent). z.source) q)
each_word turns texts first sources (x ∷ entries) w a e (inr i) = each_word turns texts first sources entries w (All-tail (IsEntry turns texts first sources) x entries a) e i

pub stream_of_these : (turns : List Turn) (texts : List (List ℕ)) (t : TerminalLog) (ssrc : ℕ) (payload_types : PayloadTypes) → IsTerminal turns texts t → All (λ s. s < 2 ^ 32) t.sources.items → t.settings.ssrc ≡ ssrc → t.settings.payload_types ≡ payload_types → IsStreamOf ssrc payload_types (sending_of turns texts t)
stream_of_these turns texts t ssrc payload_types k w s p = record {
  settings = k.settings;
  ssrc_is = s;
  payload_types_are = p;
  words = λ e i. each_word turns texts t.first t.sources.items t.entries.items w k.entries e (in_reverse e (map (sent_by turns texts t.first t.sources.items) t.entries.items) i);
}

-- ---- moments

moments_are : (settings : PacketizerSettings) (xs : List (ℕ × Sent)) → map (λ r. r.0) (records_of settings xs) ≡ reverse (map (λ x. x.0) xs)
moments_are settings [] = refl
moments_are settings (x ∷ xs) =
    let moments = map (λ (y : ℕ × Sent). y.0) xs in
    map-append (λ (r : ℕ × List ℕ). r.0) (records_of settings xs) ((x.0, octets_of settings (sents xs) x.1) ∷ [])
    ∙ (ap (λ (ms : List ℕ). ms ++ x.0 ∷ []) (moments_are settings xs) ∙ sym (reverse-append (x.0 ∷ []) moments))

map_reverse : {X Y : Type 0} (f : X → Y) (xs : List X) → map f (reverse xs) ≡ reverse (map f xs)
map_reverse f [] = refl
map_reverse {X} {Y} f (x ∷ xs) =
    ap (map f) (reverse-append (x ∷ []) xs)
    ∙ (map-append f (reverse xs) (x ∷ []) ∙ (ap (λ (ys : List Y). ys ++ f x ∷ []) (map_reverse f xs) ∙ sym (reverse-append (f x ∷ []) (map f xs))))

moments_of : (turns : List Turn) (texts : List (List ℕ)) (first : ℕ) (sources : List ℕ) (entries : List LoggedPacket) → map (λ (x : ℕ × Sent). x.0) (map (sent_by turns texts first sources) entries) ≡ map (λ (e : LoggedPacket). (turn_at turns e.turn).now) entries
moments_of turns texts first sources [] = refl
moments_of turns texts first sources (e ∷ entries) = ap (λ (ms : List ℕ). (turn_at turns e.turn).now ∷ ms) (moments_of turns texts first sources entries)

rises : (m : LoggedPacket → ℕ) (entries : List LoggedPacket) → IsNonDecreasingBy m entries → IsNonDecreasing (map m entries)
rises m entries r = λ i j d p q.
    let none : LoggedPacket = record { turn = 0; place = 0; len = 0; source = 0 } in
    let l : j < length entries = omega (arith, q, length-map entries m) in
    let a : get_or (map m entries) i d ≡ m (get_or entries i none) = get_or-map m entries i none d (omega arith) in
    let b : get_or (map m entries) j d ≡ m (get_or entries j none) = get_or-map m entries j none d l in
    omega (arith, a, b, r i j none p l)

pub never_falls : (turns : List Turn) (texts : List (List ℕ)) (t : TerminalLog) → IsNonDecreasingBy (λ (e : LoggedPacket). (turn_at turns e.turn).now) t.entries.items → NeverFalls (sending_of turns texts t)
never_falls turns texts t r =
    let ys = map (sent_by turns texts t.first t.sources.items) t.entries.items in
    let moments = map (λ (x : ℕ × Sent). x.0) ys in
    let same : map (λ (a : ℕ × List ℕ). a.0) (records_of t.settings (reverse ys)) ≡ map (λ (e : LoggedPacket). (turn_at turns e.turn).now) t.entries.items =
    moments_are t.settings (reverse ys)
    ∙ (ap (λ (ms : List ℕ). reverse ms) (map_reverse (λ (x : ℕ × Sent). x.0) ys) ∙ (reverse-reverse moments ∙ moments_of turns texts t.first t.sources.items t.entries.items)) in
    subst (λ (ms : List ℕ). IsNonDecreasing ms) (sym same) (rises (λ (e : LoggedPacket). (turn_at turns e.turn).now) t.entries.items r)

-- one moment more, which is not below the last
pub rises_more : (m : LoggedPacket → ℕ) (entries : List LoggedPacket) (i : ℕ) (x : LoggedPacket) (last : ℕ) → i < length entries → x ≡ get_or entries i x → IsNonDecreasingBy m (take i entries) → ((d : LoggedPacket) → 0 < i → m (get_or entries (i - 1) d) ≡ last) → last ≤ m x
    → IsNonDecreasingBy m (take (i + 1) entries)
rises_more m entries i x last l e r f b =
    let front = take i entries in
    let size : length front ≡ i = length-take-le i entries (omega arith) in
    let more : take (i + 1) entries ≡ front ++ x ∷ [] = take_more entries i x l ∙ ap (λ (y : LoggedPacket). front ++ y ∷ []) (sym e) in
    subst (λ (xs : List LoggedPacket). IsNonDecreasingBy m xs) (sym more) (IsNonDecreasingBy-push m front x r (λ d p.
    let at : get_or front (length front - 1) d ≡ get_or entries (i - 1) d = ap (λ (n : ℕ). get_or front (n - 1) d) size ∙ get_or-take i entries (i - 1) d (omega arith) in
    omega (arith, ap m at, f d (omega arith), b)))
