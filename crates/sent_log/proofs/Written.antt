-- What is written of packets that are kept.
use Rattle.std.proofs.Common.{◌≡◌, ℕ, ◌+◌, ◌<◌, ◌≤◌, Bool, true, false, cond, Result, Ok, Err, Some, drop, List, [], ◌∷◌, ◌++◌, length, take, append_assoc, refl, ap, sym, ◌∙◌, arith}
use Rattle.std.specs.Prelude.{OnOk, is_err, slice_get}
use Rattle.std.specs.List.{flat_map}
use Rattle.std.proofs.lemmas.List.{length-drop, length-take, take_all}
use Rattle.std.proofs.lemmas.List.Elements.{All-head, All-tail}
use Rattle.rtt_base.specs.declared.blocks.TextBlock.{TextBlock}
use Rattle.wire_spec.specs.Red.{red_header, red_spelling}
use Rattle.rtt_base.specs.declared.limits.TheConstants.{MOST_PACKET_OCTETS}
use Rattle.wire_spec.proofs.Sizes.{AreShortTexts, packet_size}
use Rattle.rtp_text.specs.declared.block_writers.TextHead.{TextHead}
use Rattle.rtp_text.specs.Writing.{packet_with}
use Rattle.sent_log.specs.Lists.{list_at}
use Rattle.sent_log.specs.Repeats.{AreBelow}
use Rattle.sent_log.specs.declared.terminals.LoggedPacket.{LoggedPacket}
use Rattle.sent_log.specs.declared.repeats.PacketKey.{PacketKey}
use Rattle.sent_log.specs.declared.terminals.TerminalLog.{TerminalLog}
use Rattle.sent_log.specs.Writing.{HasText, HasTexts, blocks_in, entry_at, kept_header, kept_text, kept_texts, packet_in, text_in}
use Rattle.rtp_text.proofs.Pieces.{piece_more}

-- what holds where all went well
pub if_ok : {A E : Type 0} (P : Type 0) (r : Result A E) → OnOk r P → is_err r ≡ false → P
if_ok P (Ok v) p e = p
if_ok P (Err v) p e = cc e

-- ---- one after the other

pub texts_more : (texts : List (List ℕ)) (t : TerminalLog) (older : List PacketKey) (i : ℕ) (k : PacketKey) → slice_get older i ≡ Some k → kept_texts texts t (take i older) ++ kept_text texts t k ≡ kept_texts texts t (take (i + 1) older)
texts_more texts t older i k e = piece_more (kept_text texts t) older i k e

pub texts_of_all : (texts : List (List ℕ)) (t : TerminalLog) (older : List PacketKey) (i : ℕ) → length older ≤ i → kept_texts texts t (take i older) ≡ kept_texts texts t older
texts_of_all texts t older i l = ap (λ (ks : List PacketKey). kept_texts texts t ks) (take_all i older l)

-- ---- as blocks

pub texts_are : (texts : List (List ℕ)) (t : TerminalLog) (timestamp : ℕ) (kept : List PacketKey) → flat_map (λ (b : TextBlock). b.text) (blocks_in texts t timestamp kept) ≡ kept_texts texts t kept
texts_are texts t timestamp [] = refl
texts_are texts t timestamp (k ∷ kept) = ap (λ (xs : List ℕ). kept_text texts t k ++ xs) (texts_are texts t timestamp kept)

pub headers_are : (texts : List (List ℕ)) (t : TerminalLog) (timestamp t140 : ℕ) (kept : List PacketKey) → flat_map (red_header t140) (blocks_in texts t timestamp kept) ≡ flat_map (kept_header texts t timestamp t140) kept
headers_are texts t timestamp t140 [] = refl
headers_are texts t timestamp t140 (k ∷ kept) = ap (λ (xs : List ℕ). kept_header texts t timestamp t140 k ++ xs) (headers_are texts t timestamp t140 kept)

-- the headers, and the texts behind them, are the red form
pub red_is : (texts : List (List ℕ)) (t : TerminalLog) (timestamp t140 : ℕ) (kept : List PacketKey) (text : List ℕ)
    → (flat_map (kept_header texts t timestamp t140) kept ++ t140 ∷ []) ++ (kept_texts texts t kept ++ text) ≡ red_spelling t140 (blocks_in texts t timestamp kept) text
red_is texts t timestamp t140 kept text =
    append_assoc (flat_map (kept_header texts t timestamp t140) kept) (t140 ∷ []) (kept_texts texts t kept ++ text)
    ∙ (ap (λ (xs : List ℕ). xs ++ t140 ∷ (kept_texts texts t kept ++ text)) (sym (headers_are texts t timestamp t140 kept))
    ∙ ap (λ (xs : List ℕ). flat_map (red_header t140) (blocks_in texts t timestamp kept) ++ t140 ∷ (xs ++ text)) (sym (texts_are texts t timestamp kept)))

-- ---- how long it is

-- the text of an entry has as many octets as it says
pub text_size : (texts : List (List ℕ)) (t : TerminalLog) (e : LoggedPacket) → HasText texts t e → length (text_in texts t e) ≡ e.len
text_size texts t e h =
    let list = list_at texts (t.first + e.source) in
    omega (arith, h.within, length-take e.len (drop e.place list), length-drop e.place list)

kept_size : (texts : List (List ℕ)) (t : TerminalLog) (k : PacketKey) → HasTexts texts t → (k.sent ≡ true → k.number < length t.entries.items) → length (kept_text texts t k) ≤ 1023
kept_size texts t k h l = go k.sent refl
  where
    go : (b : Bool) → k.sent ≡ b → length (cond b (text_in texts t (entry_at t.entries.items k.number)) []) ≤ 1023
    go true q =
        let x = h.each k.number (record { turn = 0; place = 0; len = 0; source = 0 }) (l q) in
        omega (arith, x.short, text_size texts t (entry_at t.entries.items k.number) x)
    go false q = omega arith

kept_short : (texts : List (List ℕ)) (t : TerminalLog) (timestamp : ℕ) (kept : List PacketKey) → HasTexts texts t → AreBelow (length t.entries.items) kept → AreShortTexts (blocks_in texts t timestamp kept)
kept_short texts t timestamp [] h a = tt
kept_short texts t timestamp (k ∷ kept) h a =
    (kept_size texts t k h (All-head (λ (x : PacketKey). x.sent ≡ true → x.number < length t.entries.items) k kept a), kept_short texts t timestamp kept h (All-tail (λ (x : PacketKey). x.sent ≡ true → x.number < length t.entries.items) k kept a))

blocks_count : (texts : List (List ℕ)) (t : TerminalLog) (timestamp : ℕ) (kept : List PacketKey) → length (blocks_in texts t timestamp kept) ≡ length kept
blocks_count texts t timestamp [] = refl
blocks_count texts t timestamp (k ∷ kept) = let r = blocks_count texts t timestamp kept in omega (arith, r)

pub packet_short : (texts : List (List ℕ)) (t : TerminalLog) (older : List PacketKey) (e : LoggedPacket) (head : TextHead) → HasTexts texts t → HasText texts t e → length older ≤ 3 → AreBelow (length t.entries.items) older
    → length (packet_in texts t older e head) ≤ MOST_PACKET_OCTETS
packet_short texts t older e head h w l a =
    packet_size t.settings.payload_types (packet_with head (blocks_in texts t head.timestamp older) (text_in texts t e)) (kept_short texts t head.timestamp older h a) (omega (arith, l, blocks_count texts t head.timestamp older)) (omega (arith, w.short, text_size texts t e w))
