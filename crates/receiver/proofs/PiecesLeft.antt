-- What is still to be handed out of a packet.
use Rattle.std.proofs.Common.{◌≡◌, ℕ, ◌+◌, ◌<◌, ◌≤◌, true, false, List, [], ◌∷◌, ◌++◌, length, take, drop, length-take-le, ap, sym, ◌∙◌, arith}
use Rattle.std.specs.Prelude.{◌&&◌}
use Rattle.std.proofs.lemmas.Bool.{le-leb}
use Rattle.std.proofs.lemmas.List.{drop_all, drop-drop}
use Rattle.rtt_base.specs.declared.text_packets.TextPacket.{TextPacket}
use Rattle.mixer_spec.specs.Pieces.{cut_at}
use Rattle.receiver.specs.declared.cuts.TextCut.{TextCut}
use Rattle.receiver.specs.declared.pieces.TextCursor.{TextCursor}
use Rattle.receiver.specs.declared.piece_cursors.PieceCursor.{PieceCursor}
use Rattle.receiver.specs.Cuts.{is_dropped, most_of, text_pieces, texts_given}
use Rattle.receiver.specs.Pieces.{is_heard, left_of}
use Rattle.receiver.specs.PiecesLeft.{is_given, pieces_left, rest_of}
use Rattle.receiver.proofs.Blockwise.{text_some}
use Rattle.receiver.proofs.HandedOut.{given_less, given_more, piece_cut, piece_whole, pieces_nil, texts_nil}

-- ---- one piece
-- the text itself, where it is short
pub put_whole : (cut : TextCut) (text out : List ℕ) → 0 < length text → length text ≤ most_of cut → out ≡ text → text_pieces cut text ≡ out ∷ text_pieces cut (drop (length out) text)
put_whole cut text out some short is =
    piece_whole cut text some short
    ∙ (ap (λ (ts : List (List ℕ)). text ∷ ts) (sym (ap (text_pieces cut) (drop_all (length text) text (omega arith)) ∙ pieces_nil cut))
    ∙ ap (λ (t : List ℕ). t ∷ text_pieces cut (drop (length t) text)) (sym is))

-- or a front of it
pub put_front : (cut : TextCut) (text out : List ℕ) (most end : ℕ) → most ≡ most_of cut → most < length text → end ≡ cut_at most text → end ≤ most → out ≡ take end text
    → text_pieces cut text ≡ out ∷ text_pieces cut (drop (length out) text)
put_front cut text out most end value long at within is =
    let len : length out ≡ end = ap (λ (t : List ℕ). length t) is ∙ length-take-le end text (omega (arith, within, long)) in
    piece_cut cut text (omega (arith, value, long))
    ∙ (ap (λ (n : ℕ). take n text ∷ text_pieces cut (drop n text)) (sym (at ∙ ap (λ (n : ℕ). cut_at n text) value))
    ∙ (λ i. sym is i ∷ text_pieces cut (drop (sym len i) text)))

pub front_within : (text out : List ℕ) (end : ℕ) → out ≡ take end text → end ≤ length text → length out ≤ length text
front_within text out end is within = let len = ap (λ (t : List ℕ). length t) is ∙ length-take-le end text within in omega (arith, len, within)

-- ---- one text
-- one that is handed out, or that is not
pub next_given : (cut : TextCut) (texts : TextCursor) (p : TextPacket) (t : List ℕ) (ts : List (List ℕ)) → left_of texts p ≡ t ∷ ts → is_dropped cut t ≡ false
    → texts_given cut (left_of texts p) ≡ text_pieces cut t ++ texts_given cut ts
next_given cut texts p t ts e d = ap (texts_given cut) e ∙ given_more cut t ts (text_some texts p t ts e) d

pub next_dropped : (cut : TextCut) (texts : TextCursor) (p : TextPacket) (t : List ℕ) (ts : List (List ℕ)) → left_of texts p ≡ t ∷ ts → is_dropped cut t ≡ true
    → texts_given cut (left_of texts p) ≡ texts_given cut ts
next_dropped cut texts p t ts e d = ap (texts_given cut) e ∙ given_less cut t ts d

pub none_given : (cut : TextCut) (texts : TextCursor) (p : TextPacket) → left_of texts p ≡ [] → texts_given cut (left_of texts p) ≡ []
none_given cut texts p e = ap (texts_given cut) e ∙ texts_nil cut

pub fewer : (ts us : List (List ℕ)) (t : List ℕ) → ts ≡ t ∷ us → length us < length ts
fewer ts us t e = omega (arith, ap (λ (xs : List (List ℕ)). length xs) e)

-- ---- the pieces of a text
-- nothing is left of one that was handed out
pub rest_none : (cut : TextCut) (piece : PieceCursor) → length piece.whole ≤ piece.from → rest_of cut piece ≡ []
rest_none cut piece l = ap (text_pieces cut) (drop_all piece.from piece.whole l) ∙ pieces_nil cut

pub one_piece : (cut : TextCut) (piece : PieceCursor) (text : List ℕ) → 0 < length text → length text ≤ most_of cut → length piece.whole ≤ piece.from → text_pieces cut text ≡ text ∷ rest_of cut piece
one_piece cut piece text some short none = piece_whole cut text some short ∙ ap (λ (ts : List (List ℕ)). text ∷ ts) (sym (rest_none cut piece none))

-- behind its first piece the next begins
pub rest_next : (cut : TextCut) (old new : PieceCursor) (out : List ℕ) → new.whole ≡ old.whole → new.from ≡ old.from + length out
    → rest_of cut old ≡ out ∷ text_pieces cut (drop (length out) (drop old.from old.whole)) → rest_of cut old ≡ out ∷ rest_of cut new
rest_next cut old new out whole from is =
    is ∙ ap (λ (t : List ℕ). out ∷ text_pieces cut t)
    (drop-drop (length out) old.from old.whole ∙ (λ i. drop (sym from i) (sym whole i)))

-- ---- all of it
pub left_rest : (cut : TextCut) (old new : PieceCursor) (p : TextPacket) (out : List ℕ) → rest_of cut old ≡ out ∷ rest_of cut new → new.texts ≡ old.texts → pieces_left cut old p ≡ out ∷ pieces_left cut new p
left_rest cut old new p out rest texts = λ i. rest i ++ texts_given cut (left_of (sym texts i) p)

pub left_next : (cut : TextCut) (old new : PieceCursor) (p : TextPacket) (texts : TextCursor) (t out : List ℕ) → length old.whole ≤ old.from
    → texts_given cut (left_of old.texts p) ≡ text_pieces cut t ++ texts_given cut (left_of texts p) → text_pieces cut t ≡ out ∷ rest_of cut new → new.texts ≡ texts
    → pieces_left cut old p ≡ out ∷ pieces_left cut new p
left_next cut old new p texts t out none given pieces is =
    ap (λ (ts : List (List ℕ)). ts ++ texts_given cut (left_of old.texts p)) (rest_none cut old none)
    ∙ (given ∙ (λ i. pieces i ++ texts_given cut (left_of (sym is i) p)))

pub left_none : (cut : TextCut) (old : PieceCursor) (p : TextPacket) → length old.whole ≤ old.from → texts_given cut (left_of old.texts p) ≡ [] → pieces_left cut old p ≡ []
left_none cut old p none given = (λ i. rest_none cut old none i ++ given i)

pub given_when : (piece : PieceCursor) → length piece.whole ≤ piece.from → is_heard piece.texts ≡ true → is_given piece ≡ true
given_when piece l h = (λ i. le-leb (length piece.whole) piece.from l i && h i)
