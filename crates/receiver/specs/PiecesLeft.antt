-- What is still to be handed out of a packet (profile).
use Rattle.std.specs.Prelude.{◌&&◌, Bool, List, ℕ, ◌++◌, drop, length, nat_le}
use Rattle.rtt_base.specs.declared.text_packets.TextPacket.{TextPacket}
use Rattle.receiver.specs.declared.cuts.TextCut.{TextCut}
use Rattle.receiver.specs.declared.piece_cursors.PieceCursor.{PieceCursor}
use Rattle.receiver.specs.Cuts.{text_pieces, texts_given}
use Rattle.receiver.specs.Pieces.{is_heard, left_of}

-- the pieces that are left of the text that was cut last
abbrev pub rest_of : TextCut → PieceCursor → List (List ℕ)
rest_of cut piece = text_pieces cut (drop piece.from piece.whole)

-- and what is handed out of the texts that are still to be heard of this packet
abbrev pub pieces_left : TextCut → PieceCursor → TextPacket → List (List ℕ)
pieces_left cut piece p = rest_of cut piece ++ texts_given cut (left_of piece.texts p)

-- nothing of whatever packet is still to be handed out
abbrev pub is_given : PieceCursor → Bool
is_given piece = nat_le (length piece.whole) piece.from && is_heard piece.texts
