-- What an ear of one source hands out of the texts that are heard (profile).
use Rattle.std.specs.Prelude.{ℕ, Bool, true, false, Option, None, Some, List, filter, flat_map}
use Rattle.rtt_base.specs.declared.limits.TheConstants.{MOST_TEXT_OCTETS}
use Rattle.stream_spec.specs.Ready.{Chunk}
use Rattle.stream_spec.specs.Still.{is_blank, is_lively, is_lively_chunk}
use Rattle.mixer_spec.specs.Pieces.{chunks_cut, pieces}
use Rattle.mixer_spec.specs.declared.piece_limits.TheConstants.{MOST_PIECE_OCTETS}
use Rattle.receiver.specs.declared.cuts.TextCut.{TextCut}
use Rattle.receiver.specs.declared.cuts.TextCut.TheVariants.{Never, Long, Short}

-- the most octets of what is handed out at once
abbrev pub most_of : TextCut → ℕ
most_of Never = MOST_TEXT_OCTETS
most_of Long = MOST_TEXT_OCTETS
most_of Short = MOST_PIECE_OCTETS

-- whether keep-alives are left out, and texts cut
abbrev pub is_cut : TextCut → Bool
is_cut Never = false
is_cut Long = true
is_cut Short = true

-- how a mixer's legs are heard, where its packets have a limit, or none
abbrev pub cut_within : Option ℕ → TextCut
cut_within None = Long
cut_within (Some most) = Short

-- whether a text is not handed out
abbrev pub is_dropped : TextCut → List ℕ → Bool
is_dropped Never text = false
is_dropped Long text = is_blank text
is_dropped Short text = is_blank text

-- the pieces of a text
abbrev pub text_pieces : TextCut → List ℕ → List (List ℕ)
text_pieces Never text = pieces MOST_TEXT_OCTETS text
text_pieces Long text = pieces MOST_TEXT_OCTETS text
text_pieces Short text = pieces MOST_PIECE_OCTETS text

-- but for keep-alives, in pieces of at most n octets
abbrev pub texts_in_pieces : ℕ → List (List ℕ) → List (List ℕ)
texts_in_pieces n ts = flat_map (pieces n) (filter is_lively ts)

abbrev pub chunks_in_pieces : ℕ → List Chunk → List Chunk
chunks_in_pieces n cs = chunks_cut (pieces n) (filter is_lively_chunk cs)

-- of the texts that are heard what is handed out
abbrev pub texts_given : TextCut → List (List ℕ) → List (List ℕ)
texts_given Never ts = flat_map (pieces MOST_TEXT_OCTETS) ts
texts_given Long ts = texts_in_pieces MOST_TEXT_OCTETS ts
texts_given Short ts = texts_in_pieces MOST_PIECE_OCTETS ts

-- each at its moment
abbrev pub chunks_given : TextCut → List Chunk → List Chunk
chunks_given Never cs = chunks_cut (pieces MOST_TEXT_OCTETS) cs
chunks_given Long cs = chunks_in_pieces MOST_TEXT_OCTETS cs
chunks_given Short cs = chunks_in_pieces MOST_PIECE_OCTETS cs
