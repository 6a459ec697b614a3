-- What a packet gives, block by block.
use Rattle.std.proofs.Common.{◌≡◌, ℕ, zero, suc, ◌+◌, ◌-◌, Bool, true, Option, List, [], ◌∷◌, ◌++◌, length, drop, refl, ap, sym, subst, ◌∙◌, ◌<◌, false, arith, append_assoc}
use Rattle.std.specs.Prelude.{◌==◌, not, if◌then◌else◌}
use Rattle.std.proofs.lemmas.Bool.{and_parts, not-true, eqb-true}
use Rattle.std.proofs.lemmas.List.{drop_all}
use Rattle.rtt_base.specs.declared.blocks.TextBlock.{TextBlock}
use Rattle.rtt_base.specs.declared.text_packets.TextPacket.{TextPacket}
use Rattle.std.specs.List.{AllByRecursion}
use Rattle.wire_spec.specs.Packets.{back, has_text}
use Rattle.stream_spec.specs.Hearing.{marker, text_list}
use Rattle.receiver.specs.declared.receivers.LastPacket.{LastPacket}
use Rattle.receiver.specs.declared.pieces.TextCursor.{TextCursor}
use Rattle.receiver.specs.Steps.{is_new_since, new_since, older_since, texts_since}
use Rattle.receiver.specs.Pieces.{left_of, is_heard, last_blocks}

-- a packet of which all is to be heard
pub fresh_left : (seen : Option LastPacket) (p : TextPacket) (m : Bool) (rest : ℕ) → rest ≡ length p.older + 1 → left_of (record { seen = seen; marker = m; rest = rest }) p ≡ (if m then marker ∷ [] else []) ++ texts_since seen p
fresh_left seen p m rest r =
    let s : rest ≡ suc (length p.older) = omega (arith, r) in
    let z : length p.older - length p.older ≡ 0 = omega arith in
    rw s (rw z refl)

-- one of which nothing is
pub heard_left : (piece : TextCursor) (p : TextPacket) → is_heard piece ≡ true → left_of piece p ≡ []
heard_left piece p h =
    let parts = and_parts (not piece.marker) (piece.rest == 0) h in
    let z : piece.rest ≡ 0 = eqb-true piece.rest 0 parts.1 in
    rw (not-true piece.marker parts.0, z) refl

-- ---- the next text
-- the text of a redundant block, which has this place
pub last_older : (seen : Option LastPacket) (p : TextPacket) (rest start index : ℕ) (text : List ℕ) → 0 < rest → start ≡ length p.older + 1 - rest → index < length p.older
    → older_since seen p.timestamp (drop start p.older) ≡ older_since seen p.timestamp (drop index p.older)
    → older_since seen p.timestamp (drop index p.older) ≡ text ∷ older_since seen p.timestamp (drop (index + 1) p.older)
    → last_blocks seen p rest ≡ text ∷ last_blocks seen p (length p.older - index)
last_older seen p zero start index text some at within same gives = absurd (omega arith)
last_older seen p (suc n) start index text some at within same gives =
    let from : length p.older - n ≡ start = omega (arith, at) in
    let left : length p.older - index ≡ suc (length p.older - index - 1) = omega (arith, within) in
    let next : length p.older - (length p.older - index - 1) ≡ index + 1 = omega (arith, within) in
    rw (from, left) (rw next (ap (λ (ts : List (List ℕ)). ts ++ text_list p.primary) (same ∙ gives)))

-- where no redundant block gives one, only the primary one is left
pub last_primary : (seen : Option LastPacket) (p : TextPacket) (rest start : ℕ) → 0 < rest → start ≡ length p.older + 1 - rest
    → older_since seen p.timestamp (drop start p.older) ≡ older_since seen p.timestamp (drop (length p.older) p.older)
    → last_blocks seen p rest ≡ text_list p.primary
last_primary seen p zero start some at same = absurd (omega arith)
last_primary seen p (suc n) start some at same =
    let from : length p.older - n ≡ start = omega (arith, at) in
    let none : drop (length p.older) p.older ≡ [] = drop_all (length p.older) p.older (omega arith) in
    rw from (ap (λ (ts : List (List ℕ)). ts ++ text_list p.primary) (same ∙ ap (older_since seen p.timestamp) none))

-- ---- no text of a packet is empty
abbrev HasTexts : List (List ℕ) → Type 0
HasTexts ts = AllByRecursion (λ (t : List ℕ). has_text t ≡ true) ts

list_some : (t : List ℕ) → HasTexts (text_list t)
list_some [] = tt
list_some (x ∷ t) = (refl, tt)

both_some : (xs ys : List (List ℕ)) → HasTexts xs → HasTexts ys → HasTexts (xs ++ ys)
both_some [] ys a b = b
both_some (x ∷ xs) ys a b = (a.0, both_some xs ys a.1 b)

new_some : (seen : Option LastPacket) (timestamp : ℕ) (b : TextBlock) → HasTexts (new_since seen timestamp b)
new_some seen timestamp b = go (is_new_since seen (back timestamp b.offset))
  where
    go : (n : Bool) → HasTexts (if n then text_list b.text else [])
    go true = list_some b.text
    go false = tt

older_some : (seen : Option LastPacket) (timestamp : ℕ) (bs : List TextBlock) → HasTexts (older_since seen timestamp bs)
older_some seen timestamp [] = tt
older_some seen timestamp (b ∷ bs) = both_some (new_since seen timestamp b) (older_since seen timestamp bs) (new_some seen timestamp b) (older_some seen timestamp bs)

last_some : (seen : Option LastPacket) (p : TextPacket) (rest : ℕ) → HasTexts (last_blocks seen p rest)
last_some seen p zero = tt
last_some seen p (suc n) =
    let older : List TextBlock = drop (length p.older - n) p.older in
    both_some (older_since seen p.timestamp older) (text_list p.primary) (older_some seen p.timestamp older) (list_some p.primary)

left_some : (piece : TextCursor) (p : TextPacket) → HasTexts (left_of piece p)
left_some piece p = go piece.marker (last_some piece.seen p piece.rest)
  where
    go : (m : Bool) → HasTexts (last_blocks piece.seen p piece.rest) → HasTexts ((if m then marker ∷ [] else []) ++ last_blocks piece.seen p piece.rest)
    go true h = (refl, h)
    go false h = h

some_octets : (t : List ℕ) → has_text t ≡ true → 0 < length t
some_octets [] e = absurd (cc e)
some_octets (x ∷ t) e = omega arith

pub text_some : (piece : TextCursor) (p : TextPacket) (t : List ℕ) (ts : List (List ℕ)) → left_of piece p ≡ t ∷ ts → 0 < length t
text_some piece p t ts e = let h : HasTexts (t ∷ ts) = subst HasTexts e (left_some piece p) in some_octets t h.0
