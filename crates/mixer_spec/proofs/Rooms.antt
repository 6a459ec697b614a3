-- Where each text has room, so has each packet.
use Rattle.std.proofs.Common.{◌≡◌, ℕ, zero, suc, ◌+◌, ◌-◌, ◌*◌, ◌≤◌, Bool, true, false, cond, inl, inr, List, [], ◌∷◌, ◌++◌, length, length-append, refl, ap, ◌∙◌, arith}
use Rattle.std.specs.Prelude.{◌==◌, Some, map}
use Rattle.std.specs.List.{concat}
use Rattle.std.proofs.lemmas.List.{length-map}
use Rattle.stream_spec.specs.Lists.{In}
use Rattle.stream_spec.specs.History.{History, Placed, Lawful, placed, window, slots, nones, octets, texts_of}
use Rattle.stream_spec.specs.Own.{Own, Sent, Stream, block_of, entry_after, sent_history}
use Rattle.stream_spec.proofs.Grows.{split}
use Rattle.stream_spec.proofs.OwnPackets.{own_is_packet}
use Rattle.stream_spec.proofs.Blocks.{in_window}
use Rattle.mixer_spec.specs.Rooms.{room, HasRoom, NoRoomIsGreater, PieceHasRoom}
use Rattle.mixer_spec.specs.Setups.{stream}
use Rattle.mixer_spec.specs.Table.{TurnEntry, sents}
use Rattle.mixer_spec.specs.Core.{after}
use Rattle.mixer_spec.specs.Sending.{AnyFits}
use Rattle.mixer_spec.proofs.Paced.{sent_in}
use Rattle.mixer_spec.proofs.After.{core_good}
use Rattle.mixer_spec.proofs.Final.{lawful_law, own_law}

-- the n-fold of r
abbrev pub times : ℕ → ℕ → ℕ
times r zero = zero
times r (suc n) = r + times r n

all_short : (r n : ℕ) (ys : List Placed) → ((y : Placed) → In y ys → length y.text ≤ r) → length ys ≤ n → length (concat (texts_of ys)) ≤ times r n
all_short r zero [] f l = omega arith
all_short r (suc n) [] f l = omega arith
all_short r zero (y ∷ ys) f l = absurd (omega arith)
all_short r (suc n) (y ∷ ys) f l =
    let h = all_short r n ys (λ x i. f x (inr i)) (omega arith) in
    let a = f y (inl refl) in
    omega (arith, length-append y.text (concat (texts_of ys)))

-- an entry repeats no more than g
window_short : (g : ℕ) (h : History) → Lawful h → Own g h → (x : Placed) → In x (placed h) → length (window h x) ≤ g
window_short g h law own x i =
    let p = own_is_packet g h x law own i in
    let few = length-map (slots h x) (block_of x) in
    let all = length-append (nones (x.generations - x.index)) (map Some (window h x)) in
    let some = length-map (window h x) Some in
    let generations = own.generations x i in
    omega (arith, p.count)

-- with up to three generations
pub fits : (most g n t : ℕ) → g ≤ 3 → 17 + 4 * g ≤ most → n ≤ times (room most g) g → t ≤ room most g → 16 + (4 * g + 1) + (n + t) ≤ most
fits most zero n t l m a b = omega arith
fits most (suc zero) n t l m a b = omega arith
fits most (suc (suc zero)) n t l m a b = omega arith
fits most (suc (suc (suc zero))) n t l m a b = omega arith
fits most (suc (suc (suc (suc g)))) n t l m a b = absurd (omega arith)

pub fit_law : (most g : ℕ) (h : History) → g ≤ 3 → 17 + 4 * g ≤ most → Lawful h → Own g h → HasRoom most g h → (x : Placed) → In x (placed h) → octets h x ≤ most
fit_law most g h l m law own f x i =
    let w = all_short (room most g) g (window h x) (λ y j. f y (in_window h x y j).0) (window_short g h law own x i) in
    let a = fits most g (length (concat (texts_of (window h x)))) (length x.text) l m w (f x i) in
    let generations = own.generations x i in
    head (x.source == h.ssrc) (omega (arith, length-append (concat (texts_of (window h x))) x.text))
  where
    head : (b : Bool) → 16 + (4 * x.generations + 1) + length (concat (texts_of (window h x)) ++ x.text) ≤ most
        → cond b 12 16 + (4 * x.generations + 1) + length (concat (texts_of (window h x)) ++ x.text) ≤ most
    head true z = omega arith
    head false z = z

-- ---- at a mixer
-- the text of an entry is one that was sent
text_sent : (c : Stream) (past : List Sent) (x : Placed) → In x (placed (sent_history c past)) → (z : Sent) × In z past × (x.text ≡ z.text)
text_sent c [] x i = absurd i
text_sent c (e ∷ past) x i = elim (split (sent_history c past) (entry_after c.generations past e) x i) [
  | inl j ↦ let r = text_sent c past x j in (r.0, inr r.1, r.2)
  | inr q ↦ (e, inl refl, ap (λ (y : Placed). y.text) q)
]

pub any_law : AnyFits
any_law s chunks past most j run l m r x i =
    let d = (after s chunks past).table.terminals j in
    let paced = ((core_good s run.setup chunks run.texts past).timed j l).paced in
    fit_law most (s.generations j) _ (run.setup.generations j) m (lawful_law s chunks past j run.setup run.texts run.span l) (own_law s chunks past j)
    (λ y k.
    let t = text_sent (stream s j) (sents d.past) y k in
    let e = sent_in d.past t.0 t.1 in
    let short = (paced.texts e.0 e.1).0 in
    let same : length y.text ≡ length e.0.sent.text = ap length t.2 ∙ ap (λ (z : Sent). length z.text) e.2 in
    omega (arith, short, same, r)) x i

pub piece_law : PieceHasRoom
piece_law most zero l m = omega arith
piece_law most (suc zero) l m = omega arith
piece_law most (suc (suc zero)) l m = omega arith
piece_law most (suc (suc (suc zero))) l m = omega arith
piece_law most (suc (suc (suc (suc g)))) l m = absurd (omega arith)

pub most_law : NoRoomIsGreater
most_law most g = omega arith
