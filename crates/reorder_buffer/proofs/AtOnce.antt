-- A packet that is next in order comes and is given at once.
use Rattle.std.proofs.Common.{◌≡◌, ℕ, ◌+◌, ◌<◌, ◌≤◌, false, cond, List, length, refl, ap, subst, sym, arith}
use Rattle.std.specs.Prelude.{max, nat_lt, ◌==◌}
use Rattle.std.proofs.lemmas.Bool.{ne_eqb}
use Rattle.wire_spec.specs.Packets.{Packet}
use Rattle.stream_spec.specs.Numbering.{Numbered}
use Rattle.reorder_buffer.specs.Pools.{no_packet}
use Rattle.reorder_buffer.specs.declared.answers.Taken.{Taken}
use Rattle.reorder_buffer.specs.declared.answers.Taken.TheVariants.{Ready, Held}
use Rattle.reorder_buffer.specs.Stories.{Story, came, gave, given_packet}
use Rattle.reorder_buffer.specs.States.{State, passed, counted, put_at, settled_first, IsNext, ready_at_once, given_at_once, IsPlace}
use Rattle.reorder_buffer.specs.Views.{next_number}
use Rattle.reorder_buffer.specs.Tracks.{Phase, Before, Within, Tracks}
use Rattle.reorder_buffer.proofs.Places.{at_once}
use Rattle.reorder_buffer.proofs.Steps.{settle_follows}
use Rattle.reorder_buffer.proofs.Counting.{put_all}
use Rattle.reorder_buffer.proofs.Giving.{give_step}

-- the first number is not above the front
first_low : (s : State) (story : Story) → 0 < s.arrivals → Tracks s story → s.first ≤ s.front
first_low s story some k = go k.follows.phase
  where
    go : Phase s story → s.first ≤ s.front
    go (Before w) = let none : length story.past ≡ 0 = ap length w.past in let a = k.follows.arrivals in absurd (omega arith)
    go (Within h) = h.holds.begun

pub gives_at_once : (s : State) (now n : ℕ) (p : Packet) → IsNext s n → n ≡ next_number s p.seq → (story : Story) → Tracks s story
    → Tracks (given_at_once s now n) (gave (came story now p) (given_packet n (ready_at_once s now) p))
gives_at_once s now n p next is story k =
    let b : (s.arrivals == 0) ≡ false = let some = next.begun in ne_eqb s.arrivals 0 (omega arith) in
    let low : s.first ≤ n = let f = first_low s story next.begun k in omega (arith, f, next.front_is) in
    let sc : State = counted (passed s now) n in
    let first : sc.first ≤ n = rw b low in
    let front : sc.front ≡ n = rw b (sym next.front_is) in
    let e : Numbered = record { time = max s.moment now; number = n; packet = p } in
    let st : State = put_at sc 0 e no_packet in
    let to : ℕ = ready_at_once s now in
    let place : IsPlace n sc.held 0 = subst (λ (held : List Numbered). IsPlace n held 0) (sym next.none_held) (record { within = omega arith; above = tt; behind = λ d q. absurd (omega arith) }) in
    let taken : Taken = cond (nat_lt n (n + 1)) Ready Held in
    let k2 = put_all s (passed s now) (passed s now) sc st (settled_first st to) story now n 0 p no_packet taken refl (λ t f. f) (rw next.none_held refl) is refl place first (omega (arith, front)) refl
    (λ t f. settle_follows st t to (at_once sc e no_packet next.none_held (sym front)) f) (rw next.none_held refl) refl refl k in
    give_step (settled_first st to) (given_at_once s now n) (came story now p) (given_packet n to p) (rw next.none_settled refl) (rw b refl) k2.0
