-- A terminal at which nobody is due.
use Rattle.std.proofs.Common.{◌≡◌, ℕ, ◌+◌, ◌<◌, ◌≤◌, Bool, true, false, not, ◌&&◌, ◌||◌, Option, Some, None, List, refl, ap, sym, ◌∙◌, arith}
use Rattle.std.specs.Prelude.{◌==◌}
use Rattle.std.proofs.lemmas.Bool.{true≢false, lt-leb}
use Rattle.stream_spec.specs.Own.{Sent, has_text_in}
use Rattle.stream_spec.specs.Ready.{Chunk}
use Rattle.mixer_spec.specs.Rounds.{all_below}
use Rattle.mixer_spec.specs.Setups.{Setup}
use Rattle.mixer_spec.specs.Table.{Terminal, Seats, has_work, is_due, is_due_leg, is_due_at, is_spaced, last_media, sent_from, leg_in, round_start, served, is_quiet}
use Rattle.mixer_spec.proofs.Rounds.{round_some}
use Rattle.mixer_spec.proofs.Seats.{leg_in_some}
use Rattle.terminal_scheduler.specs.AwareStates.{AwareState}
use Rattle.terminal_scheduler.specs.AwareStanding.{NoneDue, AwareStandsFor}
use Rattle.terminal_scheduler.specs.Turns.{free_after}
use Rattle.stream_spec.proofs.Plain.{no_text}

-- no text of the leg i waits, or is still to be repeated; the terminal's own has none there
abbrev pub is_done_with : Setup → ℕ → Terminal → ℕ → Bool
is_done_with s j d i = (i == j) || not (has_work s j d i)

-- of the mixer's own source nothing was sent
pub quiet_is : (s : Setup) (j : ℕ) (o : AwareState) (d : Terminal) → AwareStandsFor s j o d → all_below (is_done_with s j d) s.legs ≡ is_quiet s j d
quiet_is s j o d h =
    ap (λ (b : Bool). not b && all_below (is_done_with s j d) s.legs) (sym (ap (λ (xs : List Sent). has_text_in (s.generations j) xs) h.none_mixed ∙ no_text (s.generations j)))

-- ---- nobody is due
pub not_due : (s : Setup) (j t i : ℕ) (d : Terminal) → is_done_with s j d i ≡ true → is_due s j t d i ≡ false
not_due s j t i d e = go (i == j) (has_work s j d i) (is_spaced s.spacing t (last_media (sent_from (s.ssrc i) d))) e
  where
    go : (o h p : Bool) → (o || not h) ≡ true → (not o && (h && p)) ≡ false
    go true h p e = refl
    go false true p e = cc e
    go false false p e = refl

none_serves : (s : Setup) (seats : Seats) (j t : ℕ) (d : Terminal) → NoneDue s j t d → round_start d.past ≤ s.places → None ≡ served s seats j t d
none_serves s seats j t d none l = go (served s seats j t d) refl
  where
    leg : (o : Option ℕ) (p : ℕ) → leg_in seats s.legs p ≡ o → is_due_leg s j t d o ≡ true → ⊥
    leg None p e f = true≢false (sym f)
    leg (Some i) p e f = true≢false (sym f ∙ none i (leg_in_some seats s.legs p i e).0)

    go : (o : Option ℕ) → served s seats j t d ≡ o → None ≡ o
    go None e = refl
    go (Some p) e = absurd (leg (leg_in seats s.legs p) p refl (round_some (is_due_at s seats j t d) (round_start d.past) s.places p l e).passes)

pub none_due : (s : Setup) (seats : Seats) (o : AwareState) (t : ℕ) (d : Terminal) → AwareStandsFor s o.own o d → t < o.calm → o.next ≤ 16 → None ≡ served s seats o.own t d
none_due s seats o t d h c l = none_serves s seats o.own t d (h.calm t c) (omega (arith, l, h.next, h.places))

-- its last packet is not so long ago
pub not_spaced : (spacing t : ℕ) (last : Option ℕ) → t < free_after spacing last → false ≡ is_spaced spacing t last
not_spaced spacing t None l = absurd (omega (arith, l))
not_spaced spacing t (Some m) l = sym (lt-leb (m + spacing) t l)

-- ---- what changes only what is known of who is due
pub stands_calm : (s : Setup) (j : ℕ) (o : AwareState) (d : Terminal) (calm : ℕ) (waits : ℕ → List Chunk) → AwareStandsFor s j o d
    → ((t : ℕ) → t < calm → NoneDue s j t (record { past = d.past; asks = d.asks; waits = waits }))
    → AwareStandsFor s j (record o { calm = calm }) (record { past = d.past; asks = d.asks; waits = waits })
stands_calm s j o d calm waits h r = record {
  setup = h.setup;
  places = h.places;
  own = h.own;
  leg = h.leg;
  room = h.room;
  spacing = h.spacing;
  generations = h.generations;
  sent = h.sent;
  legs = h.legs;
  left = h.left;
  free = h.free;
  next = h.next;
  none_mixed = h.none_mixed;
  calm = r;
}
