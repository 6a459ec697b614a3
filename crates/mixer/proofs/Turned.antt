-- A turn is one call more.
use Rattle.std.proofs.Common.{◌≡◌, ℕ, suc, ◌+◌, ◌*◌, ◌^◌, ◌<◌, ◌≤◌, Option, Some, None, List, ◌∷◌, length, ap, subst, sym, ◌∙◌, arith}
use Rattle.mixer_spec.specs.Setups.{Setup}
use Rattle.mixer_spec.specs.Table.{Call, Turn, next_media, turned_to, after_calls}
use Rattle.mixer_spec.specs.Calls.{turns_made}
use Rattle.mixer_places.specs.Lanes.{Waiting}
use Rattle.terminal_scheduler.specs.declared.schedulers.TerminalScheduler.{TerminalScheduler}
use Rattle.mixer.specs.declared.batches.Post.{Post}
use Rattle.mixer.specs.Allowed.{MayTurn}
use Rattle.mixer.specs.States.{State, least_media}
use Rattle.mixer.specs.Standing.{Keeps, MixerStandsFor}
use Rattle.mixer.specs.Insides.{MixerIsSound}
use Rattle.mixer.specs.Calm.{AreCalmBefore}
use Rattle.mixer.specs.Turns.{AreSchedulersOf, MayTurnAll, AllMayTurn, AllTurned, OfMixers, HasBatch, posts_between}
use Rattle.mixer.proofs.MayTurns.{may_turn_all}

-- the mixer behind a turn at this media time
abbrev pub with_turn : State → ℕ → List TerminalScheduler → List Waiting → State
with_turn m t all waiting = record { seating = m.seating; slots = waiting; schedulers = all; names = m.names; media = Some t; turns = m.turns + 1 }

-- it may be made, and this is its media time
may_turn : (s : Setup) (m : State) (calls : List Call) → MixerStandsFor s m calls → m.turns < 5000000 → MayTurn s calls
may_turn s m calls h l = record {
  setup = h.setup;
  near = h.near;
  span = let one : s.step * (turns_made calls + 1) ≡ 200 * (turns_made calls + 1) = ap (λ k. k * (turns_made calls + 1)) h.step in omega (arith, one, h.turns, l);
  allowed = h.allowed;
}

media_is : (s : Setup) (m : State) (calls : List Call) (now t : ℕ) → MixerStandsFor s m calls → t ≡ next_media 200 m.media now → t ≡ next_media s.step (after_calls s calls).media now
media_is s m calls now t h e = e ∙ (ap (λ k. next_media k m.media now) (sym h.step) ∙ ap (λ o. next_media s.step o now) h.media)

all_may : (s : Setup) (m : State) (calls : List Call) (now t : ℕ) → MixerStandsFor s m calls → m.turns < 5000000 → t ≡ next_media 200 m.media now
    → AllMayTurn s (after_calls s calls) now t m.schedulers m.seating m.slots m.names
all_may s m calls now t h l e = record {
  may = subst (MayTurnAll s (after_calls s calls) now) (sym (media_is s m calls now t h e)) (may_turn_all s calls now (may_turn s m calls h l));
  legs = (h.keeps).legs;
  schedulers = (h.keeps).schedulers;
  seats = (h.keeps).seats;
  waits = (h.keeps).waits;
  names = (h.keeps).names;
}

pub turn_stands : (s : Setup) (m : State) (calls : List Call) (now t : ℕ) (all : List TerminalScheduler) (waiting : List Waiting) (batch : List Post) → MixerStandsFor s m calls → m.turns < 5000000 → t ≡ next_media 200 m.media now
    → length all ≡ length m.schedulers → OfMixers m.schedulers m.seating m.slots m.names t (λ s table now. AllTurned s table now t all waiting batch) → MixerStandsFor s (with_turn m t all waiting) (Turn now ∷ calls)
turn_stands s m calls now t all waiting batch h l e n f =
    let w = after_calls s calls in
    let r = f s (after_calls s calls) now (all_may s m calls now t h l e) in
    let is = media_is s m calls now t h e in
    record {
      setup = h.setup;
      near = h.near;
      step = h.step;
      allowed = h.allowed;
      keeps = subst (λ (k : ℕ). Keeps s (with_turn m t all waiting) (turned_to s now k (after_calls s calls))) is
          (record { legs = n ∙ (h.keeps).legs; seats = (h.keeps).seats; waits = r.waits; schedulers = r.schedulers; names = (h.keeps).names });
      media = ap Some is;
      turns = let one : m.turns + 1 ≡ suc m.turns = omega arith in one ∙ ap suc h.turns;
    }

pub turn_batch : (s : Setup) (m : State) (calls : List Call) (now t : ℕ) (all : List TerminalScheduler) (waiting : List Waiting) (batch : List Post) → MixerStandsFor s m calls → m.turns < 5000000 → t ≡ next_media 200 m.media now
    → OfMixers m.schedulers m.seating m.slots m.names t (λ s table now. AllTurned s table now t all waiting batch) → HasBatch s now (after_calls s calls) batch
turn_batch s m calls now t all waiting batch h l e f =
    let r = f s (after_calls s calls) now (all_may s m calls now t h l e) in
    subst (λ (k : ℕ). batch ≡ posts_between s (after_calls s calls) (turned_to s now k (after_calls s calls)) s.legs) (media_is s m calls now t h e) r.posts

-- media time stays within bounds
pub media_rises : (last : Option ℕ) (now turns : ℕ) → now < 2 ^ 47 → Rattle.std.specs.Prelude.IfSome last (λ t. t < 2 ^ 47 + turns) → next_media 200 last now < 2 ^ 47 + (turns + 1)
media_rises None now turns l h = omega (arith, l)
media_rises (Some t) now turns l h = omega (arith, l, h)

pub sound_after : (m : State) (was is : ℕ) (now t : ℕ) (all : List TerminalScheduler) (waiting : List Waiting) → MixerIsSound m was → m.turns < 5000000 → now < 2 ^ 47 → t ≡ next_media 200 m.media now → length all ≡ length m.schedulers → length waiting ≡ length m.slots
    → AreSchedulersOf (length m.schedulers) (t + 1) all → AreCalmBefore is m.seating all → MixerIsSound (with_turn m t all waiting) is
sound_after m was is now t all waiting h l b e n k each calm = record {
  seats = h.seats ∙ sym n;
  slots = k ∙ (h.slots ∙ sym n);
  names = h.names ∙ sym n;
  schedulers = subst (λ (x : ℕ). AreSchedulersOf x (t + 1) all) (sym n) each;
  media = subst (λ (x : ℕ). x < 2 ^ 47 + (m.turns + 1)) (sym e) (media_rises m.media now m.turns b h.media);
  turns = omega (arith, l);
  calm = calm;
}

-- each terminal_scheduler may have a turn at this media time
pub next_from : (m : State) (was : ℕ) (now t : ℕ) → MixerIsSound m was → t ≡ next_media 200 m.media now → AreSchedulersOf (length m.schedulers) t m.schedulers
next_from m was now t h e j o g =
    let x = h.schedulers j o g in
    let l : least_media m.media ≤ t = subst (λ (k : ℕ). least_media m.media ≤ k) (sym e) (rises m.media now) in
    record { own = x.own; all = x.all; next = let n = x.next in omega (arith, n, l) }
  where
    rises : (last : Option ℕ) (now : ℕ) → least_media last ≤ next_media 200 last now
    rises None now = omega arith
    rises (Some t) now = omega arith
