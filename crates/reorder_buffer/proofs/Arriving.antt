-- An arrival that is held, or is not used.
use Rattle.std.proofs.Common.{◌≡◌, ℕ, suc, ◌-◌, ◌<◌, ◌≤◌, true, false, ◌⊎◌, inl, inr, List, [], ◌∷◌, ◌++◌, length, refl, ap, subst, sym, ◌∙◌, arith, None}
use Rattle.std.specs.Prelude.{map, max, insert}
use Rattle.rtt_base.specs.declared.text_packets.TextPacket.{TextPacket}
use Rattle.stream_spec.specs.Lists.{In}
use Rattle.stream_spec.specs.Numbering.{Numbered, first_number, has_number, is_given_up, in_time, by_number, Falling}
use Rattle.stream_spec.specs.Ready.{end_of, latest_end}
use Rattle.stream_spec.proofs.Lists.{in_left}
use Rattle.reorder_buffer.specs.Stories.{Given, due_at}
use Rattle.reorder_buffer.specs.States.{State, next_latest, put_at, IsPlace}
use Rattle.reorder_buffer.specs.Tracks.{Holding}
use Rattle.reorder_buffer.proofs.Settling.{still_few, still_front}
use Rattle.reorder_buffer.proofs.Places.{put_is, not_held}
use Rattle.reorder_buffer.specs.Holding.{HoldsNumbers, Timed}
use Rattle.reorder_buffer.proofs.Keeping.{arrive, ignore, begin}
use Rattle.stream_spec.proofs.GivingUp.{distinct_split, one}
use Rattle.reorder_buffer.proofs.Timing.{timed_more, end_by_crowd}
use Rattle.stream_spec.proofs.Rising.{used_above, length_by_number}

pub few : (s : State) → next_latest s ≡ None → length s.held ≤ 64
few s still = still_few s.wait [] s.moment 0 s.front [] s.latest s.held still

-- ---- ready times stay
module _ (wait : ℕ) (past : List Numbered) (t first front latest : ℕ) (out held : List Numbered) (h : HoldsNumbers wait past t first front out held) where
  pub out_above : (u : Numbered) → In u out → first ≤ u.number
  out_above u i =
      let j = subst (λ (us : List Numbered). In u us) (sym h.used_is) (in_left u out held i) in
      subst (λ (n : ℕ). n ≤ u.number) (h.first_is 0) (used_above wait past u 0 j)

  due_stays : (e u : Numbered) → t ≤ e.time → Timed wait past t first front latest → In u out → due_at wait past u ≡ due_at wait (e ∷ past) u
  due_stays e u l m i =
      let above = out_above u i in
      let below = h.low u i in
      let short : Timed wait past t first (suc u.number) (latest_end wait past first (suc u.number - first)) = record { latest_is = refl; by_now = λ n a b. m.by_now n a (omega arith) } in
      let r = timed_more wait e past t first (suc u.number) (latest_end wait past first (suc u.number - first)) l (omega arith) short in
      let same : latest_end wait past (first_number 0 past) (suc u.number - first_number 0 past) ≡ latest_end wait (e ∷ past) (first_number e.number past) (suc u.number - first_number e.number past) = rw (h.first_is 0, h.first_is e.number) r.latest_is in
      ap (λ n. record { number = u.number; ready = max u.time n; packet = u.packet }) same

  pub dues_stay : (e : Numbered) → t ≤ e.time → Timed wait past t first front latest → map (due_at wait past) out ≡ map (due_at wait (e ∷ past)) out
  dues_stay e l m = go out (λ u i. due_stays e u l m i)
    where
      go : (us : List Numbered) → ((u : Numbered) → In u us → due_at wait past u ≡ due_at wait (e ∷ past) u) → map (due_at wait past) us ≡ map (due_at wait (e ∷ past)) us
      go [] f = refl
      go (u ∷ us) f = rw (f u (inl refl)) (ap (λ gs. due_at wait (e ∷ past) u ∷ gs) (go us (λ v i. f v (inr i))))

  -- with more than 64 above it the front was given up at this arrival
  pub crowded : (e : Numbered) (held' : List Numbered) → is_given_up wait past e.time front ≡ false → HoldsNumbers wait (e ∷ past) e.time first front out held' → 64 < length held' → has_number (e ∷ past) front ≡ false → end_of wait (e ∷ past) front ≡ e.time
  crowded e held' waits h' l gone =
      let split = distinct_split front (e ∷ past) in
      let none : one (has_number (e ∷ past) front) ≡ 0 = ap one gone in
      let count = h'.count in
      end_by_crowd wait e past front gone waits (omega arith)

-- ---- the arrival e, which comes at the moment
module _ (s : State) (past : List Numbered) (given : List Given) (e : Numbered) (arrivals top : ℕ) where
  more_falling : e.time ≡ s.moment → Holding s past given → Falling (e ∷ past)
  more_falling m h = ((λ u i. let c = h.holds.came u i in omega arith), h.falling)

  at_arrival : e.time ≡ s.moment → (h : Holding s past given) → HoldsNumbers s.wait past e.time s.first s.front h.out s.held
  at_arrival m h = subst (λ (t : ℕ). HoldsNumbers s.wait past t s.first s.front h.out s.held) (sym m) h.holds

  more_timed : e.time ≡ s.moment → Holding s past given → Timed s.wait (e ∷ past) s.moment s.first s.front s.latest
  more_timed m h = subst (λ (t : ℕ). Timed s.wait (e ∷ past) t s.first s.front s.latest) m (timed_more s.wait e past s.moment s.first s.front s.latest (omega arith) h.holds.begun h.timed)

  more_settled : e.time ≡ s.moment → (h : Holding s past given) → given ++ s.settled ≡ map (due_at s.wait (e ∷ past)) h.out
  more_settled m h = h.settled_is ∙ dues_stay s.wait past s.moment s.first s.front s.latest h.out s.held h.holds e (omega arith) h.timed

  waits : e.time ≡ s.moment → next_latest s ≡ None → Holding s past given → is_given_up s.wait past e.time s.front ≡ false
  waits m still h = ap (λ t. is_given_up s.wait past t s.front) m ∙ (still_front s.wait past s.moment s.first s.front h.out s.latest s.held h.holds still).1

  -- it is not used
  pub pass_by : e.time ≡ s.moment → next_latest s ≡ None → (e.number < s.front) ⊎ (has_number s.held e.number ≡ true) → Holding s past given
      → (in_time s.wait e past ≡ false) × Holding (record s { arrivals = arrivals; top = top }) (e ∷ past) given
  pass_by m still why h =
      let r = ignore s.wait past s.first s.front h.out s.held e (at_arrival m h) why in (
        r.0,
        record {
          out = h.out;
          holds = subst (λ (t : ℕ). HoldsNumbers s.wait (e ∷ past) t s.first s.front h.out s.held) m r.1;
          falling = more_falling m h;
          timed = more_timed m h;
          settled_is = more_settled m h;
          room = h.room;
          crowd = λ l n. let u = few s still in absurd (omega arith);
        },
      )

  -- it is held
  pub hold_on : (place : ℕ) (q : TextPacket) → e.time ≡ s.moment → next_latest s ≡ None → s.front ≤ e.number → IsPlace e.number s.held place → Holding s past given
      → (in_time s.wait e past ≡ true) × Holding (put_at (record s { arrivals = arrivals; top = top }) place e q) (e ∷ past) given
  hold_on place q m still l p h =
      let fresh = not_held e.number s.held place h.holds.rising p in
      let r = arrive s.wait past s.first s.front h.out s.held e (at_arrival m h) (waits m still h) l fresh in
      let put : by_number e s.held ≡ insert s.held place e = put_is e s.held place h.holds.rising p in
      let holds : HoldsNumbers s.wait (e ∷ past) e.time s.first s.front h.out (insert s.held place e) = subst (λ (us : List Numbered). HoldsNumbers s.wait (e ∷ past) e.time s.first s.front h.out us) put r.1 in
      let u = few s still in
      let long : length (insert s.held place e) ≡ suc (length s.held) = ap length (sym put) ∙ length_by_number e s.held in (
        r.0,
        record {
          out = h.out;
          holds = subst (λ (t : ℕ). HoldsNumbers s.wait (e ∷ past) t s.first s.front h.out (insert s.held place e)) m holds;
          falling = more_falling m h;
          timed = more_timed m h;
          settled_is = more_settled m h;
          room = omega arith;
          crowd = λ l n. crowded s.wait past s.moment s.first s.front s.latest h.out s.held h.holds e (insert s.held place e) (waits m still h) holds l n ∙ m;
        },
      )

  -- it is the first
  pub start : (place : ℕ) (q : TextPacket) → e.time ≡ s.moment → s.held ≡ [] → s.settled ≡ [] → s.latest ≡ 0 → IsPlace e.number s.held place
      → Holding (put_at (record s { arrivals = arrivals; first = e.number; front = e.number; top = top }) place e q) (e ∷ []) []
  start place q m held settled latest p =
      let none : length s.held ≡ 0 = ap length held in
      let zero_place : place ≡ 0 = omega (arith, p.within) in
      let put : insert s.held place e ≡ e ∷ [] = rw (held, zero_place) refl in
      let same : e.number - e.number ≡ 0 = omega arith in
      record {
        out = [];
        holds = rw put (subst (λ (t : ℕ). HoldsNumbers s.wait (e ∷ []) t e.number e.number [] (e ∷ [])) m (begin s.wait e));
        falling = ((λ u i. absurd i), tt);
        timed = record { latest_is = rw (same, latest) refl; by_now = λ n a b. absurd (omega arith) };
        settled_is = settled;
        room = rw put (omega arith);
        crowd = λ l n. let one_long : length (insert s.held place e) ≡ 1 = ap length put in absurd (omega arith);
      }
