-- Whatever a turn sends may be sent.
use Rattle.std.proofs.Common.{◌≡◌, ℕ, suc, ◌+◌, ◌*◌, ◌^◌, ◌<◌, ◌≤◌, Bool, true, false, cond, inl, inr, Option, Some, None, List, [], ◌∷◌, length, refl, ap, subst, sym, ◌∙◌, arith}
use Rattle.std.specs.Prelude.{is_some, nat_le, IfSome}
use Rattle.std.proofs.lemmas.Bool.{cases_lt, eq-eqb}
use Rattle.stream_spec.specs.Own.{Sent, sent_of, has_text_in, nth}
use Rattle.stream_spec.specs.Typed.{longest_step}
use Rattle.packetizer.specs.Speakers.{IsNext}
use Rattle.mixer_spec.specs.Setups.{Setup, IsSetup, gap, stream}
use Rattle.mixer_spec.specs.Table.{Call, TurnEntry, Terminal, Seats, Table, sents, last_media, is_seated, next_media, turn_aware, turn_unaware, turn_at, turned, after_calls}
use Rattle.mixer_spec.specs.Core.{turns_in}
use Rattle.mixer_spec.specs.Calls.{took, turns_made}
use Rattle.mixer_spec.specs.Laws.{Tight}
use Rattle.mixer_spec.proofs.Seats.{Seated}
use Rattle.mixer_spec.proofs.Paced.{Paced, sent_in}
use Rattle.mixer_spec.proofs.After.{Good, core_good, turned_good}
use Rattle.mixer.specs.Allowed.{AreAllowed, MayTurn}
use Rattle.terminal_scheduler.specs.Turns.{SendsNext}
use Rattle.mixer.proofs.Allowing.{seated, events_law, good_taken}

-- what holds of the table after these calls
pub good : (s : Setup) → IsSetup s → (calls : List Call) → AreAllowed s calls → Good s (turns_made calls) (after_calls s calls)
good s is calls a =
    let e = events_law s calls a in
    let g = core_good s is (λ i. took s i calls) (λ i. (good_taken s calls a i).texts) e.past in
    subst (λ (k : ℕ). Good s k (after_calls s calls)) e.turns (subst (Good s (turns_in e.past)) e.table g)

-- the last packet of a source lies near where text of it is still to be repeated
near_last : (g n most media : ℕ) (zs : List Sent) → n ≤ most → ((m : ℕ) → has_text_in g zs ≡ true → last_media zs ≡ Some m → media ≤ m + n) → has_text_in g zs ≡ true
    → IfSome (nth 0 zs) (λ last. media ≤ last.media + most)
near_last g n most media [] l f h = tt
near_last g n most media (z ∷ zs) l f h = let r = f z.media h refl in omega (arith, r, l)

-- a step of 5000 is never too long
within_step : (g n : ℕ) → n ≤ 5000 → n ≤ longest_step g
within_step g n l = go (nat_le g 2)
  where
    go : (b : Bool) → n ≤ cond b 8000 5000
    go true = omega (arith, l)
    go false = l

-- the last of what was sent could be sent
last_is_next : (s : Setup) → IsSetup s → gap s ≤ 5000 → (j k t : ℕ) (e : TurnEntry) (past : List TurnEntry) → s.step * k < 2 ^ 31 → Paced s j k (Some t) (e ∷ past) → IsNext (stream s j) (sents past) e.sent
last_is_next s is near j k t e past span p = record {
  later = λ x i. let r = sent_in past x i in
      let l = p.falling.0 r.0 r.1 in
      let a = p.within r.0 (inr r.1) in
      let b = p.within e (inl refl) in
      let m : x.media ≡ r.0.sent.media = ap (λ (y : Sent). y.media) r.2 in
      (omega (arith, l, m), omega (arith, a, b, m, span));
  near = near_last (s.generations j) (gap s) (longest_step (s.generations j)) e.sent.media (sent_of e.sent.source (sents past)) (within_step (s.generations j) (gap s) near) own.0;
  text = let t = p.texts e (inl refl) in (omega (arith, t.0, (is.rooms j).1), t.1);
}
  where
    own : Tight (s.generations j) (gap s) (e.sent ∷ sent_of e.sent.source (sents past))
    own = subst (λ (b : Bool). Tight (s.generations j) (gap s) (cond b (e.sent ∷ sent_of e.sent.source (sents past)) (sent_of e.sent.source (sents past)))) (eq-eqb e.sent.source e.sent.source refl) (p.tight e.sent.source)

-- a terminal with no place sends nothing
none_there : (s : Setup) (seats : Seats) (j now t : ℕ) (d : Terminal) → Seated s seats → s.legs ≤ j → turn_at s seats j now t d ≡ d
none_there s seats j now t d h l = go (seats.place j) refl
  where
    go : (o : Option ℕ) → seats.place j ≡ o → cond (is_some o) (cond (s.aware j) (turn_aware s seats j now t d) (turn_unaware s j now t d)) d ≡ d
    go None e = refl
    go (Some p) e = let b = (h.below j p e).1 in absurd (omega (arith, b, l))

longer : (e : TurnEntry) (past : List TurnEntry) → past ≡ e ∷ past → ⊥
longer e past q = let n : length past ≡ suc (length past) = ap length q in omega (arith, n)

pub any_law : (s : Setup) (calls : List Call) (now j : ℕ) → MayTurn s calls
    → let w = after_calls s calls in
    SendsNext (stream s j) (w.terminals j).past (turn_at s w.seats j now (next_media s.step w.media now) (w.terminals j)).past
any_law s calls now j m e q = elim (cases_lt j s.legs) [
  | inl l ↦ last_is_next s m.setup m.near j (suc (turns_made calls)) t e (w.terminals j).past span (subst (Paced s j (suc (turns_made calls)) (Some t)) q (then.timed j l).paced)
  | inr l ↦ absurd (longer e (w.terminals j).past (sym (ap (λ (d : Terminal). d.past) (none_there s w.seats j now t (w.terminals j) (seated s calls m.allowed) l)) ∙ q))
]
  where
    w : Table
    w = after_calls s calls

    t : ℕ
    t = next_media s.step w.media now

    then : Good s (suc (turns_made calls)) (turned s now w)
    then = turned_good s m.setup (turns_made calls) w now (good s m.setup calls m.allowed)

    span : s.step * suc (turns_made calls) < 2 ^ 31
    span = let one : suc (turns_made calls) ≡ turns_made calls + 1 = omega arith in subst (λ (k : ℕ). s.step * k < 2 ^ 31) (sym one) m.span

-- ---- at a terminal of one kind
pub aware_is : (s : Setup) (seats : Seats) (j now t : ℕ) (d : Terminal) → is_seated seats j ≡ true → s.aware j ≡ true → turn_at s seats j now t d ≡ turn_aware s seats j now t d
aware_is s seats j now t d p a = ap (λ b. cond b (cond (s.aware j) (turn_aware s seats j now t d) (turn_unaware s j now t d)) d) p ∙ ap (λ b. cond b (turn_aware s seats j now t d) (turn_unaware s j now t d)) a

pub unaware_is : (s : Setup) (seats : Seats) (j now t : ℕ) (d : Terminal) → is_seated seats j ≡ true → s.aware j ≡ false → turn_at s seats j now t d ≡ turn_unaware s j now t d
unaware_is s seats j now t d p a = ap (λ b. cond b (cond (s.aware j) (turn_aware s seats j now t d) (turn_unaware s j now t d)) d) p ∙ ap (λ b. cond b (turn_aware s seats j now t d) (turn_unaware s j now t d)) a

pub aware_law : (s : Setup) (calls : List Call) (now j : ℕ) → MayTurn s calls
    → let w = after_calls s calls in
    is_seated w.seats j ≡ true → s.aware j ≡ true → SendsNext (stream s j) (w.terminals j).past (turn_aware s w.seats j now (next_media s.step w.media now) (w.terminals j)).past
aware_law s calls now j m p a =
    let w = after_calls s calls in
    let t = next_media s.step w.media now in
    subst (λ (d : Terminal). SendsNext (stream s j) (w.terminals j).past d.past) (aware_is s w.seats j now t (w.terminals j) p a) (any_law s calls now j m)

pub unaware_law : (s : Setup) (calls : List Call) (now j : ℕ) → MayTurn s calls
    → let w = after_calls s calls in
    is_seated w.seats j ≡ true → s.aware j ≡ false → SendsNext (stream s j) (w.terminals j).past (turn_unaware s j now (next_media s.step w.media now) (w.terminals j)).past
unaware_law s calls now j m p a =
    let w = after_calls s calls in
    let t = next_media s.step w.media now in
    subst (λ (d : Terminal). SendsNext (stream s j) (w.terminals j).past d.past) (unaware_is s w.seats j now t (w.terminals j) p a) (any_law s calls now j m)
