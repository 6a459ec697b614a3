-- An arrival is counted, and is held or not used.
use Rattle.std.proofs.Common.{◌⊎◌, inl, inr, ◌≡◌, ℕ, suc, ◌+◌, ◌≤◌, Bool, true, false, cond, List, [], ◌∷◌, length, refl, ap, subst, sym, ◌∙◌, arith, None}
use Rattle.std.specs.Prelude.{max, nat_lt, ◌==◌}
use Rattle.std.proofs.lemmas.Bool.{true≢false, eq-eqb, ne_eqb, eqb-true}
use Rattle.rtt_base.specs.declared.text_packets.TextPacket.{TextPacket}
use Rattle.wire_spec.specs.Packets.{Packet, Arrival}
use Rattle.stream_spec.specs.Numbering.{Numbered, numbered, greatest, first_number, number_after, nearest, has_number, in_time}
use Rattle.reorder_buffer.specs.declared.answers.Taken.{Taken}
use Rattle.reorder_buffer.specs.declared.answers.Taken.TheVariants.{Before as TooEarly, Old, Repeat, Ready, Held}
use Rattle.reorder_buffer.specs.Stories.{Story, Given, arrived, arriving, came, went, answer, is_in_time, is_settled, taken_as, is_used}
use Rattle.reorder_buffer.specs.States.{State, latest_from, next_latest, passed, counted, put_at, PacketIsRefused, IsPlace}
use Rattle.reorder_buffer.specs.Views.{next_number}
use Rattle.reorder_buffer.specs.Tracks.{Holding, Waiting, Phase, Before, Within, Follows, Tracks}
use Rattle.reorder_buffer.proofs.Settling.{still_front}
use Rattle.reorder_buffer.proofs.Arriving.{pass_by, hold_on, start}
use Rattle.reorder_buffer.proofs.Answering.{refused_why, refused_answer, held_answer, start_answer, settled_tells}
use Rattle.stream_spec.specs.Lists.{In}
use Rattle.reorder_buffer.proofs.Places.{not_held, in_put}
use Rattle.reorder_buffer.proofs.Steps.{pass_follows}
use Rattle.stream_spec.proofs.Walks.{first_in_time as start_in_time}

-- ---- before the first packet, and after it
some_past : (s : State) (story : Story) → Follows s story → Holding s (numbered story.past) story.given → (s.arrivals == 0) ≡ false
some_past s story f h = go story.past refl h.holds.first_is
  where
    go : (past : List Arrival) → story.past ≡ past → ((n : ℕ) → first_number n (numbered story.past) ≡ s.first) → (s.arrivals == 0) ≡ false
    go [] e first =
        let there = subst (λ (cs : List Arrival). (n : ℕ) → first_number n (numbered cs) ≡ s.first) e first in
        let at_zero : 0 ≡ s.first = there 0 in
        let at_one : 1 ≡ s.first = there 1 in
        absurd (omega arith)
    go (a ∷ before) e first = let n : length story.past ≡ suc (length before) = ap length e in let m = f.arrivals in ne_eqb s.arrivals 0 (omega arith)

no_past : (s : State) (story : Story) → Follows s story → Waiting s story → (s.arrivals == 0) ≡ true
no_past s story f w = let n : length story.past ≡ 0 = ap length w.past in let m = f.arrivals in eq-eqb s.arrivals 0 (omega arith)

counted_later : (s : State) (n : ℕ) → (s.arrivals == 0) ≡ false → counted s n ≡ record s { arrivals = s.arrivals + 1; top = max s.top n }
counted_later s n b = rw b refl

counted_first : (s : State) (n : ℕ) → (s.arrivals == 0) ≡ true → counted s n ≡ record s { arrivals = s.arrivals + 1; first = n; front = n; top = max s.top n }
counted_first s n b = rw b refl

pub number_is : (s : State) (story : Story) (seq : ℕ) → Follows s story → next_number s seq ≡ number_after (numbered story.past) seq
number_is s story seq f = go story.past refl
  where
    go : (past : List Arrival) → story.past ≡ past → next_number s seq ≡ number_after (numbered story.past) seq
    go [] e = let n : length story.past ≡ 0 = ap length e in let m = f.arrivals in
        rw (eq-eqb s.arrivals 0 (omega arith), e) refl
    go (a ∷ before) e = let n : length story.past ≡ suc (length before) = ap length e in let m = f.arrivals in
        rw (ne_eqb s.arrivals 0 (omega arith), e) (ap (λ top. nearest top seq) (f.top ∙ ap (λ cs. greatest (numbered cs)) e))

-- the arrival as the code has it
abbrev pub now_coming : State → ℕ → Packet → Numbered
now_coming s n p = record { time = s.moment; number = n; packet = p }

coming_is : (s : State) (story : Story) (n : ℕ) (p : Packet) → Follows s story → n ≡ number_after (numbered story.past) p.seq → now_coming s n p ≡ arriving story p
coming_is s story n p f q = ap (λ t. record { time = t; number = n; packet = p }) f.moment ∙ ap (λ k. record { time = story.moment; number = k; packet = p }) q

one_more : (s : State) (story : Story) (n : ℕ) (p : Packet) → Follows s story → n ≡ number_after (numbered story.past) p.seq → max s.top n ≡ greatest (numbered (arrived story p).past)
one_more s story n p f q = ap (λ m. max m n) f.top ∙ ap (λ k. max (greatest (numbered story.past)) k) q

-- where the counts are those of the arrival, only the phase is left to be shown
followed : (s t : State) (story : Story) (n : ℕ) (p : Packet) → Follows s story → n ≡ number_after (numbered story.past) p.seq
    → t.wait ≡ s.wait → t.moment ≡ s.moment → t.arrivals ≡ s.arrivals + 1 → t.top ≡ max s.top n → Phase t (arrived story p) → Follows t (arrived story p)
followed s t story n p f q wait moment arrivals top phase = record {
  wait = wait ∙ f.wait;
  moment = moment ∙ f.moment;
  arrivals = let m = f.arrivals in omega arith;
  top = top ∙ one_more s story n p f q;
  phase = phase;
}

-- what was refused
pub record Refused (s : State) (story : Story) (n : ℕ) (p : Packet) (taken : Taken) : Type 0 where
  pub follows : Follows (counted s n) (arrived story p)
  pub still : next_latest (counted s n) ≡ None
  pub answer_is : taken ≡ taken_as story.wait (numbered story.past) (arriving story p)
  pub used_is : is_used taken ≡ in_time story.wait (arriving story p) (numbered story.past)

pub refused_step : (s : State) (story : Story) (n : ℕ) (p : Packet) (taken : Taken) → Tracks s story → n ≡ number_after (numbered story.past) p.seq → PacketIsRefused (counted s n) n taken → Refused s story n p taken
refused_step s story n p taken k q r = go k.follows.phase
  where
    go : Phase s story → Refused s story n p taken
    go (Before w) = absurd (none taken (subst (λ (t : State). PacketIsRefused t n taken) (counted_first s n (no_past s story k.follows w)) r))
      where
        none : (taken : Taken) → PacketIsRefused (record s { arrivals = s.arrivals + 1; first = n; front = n; top = max s.top n }) n taken → ⊥
        none TooEarly l = omega arith
        none Old l = omega (arith, l.1)
        none Repeat l = true≢false (sym (ap (λ us. has_number us n) (sym w.held) ∙ l.2))
        none Ready l = l
        none Held l = l
    go (Within h) =
        let b = some_past s story k.follows h in
        let is = counted_later s n b in
        let e = now_coming s n p in
        let eq = coming_is s story n p k.follows q in
        let r' = subst (λ (t : State). PacketIsRefused t n taken) is r in
        let why = refused_why s (numbered story.past) story.given e h taken (same taken r') in
        let by = pass_by s (numbered story.past) story.given e (s.arrivals + 1) (max s.top n) refl k.still why.0 h in
        record {
          follows = rw is (followed s (record s { arrivals = s.arrivals + 1; top = max s.top n }) story n p k.follows q refl refl refl refl
              (Within (subst (λ (x : Numbered). Holding (record s { arrivals = s.arrivals + 1; top = max s.top n }) (x ∷ numbered story.past) story.given) eq by.1)));
          still = subst (λ (t : State). next_latest t ≡ None) (sym is) k.still;
          answer_is = sym (refused_answer s (numbered story.past) story.given e refl k.still h taken (same taken r'))
              ∙ (ap (λ x. taken_as s.wait (numbered story.past) x) eq ∙ ap (λ w. taken_as w (numbered story.past) (arriving story p)) k.follows.wait);
          used_is = why.1 ∙ (sym by.0 ∙ (ap (λ x. in_time s.wait x (numbered story.past)) eq ∙ ap (λ w. in_time w (arriving story p) (numbered story.past)) k.follows.wait));
        }
      where
        same : (taken : Taken) → PacketIsRefused (record s { arrivals = s.arrivals + 1; top = max s.top n }) n taken → PacketIsRefused s n taken
        same TooEarly l = l
        same Old l = l
        same Repeat l = l
        same Ready l = l
        same Held l = l

-- what is held
pub record Put (s : State) (story : Story) (n : ℕ) (p : Packet) (place : ℕ) (it : TextPacket) : Type 0 where
  pub follows : Follows (put_at (counted s n) place (now_coming s n p) it) (arrived story p)
  pub answer_is : taken_as story.wait (numbered story.past) (arriving story p) ≡ cond (is_settled story.wait (numbered (arrived story p).past) story.moment n) Ready Held
  pub used_is : true ≡ in_time story.wait (arriving story p) (numbered story.past)

pub put_step : (s : State) (story : Story) (n : ℕ) (p : Packet) (place : ℕ) (it : TextPacket) → Tracks s story → n ≡ number_after (numbered story.past) p.seq → IsPlace n s.held place → (counted s n).first ≤ n → (counted s n).front ≤ n → Put s story n p place it
put_step s story n p place it k q at a b = go k.follows.phase
  where
    e : Numbered
    e = now_coming s n p

    go : Phase s story → Put s story n p place it
    go (Before w) =
        let is = counted_first s n (no_past s story k.follows w) in
        let eq = coming_is s story n p k.follows q in
        let none : numbered story.past ≡ [] = ap numbered w.past in
        let h = start s [] [] (now_coming s n p) (s.arrivals + 1) (max s.top n) place it refl w.held w.settled w.latest at in
        let then : State = put_at (record s { arrivals = s.arrivals + 1; first = n; front = n; top = max s.top n }) place (now_coming s n p) it in
        record {
          follows = subst (λ (t : State). Follows (put_at t place (now_coming s n p) it) (arrived story p)) (sym is) (followed s then story n p k.follows q refl refl refl refl
              (Within (subst (λ (us : List Numbered). Holding then (arriving story p ∷ us) story.given) (sym none)
              (subst (λ (gs : List Given). Holding then (arriving story p ∷ []) gs) (sym w.given)
              (subst (λ (x : Numbered). Holding then (x ∷ []) []) eq h)))));
          answer_is = subst (λ (us : List Numbered). taken_as story.wait us (arriving story p) ≡ cond (is_settled story.wait (arriving story p ∷ us) story.moment n) Ready Held) (sym none)
              (start_answer story.wait (arriving story p) ∙ ap (λ m. cond (is_settled story.wait (arriving story p ∷ []) story.moment m) Ready Held) (sym q));
          used_is = sym (ap (λ us. in_time story.wait (arriving story p) us) none ∙ start_in_time story.wait (arriving story p));
        }
    go (Within h) =
        let is = counted_later s n (some_past s story k.follows h) in
        let eq = coming_is s story n p k.follows q in
        let first_le : s.first ≤ n = subst (λ (t : State). t.first ≤ n) is a in
        let front_le : s.front ≤ n = subst (λ (t : State). t.front ≤ n) is b in
        let on = hold_on s (numbered story.past) story.given (now_coming s n p) (s.arrivals + 1) (max s.top n) place it refl k.still front_le at h in
        let fresh = not_held n s.held place h.holds.rising at in
        let told = held_answer s (numbered story.past) story.given (now_coming s n p) refl k.still h first_le front_le fresh in
        record {
          follows = subst (λ (t : State). Follows (put_at t place (now_coming s n p) it) (arrived story p)) (sym is)
              (followed s (put_at (record s { arrivals = s.arrivals + 1; top = max s.top n }) place (now_coming s n p) it) story n p k.follows q refl refl refl refl
              (Within (subst (λ (x : Numbered). Holding (put_at (record s { arrivals = s.arrivals + 1; top = max s.top n }) place (now_coming s n p) it) (x ∷ numbered story.past) story.given) eq on.1)));
          answer_is = subst (λ (w : ℕ). taken_as w (numbered story.past) (arriving story p) ≡ cond (is_settled w (arriving story p ∷ numbered story.past) story.moment n) Ready Held) k.follows.wait
              (subst (λ (t : ℕ). taken_as s.wait (numbered story.past) (arriving story p) ≡ cond (is_settled s.wait (arriving story p ∷ numbered story.past) t n) Ready Held) k.follows.moment
              (subst (λ (x : Numbered). taken_as s.wait (numbered story.past) x ≡ cond (is_settled s.wait (x ∷ numbered story.past) s.moment n) Ready Held) eq told));
          used_is = sym (ap (λ x. in_time s.wait x (numbered story.past)) (sym eq) ∙ on.0) ∙ ap (λ w. in_time w (arriving story p) (numbered story.past)) k.follows.wait;
        }

-- once all is settled that can be: the packet that came last is ready exactly where the front has passed it
pub done_step : (s : State) (story : Story) (n : ℕ) (p : Packet) → Tracks s (arrived story p) → s.first ≤ n → is_settled story.wait (numbered (arrived story p).past) story.moment n ≡ nat_lt n s.front
done_step s story n p k l = go k.follows.phase
  where
    go : Phase s (arrived story p) → is_settled story.wait (numbered (arrived story p).past) story.moment n ≡ nat_lt n s.front
    go (Before w) = absurd (clash w.past)
      where
        clash : (arrived story p).past ≡ [] → ⊥
        clash e = cc
    go (Within h) =
        let f = still_front s.wait (numbered (arrived story p).past) s.moment s.first s.front h.out s.latest s.held h.holds k.still in
        let r = settled_tells s.wait (numbered (arrived story p).past) s.moment s.first s.front h.out s.held h.holds f.0 f.1 n l in
        ap (λ w. is_settled w (numbered (arrived story p).past) story.moment n) (sym k.follows.wait)
        ∙ (ap (λ t. is_settled s.wait (numbered (arrived story p).past) t n) (sym k.follows.moment) ∙ r)

-- counting moves nothing
pub counted_still : (s : State) (n : ℕ) → (s.arrivals ≡ 0 → length s.held ≡ 0) → next_latest s ≡ None → next_latest (counted s n) ≡ None
counted_still s n begun still = go (s.arrivals == 0) refl
  where
    empty : (xs : List Numbered) → length xs ≡ 0 → latest_from s.wait s.moment n s.latest xs ≡ None
    empty [] e = refl
    empty (x ∷ xs) e = absurd (omega arith)

    go : (b : Bool) → (s.arrivals == 0) ≡ b → latest_from s.wait s.moment (cond b n s.front) s.latest s.held ≡ None
    go true e = empty s.held (begun (eqb-true s.arrivals 0 e))
    go false e = still

-- ---- a whole arrival
then_tracks : (s0 sp s1 : State) (story : Story) (now : ℕ) → sp ≡ passed s0 now → ((st : Story) → Follows sp st → Follows s1 st) → next_latest s1 ≡ None → Tracks s0 story → Tracks s1 (went story now)
then_tracks s0 sp s1 story now e stands still k = record { follows = stands (went story now) (subst (λ (s : State). Follows s (went story now)) (sym e) (pass_follows s0 story now k)); still = still }

pub refused_all : (s0 sp s1 sc : State) (story : Story) (now n : ℕ) (p : Packet) (taken : Taken) → sp ≡ passed s0 now → ((st : Story) → Follows sp st → Follows s1 st) → next_latest s1 ≡ None
    → n ≡ next_number s1 p.seq → sc ≡ counted s1 n → PacketIsRefused sc n taken → Tracks s0 story
    → Tracks sc (came story now p) × (taken ≡ answer story now p) × (is_used taken ≡ is_in_time story now p)
refused_all s0 sp s1 sc story now n p taken e stands still q c r k =
    let k1 = then_tracks s0 sp s1 story now e stands still k in
    let d = refused_step s1 (went story now) n p taken k1 (q ∙ number_is s1 (went story now) p.seq k1.follows) (subst (λ (s : State). PacketIsRefused s n taken) c r) in (
      subst (λ (s : State). Tracks s (came story now p)) (sym c) (record { follows = d.follows; still = d.still }),
      d.answer_is,
      d.used_is,
    )

pub put_all : (s0 sp s1 sc st s2 : State) (story : Story) (now n place : ℕ) (p : Packet) (it : TextPacket) (taken : Taken) → sp ≡ passed s0 now → ((st : Story) → Follows sp st → Follows s1 st) → next_latest s1 ≡ None
    → n ≡ next_number s1 p.seq → sc ≡ counted s1 n → IsPlace n sc.held place → sc.first ≤ n → sc.front ≤ n
    → st ≡ put_at sc place (record { time = sc.moment; number = n; packet = p }) it → ((story : Story) → Follows st story → Follows s2 story) → next_latest s2 ≡ None → s2.first ≡ st.first
    → taken ≡ cond (nat_lt n s2.front) Ready Held → Tracks s0 story
    → Tracks s2 (came story now p) × (taken ≡ answer story now p) × (is_used taken ≡ is_in_time story now p)
put_all s0 sp s1 sc st s2 story now n place p it taken e stands still q c at a b t stands2 still2 same told k =
    let k1 = then_tracks s0 sp s1 story now e stands still k in
    let first_le : (counted s1 n).first ≤ n = subst (λ (s : State). s.first ≤ n) c a in
    let front_le : (counted s1 n).front ≤ n = subst (λ (s : State). s.front ≤ n) c b in
    let d = put_step s1 (went story now) n p place it k1 (q ∙ number_is s1 (went story now) p.seq k1.follows) (subst (λ (s : State). IsPlace n s.held place) c at) first_le front_le in
    let put : st ≡ put_at (counted s1 n) place (now_coming s1 n p) it = t ∙ ap (λ (s : State). put_at s place (record { time = s.moment; number = n; packet = p }) it) c in
    let k2 : Tracks s2 (came story now p) = record { follows = stands2 (came story now p) (subst (λ (s : State). Follows s (came story now p)) (sym put) d.follows); still = still2 } in
    let first : st.first ≡ (counted s1 n).first = ap (λ (s : State). s.first) put in
    let done = done_step s2 (went story now) n p k2 (omega (arith, same, first, first_le)) in (
      k2,
      told ∙ sym (d.answer_is ∙ ap (λ b. cond b Ready Held) done),
      ap is_used told ∙ (either (nat_lt n s2.front) ∙ d.used_is),
    )
  where
    either : (b : Bool) → is_used (cond b Ready Held) ≡ true
    either true = refl
    either false = refl

-- what is inside afterwards came now or was inside before
pub inside_came : (s0 sp s1 sc st s2 : State) (now n place : ℕ) (e : Numbered) (it q : TextPacket) → sp ≡ passed s0 now → s1.packets ≡ sp.packets → sc ≡ counted s1 n → st ≡ put_at sc place e it → s2.packets ≡ st.packets
    → In q s2.packets → (q ≡ it) ⊎ In q s0.packets
inside_came s0 sp s1 sc st s2 now n place e it q a b c d f i =
    let old : sc.packets ≡ s0.packets = ap (λ (s : State). s.packets) c ∙ (b ∙ ap (λ (s : State). s.packets) a) in
    let new = f ∙ ap (λ (s : State). s.packets) d in
    elim (in_put sc.packets (length sc.settled + place) it q (subst (λ (qs : List TextPacket). In q qs) new i)) [ inl s ↦ inl s | inr j ↦ inr (subst (λ (qs : List TextPacket). In q qs) old j) ]
