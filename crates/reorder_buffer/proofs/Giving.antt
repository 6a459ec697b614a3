-- What is given, in order, and the end.
use Rattle.std.proofs.Common.{◌≡◌, ℕ, suc, ◌+◌, ◌≤◌, Bool, true, false, inl, inr, List, [], ◌∷◌, ◌++◌, length, refl, ap, subst, sym, ◌∙◌, arith, append_assoc, length-append, Option, None, Some}
use Rattle.std.specs.Prelude.{IfSome, IfNone, map, filter, nat_lt, nat_le}
use Rattle.std.specs.List.{list_any}
use Rattle.std.proofs.lemmas.Bool.{true≢false, le-leb, leb-true, lt-ltb, le-ltb, or_left, false_from_ne_true}
use Rattle.std.proofs.lemmas.List.{append-nil}
use Rattle.stream_spec.specs.Lists.{In}
use Rattle.stream_spec.specs.Numbering.{Numbered, numbered, has_number, distinct_from, is_given_up}
use Rattle.stream_spec.specs.Ready.{ready_of}
use Rattle.stream_spec.proofs.Lists.{in_left, in_right, in_any}
use Rattle.reorder_buffer.specs.declared.answers.Due.{Due}
use Rattle.reorder_buffer.specs.Stories.{Story, Given, due_at, dues, dues_of, is_due, ready_dues, begun, gave, given_of, ended}
use Rattle.reorder_buffer.specs.States.{State, next_latest, has_ready, has_some, fresh, GivesFirst}
use Rattle.reorder_buffer.specs.Tracks.{Holding, Phase, Before, Within, Follows, Tracks}
use Rattle.reorder_buffer.proofs.Settling.{still_front}
use Rattle.reorder_buffer.proofs.Steps.{map_more, later_holding}
use Rattle.stream_spec.proofs.GivingUp.{is_cause, cause_from, in_has}
use Rattle.reorder_buffer.proofs.Keeping.{held_in_past}
use Rattle.reorder_buffer.proofs.Timing.{settled_law}

filter_all : (p : Given → Bool) (f : Numbered → Given) (us : List Numbered) (ys : List Given) → ((u : Numbered) → In u us → p (f u) ≡ true) → filter p (map f us ++ ys) ≡ map f us ++ filter p ys
filter_all p f [] ys h = refl
filter_all p f (u ∷ us) ys h = rw (h u (inl refl)) (ap (λ gs. f u ∷ gs) (filter_all p f us ys (λ v i. h v (inr i))))

filter_none : (p : Given → Bool) (f : Numbered → Given) (us : List Numbered) → ((u : Numbered) → In u us → p (f u) ≡ false) → filter p (map f us) ≡ []
filter_none p f [] h = refl
filter_none p f (u ∷ us) h = rw (h u (inl refl)) (filter_none p f us (λ v i. h v (inr i)))

-- what is ready by now is what was given and what is settled, and after it comes what is held
pub record Order (s : State) (story : Story) : Type 0 where
  pub ready_is : ready_dues story ≡ story.given ++ s.settled
  pub dues_are : dues story ≡ ready_dues story ++ map (due_at story.wait (numbered story.past)) s.held

holding_ready : (s : State) (past : List Numbered) (given : List Given) → next_latest s ≡ None → Holding s past given
    → (filter (is_due s.moment) (dues_of s.wait past) ≡ given ++ s.settled) × (dues_of s.wait past ≡ (given ++ s.settled) ++ map (due_at s.wait past) s.held)
holding_ready s past given still h = (
  ap (filter (is_due s.moment)) parts ∙ (filter_all (is_due s.moment) (due_at s.wait past) h.out (map (due_at s.wait past) s.held) now
      ∙ (ap (λ gs. map (due_at s.wait past) h.out ++ gs) (filter_none (is_due s.moment) (due_at s.wait past) s.held later) ∙ (append-nil (map (due_at s.wait past) h.out) ∙ sym h.settled_is))),
  parts ∙ ap (λ gs. gs ++ map (due_at s.wait past) s.held) (sym h.settled_is),
)
  where
    parts : dues_of s.wait past ≡ map (due_at s.wait past) h.out ++ map (due_at s.wait past) s.held
    parts = ap (map (due_at s.wait past)) h.holds.used_is ∙ map_more (due_at s.wait past) h.out s.held

    front : (has_number past s.front ≡ false) × (is_given_up s.wait past s.moment s.front ≡ false)
    front = still_front s.wait past s.moment s.first s.front h.out s.latest s.held h.holds still

    law : (u : Numbered) → In u (h.out ++ s.held) → (In u h.out → ready_of s.wait past u ≤ s.moment) × (ready_of s.wait past u ≤ s.moment → In u h.out)
    law u i = settled_law s.wait past s.moment s.first s.front s.latest h.out s.held h.falling h.holds h.timed front.0 front.1 u (subst (λ (us : List Numbered). In u us) (sym h.holds.used_is) i)

    now : (u : Numbered) → In u h.out → is_due s.moment (due_at s.wait past u) ≡ true
    now u i = le-leb (ready_of s.wait past u) s.moment ((law u (in_left u h.out s.held i)).0 i)

    later : (u : Numbered) → In u s.held → is_due s.moment (due_at s.wait past u) ≡ false
    later u i = false_from_ne_true (nat_le (ready_of s.wait past u) s.moment) (λ q.
        let o = (law u (in_right u h.out s.held i)).1 (leb-true (ready_of s.wait past u) s.moment q) in
        let a = h.holds.low u o in let b = h.holds.high u i in omega arith)

pub order_is : (s : State) (story : Story) → Tracks s story → Order s story
order_is s story k = go k.follows.phase
  where
    at : (story.given ++ s.settled ≡ filter (is_due s.moment) (dues_of s.wait (numbered story.past))) → (dues_of s.wait (numbered story.past) ≡ (story.given ++ s.settled) ++ map (due_at s.wait (numbered story.past)) s.held) → Order s story
    at a b =
        let ready : ready_dues story ≡ story.given ++ s.settled = ap (λ t. filter (is_due t) (dues story)) (sym k.follows.moment) ∙ (ap (λ w. filter (is_due s.moment) (dues_of w (numbered story.past))) (sym k.follows.wait) ∙ sym a) in
        record {
          ready_is = ready;
          dues_are = subst (λ (w : ℕ). dues_of w (numbered story.past) ≡ (story.given ++ s.settled) ++ map (due_at w (numbered story.past)) s.held) k.follows.wait b
              ∙ ap (λ gs. gs ++ map (due_at story.wait (numbered story.past)) s.held) (sym ready);
        }

    go : Phase s story → Order s story
    go (Before w) =
        let none : dues_of s.wait (numbered story.past) ≡ [] = ap (λ cs. dues_of s.wait (numbered cs)) w.past in
        let empty : story.given ++ s.settled ≡ [] = rw (w.given, w.settled) refl in
        at (empty ∙ sym (ap (filter (is_due s.moment)) none)) (none ∙ sym (rw (empty, w.held) refl))
    go (Within h) = let r = holding_ready s (numbered story.past) story.given k.still h in at (sym r.0) r.1

pub ready_exact : (s : State) (story : Story) → Tracks s story → has_ready s ≡ nat_lt (length story.given) (length (ready_dues story))
ready_exact s story k = go s.settled (order_is s story k).ready_is
  where
    go : (settled : List Given) → ready_dues story ≡ story.given ++ settled → has_some settled ≡ nat_lt (length story.given) (length (ready_dues story))
    go [] e = let n : length (ready_dues story) ≡ length story.given = ap length (e ∙ append-nil story.given) in sym (le-ltb (length story.given) (length (ready_dues story)) (omega arith))
    go (g ∷ gs) e = let n : length (ready_dues story) ≡ length story.given + suc (length gs) = ap length e ∙ length-append story.given (g ∷ gs) in
        sym (lt-ltb (length story.given) (length (ready_dues story)) (omega arith))

pub all_given : (s : State) (story : Story) → s.settled ≡ [] → Tracks s story → story.given ≡ ready_dues story
all_given s story e k = sym ((order_is s story k).ready_is ∙ (ap (λ gs. story.given ++ gs) e ∙ append-nil story.given))

-- ---- one is given
pub give_step : (s t : State) (story : Story) (g : Given) → s.settled ≡ g ∷ t.settled → t ≡ record s { settled = t.settled; packets = t.packets; current = t.current } → Tracks s story → Tracks t (gave story g)
give_step s t story g first same k = subst (λ (u : State). Tracks u (gave story g)) (sym same) (record {
  follows = record { wait = k.follows.wait; moment = k.follows.moment; arrivals = k.follows.arrivals; top = k.follows.top; phase = go k.follows.phase };
  still = k.still;
})
  where
    go : Phase s story → Phase (record s { settled = t.settled; packets = t.packets; current = t.current }) (gave story g)
    go (Before w) = absurd (clash (sym first ∙ w.settled))
      where
        clash : g ∷ t.settled ≡ [] → ⊥
        clash e = cc
    go (Within h) = Within (record {
      out = h.out;
      holds = h.holds;
      falling = h.falling;
      timed = h.timed;
      settled_is = append_assoc story.given (g ∷ []) t.settled ∙ (ap (λ gs. story.given ++ gs) (sym first) ∙ h.settled_is);
      room = h.room;
      crowd = h.crowd;
    })

-- ---- the beginning and the end
pub begins : (wait : ℕ) → Tracks (fresh wait) (begun wait)
begins wait = record {
  follows = record { wait = refl; moment = refl; arrivals = refl; top = refl; phase = Before (record { past = refl; given = refl; settled = refl; held = refl; latest = refl }) };
  still = refl;
}

pub end_follows : (s : State) (story : Story) → Tracks s story → Follows (record s { moment = s.moment + s.wait; finished = true }) (ended story)
end_follows s story k = record {
  wait = k.follows.wait;
  moment = let m = k.follows.moment in let w = k.follows.wait in omega arith;
  arrivals = k.follows.arrivals;
  top = k.follows.top;
  phase = go k.follows.phase;
}
  where
    go : Phase s story → Phase (record s { moment = s.moment + s.wait; finished = true }) (ended story)
    go (Before w) = Before (record { past = w.past; given = w.given; settled = w.settled; held = w.held; latest = w.latest })
    go (Within h) = let l = later_holding s (s.moment + s.wait) (numbered story.past) story.given (omega arith) k.still h in
        Within (record { out = l.out; holds = l.holds; falling = l.falling; timed = l.timed; settled_is = l.settled_is; room = l.room; crowd = l.crowd })

came_by : (s : State) (story : Story) → Tracks s story → (u : Numbered) → In u (numbered story.past) → u.time ≤ s.moment
came_by s story k u i = go k.follows.phase
  where
    go : Phase s story → u.time ≤ s.moment
    go (Before w) = absurd (subst (λ (cs : List Numbered). In u cs) (ap numbered w.past) i)
    go (Within h) = h.holds.came u i

none_held : (s : State) (past : List Numbered) (given : List Given) (t : ℕ) → next_latest s ≡ None → Holding s past given → ((u : Numbered) → In u past → u.time ≤ t) → t + s.wait ≤ s.moment → s.held ≡ []
none_held s past given t still h came l = go s.held refl
  where
    go : (held : List Numbered) → s.held ≡ held → held ≡ []
    go [] e = refl
    go (x ∷ xs) e =
        let f = still_front s.wait past s.moment s.first s.front h.out s.latest s.held h.holds still in
        let i : In x s.held = subst (λ (us : List Numbered). In x us) (sym e) (inl refl) in
        let j = held_in_past s.wait past s.moment s.first s.front h.out s.held h.holds x i in
        let hi = h.holds.high x i in
        let ne = (λ (q : x.number ≡ s.front). true≢false (sym (in_has s.front past x j q) ∙ f.0)) in
        let c = came x j in
        absurd (true≢false (sym (or_left (list_any (is_cause s.wait s.moment s.front) past) (nat_lt 64 (distinct_from (suc s.front) past))
        (in_any (is_cause s.wait s.moment s.front) past x j (cause_from s.wait s.moment s.front x (omega (arith, ne)) (omega arith)))) ∙ f.1))

pub end_all : (s t : State) (story : Story) → Tracks s story → Tracks t (ended story) → ready_dues (ended story) ≡ dues story
end_all s t story k after =
    let o = order_is t (ended story) after in
    sym (o.dues_are ∙ (ap (λ us. ready_dues (ended story) ++ map (due_at story.wait (numbered story.past)) us) (none after.follows.phase) ∙ append-nil (ready_dues (ended story))))
  where
    none : Phase t (ended story) → t.held ≡ []
    none (Before w) = w.held
    none (Within h) = none_held t (numbered story.past) story.given s.moment after.still h (came_by s story k)
        (let a = after.follows.moment in let b = after.follows.wait in let c = k.follows.moment in omega arith)

-- ---- what one call gives
pub give_some : (r : Option Due) (s t : State) → IfSome r (GivesFirst s t) → IfSome r (λ due. (story : Story) → Tracks s story → Tracks t (gave story (given_of due t.current)))
give_some None s t h = tt
give_some (Some due) s t h = λ story k. give_step s t story (given_of due t.current) h.0 h.1 k

pub give_none : (r : Option Due) (s t : State) → IfNone r ((s.settled ≡ []) × (t ≡ s)) → IfNone r ((story : Story) → Tracks s story → story.given ≡ ready_dues story)
give_none None s t h = λ story k. all_given s story h.0 k
give_none (Some due) s t h = tt
