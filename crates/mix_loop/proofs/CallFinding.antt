-- The takes that count.
use Rattle.std.proofs.Common.{◌≡◌, ◌≤◌, ◌<◌, ℕ, zero, suc, ◌+◌, ◌-◌, true, false, true≢false, inl, inr, ◌⊎◌, List, [], ◌∷◌, ◌++◌, ◌||◌, drop, length, length-append, refl, ap, sym, ◌∙◌, subst, append_assoc, arith}
use Rattle.std.specs.Prelude.{Bool, Option, None, Some, filter, if◌then◌else◌}
use Rattle.std.proofs.lemmas.List.{append-nil}
use Rattle.std.proofs.Math.Seq.{drop-append_seam}
use Rattle.stream_spec.specs.Fronts.{IsFront, is_ready_by}
use Rattle.stream_spec.specs.Ready.{Chunk}
use Rattle.stream_spec.specs.Links.{Taken, Takes, Came, Datagram, Large, Quiet, Closed, is_closed, is_closing}
use Rattle.live_spec.specs.Told.{Hearing, first_sender, last_chunks, ready_by}
use Rattle.live_spec.specs.Live.{IsHeardOut, IsUpToDate, first_takes, is_blank, is_quiet, most_takes}
use Rattle.live_leg.specs.LinkLegs.{Item}
use Rattle.live_leg.specs.Items as item
use Rattle.live_leg.specs.declared.paced_links.LinkStop.{LinkStop}
use Rattle.live_leg.specs.declared.paced_links.LinkStop.TheVariants.{Told}
use Rattle.live_leg.specs.Items.{AreItems, is_signal, signal_of, signals_in, texts_in}
use Rattle.live_leg.proofs.Texts.{texts_append}
use Rattle.mix_loop.specs.Handed.{EndsSilent, IsEnough, has_end, is_end}
use Rattle.mix_loop.proofs.Enough.{end_append, end_both, end_none, has_signals, signals_append, or_none}
use Rattle.mix_loop.specs.Covers.{Covers}
use Rattle.mix_loop.specs.Signals.{AreNoSignals, IsOpenBefore}
use Rattle.mix_loop.proofs.Covering.{texts_no_signals}
use Rattle.mix_loop.proofs.CallOpening.{none_later}

-- ---- fronts
front_of : (h : Hearing) (cs : List Chunk) (xs ys : List Item) → IsFront cs (texts_in h.leg xs) → IsFront cs (texts_in h.leg (xs ++ ys))
front_of h cs xs ys f = (f.0 ++ texts_in h.leg ys, texts_append h.leg xs ys ∙ (ap (λ l. l ++ texts_in h.leg ys) f.1 ∙ append_assoc cs f.0 (texts_in h.leg ys)))

-- of two fronts of one list, the one is the longer
pub longer : (xs ys us vs : List Item) → xs ++ ys ≡ us ++ vs → ((z : List Item) × (xs ≡ us ++ z) × (z ++ ys ≡ vs)) ⊎ ((y : Item) × (z : List Item) × (us ≡ xs ++ y ∷ z))
longer xs ys [] vs e = inl (xs, refl, e)
longer [] ys (u ∷ us) vs e = inr (u, us, refl)
longer (x ∷ xs) ys (u ∷ us) vs e =
    let head : x ≡ u = cc e in
    let tail : xs ++ ys ≡ us ++ vs = cc e in
    elim (longer xs ys us vs tail) [
      | inl a ↦ inl (a.0, ap (λ l. x ∷ l) a.1 ∙ ap (λ y. y ∷ (us ++ a.0)) head, a.2)
      | inr b ↦ inr (b.0, b.1, ap (λ l. u ∷ l) b.2 ∙ ap (λ y. y ∷ (xs ++ b.0 ∷ b.1)) (sym head))
    ]

-- a front that is not the whole is one of all but the last
pub but_last : (xs z w : List Item) (y m : Item) → xs ++ y ∷ z ≡ w ++ m ∷ [] → (r : List Item) × (xs ++ r ≡ w)
but_last [] z w y m e = (w, refl)
but_last (x ∷ xs) z [] y m e = absurd (none xs (cc e))
  where
    none : (l : List Item) → l ++ y ∷ z ≡ [] → ⊥
    none [] f = cc f
    none (k ∷ l) f = cc f
but_last (x ∷ xs) z (v ∷ w) y m e =
    let head : x ≡ v = cc e in
    let tail : xs ++ y ∷ z ≡ w ++ m ∷ [] = cc e in
    let r = but_last xs z w y m tail in
    (r.0, ap (λ l. x ∷ l) r.1 ∙ ap (λ k. k ∷ w) head)

-- ---- closed links
or_right : (a b : Bool) → b ≡ true → (a || b) ≡ true
or_right true b e = refl
or_right false b e = e

closed_then : (k : ℕ) (takes : Takes) → is_closed (drop k takes) ≡ true → is_closed takes ≡ true
closed_then zero takes e = e
closed_then (suc k) [] e = e
closed_then (suc k) (t ∷ takes) e = or_right (is_closing t.came) (is_closed takes) (closed_then k takes e)

closed_with : (j k : ℕ) (takes : Takes) → j ≤ k → is_closed (drop k takes) ≡ true → is_closed (drop j takes) ≡ true
closed_with zero k takes low e = closed_then k takes e
closed_with (suc j) zero takes low e = absurd (omega (arith, low))
closed_with (suc j) (suc k) [] low e = e
closed_with (suc j) (suc k) (t ∷ takes) low e = closed_with j k takes (omega (arith, low)) e

-- a link that was closed by the first takes is closed by more of them
pub closed_by_more : (n m : ℕ) (takes : Takes) → n ≤ m → is_closed (first_takes n takes) ≡ true → is_closed (first_takes m takes) ≡ true
closed_by_more n m takes low e = closed_with (length takes - m) (length takes - n) takes (omega (arith, low)) e

-- ---- signals
no_signals_in : (xs : List Item) → AreNoSignals xs → signals_in xs ≡ 0
no_signals_in [] a = refl
no_signals_in (x ∷ xs) a = let r = no_signals_in xs a.1 in ap (λ b. (if b then 1 else 0) + signals_in xs) a.0 ∙ omega (arith, r)

signal_is : (w : Came) → is_signal {F = LinkStop} (signal_of w) ≡ true
signal_is (Datagram o) = refl
signal_is Large = refl
signal_is Quiet = refl
signal_is Closed = refl

-- as many signals as takes
signals_given : (h : Hearing) (counting : Takes) (given : List Item) → AreItems h counting given → signals_in given ≡ length counting
signals_given h [] given a = ap signals_in a
signals_given h (w ∷ past) given a =
    let before = a.0 in
    let news = a.1 in
    let m : Item = signal_of w.came in
    let one : signals_in (m ∷ []) ≡ 1 = ap (λ b. (if b then 1 else 0) + 0) (signal_is w.came) in
    let r = signals_given h past before a.3 in
    let e = ap signals_in a.2 in
    let p = signals_append before (news ++ m ∷ []) in
    let q = signals_append news (m ∷ []) in
    let z = no_signals_in news (texts_no_signals news a.4) in
    omega (arith, one, r, e, p, q, z)

-- ---- the first n takes
pub record Found (h : Hearing) (counting : Takes) (before : List Item) (Enough : Takes → Type 0) : Type 0 where
  pub later : Takes
  pub first : Takes
  pub are : counting ≡ later ++ first
  pub enough : Enough first
  pub took : IsFront (ready_by h first) (texts_in h.leg before)

one_later : (h : Hearing) (a : Taken) (past : Takes) (before : List Item) (E : Takes → Type 0) → Found h past before E → Found h (a ∷ past) before E
one_later h a past before E f = record { later = a ∷ f.later; first = f.first; are = ap (λ (l : Takes). a ∷ l) f.are; enough = f.enough; took = f.took }

longer_took : (h : Hearing) (counting : Takes) (xs ys : List Item) (E : Takes → Type 0) → Found h counting xs E → Found h counting (xs ++ ys) E
longer_took h counting xs ys E f = record { later = f.later; first = f.first; are = f.are; enough = f.enough; took = front_of h (ready_by h f.first) xs ys f.took }

all_count : (h : Hearing) (a : Taken) (past : Takes) (given z : List Item) (E : Takes → Type 0) → AreItems h (a ∷ past) given → E (a ∷ past) → Found h (a ∷ past) (given ++ z) E
all_count h a past given z E i e = record {
  later = [];
  first = a ∷ past;
  are = refl;
  enough = e;
  took = front_of h (ready_by h (a ∷ past)) given z ([], i.5 ∙ sym (append-nil (ready_by h (a ∷ past))));
}

found_at : (h : Hearing) (counting : Takes) (xs ys : List Item) (E : Takes → Type 0) → xs ≡ ys → Found h counting ys E → Found h counting xs E
found_at h counting xs ys E e f = subst (λ (l : List Item). Found h counting l E) (sym e) f

-- ---- all takes, where the link was closed
pub no_end : (xs : List Item) → AreNoSignals xs → has_end xs ≡ false
no_end [] a = refl
no_end (x ∷ xs) a = ap (λ b. b || has_end xs) (end_signal x a.0) ∙ no_end xs a.1
  where
    end_signal : (x : Item) → is_signal x ≡ false → is_end x ≡ false
    end_signal (item.Text r o) e = refl
    end_signal item.Seen e = refl
    end_signal item.Silent e = refl
    end_signal item.End e = absurd (cc e)
    end_signal (item.Fault why) e = refl

pub end_split : (xs ys : List Item) → has_end (xs ++ ys) ≡ true → (has_end xs ≡ true) ⊎ (has_end ys ≡ true)
end_split [] ys e = inr e
end_split (x ∷ xs) ys e = go (is_end x) (end_split xs ys) e
  where
    go : (b : Bool) → (has_end (xs ++ ys) ≡ true → (has_end xs ≡ true) ⊎ (has_end ys ≡ true)) → (b || has_end (xs ++ ys)) ≡ true → ((b || has_end xs) ≡ true) ⊎ (has_end ys ≡ true)
    go true f h = inl refl
    go false f h = f h

end_closes : (w : Came) → has_end (signal_of w ∷ []) ≡ true → is_closing w ≡ true
end_closes (Datagram o) e = absurd (cc e)
end_closes Large e = absurd (cc e)
end_closes Quiet e = absurd (cc e)
end_closes Closed e = refl

pub find_end : (h : Hearing) (counting : Takes) (given before rest tail : List Item) → AreItems h counting given → AreNoSignals tail → before ++ rest ≡ given ++ tail → has_end before ≡ true → Found h counting before (λ first. is_closed first ≡ true)
find_end h [] given before rest tail a none e l =
    absurd (true≢false (sym (end_append before rest l) ∙ (ap has_end e ∙ (ap (λ k. has_end (k ++ tail)) a ∙ no_end tail none))))
find_end h (w ∷ past) given before rest tail a none e l =
    let bf = a.0 in
    let news = a.1 in
    let m : Item = signal_of w.came in
    let E : Takes → Type 0 = λ first. is_closed first ≡ true in
    elim (longer before rest given tail e) [
      | inl all ↦
          let whole : before ≡ bf ++ ((news ++ m ∷ []) ++ all.0) = all.1 ∙ (ap (λ k. k ++ all.0) a.2 ∙ append_assoc bf (news ++ m ∷ []) all.0) in
          elim (end_split bf ((news ++ m ∷ []) ++ all.0) (ap has_end (sym whole) ∙ l)) [
            | inl in_front ↦
                found_at h (w ∷ past) before (bf ++ ((news ++ m ∷ []) ++ all.0)) E whole
                (one_later h w past (bf ++ ((news ++ m ∷ []) ++ all.0)) E (longer_took h past bf ((news ++ m ∷ []) ++ all.0) E (find_end h past bf bf [] [] a.3 tt refl in_front)))
            | inr behind ↦
                let closes : is_closing w.came ≡ true = elim (end_split (news ++ m ∷ []) all.0 behind) [
                  | inl here ↦ elim (end_split news (m ∷ []) here) [
                    | inl text ↦ absurd (true≢false (sym text ∙ no_end news (texts_no_signals news a.4)))
                    | inr signal ↦ end_closes w.came signal
                  ]
                  | inr after ↦ absurd (true≢false (sym (end_append all.0 rest after) ∙ (ap has_end all.2 ∙ no_end tail none)))
                ] in
                found_at h (w ∷ past) before (given ++ all.0) E all.1 (all_count h w past given all.0 E a (ap (λ b. b || is_closed past) closes))
          ]
      | inr part ↦
          let r = but_last before part.1 (bf ++ news) part.0 m (sym part.2 ∙ (a.2 ∙ sym (append_assoc bf news (m ∷ [])))) in
          one_later h w past before E (find_end h past bf before r.0 news a.3 (texts_no_signals news a.4) r.1 l)
    ]

-- ---- as many takes as signals
-- the last of these items
abbrev last_item : Item → List Item → Item
last_item d [] = d
last_item d (x ∷ xs) = last_item x xs

last_is : (d : Item) (xs : List Item) (x : Item) → last_item d (xs ++ x ∷ []) ≡ x
last_is d [] x = refl
last_is d (y ∷ xs) x = last_is y xs x

last_append : (d : Item) (xs ys : List Item) → last_item d (xs ++ ys) ≡ last_item (last_item d xs) ys
last_append d [] ys = refl
last_append d (x ∷ xs) ys = last_append x xs ys

last_no_signal : (d : Item) (xs : List Item) → is_signal d ≡ false → AreNoSignals xs → is_signal (last_item d xs) ≡ false
last_no_signal d [] e a = e
last_no_signal d (x ∷ xs) e a = last_no_signal x xs a.0 a.1

-- of what ends with a signal nothing is behind it that is none
last_signal : (d : Item) (xs ys : List Item) → is_signal (last_item d (xs ++ ys)) ≡ true → AreNoSignals ys → last_item d (xs ++ ys) ≡ last_item d xs
last_signal d xs [] e a = ap (last_item d) (append-nil xs)
last_signal d xs (y ∷ ys) e a = absurd (true≢false (sym e ∙ (ap is_signal (last_append d xs (y ∷ ys)) ∙ last_no_signal y ys a.0 a.1)))

quiet_is : (w : Came) → signal_of {F = LinkStop} w ≡ item.Silent → is_quiet w ≡ true
quiet_is (Datagram o) e = absurd (cc e)
quiet_is Large e = absurd (cc e)
quiet_is Quiet e = refl
quiet_is Closed e = absurd (cc e)

end_is : (w : Came) → is_end (signal_of w) ≡ is_closing w
end_is (Datagram o) = refl
end_is Large = refl
end_is Quiet = refl
end_is Closed = refl

-- the end was given where the link is closed
ends_are : (h : Hearing) (takes : Takes) (given : List Item) → AreItems h takes given → has_end given ≡ is_closed takes
ends_are h [] given a = ap has_end a
ends_are h (w ∷ past) given a =
    let m : Item = signal_of w.came in
    ap has_end a.2
    ∙ (end_both a.0 (a.1 ++ m ∷ [])
    ∙ (ap (λ b. has_end a.0 || b) (end_both a.1 (m ∷ []) ∙ (ap (λ b. b || (is_end m || false)) (no_end a.1 (texts_no_signals a.1 a.4)) ∙ (or_none (is_end m) ∙ end_is w.came)))
    ∙ (ap (λ b. b || is_closing w.came) (ends_are h past a.0 a.3) ∙ swap (is_closed past) (is_closing w.came))))
  where
    swap : (a b : Bool) → (a || b) ≡ (b || a)
    swap true true = refl
    swap true false = refl
    swap false true = refl
    swap false false = refl

-- these takes are those whose signals were popped
record AreCounted (xs : List Item) (first : Takes) : Type 0 where
  many : length first ≡ signals_in xs
  blank : last_item (item.Fault Told) xs ≡ item.Silent → is_blank first ≡ true
  ends : has_end xs ≡ is_closed first

-- of items without a signal
none_counted : (xs ys tail : List Item) → AreNoSignals tail → xs ++ ys ≡ tail → AreCounted xs []
none_counted xs ys tail none e = record {
  many = (let p = signals_append xs ys in let q = ap signals_in e in let z = no_signals_in tail none in omega (arith, p, q, z));
  blank = λ b. absurd (true≢false (sym (ap is_signal b) ∙ last_no_signal (item.Fault Told) xs refl (front_no_signals xs ys (subst AreNoSignals (sym e) none))));
  ends = front_no_end (has_end xs) (has_end ys) (sym (end_both xs ys) ∙ (ap has_end e ∙ no_end tail none));
}
  where
    front_no_signals : (xs ys : List Item) → AreNoSignals (xs ++ ys) → AreNoSignals xs
    front_no_signals [] ys a = tt
    front_no_signals (x ∷ xs) ys a = (a.0, front_no_signals xs ys a.1)

    front_no_end : (a b : Bool) → (a || b) ≡ false → a ≡ false
    front_no_end true b e = e
    front_no_end false b e = refl

all_counted : (h : Hearing) (w : Taken) (past : Takes) (given z xs : List Item) → AreItems h (w ∷ past) given → AreNoSignals z → xs ≡ given ++ z → AreCounted xs (w ∷ past)
all_counted h w past given z xs a none e =
    let m : Item = signal_of w.came in
    let whole : given ≡ (a.0 ++ a.1) ++ m ∷ [] = a.2 ∙ sym (append_assoc a.0 a.1 (m ∷ [])) in
    record {
      many = (let p = signals_append given z in let q = ap signals_in e in let y = no_signals_in z none in let r = signals_given h (w ∷ past) given a in omega (arith, p, q, y, r));
      blank = λ b. quiet_is w.came (
          let there : last_item (item.Fault Told) (given ++ z) ≡ item.Silent = ap (last_item (item.Fault Told)) (sym e) ∙ b in
          sym (last_is (item.Fault Told) (a.0 ++ a.1) m) ∙ (ap (last_item (item.Fault Told)) (sym whole) ∙ (sym (last_signal (item.Fault Told) given z (ap is_signal there) none) ∙ there)));
      ends = ap has_end e ∙ (end_none given z (no_end z none) ∙ ends_are h (w ∷ past) given a);
    }

behind_none : (xs ys tail : List Item) → xs ++ ys ≡ tail → AreNoSignals tail → AreNoSignals xs
behind_none xs ys tail e none = front xs (subst AreNoSignals (sym e) none)
  where
    front : (xs : List Item) → AreNoSignals (xs ++ ys) → AreNoSignals xs
    front [] a = tt
    front (x ∷ xs) a = (a.0, front xs a.1)

none_last : (h : Hearing) (sender : Option ℕ) → last_chunks h sender [] ≡ []
none_last h None = refl
none_last h (Some ssrc) = refl

-- by no takes nothing is ready
none_ready : (h : Hearing) → ready_by h [] ≡ []
none_ready h = ap (λ (cs : List Chunk). filter (is_ready_by 0) cs) (none_last h (first_sender h))

find_signals : (h : Hearing) (counting : Takes) (given before rest tail : List Item) → AreItems h counting given → AreNoSignals tail → before ++ rest ≡ given ++ tail → Found h counting before (AreCounted before)
find_signals h [] given before rest tail a none e =
    record {
      later = [];
      first = [];
      are = refl;
      enough = none_counted before rest tail none (e ∙ ap (λ k. k ++ tail) a);
      took = (texts_in h.leg before, ap (λ (cs : List Chunk). cs ++ texts_in h.leg before) (sym (none_ready h)));
    }
find_signals h (w ∷ past) given before rest tail a none e =
    let bf = a.0 in
    let news = a.1 in
    let m : Item = signal_of w.came in
    elim (longer before rest given tail e) [
      | inl all ↦
          let c = all_counted h w past given all.0 before a (behind_none all.0 rest tail all.2 none) all.1 in
          found_at h (w ∷ past) before (given ++ all.0) (AreCounted before) all.1 (all_count h w past given all.0 (AreCounted before) a c)
      | inr part ↦
          let r = but_last before part.1 (bf ++ news) part.0 m (sym part.2 ∙ (a.2 ∙ sym (append_assoc bf news (m ∷ [])))) in
          one_later h w past before (AreCounted before) (find_signals h past bf before r.0 news a.3 (texts_no_signals news a.4) r.1)
    ]

-- ---- what was popped before a turn
first_is : (takes later first : Takes) (n : ℕ) → takes ≡ later ++ first → length first ≡ n → first_takes n takes ≡ first
first_is takes later first n e many =
    let all = ap length e in
    let both = length-append later first in
    let gap : length takes - n ≡ length later = omega (arith, all, both, many) in
    ap (λ (k : ℕ). drop k takes) gap ∙ (ap (λ (l : Takes). drop (length later) l) e ∙ drop-append_seam later first)

module _ (h : Hearing) (takes : Takes) (items before more : List Item) (w : Covers h takes items) (e : items ≡ before ++ more) where
  found : Found h w.counting before (AreCounted before)
  found = find_signals h w.counting w.given before (more ++ w.left) w.tail w.are w.no_signals (sym (append_assoc before more w.left) ∙ (ap (λ k. k ++ w.left) (sym e) ∙ w.items_are))

  takes_are : takes ≡ (w.later ++ found.later) ++ found.first
  takes_are = w.takes_are ∙ (ap (λ (k : Takes). w.later ++ k) found.are ∙ sym (append_assoc w.later found.later found.first))

  counted_are : first_takes (signals_in before) takes ≡ found.first
  counted_are = first_is takes (w.later ++ found.later) found.first (signals_in before) takes_are found.enough.many

  -- where the takes that count closed the link, the end was popped
  pub closed_ends : is_closed (first_takes (signals_in before) takes) ≡ true → has_end before ≡ true
  closed_ends c = found.enough.ends ∙ (ap is_closed (sym counted_are) ∙ c)

  heard_out : (last : ℕ) → ((last < signals_in before) × EndsSilent before) ⊎ ((last + most_takes ≤ signals_in before) ⊎ (has_end before ≡ true)) → IsHeardOut takes last (signals_in before)
  heard_out last (inl s) = inl (s.0, ap is_blank counted_are ∙ found.enough.blank (ap (last_item (item.Fault Told)) s.1.1 ∙ last_is (item.Fault Told) s.1.0 item.Silent))
  heard_out last (inr (inl l)) = inr (inl l)
  heard_out last (inr (inr ends)) =
      let closed : is_closed found.first ≡ true = sym found.enough.ends ∙ ends in
      let none = none_later (w.later ++ found.later) found.first (subst IsOpenBefore takes_are w.last) closed in
      let is : takes ≡ found.first = takes_are ∙ ap (λ (l : Takes). l ++ found.first) none in
      inr (inr (sym found.enough.many ∙ ap length (sym is), ap is_closed is ∙ closed))

  pub up_to_date : (blocked : Bool) (last : ℕ) → IsEnough blocked last before → IsUpToDate h takes blocked last (signals_in before) (texts_in h.leg before)
  up_to_date blocked last enough = record {
    more = has_signals blocked last before enough;
    came = (let all = ap length takes_are in let both = length-append (w.later ++ found.later) found.first in let many = found.enough.many in omega (arith, all, both, many));
    took = subst (λ (l : Takes). IsFront (ready_by h l) (texts_in h.leg before)) (sym counted_are) found.took;
    heard_out = λ free. heard_out last (subst (λ (b : Bool). IsEnough b last before) free enough).1;
  }
