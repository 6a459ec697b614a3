-- A link that is closed stays so.
use Rattle.std.proofs.Common.{◌≡◌, ℕ, true, false, true≢false, [], ◌∷◌, ◌++◌, ◌||◌, refl, ap, sym, ◌∙◌}
use Rattle.std.specs.Prelude.{Bool}
use Rattle.stream_spec.specs.Links.{Takes, Came, Datagram, Large, Quiet, Closed, is_closed, is_closing}
use Rattle.live_spec.specs.Told.{Hearing, Told, told_by, told_came}
use Rattle.live_spec.proofs.Fronts.{came_closed}
use Rattle.mix_loop.specs.Signals.{IsOpenBefore}
use Rattle.std.proofs.Math.Bool.{or-true as or_true}

-- ---- once closed, for good
pub stays_closed : (h : Hearing) (d : Told) (t : ℕ) (w : Came) → d.closed ≡ true → (told_came h d t w).closed ≡ true
stays_closed h d t w e = came_closed h d t w ∙ (ap (λ (b : Bool). is_closing w || b) e ∙ or_true (is_closing w))

pub closes_now : (h : Hearing) (d : Told) (t : ℕ) (w : Came) → is_closing w ≡ true → (told_came h d t w).closed ≡ true
closes_now h d t (Datagram o) e = absurd (true≢false (sym e))
closes_now h d t Large e = absurd (true≢false (sym e))
closes_now h d t Quiet e = absurd (true≢false (sym e))
closes_now h d t Closed e = refl

pub told_closed : (h : Hearing) (takes : Takes) → is_closed takes ≡ true → (told_by h takes).closed ≡ true
told_closed h [] e = absurd (true≢false (sym e))
told_closed h (a ∷ past) e = go (is_closing a.came) refl (told_closed h past) e
  where
    go : (b : Bool) → is_closing a.came ≡ b → (is_closed past ≡ true → (told_by h past).closed ≡ true) → (b || is_closed past) ≡ true → (told_came h (told_by h past) a.at a.came).closed ≡ true
    go true q f x = closes_now h (told_by h past) a.at a.came q
    go false q f x = stays_closed h (told_by h past) a.at a.came (f x)

pub open_takes : (h : Hearing) (takes : Takes) → (told_by h takes).closed ≡ false → is_closed takes ≡ false
open_takes h takes o = go (is_closed takes) refl
  where
    go : (b : Bool) → is_closed takes ≡ b → is_closed takes ≡ false
    go true e = absurd (true≢false (sym (told_closed h takes e) ∙ o))
    go false e = e

later_open : (b c : Bool) → (b || c) ≡ false → c ≡ false
later_open true c e = absurd (true≢false e)
later_open false c e = e

pub open_before : (h : Hearing) (takes : Takes) → (told_by h takes).closed ≡ false → IsOpenBefore takes
open_before h [] o = tt
open_before h (t ∷ past) o = later_open (is_closing t.came) (is_closed past) (open_takes h (t ∷ past) o)

closed_behind : (xs ys : Takes) → is_closed ys ≡ true → is_closed (xs ++ ys) ≡ true
closed_behind [] ys e = e
closed_behind (x ∷ xs) ys e = go (is_closing x.came) (closed_behind xs ys e)
  where
    go : (b : Bool) → is_closed (xs ++ ys) ≡ true → (b || is_closed (xs ++ ys)) ≡ true
    go true h = refl
    go false h = h

-- behind a take that closed the link there is none
pub none_later : (later counting : Takes) → IsOpenBefore (later ++ counting) → is_closed counting ≡ true → later ≡ []
none_later [] counting o e = refl
none_later (t ∷ later) counting o e = absurd (true≢false (sym (closed_behind later counting e) ∙ o))
