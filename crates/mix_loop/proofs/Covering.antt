-- What was popped of a leg is the first of what it gives.
use Rattle.std.proofs.Common.{◌≡◌, ℕ, true, false, inl, inr, List, [], ◌∷◌, ◌++◌, refl, sym, ◌∙◌, subst}
use Rattle.std.proofs.lemmas.List.{append-nil}
use Rattle.stream_spec.specs.Fronts.{IsFront}
use Rattle.link_io.specs.declared.ends.LinkIn as links
use Rattle.stream_spec.specs.Links.{Takes}
use Rattle.live_spec.specs.Told.{Hearing, all_by}
use Rattle.live_leg.specs.declared.settings.LegSettings.{LegSettings}
use Rattle.live_leg.specs.LinkLegs.{Item, LegStands, LinkLeg}
use Rattle.live_leg.specs.Items as item
use Rattle.live_leg.specs.declared.states.State.{State}
use Rattle.live_leg.specs.declared.states.State.TheVariants.{Idle, Giving, Blank, Parting, Ending, Over}
use Rattle.live_leg.specs.Items.{AreItems, AreTexts, is_signal, is_text, texts_in}
use Rattle.live_leg.specs.Stands.{IsGivingSome, IsStop, PhaseAt}
use Rattle.live_leg.specs.Stories.{hearing_of}
use Rattle.mix_loop.specs.Covers.{Covers, as_leg}
use Rattle.mix_loop.proofs.AsLeg.{covers_as}
use Rattle.mix_loop.proofs.CallOpening.{open_before, open_takes}
use Rattle.mix_loop.specs.Signals.{AreNoSignals, IsOpenBefore}

text_no_signal : (x : Item) → is_text x ≡ true → is_signal x ≡ false
text_no_signal (item.Text r o) e = refl
text_no_signal item.Seen e = absurd (cc e)
text_no_signal item.Silent e = absurd (cc e)
text_no_signal item.End e = absurd (cc e)
text_no_signal (item.Fault why) e = refl

pub texts_no_signals : (xs : List Item) → AreTexts xs → AreNoSignals xs
texts_no_signals [] a = tt
texts_no_signals (x ∷ xs) a = (text_no_signal x a.0, texts_no_signals xs a.1)

stop_no_signal : (x : Item) → IsStop x → is_signal x ≡ false
stop_no_signal (item.Text r o) s = absurd s
stop_no_signal item.Seen s = absurd s
stop_no_signal item.Silent s = absurd s
stop_no_signal item.End s = absurd s
stop_no_signal (item.Fault why) s = refl

-- some takes, what was given by them, and a tail, of which this was popped
pub covers_by : (h : Hearing) (takes : Takes) (gave popped left : List Item) → gave ≡ popped ++ left → IsFront (texts_in h.leg gave) (all_by h takes)
    → (later counting : Takes) (given tail : List Item) → IsOpenBefore takes → takes ≡ later ++ counting → AreItems h counting given → AreNoSignals tail → gave ≡ given ++ tail → Covers h takes popped
covers_by h takes gave popped left all front later counting given tail last e are none is = record {
  later = later;
  counting = counting;
  given = given;
  tail = tail;
  left = left;
  takes_are = e;
  are = are;
  no_signals = none;
  items_are = sym all ∙ is;
  last = last;
  front = subst (λ (l : List Item). IsFront (texts_in h.leg l) (all_by h takes)) is front;
}

module _ (settings : LegSettings) (takes : Takes) (gave popped left : List Item) (all : gave ≡ popped ++ left) (front : IsFront (texts_in 0 gave) (all_by (hearing_of settings) takes)) where
  some_covers : {b : _} {m : _} → IsGivingSome b m (hearing_of settings) takes gave → Covers (hearing_of settings) takes popped
  some_covers w = covers_by (hearing_of settings) takes gave popped left all front (w.last ∷ []) w.past w.before w.news (subst IsOpenBefore (sym w.takes_are) (open_takes (hearing_of settings) w.past w.open_before)) w.takes_are w.are (texts_no_signals w.news w.texts) w.items_are

  phase_covers : (st : State) → PhaseAt st (hearing_of settings) takes gave → Covers (hearing_of settings) takes popped
  phase_covers Idle p = covers_by (hearing_of settings) takes gave popped left all front [] takes gave [] (open_before (hearing_of settings) takes p.open_still) refl p.are tt (sym (append-nil gave))
  phase_covers Giving p = some_covers p
  phase_covers Blank p = some_covers p
  phase_covers Parting p = some_covers p
  phase_covers Ending p = some_covers p
  phase_covers Over (inl p) = covers_by (hearing_of settings) takes gave popped left all front [] takes gave [] (subst IsOpenBefore (sym p.some.takes_are) (open_takes (hearing_of settings) p.some.past p.some.open_before)) refl p.are tt (sym (append-nil gave))
  phase_covers Over (inr p) = covers_by (hearing_of settings) takes gave popped left all front [] takes p.before (p.last ∷ []) (open_before (hearing_of settings) takes p.open_still) refl p.are (stop_no_signal p.last p.stops, tt) p.items_are

pub covers : {L : Type 0} (g : links.Ghosts L) (leg : ℕ) (first now : LinkLeg L) (gave popped left : List Item) (w : LegStands g first now gave) → gave ≡ popped ++ left → Covers (as_leg leg (hearing_of first.settings)) w.so.takes popped
covers g leg first now gave popped left w all = covers_as leg (hearing_of first.settings) w.so.takes popped (phase_covers first.settings w.so.takes gave popped left all w.front now.state w.so.phase)
