-- What was popped of a leg, and what its link gave.
use Rattle.std.specs.Prelude.{◌≡◌, ℕ, List, ◌++◌}
use Rattle.stream_spec.specs.Fronts.{IsFront}
use Rattle.stream_spec.specs.Links.{Takes}
use Rattle.live_spec.specs.Told.{Hearing, all_by}
use Rattle.live_leg.specs.LinkLegs.{Item}
use Rattle.live_leg.specs.Items.{AreItems, texts_in}
use Rattle.mix_loop.specs.Signals.{AreNoSignals, IsOpenBefore}

-- the same, as of the leg with this number
abbrev pub as_leg : ℕ → Hearing → Hearing
as_leg leg h = record h { leg = leg }

-- These items are the first of those that a leg gives by these takes, of which the last may not be given to its end; behind
-- them it may say that it stopped. Behind the take that closed the link there is none.
pub record Covers (h : Hearing) (takes : Takes) (items : List Item) : Type 0 where
  pub later : Takes
  pub counting : Takes
  pub given : List Item
  pub tail : List Item
  pub left : List Item
  pub takes_are : takes ≡ later ++ counting
  pub are : AreItems h counting given
  pub no_signals : AreNoSignals tail
  pub items_are : items ++ left ≡ given ++ tail
  pub last : IsOpenBefore takes
  pub front : IsFront (texts_in h.leg (given ++ tail)) (all_by h takes)
