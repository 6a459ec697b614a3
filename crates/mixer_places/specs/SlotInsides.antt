-- What holds of each table of slots.
use Rattle.std.specs.Prelude.{◌≡◌, ℕ, Some, length, slice_get}
use Rattle.mixer_places.specs.declared.slots.Slots.TheInside.{Inside}
use Rattle.mixer_places.specs.Lanes.{Waiting}

-- each source has a part for each leg
abbrev pub IsSlots : Inside → Type 0
IsSlots s = (i : ℕ) (w : Waiting) → slice_get s.lanes.items i ≡ Some w → length w.parts ≡ length s.lanes.items
