-- A live run by the mixer's calls, newest first: what is in each leg's hand, and what was heard of it before each turn.
use Rattle.std.specs.Prelude.{◌≡◌, ◌≤◌, ◌<◌, ◌⊎◌, ℕ, ◌+◌, ◌==◌, Bool, true, false, Option, None, Some, List, [], ◌∷◌, ◌++◌, if◌then◌else◌}
use Rattle.std.specs.List.{list_any}
use Rattle.stream_spec.specs.Ready.{Chunk}
use Rattle.mixer_spec.specs.Setups.{Setup}
use Rattle.mixer_spec.specs.Table.{Call, Admit, Hush, Leave, Offer, Turn, after_calls, has_room, is_idle, is_seated}
use Rattle.mixer_spec.specs.Calls.{IsAdmit, took}
use Rattle.live_spec.specs.Live.{AllSeated, at_last, but_last, is_held_back, most_takes}
use Rattle.live_leg.specs.LinkLegs.{Item}
use Rattle.live_leg.specs.Items.{End, Silent, signals_in, texts_in}

-- the chunk that was offered last of the leg, where it was not taken
abbrev pub hand_after : Setup → ℕ → List Call → Option Chunk
hand_after s i [] = None
hand_after s i (Admit j l ∷ past) = hand_after s i past
hand_after s i (Hush j ∷ past) = hand_after s i past
hand_after s i (Leave j ∷ past) = hand_after s i past
hand_after s i (Offer c ∷ past) = if c.source == i then (if has_room s i c (after_calls s past) then None else Some c) else hand_after s i past
hand_after s i (Turn now ∷ past) = hand_after s i past

-- a turn that is made then is blocked for the leg
abbrev pub is_blocked_after : Setup → ℕ → List Call → Bool
is_blocked_after s i calls = is_held_back s (after_calls s calls) i (hand_after s i calls)

-- ---- items
abbrev pub is_end : Item → Bool
is_end End = true
is_end _ = false

abbrev pub has_end : List Item → Bool
has_end xs = list_any is_end xs

-- the last of these says that the link had nothing
abbrev pub EndsSilent : List Item → Type 0
EndsSilent items = (before : List Item) × (items ≡ before ++ Silent ∷ [])

-- it was said so often that all was given
abbrev pub HasSignals : ℕ → List Item → Type 0
HasSignals n items = n ≤ signals_in items

-- That was said so often, where a turn is blocked for the leg. Else it was said since that the link had nothing, or as often as a
-- link is asked, or the end was given.
abbrev pub IsEnough : Bool → ℕ → List Item → Type 0
IsEnough true n items = n ≤ signals_in items
IsEnough false n items =
    (n ≤ signals_in items)
    × (((n < signals_in items) × EndsSilent items) ⊎ ((n + most_takes ≤ signals_in items) ⊎ (has_end items ≡ true)))

-- ---- turns
-- Before the turn after these calls: of the items of the leg some first ones had all its texts that were taken, and were enough.
-- They said `now` times that all was given, and before the last turn that was said `before` times.
pub record IsFreshAt (s : Setup) (items : List Item) (past : List Call) (before now i : ℕ) : Type 0 where
  pub given : List Item
  pub more : List Item
  pub items_are : items ≡ given ++ more
  pub taken : texts_in i given ≡ took s i past
  pub count : now ≡ signals_in given
  pub enough : IsEnough (is_blocked_after s i past) before given
  pub seated : is_seated (after_calls s past).seats i ≡ true

-- It is so of each leg; and not all have ended with an empty hand while the mixer is idle.
pub record AllFreshAt (s : Setup) (items : ℕ → List Item) (past : List Call) (before now : ℕ → ℕ) : Type 0 where
  pub each : (i : ℕ) → i < s.legs → IsFreshAt s (items i) past (before i) (now i) i
  pub goes_on : ((i : ℕ) (low : i < s.legs) → (has_end (each i low).given ≡ true) × (hand_after s i past ≡ None)) → is_idle s (after_calls s past) ≡ true → ⊥

-- the chunk is offered with an empty hand, or it is the one in hand
abbrev pub IsNext : Setup → Chunk → List Call → Type 0
IsNext s c past = (hand_after s c.source past ≡ None) ⊎ (hand_after s c.source past ≡ Some c)

-- Each call may be made in a live run of these items, where that all was given was said so often of each leg before each turn, newest
-- first. Nothing is offered before all legs hold a place.
abbrev pub AreLiveCalls : Setup → (ℕ → List Item) → List (ℕ → ℕ) → List Call → Type 0
AreLiveCalls s items counts [] = Unit {0}
AreLiveCalls s items counts (Admit i l ∷ past) = IsAdmit s i l past × AreLiveCalls s items counts past
AreLiveCalls s items counts (Hush i ∷ past) = ⊥
AreLiveCalls s items counts (Leave i ∷ past) = ⊥
AreLiveCalls s items counts (Offer c ∷ past) = (c.source < s.legs) × IsNext s c past × AllSeated s (after_calls s past) × AreLiveCalls s items counts past
AreLiveCalls s items counts (Turn now ∷ past) = AllFreshAt s items past (at_last (but_last counts)) (at_last counts) × AreLiveCalls s items (but_last counts) past
