-- When legs stay, and how many at one moment (profile).
use Rattle.std.specs.Prelude.{◌≤◌, ◌<◌, ℕ, Bool, true, nat_lt, nat_le, ◌&&◌, Option, None, Some, List, count_by}
use Rattle.std.specs.List.{list_any}
use Rattle.std.specs.Option.{ForSome}
use Rattle.file_spec.specs.declared.limits.TheConstants.{MOST_STAYING, LAST_MOMENT}
use Rattle.file_spec.specs.declared.conference_lines.Stay.{Stay}
use Rattle.file_spec.specs.declared.conference_lines.LegLine.{LegLine}

-- the moment t is before this end
abbrev pub is_before_end : ℕ → Option ℕ → Bool
is_before_end t None = true
is_before_end t (Some end) = nat_lt t end

-- the first moment of a stay belongs to it, and its end doesn't
abbrev pub stays_at : ℕ → Stay → Bool
stays_at t stay = nat_le stay.from t && is_before_end t stay.until

-- how many legs stay at the moment t
abbrev pub staying : ℕ → List LegLine → ℕ
staying t legs = count_by (λ leg. stays_at t leg.stay) legs

-- at the moment at which some leg comes too many stay
abbrev pub is_crowd : List LegLine → Bool
is_crowd legs = list_any (λ leg. nat_lt MOST_STAYING (staying leg.stay.from legs)) legs

abbrev pub NeverCrowd : List LegLine → Type 0
NeverCrowd legs = (t : ℕ) → staying t legs ≤ MOST_STAYING

abbrev pub HasCrowd : List LegLine → Type 0
HasCrowd legs = (t : ℕ) × (MOST_STAYING < staying t legs)

-- a stay within four hours that has a moment
pub record IsStay (stay : Stay) : Type 0 where
  pub from : stay.from ≤ LAST_MOMENT
  pub until : ForSome stay.until (λ end. end ≤ LAST_MOMENT)
  pub some : ForSome stay.until (λ end. stay.from < end)
