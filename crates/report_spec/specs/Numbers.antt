-- Which numbers of a stream no packet had, and which came too late to be heard (RFC 3550, section 5.1, for sequence numbers;
-- what is too late is a profile). Lists of arrivals are newest first.
use Rattle.std.specs.Prelude.{ℕ, zero, suc, ◌-◌, ◌==◌, Bool, not, List, [], ◌∷◌, ◌++◌, map, filter, reverse, if◌then◌else◌}
use Rattle.stream_spec.specs.Numbering.{Numbered, used, has_number}
use Rattle.stream_spec.specs.Ready.{ready_of}

-- ---- late

-- e came too late: none that is used has its number
abbrev pub is_late : List Numbered → Numbered → Bool
is_late heard e = not (has_number heard e.number)

-- those that came too late, in the order in which they came
abbrev pub late : ℕ → List Numbered → List Numbered
late wait past = reverse (filter (is_late (used wait past)) past)

-- ---- lost

-- a row of numbers: its first, and its last
abbrev pub Row : Type 0
Row = ℕ × ℕ

-- n before these rows, which stand above it
abbrev pub with_number : ℕ → List Row → List Row
with_number n [] = (n, n) ∷ []
with_number n (row ∷ rows) = if row.0 == suc n then (n, row.1) ∷ rows else (n, n) ∷ row ∷ rows

-- of the k numbers from low on those that did not come, as rows
abbrev pub missing : (ℕ → Bool) → ℕ → ℕ → List Row
missing came low zero = []
missing came low (suc k) = if came low then missing came (suc low) k else with_number low (missing came (suc low) k)

-- a row of numbers that no packet had, and the moment at which it was given up
pub record Lost : Type 0 where
  pub row : Row
  pub at : ℕ

-- those between the number n and u: where u is ready, each number before it has come or is given up
abbrev pub lost_before : ℕ → List Numbered → ℕ → Numbered → List Lost
lost_before wait past n u = map (λ row. record { row = row; at = ready_of wait past u }) (missing (has_number past) (suc n) (u.number - suc n))

-- those between these, which rise, and the number n before them
abbrev pub lost_from : ℕ → List Numbered → ℕ → List Numbered → List Lost
lost_from wait past n [] = []
lost_from wait past n (u ∷ us) = lost_before wait past n u ++ lost_from wait past u.number us

abbrev pub lost_among : ℕ → List Numbered → List Numbered → List Lost
lost_among wait past [] = []
lost_among wait past (u ∷ us) = lost_from wait past u.number us

-- all those of a stream, in rising number
abbrev pub lost : ℕ → List Numbered → List Lost
lost wait past = lost_among wait past (used wait past)
