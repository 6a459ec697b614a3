-- The first 64 different ones of the numbers that are named one after another (profile).
use Rattle.std.specs.Prelude.{ℕ, suc, ◌==◌, Bool, List, [], ◌∷◌, ◌++◌, length, nat_lt, if◌then◌else◌}
use Rattle.std.specs.List.{list_any}
use Rattle.rtt_base.specs.declared.limits.TheConstants.{MOST_SOURCES}

-- the first 64, in the order in which each was first named, and how often another was named
pub record Firsts : Type 0 where
  pub kept : List ℕ
  pub others : ℕ

abbrev pub is_kept : Firsts → ℕ → Bool
is_kept f name = list_any (λ x. x == name) f.kept

abbrev pub has_room : Firsts → Bool
has_room f = nat_lt (length f.kept) MOST_SOURCES

abbrev pub with_kept : Firsts → ℕ → Firsts
with_kept f name = record { kept = f.kept ++ name ∷ []; others = f.others }

abbrev pub with_other : Firsts → Firsts
with_other f = record { kept = f.kept; others = suc f.others }

-- one more is named
abbrev pub with_name : Firsts → ℕ → Firsts
with_name f name = if is_kept f name then f else (if has_room f then with_kept f name else with_other f)

abbrev pub with_names : Firsts → List ℕ → Firsts
with_names f [] = f
with_names f (name ∷ names) = with_names (with_name f name) names

abbrev pub firsts : List ℕ → Firsts
firsts names = with_names (record { kept = []; others = 0 }) names
