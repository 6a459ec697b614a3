-- A lane that was given nothing.
use Rattle.std.proofs.Common.{◌≡◌, ℕ, Bool, true, false, Option, Some, None, List, [], refl, subst, sym}
use Rattle.std.specs.Prelude.{slice_get, not, ◌&&◌, ◌==◌, if◌then◌else◌}
use Rattle.mixer_spec.specs.Table.{is_given}
use Rattle.mixer_places.specs.declared.rings.RingPosition.{RingPosition}
use Rattle.mixer_places.specs.declared.parts.Part.{Part}
use Rattle.mixer_places.specs.Rings.{Chunks, no_chunks}
use Rattle.mixer_places.specs.Lanes.{first_part, start}
use Rattle.mixer_places.specs.Words.{all_listen}
use Rattle.mixer_places.specs.SlotStanding.{place_of, IsPart, SlotHolds}

first_is_part : (own j : ℕ) → IsPart j (is_given all_listen.seats own j) [] [] (first_part own j)
first_is_part own j = record {
  before = [];
  part = [];
  behind = [];
  whole = refl;
  waits = refl;
  all_given = tt;
  none_behind = tt;
  from = refl;
  to = go (j == own);
  goes_on = λ e. refl;
}
  where
    go : (b : Bool) → ◌≡◌ {A = Option RingPosition} (if b then Some start else None) (if not b && true then None else Some (place_of []))
    go true = refl
    go false = refl

pub new_holds : (own : ℕ) (chunks : Chunks) (parts : List Part) → chunks ≡ no_chunks → ((k : ℕ) (p : Part) → slice_get parts k ≡ Some p → p ≡ first_part own k)
    → SlotHolds (record { chunks = chunks; parts = parts }) [] (is_given all_listen.seats own) (λ j. [])
new_holds own chunks parts e f = record {
  gone = [];
  kept = [];
  all = refl;
  chunks = e;
  parts = λ j p g. subst (λ (x : Part). IsPart j (is_given all_listen.seats own j) [] [] x) (sym (f j p g)) (first_is_part own j);
}
