-- Facts of legs, chunks and tables that more than one crate cites.
use Rattle.mixer_spec.specs.Chunks.{joined, octets}
use Rattle.std.proofs.Common.{List, [], ap, append_assoc, refl, sym, ◌++◌, ◌∙◌, ◌∷◌, ◌≡◌, Some, arith, length, suc, zero, ℕ, ◌<◌, ◌+◌, Bool, None, Option, inl, inr}
use Rattle.stream_spec.specs.Ready.{Chunk}
use Rattle.file_spec.specs.declared.conference_lines.LegLine.{LegLine}
use Rattle.mixer_spec.specs.Setups.{leg_at}
use Rattle.mixer_spec.specs.Rounds.{all_below, set_at}
use Rattle.std.specs.Prelude.{slice_get}
use Rattle.mixer_spec.proofs.Lists.{set_other, set_same}
use Rattle.mixer_spec.specs.Table.{Table, freed}
use Rattle.std.proofs.lemmas.Bool.{cases_eq}

pub joined_append : (cs ds : List Chunk) → joined (cs ++ ds) ≡ joined cs ++ joined ds
joined_append [] ds = refl
joined_append (c ∷ cs) ds = ap (λ xs. c.text ++ xs) (joined_append cs ds) ∙ sym (append_assoc c.text (joined cs) (joined ds))

pub leg_there : (legs : List LegLine) (j : ℕ) → j < length legs → (leg : LegLine) × (leg_at legs j ≡ Some leg)
leg_there [] j low = absurd (omega (arith, low))
leg_there (leg ∷ legs) zero low = (leg, refl)
leg_there (leg ∷ legs) (suc j) low = leg_there legs j (omega (arith, low))

pub octets_append : (cs ds : List Chunk) → octets (cs ++ ds) ≡ octets cs + octets ds
octets_append [] ds = omega arith
octets_append (c ∷ cs) ds = omega (arith, octets_append cs ds)

pub all_same : (p q : ℕ → Bool) (n : ℕ) → ((i : ℕ) → i < n → p i ≡ q i) → all_below p n ≡ all_below q n
all_same p q zero f = refl
all_same p q (suc n) f = rw (f n (omega arith), all_same p q n (λ i l. f i (omega arith))) refl

pub leg_found : (ls : List LegLine) (k : ℕ) (l : LegLine) → slice_get ls k ≡ Some l → leg_at ls k ≡ Some l
leg_found [] k l e = absurd (cc e)
leg_found (x ∷ ls) zero l e = e
leg_found (x ∷ ls) (suc k) l e = leg_found ls k l e

pub freed_same : (i : ℕ) (table : Table) → table.seats.place i ≡ None → freed i table ≡ table
freed_same i table e =
    let point : (k : ℕ) → set_at table.seats.place i None k ≡ table.seats.place k = λ k. elim (cases_eq k i) [
      | inl q ↦ set_same table.seats.place i None k q ∙ sym (ap table.seats.place q ∙ e)
      | inr n ↦ set_other table.seats.place i None k n
    ] in
    let whole : set_at table.seats.place i None ≡ table.seats.place = λ d. λ k. point k d in
    ap (λ (f : ℕ → Option ℕ). record table { seats = record table.seats { place = f } }) whole
