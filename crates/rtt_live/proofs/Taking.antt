-- What a tap was told of is what the mixer took.
use Rattle.std.proofs.Common.{◌≡◌, ℕ, zero, suc, true, false, cond, inl, inr, List, [], ◌∷◌, ◌++◌, refl, ap, sym, ◌∙◌}
use Rattle.std.specs.Prelude.{◌==◌, Bool}
use Rattle.std.proofs.lemmas.Bool.{cases_eq, eq-eqb, ne_eqb}
use Rattle.std.proofs.lemmas.List.{append-nil, map-append}
use Rattle.std.proofs.lemmas.List.Elements.{filter-append}
use Rattle.stream_spec.specs.Ready.{Chunk}
use Rattle.mixer_spec.specs.Setups.{Setup, setup}
use Rattle.mixer_spec.specs.Table.{Call, Admit, Hush, Leave, Offer, Turn, Table, Taken, after_calls, chunks_taken, freed, free_place, given, has_room, is_given, may_leave}
use Rattle.mixer_spec.specs.Calls.{took}
use Rattle.mixer_spec.proofs.Lists.{set_same, set_other}
use Rattle.mixer_spec.proofs.Legs.{come_taken}
use Rattle.rtt_live.specs.Mixers.{all_admitted}
use Rattle.rtt_live.specs.Taps.{Took, chunks_of, chunks_taken_in, notices_by}
use Rattle.rtt_live.specs.Calls.{AreTaken}
use Rattle.file_spec.specs.Conference.{Conference}

-- nothing was told while all legs came
pub none_offered : (s : Setup) (n : ℕ) → notices_by s (all_admitted n) ≡ []
none_offered s zero = refl
none_offered s (suc n) = none_offered s n

-- one chunk more was taken
given_of : (i : ℕ) (c : Chunk) (t : Table) (xs : List Chunk) → chunks_of i xs ≡ chunks_taken (t.taken i) → chunks_of i (xs ++ c ∷ []) ≡ chunks_taken ((given c.source c t).taken i)
given_of i c t xs e = elim (cases_eq c.source i) [
  | inl same ↦ filter-append (λ (d : Chunk). d.source == i) xs (c ∷ [])
      ∙ (ap (λ (b : Bool). chunks_of i xs ++ cond b (c ∷ []) []) (eq-eqb c.source i same)
      ∙ (ap (λ (ys : List Chunk). ys ++ c ∷ []) e
      ∙ (sym (map-append (λ (x : Taken). x.chunk) (t.taken i) (record { chunk = c; given = is_given t.seats c.source } ∷ []))
      ∙ (ap (λ (k : ℕ). chunks_taken (t.taken k ++ record { chunk = c; given = is_given t.seats c.source } ∷ [])) (sym same)
      ∙ ap chunks_taken (sym (set_same t.taken c.source (t.taken c.source ++ record { chunk = c; given = is_given t.seats c.source } ∷ []) i (sym same)))))))
  | inr other ↦ filter-append (λ (d : Chunk). d.source == i) xs (c ∷ [])
      ∙ (ap (λ (b : Bool). chunks_of i xs ++ cond b (c ∷ []) []) (ne_eqb c.source i other)
      ∙ (append-nil (chunks_of i xs)
      ∙ (e ∙ ap chunks_taken (sym (set_other t.taken c.source (t.taken c.source ++ record { chunk = c; given = is_given t.seats c.source } ∷ []) i (λ q. other (sym q)))))))
]

pub of_leg : (s : Setup) (i : ℕ) (calls : List Call) → chunks_of i (chunks_taken_in (notices_by s calls)) ≡ took s i calls
of_leg s i [] = refl
of_leg s i (Admit k l ∷ past) = let t = after_calls s past in of_leg s i past ∙ sym (ap (λ (y : ℕ → List Taken). chunks_taken (y i)) (come_taken k l t (free_place s t.seats)))
of_leg s i (Hush k ∷ past) = of_leg s i past
of_leg s i (Leave k ∷ past) = of_leg s i past ∙ go (may_leave s k (after_calls s past))
  where
    go : (b : Bool) → chunks_taken ((after_calls s past).taken i) ≡ chunks_taken ((cond {A = Table} b (freed k (after_calls s past)) (after_calls s past)).taken i)
    go true = refl
    go false = refl
of_leg s i (Offer c ∷ past) = go (has_room s c.source c (after_calls s past)) (of_leg s i past)
  where
    go : (b : Bool) → chunks_of i (chunks_taken_in (notices_by s past)) ≡ took s i past → chunks_of i (chunks_taken_in (cond b (Took c ∷ notices_by s past) (notices_by s past))) ≡ chunks_taken ((cond {A = Table} b (given c.source c (after_calls s past)) (after_calls s past)).taken i)
    go true e = given_of i c (after_calls s past) (chunks_taken_in (notices_by s past)) e
    go false e = e
of_leg s i (Turn now ∷ past) = of_leg s i past

-- so what a tap was told of by the calls that made a table is what was taken in it
pub all_taken : (c : Conference) (calls : List Call) (table : Table) → after_calls (setup c) calls ≡ table → AreTaken table (chunks_taken_in (notices_by (setup c) calls))
all_taken c calls table is j = of_leg (setup c) j calls ∙ ap (λ (t : Table). chunks_taken (t.taken j)) is
