-- Of a leg that left nothing more is taken.
use Rattle.std.proofs.Common.{◌≡◌, ℕ, Bool, true, false, cond, inl, inr, Option, Some, None, List, [], ◌∷◌, ◌++◌, refl, ap, subst, sym, ◌∙◌}
use Rattle.std.specs.Prelude.{is_some, ◌&&◌}
use Rattle.std.proofs.lemmas.Bool.{cases_eq, true≢false, and_parts, and_from}
use Rattle.stream_spec.specs.Ready.{Chunk}
use Rattle.mixer_spec.specs.Setups.{Setup}
use Rattle.mixer_spec.specs.Table.{Call, Admit, Hush, Leave, Offer, Turn, Table, chunks_taken, is_seated, is_given, is_fit, span_with, has_room, given, offered, freed, free_place, come_to, may_leave, departed, after_calls}
use Rattle.mixer_spec.specs.Calls.{took}
use Rattle.mixer_spec.proofs.Lists.{set_same, set_other}
use Rattle.mixer_spec.proofs.Seats.{Seated, none_seated, none_of, come_seated, free_comes, leave_with, hush_seated, free_seated}
use Rattle.mixer.specs.Allowed.{AreAllowed}
use Rattle.mixer_spec.proofs.Plain.{freed_same}

-- ---- seats
pub seated : (s : Setup) (calls : List Call) → AreAllowed s calls → Seated s (after_calls s calls).seats
seated s [] a = none_seated s
seated s (Admit i l ∷ past) a = go (free_place s (after_calls s past).seats) refl (seated s past a.1)
  where
    go : (o : Option ℕ) → free_place s (after_calls s past).seats ≡ o → Seated s (after_calls s past).seats → Seated s (come_to i l (after_calls s past) o).seats
    go None e h = h
    go (Some p) e h = come_seated s i l (after_calls s past) p h (free_comes s i p (after_calls s past) h a.0.leg a.0.fresh e)
seated s (Hush i ∷ past) a = hush_seated s i (after_calls s past) (seated s past a.1)
seated s (Leave i ∷ past) a =
    let h = seated s past a in leave_with s i (after_calls s past) (λ (t : Table). Seated s t.seats) h (λ m. free_seated s i (after_calls s past) h)
seated s (Offer c ∷ past) a = go (has_room s c.source c (after_calls s past)) (seated s past a.1)
  where
    go : (b : Bool) → Seated s (after_calls s past).seats → Seated s (cond {A = Table} b (given c.source c (after_calls s past)) (after_calls s past)).seats
    go true h = h
    go false h = h
seated s (Turn now ∷ past) a = seated s past a

-- ---- a leg that left
-- it came, and holds no place
pub record IsAway (i : ℕ) (table : Table) : Type 0 where
  pub came : table.seats.came i ≡ true
  pub away : table.seats.place i ≡ None

-- still so, and nothing more was taken
record Stays (s : Setup) (i : ℕ) (v w : Table) : Type 0 where
  away : IsAway i w
  taken : w.taken i ≡ v.taken i

admit_away : (s : Setup) (i k : ℕ) (l : Bool) (table : Table) (o : Option ℕ) → table.seats.came k ≡ false → IsAway i table → Stays s i table (come_to k l table o)
admit_away s i k l table None f h = record { away = h; taken = refl }
admit_away s i k l table (Some p) f h = elim (cases_eq i k) [
  | inl q ↦ absurd (true≢false (sym h.came ∙ (ap table.seats.came q ∙ f)))
  | inr n ↦ record {
    away = record { came = set_other table.seats.came k true i n ∙ h.came; away = set_other table.seats.place k (Some p) i n ∙ h.away };
    taken = refl;
  }
]

leave_away : (s : Setup) (i k : ℕ) (table : Table) → IsAway i table → Stays s i table (departed s k table)
leave_away s i k table h = leave_with s k table (Stays s i table) (record { away = h; taken = refl }) (λ m. record {
  away = record {
    came = h.came;
    away = elim (cases_eq i k) [ inl q ↦ set_same table.seats.place k None i q | inr n ↦ set_other table.seats.place k None i n ∙ h.away ];
  };
  taken = refl;
})

offer_away : (s : Setup) (i : ℕ) (c : Chunk) (table : Table) → IsAway i table → Stays s i table (offered s c.source c table)
offer_away s i c table h = go (has_room s c.source c table) refl
  where
    go : (b : Bool) → has_room s c.source c table ≡ b → Stays s i table (cond {A = Table} b (given c.source c table) table)
    go false q = record { away = h; taken = refl }
    go true q = elim (cases_eq i c.source) [
      | inl same ↦ absurd (true≢false (sym (and_parts (is_seated table.seats c.source) (is_fit (span_with s c.source c table)) q).0 ∙ ap is_some (ap table.seats.place (sym same) ∙ h.away)))
      | inr other ↦ record {
        away = record { came = h.came; away = h.away };
        taken = set_other table.taken c.source (table.taken c.source ++ record { chunk = c; given = is_given table.seats c.source } ∷ []) i other;
      }
    ]

-- of each leg that left these were all that was taken
abbrev pub AreAll : Setup → (ℕ → List Chunk) → List Call → Type 0
AreAll s chunks calls = (i : ℕ) → IsAway i (after_calls s calls) → took s i calls ≡ chunks i

-- so it was before the last call
pub all_before : (s : Setup) (chunks : ℕ → List Chunk) (c : Call) (past : List Call) → AreAllowed s (c ∷ past) → AreAll s chunks (c ∷ past) → AreAll s chunks past
all_before s chunks (Admit k l) past a all i h = let r = admit_away s i k l (after_calls s past) (free_place s (after_calls s past).seats) a.0.fresh h in ap chunks_taken (sym r.taken) ∙ all i r.away
all_before s chunks (Hush k) past a all i h = all i (record { came = h.came; away = h.away })
all_before s chunks (Leave k) past a all i h = let r = leave_away s i k (after_calls s past) h in ap chunks_taken (sym r.taken) ∙ all i r.away
all_before s chunks (Offer c) past a all i h = let r = offer_away s i c (after_calls s past) h in ap chunks_taken (sym r.taken) ∙ all i r.away
all_before s chunks (Turn now) past a all i h = all i (record { came = h.came; away = h.away })

-- a leg that leaves now
pub left_away : (s : Setup) (k : ℕ) (table : Table) → table.seats.came k ≡ true → may_leave s k table ≡ true → IsAway k (departed s k table)
left_away s k table q m = subst (IsAway k) (sym (ap (λ b. cond {A = Table} b (freed k table) table) m)) (record { came = q; away = set_same table.seats.place k None k refl })

-- one that never came leaves nothing
pub departed_idle : (s : Setup) (i : ℕ) (table : Table) → Seated s table.seats → (table.seats.came i && may_leave s i table) ≡ false → departed s i table ≡ table
departed_idle s i table h q = leave_with s i table (λ (t : Table). t ≡ table) refl (λ m. freed_same i table (none_of s table.seats i h (fresh (table.seats.came i) refl m)))
  where
    fresh : (b : Bool) → table.seats.came i ≡ b → may_leave s i table ≡ true → table.seats.came i ≡ false
    fresh false e m = e
    fresh true e m = absurd (true≢false (sym (and_from (table.seats.came i) (may_leave s i table) e m) ∙ q))
