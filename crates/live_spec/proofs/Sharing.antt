-- In a live run each terminal is given all that is taken of the other legs.
use Rattle.std.proofs.Common.{◌≡◌, ℕ, ◌<◌, true, inl, inr, Some, List, [], ◌∷◌, ◌++◌, refl, ap, subst, sym, ◌∙◌, not}
use Rattle.std.specs.Prelude.{◌&&◌, is_some, if◌then◌else◌}
use Rattle.std.proofs.lemmas.Bool.{cases_eq, ne_eqb}
use Rattle.stream_spec.specs.Ready.{Chunk}
use Rattle.mixer_spec.specs.Setups.{AllStay, IsAnother, Setup, is_before_end}
use Rattle.mixer_spec.specs.Table.{Seats, Table, Taken, chunks_taken, come_to, entered, given, is_given, is_seated, shared}
use Rattle.mixer_spec.specs.Legs.{picked}
use Rattle.mixer_spec.specs.Core.{Depart, Enter, Event, Push, Stop, Take, Turn, after}
use Rattle.mixer_spec.specs.Laws.{AllGiven}
use Rattle.mixer_spec.proofs.Lists.{set_other, set_same}
use Rattle.mixer_spec.proofs.Kept.{take_with}
use Rattle.mixer_spec.proofs.Parts.{core_parts}
use Rattle.mixer_spec.proofs.Seats.{enter_with}
use Rattle.stream_spec.specs.Links.{Takes}
use Rattle.live_spec.specs.Told.{Hearing}
use Rattle.live_spec.specs.Live.{AllSeated, AreLive, but_last}
use Rattle.mixer_spec.proofs.Staying.{more_given as one_more}

-- who holds a place listens
abbrev Listen : Seats → Type 0
Listen seats = (j : ℕ) → is_seated seats j ≡ true → seats.listens j ≡ true

-- each terminal was given what was taken of the others
abbrev AllShare : Setup → (ℕ → List Taken) → Type 0
AllShare s taken = (j i : ℕ) → j < s.legs → IsAnother i j → AllGiven true j (taken i)

record Shares (s : Setup) (table : Table) : Type 0 where
  listen : Listen table.seats
  given : AllShare s table.taken

-- ---- one comes
came_listen : (s : Setup) (i t : ℕ) (table : Table) (p : ℕ) → AllStay s → Listen table.seats → Listen (come_to i (is_before_end t (s.until i)) table (Some p)).seats
came_listen s i t table p st h j seated = elim (cases_eq j i) [
  | inl e ↦ set_same table.seats.listens i (is_before_end t (s.until i)) j e ∙ ap (is_before_end t) (st.until i)
  | inr n ↦ set_other table.seats.listens i (is_before_end t (s.until i)) j n ∙ h j (ap is_some (sym (set_other table.seats.place i (Some p) j n)) ∙ seated)
]

entered_shares : (s : Setup) (chunks : ℕ → List Chunk) (past : List Event) (i t : ℕ) → AllStay s → Shares s (after s chunks past).table → Shares s (entered s i t (after s chunks past).table)
entered_shares s chunks past i t st h =
    let v = (after s chunks past).table in
    enter_with s i t v (Shares s) (core_parts s chunks past).seated h (λ p new comes. record { listen = came_listen s i t v p st h.listen; given = h.given })

-- ---- one is taken
given_shares : (s : Setup) (i : ℕ) (c : Chunk) (table : Table) → AllSeated s table → Shares s table → Shares s (given i c table)
given_shares s i c table all h = record {
  listen = h.listen;
  given = λ j x low n. elim (cases_eq x i) [
    | inl e ↦ subst (AllGiven true j) (sym (set_same table.taken i (table.taken i ++ record { chunk = c; given = is_given table.seats i } ∷ []) x e))
        (one_more j (table.taken i) (record { chunk = c; given = is_given table.seats i }) (h.given j i low (λ z. n (e ∙ z)))
        (ap (λ b. not b && table.seats.listens j) (ne_eqb j i (λ z. n (e ∙ sym z))) ∙ h.listen j (all j low)))
    | inr e ↦ subst (AllGiven true j) (sym (set_other table.taken i (table.taken i ++ record { chunk = c; given = is_given table.seats i } ∷ []) x e)) (h.given j x low n)
  ];
}

-- ---- all events
live_shares : (s : Setup) (hears : ℕ → Hearing) (takes : ℕ → Takes) (chunks : ℕ → List Chunk) (counts : List (ℕ → ℕ)) (past : List Event) → AllStay s → AreLive s hears takes chunks counts past → Shares s (after s chunks past).table
live_shares s hears takes chunks counts [] st l = record { listen = λ j e. absurd (cc e); given = λ j i low n. tt }
live_shares s hears takes chunks counts (Enter i t ∷ past) st l = entered_shares s chunks past i t st (live_shares s hears takes chunks counts past st l.1)
live_shares s hears takes chunks counts (Stop i t ∷ past) st l = absurd l.0
live_shares s hears takes chunks counts (Depart i ∷ past) st l = absurd l.0
live_shares s hears takes chunks counts (Push i ∷ past) st l = let h = live_shares s hears takes chunks counts past st l.1 in record { listen = h.listen; given = h.given }
live_shares s hears takes chunks counts (Take i t ∷ past) st l =
    let w = after s chunks past in
    let h = live_shares s hears takes chunks counts past st l.1 in
    take_with s w i t (picked (w.legs i)) (picked (w.legs i)).hand (Shares s) h (λ c e. given_shares s i c w.table l.0 h)
live_shares s hears takes chunks counts (Turn now ∷ past) st l = let h = live_shares s hears takes chunks (but_last counts) past st l.1 in record { listen = h.listen; given = h.given }

all_shared : (j : ℕ) (xs : List Taken) → AllGiven true j xs → shared j xs ≡ chunks_taken xs
all_shared j [] a = refl
all_shared j (x ∷ xs) a = ap (λ b. (if b then x.chunk ∷ [] else []) ++ shared j xs) a.0 ∙ ap (λ cs. x.chunk ∷ cs) (all_shared j xs a.1)

pub shared_live : (s : Setup) (hears : ℕ → Hearing) (takes : ℕ → Takes) (chunks : ℕ → List Chunk) (counts : List (ℕ → ℕ)) (past : List Event) → AllStay s → AreLive s hears takes chunks counts past → (j i : ℕ) → j < s.legs → IsAnother i j
    → let w = (after s chunks past).table in
    shared j (w.taken i) ≡ chunks_taken (w.taken i)
shared_live s hears takes chunks counts past st l j i low n = all_shared j ((after s chunks past).table.taken i) ((live_shares s hears takes chunks counts past st l).given j i low n)
