-- What a turn sends to one terminal is of its new entry.
use Rattle.std.proofs.Common.{◌≡◌, ℕ, zero, suc, ◌<◌, ◌≤◌, Bool, inl, inr, List, [], ◌∷◌, ◌++◌, map, refl, ap, ◌∙◌, arith}
use Rattle.std.specs.Prelude.{◌==◌, filter}
use Rattle.std.proofs.lemmas.Bool.{cases_eq, eq-eqb, ne_eqb}
use Rattle.std.proofs.lemmas.List.Elements.{filter-append}
use Rattle.mixer_spec.specs.Setups.{Setup}
use Rattle.mixer_spec.specs.Table.{TurnEntry, Table, turned}
use Rattle.mixer_spec.proofs.Lists.{nil}
use Rattle.terminal_scheduler.specs.Turns.{new_entry}
use Rattle.mixer.specs.declared.batches.Post.{Post}
use Rattle.mixer.specs.Turns.{post_of, posts_between, posts_at}

abbrev to : ℕ → Post → Bool
to j p = p.terminal == j

filter_own : (s : Setup) (j : ℕ) (es : List TurnEntry) → filter (to j) (map (post_of s j) es) ≡ map (post_of s j) es
filter_own s j [] = refl
filter_own s j (e ∷ es) = rw (eq-eqb j j refl) (ap (λ zs. post_of s j e ∷ zs) (filter_own s j es))

filter_other : (s : Setup) (j n : ℕ) (es : List TurnEntry) → (n ≡ j → ⊥) → filter (to j) (map (post_of s n) es) ≡ []
filter_other s j n [] d = refl
filter_other s j n (e ∷ es) d = rw (ne_eqb n j d) (filter_other s j n es d)

abbrev entry_at : Table → Table → ℕ → List TurnEntry
entry_at before after n = new_entry (before.terminals n).past (after.terminals n).past

none_to : (s : Setup) (before after : Table) (n j : ℕ) → n ≤ j → filter (to j) (posts_between s before after n) ≡ []
none_to s before after zero j l = refl
none_to s before after (suc n) j l =
    filter-append (to j) (posts_between s before after n) (map (post_of s n) (entry_at before after n))
    ∙ (ap (λ xs. xs ++ filter (to j) (map (post_of s n) (entry_at before after n))) (none_to s before after n j (omega arith)) ∙ filter_other s j n (entry_at before after n) (λ e. omega (arith, l, e)))

one_to : (s : Setup) (before after : Table) (n j : ℕ) → j < n → filter (to j) (posts_between s before after n) ≡ map (post_of s j) (entry_at before after j)
one_to s before after zero j l = absurd (omega arith)
one_to s before after (suc n) j l =
    filter-append (to j) (posts_between s before after n) (map (post_of s n) (entry_at before after n))
    ∙ elim (cases_eq n j) [
      | inl e ↦
          ap (λ xs. xs ++ filter (to j) (map (post_of s n) (entry_at before after n))) (none_to s before after n j (omega (arith, e)))
          ∙ (ap (λ m. filter (to j) (map (post_of s m) (entry_at before after m))) e ∙ filter_own s j (entry_at before after j))
      | inr d ↦
          ap (λ xs. filter (to j) (posts_between s before after n) ++ xs) (filter_other s j n (entry_at before after n) d)
          ∙ (nil (filter (to j) (posts_between s before after n)) ∙ one_to s before after n j (omega (arith, l, d)))
    ]

pub entered_to : (s : Setup) (now j : ℕ) (table : Table) → j < s.legs
    → filter (λ p. p.terminal == j) (posts_at s now table) ≡ map (post_of s j) (new_entry (table.terminals j).past ((turned s now table).terminals j).past)
entered_to s now j table l = one_to s table (turned s now table) s.legs j l
