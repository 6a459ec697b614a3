-- what a change of one file does to what is under each name
use Rattle.std.proofs.Common.{◌≡◌, ◌≢◌, ◌⊎◌, inl, inr, ℕ, Bool, true, false, List, [], ◌∷◌, ◌++◌, get_or, refl, sym, ◌∙◌, ap, subst, Option, Some, None, nat_eq, MatchBool}
use Rattle.std.specs.List.{position}
use Rattle.std.proofs.Math.ListN.{set}
use Rattle.std.specs.Cmp.Lexicographic.{pointwise, same_text, told_text, nat_list_eq_equiv}
use Rattle.std.proofs.lemmas.List.Quantifiers.{position-Some}
use Rattle.rtt_io.specs.declared.mem_files.MemFile.{MemFile}
use Rattle.rtt_io.specs.Files.{is_named, file_of}
use Rattle.std.proofs.lemmas.List.Recursion.{found_at, found_set_other, found_push_other}
use Rattle.rtt_io.proofs.Keyed.{Changed, first_set, first_push, first_absent}

-- two names are the same, or they are not
pub told : (a b : List ℕ) → (a ≡ b) ⊎ (a ≢ b)
told a b = go (pointwise nat_eq a b) (told_text a b (pointwise nat_eq a b) refl)
  where
    go : (r : Bool) → MatchBool r (a ≡ b) (a ≢ b) → (a ≡ b) ⊎ (a ≢ b)
    go true h = inl h
    go false h = inr h

-- another name is not borne
pub not_named : (a b : List ℕ) → b ≢ a → pointwise nat_eq a b ≡ false
not_named a b h = go (pointwise nat_eq a b) refl
  where
    go : (r : Bool) → pointwise nat_eq a b ≡ r → pointwise nat_eq a b ≡ false
    go true e = absurd (h (sym (same_text a b (sym e))))
    go false e = e

pub named : (a b : List ℕ) → a ≡ b → pointwise nat_eq a b ≡ true
named a b e = rw e (nat_list_eq_equiv.refl b)

-- of all names one alone has another file than before
abbrev pub Changes : List MemFile → List MemFile → List ℕ → Option MemFile → MemFile → Type 0
Changes old new key before after = Changed file_of old new key before after

-- the first file of the name is put in place of another of it
changes : (xs : List MemFile) (key : List ℕ) (i : ℕ) (g d : MemFile) → position (is_named key) xs ≡ Some i → g.name ≡ (get_or xs i d).name → Changes xs (set xs i g) key (Some (get_or xs i d)) g
changes xs key i g d found same =
    let at = position-Some (is_named key) xs i d found in
    let had : (get_or xs i d).name ≡ key = same_text (get_or xs i d).name key (sym at.1) in
    let gives : g.name ≡ key = same ∙ had in
    record {
      was = found_at (λ ys. file_of ys key) (is_named key) Some None refl (λ x ys. refl) xs i d at.0 at.2 at.1;
      becomes = first_set (λ ys. file_of ys key) (is_named key) refl (λ x ys. refl) xs i g d at.0 (named g.name key gives) at.2;
      others = λ k h. found_set_other (λ ys. file_of ys k) (is_named k) Some None refl (λ x ys. refl) xs i g d (not_named (get_or xs i d).name k (λ e. h (e ∙ had))) (not_named g.name k (λ e. h (e ∙ gives)));
    }

pub written : (xs : List MemFile) (key : List ℕ) (i : ℕ) (f g : MemFile) → Some i ≡ position (is_named key) xs → f ≡ get_or xs i f → g.name ≡ f.name → Changes xs (set xs i g) key (Some f) g
written xs key i f g found is same =
    let P : MemFile → Type 0 = λ x. Changes xs (set xs i g) key (Some x) g in
    subst P (sym is) (changes xs key i g f (sym found) (same ∙ ap (λ (x : MemFile). x.name) is))

-- the first of a new name is put behind the others
pub added : (xs : List MemFile) (key : List ℕ) (g : MemFile) → file_of xs key ≡ None → g.name ≡ key → Changes xs (xs ++ g ∷ []) key None g
added xs key g none gives = record {
  was = none;
  becomes = first_push (λ ys. file_of ys key) (is_named key) refl (λ x ys. refl) xs g (named g.name key gives) none;
  others = λ k h. found_push_other (λ ys. file_of ys k) (is_named k) Some None refl (λ x ys. refl) xs g (not_named g.name k (λ e. h (e ∙ gives)));
}

pub unplaced : (xs : List MemFile) (key : List ℕ) → None ≡ position (is_named key) xs → file_of xs key ≡ None
unplaced xs key e = first_absent (λ ys. file_of ys key) (is_named key) refl (λ x ys. refl) xs e
