-- What a change of one entry does to what is under each port.
use Rattle.std.proofs.Common.{◌≡◌, ◌≢◌, ◌⊎◌, inl, inr, ℕ, true, false, List, [], ◌∷◌, ◌++◌, get_or, refl, sym, ◌∙◌, ap, subst, Option, Some, None, nat_eq}
use Rattle.std.specs.List.{position}
use Rattle.std.proofs.Math.ListN.{set}
use Rattle.std.proofs.lemmas.Bool.{eqb-true, eq-eqb}
use Rattle.std.proofs.lemmas.Bool.Decides.{eqb_tells}
use Rattle.std.proofs.lemmas.List.Quantifiers.{position-Some}
use Rattle.link_io.specs.declared.mem_ports.MemPort.{MemPort}
use Rattle.link_io.specs.MemPorts.{is_of, entry_of, opened_of}
use Rattle.std.proofs.lemmas.List.Recursion.{found_at, found_set_other, found_push_other}
use Rattle.rtt_io.proofs.Keyed.{Changed, first_set, first_push, first_absent}

-- two ports are the same, or they are not
pub told : (a b : ℕ) → (a ≡ b) ⊎ (a ≢ b)
told a b = elim (eqb_tells a b) [
  | inl same ↦ inl same.1
  | inr other ↦ inr other.1
]

not_of : (a b : ℕ) → b ≢ a → nat_eq a b ≡ false
not_of a b h = elim (eqb_tells a b) [
  | inl same ↦ absurd (h (sym same.1))
  | inr other ↦ other.0
]

-- of all ports one alone has another entry than before
abbrev pub Changes : List MemPort → List MemPort → ℕ → Option MemPort → MemPort → Type 0
Changes old new key before after = Changed entry_of old new key before after

-- the first entry of the port is put in place of another of it
changes : (xs : List MemPort) (key : ℕ) (i : ℕ) (g d : MemPort) → position (is_of key) xs ≡ Some i → g.number ≡ (get_or xs i d).number → Changes xs (set xs i g) key (Some (get_or xs i d)) g
changes xs key i g d found same =
    let at = position-Some (is_of key) xs i d found in
    let had : (get_or xs i d).number ≡ key = eqb-true (get_or xs i d).number key at.1 in
    let gives : g.number ≡ key = same ∙ had in
    record {
      was = found_at (λ ys. entry_of ys key) (is_of key) Some None refl (λ x ys. refl) xs i d at.0 at.2 at.1;
      becomes = first_set (λ ys. entry_of ys key) (is_of key) refl (λ x ys. refl) xs i g d at.0 (eq-eqb g.number key gives) at.2;
      others = λ k h. found_set_other (λ ys. entry_of ys k) (is_of k) Some None refl (λ x ys. refl) xs i g d (not_of (get_or xs i d).number k (λ e. h (e ∙ had))) (not_of g.number k (λ e. h (e ∙ gives)));
    }

pub written : (xs : List MemPort) (key : ℕ) (i : ℕ) (f g : MemPort) → Some i ≡ position (is_of key) xs → f ≡ get_or xs i f → g.number ≡ f.number → Changes xs (set xs i g) key (Some f) g
written xs key i f g found is same =
    let P : MemPort → Type 0 = λ x. Changes xs (set xs i g) key (Some x) g in
    subst P (sym is) (changes xs key i g f (sym found) (same ∙ ap (λ (x : MemPort). x.number) is))

-- the first of a new port is put behind the others
pub added : (xs : List MemPort) (key : ℕ) (g : MemPort) → entry_of xs key ≡ None → g.number ≡ key → Changes xs (xs ++ g ∷ []) key None g
added xs key g none gives = record {
  was = none;
  becomes = first_push (λ ys. entry_of ys key) (is_of key) refl (λ x ys. refl) xs g (eq-eqb g.number key gives) none;
  others = λ k h. found_push_other (λ ys. entry_of ys k) (is_of k) Some None refl (λ x ys. refl) xs g (not_of g.number k (λ e. h (e ∙ gives)));
}

pub unplaced : (xs : List MemPort) (key : ℕ) → None ≡ position (is_of key) xs → entry_of xs key ≡ None
unplaced xs key e = first_absent (λ ys. entry_of ys key) (is_of key) refl (λ x ys. refl) xs e

-- the entry at its place is the one of the port
pub found : (es : List MemPort) (port i : ℕ) (f : MemPort) → Some i ≡ position (is_of port) es → f ≡ get_or es i f → entry_of es port ≡ Some f
found es port i f at is = (written es port i f f at is refl).was

-- the port that has a place was opened
pub placed : (es : List MemPort) (port i : ℕ) → Some i ≡ position (is_of port) es → opened_of es port ≡ true
placed [] port i found = absurd (cc)
placed (e ∷ es) port i found =
    let at = position-Some (is_of port) (e ∷ es) i e (sym found) in
    rw (found_at (λ ys. entry_of ys port) (is_of port) Some None refl (λ x ys. refl) (e ∷ es) i e at.0 at.2 at.1) refl

-- a port that was opened stays so
pub stay_opened : {old new : List MemPort} {port : ℕ} {before : Option MemPort} {after : MemPort} → Changes old new port before after → (p : ℕ) → opened_of old p ≡ true → opened_of new p ≡ true
stay_opened {port = port} c p h = elim (told p port) [
  | inl same ↦ rw (same, c.becomes) refl
  | inr other ↦ rw (c.others p other) h
]
