-- What is sent behind a label takes back nothing of what stands before it.
use Rattle.std.proofs.Common.{◌≡◌, ℕ, ◌+◌, ◌-◌, ◌<◌, ◌≤◌, Bool, true, false, ◌&&◌, cond, List, [], ◌∷◌, ◌++◌, refl, sym, ap, ap₂, subst, ◌∙◌, arith, append_assoc, append-nil}
use Rattle.std.specs.Prelude.{◌==◌}
use Rattle.std.proofs.lemmas.Bool.{eqb-true, eqb-false, true≢false}
use Rattle.view_spec.specs.declared.classes.CharClass.{CharClass}
use Rattle.view_spec.specs.declared.classes.CharClass.TheVariants.{Erase, Bell, NewLine, Silent, Marker, Print}
use Rattle.view_spec.specs.Characters.{class_of, is_marker}
use Rattle.view_spec.specs.Shown.{ends_with_cr, loose, one_back, signs, survivors}
use Rattle.view_spec.specs.TextViews.{without_bracket}
use Rattle.view_spec.proofs.Erasing.{loose-append, loose-one_back, reach}
use Rattle.view_spec.proofs.Lines.{not_cr}
use Rattle.view_spec.proofs.Steps.{ends_with_cr-last, erase_code, lf_class, plain_class, print_line, stands-bell, stands-cr_lf, stands-erase, stands-marker, stands-new_line, stands-print, stands-silent}
use Rattle.mixer_spec.specs.Composed.{is_erased, sent_one, written}
use Rattle.command_spec.specs.Seen.{stand}
use Rattle.command_spec.proofs.Walls.{not_erased, push_closed}

-- The characters of a run behind its label, and what is sent of them: as many can be taken back there, or more.
pub record Follows (own sent : List ℕ) : Type 0 where
  pub closed : reach (signs sent) ≡ 0
  pub more : loose (stand own) ≤ loose (stand sent)
  pub cr : ends_with_cr sent ≡ ends_with_cr own

-- ---- how many can be taken back with one character more
loose_print : (cs : List ℕ) (c : ℕ) → class_of c ≡ Print → loose (stand (cs ++ c ∷ [])) ≡ loose (stand cs) + 1
loose_print cs c k = ap loose (stands-print cs c k) ∙ (loose-append 0 (stand cs) c ∙ ap (λ b. cond b 0 (loose (stand cs) + 1)) (ap is_marker k))

loose_marker : (cs : List ℕ) (c : ℕ) → class_of c ≡ Marker → loose (stand (cs ++ c ∷ [])) ≡ 0
loose_marker cs c k = ap loose (stands-marker cs c k) ∙ (loose-append 0 (stand cs) c ∙ ap (λ b. cond b 0 (loose (stand cs) + 1)) (ap is_marker k))

loose_line : (cs : List ℕ) (c : ℕ) → class_of c ≡ NewLine → ((c == 0x0A) && ends_with_cr cs) ≡ false → loose (stand (cs ++ c ∷ [])) ≡ loose (stand cs) + 1
loose_line cs c k e = ap loose (stands-new_line cs c k e) ∙ (loose-append 0 (stand cs) 0x0A ∙ ap (λ b. cond b 0 (loose (stand cs) + 1)) (ap is_marker lf_class))

loose_erase : (cs : List ℕ) (c : ℕ) → class_of c ≡ Erase → loose (stand (cs ++ c ∷ [])) ≡ loose (stand cs) - 1
loose_erase cs c k = ap loose (stands-erase cs c k) ∙ loose-one_back (stand cs)

-- the same character behind both
same_more : (own sent : List ℕ) (c : ℕ) → ends_with_cr sent ≡ ends_with_cr own → loose (stand own) ≤ loose (stand sent) → loose (stand (own ++ c ∷ [])) ≤ loose (stand (sent ++ c ∷ []))
same_more own sent c r l = go (class_of c) refl
  where
    line : (b : Bool) → ((c == 0x0A) && ends_with_cr own) ≡ b → class_of c ≡ NewLine → loose (stand (own ++ c ∷ [])) ≤ loose (stand (sent ++ c ∷ []))
    line false e k = omega (arith, l, loose_line own c k e, loose_line sent c k (ap (λ b. (c == 0x0A) && b) r ∙ e))
    line true e k = both (c == 0x0A) (ends_with_cr own) refl refl e
      where
        both : (x y : Bool) → (c == 0x0A) ≡ x → ends_with_cr own ≡ y → (x && y) ≡ true → loose (stand (own ++ c ∷ [])) ≤ loose (stand (sent ++ c ∷ []))
        both true true p q e = subst (λ (z : ℕ). loose (stand (own ++ z ∷ [])) ≤ loose (stand (sent ++ z ∷ []))) (sym (eqb-true c 0x0A p))
            (omega (arith, l, ap loose (stands-cr_lf own q), ap loose (stands-cr_lf sent (r ∙ q))))
        both true false p q e = absurd (true≢false (sym e))
        both false y p q e = absurd (true≢false (sym e))

    go : (k : CharClass) → class_of c ≡ k → loose (stand (own ++ c ∷ [])) ≤ loose (stand (sent ++ c ∷ []))
    go Erase k = omega (arith, l, loose_erase own c k, loose_erase sent c k)
    go Bell k = omega (arith, l, ap loose (stands-bell own c k), ap loose (stands-bell sent c k))
    go Silent k = omega (arith, l, ap loose (stands-silent own c k), ap loose (stands-silent sent c k))
    go Marker k = omega (arith, loose_marker own c k)
    go Print k = omega (arith, l, loose_print own c k, loose_print sent c k)
    go NewLine k = line ((c == 0x0A) && ends_with_cr own) refl k

same_cr : (own sent : List ℕ) (c d : ℕ) → (d == 0x0D) ≡ (c == 0x0D) → ends_with_cr (sent ++ d ∷ []) ≡ ends_with_cr (own ++ c ∷ [])
same_cr own sent c d e = ends_with_cr-last sent d ∙ (e ∙ sym (ends_with_cr-last own c))

print_cr : (c : ℕ) → class_of c ≡ Print → (c == 0x0D) ≡ false
print_cr c k = not_cr c (print_line c k)

print_closed : (sent : List ℕ) (d : ℕ) → reach (signs sent) ≡ 0 → class_of d ≡ Print → reach (signs (sent ++ d ∷ [])) ≡ 0
print_closed sent d e k = push_closed sent d e (λ q. absurd (let x : Print ≡ Erase = sym k ∙ q in cc x))

-- a character that prints in place of another one
print_for : (own sent : List ℕ) (c d : ℕ) → class_of c ≡ Print → class_of d ≡ Print → Follows own sent → Follows (own ++ c ∷ []) (sent ++ d ∷ [])
print_for own sent c d k l f = record {
  closed = print_closed sent d f.closed l;
  more = omega (arith, f.more, loose_print own c k, loose_print sent d l);
  cr = same_cr own sent c d (print_cr d l ∙ sym (print_cr c k));
}

-- `X` for an erasure that finds nothing
x_class : class_of 0x58 ≡ Print
x_class = plain_class 0x58 (omega arith) (omega arith)

erase_class : class_of 0x08 ≡ Erase
unfolding class_of
erase_class = refl

bracket_classes : (class_of 0x5B ≡ Print) × (class_of 0x5D ≡ Print) × (class_of 0xFF3B ≡ Print) × (class_of 0xFF3D ≡ Print)
unfolding class_of
bracket_classes = (refl, refl, refl, refl)

parenthesis_classes : (class_of 0x28 ≡ Print) × (class_of 0x29 ≡ Print) × (class_of 0xFF08 ≡ Print) × (class_of 0xFF09 ≡ Print)
unfolding class_of
parenthesis_classes = (refl, refl, refl, refl)

x_for : (own sent : List ℕ) → Follows own sent → Follows (own ++ 0x08 ∷ []) (sent ++ 0x58 ∷ [])
x_for own sent f = record {
  closed = print_closed sent 0x58 f.closed x_class;
  more = omega (arith, f.more, loose_erase own 0x08 erase_class, loose_print sent 0x58 x_class);
  cr = same_cr own sent 0x08 0x58 refl;
}

-- the same character, where an erasure finds something
same_for : (own sent : List ℕ) (c : ℕ) → (class_of c ≡ Erase → is_erased own ≡ false) → Follows own sent → Follows (own ++ c ∷ []) (sent ++ c ∷ [])
same_for own sent c h f = record {
  closed = push_closed sent c f.closed (λ k n. finds (eqb-false (loose (stand own)) 0 (h k)) (ap loose n));
  more = same_more own sent c f.cr f.more;
  cr = same_cr own sent c c refl;
}
  where
    finds : (loose (stand own) ≡ 0 → ⊥) → loose (stand sent) ≡ 0 → ⊥
    finds n e = n (omega (arith, e, f.more))

-- ---- what is sent
sent_for : (own sent : List ℕ) (c : ℕ) → Follows own sent → Follows (own ++ c ∷ []) (sent ++ sent_one own c ∷ [])
sent_for own sent c f = go (c == 0x08) (is_erased own) refl refl
  where
    put : ℕ → ℕ → Type 0
    put c d = Follows (own ++ c ∷ []) (sent ++ d ∷ [])

    none : (c == 0x08) ≡ false → class_of c ≡ Erase → is_erased own ≡ false
    none p k = absurd (eqb-false c 0x08 p (erase_code c k))

    prints : (b d : ℕ) → class_of b ≡ Print → class_of d ≡ Print → (c == b) ≡ true → put c d
    prints b d k l e = print_for own sent c d (ap class_of (eqb-true c b e) ∙ k) l f

    other : (u v w x : Bool) → (c == 0x5B) ≡ u → (c == 0x5D) ≡ v → (c == 0xFF3B) ≡ w → (c == 0xFF3D) ≡ x → (class_of c ≡ Erase → is_erased own ≡ false)
        → put c (cond u 0x28 (cond v 0x29 (cond w 0xFF08 (cond x 0xFF09 c))))
    other true v w x p q r t h = prints 0x5B 0x28 bracket_classes.0 parenthesis_classes.0 p
    other false true w x p q r t h = prints 0x5D 0x29 bracket_classes.1 parenthesis_classes.1 q
    other false false true x p q r t h = prints 0xFF3B 0xFF08 bracket_classes.2 parenthesis_classes.2 r
    other false false false true p q r t h = prints 0xFF3D 0xFF09 bracket_classes.3 parenthesis_classes.3 t
    other false false false false p q r t h = same_for own sent c h f

    go : (a e : Bool) → (c == 0x08) ≡ a → is_erased own ≡ e → put c (cond (a && e) 0x58 (without_bracket c))
    go true true p q = subst (λ (z : ℕ). put z 0x58) (sym (eqb-true c 0x08 p)) (x_for own sent f)
    go true false p q = other (c == 0x5B) (c == 0x5D) (c == 0xFF3B) (c == 0xFF3D) refl refl refl refl (λ k. q)
    go false e p q = other (c == 0x5B) (c == 0x5D) (c == 0xFF3B) (c == 0xFF3D) refl refl refl refl (none p)

pub written_for : (own sent cs : List ℕ) → Follows own sent → Follows (own ++ cs) (sent ++ written own cs)
written_for own sent [] f = subst (λ (xs : List ℕ). Follows xs (sent ++ [])) (sym (append-nil own)) (subst (Follows own) (sym (append-nil sent)) f)
written_for own sent (c ∷ cs) f =
    subst (λ (xs : List ℕ). Follows xs (sent ++ written own (c ∷ cs))) (append_assoc own (c ∷ []) cs)
    (subst (Follows ((own ++ c ∷ []) ++ cs)) (append_assoc sent (sent_one own c ∷ []) (written (own ++ c ∷ []) cs))
    (written_for (own ++ c ∷ []) (sent ++ sent_one own c ∷ []) cs (sent_for own sent c f)))

pub follows_none : Follows [] []
follows_none = record { closed = refl; more = omega arith; cr = refl }

-- written in two parts
pub written_both : (own xs ys : List ℕ) → written own (xs ++ ys) ≡ written own xs ++ written (own ++ xs) ys
written_both own [] ys = ap (λ (zs : List ℕ). written zs ys) (sym (append-nil own))
written_both own (x ∷ xs) ys = ap (λ (zs : List ℕ). sent_one own x ∷ zs) (written_both (own ++ x ∷ []) xs ys ∙ ap (λ (zs : List ℕ). written (own ++ x ∷ []) xs ++ written zs ys) (append_assoc own (x ∷ []) xs))

-- so what is sent behind a label takes back nothing before it
pub written_closed : (typed : List ℕ) → reach (signs (written [] typed)) ≡ 0
written_closed typed = (written_for [] [] typed follows_none).closed
