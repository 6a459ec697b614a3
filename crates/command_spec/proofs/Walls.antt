-- Characters that take back nothing of what stands before them.
use Rattle.std.proofs.Common.{◌≡◌, ℕ, suc, ◌+◌, ◌-◌, ◌<◌, ◌≤◌, Bool, true, false, ◌||◌, ◌&&◌, not, cond, nat_lt, filter, List, [], ◌∷◌, ◌++◌, refl, sym, ap, ap₂, subst, ◌∙◌, arith, append_assoc, append-nil}
use Rattle.std.specs.Prelude.{◌==◌}
use Rattle.std.specs.List.{list_any}
use Rattle.std.proofs.lemmas.Bool.{eqb-true, eqb-false, or_parts, true≢false}
use Rattle.std.proofs.lemmas.List.Elements.{filter-append}
use Rattle.view_spec.specs.declared.classes.CharClass.{CharClass}
use Rattle.view_spec.specs.declared.classes.CharClass.TheVariants.{Erase, Bell, NewLine, Silent, Marker, Print}
use Rattle.view_spec.specs.Characters.{class_of, is_erasable, is_erasure, is_marker, is_new_line, is_print}
use Rattle.view_spec.specs.Shown.{begins_with_lf, ends_with_cr, loose, signs, stays, survivors, takes_back}
use Rattle.view_spec.proofs.Erasing.{Erases, appended, cond_append, one_of, reach, reach_erased, reach_stands, reach_stays, takes_back_reach}
use Rattle.view_spec.proofs.Signs.{signs-append, signs-cr_lf}
use Rattle.view_spec.proofs.Steps.{ends_with_cr-last, erase_code, erase_line, lf_class, signs_letter, signs_new_line}
use Rattle.mixer_spec.specs.Composed.{from_seen, is_erased, is_seen, own_part}
use Rattle.command_spec.specs.Named.{prints}
use Rattle.command_spec.specs.Seen.{stand}

-- ---- two texts, of which the second takes back nothing of the first
pub reach_append : (xs ys : List ℕ) → reach ys ≡ 0 → reach (xs ++ ys) ≡ reach xs
reach_append [] ys e = e
reach_append (c ∷ xs) ys e = ap (λ (n : ℕ). cond (is_marker (class_of c)) 0 (cond (is_erasure (class_of c)) (suc n) (cond (is_erasable (class_of c)) (n - 1) n))) (reach_append xs ys e)

takes_back_append : (xs ys : List ℕ) → reach ys ≡ 0 → takes_back (xs ++ ys) ≡ takes_back xs
takes_back_append xs ys e = takes_back_reach (xs ++ ys) ∙ (ap (λ n. nat_lt 0 n) (reach_append xs ys e) ∙ sym (takes_back_reach xs))

pub survivors_append : (xs ys : List ℕ) → reach ys ≡ 0 → survivors (xs ++ ys) ≡ survivors xs ++ survivors ys
survivors_append [] ys e = refl
survivors_append (c ∷ xs) ys e =
    ap₂ (λ b l. cond (is_marker (class_of c) || (is_erasable (class_of c) && not b)) (c ∷ l) l) (takes_back_append xs ys e) (survivors_append xs ys e)
    ∙ cond_append (stays c xs) c (survivors xs) (survivors ys)

-- ---- signs
pub own_none : (cr : Bool) → own_part cr [] ≡ []
own_none true = refl
own_none false = refl

merged : (xs ys : List ℕ) → ends_with_cr xs ≡ true → signs (xs ++ 0x0A ∷ ys) ≡ signs xs ++ signs ys
merged xs ys e =
    ap signs (sym (append_assoc xs (0x0A ∷ []) ys))
    ∙ (signs-append (xs ++ 0x0A ∷ []) ys (ap (λ b. b && begins_with_lf ys) (ends_with_cr-last xs 0x0A))
    ∙ ap (λ l. l ++ signs ys) (signs-cr_lf xs e))

pub lf_reach : (xs : List ℕ) → reach (0x0A ∷ xs) ≡ reach xs - 1
lf_reach xs = reach_stands 0x0A xs (record { unmarked = ap is_marker lf_class; stays = ap is_erasure lf_class; stands = ap is_erasable lf_class })

-- a new line before what takes back nothing
pub own_closed : (cr : Bool) (xs : List ℕ) → reach (signs (own_part cr xs)) ≡ 0 → reach (signs xs) ≡ 0
own_closed cr [] e = refl
own_closed cr (x ∷ xs) e = go (cr && (x == 0x0A)) refl e
  where
    lf : (a b : Bool) → (x == 0x0A) ≡ b → (a && b) ≡ true → reach (signs xs) ≡ 0 → reach (signs (x ∷ xs)) ≡ 0
    lf true true q r f = subst (λ (z : ℕ). reach (signs (z ∷ xs)) ≡ 0) (sym (eqb-true x 0x0A q)) (lf_reach (signs xs) ∙ omega (arith, f))
    lf true false q r f = absurd (true≢false (sym r))
    lf false b q r f = absurd (true≢false (sym r))

    go : (b : Bool) → (cr && (x == 0x0A)) ≡ b → reach (signs (cond b xs (x ∷ xs))) ≡ 0 → reach (signs (x ∷ xs)) ≡ 0
    go true p f = lf cr (x == 0x0A) refl p f
    go false p f = f

-- ---- two texts
-- that ends with CR
record EndsSo (xs : List ℕ) : Type 0 where
  front : List ℕ
  is : xs ≡ front ++ 0x0D ∷ []

cut_cr : (xs : List ℕ) → ends_with_cr xs ≡ true → EndsSo xs
cut_cr [] e = absurd (true≢false (sym e))
cut_cr (x ∷ []) e = record { front = []; is = ap (λ (z : ℕ). z ∷ []) (eqb-true x 0x0D e) }
cut_cr (x ∷ y ∷ xs) e = let r = cut_cr (y ∷ xs) e in record { front = x ∷ r.front; is = ap (λ l. x ∷ l) r.is }

cr_signs : (t : List ℕ) → signs (t ++ 0x0D ∷ []) ≡ signs t ++ 0x0A ∷ []
cr_signs t = signs_new_line t 0x0D refl refl

-- The second takes back nothing of the first but a new line that is a part of both.
pub record Parted (xs ys : List ℕ) : Type 0 where
  pub front : List ℕ
  pub back : List ℕ
  pub is : signs (xs ++ ys) ≡ front ++ back
  pub closed : reach back ≡ 0
  pub first : reach front ≡ reach (signs xs)
  pub kept : filter prints (survivors front) ≡ filter prints (stand xs)
  pub second : signs ys ≡ back

lf_unseen : prints 0x0A ≡ false
lf_unseen = ap is_print lf_class

pub part_at : (xs ys : List ℕ) → reach (signs ys) ≡ 0 → Parted xs ys
part_at xs [] e = record { front = signs xs; back = []; is = ap signs (append-nil xs) ∙ sym (append-nil (signs xs)); closed = refl; first = refl; kept = refl; second = refl }
part_at xs (y ∷ ys) e = go (ends_with_cr xs) (y == 0x0A) refl refl
  where
    apart : (ends_with_cr xs && (y == 0x0A)) ≡ false → Parted xs (y ∷ ys)
    apart p = record { front = signs xs; back = signs (y ∷ ys); is = signs-append xs (y ∷ ys) p; closed = e; first = refl; kept = refl; second = refl }

    lf : ends_with_cr xs ≡ true → reach (signs (0x0A ∷ ys)) ≡ 0 → Parted xs (0x0A ∷ ys)
    lf p f =
        let r = cut_cr xs p in
        let t = r.front in
        let s : signs xs ≡ signs t ++ 0x0A ∷ [] = ap signs r.is ∙ cr_signs t in
        record {
          front = signs t;
          back = 0x0A ∷ signs ys;
          is = merged xs ys p ∙ (ap (λ l. l ++ signs ys) s ∙ append_assoc (signs t) (0x0A ∷ []) (signs ys));
          closed = f;
          first = sym (ap reach s ∙ reach_stays (signs t) 0x0A (ap is_erasure lf_class));
          kept = sym (ap (λ l. filter prints (survivors l)) s
              ∙ (ap (filter prints) (appended (signs t) 0x0A (ap is_erasable lf_class))
              ∙ (filter-append prints (survivors (signs t)) (0x0A ∷ [])
              ∙ (ap (λ b. filter prints (survivors (signs t)) ++ cond b (0x0A ∷ []) []) lf_unseen ∙ append-nil (filter prints (survivors (signs t)))))));
          second = refl;
        }

    go : (a b : Bool) → ends_with_cr xs ≡ a → (y == 0x0A) ≡ b → Parted xs (y ∷ ys)
    go true true p q =
        let same = eqb-true y 0x0A q in
        subst (λ (z : ℕ). Parted xs (z ∷ ys)) (sym same) (lf p (subst (λ (z : ℕ). reach (signs (z ∷ ys)) ≡ 0) same e))
    go true false p q = apart (ap₂ (λ a b. a && b) p q)
    go false b p q = apart (ap (λ a. a && (y == 0x0A)) p)

pub closed_both : (xs ys : List ℕ) → reach (signs xs) ≡ 0 → reach (signs ys) ≡ 0 → reach (signs (xs ++ ys)) ≡ 0
closed_both xs ys e f = let r = part_at xs ys f in ap reach r.is ∙ (reach_append r.front r.back r.closed ∙ (r.first ∙ e))

-- ---- what doesn't print
none_signs : (ys : List ℕ) → list_any prints ys ≡ false → list_any prints (signs ys) ≡ false
none_signs [] e = refl
none_signs (y ∷ ys) e = let p = or_parts (prints y) (list_any prints ys) e in go (y == 0x0D && begins_with_lf ys) (is_new_line y) p.0 (none_signs ys p.1)
  where
    go : (b n : Bool) → prints y ≡ false → list_any prints (signs ys) ≡ false → list_any prints (cond b (signs ys) (cond n (0x0A ∷ signs ys) (y ∷ signs ys))) ≡ false
    go true n p h = h
    go false true p h = ap (λ b. b || list_any prints (signs ys)) lf_unseen ∙ h
    go false false p h = ap (λ b. b || list_any prints (signs ys)) p ∙ h

none_survive : (zs : List ℕ) → list_any prints zs ≡ false → filter prints (survivors zs) ≡ []
none_survive [] e = refl
none_survive (z ∷ zs) e = let p = or_parts (prints z) (list_any prints zs) e in go (stays z zs) p.0 (none_survive zs p.1)
  where
    go : (b : Bool) → prints z ≡ false → filter prints (survivors zs) ≡ [] → filter prints (cond b (z ∷ survivors zs) (survivors zs)) ≡ []
    go true p h = ap (λ b. cond b (z ∷ filter prints (survivors zs)) (filter prints (survivors zs))) p ∙ h
    go false p h = h

pub none_stand : (ys : List ℕ) → list_any prints ys ≡ false → filter prints (stand ys) ≡ []
none_stand ys e = none_survive (signs ys) (none_signs ys e)

-- what prints of the first stays, where the second takes back nothing, and nothing of it prints
pub kept_both : (xs ys : List ℕ) → reach (signs ys) ≡ 0 → list_any prints ys ≡ false → filter prints (stand (xs ++ ys)) ≡ filter prints (stand xs)
kept_both xs ys e u =
    let r = part_at xs ys e in
    ap (λ l. filter prints (survivors l)) r.is
    ∙ (ap (filter prints) (survivors_append r.front r.back r.closed)
    ∙ (filter-append prints (survivors r.front) (survivors r.back)
    ∙ (ap (λ l. filter prints (survivors r.front) ++ l) (ap (λ l. filter prints (survivors l)) (sym r.second) ∙ none_stand ys u)
    ∙ (append-nil (filter prints (survivors r.front)) ∙ r.kept))))

-- ---- one more character
one_of_some : (xs : List ℕ) → (xs ≡ [] → ⊥) → one_of xs ≡ 1
one_of_some [] f = absurd (f refl)
one_of_some (x ∷ xs) f = refl

erasure_class : (k : CharClass) → is_erasure k ≡ true → k ≡ Erase
erasure_class Erase e = refl
erasure_class Bell e = absurd (true≢false (sym e))
erasure_class NewLine e = absurd (true≢false (sym e))
erasure_class Silent e = absurd (true≢false (sym e))
erasure_class Marker e = absurd (true≢false (sym e))
erasure_class Print e = absurd (true≢false (sym e))

-- an erasure needs something before it that it takes back
pub push_closed : (cs : List ℕ) (c : ℕ) → reach (signs cs) ≡ 0 → (class_of c ≡ Erase → stand cs ≡ [] → ⊥) → reach (signs (cs ++ c ∷ [])) ≡ 0
push_closed cs c e f = go (is_new_line c) (is_erasure (class_of c)) refl refl
  where
    line : (b : Bool) → ((c == 0x0A) && ends_with_cr cs) ≡ b → is_new_line c ≡ true → reach (signs (cs ++ c ∷ [])) ≡ 0
    line false p q = ap reach (signs_new_line cs c q p) ∙ (reach_stays (signs cs) 0x0A (ap is_erasure lf_class) ∙ e)
    line true p q = both (c == 0x0A) (ends_with_cr cs) refl refl p
      where
        both : (x y : Bool) → (c == 0x0A) ≡ x → ends_with_cr cs ≡ y → (x && y) ≡ true → reach (signs (cs ++ c ∷ [])) ≡ 0
        both true true p q r = subst (λ (z : ℕ). reach (signs (cs ++ z ∷ [])) ≡ 0) (sym (eqb-true c 0x0A p)) (ap reach (signs-cr_lf cs q) ∙ e)
        both true false p q r = absurd (true≢false (sym r))
        both false y p q r = absurd (true≢false (sym r))

    erasure : class_of c ≡ Erase → reach (signs (cs ++ c ∷ [])) ≡ 0
    erasure k =
        let h : Erases (class_of c) = record { unmarked = ap is_marker k; erases = ap is_erasure k; stays = ap is_erasable k } in
        let r = reach_erased (signs cs) c h in
        let one = one_of_some (stand cs) (f k) in
        ap reach (signs_letter cs c (erase_line c k)) ∙ omega (arith, r, one, e)

    go : (n k : Bool) → is_new_line c ≡ n → is_erasure (class_of c) ≡ k → reach (signs (cs ++ c ∷ [])) ≡ 0
    go true k p q = line ((c == 0x0A) && ends_with_cr cs) refl p
    go false false p q = ap reach (signs_letter cs c p) ∙ (reach_stays (signs cs) c q ∙ e)
    go false true p q = erasure (erasure_class (class_of c) q)

-- ---- what goes ahead of a label
-- where something is left, something stands
pub not_erased : (own : List ℕ) → is_erased own ≡ false → stand own ≡ [] → ⊥
not_erased own e n = eqb-false (loose (stand own)) 0 e (ap loose n)

unseen_some : (cr : Bool) (run : List ℕ) (c : ℕ) → is_seen cr run c ≡ false → class_of c ≡ Erase → stand (own_part cr run) ≡ [] → ⊥
unseen_some cr run c e k = not_erased (own_part cr run) (left (is_print (class_of c)) (c == 0x08) (is_erased (own_part cr run)) (ap (λ (z : ℕ). z == 0x08) (erase_code c k)) e)
  where
    left : (p a b : Bool) → a ≡ true → (p || (a && b)) ≡ false → b ≡ false
    left false true b q e = e
    left false false b q e = absurd (true≢false (sym q))
    left true a b q e = absurd (true≢false e)

pub own_append : (cr : Bool) (xs ys : List ℕ) → (xs ≡ [] → ⊥) → own_part cr (xs ++ ys) ≡ own_part cr xs ++ ys
own_append cr [] ys n = absurd (n refl)
own_append cr (x ∷ xs) ys n = go (cr && (x == 0x0A))
  where
    go : (b : Bool) → cond b (xs ++ ys) (x ∷ xs ++ ys) ≡ cond b xs (x ∷ xs) ++ ys
    go true = refl
    go false = refl

own_push : (cr : Bool) (run : List ℕ) (c : ℕ) → is_seen cr run c ≡ false → reach (signs (own_part cr run)) ≡ 0 → reach (signs (own_part cr (run ++ c ∷ []))) ≡ 0
own_push cr [] c s e = go (cr && (c == 0x0A))
  where
    go : (b : Bool) → reach (signs (cond b [] (c ∷ []))) ≡ 0
    go true = refl
    go false = push_closed [] c refl (λ k n. unseen_some cr [] c s k (ap stand (own_none cr)))
own_push cr (r ∷ run) c s e =
    ap (λ l. reach (signs l)) (own_append cr (r ∷ run) (c ∷ []) (λ q. cc q))
    ∙ push_closed (own_part cr (r ∷ run)) c e (unseen_some cr (r ∷ run) c s)

-- where nothing is seen, nothing before is taken back
pub unseen_closed : (cr : Bool) (run xs : List ℕ) → reach (signs (own_part cr run)) ≡ 0 → from_seen cr run xs ≡ [] → reach (signs (own_part cr (run ++ xs))) ≡ 0
unseen_closed cr run [] e u = ap (λ l. reach (signs (own_part cr l))) (append-nil run) ∙ e
unseen_closed cr run (c ∷ xs) e u = go (is_seen cr run c) refl u (unseen_closed cr (run ++ c ∷ []) xs)
  where
    go : (b : Bool) → is_seen cr run c ≡ b → cond b (c ∷ xs) (from_seen cr (run ++ c ∷ []) xs) ≡ []
        → (reach (signs (own_part cr (run ++ c ∷ []))) ≡ 0 → from_seen cr (run ++ c ∷ []) xs ≡ [] → reach (signs (own_part cr ((run ++ c ∷ []) ++ xs))) ≡ 0)
        → reach (signs (own_part cr (run ++ c ∷ xs))) ≡ 0
    go true s v h = absurd (cc v)
    go false s v h = ap (λ l. reach (signs (own_part cr l))) (sym (append_assoc run (c ∷ []) xs)) ∙ h (own_push cr run c s e) v
