-- A leg is told its name and its leaving.
use Rattle.std.proofs.Common.{◌≡◌, ℕ, zero, suc, ◌+◌, ◌<◌, ◌≤◌, ◌&&◌, Bool, true, false, cond, nat_lt, nat_le, Option, Some, None, List, [], ◌∷◌, length, get_or, refl, ap, sym, subst, ◌∙◌, arith}
use Rattle.std.specs.Prelude.{map, slice_get, ◌==◌, if◌then◌else◌}
use Rattle.std.specs.List.{list_all}
use Rattle.std.specs.Str.{byte}
use Rattle.std.proofs.lemmas.Bool.{lt-ltb, le-leb}
use Rattle.file_spec.specs.declared.limits.TheConstants.{LONGEST_NAME}
use Rattle.file_spec.specs.declared.conference_lines.LegLine.{LegLine}
use Rattle.file_spec.specs.declared.conference_lines.Stay.{Stay}
use Rattle.file_spec.specs.Conference.{change_leg, is_name, is_name_octet, with_stay}
use Rattle.file_spec.specs.Changes.{with_name}
use Rattle.command_spec.specs.Attending as attending
use Rattle.command_spec.specs.Attending.{as_name, is_free, left_so, named_so, told_legs, told_so, until_then}
use Rattle.rtt_attend.specs.declared.source_notes.SourceNotes.{SourceNotes}
use Rattle.rtt_attend.specs.Heard.{said_of}
use Rattle.rtt_attend.specs.Named.{or_nothing, says_in, shaped}

-- ---- a leg that is changed
pub unchanged : (k : ℕ) (ls : List LegLine) → change_leg (λ leg. leg) k ls ≡ ls
unchanged k [] = refl
unchanged zero (l ∷ ls) = refl
unchanged (suc k) (l ∷ ls) = ap (λ xs. l ∷ xs) (unchanged k ls)

pub changed_twice : (f g : LegLine → LegLine) (k : ℕ) (ls : List LegLine) → change_leg g k (change_leg f k ls) ≡ change_leg (λ leg. g (f leg)) k ls
changed_twice f g k [] = refl
changed_twice f g zero (l ∷ ls) = refl
changed_twice f g (suc k) (l ∷ ls) = ap (λ xs. l ∷ xs) (changed_twice f g k ls)

-- what makes the same of the leg that stands there changes the legs alike
pub changed_alike : (f g : LegLine → LegLine) (k : ℕ) (ls : List LegLine) (d : LegLine) → k < length ls → f (get_or ls k d) ≡ g (get_or ls k d) → change_leg f k ls ≡ change_leg g k ls
changed_alike f g k [] d low e = absurd (omega arith)
changed_alike f g zero (l ∷ ls) d low e = ap (λ x. x ∷ ls) e
changed_alike f g (suc k) (l ∷ ls) d low e = ap (λ xs. l ∷ xs) (changed_alike f g k ls d (omega arith) e)

-- ---- the shape of a name
pub no_shape : (text : List ℕ) → is_name text ≡ false → shaped text ≡ None
no_shape text e = ap (λ (b : Bool). cond b (Some text) None) e

pub not_name : (text : List ℕ) → list_all is_name_octet text ≡ false → is_name text ≡ false
not_name text e = go (nat_lt 0 (length text)) (nat_le (length text) LONGEST_NAME) (list_all is_name_octet text) e
  where
    go : (a b d : Bool) → d ≡ false → (a && (b && d)) ≡ false
    go true true d h = h
    go true false d h = refl
    go false b d h = refl

pub has_shape : (text : List ℕ) → 0 < length text → length text ≤ LONGEST_NAME → list_all is_name_octet text ≡ true → shaped text ≡ Some text
has_shape text some fits all =
    let e : is_name text ≡ true = rw (lt-ltb 0 (length text) some, le-leb (length text) LONGEST_NAME fits, all) refl in
    ap (λ (b : Bool). cond b (Some text) None) e

pub shaped_none : (text : List ℕ) → shaped text ≡ None → is_name text ≡ false
shaped_none text e = go (is_name text) e
  where
    go : (b : Bool) → cond b (Some text) None ≡ None → b ≡ false
    go true h = absurd (cc h)
    go false h = refl

pub shaped_some : (text name : List ℕ) → shaped text ≡ Some name → (is_name text ≡ true) × (name ≡ text)
shaped_some text name e = go (is_name text) e
  where
    go : (b : Bool) → cond b (Some text) None ≡ Some name → (b ≡ true) × (name ≡ text)
    go true h = (refl, cc h)
    go false h = absurd (cc h)

-- where one is no letter, not all are
not_all : (p : ℕ → Bool) (f : ℕ → ℕ) (text : List ℕ) (i d : ℕ) → i < length text → p (f (get_or text i d)) ≡ false → list_all p (map f text) ≡ false
not_all p f [] i d low e = absurd (omega arith)
not_all p f (c ∷ text) zero d low e = ap (λ (b : Bool). b && list_all p (map f text)) e
not_all p f (c ∷ text) (suc i) d low e = go (p (f c)) (not_all p f text i d (omega arith) e)
  where
    go : (b : Bool) → list_all p (map f text) ≡ false → (b && list_all p (map f text)) ≡ false
    go true h = h
    go false h = refl

-- one that is no letter
pub not_letter : (text items : List ℕ) (i d letter : ℕ) → items ≡ text → i < length text → letter ≡ (if get_or items i d == byte " " then byte "_" else get_or items i d) → false ≡ is_name_octet letter → None ≡ shaped (as_name text)
not_letter text items i d letter same low is none =
    let f : ℕ → ℕ = λ c. if c == byte " " then byte "_" else c in
    sym (no_shape (as_name text) (not_name (as_name text) (not_all is_name_octet f text i d low
    (ap (λ (l : List ℕ). is_name_octet (f (get_or l i d))) (sym same) ∙ (ap is_name_octet (sym is) ∙ sym none)))))

-- ---- a name
pub told_free : (legs : List LegLine) (text : List ℕ) (k : ℕ) → is_name (as_name text) ≡ true → is_free legs (as_name text) ≡ true
    → change_leg (with_name (as_name text)) k legs ≡ change_leg (named_so legs (Some text)) k legs
told_free legs text k a b =
    sym (ap (λ (x : Bool). change_leg (λ leg. cond x (record leg { name = as_name text }) leg) k legs)
    (ap (λ (x : Bool). x && is_free legs (as_name text)) a ∙ b))

pub told_none : (legs : List LegLine) (text : List ℕ) (k : ℕ) → (is_name (as_name text) && is_free legs (as_name text)) ≡ false → legs ≡ change_leg (named_so legs (Some text)) k legs
told_none legs text k e =
    sym (ap (λ (x : Bool). change_leg (λ leg. cond x (record leg { name = as_name text }) leg) k legs) e ∙ unchanged k legs)

-- the text has the shape of a name, and its name is given where it is free
pub told_text : (legs : List LegLine) (text name : List ℕ) (k : ℕ) → shaped (as_name text) ≡ Some name → is_free legs name ≡ true → change_leg (with_name name) k legs ≡ change_leg (named_so legs (Some text)) k legs
told_text legs text name k e free =
    let p = shaped_some (as_name text) name e in
    ap (λ n. change_leg (with_name n) k legs) p.1 ∙ told_free legs text k p.0 (subst (λ n. is_free legs n ≡ true) p.1 free)

pub told_taken : (legs : List LegLine) (text name : List ℕ) (k : ℕ) → shaped (as_name text) ≡ Some name → is_free legs name ≡ false → legs ≡ change_leg (named_so legs (Some text)) k legs
told_taken legs text name k e taken =
    let p = shaped_some (as_name text) name e in
    told_none legs text k (ap (λ (b : Bool). b && is_free legs (as_name text)) p.0 ∙ subst (λ n. is_free legs n ≡ false) p.1 taken)

pub told_shapeless : (legs : List LegLine) (text : List ℕ) (k : ℕ) → shaped (as_name text) ≡ None → legs ≡ change_leg (named_so legs (Some text)) k legs
told_shapeless legs text k e = told_none legs text k (ap (λ (b : Bool). b && is_free legs (as_name text)) (shaped_none (as_name text) e))

-- no name is told
pub no_name : (legs : List LegLine) (name : Option (List ℕ)) (k : ℕ) → name ≡ None → legs ≡ change_leg (named_so legs name) k legs
no_name legs name k e = sym (ap (λ (o : Option (List ℕ)). change_leg (named_so legs o) k legs) e ∙ unchanged k legs)

-- ---- a leaving
pub no_leaving : (wait : ℕ) (legs : List LegLine) (left : Option ℕ) (k : ℕ) → left ≡ None → legs ≡ change_leg (left_so wait left) k legs
no_leaving wait legs left k e = sym (ap (λ (o : Option ℕ). change_leg (left_so wait o) k legs) e ∙ unchanged k legs)

pub told_end : (legs : List LegLine) (k wait at end : ℕ) (leg : LegLine) (stay : Stay) → k < length legs → leg ≡ get_or legs k leg → end ≡ at + wait + 1 → stay ≡ until_then end leg.stay
    → change_leg (with_stay stay) k legs ≡ change_leg (left_so wait (Some at)) k legs
told_end legs k wait at end leg stay low same is until =
    let there = get_or legs k leg in
    changed_alike (with_stay stay) (left_so wait (Some at)) k legs leg low
    (ap (λ (s : Stay). record there { stay = s }) (until ∙ (ap (λ (n : ℕ). until_then n leg.stay) is ∙ ap (λ (l : LegLine). until_then (at + wait + 1) l.stay) same)))

-- ---- all legs
pub says_there : (all : List SourceNotes) (k : ℕ) (said : SourceNotes) → slice_get all k ≡ Some said → said_of said ≡ says_in all k
says_there all k said at = sym (ap or_nothing at)

-- one more is told
pub told_more : (wait k : ℕ) (all : List SourceNotes) (said : SourceNotes) (before now new : List LegLine) → now ≡ told_legs wait (says_in all) k before → slice_get all k ≡ Some said → new ≡ change_leg (told_so wait (said_of said) now) k now
    → new ≡ told_legs wait (says_in all) (k + 1) before
told_more wait k all said before now new told at is =
    let more : suc k ≡ k + 1 = omega arith in
    is
    ∙ (ap (λ (s : attending.Said). change_leg (told_so wait s now) k now) (says_there all k said at)
    ∙ (ap (λ (l : List LegLine). change_leg (told_so wait (says_in all k) l) k l) told
    ∙ ap (λ (n : ℕ). told_legs wait (says_in all) n before) more))
