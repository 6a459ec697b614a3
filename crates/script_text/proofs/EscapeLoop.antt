-- What a loop over a text has read of it, run by run.
use Rattle.std.proofs.Common.{◌≡◌, ℕ, suc, ◌+◌, ◌<◌, ◌≤◌, Bool, true, false, eqb, List, [], ◌∷◌, ◌++◌, length, get_or, take, drop, cond, Option, Some, None, refl, ap, sym, ◌∙◌, subst, arith, append_assoc, add-one, drop-cons, append-nil, ltb, lt-ltb, le-ltb}
use Rattle.std.specs.Prelude.{not, Ok, Err}
use Rattle.std.specs.List.{position_or_len, position}
use Rattle.std.proofs.lemmas.List.{drop_all, take_all}
use Rattle.std.proofs.lemmas.List.Quantifiers.{position-Some}
use Rattle.std.proofs.lemmas.Bool.{ltb-false, eqb-true}
use Rattle.file_spec.specs.declared.kinds.ConfKind.TheVariants.{Escape, Long}
use Rattle.file_spec.specs.Script.{unescaped, followed, typed}
use Rattle.file_spec.specs.declared.limits.TheConstants.{LONGEST_TEXT}

-- the text so far, where `rest` is to come
abbrev pub HasRead : List ℕ → List ℕ → List ℕ → Type 0
HasRead octets rest text = unescaped octets ≡ followed (Some text) (unescaped rest)

followed-empty : (more : Option (List ℕ)) → followed (Some []) more ≡ more
followed-empty None = refl
followed-empty (Some x) = refl

followed-assoc : (a b : List ℕ) (more : Option (List ℕ)) → followed (Some a) (followed (Some b) more) ≡ followed (Some (a ++ b)) more
followed-assoc a b None = refl
followed-assoc a b (Some x) = ap Some (simp append_assoc)

followed-none : (a : List ℕ) → followed (Some a) None ≡ None
followed-none a = refl

pub none_read : (octets : List ℕ) → HasRead octets octets []
none_read octets = sym (followed-empty (unescaped octets))

pub unescaped-plain : (c : ℕ) (more : List ℕ) → eqb c 92 ≡ false → unescaped (c ∷ more) ≡ followed (Some (c ∷ [])) (unescaped more)
unescaped-plain c [] e = rw e refl
unescaped-plain c (d ∷ more) e = rw e refl

run_step : (b : Bool) (c : ℕ) (more : List ℕ) (p : ℕ) → eqb c 92 ≡ b → unescaped more ≡ followed (Some (take p more)) (unescaped (drop p more))
    → unescaped (c ∷ more) ≡ followed (Some (take (cond (not b) (1 + p) 0) (c ∷ more))) (unescaped (drop (cond (not b) (1 + p) 0) (c ∷ more)))
run_step true c more p e ih = sym (followed-empty (unescaped (c ∷ more)))
run_step false c more p e ih =
    let one : suc p ≡ 1 + p = omega arith in
    subst (λ n. unescaped (c ∷ more) ≡ followed (Some (take n (c ∷ more))) (unescaped (drop n (c ∷ more)))) one
    (unescaped-plain c more e ∙ ap (λ m. followed (Some (c ∷ [])) m) ih ∙ followed-assoc (c ∷ []) (take p more) (unescaped (drop p more)))

-- what stands before the first backslash is read as it is
run : (octets : List ℕ) → unescaped octets ≡ followed (Some (take (position_or_len (λ c. eqb c 92) octets) octets)) (unescaped (drop (position_or_len (λ c. eqb c 92) octets) octets))
run [] = refl
run (c ∷ more) = run_step (eqb c 92) c more (position_or_len (λ c. eqb c 92) more) refl (run more)

found : (b : Bool) (p i : ℕ) → cond b (Some p) None ≡ Some i → p ≡ i
found true p i e = cc e
found false p i e = absurd (cc e)

pub missing : (b : Bool) (p : ℕ) → cond b (Some p) None ≡ None → b ≡ false
missing true p e = absurd (cc e)
missing false p e = refl

-- a run and the backslash behind it
pub up_to : (rest : List ℕ) (end : ℕ) → position (λ c. eqb c 92) rest ≡ Some end → unescaped rest ≡ followed (Some (take end rest)) (unescaped (92 ∷ drop (end + 1) rest))
up_to rest end e =
    let at = position-Some (λ c. eqb c 92) rest end 0 e in
    let within = at.0 in let here : drop end rest ≡ 92 ∷ drop (end + 1) rest = rw (add-one, drop-cons rest end 0 within) (ap (λ c. c ∷ drop (suc end) rest) (eqb-true (get_or rest end 0) 92 at.1)) in
    run rest ∙ ap (λ n. followed (Some (take n rest)) (unescaped (drop n rest))) (found _ _ end e) ∙ ap (λ d. followed (Some (take end rest)) (unescaped d)) here

pub all_plain : (rest : List ℕ) → position (λ c. eqb c 92) rest ≡ None → unescaped rest ≡ Some rest
all_plain rest e =
    let p = position_or_len (λ c. eqb c 92) rest in
    let far : length rest ≤ p = ltb-false p (length rest) (missing _ _ e) in
    run rest ∙ ap (λ t. followed (Some t) (unescaped (drop p rest))) (take_all p rest far) ∙ ap (λ t. followed (Some rest) (unescaped t)) (drop_all p rest far) ∙ ap Some (simp append-nil)

-- a run and what the escape behind it stands for
pub more_read : (octets rest text part behind o after : List ℕ) → unescaped rest ≡ followed (Some part) (unescaped (92 ∷ behind)) → unescaped (92 ∷ behind) ≡ followed (Some o) (unescaped after)
    → HasRead octets rest text → HasRead octets after (text ++ part ++ o)
more_read octets rest text part behind o after first second read =
    read
    ∙ ap (λ m. followed (Some text) m) first
    ∙ followed-assoc text part (unescaped (92 ∷ behind))
    ∙ ap (λ m. followed (Some (text ++ part)) m) second
    ∙ followed-assoc (text ++ part) o (unescaped after)

pub no_escape : (octets rest text part behind : List ℕ) → unescaped rest ≡ followed (Some part) (unescaped (92 ∷ behind)) → unescaped (92 ∷ behind) ≡ None
    → HasRead octets rest text → typed octets ≡ Err Escape
no_escape octets rest text part behind first second read =
    let none : unescaped octets ≡ None = read ∙ ap (λ m. followed (Some text) m) (first ∙ ap (λ m. followed (Some part) m) second) in
    rw none refl

whole : (octets rest text : List ℕ) → unescaped rest ≡ Some rest → HasRead octets rest text → unescaped octets ≡ Some (text ++ rest)
whole octets rest text plain read = read ∙ ap (λ m. followed (Some text) m) plain

pub end_read : (octets rest text : List ℕ) → unescaped rest ≡ Some rest → length (text ++ rest) ≤ LONGEST_TEXT → HasRead octets rest text → typed octets ≡ Ok (text ++ rest)
end_read octets rest text plain short read =
    let over : ltb LONGEST_TEXT (length (text ++ rest)) ≡ false = le-ltb _ _ short in
    rw (whole octets rest text plain read, over) refl

pub end_long : (octets rest text : List ℕ) → unescaped rest ≡ Some rest → LONGEST_TEXT < length (text ++ rest) → HasRead octets rest text → typed octets ≡ Err Long
end_long octets rest text plain long read =
    let over : ltb LONGEST_TEXT (length (text ++ rest)) ≡ true = lt-ltb _ _ long in
    rw (whole octets rest text plain read, over) refl
