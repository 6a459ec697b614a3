-- The last three characters tell as much as all.
use Rattle.std.proofs.Common.{◌≡◌, ℕ, Bool, true, false, cond, ◌&&◌, ◌||◌, List, [], ◌∷◌, ◌++◌, take, refl, sym, ap, ◌∙◌}
use Rattle.std.specs.Prelude.{◌==◌, reverse}
use Rattle.std.specs.Str.{chars}
use Rattle.std.proofs.lemmas.List.{reverse-append}
use Rattle.view_spec.specs.Characters.{is_new_line}
use Rattle.view_spec.specs.Ends.{ends_line, ends_sentence, first_is, is_closing, is_space, is_stop, is_stopped, is_wide_closing, is_wide_stop, is_wide_stopped, past_one}
use Rattle.t140_text.specs.declared.ends.TextEnd.{TextEnd}
use Rattle.t140_text.specs.Endings.{IsEnding, back, is_line_end, is_sentence_end, pushed}

-- the first three of these
abbrev three : List ℕ → List ℕ
three xs = take 3 (xs ++ 0 ∷ 0 ∷ 0 ∷ [])

-- ---- one character more
two_of : (xs : List ℕ) → take 2 xs ≡ take 2 (take 3 xs)
two_of [] = refl
two_of (a ∷ []) = refl
two_of (a ∷ b ∷ xs) = refl

pub push_step : (e : TextEnd) (c : ℕ) (cs : List ℕ) → IsEnding e cs → IsEnding (pushed e c) (cs ++ c ∷ [])
push_step e c cs h = ap three (reverse-append cs (c ∷ [])) ∙ ap (λ xs. c ∷ xs) (two_of (reverse cs ++ 0 ∷ 0 ∷ 0 ∷ []) ∙ ap (take 2) h)

-- ---- what the characters end with
first_of_three : (p : ℕ → Bool) → p 0 ≡ false → (xs : List ℕ) → first_is p xs ≡ first_is p (three xs)
first_of_three p z [] = sym z
first_of_three p z (x ∷ xs) = refl

stopped_three : (xs : List ℕ) → is_stopped xs ≡ is_stopped (three xs)
stopped_three [] = refl
stopped_three (a ∷ []) = go (is_space a)
  where
    go : (s : Bool) → (s && first_is is_stop (past_one is_closing (cond s [] (a ∷ [])))) ≡ (s && first_is is_stop (past_one is_closing (cond s (0 ∷ 0 ∷ []) (a ∷ 0 ∷ 0 ∷ []))))
    go true = refl
    go false = refl
stopped_three (a ∷ b ∷ []) = go (is_space a) (is_closing b)
  where
    closed : (k : Bool) → first_is is_stop (cond k [] (b ∷ [])) ≡ first_is is_stop (cond k (0 ∷ []) (b ∷ 0 ∷ []))
    closed true = refl
    closed false = refl

    go : (s k : Bool) → (s && first_is is_stop (past_one is_closing (cond s (b ∷ []) (a ∷ b ∷ [])))) ≡ (s && first_is is_stop (past_one is_closing (cond s (b ∷ 0 ∷ []) (a ∷ b ∷ 0 ∷ []))))
    go true k = closed (is_closing b)
    go false k = refl
stopped_three (a ∷ b ∷ c ∷ xs) = go (is_space a)
  where
    closed : (k : Bool) → first_is is_stop (cond k (c ∷ xs) (b ∷ c ∷ xs)) ≡ first_is is_stop (cond k (c ∷ []) (b ∷ c ∷ []))
    closed true = refl
    closed false = refl

    go : (s : Bool) → (s && first_is is_stop (past_one is_closing (cond s (b ∷ c ∷ xs) (a ∷ b ∷ c ∷ xs)))) ≡ (s && first_is is_stop (past_one is_closing (cond s (b ∷ c ∷ []) (a ∷ b ∷ c ∷ []))))
    go true = closed (is_closing b)
    go false = refl

wide_three : (xs : List ℕ) → is_wide_stopped xs ≡ is_wide_stopped (three xs)
wide_three [] = refl
wide_three (a ∷ []) = go (is_space a)
  where
    closed : (k : Bool) → first_is is_wide_stop (cond k [] (a ∷ [])) ≡ first_is is_wide_stop (cond k (0 ∷ 0 ∷ []) (a ∷ 0 ∷ 0 ∷ []))
    closed true = refl
    closed false = refl

    go : (s : Bool) → first_is is_wide_stop (past_one is_wide_closing (cond s [] (a ∷ []))) ≡ first_is is_wide_stop (past_one is_wide_closing (cond s (0 ∷ 0 ∷ []) (a ∷ 0 ∷ 0 ∷ [])))
    go true = refl
    go false = closed (is_wide_closing a)
wide_three (a ∷ b ∷ []) = go (is_space a)
  where
    closed : (x y z : ℕ) (k : Bool) → first_is is_wide_stop (cond k (y ∷ []) (x ∷ y ∷ [])) ≡ first_is is_wide_stop (cond k (y ∷ z ∷ []) (x ∷ y ∷ z ∷ []))
    closed x y z true = refl
    closed x y z false = refl

    one : (k : Bool) → first_is is_wide_stop (cond k [] (b ∷ [])) ≡ first_is is_wide_stop (cond k (0 ∷ []) (b ∷ 0 ∷ []))
    one true = refl
    one false = refl

    go : (s : Bool) → first_is is_wide_stop (past_one is_wide_closing (cond s (b ∷ []) (a ∷ b ∷ []))) ≡ first_is is_wide_stop (past_one is_wide_closing (cond s (b ∷ 0 ∷ []) (a ∷ b ∷ 0 ∷ [])))
    go true = one (is_wide_closing b)
    go false = closed a b 0 (is_wide_closing a)
wide_three (a ∷ b ∷ c ∷ xs) = go (is_space a)
  where
    closed : (x y : ℕ) (ys zs : List ℕ) (k : Bool) → first_is is_wide_stop (cond k (y ∷ ys) (x ∷ y ∷ ys)) ≡ first_is is_wide_stop (cond k (y ∷ zs) (x ∷ y ∷ zs))
    closed x y ys zs true = refl
    closed x y ys zs false = refl

    go : (s : Bool) → first_is is_wide_stop (past_one is_wide_closing (cond s (b ∷ c ∷ xs) (a ∷ b ∷ c ∷ xs))) ≡ first_is is_wide_stop (past_one is_wide_closing (cond s (b ∷ c ∷ []) (a ∷ b ∷ c ∷ [])))
    go true = closed b c xs [] (is_wide_closing b)
    go false = closed a b (c ∷ xs) (c ∷ []) (is_wide_closing a)

pub line_of : (e : TextEnd) (text : List ℕ) → IsEnding e (chars text) → is_line_end e ≡ ends_line text
unfolding ends_line
line_of e text h = ap (first_is is_new_line) (sym h) ∙ sym (first_of_three is_new_line refl (reverse (chars text)))

pub sentence_of : (e : TextEnd) (text : List ℕ) → IsEnding e (chars text) → is_sentence_end e ≡ ends_sentence text
unfolding ends_sentence
sentence_of e text h =
    ap (λ xs. is_stopped xs || is_wide_stopped xs) (sym h)
    ∙ (λ i. sym (stopped_three (reverse (chars text))) i || sym (wide_three (reverse (chars text))) i)

-- ---- at the three
one_mark : (p q : ℕ → Bool) (x y : ℕ) (more : List ℕ) → p (cond (q x) y x) ≡ first_is p (past_one q (x ∷ y ∷ more))
one_mark p q x y more = go (q x)
  where
    go : (b : Bool) → p (cond b y x) ≡ first_is p (cond b (y ∷ more) (x ∷ y ∷ more))
    go true = refl
    go false = refl

pub spaced : (e : TextEnd) → (e.last == 0x20) ≡ true
    → (is_stop (cond (is_closing e.second) e.third e.second) || is_wide_stop (cond (is_wide_closing e.second) e.third e.second)) ≡ is_sentence_end e
spaced e q =
    (λ i. one_mark is_stop is_closing e.second e.third [] i || one_mark is_wide_stop is_wide_closing e.second e.third [] i)
    ∙ ap (λ b. (b && first_is is_stop (past_one is_closing (cond b (e.second ∷ e.third ∷ []) (back e)))) || first_is is_wide_stop (past_one is_wide_closing (cond b (e.second ∷ e.third ∷ []) (back e)))) (sym q)

pub unspaced : (e : TextEnd) → (e.last == 0x20) ≡ false → is_wide_stop (cond (is_wide_closing e.last) e.second e.last) ≡ is_sentence_end e
unspaced e q =
    one_mark is_wide_stop is_wide_closing e.last e.second (e.third ∷ [])
    ∙ ap (λ b. (b && first_is is_stop (past_one is_closing (cond b (e.second ∷ e.third ∷ []) (back e)))) || first_is is_wide_stop (past_one is_wide_closing (cond b (e.second ∷ e.third ∷ []) (back e)))) (sym q)
