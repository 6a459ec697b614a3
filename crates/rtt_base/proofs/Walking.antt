-- Going from month to month, and the order of dates.
use Rattle.std.proofs.Common.{◌≡◌, ℕ, zero, suc, ◌+◌, ◌-◌, ◌*◌, ◌<◌, ◌≤◌, ◌==◌, ◌||◌, ◌⊎◌, inl, inr, Bool, true, false, cond, refl, ap, sym, ◌∙◌, arith, ne_eqb, eq-eqb}
use Rattle.std.proofs.lemmas.Bool.{true≢false, cases_lt}
use Rattle.rtt_base.specs.declared.dates.Date.{Date}
use Rattle.rtt_base.specs.Dates.{is_leap, month_length, first_of, next_month, day_after, days_after, date_of, IsDate}

abbrev date : ℕ → ℕ → ℕ → Date
date year month day = record { year = year; month = month; day = day }

-- ---- within a month, and to the next
same_month : (year month day : ℕ) → day < month_length year month → day_after (date year month day) ≡ date year month (suc day)
same_month year month day l = ap (λ b. cond b (next_month year month) (date year month (suc day))) (ne_eqb day (month_length year month) (λ e. omega (arith, l, e)))

last_day : (year month day : ℕ) → day ≡ month_length year month → day_after (date year month day) ≡ next_month year month
last_day year month day e = ap (λ b. cond b (next_month year month) (date year month (suc day))) (eq-eqb day (month_length year month) e)

pub within : (n year month day : ℕ) → day + n ≤ month_length year month → days_after n (date year month day) ≡ date year month (day + n)
within zero year month day l = ap (λ k. date year month k) (omega arith)
within (suc n) year month day l =
    ap (days_after n) (same_month year month day (omega (arith, l)))
    ∙ (within n year month (suc day) (omega (arith, l)) ∙ ap (λ k. date year month k) (omega arith))

pub past : (n left year month day : ℕ) → day + n ≡ month_length year month → days_after (suc (n + left)) (date year month day) ≡ days_after left (next_month year month)
past zero left year month day e =
    let none : 0 + left ≡ left = omega arith in
    ap (λ k. days_after k (day_after (date year month day))) none ∙ ap (days_after left) (last_day year month day (omega (arith, e)))
past (suc n) left year month day e =
    let less : suc n + left ≡ suc (n + left) = omega arith in
    ap (λ k. days_after k (day_after (date year month day))) less
    ∙ (ap (days_after (suc (n + left))) (same_month year month day (omega (arith, e)))
    ∙ past n left year month (suc day) (omega (arith, e)))

-- a whole month
pub a_month : (rest year month : ℕ) → 1 ≤ month_length year month → month_length year month ≤ rest → days_after rest (first_of year month) ≡ days_after (rest - month_length year month) (next_month year month)
a_month rest year month some l =
    let len = month_length year month in
    let split : rest ≡ suc ((len - 1) + (rest - len)) = omega (arith, some, l) in
    ap (λ k. days_after k (first_of year month)) split ∙ past (len - 1) (rest - len) year month 1 (omega (arith, some))

-- ---- each of these is a date
some_days : (year month : ℕ) → 28 ≤ month_length year month
some_days year month = go (month == 2) (is_leap year) (month == 4 || (month == 6 || (month == 9 || month == 11)))
  where
    go : (a b c : Bool) → 28 ≤ cond a (cond b 29 28) (cond c 30 31)
    go true true c = omega arith
    go true false c = omega arith
    go false b true = omega arith
    go false b false = omega arith

few_days : (year month : ℕ) → month_length year month ≤ 31
few_days year month = go (month == 2) (is_leap year) (month == 4 || (month == 6 || (month == 9 || month == 11)))
  where
    go : (a b c : Bool) → cond a (cond b 29 28) (cond c 30 31) ≤ 31
    go true true c = omega arith
    go true false c = omega arith
    go false b true = omega arith
    go false b false = omega arith

first_is_date : (year month : ℕ) → 1 ≤ month → month ≤ 12 → IsDate (first_of year month)
first_is_date year month l h = record { some_month = l; month = h; some_day = omega arith; day = omega (arith, some_days year month) }

next_is_date : (year month : ℕ) → 1 ≤ month → month ≤ 12 → IsDate (next_month year month)
next_is_date year month l h = go (month == 12) refl
  where
    go : (b : Bool) → (month == 12) ≡ b → IsDate (cond b (first_of (suc year) 1) (first_of year (suc month)))
    go true e = first_is_date (suc year) 1 (omega arith) (omega arith)
    go false e = let other = differ month 12 e in first_is_date year (suc month) (omega arith) (under month other h)
      where
        differ : (m n : ℕ) → (m == n) ≡ false → m ≡ n → ⊥
        differ m n f same = absurd (true≢false (sym (eq-eqb m n same) ∙ f))

        under : (m : ℕ) → (m ≡ 12 → ⊥) → m ≤ 12 → suc m ≤ 12
        under m other low = below (cases_lt m 12)
          where
            below : (m < 12) ⊎ (12 ≤ m) → suc m ≤ 12
            below (inl less) = omega (arith, less)
            below (inr more) = absurd (other (omega (arith, low, more)))

after_is_date : (d : Date) → IsDate d → IsDate (day_after d)
after_is_date d i = go (d.day == month_length d.year d.month) refl
  where
    go : (b : Bool) → (d.day == month_length d.year d.month) ≡ b → IsDate (cond b (next_month d.year d.month) (date d.year d.month (suc d.day)))
    go true e = next_is_date d.year d.month i.some_month i.month
    go false e = record { some_month = i.some_month; month = i.month; some_day = omega arith; day = below (cases_lt d.day (month_length d.year d.month)) }
      where
        below : (d.day < month_length d.year d.month) ⊎ (month_length d.year d.month ≤ d.day) → suc d.day ≤ month_length d.year d.month
        below (inl less) = omega (arith, less)
        below (inr more) = absurd (true≢false (sym (eq-eqb d.day (month_length d.year d.month) (omega (arith, more, i.day))) ∙ e))

days_are_dates : (n : ℕ) (d : Date) → IsDate d → IsDate (days_after n d)
days_are_dates zero d i = i
days_are_dates (suc n) d i = days_are_dates n (day_after d) (after_is_date d i)

pub is_date : (n : ℕ) → IsDate (date_of n)
unfolding date_of
is_date n = days_are_dates n (first_of 1970 1) (first_is_date 1970 1 (omega arith) (omega arith))

-- ---- and none comes twice
abbrev rank : Date → ℕ
rank d = 384 * d.year + (32 * d.month + d.day)

rank_rises : (d : Date) → IsDate d → rank d < rank (day_after d)
rank_rises d i = go (d.day == month_length d.year d.month)
  where
    next : (b : Bool) → (d.month == 12) ≡ b → rank d < rank (cond b (first_of (suc d.year) 1) (first_of d.year (suc d.month)))
    next true e = omega (arith, i.day, i.month, few_days d.year d.month)
    next false e = omega (arith, i.day, few_days d.year d.month)

    go : (b : Bool) → rank d < rank (cond b (next_month d.year d.month) (date d.year d.month (suc d.day)))
    go true = next (d.month == 12) refl
    go false = omega arith

rank_after : (n : ℕ) (d : Date) → IsDate d → rank d + n ≤ rank (days_after n d)
rank_after zero d i = omega arith
rank_after (suc n) d i = omega (arith, rank_rises d i, rank_after n (day_after d) (after_is_date d i))

after_both : (m n : ℕ) (d : Date) → days_after (m + n) d ≡ days_after n (days_after m d)
after_both zero n d =
    let none : 0 + n ≡ n = omega arith in
    ap (λ k. days_after k d) none
after_both (suc m) n d =
    let less : suc m + n ≡ suc (m + n) = omega arith in
    ap (λ k. days_after k d) less ∙ after_both m n (day_after d)

later : (m n : ℕ) → m < n → date_of m ≡ date_of n → ⊥
unfolding date_of
later m n l e =
    let start = first_of 1970 1 in
    let split : n ≡ m + (n - m) = omega (arith, l) in
    let is = ap (λ k. days_after k start) split ∙ after_both m (n - m) start in
    let rises = rank_after (n - m) (days_after m start) (days_are_dates m start (first_is_date 1970 1 (omega arith) (omega arith))) in
    absurd (omega (arith, l, rises, ap rank (e ∙ is)))

pub one_date : (m n : ℕ) → date_of m ≡ date_of n → m ≡ n
one_date m n e = go (cases_lt m n) (cases_lt n m)
  where
    go : (m < n) ⊎ (n ≤ m) → (n < m) ⊎ (m ≤ n) → m ≡ n
    go (inl l) w = absurd (later m n l e)
    go (inr h) (inl l) = absurd (later n m l (sym e))
    go (inr h) (inr l) = omega (arith, h, l)

-- ---- the steps of the walk
pub to_next_year : (rest year month len days : ℕ) → len ≡ month_length year month → len ≤ rest → month ≡ 12 → days_after rest (first_of year month) ≡ date_of days → days_after (rest - len) (first_of (year + 1) 1) ≡ date_of days
to_next_year rest year month len days e l last far =
    let one : year + 1 ≡ suc year = omega arith in
    ap (λ y. days_after (rest - len) (first_of y 1)) one
    ∙ (ap (λ b. days_after (rest - len) (cond b (first_of (suc year) 1) (first_of year (suc month)))) (sym (eq-eqb month 12 last))
    ∙ (ap (λ n. days_after (rest - n) (next_month year month)) e
    ∙ (sym (a_month rest year month (omega (arith, some_days year month)) (omega (arith, e, l))) ∙ far)))

pub to_next_month : (rest year month len days : ℕ) → len ≡ month_length year month → len ≤ rest → (month ≡ 12 → ⊥) → days_after rest (first_of year month) ≡ date_of days → days_after (rest - len) (first_of year (month + 1)) ≡ date_of days
to_next_month rest year month len days e l more far =
    let one : month + 1 ≡ suc month = omega arith in
    ap (λ m. days_after (rest - len) (first_of year m)) one
    ∙ (ap (λ b. days_after (rest - len) (cond b (first_of (suc year) 1) (first_of year (suc month)))) (sym (ne_eqb month 12 more))
    ∙ (ap (λ n. days_after (rest - n) (next_month year month)) e
    ∙ (sym (a_month rest year month (omega (arith, some_days year month)) (omega (arith, e, l))) ∙ far)))

pub in_month : (rest year month len days : ℕ) → len ≡ month_length year month → rest < len → days_after rest (first_of year month) ≡ date_of days → date year month (rest + 1) ≡ date_of days
in_month rest year month len days e l far =
    let one : rest + 1 ≡ 1 + rest = omega arith in
    ap (λ d. date year month d) one ∙ (sym (within rest year month 1 (omega (arith, e, l))) ∙ far)
