-- The dates of the proleptic Gregorian calendar (ISO 8601, section 4.3.2), one day after another.
use Rattle.std.specs.Prelude.{ℕ, zero, suc, ◌≤◌, ◌%◌, ◌==◌, ◌||◌, Bool, if◌then◌else◌}
use Rattle.rtt_base.specs.declared.dates.Date.{Date}

-- each fourth year, but of those that end a century each fourth alone
abbrev pub is_leap : ℕ → Bool
is_leap year = if year % 100 == 0 then year % 400 == 0 else year % 4 == 0

-- how many days the month has: April, June, September and November have 30
abbrev pub month_length : ℕ → ℕ → ℕ
month_length year month =
    if month == 2 then (if is_leap year then 29 else 28)
    else (if month == 4 || (month == 6 || (month == 9 || month == 11)) then 30 else 31)

abbrev pub first_of : ℕ → ℕ → Date
first_of year month = record { year = year; month = month; day = 1 }

abbrev pub next_month : ℕ → ℕ → Date
next_month year month = if month == 12 then first_of (suc year) 1 else first_of year (suc month)

abbrev pub day_after : Date → Date
day_after d =
    if d.day == month_length d.year d.month then next_month d.year d.month
    else record { year = d.year; month = d.month; day = suc d.day }

abbrev pub days_after : ℕ → Date → Date
days_after zero d = d
days_after (suc n) d = days_after n (day_after d)

-- so many days after 1970-01-01
unfoldable pub date_of : ℕ → Date
date_of n = days_after n (first_of 1970 1)

-- a date that there is
pub record IsDate (d : Date) : Type 0 where
  pub some_month : 1 ≤ d.month
  pub month : d.month ≤ 12
  pub some_day : 1 ≤ d.day
  pub day : d.day ≤ month_length d.year d.month
