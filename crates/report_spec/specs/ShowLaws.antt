-- What holds of the counts of a stream.
use Rattle.std.specs.Prelude.{◌≡◌, ℕ, suc, ◌-◌, List}
use Rattle.std.specs.List.{sum_by}
use Rattle.stream_spec.specs.Numbering.{Numbered}
use Rattle.report_spec.specs.Numbers.{Lost, lost}
use Rattle.report_spec.specs.Missed.{lost_count}

-- how many numbers a row has
abbrev pub size : Lost → ℕ
size l = suc l.row.1 - l.row.0

-- as many numbers are lost as the rows have that `times` tells of
abbrev pub LostAreRows : Type 0
LostAreRows = (wait : ℕ) (past : List Numbered) → sum_by (λ l. size l) (lost wait past) ≡ lost_count past
