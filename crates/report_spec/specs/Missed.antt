-- How many numbers of a stream were lost, and how many of its packets came too late to be heard. Lists of arrivals are newest
-- first.
use Rattle.std.specs.Prelude.{ℕ, suc, ◌-◌, List, length}
use Rattle.stream_spec.specs.Numbering.{Numbered, distinct_from, first_number, greatest}
use Rattle.report_spec.specs.Numbers.{late}

-- of the numbers above the first packet's, up to the greatest, those that no packet had: each was given up
abbrev pub lost_count : List Numbered → ℕ
lost_count past = (greatest past - first_number 0 past) - distinct_from (suc (first_number 0 past)) past

-- the packets that came behind what was given up, or before the first
abbrev pub late_count : ℕ → List Numbered → ℕ
late_count wait past = length (late wait past)
