-- How many numbers of a stream were lost, and how many packets came too late.
use Rattle.std.specs.Prelude.{◌≡◌, ℕ, List, length}
use Rattle.rtt_base.specs.declared.text_packets.PayloadTypes.{PayloadTypes}
use Rattle.wire_spec.specs.Dump.{Item}
use Rattle.stream_spec.specs.Numbering.{used}
use Rattle.command_spec.specs.Reading.{usual_wait}
use Rattle.report_spec.specs.Missed.{lost_count, late_count}
use Rattle.report_spec.specs.Showing.{numbers_of}
use Rattle.rtt_show.specs.declared.losses.Losses.{Losses}
use Rattle.rtt_show.specs.declared.spreads.Spread.{Spread}
use Rattle.rtt_show.specs.Spreads.{IsSpread}

pub record IsMissed (payload_types : PayloadTypes) (ssrc : ℕ) (m : Losses) (came : List Item) : Type 0 where
  pub lost : m.lost ≡ lost_count (numbers_of payload_types ssrc came)
  pub late : m.late ≡ late_count usual_wait (numbers_of payload_types ssrc came)

-- where these are the numbers, and so many packets were used
abbrev pub IsMissedOf : PayloadTypes → ℕ → Spread → ℕ → Losses → List Item → Type 0
IsMissedOf payload_types ssrc spread n m came =
    IsSpread spread (numbers_of payload_types ssrc came)
    → n ≡ length (used usual_wait (numbers_of payload_types ssrc came)) → IsMissed payload_types ssrc m came
