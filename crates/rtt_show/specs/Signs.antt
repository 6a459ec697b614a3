-- What the payloads of the packets of a pair show.
use Rattle.std.specs.Prelude.{◌≡◌, ℕ, ◌+◌, ◌==◌, ◌||◌, Bool, List, length, if◌then◌else◌}
use Rattle.std.specs.List.{list_any}
use Rattle.wire_spec.specs.Packets.{has_text}
use Rattle.rtt_base.specs.declared.text_packets.PayloadTypes.{PayloadTypes}
use Rattle.wire_spec.specs.Dump.{Item, Whole}
use Rattle.command_spec.specs.Streams.{payload_of, first_type, has_redundant, type_inside}
use Rattle.report_spec.specs.Guesses.{filled, is_accepted}
use Rattle.rtt_show.specs.Finds.{one_if}
use Rattle.rtt_show.specs.declared.signs.Signs.{Signs}

-- the payloads of these packets show this
pub record AreSigns (s : Signs) (came : List Item) : Type 0 where
  pub packets : s.packets ≡ length came
  pub inside : s.inside ≡ type_inside came
  pub redundant : s.redundant ≡ list_any (λ item. has_redundant (payload_of item)) came
  pub filled : s.filled ≡ length (filled came)

-- a packet with this payload came besides
pub record SignsMore (old : Signs) (payload : List ℕ) (new : Signs) : Type 0 where
  pub inside : new.inside ≡ (if old.packets == 0 then first_type payload else old.inside)
  pub redundant : new.redundant ≡ (old.redundant || has_redundant payload)
  pub filled : new.filled ≡ old.filled + one_if (has_text payload)

-- a packet with these octets has a payload, and is a text
abbrev pub is_filled_text : ℕ → PayloadTypes → List ℕ → Bool
is_filled_text ssrc payload_types octets = is_accepted ssrc payload_types (record { time = 0; what = Whole octets })
