-- A number as it is written in command words and files (profile): one to ten decimal digits, leading zeros allowed, within a range.
use Rattle.std.specs.Prelude.{ℕ, Bool, Option, None, Some, List, length, ◌&&◌, nat_lt, nat_le, if◌then◌else◌, option_and_then}
use Rattle.std.specs.List.{list_all}
use Rattle.std.specs.Char.{is_ascii_digit}
use Rattle.std.specs.Str.Parse.{digits_value}
use Rattle.file_spec.specs.declared.limits.TheConstants.{FIRST_TYPE, LAST_TYPE}
use Rattle.rtt_base.specs.declared.text_packets.PayloadTypes.{PayloadTypes}

abbrev pub is_number : List ℕ → Bool
is_number text = nat_lt 0 (length text) && (nat_le (length text) 10 && list_all is_ascii_digit text)

-- the number that the text writes, if it is at most `most`
abbrev pub number : ℕ → List ℕ → Option ℕ
number most text = if is_number text && nat_le (digits_value 10 text) most then Some (digits_value 10 text) else None

-- the same of a number that is at least `least`
abbrev pub number_between : ℕ → ℕ → List ℕ → Option ℕ
number_between least most text = option_and_then (λ n. if nat_lt n least then None else Some n) (number most text)

-- the greatest SSRC
abbrev pub most_ssrc : ℕ
most_ssrc = 4294967295

-- a dynamic payload type (RFC 3551, section 3)
abbrev pub payload_type : List ℕ → Option ℕ
payload_type text = number_between FIRST_TYPE LAST_TYPE text

abbrev pub payload_types : List ℕ → List ℕ → Option PayloadTypes
payload_types t140 red = option_and_then (λ t. option_and_then (λ r. Some (record { t140 = t; red = r })) (payload_type red)) (payload_type t140)
