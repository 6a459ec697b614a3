-- What `send` makes of two letters, worked out by hand.
use Rattle.std.proofs.Common.{◌≡◌, ℕ, List, [], ◌∷◌, ◌++◌, None, refl}
use Rattle.std.specs.Prelude.{codes, ◌+◌, ◌-◌, ◌*◌, nat_lt, if◌then◌else◌}
use Rattle.wire_spec.specs.Dump.{dump_opening}
use Rattle.file_spec.specs.Script.{ScriptLine}
use Rattle.command_spec.specs.Usual.{usual_payload_types}
use Rattle.command_spec.specs.Scripts.{Sending, events_before, full_line, first_from, first_end, recording}

-- octets in hexadecimal digits
digit : ℕ → ℕ
digit c = if nat_lt c 58 then c - 48 else c - 55

hex : List ℕ → List ℕ
hex [] = []
hex (x ∷ []) = []
hex (x ∷ y ∷ more) = (16 * digit x + digit y) ∷ hex more

-- A at 0 and B at 3
two : List ScriptLine
two = record { line = 1; at = 0; text = codes "A" } ∷ record { line = 2; at = 3; text = codes "B" } ∷ []

-- two generations, at most one packet in 3 ms
often : Sending
often = record { stream = record { ssrc = 1001; first = 0; base = 0; generations = 2 }; interval = 3; payload_types = usual_payload_types }

not_full : full_line often two ≡ None
unfolding two often events_before
not_full = refl

-- at 9 B was repeated twice
ends : first_end often two ≡ 9
unfolding two often events_before first_from first_end
ends = refl

-- the packets at 0, 3, 6 and 9, each behind the lengths of its record and its packet
records : List ℕ
records = hex (codes "001E00160000000080E4000000000000000003E9E2FFFC00E2FFFC006241")
    ++ hex (codes "001F0017000000038064000100000003000003E9E2FFFC00E2000C01624142")
    ++ hex (codes "001F0017000000068064000200000006000003E9E2001801E2000C01624142")
    ++ hex (codes "001E0016000000098064000300000009000003E9E2001801E2000C006242")

recorded : recording often two ≡ dump_opening ++ records
unfolding two often events_before first_from first_end records hex digit
recorded = refl
