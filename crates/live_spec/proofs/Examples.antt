-- A recording worked out by hand.
use Rattle.std.proofs.Common.{◌≡◌, ℕ, List, [], ◌∷◌, ◌++◌, refl}
use Rattle.std.specs.Prelude.{codes}
use Rattle.live_spec.specs.Recorded.{Entry, part_written, recorded}

-- a receiver report without blocks of the SSRC 1001, and the header of a packet of the type 98
report : List ℕ
report = 128 ∷ 201 ∷ 0 ∷ 1 ∷ 0 ∷ 0 ∷ 3 ∷ 233 ∷ []

packet : List ℕ
packet = 128 ∷ 98 ∷ 0 ∷ 1 ∷ 0 ∷ 0 ∷ 0 ∷ 0 ∷ 0 ∷ 0 ∷ 3 ∷ 233 ∷ []

abbrev at : ℕ → List ℕ → Entry
at t octets = record { at = t; octets = octets }

-- it begins at 1700000000.123 seconds: 101 * 2^24 + 83 * 2^16 + 241 * 2^8 and 123000 = 1 * 2^16 + 224 * 2^8 + 120
two_records : part_written 1700000000123 (recorded 1700000000123 (at 300 packet ∷ at 20 report ∷ [])).last
    ≡ codes "#!rtpplay1.0 127.0.0.1/5004" ++ (10 ∷ 101 ∷ 83 ∷ 241 ∷ 0 ∷ 0 ∷ 1 ∷ 224 ∷ 120 ∷ 127 ∷ 0 ∷ 0 ∷ 1 ∷ 19 ∷ 140 ∷ 0 ∷ 0
    ∷ 0 ∷ 16 ∷ 0 ∷ 0 ∷ 0 ∷ 0 ∷ 0 ∷ 20 ∷ 128 ∷ 201 ∷ 0 ∷ 1 ∷ 0 ∷ 0 ∷ 3 ∷ 233
    ∷ 0 ∷ 20 ∷ 0 ∷ 12 ∷ 0 ∷ 0 ∷ 1 ∷ 44 ∷ 128 ∷ 98 ∷ 0 ∷ 1 ∷ 0 ∷ 0 ∷ 0 ∷ 0 ∷ 0 ∷ 0 ∷ 3 ∷ 233 ∷ [])
unfolding report packet
two_records = refl

-- what comes behind four hours begins the next file
after_four_hours : recorded 5 (at 14400001 packet ∷ at 14400000 report ∷ [])
    ≡ record {
      over = record { begins = 0; entries = at 14400000 report ∷ [] } ∷ [];
      last = record { begins = 14400001; entries = at 14400001 packet ∷ [] };
    }
unfolding report packet
after_four_hours = refl
