-- What a receiver stands for: the sources that it lists, and the used packets that it took, in rising number (profile).
use Rattle.std.specs.Prelude.{◌≡◌, ◌≢◌, ℕ, suc, ◌+◌, ◌≤◌, Option, None, Some, List, [], ◌∷◌, length, map, AllPairs}
use Rattle.rtt_base.specs.declared.text_packets.TextPacket.{TextPacket}
use Rattle.wire_spec.specs.Packets.{packet_of}
use Rattle.stream_spec.specs.Lists.{In}
use Rattle.stream_spec.specs.Numbering.{Numbered, RisingNumbers}
use Rattle.stream_spec.specs.Hearing.{IsLastOf}
use Rattle.receiver.specs.declared.receivers.Receiver.{Receiver}
use Rattle.receiver.specs.declared.receivers.ListedSource.{ListedSource}
use Rattle.receiver.specs.declared.receivers.LastPacket.{LastPacket}
use Rattle.rtt_base.specs.declared.limits.TheConstants.{MOST_SOURCES}

-- a packet that was used under this number; when it came makes no difference to what is heard
abbrev pub used_packet : ℕ → ℕ → TextPacket → Numbered
used_packet time number p = record { time = time; number = number; packet = packet_of p }

-- the number of the last packet taken
abbrev pub latest_number : Receiver → Option ℕ
latest_number r = r.latest

-- one of these has the number n
pub record HasNumber (us : List Numbered) (n : ℕ) : Type 0 where
  pub it : Numbered
  pub is_in : In it us
  pub number : it.number ≡ n

-- `latest` is the greatest number of these, and `missing` is how many numbers from the first up to it none of these has
abbrev pub IsCount : List Numbered → Option ℕ → ℕ → Type 0
IsCount [] latest missing = (latest ≡ None) × (missing ≡ 0)
IsCount (u ∷ us) latest missing = (n : ℕ) × (latest ≡ Some n) × (missing + length (u ∷ us) + u.number ≡ suc n) × ((v : Numbered) → In v (u ∷ us) → v.number ≤ n) × HasNumber (u ∷ us) n

abbrev pub first_from : ℕ → List Numbered → ℕ
first_from n [] = n
first_from n (u ∷ us) = u.number

-- what is kept of a source is right after these
abbrev pub IsSeen : List Numbered → ℕ → Option LastPacket → Type 0
IsSeen us s None = (u : Numbered) → In u us → u.packet.source ≢ s
IsSeen us s (Some seen) = (a : Numbered) × (l : IsLastOf s us a) × (seen.timestamp ≡ a.packet.timestamp) × (seen.missing + suc (length l.front) + first_from a.number l.front ≡ suc a.number)

pub record Stands (r : Receiver) (sources : List ℕ) (us : List Numbered) : Type 0 where
  pub listed : map (λ l. l.source) r.listed.items ≡ sources
  pub few : length sources ≤ MOST_SOURCES
  pub differ : AllPairs (λ a b. a ≢ b) sources
  pub rising : RisingNumbers us
  pub count : IsCount us r.latest r.missing
  pub seen : (l : ListedSource) → In l r.listed.items → IsSeen us l.source l.seen
