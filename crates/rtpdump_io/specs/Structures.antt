-- Where the line, the head and the records of a recording begin, and which of them a reader reads next (profile).
use Rattle.std.specs.Prelude.{◌≡◌, ◌⊎◌, ℕ, ◌+◌, List, length, Some, Ok}
use Rattle.wire_spec.specs.Dump.{Place, past_line, opening}
use Rattle.rtpdump_io.specs.declared.readers.Stage.{Stage}
use Rattle.rtpdump_io.specs.declared.readers.Stage.TheVariants.{Opening, Records, Ended}
use Rattle.rtpdump_io.specs.declared.readers.DumpReader.{DumpReader}
use Rattle.rtpdump_io.specs.Input.{unread}

-- the head begins at this byte: behind the line
pub record IsHead (octets : List ℕ) (byte : ℕ) : Type 0 where
  pub behind : List ℕ
  pub line : past_line 128 octets ≡ Some behind
  pub all : byte + length behind ≡ length octets

-- the line or the head begins at this byte
abbrev pub IsLineOrHead : List ℕ → ℕ → Type 0
IsLineOrHead octets byte = byte ≡ 0 ⊎ IsHead octets byte

-- the first record begins at this byte: behind the head
pub record IsFirst (octets : List ℕ) (byte : ℕ) : Type 0 where
  pub place : Place
  pub opened : opening octets ≡ Ok place
  pub is : byte ≡ place.byte

-- a structure begins at this byte that is read next: the line, the head or the first record; later the record
abbrev pub IsStart : Stage → ℕ → List ℕ → ℕ → Type 0
IsStart Opening at octets byte = (byte ≡ 0) ⊎ (IsHead octets byte ⊎ IsFirst octets byte)
IsStart Records at octets byte = byte ≡ at
IsStart Ended at octets byte = ⊥

-- how many octets stand before what is read next
abbrev pub before : Stage → ℕ → ℕ
before Opening at = 0
before Records at = at
before Ended at = at

module _ {S : Type 0} where
  -- a structure begins at this byte that the reader reads next
  abbrev pub Starts : (S → List ℕ) → DumpReader S → ℕ → Type 0
  Starts left reader byte = IsStart reader.stage reader.offset (unread left reader.input) byte

  -- all octets: those before what the reader reads next, and those from there on
  abbrev pub all_octets : (S → List ℕ) → DumpReader S → ℕ
  all_octets left reader = before reader.stage reader.offset + length (unread left reader.input)

  -- the octets up to the place at which the reader stands, and those from there on
  abbrev pub octets_around : (S → List ℕ) → DumpReader S → ℕ
  octets_around left reader = reader.offset + length (unread left reader.input)
