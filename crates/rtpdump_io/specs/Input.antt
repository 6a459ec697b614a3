-- What a reading that goes by blocks has before it (profile): first the rest of its block, then what its source has left.
use Rattle.std.specs.Prelude.{ℕ, ◌≡◌, ◌≤◌, List, [], ◌++◌, length, take, drop, Result, OnOk, OnErr}
use Rattle.rtt_io.specs.Counts.{Rose}
use Rattle.rtpdump_io.specs.declared.inputs.Input.{Input}

-- so many octets are there, and the others follow
pub record Passes (count : ℕ) (old new : List ℕ) : Type 0 where
  pub enough : count ≤ length old
  pub rest : new ≡ drop count old

-- a call that fails is counted among the faults of its source, no other is, and the source keeps its name
abbrev pub CountsFaults : {S N T E : Type 0} → (S → ℕ) → (S → N) → S → S → Result T E → Type 0
CountsFaults faults name old new result =
    (faults old ≤ faults new) × (OnErr result (Rose (faults old) (faults new))) × (OnOk result (faults new ≡ faults old)) × (name new ≡ name old)

module _ {S : Type 0} where
  -- the rest of the block
  abbrev pub held : Input S → List ℕ
  held input = drop input.start (take input.end input.block)

  -- all octets that are still to be read
  abbrev pub unread : (S → List ℕ) → Input S → List ℕ
  unread left input = held input ++ left input.source

  -- nothing is still to be read
  abbrev pub IsAtEnd : (S → List ℕ) → Input S → Type 0
  IsAtEnd left input = unread left input ≡ []

  -- these octets came first, and the others are still to be read
  abbrev pub HandsOut : (S → List ℕ) → Input S → Input S → List ℕ → Type 0
  HandsOut left old new octets = unread left old ≡ octets ++ unread left new

  -- so many octets came first, and the others are still to be read
  abbrev pub PassesOver : (S → List ℕ) → Input S → Input S → ℕ → Type 0
  PassesOver left old new count = Passes count (unread left old) (unread left new)
