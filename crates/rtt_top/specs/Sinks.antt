-- What a sink took between two moments.
use Rattle.std.specs.Prelude.{◌≡◌, ℕ, Bool, ◌&&◌, nat_le, List, ◌++◌, Result, OnOk, OnErr, codes}
use Rattle.rtt_io.specs.Counts.{Rose}
use Rattle.rtt_io.specs.Fronts.{TakesFront}
use Rattle.rtt_io.specs.declared.sinks.Sink as sinks

-- an octet of ASCII that prints
abbrev pub is_plain_octet : ℕ → Bool
is_plain_octet octet = nat_le 0x20 octet && nat_le octet 0x7E

-- where in a file of this name something is refused, and why
abbrev pub place_message : List ℕ → List ℕ → List ℕ → List ℕ → List ℕ
place_message name unit number why = name ++ unit ++ (number ++ codes ": ") ++ (why ++ codes "\n")

module _ {K : Type 0} (k : sinks.Ghosts K) where
  -- a call that ends so wrote these octets, unless it failed, as far as the sink tells
  abbrev pub Wrote : {A B : Type 0} → K → K → List ℕ → Result A B → Type 0
  Wrote old new octets result = k.tells → OnOk result (k.took new ≡ k.took old ++ octets)

  -- these octets were taken, unless the sink failed
  abbrev pub TookIfCalm : K → K → List ℕ → Type 0
  TookIfCalm old new octets = (Rose (k.faults old) (k.faults new) → ⊥) → k.took new ≡ k.took old ++ octets

  -- a call that failed wrote a front of these octets and nothing else, as far as the sink tells
  abbrev pub WrotePartly : {A B : Type 0} → K → K → List ℕ → Result A B → Type 0
  WrotePartly old new octets result = k.tells → OnErr result (TakesFront (k.took old) (k.took new) octets)

  -- a front of these octets was taken, and nothing else
  abbrev pub TookFront : K → K → List ℕ → Type 0
  TookFront old new octets = TakesFront (k.took old) (k.took new) octets
