-- What is told of the line with which a recording begins.
use Rattle.std.specs.Prelude.{ℕ, ◌≡◌, ◌+◌, false, nat_eq, List, length, Option, None, Some, IfSome, MatchOption}
use Rattle.std.specs.List.{starts_with}
use Rattle.wire_spec.specs.Dump.{past_line}
use Rattle.rtpdump_io.specs.declared.inputs.Input.{Input}
use Rattle.rtpdump_io.specs.Input.{unread}

module _ {S : Type 0} where
  -- other octets come next than these
  abbrev pub BeginsOtherwise : (S → List ℕ) → Input S → List ℕ → Type 0
  BeginsOtherwise left input expected = starts_with nat_eq (unread left input) expected ≡ false

  -- the line is passed over where it ends among so many octets
  abbrev pub IsPastLine : (S → List ℕ) → Input S → Input S → ℕ → Option ℕ → Type 0
  IsPastLine left old new most line =
      MatchOption line
      (past_line most (unread left old) ≡ None)
      (λ number. past_line most (unread left old) ≡ Some (unread left new))

  -- so many octets fewer are still to be read
  abbrev pub IsLessBy : (S → List ℕ) → Input S → Input S → Option ℕ → Type 0
  IsLessBy left old new line =
      IfSome line (λ number. length (unread left old) ≡ number + length (unread left new))
