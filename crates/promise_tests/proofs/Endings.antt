-- 0 is the status of no fault.
use Rattle.std.proofs.Common.{◌≡◌, Ok, Err, refl}
use Rattle.command_spec.specs.declared.faults.Refusal.TheVariants.{AtByte, AtFrame, AtLine, AtTrunk, AfterTurns}
use Rattle.command_spec.specs.declared.faults.Fault.TheVariants.{WrongWords, CannotOpen, CannotRead, Refused, CannotPrint, CannotWrite, LinkFailed, NoMemory}
use Rattle.command_spec.specs.Messages.{Ending, status_of}

pub all_done : (e : Ending) → 0 ≡ status_of e → e ≡ Ok tt
all_done (Ok tt) q = refl
all_done (Err WrongWords) q = absurd (cc q)
all_done (Err (CannotOpen n)) q = absurd (cc q)
all_done (Err (CannotRead n)) q = absurd (cc q)
all_done (Err (Refused n (AtByte b k))) q = absurd (cc q)
all_done (Err (Refused n (AtFrame b k))) q = absurd (cc q)
all_done (Err (Refused n (AtLine b k))) q = absurd (cc q)
all_done (Err (Refused n (AtTrunk b))) q = absurd (cc q)
all_done (Err (Refused n (AfterTurns b))) q = absurd (cc q)
all_done (Err CannotPrint) q = absurd (cc q)
all_done (Err (CannotWrite n)) q = absurd (cc q)
all_done (Err (LinkFailed n)) q = absurd (cc q)
all_done (Err NoMemory) q = absurd (cc q)
