-- The faults of a conference that is made and mixed in memory.
use Rattle.std.specs.Prelude.{◌≡◌, ℕ}
use Rattle.command_spec.specs.declared.faults.Refusal.TheVariants.{AfterTurns}
use Rattle.command_spec.specs.declared.faults.Fault.{Fault}
use Rattle.command_spec.specs.declared.faults.Fault.TheVariants.{WrongWords, CannotOpen, CannotRead, Refused, CannotPrint, CannotWrite, LinkFailed, NoMemory}
use Rattle.command_spec.specs.Work.{Steps, Refuses}
use Rattle.rtt_mix.specs.declared.results.MixFault.{MixFault}
use Rattle.rtt_mix.specs.declared.results.MixFault.TheVariants.{Open, Dump, TooLong}
use Rattle.rtt_mix.specs.declared.results.MixFault.TheVariants as mix

-- the fault of a command for that of a mixing in memory of at most so many turns: no recording there has a fault of its own
abbrev pub fault_in_memory : ℕ → MixFault → Fault
fault_in_memory turns (Open leg) = NoMemory
fault_in_memory turns (Dump leg fault) = NoMemory
fault_in_memory turns TooLong = Refused 0 (AfterTurns turns)
fault_in_memory turns mix.NoMemory = NoMemory

-- why nothing is printed: these steps refuse, or memory ran out
abbrev pub IsWhy : Steps → Fault → Type 0
IsWhy steps WrongWords = ⊥
IsWhy steps (CannotOpen input) = ⊥
IsWhy steps (CannotRead input) = ⊥
IsWhy steps (Refused input refusal) = steps ≡ Refuses input refusal
IsWhy steps CannotPrint = ⊥
IsWhy steps (CannotWrite output) = ⊥
IsWhy steps (LinkFailed leg) = ⊥
IsWhy steps NoMemory = Unit {0}
