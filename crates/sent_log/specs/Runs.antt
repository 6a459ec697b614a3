-- Where the texts stand that were sent of a source to a terminal.
use Rattle.std.specs.Prelude.{◌≡◌, ◌+◌, ◌-◌, ◌≤◌, ℕ, true, List, length}
use Rattle.sent_log.specs.declared.runs.Run.{Run}
use Rattle.sent_log.specs.Lists.{octets_at}

-- nowhere yet
abbrev pub empty_run : Run
empty_run = record { from = 0; to = 0; joined = true }

-- the texts stand in these octets, one behind the other where the run says so
pub record IsRun (octets texts : List ℕ) (run : Run) : Type 0 where
  pub order : run.from ≤ run.to
  pub within : run.to ≤ length octets
  pub is : run.joined ≡ true → octets_at octets run.from (run.to - run.from) ≡ texts

-- One text more, of so many octets, stands at this place: all are joined where it is the first with octets, or stands behind those before.
pub record Follows (old : Run) (place len : ℕ) (new : Run) : Type 0 where
  pub to : new.to ≡ place + len
  pub order : old.from ≤ old.to → new.from ≤ new.to
  pub joined : new.joined ≡ true → old.joined ≡ true
  pub first : old.from ≡ old.to → new.from ≡ place
  pub next : (old.from ≡ old.to → ⊥) → new.joined ≡ true → (place ≡ old.to) × (new.from ≡ old.from)
