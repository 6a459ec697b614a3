-- What `check` tells, by what lies in files and by what ports answer (profile).
use Rattle.std.specs.Prelude.{◌≡◌, ℕ, Bool, true, not, Option, None, Some, List, ◌++◌, take}
use Rattle.command_spec.specs.Work.{Contents}
use Rattle.report_spec.specs.Checking.{Report}
use Rattle.report_spec.specs.Looks.{look, told_over}
use Rattle.report_spec.specs.Ports.{Answers}
use Rattle.rtt_words.specs.Words.{Command, Check}
use Rattle.rtt_top.specs.Faults.{is_check}
use Rattle.rtt_top.specs.Outside.{Output}
use Rattle.rtt_top.specs.Runs.{found_status}

-- This is told: at the status that says whether the file is taken, 0 or 1, all of it was printed, and at 7 a front of it.
pub record IsTold (told : Report) (OutTells : Type 0) (before after : Output) (status : ℕ) : Type 0 where
  pub taken : (taken : Bool) → status ≡ found_status taken → taken ≡ told.taken
  pub whole : (taken : Bool) → status ≡ found_status taken → OutTells → after.octets ≡ before.octets ++ told.text
  pub front : status ≡ 7 → OutTells → (n : ℕ) × (after.octets ≡ before.octets ++ take n told.text)

-- where `check` is asked for, what it tells is what lies there and what ports answer, as far as both are told
abbrev pub RunsLook : Option Command → (WorldTells OutTells PortsTell : Type 0) → Answers → Contents → Output
    → Output → ℕ → Type 0
RunsLook (Some (Check w)) WorldTells OutTells PortsTell answers held before after status = WorldTells
    → PortsTell → (told : Report)
    → told_over answers held (look w.file) ≡ Some told → IsTold told OutTells before after status
RunsLook _ WorldTells OutTells PortsTell answers held before after status = Unit {0}

-- no port is tried
abbrev pub tries_no_port : Option Command → Bool
tries_no_port None = true
tries_no_port (Some c) = not (is_check c)
