-- What was sent to each terminal could be sent, each after what was sent before it.
use Rattle.std.proofs.Common.{◌≡◌, ℕ, zero, suc, ◌<◌, Some, List, [], ◌∷◌, length, refl, arith}
use Rattle.std.specs.Prelude.{slice_get}
use Rattle.packetizer.specs.Speakers.{EachIsNext}
use Rattle.mixer_spec.specs.Setups.{Setup, stream}
use Rattle.mixer_spec.specs.Table.{Call, Terminal, sents, after_calls}
use Rattle.terminal_scheduler.specs.declared.schedulers.TerminalScheduler.{TerminalScheduler}
use Rattle.terminal_scheduler.specs.declared.schedulers.TerminalScheduler.TheVariants.{Aware, Unaware}
use Rattle.terminal_scheduler.specs.Schedulers as schedulers
use Rattle.mixer.specs.States.{State}
use Rattle.mixer.specs.Standing.{MixerStandsFor}

is_there : (all : List TerminalScheduler) (j : ℕ) → j < length all → (o : TerminalScheduler) × (slice_get all j ≡ Some o)
is_there [] j l = absurd (omega arith)
is_there (o ∷ all) zero l = (o, refl)
is_there (o ∷ all) (suc j) l = is_there all j (omega arith)

next_at : (s : Setup) (j : ℕ) (o : TerminalScheduler) (d : Terminal) → schedulers.SchedulerStandsFor s j o d → EachIsNext (stream s j) (sents d.past)
next_at s j (Aware o) d h = h.1.sent
next_at s j (Unaware o) d h = h.1.sent

pub each_is_next : (s : Setup) (m : State) (calls : List Call) (j : ℕ) → j < s.legs → MixerStandsFor s m calls → EachIsNext (stream s j) (sents ((after_calls s calls).terminals j).past)
each_is_next s m calls j l h =
    let g = is_there m.schedulers j (omega (arith, l, h.keeps.legs)) in next_at s j g.0 ((after_calls s calls).terminals j) (h.keeps.schedulers j g.0 g.1)
