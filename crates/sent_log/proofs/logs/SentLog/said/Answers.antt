use Rattle.std.proofs.Common.{◌≡◌, ◌+◌, ◌<◌, Some, List, ℕ, [], length, get_or, subst, sym, arith}
use Rattle.std.specs.Prelude.{slice_get}
use Rattle.std.proofs.lemmas.List.{get_or_read}
use Rattle.sent_log.specs.declared.logs.SentLog.TheInside.{Inside}
use Rattle.sent_log.specs.declared.runs.Run.{Run}
use Rattle.sent_log.specs.declared.terminals.TerminalLog.{TerminalLog}
use Rattle.sent_log.specs.Insides.{IsLog, IsTerminal, said_of, state_of}
use Rattle.sent_log.specs.Lists.{list_at}
use Rattle.sent_log.specs.Runs.{IsRun}
use Rattle.sent_log.specs.States.{State}
use Rattle.sent_log.proofs.Rendering.{is_terminal, terminal_in}

-- the terminal that was read
record ReadsTerminal (i : Inside) (terminal : ℕ) (t : TerminalLog) : Type 0 where
  there : slice_get i.terminals.items terminal ≡ Some t
  stands : IsTerminal i.turns.items i.texts.items t

reads_terminal : (i : Inside) (log : State) (terminal : ℕ) (t : TerminalLog) → state_of i ≡ log → IsLog i → t ≡ get_or i.terminals.items terminal t → terminal < length log → ReadsTerminal i terminal t
reads_terminal i log terminal t v a e l =
    let there = terminal_in i.turns.items i.texts.items i.terminals.items log terminal t v e l in
    record { there = there; stands = is_terminal i.turns.items i.texts.items i.terminals.items terminal t a there }

-- the run of a source that was read
run_read : (i : Inside) (terminal source : ℕ) (t : TerminalLog) (run : Run) → ReadsTerminal i terminal t → source < length t.sources.items → run ≡ get_or t.runs.items source run → IsRun (list_at i.texts.items (t.first + source)) (said_of i.turns.items i.texts.items t source) run
run_read i terminal source t run r l e = subst (λ (x : Run). IsRun (list_at i.texts.items (t.first + source)) (said_of i.turns.items i.texts.items t source) x) (sym e) (r.stands.runs source run l)

-- the list that it stands in
list_is : (i : Inside) (terminal source : ℕ) (t : TerminalLog) (list : List ℕ) → ReadsTerminal i terminal t → source < length t.sources.items → list ≡ get_or i.texts.items (t.first + source) list → list ≡ list_at i.texts.items (t.first + source)
list_is i terminal source t list r l e = get_or_read i.texts.items (t.first + source) list (omega (arith, l, r.stands.lists)) e []
