use Rattle.std.proofs.Common.{◌≡◌, ℕ, get_or, subst, sym, ◌∙◌, arith}
use Rattle.std.proofs.lemmas.Option.{slice_get_within}
use Rattle.sent_log.specs.declared.logs.SentLog.TheInside.{Inside}
use Rattle.sent_log.specs.declared.terminals.TerminalLog.{TerminalLog}
use Rattle.sent_log.specs.Insides.{IsLog, IsTerminal, state_of}
use Rattle.sent_log.specs.States.{HasSource, State}
use Rattle.sent_log.proofs.Growing.{all_same, all_still, each_same}
use Rattle.sent_log.proofs.Noting.{noting, source_in, source_there}
use Rattle.sent_log.proofs.Rendering.{is_terminal}
use Rattle.sent_log.proofs.logs.SentLog.send.Goals as goal
use Rattle.wire_spec.proofs.Plain.{on_err}

pub returns-in_err-turn-clause-err : goal.returns-in_err-turn-clause-err
returns-in_err-turn-clause-err c =
    let i = c.self.inside in
    on_err _ _ (all_same i.turns.items c.note_turn.new.turns.items i.texts.items i.texts.items i.terminals.items c.note_turn.ensures.grows (each_same i.texts.items) c.self.invariant ∙ c.self.view_is)

pub invariant_of-self : goal.invariant_of-self
invariant_of-self c =
    let i = c.self.inside in
    all_still i.turns.items c.note_turn.new.turns.items i.texts.items i.texts.items i.terminals.items c.note_turn.ensures.grows (each_same i.texts.items) c.self.invariant

pub index_mut-sent_to-requires : goal.index_mut-sent_to-requires
index_mut-sent_to-requires c =
    let i = c.self.inside in
    let found = source_in i.turns.items i.texts.items i.terminals.items c.args.terminal c.args.source (subst (λ (log : State). HasSource log c.args.terminal c.args.source) (sym c.self.view_is) c.requires.source) in
    let l = slice_get_within i.terminals.items c.args.terminal found.0 found.1 in
    omega (arith, l, i.terminals.ok.0)

-- what holds of the terminal that is read
read : (i : Inside) (log : State) (terminal source : ℕ) (t : TerminalLog) → state_of i ≡ log → IsLog i → t ≡ get_or i.terminals.items terminal t → HasSource log terminal source → IsTerminal i.turns.items i.texts.items t
read i log terminal source t v a e h = is_terminal i.turns.items i.texts.items i.terminals.items terminal t a (source_there i log terminal source t v e h).0

pub note-requires-clause-source : goal.note-requires-clause-source
note-requires-clause-source c = (source_there c.self.inside _ c.args.terminal c.args.source c.index_mut-sent_to.result.now c.self.view_is c.index_mut-sent_to.ensures.value c.requires.source).1

pub note-requires-clause-runs : goal.note-requires-clause-runs
note-requires-clause-runs c = (read c.self.inside _ c.args.terminal c.args.source c.index_mut-sent_to.result.now c.self.view_is c.self.invariant c.index_mut-sent_to.ensures.value c.requires.source).each

pub note-requires-clause-lists : goal.note-requires-clause-lists
note-requires-clause-lists c = (read c.self.inside _ c.args.terminal c.args.source c.index_mut-sent_to.result.now c.self.view_is c.self.invariant c.index_mut-sent_to.ensures.value c.requires.source).lists

pub invariant_of-self-2 : goal.invariant_of-self-2
invariant_of-self-2 c =
    (noting c.self.inside _ c.args.terminal c.args.source c.index_mut-sent_to.result.now c.note_turn.new.turns.items c.note.new.texts.items c.note.new.self c.args.now c.args.media c.in_ok-turn.turn c.args.text.now c.note.result
    c.self.view_is c.self.invariant c.index_mut-sent_to.ensures.value c.requires.source c.note_turn.ensures.grows c.note.ensures.grows c.in_ok-turn.ensures.is c.in_ok-turn.ensures.within c.requires.text c.note.ensures.same c.note.ensures.ok c.note.ensures.err).still

pub returns-clause-ok : goal.returns-clause-ok
returns-clause-ok c =
    (noting c.self.inside _ c.args.terminal c.args.source c.index_mut-sent_to.result.now c.note_turn.new.turns.items c.note.new.texts.items c.note.new.self c.args.now c.args.media c.in_ok-turn.turn c.args.text.now c.note.result
    c.self.view_is c.self.invariant c.index_mut-sent_to.ensures.value c.requires.source c.note_turn.ensures.grows c.note.ensures.grows c.in_ok-turn.ensures.is c.in_ok-turn.ensures.within c.requires.text c.note.ensures.same c.note.ensures.ok c.note.ensures.err).sent

pub returns-clause-err : goal.returns-clause-err
returns-clause-err c =
    (noting c.self.inside _ c.args.terminal c.args.source c.index_mut-sent_to.result.now c.note_turn.new.turns.items c.note.new.texts.items c.note.new.self c.args.now c.args.media c.in_ok-turn.turn c.args.text.now c.note.result
    c.self.view_is c.self.invariant c.index_mut-sent_to.ensures.value c.requires.source c.note_turn.ensures.grows c.note.ensures.grows c.in_ok-turn.ensures.is c.in_ok-turn.ensures.within c.requires.text c.note.ensures.same c.note.ensures.ok c.note.ensures.err).refused
