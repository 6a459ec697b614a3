use Rattle.std.proofs.Common.{ℕ, Some, None, ap, ◌∙◌}
use Rattle.std.specs.Prelude.{nat_le, nat_lt}
use Rattle.mixer_spec.specs.Setups.{Setup}
use Rattle.mixer_spec.specs.Table.{Table}
use Rattle.terminal_scheduler.specs.UnawareStates.{UnawareState}
use Rattle.terminal_scheduler.specs.UnawareStanding.{IsTurn}
use Rattle.terminal_scheduler.proofs.UnawareTurning.{IsOver, Steps, is_asked_so, rests_so, sent_so, silent_so}
use Rattle.terminal_scheduler.proofs.unaware.UnawareScheduler.turn.Goals.{After-keep, After-or_repeats-is_sent, Then-not-is_sent}
use Rattle.terminal_scheduler.proofs.unaware.UnawareScheduler.turn.Goals as goal

steps : (c : After-or_repeats-is_sent) (s : Setup) (j : ℕ) (table : Table) (now : ℕ) → IsTurn s j table c.args.self.now c.args.slots.now c.args.names.now now c.args.media
    → Steps s j c.args.media table c.args.self.now c.ask-gave.new.self c.has_come-is_asked.result c.ask-gave.result (nat_lt 0 c.self-2.inside.left) c.or_repeats-is_sent.result c.ask-gave.new.text c.ask-gave.new.slots
steps c s j table now h =
    let o = c.args.self.now in
    record {
      asked_is = c.has_come-is_asked.ensures ∙ ap (λ (x : UnawareState). nat_le x.free_at c.args.media) c.self.view_is;
      composes = c.ask-gave.ensures.composes s table (table.terminals j).asks (is_asked_so s j table now c.args.media o c.args.slots.now c.args.names.now h) (rests_so s j table o h.stands);
      due_is = ap (λ (x : UnawareState). nat_lt 0 x.left) c.self-2.view_is;
      sends_is = c.or_repeats-is_sent.ensures;
      same = c.ask-gave.ensures.same;
      repeats = c.ask-gave.ensures.repeats;
      times = c.ask-gave.ensures.times;
    }

silent : (c : Then-not-is_sent) (s : Setup) (j : ℕ) (table : Table) (now : ℕ) → IsTurn s j table c.args.self.now c.args.slots.now c.args.names.now now c.args.media
    → IsOver s j now c.args.media table c.ask-gave.new.self c.ask-gave.new.slots None c.ask-gave.new.text
silent c s j table now h =
    silent_so s j now c.args.media table c.args.self.now c.ask-gave.new.self c.args.slots.now c.args.names.now _ _ _ c.or_repeats-is_sent.result c.ask-gave.new.text c.ask-gave.new.slots h (steps c.before s j table now h) c.if-not-is_sent.true

sent : (c : After-keep) (s : Setup) (j : ℕ) (table : Table) (now : ℕ) → IsTurn s j table c.args.self.now c.args.slots.now c.args.names.now now c.args.media
    → IsOver s j now c.args.media table c.keep.new.self c.ask-gave.new.slots (Some 0) c.ask-gave.new.text
sent c s j table now h =
    sent_so s j now c.args.media table c.args.self.now c.ask-gave.new.self c.keep.new.self c.args.slots.now c.args.names.now _ _ _ c.or_repeats-is_sent.result c.ask-gave.new.text c.ask-gave.new.slots h (steps c.before.before.before s j table now h) c.if-not-is_sent.false c.keep.ensures

pub returns-then-not-is_sent-clause-stands : goal.returns-then-not-is_sent-clause-stands
returns-then-not-is_sent-clause-stands c = λ s j table now h. (silent c s j table now h).stands

pub returns-then-not-is_sent-clause-waits : goal.returns-then-not-is_sent-clause-waits
returns-then-not-is_sent-clause-waits c = λ s j table now h. (silent c s j table now h).waits

pub returns-then-not-is_sent-clause-puts : goal.returns-then-not-is_sent-clause-puts
returns-then-not-is_sent-clause-puts c = λ s j table now h. (silent c s j table now h).puts

pub returns-clause-stands : goal.returns-clause-stands
returns-clause-stands c = λ s j table now h. (sent c s j table now h).stands

pub returns-clause-waits : goal.returns-clause-waits
returns-clause-waits c = λ s j table now h. (sent c s j table now h).waits

pub returns-clause-puts : goal.returns-clause-puts
returns-clause-puts c = λ s j table now h. (sent c s j table now h).puts
