use Rattle.std.proofs.Common.{◌≡◌, ℕ, Some, List, [], ◌∷◌, ◌++◌, length, length-append, ap, subst, sym, arith}
use Rattle.std.specs.Prelude.{slice_get}
use Rattle.terminal_scheduler.specs.declared.schedulers.TerminalScheduler.{TerminalScheduler}
use Rattle.file_spec.specs.Conferences.{meaning_of}
use Rattle.mixer.specs.Making.{IsMade}
use Rattle.mixer.proofs.Made.{made_more}
use Rattle.mixer.proofs.builders.schedulers_of.Goals as goal

pub loop-own-preserved : goal.loop-own-preserved
loop-own-preserved c =
    let old = c.loop-own.schedulers.items in
    let o = c.in_ok-scheduler.scheduler in
    let pushed : c.push.new.self.items ≡ old ++ o ∷ [] = c.in_ok-push.ensures.items in
    let new : IsMade (meaning_of c.args.conference.now) (length old) o = subst (λ (i : ℕ). IsMade (meaning_of c.args.conference.now) i o) (sym c.loop-own.invariant.count) c.in_ok-scheduler.ensures in
    record {
      count = omega (arith, ap (λ (xs : List TerminalScheduler). length xs) pushed, length-append old (o ∷ []), c.loop-own.invariant.count);
      each = subst (λ (xs : List TerminalScheduler). (j : ℕ) (p : TerminalScheduler) → slice_get xs j ≡ Some p → IsMade (meaning_of c.args.conference.now) j p) (sym pushed) (made_more (meaning_of c.args.conference.now) old o c.loop-own.invariant.each new);
    }

pub returns : goal.returns
returns c = record {
  count = omega (arith, c.loop-own-test.false, c.loop-own.auto.own-end, c.len-own-end.ensures, c.loop-own.invariant.count);
  each = c.loop-own.invariant.each;
}
