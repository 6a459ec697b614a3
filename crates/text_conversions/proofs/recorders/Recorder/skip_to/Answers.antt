use Rattle.std.proofs.Common.{◌≡◌, ◌≤◌, ℕ, Some, None, suc, sym, subst, ◌∙◌, arith}
use Rattle.std.specs.Prelude.{min}
use Rattle.command_spec.specs.Scripts.{events_until, events_through}
use Rattle.text_conversions.specs.Insides.{Records}
use Rattle.text_conversions.proofs.Steps.{skip_some, skip_none, typed_later}
use Rattle.text_conversions.proofs.recorders.Recorder.skip_to.Goals as goal
use Rattle.text_conversions.proofs.recorders.Recorder.skip_to.Goals.{in-Some, in-None}

pub returns-clause-at : goal.returns-clause-at
returns-clause-at c = λ settings lines a.
    let s = c.args.self.now.sender in
    let o = c.args.self.now.octets in
    let room : suc a.last ≤ c.args.at = omega (arith, a.now, c.requires.room) in
    elim c.match-next_due.branch [
      | in-Some w ↦ (
          let e : Some w.in-Some.due ≡ _ = w.in-Some.ensures settings (events_through lines a.last) a.records.sender in
          let n : c.match-next_due.self ≡ min w.in-Some.due c.args.at = w.self-is ∙ w.min-self.ensures in
          let r = skip_some settings s o lines a.last c.args.at w.in-Some.due a.records a.typed room c.requires.early e in
          record {
            records = subst (λ (k : ℕ). Records settings s o (events_until lines k)) (sym n) r.0;
            typed = typed_later lines a.last c.match-next_due.self a.typed (omega (arith, n, r.1));
          }
          )
      | in-None w ↦ (
          let e : None ≡ _ = w.in-None.ensures settings (events_through lines a.last) a.records.sender in
          let n : c.match-next_due.self ≡ c.args.at = w.self-is in
          record {
            records = subst (λ (k : ℕ). Records settings s o (events_until lines k)) (sym n) (skip_none settings s o lines a.last c.args.at a.records a.typed room c.requires.early e);
            typed = typed_later lines a.last c.match-next_due.self a.typed (omega (arith, n));
          }
          )
    ]

pub returns-clause-later : goal.returns-clause-later
returns-clause-later c = λ settings lines a.
    let room : suc a.last ≤ c.args.at = omega (arith, a.now, c.requires.room) in
    elim c.match-next_due.branch [
      | in-Some w ↦ (
          let e : Some w.in-Some.due ≡ _ = w.in-Some.ensures settings (events_through lines a.last) a.records.sender in
          let r = skip_some settings c.args.self.now.sender c.args.self.now.octets lines a.last c.args.at w.in-Some.due a.records a.typed room c.requires.early e in
          omega (arith, w.self-is, w.min-self.ensures, r.1, a.now)
          )
      | in-None w ↦ omega (arith, w.self-is, c.requires.room)
    ]
