use Rattle.std.proofs.Common.{◌≡◌, ◌+◌, ◌≤◌, List, length, ap, subst, sym, ◌∙◌, arith}
use Rattle.std.specs.Prelude.{All, map}
use Rattle.sent_log.specs.declared.terminals.TerminalLog.{TerminalLog}
use Rattle.sent_log.specs.Insides.{IsTerminal, sending_of}
use Rattle.sent_log.proofs.Growing.{lists_same, lists_still}
use Rattle.sent_log.proofs.Noting.{added_all, added_still}
use Rattle.sent_log.proofs.logs.SentLog.add.Goals as goal
use Rattle.wire_spec.proofs.Plain.{on_err}

pub invariant_of-self : goal.invariant_of-self
invariant_of-self c = lists_still c.self.inside c.make_lists.new.texts.items c.make_lists.ensures.grows c.self.invariant

pub returns-in_err-make_lists-clause-err : goal.returns-in_err-make_lists-clause-err
returns-in_err-make_lists-clause-err c = on_err _ _ (lists_same c.self.inside _ c.make_lists.new.texts.items c.make_lists.ensures.grows c.self.invariant c.self.view_is)

pub invariant_of-self-in_err-runs : goal.invariant_of-self-in_err-runs
invariant_of-self-in_err-runs c = lists_still c.self.inside c.make_lists.new.texts.items c.make_lists.ensures.grows c.self.invariant

pub returns-in_err-runs-clause-err : goal.returns-in_err-runs-clause-err
returns-in_err-runs-clause-err c = on_err _ _ (lists_same c.self.inside _ c.make_lists.new.texts.items c.make_lists.ensures.grows c.self.invariant c.self.view_is)

pub invariant_of-self-in_err-push : goal.invariant_of-self-in_err-push
invariant_of-self-in_err-push c =
    let i = c.self.inside in
    let texts = c.make_lists.new.texts.items in
    subst (λ (ts : List TerminalLog). All (IsTerminal i.turns.items texts) ts) (sym {A = List TerminalLog} c.in_err-push.ensures.items)
    (lists_still i texts c.make_lists.ensures.grows c.self.invariant)

pub returns-in_err-push-clause-err : goal.returns-in_err-push-clause-err
returns-in_err-push-clause-err c =
    let i = c.self.inside in
    let texts = c.make_lists.new.texts.items in
    on_err _ _ (ap (λ (ts : List TerminalLog). map (sending_of i.turns.items texts) ts) c.in_err-push.ensures.items
    ∙ lists_same i _ texts c.make_lists.ensures.grows c.self.invariant c.self.view_is)

pub invariant_of-self-2 : goal.invariant_of-self-2
invariant_of-self-2 c =
    let i = c.self.inside in
    let texts = c.make_lists.new.texts.items in
    let sources = c.args.sources in
    let runs = c.in_ok-runs.runs in
    let t : TerminalLog = record { settings = c.args.settings; sources = sources; first = c.first_list-first.result; runs = runs; entries = c.new.result } in
    let before = lists_still i texts c.make_lists.ensures.grows c.self.invariant in
    let lists : t.first + length sources.items ≤ length texts = omega (arith, c.in_ok-make_lists.ensures.ok, c.len-3.ensures, sources.ok.0) in
    let as_many : length runs.items ≡ length sources.items = omega (arith, c.in_ok-runs.ensures.count, c.len-4.ensures, sources.ok.0, runs.ok.0) in
    subst (λ (ts : List TerminalLog). All (IsTerminal i.turns.items texts) ts) (sym {A = List TerminalLog} c.in_ok-push.ensures.items)
    (added_still i.turns.items texts i.terminals.items t before c.requires.settings c.requires.distinct lists as_many c.in_ok-runs.ensures.empty c.new.ensures.items)

pub returns-clause-ok : goal.returns-clause-ok
returns-clause-ok c =
    let i = c.self.inside in
    let texts = c.make_lists.new.texts.items in
    let t : TerminalLog = record { settings = c.args.settings; sources = c.args.sources; first = c.first_list-first.result; runs = c.in_ok-runs.runs; entries = c.new.result } in
    let before = lists_same i _ texts c.make_lists.ensures.grows c.self.invariant c.self.view_is in
    ap (λ (ts : List TerminalLog). map (sending_of i.turns.items texts) ts) c.in_ok-push.ensures.items
    ∙ added_all i.turns.items texts i.terminals.items t c.args.self.now before c.new.ensures.items
