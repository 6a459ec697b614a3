use Rattle.std.proofs.Common.{◌∙◌, ℕ, List, length, ap, sym, subst}
use Rattle.terminal.specs.declared.settings.TerminalSettings.{TerminalSettings}
use Rattle.terminal.specs.Terminals.{Heard}
use Rattle.live_spec.specs.Served.{came_at_once}
use Rattle.rtt_live.specs.Listeners.{HasHeard, Listening}
use Rattle.rtt_live.proofs.listeners.Listener.finished.Goals as goal

pub returns-clause-heard : goal.returns-clause-heard
returns-clause-heard c = λ given h.
    let made = c.is_made_with.ensures c.if-not-is_made_with.false in
    let inside = c.self.inside in
    let items = came_at_once given in
    let heard = c.in_ok-finish.ensures.heard inside.settings inside.sources.items items (subst (λ (l : Listening). HasHeard l given) (sym c.self.view_is) h) in
    subst (λ (xs : List ℕ). Heard c.finish.new.self c.args.settings xs items) (ap (λ (l : Listening). l.sources) c.self.view_is ∙ made.1)
    (subst (λ (q : TerminalSettings). Heard c.finish.new.self q inside.sources.items items) (ap (λ (l : Listening). l.settings) c.self.view_is ∙ made.0) heard)

pub returns-clause-each : goal.returns-clause-each
returns-clause-each c =
    let made = c.is_made_with.ensures c.if-not-is_made_with.false in
    let inside = c.self.inside in
    let h = c.self.invariant.heard c.in_ok-finish.ensures.whole in
    (c.in_ok-finish.ensures.heard inside.settings inside.sources.items (came_at_once h.0) h.1).each
    ∙ ap (λ (xs : List ℕ). length xs) (ap (λ (l : Listening). l.sources) c.self.view_is ∙ made.1)
