use Rattle.std.proofs.Common.{◌≡◌, ◌<◌, ℕ, zero, suc, [], ◌∷◌, length, refl, arith}
use Rattle.sent_log.specs.States.{HasSource, OfTerminal, State}
use Rattle.sent_log.proofs.tests.send.Goals as goal

has_source : (log : State) (terminal source n : ℕ) → terminal < length log → OfTerminal log terminal (λ x. n ≡ length x.sources) → source < n → HasSource log terminal source
has_source [] terminal source n l o p = absurd (omega arith)
has_source (x ∷ log) zero source n l o p = omega (arith, o x refl, p)
has_source (x ∷ log) (suc terminal) source n l o p = has_source log terminal source n (omega arith) o p

pub send-requires-clause-source : goal.send-requires-clause-source
send-requires-clause-source g c =
    has_source c.args.log.now c.args.terminal c.args.sent.now.source (length c.in_ok-pen.pen.sources.items) (omega arith) (λ x at. (c.in_ok-pen.ensures x at).each) (omega (arith, c.in_ok-pen.pen.sources.ok.0))
