use Rattle.std.proofs.Common.{sym, subst}
use Rattle.command_spec.specs.Frames.{AreTyped}
use Rattle.text_conversions.proofs.RelayLines.{frames_typed}
use Rattle.text_conversions.proofs.relays.relay_frames.Goals as goal

pub send_script-requires-clause-lines : goal.send_script-requires-clause-lines
send_script-requires-clause-lines c = subst (λ lines. AreTyped lines) (sym c.in-Ok.ensures.lines) (frames_typed c.args.frames.now)
