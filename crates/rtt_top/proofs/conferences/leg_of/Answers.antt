use Rattle.std.proofs.Common.{sym, arith}
use Rattle.rtt_top.proofs.conferences.leg_of.Goals as goal
use Rattle.mixer_spec.proofs.Conferences.{no_leg as leg_behind}
use Rattle.rtt_mix.proofs.Opening.{leg_read_at as leg_read}

pub returns-then-legs-number : goal.returns-then-legs-number
returns-then-legs-number c = sym (leg_behind c.args.legs.now c.args.number c.if-legs-number.true)

pub returns : goal.returns
returns c = sym (leg_read c.args.legs.now c.args.number c.index-legs-number.result (omega (arith, c.if-legs-number.false)) c.index-legs-number.is)
