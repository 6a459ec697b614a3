use Rattle.std.proofs.Common.{arith}
use Rattle.receiver.proofs.Plain.{plain_stands, plain_primary}
use Rattle.receiver.proofs.receivers.Receiver.take_plain_piece.Goals as goal

pub returns-clause-stands : goal.returns-clause-stands
returns-clause-stands c t sources us time s = plain_stands c.args.self.now c.keep.new.self c.args.number c.in-Some.only c.args.view.now sources us time s c.requires.rises (omega (arith, c.ranges.number.fits)) c.in-Some.ensures c.keep.ensures

pub returns-clause-heard : goal.returns-clause-heard
returns-clause-heard c t source us time s = plain_primary c.args.self.now c.keep.new.self c.args.number c.in-Some.only c.args.view.now source us time s c.requires.rises (omega (arith, c.ranges.number.fits)) c.in-Some.ensures c.keep.ensures
