use Rattle.std.proofs.Common.{refl}
use Rattle.packetizer.proofs.senders.Sender.new.Goals as goal

pub returns : goal.returns
returns c = record {
  script = tt;
  settings_is = refl;
  waits = c.in_ok-new.ensures;
  output = c.in_ok-new-2.ensures;
  last = refl;
}
