use Rattle.std.proofs.Common.{arith}
use Rattle.std.proofs.Math.ListN.{drop_of_length-le}
use Rattle.recording_views.proofs.list_lines.PrintLine.clear.Goals as goal

pub returns : goal.returns
returns c = drop_of_length-le c.self.inside.octets {i = 256} (omega (arith, c.self.told))
