use Rattle.std.proofs.Common.{ap}
use Rattle.std.specs.Prelude.{reverse}
use Rattle.std.proofs.lemmas.Str.{chars-encodes}
use Rattle.view_spec.proofs.text_laws.ends.Goals as goal

pub returns : goal.returns
returns c cs s = ap reverse (chars-encodes cs s)
