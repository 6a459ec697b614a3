use Rattle.std.proofs.Common.{◌<◌, ap, ◌∙◌, arith}
use Rattle.std.proofs.lemmas.Bool.{lt-ltb}
use Rattle.file_spec.specs.Stays.{is_before_end}
use Rattle.mix_loop.proofs.ports.end_of.Goals as goal

pub returns-in-Some : goal.returns-in-Some
returns-in-Some c = λ t l. let low : t < c.in-Some.until = omega (arith, l, c.from.ensures) in ap (is_before_end t) c.in-Some.is ∙ lt-ltb t c.in-Some.until low

pub returns-in-None : goal.returns-in-None
returns-in-None c = λ t l. ap (is_before_end t) c.in-None.is
