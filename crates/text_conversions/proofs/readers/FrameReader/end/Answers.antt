use Rattle.std.proofs.Common.{◌∙◌, sym, refl}
use Rattle.std.proofs.lemmas.Bool.{eqb-true, eqb-false}
use Rattle.text_conversions.proofs.Feeding.{ends_whole, ends_inside, ends_so}
use Rattle.text_conversions.proofs.readers.FrameReader.end.Goals as goal

pub returns-in-Some : goal.returns-in-Some
returns-in-Some c = λ octets s. ends_so c.args.self.now octets c.in-Some.fault c.in-Some.is s

pub returns-then-is_empty : goal.returns-then-is_empty
returns-then-is_empty c = λ octets s. ends_whole c.args.self.now octets c.in_default.is c.args.self.now.begun (eqb-true _ _ (sym c.is_empty.ensures ∙ c.if-is_empty.true)) s

pub returns : goal.returns
returns c = λ octets s. ends_inside c.args.self.now octets _ c.in_default.is c.args.self.now.begun (eqb-false _ _ (sym c.is_empty.ensures ∙ c.if-is_empty.false)) refl s
