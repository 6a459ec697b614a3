use Rattle.text_conversions.proofs.Feeding.{goes_new}
use Rattle.text_conversions.proofs.readers.FrameReader.new.Goals as goal

pub returns : goal.returns
returns c = goes_new c.new.result c.new.ensures
