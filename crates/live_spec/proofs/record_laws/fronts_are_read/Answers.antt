use Rattle.live_spec.specs.Recorded.{all_parts, recorded}
use Rattle.live_spec.proofs.Growing.{files_good}
use Rattle.live_spec.proofs.RecordFronts.{fronts_read}
use Rattle.live_spec.proofs.record_laws.fronts_are_read.Goals as goal

pub returns : goal.returns
returns c = λ start n past short there. fronts_read start n (all_parts (recorded start past)) there (files_good start past short)
