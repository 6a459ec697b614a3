use Rattle.mixer.proofs.laws.batches_are_sent.Goals as goal
use Rattle.mixer.proofs.Going.{put_out_law}

pub returns : goal.returns
returns c = put_out_law
