use Rattle.recording_views.proofs.Reading.{is_script}
use Rattle.recording_views.proofs.laws.transcripts_are_scripts.Goals as goal

pub returns : goal.returns
returns c = is_script
