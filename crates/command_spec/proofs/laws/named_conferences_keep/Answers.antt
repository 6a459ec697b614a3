use Rattle.command_spec.specs.Attending.{says_of}
use Rattle.command_spec.proofs.Naming.{named_conference}
use Rattle.command_spec.proofs.laws.named_conferences_keep.Goals as goal

pub returns : goal.returns
returns c = λ conference inputs keeps. named_conference (says_of conference inputs) conference keeps
