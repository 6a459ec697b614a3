use Rattle.live_spec.proofs.HeardLive.{one_sender, unfollowed}
use Rattle.live_spec.proofs.serve_laws.one_sender_is_heard.Goals as goal

pub returns-clause-heard : goal.returns-clause-heard
returns-clause-heard c = one_sender

pub returns-clause-unfollowed : goal.returns-clause-unfollowed
returns-clause-unfollowed c = unfollowed
