use Rattle.mixer_posts.proofs.Entering.{entered_law}
use Rattle.mixer_posts.proofs.laws.posts_are_entered.Goals as goal

pub returns : goal.returns
returns c = entered_law
