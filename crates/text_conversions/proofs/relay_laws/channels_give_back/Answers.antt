use Rattle.text_conversions.proofs.Back.{given_back}
use Rattle.text_conversions.proofs.relay_laws.channels_give_back.Goals as goal

pub returns : goal.returns
returns c = given_back
