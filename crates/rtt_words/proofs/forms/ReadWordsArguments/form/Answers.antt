use Rattle.std.proofs.Common.{refl}
use Rattle.clap.specs.Words.{app_of}
use Rattle.rtt_words.specs.Apps.{read_app, read_given}
use Rattle.rtt_words.specs.Words.{read_words}
use Rattle.rtt_words.proofs.Given.{read_agrees, form_by, form_is}
use Rattle.rtt_words.proofs.forms.ReadWordsArguments.form.Goals as goal

pub returns : goal.returns
returns c = form_by app_of c.command_with.result c.command_with.ensures (form_is read_app read_given read_words (refl, refl, λ _. refl, λ _. refl) read_agrees)
