use Rattle.std.proofs.Common.{refl}
use Rattle.clap.specs.Words.{app_of}
use Rattle.rtt_words.specs.Apps.{version_app, version_given}
use Rattle.rtt_words.specs.Words.{version_words}
use Rattle.rtt_words.proofs.Given.{version_agrees, form_by, form_is}
use Rattle.rtt_words.proofs.forms.NoWordsArguments.form.Goals as goal

pub returns : goal.returns
returns c = form_by app_of c.command_with.result c.command_with.ensures (form_is version_app version_given version_words (refl, refl, λ _. refl, λ _. refl) version_agrees)
