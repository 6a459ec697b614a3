use Rattle.std.proofs.Common.{refl}
use Rattle.clap.specs.Words.{app_of}
use Rattle.rtt_words.specs.Apps.{list_app, list_given}
use Rattle.rtt_words.specs.Words.{list_words}
use Rattle.rtt_words.proofs.Given.{list_agrees, form_by, form_is}
use Rattle.rtt_words.proofs.forms.ListWordsArguments.form.Goals as goal

pub returns : goal.returns
returns c = form_by app_of c.command_with.result c.command_with.ensures (form_is list_app list_given list_words (refl, refl, λ _. refl, λ _. refl) list_agrees)
