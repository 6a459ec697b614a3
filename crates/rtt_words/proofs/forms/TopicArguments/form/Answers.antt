use Rattle.std.proofs.Common.{refl}
use Rattle.clap.specs.Words.{app_of}
use Rattle.rtt_words.specs.Apps.{help_app, help_given}
use Rattle.rtt_words.specs.Words.{help_words}
use Rattle.rtt_words.proofs.Given.{help_agrees, form_by, form_is}
use Rattle.rtt_words.proofs.forms.TopicArguments.form.Goals as goal

pub returns : goal.returns
returns c = form_by app_of c.command_with.result c.command_with.ensures (form_is help_app help_given help_words (refl, refl, λ _. refl, λ _. refl) help_agrees)
