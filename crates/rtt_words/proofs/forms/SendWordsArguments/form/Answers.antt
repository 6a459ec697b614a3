use Rattle.std.proofs.Common.{refl}
use Rattle.clap.specs.Words.{app_of}
use Rattle.rtt_words.specs.Apps.{send_app, send_given}
use Rattle.rtt_words.specs.Words.{send_words}
use Rattle.rtt_words.proofs.Given.{send_agrees, form_by, form_is}
use Rattle.rtt_words.proofs.forms.SendWordsArguments.form.Goals as goal

pub returns : goal.returns
returns c = form_by app_of c.command_with.result c.command_with.ensures (form_is send_app send_given send_words (refl, refl, λ _. refl, λ _. refl) send_agrees)
