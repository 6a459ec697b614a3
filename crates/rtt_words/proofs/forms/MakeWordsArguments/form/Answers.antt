use Rattle.std.proofs.Common.{refl}
use Rattle.clap.specs.Words.{app_of}
use Rattle.rtt_words.specs.Apps.{make_app, make_given}
use Rattle.rtt_words.specs.Words.{make_words}
use Rattle.rtt_words.proofs.Given.{make_agrees, form_by, form_is}
use Rattle.rtt_words.proofs.forms.MakeWordsArguments.form.Goals as goal

pub returns : goal.returns
returns c = form_by app_of c.command_with.result c.command_with.ensures (form_is make_app make_given make_words (refl, refl, λ _. refl, λ _. refl) make_agrees)
