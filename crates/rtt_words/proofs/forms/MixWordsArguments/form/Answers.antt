use Rattle.std.proofs.Common.{refl}
use Rattle.clap.specs.Words.{app_of}
use Rattle.rtt_words.specs.Apps.{mix_app, mix_given}
use Rattle.rtt_words.specs.Words.{mix_words}
use Rattle.rtt_words.proofs.Given.{mix_agrees, form_by, form_is}
use Rattle.rtt_words.proofs.forms.MixWordsArguments.form.Goals as goal

pub returns : goal.returns
returns c = form_by app_of c.command_with.result c.command_with.ensures (form_is mix_app mix_given mix_words (refl, refl, λ _. refl, λ _. refl) mix_agrees)
