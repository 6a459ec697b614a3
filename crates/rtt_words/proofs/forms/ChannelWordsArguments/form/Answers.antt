use Rattle.std.proofs.Common.{refl}
use Rattle.clap.specs.Words.{app_of}
use Rattle.rtt_words.specs.Apps.{channel_app, channel_given}
use Rattle.rtt_words.specs.Words.{channel_words}
use Rattle.rtt_words.proofs.Given.{channel_agrees, form_by, form_is}
use Rattle.rtt_words.proofs.forms.ChannelWordsArguments.form.Goals as goal

pub returns : goal.returns
returns c = form_by app_of c.command_with.result c.command_with.ensures (form_is channel_app channel_given channel_words (refl, refl, λ _. refl, λ _. refl) channel_agrees)
