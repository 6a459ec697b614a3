use Rattle.std.proofs.Common.{[], ap, subst, sym, ◌∙◌, length, arith}
use Rattle.std.proofs.lemmas.List.{length-map}
use Rattle.mixer_spec.specs.Setups.{setup}
use Rattle.file_spec.specs.Conferences.{meaning_of}
use Rattle.mixer.specs.States.{State}
use Rattle.mixer.specs.Standing.{MixerStandsFor}
use Rattle.mixer_posts.specs.Streams.{payload_types_at}
use Rattle.sent_log.specs.States as logs
use Rattle.sent_log.specs.States.{Sending}
use Rattle.rtt_mix.specs.Logs.{HasSent, sources_in}
use Rattle.rtt_mix.proofs.log_mixers.recording_mixer.Goals as goal

pub returns-clause-stands : goal.returns-clause-stands
returns-clause-stands c =
    let conference = meaning_of c.args.conference.now in
    let made = c.new-4.ensures in
    let log = c.in-Ok-new-2.ensures in
    record {
      stands = subst (λ (m : State). MixerStandsFor (setup conference) m []) (sym made.mixer) c.in-Ok.ensures.stands;
      sent = subst (λ (l : logs.State). HasSent (setup conference) (payload_types_at conference) l []) (sym made.outbound) log.silent;
      all = ap (λ (l : logs.State). length (sources_in l)) made.outbound ∙ (length-map c.in-Ok-new-2.log (λ (x : Sending). length x.sources) ∙ log.terminals);
      early = tt;
      few = omega arith;
    }
