use Rattle.std.proofs.Common.{◌<◌, length, refl, subst, sym}
use Rattle.packetizer.specs.OutputStates.{State}
use Rattle.stream_spec.specs.Own.{sent_of}
use Rattle.packetizer.specs.Speakers.{text_of}
use Rattle.packetizer.specs.OutputStanding.{PacketizerStandsFor, source_at}
use Rattle.packetizer.proofs.Speaking.{within, speaker_is, kept_after}
use Rattle.packetizer.proofs.outputs.Packetizer.keep.Goals as goal

pub returns-clause-stands : goal.returns-clause-stands
returns-clause-stands c = λ settings sources past media s q n.
    let r = subst (λ (st : State). PacketizerStandsFor settings sources st past) (sym c.self.view_is) s in
    let there : c.args.source < length c.self.inside.speakers.items = subst (λ (st : State). c.args.source < length st.speakers) (sym c.self.view_is) c.requires.source in
    let l = within settings sources _ past c.args.source r there in
    let speaker = speaker_is settings sources _ past c.args.source c.index_mut.result.now r there c.index_mut.ensures.value in
    let e = text_of sources c.args.source media c.args.text.now in
    let kept = c.keep.ensures settings.generations settings.timestamp (source_at sources c.args.source) (sent_of (source_at sources c.args.source) past) e speaker q refl in
    kept_after settings sources past e c.args.source _ _ c.keep.new.self r n l refl kept refl refl refl
