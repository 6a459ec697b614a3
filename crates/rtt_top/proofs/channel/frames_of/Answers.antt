use Rattle.std.proofs.Common.{◌≡◌, ◌∙◌, true, sym, ap, subst}
use Rattle.rtpdump_io.specs.declared.items.DumpFault.{DumpFault}
use Rattle.rtpdump_io.specs.Reading.{is_of_source, source_of}
use Rattle.text_conversions.specs.declared.relay_faults.ChannelFault.TheVariants as channel_fault
use Rattle.rtt_words.specs.Words.{ChannelWords, Channel}
use Rattle.rtt_words.specs.Commands.{channelled}
use Rattle.rtt_top.specs.Outside.{RoseAt}
use Rattle.rtt_top.specs.Worlds.{OpenFailedIn, StopsOver}
use Rattle.rtt_top.proofs.Framing.{channel_stops, source_rose}
use Rattle.rtt_top.proofs.Sources.{source_failed}
use Rattle.rtt_top.proofs.channel.frames_of.Goals as goal

pub returns-in-Ok-written-clause-made : goal.returns-in-Ok-written-clause-made
returns-in-Ok-written-clause-made g c = λ told.
    let w : ChannelWords = channelled c.args.words.now in
    let octets = g.W.Src.Source.left c.in-Ok.source in
    let reads = c.in-Ok.ensures.told told in
    let is = c.new-reader.ensures.to_come in
    (octets, c.in-Ok.ensures.holds told, ap (λ r. r.fault) (sym is) ∙ c.in-Ok-written.ensures.whole reads, c.in-Ok-written.ensures.written reads octets is)

pub returns-in-Err-clause-stops : goal.returns-in-Err-clause-stops
returns-in-Err-clause-stops g c =
    let w : ChannelWords = channelled c.args.words.now in
    let old = c.args.world.now in
    let new = c.done_src.new.self in
    let octets = g.W.Src.Source.left c.in-Ok.source in
    let fault = c.in-Err.fault in
    let before = g.W.World.object_faults old in
    let after = g.W.World.object_faults new in
    let opened = source_of c.new-reader.result in
    let now = source_of c.channel_file-written.new.reader in
    let failed : (f : DumpFault) → fault ≡ channel_fault.Dump f → is_of_source f.kind ≡ true → RoseAt before after w.file = λ f e is.
    source_failed g.W.Src.Source.name g.W.Src.Source.faults before (g.W.World.object_faults c.open_source.new.self) after w.file
    opened now c.into_source.result
    (ap g.W.Src.Source.name c.new-reader.ensures.source ∙ c.in-Ok.ensures.named) (ap g.W.Src.Source.faults c.new-reader.ensures.source ∙ c.in-Ok.ensures.fresh)
    c.in-Err.ensures.source.same_name c.into_source.ensures c.in-Ok.ensures.same_objects c.done_src.ensures.added
    (source_rose g.W.Src.Source.faults opened now fault c.in-Err.ensures.source.failed f e is) in
    subst (λ f. StopsOver g.W.World old new w.file (Channel w) f) (sym c.fault_of_channel.ensures)
    (channel_stops g.W.World.tells (g.W.World.contents old) w (OpenFailedIn g.W.World old new w.file) (RoseAt before after w.file)
    octets fault failed
    (λ told. (c.in-Ok.ensures.holds told, c.in-Err.ensures.refused (c.in-Ok.ensures.told told) octets c.new-reader.ensures.to_come)))
