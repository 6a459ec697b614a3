use Rattle.std.proofs.Common.{◌<◌, length, arith, sym, subst}
use Rattle.std.specs.Prelude.{IsUtf8}
use Rattle.receiver.specs.declared.source_texts.SourceText.{SourceText}
use Rattle.rtt_mix.proofs.showing.add_sources.Goals as goal

pub add_source-requires : goal.add_source-requires
add_source-requires c =
    let below : c.loop-index.index < length c.args.texts.now = omega arith in
    subst (λ (t : SourceText). IsUtf8 t.text) (sym c.index-texts-index.is) (c.requires.utf8 c.loop-index.index c.index-texts-index.result below)
