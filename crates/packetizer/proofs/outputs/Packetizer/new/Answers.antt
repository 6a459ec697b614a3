use Rattle.std.proofs.Common.{◌++◌, ◌∷◌, [], List, refl, ap, ◌∙◌, arith}
use Rattle.packetizer.specs.declared.speakers.Speaker.{Speaker}
use Rattle.packetizer.proofs.Speaking.{new_speakers, all_taken}
use Rattle.packetizer.proofs.outputs.Packetizer.new.Goals as goal

pub loop-source-init : goal.loop-source-init
loop-source-init c = c.new-speakers.ensures.items

pub loop-source-preserved : goal.loop-source-preserved
loop-source-preserved c =
    c.in_ok-push.ensures.items
    ∙ (ap (λ (xs : List Speaker). xs ++ c.new.result ∷ []) c.loop-source.invariant
    ∙ new_speakers c.args.settings c.args.sources.now c.loop-source.source-index c.new.result c.loop-source-test.true (c.new.ensures c.args.settings.timestamp))

pub returns : goal.returns
returns c = record {
  sent = tt;
  distinct = c.requires.distinct;
  settings_is = refl;
  seq = omega arith;
  speakers = c.loop-source.invariant ∙ all_taken c.args.settings c.args.sources.now c.loop-source.source-index c.loop-source-test.false;
}
