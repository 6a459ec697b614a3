use Rattle.std.proofs.Common.{sym, subst}
use Rattle.std.specs.Prelude.{IfOk}
use Rattle.rtt_words.specs.Commands.{sent, channelled}
use Rattle.rtt_top.specs.declared.conversions.Conversion.{Conversion}
use Rattle.rtt_top.specs.Conversions.{asked_for, output_of}
use Rattle.rtt_top.specs.Worlds.{OnlyMakes}
use Rattle.rtt_top.proofs.Converting.{of_script, of_frames, of_recording}
use Rattle.rtt_top.proofs.conversions.octets_of.Goals as goal

pub returns-in-Script-clause-made : goal.returns-in-Script-clause-made
returns-in-Script-clause-made g c =
    subst (λ (it : Conversion). IfOk c.recording_of.result (OnlyMakes g.W.World c.args.world.now (asked_for it) (output_of it))) (sym c.in-Script.is)
    (of_script g.W.World.tells (g.W.World.contents c.args.world.now) (sent c.in-Script.words) c.recording_of.result c.recording_of.ensures.made)

pub returns-in-Frames-clause-made : goal.returns-in-Frames-clause-made
returns-in-Frames-clause-made g c =
    subst (λ (it : Conversion). IfOk c.relayed.result (OnlyMakes g.W.World c.args.world.now (asked_for it) (output_of it))) (sym c.in-Frames.is)
    (of_frames g.W.World.tells (g.W.World.contents c.args.world.now) (sent c.in-Frames.words) c.relayed.result c.relayed.ensures.made)

pub returns-in-Recording-clause-made : goal.returns-in-Recording-clause-made
returns-in-Recording-clause-made g c =
    subst (λ (it : Conversion). IfOk c.frames_of.result (OnlyMakes g.W.World c.args.world.now (asked_for it) (output_of it))) (sym c.in-Recording.is)
    (of_recording g.W.World.tells (g.W.World.contents c.args.world.now) (channelled c.in-Recording.words) c.frames_of.result c.frames_of.ensures.made)
