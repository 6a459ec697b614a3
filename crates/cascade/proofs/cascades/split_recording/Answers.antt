use Rattle.std.proofs.Common.{◌≡◌, ◌≢◌, ◌≤◌, ℕ, List, Result, ap, sym, subst, ◌∙◌, arith}
use Rattle.std.specs.Prelude.{AllPairs, IfErr, IfOk, None, OnOk, map}
use Rattle.rtt_io.specs.Counts.{Rose}
use Rattle.wire_spec.specs.Dump.{dump}
use Rattle.rtpdump_io.specs.declared.items.RecordingFault.{RecordingFault}
use Rattle.rtpdump_io.specs.Faults.{FaultOf, IsSourceFault}
use Rattle.file_spec.specs.declared.conference_lines.LegLine.{LegLine}
use Rattle.file_spec.specs.Conferences.{meaning_of}
use Rattle.command_spec.specs.Splitting.{Trunk, splits}
use Rattle.command_spec.specs.Cascading.{trunk_limit}
use Rattle.cascade.specs.declared.splits.Splits.{Splits}
use Rattle.cascade.specs.Splits.{recordings_of}
use Rattle.cascade.specs.Splits as splitting
use Rattle.cascade.specs.declared.faults.CascadeFault.{CascadeFault}
use Rattle.cascade.specs.Cascades.{IsFirst, IsUnsplit}
use Rattle.cascade.proofs.Ending.{are_splits, unsplit_first}
use Rattle.cascade.proofs.Recorded.{limit_fits, risen, ssrcs_differ, unsplit}
use Rattle.cascade.proofs.cascades.split_recording.Goals as goal

pub split-source-requires-clause-t140 : goal.split-source-requires-clause-t140
split-source-requires-clause-t140 g c =
    let e : c.demux_settings.result.payload_types.t140 ≡ 98 = ap (λ (t : Trunk). t.payload_types.t140) (c.demux_settings.ensures c.args.ssrc) in
    omega (arith, e)

pub split-source-requires-clause-wait : goal.split-source-requires-clause-wait
split-source-requires-clause-wait g c =
    let e : c.demux_settings.result.wait ≡ c.args.conference.now.wait = ap (λ (t : Trunk). t.wait) (c.demux_settings.ensures c.args.ssrc) in
    omega (arith, e, c.args.conference.now.kept.wait)

pub split-source-requires-clause-limit : goal.split-source-requires-clause-limit
split-source-requires-clause-limit g c =
    let e : c.demux_settings.result.limit ≡ trunk_limit (meaning_of c.args.conference.now) = ap (λ (t : Trunk). t.limit) (c.demux_settings.ensures c.args.ssrc) in
    subst (λ n. n ≤ 4194304) (sym e) (limit_fits (meaning_of c.args.conference.now))

pub split-source-requires-clause-differ : goal.split-source-requires-clause-differ
split-source-requires-clause-differ g c =
    let from : c.as_slice-2.result.now ≡ map (λ (leg : LegLine). leg.ssrc) c.args.conference.now.legs =
    c.as_slice-2.ensures.value ∙ (c.in-Ok.ensures ∙ ap (λ (ls : List LegLine). map (λ (leg : LegLine). leg.ssrc) ls) c.as_slice.ensures) in
    subst (λ (xs : List ℕ). AllPairs (λ a b. a ≢ b) xs) (sym from) (ssrcs_differ c.args.conference.now.legs c.args.conference.now.kept.legs.differ)

pub returns-in-Ok-splits-clause-splits : goal.returns-in-Ok-splits-clause-splits
returns-in-Ok-splits-clause-splits g c = λ told.
    let octets = g.W.Src.Source.left c.in-Ok-open_source.source in
    let tells = c.in-Ok-open_source.ensures.told told in
    let from : c.as_slice-2.result.now ≡ map (λ (leg : LegLine). leg.ssrc) c.args.conference.now.legs =
    c.as_slice-2.ensures.value ∙ (c.in-Ok.ensures ∙ ap (λ (ls : List LegLine). map (λ (leg : LegLine). leg.ssrc) ls) c.as_slice.ensures) in
    are_splits (g.W.World.contents c.args.world.now) c.args.file.now c.args.ssrc (meaning_of c.args.conference.now) c.in-Ok-splits.splits octets (splitting.trunk_of c.args.ssrc c.demux_settings.result) c.as_slice-2.result.now
    (c.demux_settings.ensures c.args.ssrc) (c.in-Ok-open_source.ensures.holds told)
    (subst (λ (r : Result Splits RecordingFault). OnOk r ((dump c.demux_settings.result.limit octets).fault ≡ None)) c.in-Ok-splits.is (c.split-source.ensures.whole tells))
    from
    (subst (λ (r : Result Splits RecordingFault). IfOk r (λ s. recordings_of s ≡ splits (splitting.trunk_of c.args.ssrc c.demux_settings.result) c.as_slice-2.result.now octets)) c.in-Ok-splits.is (c.split-source.ensures.splits tells))

pub returns-clause-unsplit : goal.returns-clause-unsplit
returns-clause-unsplit g c =
    let octets = g.W.Src.Source.left c.in-Ok-open_source.source in
    let own = g.W.World.own_faults in
    let objects = g.W.World.object_faults in
    let file = c.args.file.now in
    let faults = g.W.Src.Source.faults in
    let name = g.W.Src.Source.name in
    let Call = Rose (own c.args.world.now file) (own c.done_src.new.self file) in
    let Object = Rose (objects c.args.world.now file) (objects c.done_src.new.self file) in
    let held = g.W.World.contents c.args.world.now in
    let failed : IsSourceFault c.in-Err.fault → Rose (faults c.in-Ok-open_source.source) (faults c.split-source.result.0) =
    subst (λ (r : Result Splits RecordingFault). IfErr r (λ f. IsSourceFault f → Rose (faults c.in-Ok-open_source.source) (faults c.split-source.result.0))) c.in-Err.is c.split-source.ensures.failed in
    record {
      cause =
          subst (λ (f : CascadeFault). IsUnsplit g.W.World.tells Call Object held file (meaning_of c.args.conference.now) f) (sym c.trunk_fault.ensures)
          (unsplit g.W.World.tells Call Object held file c.args.ssrc (meaning_of c.args.conference.now) octets (splitting.trunk_of c.args.ssrc c.demux_settings.result) c.in-Err.fault
          (c.demux_settings.ensures c.args.ssrc) c.in-Ok-open_source.ensures.holds
          (λ of. risen (objects c.args.world.now) (objects c.open_source.new.self) (objects c.done_src.new.self) file (name c.split-source.result.0) (faults c.in-Ok-open_source.source) (faults c.split-source.result.0)
          c.in-Ok-open_source.ensures.same_objects (c.split-source.ensures.same_name ∙ c.in-Ok-open_source.ensures.named) c.in-Ok-open_source.ensures.fresh c.done_src.ensures.added (failed of))
          (λ told. subst (λ (r : Result Splits RecordingFault). IfErr r (FaultOf (dump c.demux_settings.result.limit octets))) c.in-Err.is (c.split-source.ensures.fault (c.in-Ok-open_source.ensures.told told))));
      first =
          subst (λ (f : CascadeFault). IsFirst g.W.World.tells held file c.args.conference.now.legs (own c.args.world.now) (own c.done_src.new.self) f) (sym c.trunk_fault.ensures)
          (unsplit_first g.W.World.tells held file c.args.conference.now.legs (own c.args.world.now) (own c.done_src.new.self) c.in-Err.fault
          (λ n. c.done_src.ensures.same_own n ∙ c.in-Ok-open_source.ensures.calm n));
    }

pub returns-in-Ok-splits-clause-opened : goal.returns-in-Ok-splits-clause-opened
returns-in-Ok-splits-clause-opened g c = λ n. c.done_src.ensures.same_own n ∙ c.in-Ok-open_source.ensures.calm n
