use Rattle.std.proofs.Common.{◌≡◌, List, length, ap, sym, ◌∙◌, subst, arith}
use Rattle.std.specs.Prelude.{All, ◌<◌, map}
use Rattle.std.proofs.lemmas.List.{with_items_is}
use Rattle.command_spec.specs.Splitting.{chunks_of}
use Rattle.cascade.specs.declared.splitters.SourceRecording.{SourceRecording}
use Rattle.cascade.specs.Dividers.{ClosesAll}
use Rattle.cascade.proofs.Gathering.{all_split, all_typed}
use Rattle.cascade.proofs.dividers.Demux.finish.Goals as goal

pub close_all-requires : goal.close_all-requires
close_all-requires c =
    let r = c.requires.listens in
    let a = c.in_ok-end.ensures.ends r.0 r.1 r.2 r.3 in
    record {
      t140 = subst (λ (xs : List SourceRecording). All (λ (s : SourceRecording). s.payload_types.t140 < 128) xs) (sym c.as_mut_slice.ensures.value)
          (all_typed r.0.payload_types r.1 c.end.new.self.splitters.items (λ s. chunks_of r.0.wait r.2 s) a.t140 a.each a.splits);
    }

pub returns : goal.returns
returns c = record {
  splits = λ t sources past l.
      let splitters = c.end.new.self.splitters in
      let size : length c.close_all.new.splitters ≡ splitters.len = omega (arith, c.close_all.auto.splitters, ap (λ (xs : List SourceRecording). length xs) c.as_mut_slice.ensures.value, splitters.ok.0) in
      let closes : ClosesAll splitters.items c.close_all.new.splitters = subst (λ (xs : List SourceRecording). ClosesAll xs c.close_all.new.splitters) c.as_mut_slice.ensures.value c.in_ok-close_all.ensures.closes in
      ap (λ (xs : List SourceRecording). map (λ (s : SourceRecording). s.octets) xs) (with_items_is splitters c.close_all.new.splitters size)
      ∙ all_split t sources past splitters.items c.close_all.new.splitters (c.in_ok-end.ensures.ends t sources past l) closes;
}
