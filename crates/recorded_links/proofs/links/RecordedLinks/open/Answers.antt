use Rattle.std.proofs.Common.{length, sym, subst}
use Rattle.std.specs.Prelude.{All}
use Rattle.recorded_links.specs.Kept.{IsPlaceIn}
use Rattle.recorded_links.specs.Recordings.{HaveOwnNames}
use Rattle.recorded_links.proofs.Keeping.{none_opened}
use Rattle.recorded_links.proofs.links.RecordedLinks.open.Goals as goal

pub invariant_of-tracks : goal.invariant_of-tracks
invariant_of-tracks g c = record {
  are = sym c.requires.recordings;
  apart = λ tells. subst HaveOwnNames (sym c.requires.recordings) (c.args.recording.apart tells);
  have = c.args.recording.have;
}

pub invariant_of-tracks-2 : goal.invariant_of-tracks-2
invariant_of-tracks-2 g c = record {
  are = sym c.requires.recordings;
  apart = λ tells. subst HaveOwnNames (sym c.requires.recordings) (c.args.recording.apart tells);
  have = c.args.recording.have;
}

pub over-requires-clause-placed : goal.over-requires-clause-placed
over-requires-clause-placed g c κs within = subst (λ rs. All (IsPlaceIn rs) c.args.recording.places.items) (sym c.requires.recordings) c.args.recording.placed

pub over-requires-clause-kept : goal.over-requires-clause-kept
over-requires-clause-kept g c κs within = λ tells.
    let l = g.L.Links in
    let links = c.args.links in
    none_opened (g.L.In.LinkIn.tells × g.L.Out.LinkOut.tells) (l.opened links) g.C.Call.before (l.leads links) (l.taken_at links) (l.given_at links) (length c.args.recording.tracks.items) c.args.recording.places.items c.requires.before c.args.recording.fresh

pub over-requires-in-Ok-start-clause-placed : goal.over-requires-in-Ok-start-clause-placed
over-requires-in-Ok-start-clause-placed g c κs within = subst (λ rs. All (IsPlaceIn rs) c.args.recording.places.items) (sym c.requires.recordings) c.args.recording.placed

pub over-requires-in-Ok-start-clause-kept : goal.over-requires-in-Ok-start-clause-kept
over-requires-in-Ok-start-clause-kept g c κs within = λ tells.
    let l = g.L.Links in
    let links = c.args.links in
    none_opened (g.L.In.LinkIn.tells × g.L.Out.LinkOut.tells) (l.opened links) g.C.Call.before (l.leads links) (l.taken_at links) (l.given_at links) (length c.args.recording.tracks.items) c.args.recording.places.items c.requires.before c.args.recording.fresh
