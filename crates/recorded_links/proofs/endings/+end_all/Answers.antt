use Rattle.std.proofs.Common.{ap, ◌∙◌, refl, subst, arith, [], ◌∷◌, ◌++◌}
use Rattle.std.specs.Prelude.{All, map, Ok}
use Rattle.std.specs.Arc.{arc_value}
use Rattle.std.proofs.lemmas.List.{length-map}
use Rattle.std.proofs.lemmas.List.Elements.{All-pop, All-weaker}
use Rattle.recorded_links.specs.declared.calls.CallTrack.{CallTrack}
use Rattle.recorded_links.specs.declared.tracks.Track.{Track}
use Rattle.recorded_links.specs.Calls.{call_track}
use Rattle.recorded_links.specs.Kept.{IsPlaceIn}
use Rattle.recorded_links.specs.Recordings.{HaveOwnNames}
use Rattle.recorded_links.specs.Shelves.{taken}
use Rattle.recorded_links.proofs.Wholes.{front_have, front_names, front_places, last_has, last_place, map_last, touches_all, touches_last, whole_all}
use Rattle.recorded_links.proofs.endings.+end_all.Goals as goal

pub end_track-requires-after_bounds : goal.end_track-requires-after_bounds
end_track-requires-after_bounds g t c κs within =
    let rec : Track g.row.J.Denot g.row.J-File.Denot g.J.Journals g.J.File.Sink → CallTrack = λ t. call_track t.port t.way t.recorder.stem t.recorder.start (arc_value t.shelf) in
    let all = c.args.tracks.items in
    let ts = c.pop.new.self.items in
    let track = c.in-Some.track in
    let is = map_last rec all ts track c.in-Some.ensures.items in
    let placed = subst (λ l. All (IsPlaceIn l) c.args.places.items) is c.requires in
    let both = All-pop (IsPlaceIn (map rec ts ++ rec track ∷ [])) c.args.places.items c.pop-place.new.self.items c.pop-place.result c.pop-place.ensures.items placed in
    last_place (map rec ts) (rec track) c.len-number.result c.pop-place.result (omega (arith, c.len-number.ensures, length-map ts rec, c.pop.new.self.ok.0)) both.1

pub end_all-requires-after_bounds : goal.end_all-requires-after_bounds
end_all-requires-after_bounds g t c κs within =
    let rec : Track g.row.J.Denot g.row.J-File.Denot g.J.Journals g.J.File.Sink → CallTrack = λ t. call_track t.port t.way t.recorder.stem t.recorder.start (arc_value t.shelf) in
    let all = c.args.tracks.items in
    let ts = c.pop.new.self.items in
    let track = c.in-Some.track in
    let is = map_last rec all ts track c.in-Some.ensures.items in
    let placed = subst (λ l. All (IsPlaceIn l) c.args.places.items) is c.requires in
    let both = All-pop (IsPlaceIn (map rec ts ++ rec track ∷ [])) c.args.places.items c.pop-place.new.self.items c.pop-place.result c.pop-place.ensures.items placed in
    All-weaker (IsPlaceIn (map rec ts ++ rec track ∷ [])) (IsPlaceIn (map rec ts)) (front_places (map rec ts) (rec track)) c.pop-place.new.self.items both.0

pub returns-in_err-last-clause-others : goal.returns-in_err-last-clause-others
returns-in_err-last-clause-others g t c = λ tells.
    let rec : Track g.row.J.Denot g.row.J-File.Denot g.J.Journals g.J.File.Sink → CallTrack = λ t. call_track t.port t.way t.recorder.stem t.recorder.start (arc_value t.shelf) in
    let all = c.args.tracks.items in
    let ts = c.pop.new.self.items in
    let track = c.in-Some.track in
    let is = map_last rec all ts track c.in-Some.ensures.items in
    let before = g.J.Journals.contents c.args.journals.now in
    let mid = g.J.Journals.contents c.end_track.new.journals in
    touches_last (map rec all) (map rec ts) (rec track) before mid is (c.end_track.ensures.others tells)

pub returns-in_err-first-clause-others : goal.returns-in_err-first-clause-others
returns-in_err-first-clause-others g t c = λ tells.
    let rec : Track g.row.J.Denot g.row.J-File.Denot g.J.Journals g.J.File.Sink → CallTrack = λ t. call_track t.port t.way t.recorder.stem t.recorder.start (arc_value t.shelf) in
    let all = c.args.tracks.items in
    let ts = c.pop.new.self.items in
    let track = c.in-Some.track in
    let is = map_last rec all ts track c.in-Some.ensures.items in
    let before = g.J.Journals.contents c.args.journals.now in
    let mid = g.J.Journals.contents c.end_track.new.journals in
    let after = g.J.Journals.contents c.end_all.new.journals in
    touches_all (map rec all) (map rec ts) (rec track) before mid after is (c.end_track.ensures.others tells) (c.end_all.ensures.others tells)

pub returns-in-Some-first-clause-others : goal.returns-in-Some-first-clause-others
returns-in-Some-first-clause-others g t c = λ tells.
    let rec : Track g.row.J.Denot g.row.J-File.Denot g.J.Journals g.J.File.Sink → CallTrack = λ t. call_track t.port t.way t.recorder.stem t.recorder.start (arc_value t.shelf) in
    let all = c.args.tracks.items in
    let ts = c.pop.new.self.items in
    let track = c.in-Some.track in
    let is = map_last rec all ts track c.in-Some.ensures.items in
    let before = g.J.Journals.contents c.args.journals.now in
    let mid = g.J.Journals.contents c.end_track.new.journals in
    let after = g.J.Journals.contents c.end_all.new.journals in
    touches_all (map rec all) (map rec ts) (rec track) before mid after is (c.end_track.ensures.others tells) (c.end_all.ensures.others tells)

pub returns-in-None-clause-others : goal.returns-in-None-clause-others
returns-in-None-clause-others g t c = λ tells.
    let rec : Track g.row.J.Denot g.row.J-File.Denot g.J.Journals g.J.File.Sink → CallTrack = λ t. call_track t.port t.way t.recorder.stem t.recorder.start (arc_value t.shelf) in
    let all = c.args.tracks.items in
    let ts = c.pop.new.self.items in
    let track = c.in-Some.track in
    let is = map_last rec all ts track c.in-Some.ensures.items in
    let before = g.J.Journals.contents c.args.journals.now in
    let mid = g.J.Journals.contents c.end_track.new.journals in
    let after = g.J.Journals.contents c.end_all.new.journals in
    touches_all (map rec all) (map rec ts) (rec track) before mid after is (c.end_track.ensures.others tells) (c.end_all.ensures.others tells)

pub returns-in-None-clause-whole : goal.returns-in-None-clause-whole
returns-in-None-clause-whole g t c = λ tells e own have.
    let rec : Track g.row.J.Denot g.row.J-File.Denot g.J.Journals g.J.File.Sink → CallTrack = λ t. call_track t.port t.way t.recorder.stem t.recorder.start (arc_value t.shelf) in
    let all = c.args.tracks.items in
    let ts = c.pop.new.self.items in
    let track = c.in-Some.track in
    let is = map_last rec all ts track c.in-Some.ensures.items in
    let before = g.J.Journals.contents c.args.journals.now in
    let mid = g.J.Journals.contents c.end_track.new.journals in
    let after = g.J.Journals.contents c.end_all.new.journals in
    let own' = subst HaveOwnNames is own in
    let had = last_has g.J.File.Sink rec (λ t. t.recorder) (λ t. taken t.pass) before all ts track c.in-Some.ensures.items have in
    let last = c.end_track.ensures.whole tells had (c.in_ok-last.was ∙ e) in
    let still = front_have g.J.File.Sink rec (λ t. t.recorder) (λ t. taken t.pass) before mid all ts track (λ x. refl) c.in-Some.ensures.items own (c.end_track.ensures.others tells) have in
    let first = c.end_all.ensures.whole tells (c.in_ok-first.was ∙ ap Ok c.in-None.is) (front_names (map rec ts) (rec track) own') still in
    whole_all (map rec all) (map rec ts) (rec track) c.args.places.items c.pop-place.new.self.items c.pop-place.result c.len-number.result mid after
    is c.pop-place.ensures.items (omega (arith, c.len-number.ensures, length-map ts rec, c.pop.new.self.ok.0)) own last (c.end_all.ensures.others tells) first
