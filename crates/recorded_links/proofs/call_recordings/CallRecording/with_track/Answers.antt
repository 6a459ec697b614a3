use Rattle.std.proofs.Math.Logic.{∥∥₁_map}
use Rattle.std.proofs.Common.{◌≡◌, ◌≢◌, ◌<◌, ℕ, false, None, List, [], ◌∷◌, ◌++◌, length, refl, sym, ap, subst, ◌∙◌, arith}
use Rattle.std.specs.Prelude.{All, map}
use Rattle.std.specs.Arc.{arc_value}
use Rattle.recorded_links.specs.declared.calls.CallTrack.{CallTrack}
use Rattle.recorded_links.specs.declared.tracks.Track.{Track}
use Rattle.recorded_links.specs.Calls.{call_track}
use Rattle.recorded_links.specs.Kept.{IsPlaceIn}
use Rattle.recorded_links.specs.Names.{numbered}
use Rattle.recorded_links.specs.Recordings.{AllHave, AreThere, HaveOwnNames, last_of}
use Rattle.recorded_links.specs.Shelves.{taken}
use Rattle.recorded_links.specs.Written.{HasTaken}
use Rattle.recorded_links.proofs.Begins.{all_fresh, all_have, all_own, all_placed, all_there}
use Rattle.recorded_links.proofs.call_recordings.CallRecording.with_track.Goals as goal

pub invariant_of-result : goal.invariant_of-result
invariant_of-result g c =
    let all = c.args.self in
    let t = c.in_ok-track.track in
    let ts = all.tracks.items in
    let ps = all.places.items in
    let us = c.push-2.new.self.items in
    let qs = c.push.new.self.items in
    let before = g.J.Journals.contents all.journals in
    let after = g.J.Journals.contents c.begin_track.new.journals in
    let made = c.in_ok-track.ensures in
    let f : Track g.row.J.Denot g.row.J-File.Denot g.J.Journals g.J.File.Sink → CallTrack = λ x. call_track x.port x.way x.recorder.stem x.recorder.start (arc_value x.shelf) in
    let number : c.len-number.result ≡ length ts = omega (arith, c.len-number.ensures, all.tracks.ok.0) in
    let tracks_are : us ≡ ts ++ t ∷ [] = c.in-Ok-push.ensures.items in
    let stem = made.named.0 in
    let point : last_of t.recorder.stem ≡ 46 = ap last_of stem ∙ c.requires in
    let free : g.J.Journals.tells → before (numbered t.recorder.stem 1) ≡ None = λ tells. ap (λ s. before (numbered s 1)) stem ∙ made.was_free tells in
    let found : g.J.Journals.tells → after (numbered t.recorder.stem 1) ≢ None = λ tells none. made.there tells (ap (λ s. after (numbered s 1)) (sym stem) ∙ none) in
    let others : g.J.Journals.tells → (n : List ℕ) → ((k : ℕ) → n ≢ numbered t.recorder.stem k) → after n ≡ before n =
    λ tells n no. made.others tells n (λ k same. no k (same ∙ ap (λ s. numbered s k) (sym stem))) in
    let last : g.J.Journals.tells → HasTaken g.J.File.Sink after t.recorder (taken t.pass) = λ tells. subst (λ es. HasTaken g.J.File.Sink after t.recorder es) (sym made.fresh.1) (made.has tells) in
    record {
      early = all.early;
      placed = subst (λ l. All (IsPlaceIn (map f l)) qs) (sym tracks_are)
          (subst (λ l. All (IsPlaceIn (map f (ts ++ t ∷ []))) l) (sym c.in-Ok.ensures.items) (all_placed f ts t ps _ all.fresh all.placed number made.of.0 made.of.1 made.ends));
      fresh = subst (λ l. All (λ p. (p.given ≡ false) × (p.number < length l)) qs) (sym tracks_are)
          (subst (λ l. All (λ p. (p.given ≡ false) × (p.number < length (ts ++ t ∷ []))) l) (sym c.in-Ok.ensures.items) (all_fresh ts t ps _ all.fresh number refl));
      apart = λ tells. subst (λ l. HaveOwnNames (map f l)) (sym tracks_are) (all_own f ts t before (free tells) point (all.there tells) (all.apart tells));
      there = λ tells. subst (λ l. AreThere after (map f l)) (sym tracks_are) (all_there f ts t before after (free tells) point (found tells) (others tells) (all.there tells));
      have = λ tells. ∥∥₁_map (all.have tells) (λ h. subst (λ l. AllHave g.J.File.Sink after l (λ x. x.recorder) (λ x. taken x.pass)) (sym tracks_are)
          (all_have g.J.File.Sink f (λ x. x.recorder) (λ x. taken x.pass) (λ x. refl) ts t before after (free tells) point (others tells) (all.there tells) (last tells) h));
    }
