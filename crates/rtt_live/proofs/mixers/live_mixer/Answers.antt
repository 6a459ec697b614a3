use Rattle.std.proofs.Common.{◌∙◌, ◌^◌, ℕ, List, length, ap, subst, sym, arith}
use Rattle.std.proofs.lemmas.List.{length-map}
use Rattle.mixer_spec.specs.Setups.{setup}
use Rattle.file_spec.specs.Conferences.{meaning_of}
use Rattle.mixer.specs.declared.batches.Post.{Post}
use Rattle.mixer_posts.specs.Streams.{payload_types_at}
use Rattle.mixer.specs.States.{State}
use Rattle.mixer.specs.Standing.{MixerStandsFor}
use Rattle.mixer_posts.specs.Posts.{sent_by}
use Rattle.rtt_live.specs.declared.far_ends.FarEnds.{FarEnds}
use Rattle.rtt_live.specs.Ends.{packets_in, WereGiven, counts_of}
use Rattle.rtt_live.specs.Mixers.{all_admitted}
use Rattle.rtt_live.proofs.Seating.{all_seated, no_turn, none_late, none_sent}
use Rattle.rtt_live.proofs.Writing.{counts_are}
use Rattle.rtt_live.proofs.mixers.live_mixer.Goals as goal

pub new-requires-2 : goal.new-requires-2
new-requires-2 g c = let o = g.O.LinkOut in counts_are o.tells (packets_in o.given) o.faults (meaning_of c.args.conference.now) c.args.ends c.requires.none ∙ sym c.in-Ok.ensures.sources

pub returns-clause-stands : goal.returns-clause-stands
returns-clause-stands g c =
    let s = setup (meaning_of c.args.conference.now) in
    let payload_types = payload_types_at (meaning_of c.args.conference.now) in
    let n = length c.args.conference.now.legs in
    let made = c.new-2.ensures in
    let o = g.O.LinkOut in
    record {
      stands = subst (λ (m : State). MixerStandsFor s m (all_admitted n)) (sym made.mixer) c.in-Ok.ensures.stands;
      sent = subst (λ (ends : FarEnds g.row.O.Denot). WereGiven o.tells (packets_in o.given) o.faults ends s payload_types (sent_by s (all_admitted n))) (sym made.outbound)
          (subst (λ (sent : List (ℕ × Post)). WereGiven o.tells (packets_in o.given) o.faults c.args.ends s payload_types sent) (sym (none_sent s n)) c.requires.none);
      all = ap (λ (ends : FarEnds g.row.O.Denot). length (counts_of ends)) made.outbound ∙ (ap (λ (xs : List ℕ). length xs) (counts_are o.tells (packets_in o.given) o.faults (meaning_of c.args.conference.now) c.args.ends c.requires.none) ∙ length-map c.args.conference.now.legs _);
      early = none_late (2 ^ 47) n;
      few = omega (arith, no_turn n);
    }

pub returns-clause-seats : goal.returns-clause-seats
returns-clause-seats g c = all_seated (setup (meaning_of c.args.conference.now)) (length c.args.conference.now.legs) c.requires.stay (omega arith)
