use Rattle.std.proofs.Common.{◌≡◌, ℕ, Some, length, rules}
use Rattle.std.specs.Prelude.{IfOk, slice_get}
use Rattle.std.specs.Global.{Vec}
use Rattle.mixer_spec.specs.Setups.{setup}
use Rattle.packetizer.specs.Speakers.{AreDistinct}
use Rattle.file_spec.specs.Conferences.{meaning_of}
use Rattle.mixer.specs.Making.{source_counts}
use Rattle.mixer_posts.specs.Streams.{AreSourcesAt}
use Rattle.mixer_posts.proofs.Streaming.{AreSourcesTo, all_made, leg_read, mixer_alone, of_made}
use Rattle.mixer_posts.proofs.streams.sources_to.Goals as goal

-- the sources of an aware terminal
of_all : (c : goal.After-ssrcs_of) → IfOk c.ssrcs_of.result (λ v. AreSourcesTo (meaning_of c.args.conference.now) c.args.own v.items)
of_all c =
    let conference = meaning_of c.args.conference.now in
    let leg = c.index-as_slice-own.result in
    let at = leg_read conference.legs c.as_slice.result.now c.args.own leg c.as_slice.ensures c.requires c.index-as_slice-own.is in
    all_made conference c.args.own leg c.as_slice-then-leg.result.now c.ssrcs_of.result c.args.conference.now.kept at c.if-leg.true c.as_slice-then-leg.ensures c.ssrcs_of.ensures

pub returns-then-leg-clause-are : goal.returns-then-leg-clause-are
returns-then-leg-clause-are c =
    of_made (λ (v : Vec ℕ). AreSourcesTo (meaning_of c.args.conference.now) c.args.own v.items) (λ (v : Vec ℕ). AreSourcesAt (setup (meaning_of c.args.conference.now)) c.args.own v.items) c.ssrcs_of.result (λ v h. h.are) (of_all c)

pub returns-then-leg-clause-distinct : goal.returns-then-leg-clause-distinct
returns-then-leg-clause-distinct c =
    of_made (λ (v : Vec ℕ). AreSourcesTo (meaning_of c.args.conference.now) c.args.own v.items) (λ (v : Vec ℕ). AreDistinct v.items) c.ssrcs_of.result (λ v h. h.distinct) (of_all c)

pub returns-then-leg-clause-count : goal.returns-then-leg-clause-count
returns-then-leg-clause-count c =
    of_made (λ (v : Vec ℕ). AreSourcesTo (meaning_of c.args.conference.now) c.args.own v.items) (λ (v : Vec ℕ). slice_get (source_counts (meaning_of c.args.conference.now)) c.args.own ≡ Some (length v.items)) c.ssrcs_of.result (λ v h. h.count) (of_all c)

-- that of another one
of_mixer : (c : goal.In_ok-push) → AreSourcesTo (meaning_of c.args.conference.now) c.args.own c.push.new.self.items
of_mixer c =
    let conference = meaning_of c.args.conference.now in
    let leg = c.index-as_slice-own.result in
    let at = leg_read conference.legs c.as_slice.result.now c.args.own leg c.as_slice.ensures c.requires c.index-as_slice-own.is in
    mixer_alone conference c.args.own leg c.push.new.self.items at c.if-leg.false (search rules)

pub returns-clause-are : goal.returns-clause-are
returns-clause-are c = (of_mixer c).are

pub returns-clause-count : goal.returns-clause-count
returns-clause-count c = (of_mixer c).count
