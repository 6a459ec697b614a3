use Rattle.std.proofs.Common.{refl, subst, sym, ◌∙◌}
use Rattle.std.specs.Prelude.{is_ok}
use Rattle.mixer_spec.specs.Table.{after_calls, has_room}
use Rattle.stream_spec.specs.Ready.{chunk_of}
use Rattle.mix_loop.specs.Mixers.{Offers}
use Rattle.mixer_posts.specs.States.{SendingState}
use Rattle.mixer_posts.specs.Standing.{SendsFor}
use Rattle.mixer_posts.proofs.Calling.{KeepsAll, ok_is, offered_text}
use Rattle.mixer_posts.proofs.mixers.SendingMixerMixerCalls.offer.Goals as goal

pub invariant_of-self : goal.invariant_of-self
invariant_of-self g c = c.self.invariant ∙ sym c.offer.ensures.sources

pub returns-clause-offered : goal.returns-clause-offered
returns-clause-offered g c =
    let new : SendingState g.row.O.Denot = record { mixer = c.offer.new.self; outbound = c.self.inside.outbound } in
    subst (λ (m : SendingState g.row.O.Denot). Offers (SendsFor g.O.PostSink.took g.O.PostSink.sources g.O.PostSink.horizon) m new (chunk_of c.args.chunk.now) (is_ok c.offer.result)) c.self.view_is
    (λ s payload_types calls h.
    let text = offered_text c.args.chunk.now.source (chunk_of c.args.chunk.now) c.as_slice-octets.result.now c.requires.text c.as_slice-octets.ensures.value c.as_slice-octets.ensures.fits in (
      record { stands = c.offer.ensures.stands s calls h.stands (text, h.stands.allowed); sent = h.sent; all = h.all; early = h.early; few = h.few },
      ok_is c.offer.result (has_room s c.args.chunk.now.source (chunk_of c.args.chunk.now) (after_calls s calls)) (c.offer.ensures.room s calls h.stands),
    ))

pub returns-clause-keeps : goal.returns-clause-keeps
returns-clause-keeps g c =
    let new : SendingState g.row.O.Denot = record { mixer = c.offer.new.self; outbound = c.self.inside.outbound } in
    subst (λ (m : SendingState g.row.O.Denot). KeepsAll g.O.PostSink.addresses m new) c.self.view_is
    (record { legs = c.offer.ensures.legs; turns = c.offer.ensures.turns; addresses = refl })
