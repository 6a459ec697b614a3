use Rattle.std.proofs.Common.{◌≡◌, sym, ◌∙◌}
use Rattle.std.specs.Prelude.{is_ok}
use Rattle.stream_spec.specs.Ready.{chunk_of}
use Rattle.mix_loop.specs.Mixers.{Of}
use Rattle.mix_loop.proofs.Offering.{not_ready, offers}
use Rattle.mix_loop.proofs.offers.take.Goals as goal

pub returns-then-not-is_ready-clause-taken : goal.returns-then-not-is_ready-clause-taken
returns-then-not-is_ready-clause-taken g c = λ s payload_types table a.
    not_ready (Of g.M.MixerCalls.stands payload_types) s c.args.now table (chunk_of c.args.chunk.now) c.args.mixer.now c.args.mixer.now a (sym c.is_ready.ensures ∙ c.if-not-is_ready.true)

pub returns-clause-taken : goal.returns-clause-taken
returns-clause-taken g c = λ s payload_types table a.
    let o : c.is_ok.result ≡ is_ok c.offer.result = c.is_ok.ensures.value in
    rw o (offers (Of g.M.MixerCalls.stands payload_types) s c.args.now table (chunk_of c.args.chunk.now) c.args.mixer.now c.offer.new.self a (is_ok c.offer.result) (sym c.is_ready.ensures ∙ c.if-not-is_ready.false) (λ s calls. c.offer.ensures.offered s payload_types calls))
