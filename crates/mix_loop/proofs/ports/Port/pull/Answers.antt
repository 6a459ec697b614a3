use Rattle.std.proofs.Common.{◌≡◌, true, ap, refl, sym, ◌∙◌}
use Rattle.stream_spec.specs.Ready.{chunk_of}
use Rattle.mix_loop.specs.Items.{is_open, gave_more}
use Rattle.mix_loop.specs.Ports.{counted}
use Rattle.mix_loop.proofs.Offering.{pulls_item, ended_more, goes_open, counts_chunk, said_of}
use Rattle.mix_loop.proofs.ports.Port.pull.Goals as goal

pub returns-clause-sound : goal.returns-clause-sound
returns-clause-sound g c =
    let heard = chunk_of c.next-item.new.chunk in
    record {
      asked = λ o. c.next-item.ensures.good (goes_open c.next-item.result (ap is_open (sym c.ended-self.ensures) ∙ o));
      hand = λ f. said_of c.args.leg heard (c.next-item.ensures.text (counts_chunk c.next-item.result heard c.args.self.now.stay (sym c.counts-self.ensures ∙ f)));
    }

pub returns-clause-pulled : goal.returns-clause-pulled
returns-clause-pulled g c = λ first gave h.
    let j = c.args.leg in
    let stay = c.args.self.now.stay in
    let item = c.next-item.result in
    let heard = chunk_of c.next-item.new.chunk in
    let still : is_open h.whole.ended ≡ true = ap is_open (ap (λ g. g.ended) (sym h.is) ∙ sym h.ended) ∙ c.requires.«open» in
    let more = gave_more item heard h.whole in
    record {
      gave' = counted j stay more;
      holds = record { whole = more; gives = c.next-item.ensures.stands first h.whole h.gives; is = refl; ended = c.ended-self.ensures ∙ ended_more item heard h.whole still };
      pulls = rw (c.requires.empty, c.counts-self.ensures, h.is) (pulls_item j stay item heard h.whole still);
    }
