use Rattle.std.proofs.Common.{◌≡◌, ◌∷◌, [], ◌++◌, ap, refl, ◌∙◌, subst}
use Rattle.rtt_base.specs.declared.text_packets.TextPacket.{TextPacket}
use Rattle.stream_spec.specs.Hearing.{heard_by}
use Rattle.receiver.specs.Stands.{Stands, used_packet}
use Rattle.receiver.specs.Pieces.{left_of}
use Rattle.receiver.specs.Cuts.{texts_given}
use Rattle.receiver.specs.PiecesLeft.{pieces_left}
use Rattle.receiver.proofs.Giving.{given_left, rest_none, peels, opens, rests, gave_ready, gave_front, given_texts, rises_next}
use Rattle.receiver.proofs.ears.Ear.next.Goals as goal

pub returns-then-next-clause-some : goal.returns-then-next-clause-some
returns-then-next-clause-some c = λ ok.
    peels c.args.self.now c.loop-chunk.self _ _ c.loop-chunk.invariant refl refl refl refl refl
    (subst (λ (p : TextPacket). pieces_left c.loop-chunk.self.settings.cut c.loop-chunk.self.piece p ≡ c.next.new.out ∷ pieces_left c.loop-chunk.self.settings.cut c.next.new.self p) c.packet.ensures (c.next.ensures.some c.if-next.true))

pub returns-then-next-clause-front : goal.returns-then-next-clause-front
returns-then-next-clause-front c = gave_front _

pub returns-in_default-clause-none : goal.returns-in_default-clause-none
returns-in_default-clause-none c = λ ok.
    rests c.args.self.now c.loop-chunk.self _ c.loop-chunk.invariant refl c.in_default.ensures.unchanged refl
    (subst (λ (p : TextPacket). pieces_left c.loop-chunk.self.settings.cut c.loop-chunk.self.piece p ≡ []) c.packet.ensures (c.next.ensures.none c.if-next.false))
    (given_left c.loop-chunk.self.settings.cut c.next.new.self c.next-in-loop-chunk.new.self.current (c.next.ensures.given c.if-next.false))

pub returns-in_default-clause-all : goal.returns-in_default-clause-all
returns-in_default-clause-all c = λ ok.
    gave_ready c.args.self.now c.loop-chunk.self c.loop-chunk.invariant
    (subst (λ (p : TextPacket). pieces_left c.loop-chunk.self.settings.cut c.loop-chunk.self.piece p ≡ []) c.packet.ensures (c.next.ensures.none c.if-next.false))
    c.in_default.ensures.none

pub returns-in_default-clause-front : goal.returns-in_default-clause-front
returns-in_default-clause-front c = gave_front _

pub take_piece-texts-requires : goal.take_piece-texts-requires
take_piece-texts-requires c = rises_next c.args.self.now c.loop-chunk.self c.next-in-loop-chunk.new.self c.in-Some.due c.next-in-loop-chunk.new.self.current c.loop-chunk.invariant c.requires.gave c.in-Some.ensures.some

pub returns-then-next-clause-text : goal.returns-then-next-clause-text
returns-then-next-clause-text c = λ ok. (given_texts c.args.self.now c.loop-chunk.self c.next.new.out (pieces_left c.loop-chunk.self.settings.cut c.next.new.self c.loop-chunk.self.buffer.current) c.loop-chunk.invariant c.requires.gave
    (subst (λ (p : TextPacket). pieces_left c.loop-chunk.self.settings.cut c.loop-chunk.self.piece p ≡ c.next.new.out ∷ pieces_left c.loop-chunk.self.settings.cut c.next.new.self p) c.packet.ensures (c.next.ensures.some c.if-next.true))).0

pub returns-then-next-clause-utf8 : goal.returns-then-next-clause-utf8
returns-then-next-clause-utf8 c = λ ok. (given_texts c.args.self.now c.loop-chunk.self c.next.new.out (pieces_left c.loop-chunk.self.settings.cut c.next.new.self c.loop-chunk.self.buffer.current) c.loop-chunk.invariant c.requires.gave
    (subst (λ (p : TextPacket). pieces_left c.loop-chunk.self.settings.cut c.loop-chunk.self.piece p ≡ c.next.new.out ∷ pieces_left c.loop-chunk.self.settings.cut c.next.new.self p) c.packet.ensures (c.next.ensures.some c.if-next.true))).1

pub loop-chunk-preserved : goal.loop-chunk-preserved
loop-chunk-preserved c = record {
  gave = opens c.args.self.now c.loop-chunk.self _ c.in-Some.due c.loop-chunk.invariant refl
      (subst (λ (p : TextPacket). pieces_left c.loop-chunk.self.settings.cut c.loop-chunk.self.piece p ≡ []) c.packet.ensures (c.next.ensures.none c.if-next.false))
      refl c.in-Some.ensures.some
      (λ sources us time s. subst (λ (p : TextPacket). Stands c.take_piece-texts.new.self sources (us ++ used_packet time c.in-Some.due.number p ∷ [])) c.packet-in-loop-chunk.ensures (c.take_piece-texts.ensures.stands sources us time s))
      c.take_piece-texts.ensures.latest
      (left_of c.take_piece-texts.result c.next-in-loop-chunk.new.self.current)
      (λ source us time s. subst (λ (p : TextPacket). heard_by (us ++ used_packet time c.in-Some.due.number p ∷ []) source ≡ heard_by us source ++ left_of c.take_piece-texts.result p) c.packet-in-loop-chunk.ensures (c.take_piece-texts.ensures.heard source us time s))
      (c.begin.ensures c.loop-chunk.self.settings.cut c.next-in-loop-chunk.new.self.current
      ∙ ap (λ ts. ts ++ texts_given c.loop-chunk.self.settings.cut (left_of c.take_piece-texts.result c.next-in-loop-chunk.new.self.current)) (rest_none c.loop-chunk.self.settings.cut c.next.new.self (c.next.ensures.given c.if-next.false)));
  settings = c.loop-chunk.invariant.settings;
  arrivals = c.in-Some.ensures.arrivals ∙ c.loop-chunk.invariant.arrivals;
  finished = c.in-Some.ensures.finished ∙ c.loop-chunk.invariant.finished;
}
