use Rattle.std.proofs.Common.{◌≡◌, ℕ, List, [], ◌∷◌, ◌++◌, ◌+◌, Bool, Some, None, false, refl, ap, sym, ◌∙◌, arith}
use Rattle.std.specs.Prelude.{◌==◌, position, if◌then◌else◌}
use Rattle.std.proofs.lemmas.Bool.{eq-eqb}
use Rattle.std.proofs.lemmas.List.Quantifiers.{position-Some}
use Rattle.receiver.specs.declared.receivers.ListedSource.{ListedSource}
use Rattle.receiver.specs.Steps.{is_marked_since, texts_since}
use Rattle.receiver.proofs.receivers.Receiver.take_piece.Goals as goal
use Rattle.rtt_base.specs.declared.text_packets.TextPacket.{TextPacket}
use Rattle.stream_spec.specs.Numbering.{Numbered}
use Rattle.stream_spec.specs.Hearing.{heard_by, marker, adds_marker, adds_texts}
use Rattle.stream_spec.specs.ChunksBy.{texts_added}
use Rattle.receiver.specs.Stands.{used_packet}
use Rattle.receiver.proofs.Blockwise.{heard_left, fresh_left}
use Rattle.receiver.proofs.Takes.{IsCounted, counted, no_place, place_none, stands_unlisted, heard_at, seat, stands_listed, markers, texts_there}

pub returns-in_default-clause-stands : goal.returns-in_default-clause-stands
returns-in_default-clause-stands c sources us time s =
    let k : IsCounted c.args.self.now c.count.new.self c.args.number = counted c.args.self.now c.count.new.self sources us c.args.number s c.requires (omega (arith, c.ranges.number.fits)) c.count.ensures.listed c.count.ensures.latest c.count.ensures.missing in
    let none = no_place c.args.self.now c.count.new.self sources us time c.args.number c.args.packet.now s c.requires k (sym (c.place_of.ensures ∙ ap (position (λ (x : ListedSource). x.source == c.args.packet.now.source)) c.as_slice.ensures.value) ∙ c.in_default.is) in
    stands_unlisted c.args.self.now c.count.new.self sources us time c.args.number c.args.packet.now s c.requires k none

pub returns-in_default-clause-heard : goal.returns-in_default-clause-heard
returns-in_default-clause-heard c source us time s =
    let sources : List ℕ = source ∷ [] in
    let k : IsCounted c.args.self.now c.count.new.self c.args.number = counted c.args.self.now c.count.new.self sources us c.args.number s c.requires (omega (arith, c.ranges.number.fits)) c.count.ensures.listed c.count.ensures.latest c.count.ensures.missing in
    let none = no_place c.args.self.now c.count.new.self sources us time c.args.number c.args.packet.now s c.requires k (sym (c.place_of.ensures ∙ ap (position (λ (x : ListedSource). x.source == c.args.packet.now.source)) c.as_slice.ensures.value) ∙ c.in_default.is) in
    heard_at c.args.self.now c.count.new.self sources us time c.args.number c.args.packet.now s c.requires k 0 None false [] (omega arith) (sym none) (λ j q. cc q)
    ∙ ap (λ ts. heard_by us source ++ ts) (sym (heard_left c.none.result c.args.packet.now c.none.ensures))

pub returns-clause-stands : goal.returns-clause-stands
returns-clause-stands c sources us time s =
    let k : IsCounted c.args.self.now c.count.new.self c.args.number = counted c.args.self.now c.count.new.self sources us c.args.number s c.requires (omega (arith, c.ranges.number.fits)) c.count.ensures.listed c.count.ensures.latest c.count.ensures.missing in
    let t = seat c.args.self.now c.count.new.self sources us time c.args.number c.args.packet.now s c.requires k c.in-Some.place c.index_mut.result.now (sym (c.place_of.ensures ∙ ap (position (λ (x : ListedSource). x.source == c.args.packet.now.source)) c.as_slice.ensures.value) ∙ c.in-Some.is) c.index_mut.ensures.value in
    stands_listed c.args.self.now c.count.new.self sources us time c.args.number c.args.packet.now s c.requires k c.in-Some.place c.index_mut.result.now _ _ t refl refl refl refl refl

pub returns-clause-heard : goal.returns-clause-heard
returns-clause-heard c source us time s =
    let sources : List ℕ = source ∷ [] in
    let p = c.args.packet.now in
    let seen = c.index.result.now.seen in
    let k : IsCounted c.args.self.now c.count.new.self c.args.number = counted c.args.self.now c.count.new.self sources us c.args.number s c.requires (omega (arith, c.ranges.number.fits)) c.count.ensures.listed c.count.ensures.latest c.count.ensures.missing in
    let t = seat c.args.self.now c.count.new.self sources us time c.args.number p s c.requires k c.in-Some.place c.index.result.now (sym (c.place_of.ensures ∙ ap (position (λ (x : ListedSource). x.source == p.source)) c.as_slice.ensures.value) ∙ c.in-Some.is) c.index.ensures in
    let within = (position-Some (λ (n : ℕ). n == p.source) sources c.in-Some.place 0 t.position_is).0 in
    let zero : c.in-Some.place ≡ 0 = omega (arith, within) in
    heard_at c.args.self.now c.count.new.self sources us time c.args.number p s c.requires k 0 (Some 0) (is_marked_since seen c.count.new.self.missing p.timestamp p.older) (texts_since seen p) (omega arith)
    (ap Some (sym zero) ∙ sym t.position_is)
    (λ j q. (markers c.args.self.now c.count.new.self sources us time c.args.number p s c.requires k c.in-Some.place c.index.result.now t, texts_there c.args.self.now c.count.new.self sources us time c.args.number p s c.requires k c.in-Some.place c.index.result.now t))
    ∙ ap (λ ts. heard_by us source ++ ts) (ap (λ (m : Bool). (if m then marker ∷ [] else []) ++ texts_since seen p) (sym c.puts_marker-marker.ensures) ∙ sym (fresh_left seen p c.puts_marker-marker.result (c.len-rest.result + 1) (ap (λ (n : ℕ). n + 1) c.len-rest.ensures.value)))

pub returns-in_default-clause-each : goal.returns-in_default-clause-each
returns-in_default-clause-each c sources us time i s l e =
    let k : IsCounted c.args.self.now c.count.new.self c.args.number = counted c.args.self.now c.count.new.self sources us c.args.number s c.requires (omega (arith, c.ranges.number.fits)) c.count.ensures.listed c.count.ensures.latest c.count.ensures.missing in
    let none = no_place c.args.self.now c.count.new.self sources us time c.args.number c.args.packet.now s c.requires k (sym (c.place_of.ensures ∙ ap (position (λ (x : ListedSource). x.source == c.args.packet.now.source)) c.as_slice.ensures.value) ∙ c.in_default.is) in
    absurd (place_none c.args.packet.now.source sources i none l e)

pub returns-clause-each : goal.returns-clause-each
returns-clause-each c sources us time i s l e =
    let p = c.args.packet.now in
    let seen = c.index.result.now.seen in
    let k : IsCounted c.args.self.now c.count.new.self c.args.number = counted c.args.self.now c.count.new.self sources us c.args.number s c.requires (omega (arith, c.ranges.number.fits)) c.count.ensures.listed c.count.ensures.latest c.count.ensures.missing in
    let t = seat c.args.self.now c.count.new.self sources us time c.args.number p s c.requires k c.in-Some.place c.index.result.now (sym (c.place_of.ensures ∙ ap (position (λ (x : ListedSource). x.source == p.source)) c.as_slice.ensures.value) ∙ c.in-Some.is) c.index.ensures in
    fresh_left seen p c.puts_marker-marker.result (c.len-rest.result + 1) (ap (λ (n : ℕ). n + 1) c.len-rest.ensures.value)
    ∙ (ap (λ (m : Bool). (if m then marker ∷ [] else []) ++ texts_since seen p) (c.puts_marker-marker.ensures ∙ markers c.args.self.now c.count.new.self sources us time c.args.number p s c.requires k c.in-Some.place c.index.result.now t)
    ∙ own sources us time p c.args.number (texts_since seen p) (texts_there c.args.self.now c.count.new.self sources us time c.args.number p s c.requires k c.in-Some.place c.index.result.now t))
  where
    own : (sources : List ℕ) (us : List Numbered) (time : ℕ) (p : TextPacket) (number : ℕ) (texts : List (List ℕ)) → texts ≡ adds_texts us (used_packet time number p)
        → (if adds_marker us (used_packet time number p) then marker ∷ [] else []) ++ texts ≡ texts_added us (used_packet time number p) p.source
    own sources us time p number texts e = rw (eq-eqb p.source p.source refl, e) refl
