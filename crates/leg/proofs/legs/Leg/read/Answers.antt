use Rattle.std.proofs.Common.{ℕ, ◌+◌, ◌≤◌, List, [], ◌∷◌, sym, ◌∙◌, subst}
use Rattle.std.proofs.Math.Logic.{∥∥₁_map}
use Rattle.stream_spec.specs.Ready.{chunk_of}
use Rattle.receiver.specs.declared.ears.Ear.{Ear}
use Rattle.receiver.specs.Hears.{AllReady, Becomes, arrival_count}
use Rattle.leg.specs.Items.{GivesItem, after_item}
use Rattle.leg.proofs.Stepping.{becomes_giving, item_giving, reads_few, reads_ends, reads_item, hears_item, hears_nothing, one_is_plain, none_is_plain}
use Rattle.leg.proofs.legs.Leg.read.Goals as goal

pub invariant_of-self : goal.invariant_of-self
invariant_of-self g c = record {
  giving = ∥∥₁_map c.args.self.now.giving (item_giving c.args.self.now.ear c.hear_plain_item.new.ear c.in-Ok.item c.as_slice-octets.result.now (chunk_of c.hear_plain_item.new.chunk ∷ []) (c.hear_plain_item.ensures.some c.in-Chunk.is));
  few = reads_few c.args.self.now.reader c.next.new.self c.args.self.now.ear c.hear_plain_item.new.ear c.args.self.now.few c.in-Ok.ensures.nearer c.hear_plain_item.ensures.arrivals;
  open_still = reads_ends c.next.new.self c.hear_plain_item.new.ear c.in-Ok.item c.in-Ok.ensures.ended
      (c.hear_plain_item.ensures.finished ∙ (c.args.self.now.open_still c.requires.open ∙ sym (c.hear_plain_item.ensures.packet (one_is_plain c.hear_plain_item.result c.in-Chunk.is))));
}

pub invariant_of-self-in-Nothing : goal.invariant_of-self-in-Nothing
invariant_of-self-in-Nothing g c = record {
  giving = ∥∥₁_map c.args.self.now.giving (item_giving c.args.self.now.ear c.hear_plain_item.new.ear c.in-Ok.item c.as_slice-octets.result.now [] (c.hear_plain_item.ensures.none c.in-Nothing.is));
  few = reads_few c.args.self.now.reader c.next.new.self c.args.self.now.ear c.hear_plain_item.new.ear c.args.self.now.few c.in-Ok.ensures.nearer c.hear_plain_item.ensures.arrivals;
  open_still = reads_ends c.next.new.self c.hear_plain_item.new.ear c.in-Ok.item c.in-Ok.ensures.ended
      (c.hear_plain_item.ensures.finished ∙ (c.args.self.now.open_still c.requires.open ∙ sym (c.hear_plain_item.ensures.packet (none_is_plain c.hear_plain_item.result c.in-Nothing.is))));
}

pub invariant_of-self-in-NotPlain : goal.invariant_of-self-in-NotPlain
invariant_of-self-in-NotPlain g c =
    let same = c.hear_plain_item.ensures.unchanged c.in-NotPlain.is in record {
      giving = ∥∥₁_map c.args.self.now.giving (becomes_giving c.args.self.now.ear c.hear_item.new.ear (λ settings story. after_item settings story c.in-Ok.item c.as_slice-octets.result.now)
          (subst (λ (e : Ear). Becomes e c.hear_item.new.ear (λ settings story. after_item settings story c.in-Ok.item c.as_slice-octets.result.now)) same c.hear_item.ensures.becomes));
      few = reads_few c.args.self.now.reader c.next.new.self c.args.self.now.ear c.hear_item.new.ear c.args.self.now.few c.in-Ok.ensures.nearer
          (subst (λ (e : Ear). arrival_count c.hear_item.new.ear ≤ arrival_count e + 1) same c.hear_item.ensures.arrivals);
      open_still = reads_ends c.next.new.self c.hear_item.new.ear c.in-Ok.item c.in-Ok.ensures.ended c.hear_item.ensures.finished;
    }

pub returns-in-Chunk-clause-steps : goal.returns-in-Chunk-clause-steps
returns-in-Chunk-clause-steps g c = λ t past s.
    let P : List ℕ → Type 0 = λ o. GivesItem c.args.self.now.ear c.hear_plain_item.new.ear c.in-Ok.item o (chunk_of c.hear_plain_item.new.chunk ∷ []) in
    hears_item g.S.Source.left c.args.self.now _ c.in-Ok.item c.next.new.out (chunk_of c.hear_plain_item.new.chunk ∷ []) c.requires.open (c.in-Ok.ensures.gives t) c.in-Ok.ensures.ended
    (c.hear_plain_item.ensures.packet (one_is_plain c.hear_plain_item.result c.in-Chunk.is)) (subst P (c.as_slice-octets.ensures.value ∙ c.deref.ensures) (c.hear_plain_item.ensures.some c.in-Chunk.is)) past s

pub returns-in-Nothing-clause-steps : goal.returns-in-Nothing-clause-steps
returns-in-Nothing-clause-steps g c = λ t past s.
    let P : List ℕ → Type 0 = λ o. GivesItem c.args.self.now.ear c.hear_plain_item.new.ear c.in-Ok.item o [] in
    hears_nothing g.S.Source.left c.args.self.now _ c.in-Ok.item c.next.new.out c.requires.open (c.in-Ok.ensures.gives t) c.in-Ok.ensures.ended
    (c.hear_plain_item.ensures.packet (none_is_plain c.hear_plain_item.result c.in-Nothing.is)) (subst P (c.as_slice-octets.ensures.value ∙ c.deref.ensures) (c.hear_plain_item.ensures.none c.in-Nothing.is)) past s

pub returns-in-NotPlain-clause-steps : goal.returns-in-NotPlain-clause-steps
returns-in-NotPlain-clause-steps g c = λ t past s.
    let same = c.hear_plain_item.ensures.unchanged c.in-NotPlain.is in
    let P : List ℕ → Type 0 = λ o. Becomes c.args.self.now.ear c.hear_item.new.ear (λ settings story. after_item settings story c.in-Ok.item o) in
    let becomes = subst (λ (e : Ear). Becomes e c.hear_item.new.ear (λ settings story. after_item settings story c.in-Ok.item c.as_slice-octets.result.now)) same c.hear_item.ensures.becomes in
    c.give.ensures.steps past (reads_item g.S.Source.left c.args.self.now _ c.in-Ok.item c.next.new.out c.requires.open (c.in-Ok.ensures.gives t) c.in-Ok.ensures.ended
    (subst P (c.as_slice-octets.ensures.value ∙ c.deref.ensures) becomes) (λ e. subst AllReady same (c.hear_item.ensures.all e)) past s)
