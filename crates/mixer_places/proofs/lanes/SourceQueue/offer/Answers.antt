use Rattle.std.proofs.Common.{ℕ, ◌+◌, ◌-◌, List, [], ◌∷◌, ◌++◌, length, refl, ap, subst, sym, ◌∙◌, arith}
use Rattle.std.specs.Prelude.{nat_le, nat_lt, if◌then◌else◌}
use Rattle.std.proofs.lemmas.Bool.{and_parts, leb-true, ltb-true}
use Rattle.stream_spec.specs.Ready.{Chunk}
use Rattle.mixer_places.specs.Rings.{Chunks}
use Rattle.mixer_places.specs.Lanes.{Waiting}
use Rattle.mixer_places.specs.LaneInsides.{waiting_in}
use Rattle.mixer_places.specs.SlotStanding.{SlotHolds, SourceStands}
use Rattle.mixer_places.proofs.Adding.{added}
use Rattle.mixer_places.proofs.Spanning.{room_enough}
use Rattle.mixer_places.proofs.Utf8.{more_utf8}
use Rattle.mixer_places.proofs.lanes.SourceQueue.offer.Goals as goal
use Rattle.mixer_spec.specs.declared.limits.TheConstants.{MOST_SPAN_CHUNKS, MOST_SPAN_OCTETS}

pub invariant_of-self : goal.invariant_of-self
invariant_of-self c =
    let w = waiting_in c.self.inside in
    let old = c.self.invariant in
    let new : Chunk = record { source = 0; ready = 0; text = c.args.text.now } in
    record {
      taken = old.taken ++ record { chunk = new; given = old.listens } ∷ [];
      listens = old.listens;
      waits = λ j. if old.listens j then old.waits j ++ new ∷ [] else old.waits j;
      holds = subst (λ (x : Chunks). SlotHolds (record { chunks = x; parts = w.parts }) (old.taken ++ record { chunk = new; given = old.listens } ∷ []) old.listens (λ j. if old.listens j then old.waits j ++ new ∷ [] else old.waits j)) (sym c.push.ensures)
          (added w old.taken old.listens old.waits old.holds new c.args.text.now refl);
      utf8 = more_utf8 old.taken (record { chunk = new; given = old.listens }) old.utf8 c.requires.utf8;
    }

pub returns-then-has_room-clause-room : goal.returns-then-has_room-clause-room
returns-then-has_room-clause-room c = λ s i table d h e.
    let w = waiting_in c.self.inside in
    let k : SourceStands s i w table = subst (λ (x : Waiting). SourceStands s i x table) (sym c.self.view_is) h in
    let n = length c.args.text.now in
    let b = and_parts (nat_le (length w.chunks.octets - 0 + n) MOST_SPAN_OCTETS) (nat_lt (length w.chunks.lengths - 0) MOST_SPAN_CHUNKS) (sym c.has_room.ensures ∙ c.if-has_room.true) in
    let few = leb-true (length w.chunks.octets - 0 + n) MOST_SPAN_OCTETS b.0 in
    let less = ltb-true (length w.chunks.lengths - 0) MOST_SPAN_CHUNKS b.1 in
    (λ t. room_enough s i w table k d (omega (arith, few, ap (λ (t : List ℕ). length t) e)) (omega (arith, less)), λ t. refl)

pub returns-then-has_room-clause-ok : goal.returns-then-has_room-clause-ok
returns-then-has_room-clause-ok c = λ taken listens waits d h e.
    let w = waiting_in c.self.inside in
    let k : SlotHolds w taken listens waits = subst (λ (x : Waiting). SlotHolds x taken listens waits) (sym c.self.view_is) h in
    subst (λ (x : Chunks). SlotHolds (record { chunks = x; parts = w.parts }) (taken ++ record { chunk = d; given = listens } ∷ []) listens (λ j. if listens j then waits j ++ d ∷ [] else waits j)) (sym c.push.ensures)
    (added w taken listens waits k d c.args.text.now e)
