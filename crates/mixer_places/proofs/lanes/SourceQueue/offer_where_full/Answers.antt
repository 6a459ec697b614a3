use Rattle.std.proofs.Common.{◌≡◌, ℕ, List, [], ◌∷◌, ◌++◌, length, map, refl, ap, subst, sym, ◌∙◌, arith}
use Rattle.std.specs.Prelude.{if◌then◌else◌}
use Rattle.std.proofs.lemmas.List.{with_items_is, length-map}
use Rattle.stream_spec.specs.Ready.{Chunk}
use Rattle.mixer_spec.specs.Table.{is_fit, span_with}
use Rattle.mixer_places.specs.declared.rings.RingPosition.{RingPosition}
use Rattle.mixer_places.specs.declared.parts.Part.{Part}
use Rattle.mixer_places.specs.Rings.{Chunks, end_of, pushed}
use Rattle.mixer_places.specs.Lanes.{Waiting, IsOldest, part_after}
use Rattle.mixer_places.specs.LaneInsides.{waiting_in}
use Rattle.mixer_places.specs.SlotStanding.{SlotHolds, SourceStands}
use Rattle.mixer_places.proofs.Rebasing.{oldest_place, added_where_full}
use Rattle.mixer_places.proofs.Spanning.{room_is}
use Rattle.mixer_places.proofs.Utf8.{more_utf8}
use Rattle.mixer_places.proofs.lanes.SourceQueue.offer_where_full.Goals as goal

pub give_up-requires : goal.give_up-requires
give_up-requires c =
    let w = waiting_in c.self.inside in
    let old = c.self.invariant in
    let o : IsOldest (end_of w.chunks) w.parts c.oldest-front.result =
    subst (λ (e : RingPosition). IsOldest e w.parts c.oldest-front.result) c.end.ensures.place (subst (λ (xs : List Part). IsOldest c.end.result xs c.oldest-front.result) c.deref.ensures.value c.oldest-front.ensures) in
    oldest_place w old.taken old.listens old.waits old.holds c.oldest-front.result o

pub returns-then-not-has_room-clause-room : goal.returns-then-not-has_room-clause-room
returns-then-not-has_room-clause-room c = λ s i table d h e.
    let w = waiting_in c.self.inside in
    let k : SourceStands s i w table = subst (λ (x : Waiting). SourceStands s i x table) (sym c.self.view_is) h in
    let o : IsOldest (end_of w.chunks) w.parts c.oldest-front.result =
    subst (λ (e : RingPosition). IsOldest e w.parts c.oldest-front.result) c.end.ensures.place (subst (λ (xs : List Part). IsOldest c.end.result xs c.oldest-front.result) c.deref.ensures.value c.oldest-front.ensures) in
    let fit : c.has_room.result ≡ is_fit (span_with s i d table) = c.has_room.ensures ∙ room_is s i w table k c.oldest-front.result o d (length c.args.text.now) (ap (λ (t : List ℕ). length t) e) in
    (λ t. sym fit ∙ (c.if-not-has_room.true ∙ t), λ t. sym c.if-not-has_room.true ∙ (fit ∙ t))

pub invariant_of-self : goal.invariant_of-self
invariant_of-self c =
    let w = waiting_in c.self.inside in
    let old = c.self.invariant in
    let new : Chunk = record { source = 0; ready = 0; text = c.args.text.now } in
    let front = c.oldest-front.result in
    let o : IsOldest (end_of w.chunks) w.parts front =
    subst (λ (e : RingPosition). IsOldest e w.parts front) c.end.ensures.place (subst (λ (xs : List Part). IsOldest c.end.result xs front) c.deref.ensures.value c.oldest-front.ensures) in
    let counted : c.count_from.new.parts ≡ map (part_after front) w.parts = c.count_from.ensures ∙ ap (λ (xs : List Part). map (part_after front) xs) c.deref_mut.ensures.value in
    let parts = with_items_is c.self.inside.parts c.count_from.new.parts (omega (arith, ap (λ (xs : List Part). length xs) counted, length-map w.parts (part_after front), c.self.inside.parts.ok.0)) ∙ counted in
    let ring = c.push.ensures ∙ ap (λ (x : Chunks). pushed c.args.text.now x) c.give_up.ensures in
    record {
      taken = old.taken ++ record { chunk = new; given = old.listens } ∷ [];
      listens = old.listens;
      waits = λ j. if old.listens j then old.waits j ++ new ∷ [] else old.waits j;
      holds = added_where_full w old.taken old.listens old.waits old.holds front o new c.args.text.now refl _ _ ring parts;
      utf8 = more_utf8 old.taken (record { chunk = new; given = old.listens }) old.utf8 c.requires.utf8;
    }

pub returns-clause-room : goal.returns-clause-room
returns-clause-room c = λ s i table d h e.
    let w = waiting_in c.self.inside in
    let k : SourceStands s i w table = subst (λ (x : Waiting). SourceStands s i x table) (sym c.self.view_is) h in
    let o : IsOldest (end_of w.chunks) w.parts c.oldest-front.result =
    subst (λ (e : RingPosition). IsOldest e w.parts c.oldest-front.result) c.end.ensures.place (subst (λ (xs : List Part). IsOldest c.end.result xs c.oldest-front.result) c.deref.ensures.value c.oldest-front.ensures) in
    let fit : c.has_room.result ≡ is_fit (span_with s i d table) = c.has_room.ensures ∙ room_is s i w table k c.oldest-front.result o d (length c.args.text.now) (ap (λ (t : List ℕ). length t) e) in
    (λ t. sym fit ∙ c.if-not-has_room.false, λ t. refl)

pub returns-clause-ok : goal.returns-clause-ok
returns-clause-ok c = λ taken listens waits d h e.
    let w = waiting_in c.self.inside in
    let front = c.oldest-front.result in
    let k : SlotHolds w taken listens waits = subst (λ (x : Waiting). SlotHolds x taken listens waits) (sym c.self.view_is) h in
    let o : IsOldest (end_of w.chunks) w.parts front =
    subst (λ (e : RingPosition). IsOldest e w.parts front) c.end.ensures.place (subst (λ (xs : List Part). IsOldest c.end.result xs front) c.deref.ensures.value c.oldest-front.ensures) in
    let counted : c.count_from.new.parts ≡ map (part_after front) w.parts = c.count_from.ensures ∙ ap (λ (xs : List Part). map (part_after front) xs) c.deref_mut.ensures.value in
    let parts = with_items_is c.self.inside.parts c.count_from.new.parts (omega (arith, ap (λ (xs : List Part). length xs) counted, length-map w.parts (part_after front), c.self.inside.parts.ok.0)) ∙ counted in
    let ring = c.push.ensures ∙ ap (λ (x : Chunks). pushed c.args.text.now x) c.give_up.ensures in
    added_where_full w taken listens waits k front o d c.args.text.now e _ _ ring parts
