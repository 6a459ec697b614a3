use Rattle.std.proofs.Common.{◌≡◌, ◌+◌, ◌*◌, ℕ, [], ◌∷◌, ◌++◌, length, refl, ap, sym, subst, ◌∙◌, append_assoc, arith, Result}
use Rattle.std.specs.Vec.Iter.{into_iter_items}
use Rattle.std.proofs.lemmas.List.{length-map, length_push}
use Rattle.rtt_base.specs.declared.errors.NoMemory.{NoMemory}
use Rattle.file_spec.specs.Conferences.{meaning_of}
use Rattle.sent_log.specs.States.{recording_of}
use Rattle.rtt_mix.specs.declared.views.TerminalViews.{TerminalViews}
use Rattle.sent_log.specs.Files.{recordings_of}
use Rattle.rtt_mix.specs.Viewed.{AreOf, IsSeenBetween}
use Rattle.rtt_mix.proofs.Viewing.{seen_none, sums_all, views_all}
use Rattle.rtt_mix.proofs.Joining.{Parts, all_read, more_seen, next_is, none_of}
use Rattle.rtt_mix.proofs.parts.views_on_threads.Goals as goal

pub loop-part-init : goal.loop-part-init
loop-part-init g c =
    let n = c.nothing_seen-total.ensures in
    let q = meaning_of c.args.conference.now in
    let none = none_of c.part_size-size.result (length (recordings_of c.args.log.now)) in
    record {
      all = refl;
      left = omega (arith, c.into_iter-part-iterator.ensures.into_iter_gives.1, c.in_ok-parts.parts.ok.0, ap (λ (xs : Parts). length xs) c.into_iter-part-iterator.ensures.into_iter_gives.0);
      seen = λ table a. subst (λ (k : ℕ). IsSeenBetween q table 0 k c.nothing_seen-total.result) (sym none) (seen_none q table 0 c.nothing_seen-total.result n.views n.packets n.used n.markers);
      numbers = record { packets = omega (arith, n.packets); used = omega (arith, n.used); markers = omega (arith, n.markers) };
    }

pub add_part-requires-clause-part : goal.add_part-requires-clause-part
add_part-requires-clause-part g c = (next_is (meaning_of c.args.conference.now) (recordings_of c.args.log.now) c.part_size-size.result c.loop-part.yielded c.in-Some.part c.in_ok-seen.seen (into_iter_items c.next.new.self) (into_iter_items c.loop-part.part-iterator) (into_iter_items c.into_iter-part-iterator.result) c.in_ok-parts.parts.items
    c.in-Some.ensures.steps.0 c.in_ok-seen.was c.loop-part.invariant.all c.into_iter-part-iterator.ensures.into_iter_gives.0 (omega (arith, c.in_ok-parts.parts.ok.0, c.in_ok-parts.ensures.count)) c.in_ok-parts.ensures.parts).0.numbers

pub add_part-requires-clause-before : goal.add_part-requires-clause-before
add_part-requires-clause-before g c = (
  length c.loop-part.yielded,
  (next_is (meaning_of c.args.conference.now) (recordings_of c.args.log.now) c.part_size-size.result c.loop-part.yielded c.in-Some.part c.in_ok-seen.seen (into_iter_items c.next.new.self) (into_iter_items c.loop-part.part-iterator) (into_iter_items c.into_iter-part-iterator.result) c.in_ok-parts.parts.items
      c.in-Some.ensures.steps.0 c.in_ok-seen.was c.loop-part.invariant.all c.into_iter-part-iterator.ensures.into_iter_gives.0 (omega (arith, c.in_ok-parts.parts.ok.0, c.in_ok-parts.ensures.count)) c.in_ok-parts.ensures.parts).1,
  c.loop-part.invariant.numbers,
)

pub loop-part-preserved : goal.loop-part-preserved
loop-part-preserved g c =
    let i = c.loop-part.invariant in
    let yielded : Parts = c.loop-part.yielded in
    let part : Result TerminalViews NoMemory = c.in-Some.part in
    let rest : Parts = into_iter_items c.next.new.self in
    let steps : into_iter_items c.loop-part.part-iterator ≡ part ∷ rest = c.in-Some.ensures.steps.0 in
    let next = next_is (meaning_of c.args.conference.now) (recordings_of c.args.log.now) c.part_size-size.result c.loop-part.yielded c.in-Some.part c.in_ok-seen.seen (into_iter_items c.next.new.self) (into_iter_items c.loop-part.part-iterator) (into_iter_items c.into_iter-part-iterator.result) c.in_ok-parts.parts.items
    c.in-Some.ensures.steps.0 c.in_ok-seen.was c.loop-part.invariant.all c.into_iter-part-iterator.ensures.into_iter_gives.0 (omega (arith, c.in_ok-parts.parts.ok.0, c.in_ok-parts.ensures.count)) c.in_ok-parts.ensures.parts in
    let more : length (yielded ++ part ∷ []) ≡ length yielded + 1 = omega (arith, length_push yielded part) in
    record {
      all = append_assoc yielded (part ∷ []) rest ∙ (ap (λ (xs : Parts). yielded ++ xs) (sym steps) ∙ i.all);
      left = omega (arith, i.left, c.in-Some.ensures.steps.1, ap (λ (xs : Parts). length xs) steps);
      seen = λ table a. more_seen (meaning_of c.args.conference.now) (recordings_of c.args.log.now) table c.part_size-size.result (length yielded) (length (yielded ++ part ∷ [])) c.loop-part.total c.in_ok-seen.seen c.add_part.new.all
          more a next.0 c.in_ok-add_part.ensures.adds (i.seen table a);
      numbers = subst (λ (n : ℕ). AreOf (64 * n) c.add_part.new.all) (sym more) (c.in_ok-add_part.ensures.with_it (length yielded) i.numbers);
    }

pub returns-clause-views : goal.returns-clause-views
returns-clause-views g c = λ table sent.
    let q = meaning_of c.args.conference.now in
    views_all q table (length (recordings_of c.args.log.now)) c.loop-part.total (omega (arith, c.requires.each, length-map c.args.log.now recording_of)) (subst (λ (n : ℕ). IsSeenBetween q table 0 n c.loop-part.total) (all_read c.part_size-size.result (length (recordings_of c.args.log.now)) c.loop-part.yielded (into_iter_items c.loop-part.part-iterator) (into_iter_items c.into_iter-part-iterator.result) c.in_ok-parts.parts.items
    (omega (arith, c.in-None.ensures.steps, c.loop-part.invariant.left)) c.loop-part.invariant.all c.into_iter-part-iterator.ensures.into_iter_gives.0 (omega (arith, c.in_ok-parts.parts.ok.0, c.in_ok-parts.ensures.count)) (omega (arith, c.part_size-size.ensures.all, c.terminals.ensures, length-map c.args.log.now recording_of))) (c.loop-part.invariant.seen table sent))

pub returns-clause-sums : goal.returns-clause-sums
returns-clause-sums g c = λ table sent.
    let q = meaning_of c.args.conference.now in
    sums_all q table (length (recordings_of c.args.log.now)) c.loop-part.total (omega (arith, c.requires.each, length-map c.args.log.now recording_of)) (subst (λ (n : ℕ). IsSeenBetween q table 0 n c.loop-part.total) (all_read c.part_size-size.result (length (recordings_of c.args.log.now)) c.loop-part.yielded (into_iter_items c.loop-part.part-iterator) (into_iter_items c.into_iter-part-iterator.result) c.in_ok-parts.parts.items
    (omega (arith, c.in-None.ensures.steps, c.loop-part.invariant.left)) c.loop-part.invariant.all c.into_iter-part-iterator.ensures.into_iter_gives.0 (omega (arith, c.in_ok-parts.parts.ok.0, c.in_ok-parts.ensures.count)) (omega (arith, c.part_size-size.ensures.all, c.terminals.ensures, length-map c.args.log.now recording_of))) (c.loop-part.invariant.seen table sent))
