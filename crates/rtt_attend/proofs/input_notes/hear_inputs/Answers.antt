use Rattle.std.proofs.Common.{◌≡◌, ◌+◌, ◌<◌, ℕ, List, length, drop, suc, refl, ap, subst, sym, ◌∙◌, arith}
use Rattle.std.specs.Prelude.{Ok}
use Rattle.std.specs.Vec.Iter.{into_iter_items}
use Rattle.std.proofs.lemmas.List.{length_push}
use Rattle.rtt_attend.specs.declared.source_notes.SourceNotes.{SourceNotes}
use Rattle.rtt_attend.specs.Opened.{AreHeard, IsUnheard}
use Rattle.rtt_attend.proofs.Lists.{next_of, rest_of}
use Rattle.rtt_attend.proofs.Legs.{heard_more, hears_leg, none_heard, read_at, rest_fresh, unheard}
use Rattle.rtt_attend.proofs.input_notes.hear_inputs.Goals as goal

pub loop-source-init : goal.loop-source-init
loop-source-init g c =
    let given = c.into_iter-rest.ensures.rest in
    let many = ap (λ (l : List g.row.W-Src.Denot). length l) given in
    let none = ap (λ (l : List SourceNotes). length l) c.requires.none in
    record {
      rest = given ∙ sym (ap (λ (l : List SourceNotes). drop (length l) c.args.sources.items) c.requires.none);
      whole = omega (arith, many, c.into_iter-rest.ensures.len, c.args.sources.ok.0);
      count = omega (arith, none, c.into_iter-rest.ensures.len, c.requires.count, c.args.sources.ok.0);
      len = omega (arith, c.args.all.ok.0);
      room = c.requires.room;
      heard = λ t. none_heard c.args.limit (g.W.World.contents c.args.world.now) c.args.legs.now c.args.all.items c.requires.none;
      same_own = λ n. refl;
      same_objects = λ n. refl;
      same_contents = λ t n. refl;
    }

pub bounds-legs-number : goal.bounds-legs-number
bounds-legs-number g c = let i = c.loop-source.invariant in omega (arith, c.len-number.ensures, i.len, i.count, c.in-Some.ensures.cases.1)

pub hear_leg-requires-clause-fresh : goal.hear_leg-requires-clause-fresh
hear_leg-requires-clause-fresh g c = λ κs lives.
    let i = c.loop-source.invariant in
    let k = length c.loop-source.all.items in
    let there = next_of c.args.sources.items (into_iter_items c.next.new.self) k c.in-Some.source (sym i.rest ∙ c.in-Some.ensures.cases.0) in
    (c.requires.opened k c.in-Some.source there).2.fresh

pub close_inputs-requires-clause-fresh : goal.close_inputs-requires-clause-fresh
close_inputs-requires-clause-fresh g c = λ κs lives.
    let i = c.loop-source.invariant in
    let k = length c.loop-source.all.items in
    rest_fresh g.W.World.tells g.W.Src.Source.left g.W.Src.Source.faults g.W.Src.Source.name (g.W.World.contents c.args.world.now) c.args.legs.now c.args.sources.items (into_iter_items c.next.new.self) (suc k)
    c.requires.opened (sym (rest_of c.args.sources.items (into_iter_items c.next.new.self) k c.in-Some.source (sym i.rest ∙ c.in-Some.ensures.cases.0)))

pub close_inputs-requires-clause-whole : goal.close_inputs-requires-clause-whole
close_inputs-requires-clause-whole g c = λ κs lives.
    let many = ap (λ (l : List g.row.W-Src.Denot). length l) c.in-Some.ensures.cases.0 in
    omega (arith, many, c.loop-source.invariant.whole, c.in-Some.ensures.cases.1)

pub push_reserved-requires : goal.push_reserved-requires
push_reserved-requires g c = let i = c.loop-source.invariant in omega (arith, i.room, i.len, i.count, c.in-Some.ensures.cases.1)

pub loop-source-preserved : goal.loop-source-preserved
loop-source-preserved g c =
    let i = c.loop-source.invariant in
    let held = g.W.World.contents c.args.world.now in
    let legs = c.args.legs.now in
    let all = c.loop-source.all.items in
    let k = length all in
    let source = c.in-Some.source in
    let said = c.in-Ok.said in
    let step = c.in-Some.ensures.cases in
    let behind = into_iter_items c.next.new.self in
    let here = sym i.rest ∙ step.0 in
    let many = ap (λ (l : List g.row.W-Src.Denot). length l) step.0 in
    let there = next_of c.args.sources.items behind k source here in
    let number = c.len-number.result in
    let leg = c.index-legs-number.result in
    let at : number ≡ k = omega (arith, c.len-number.ensures, i.len) in
    let low : number < length legs = omega (arith, c.len-number.ensures, i.len, i.count, step.1) in
    let own = read_at g.W.World.tells g.W.Src.Source.left g.W.Src.Source.faults g.W.Src.Source.name held legs c.args.sources.items k number leg source c.requires.opened there at low c.index-legs-number.is in
    let items = c.push_reserved.ensures.items in
    let longer : length c.push_reserved.new.self.items ≡ k + 1 = ap (λ (l : List SourceNotes). length l) items ∙ length_push all said in
    let more : suc k ≡ length c.push_reserved.new.self.items = omega (arith, longer) in
    record {
      rest = sym (rest_of c.args.sources.items behind k source here) ∙ ap (λ (n : ℕ). drop n c.args.sources.items) more;
      whole = omega (arith, many, i.whole, step.1);
      count = omega (arith, longer, i.count, step.1);
      len = omega (arith, longer, c.push_reserved.ensures.len, i.len);
      room = omega (arith, c.push_reserved.ensures.capacity, i.room);
      heard = λ t. subst (λ (l : List SourceNotes). AreHeard c.args.limit held legs l) (sym items)
          (heard_more c.args.limit held legs all said (i.heard t)
          (hears_leg g.W.World.tells g.W.Src.Source.left g.W.Src.Source.faults g.W.Src.Source.name c.args.limit held legs k leg source (Ok said) own.0 own.1 t (c.in-Ok.ensures.hears (c.requires.shown t (omega (arith, low))))));
      same_own = λ n. c.hear_leg.ensures.same_own n ∙ i.same_own n;
      same_objects = λ n. c.in-Ok.ensures.calm n ∙ i.same_objects n;
      same_contents = λ t n. c.hear_leg.ensures.same_contents t n ∙ i.same_contents t n;
    }

pub returns-in-Err-clause-unheard : goal.returns-in-Err-clause-unheard
returns-in-Err-clause-unheard g c =
    let i = c.loop-source.invariant in
    let held = g.W.World.contents c.args.world.now in
    let legs = c.args.legs.now in
    let k = length c.loop-source.all.items in
    let source = c.in-Some.source in
    let fault = c.in-Err.fault in
    let step = c.in-Some.ensures.cases in
    let behind = into_iter_items c.next.new.self in
    let there = next_of c.args.sources.items behind k source (sym i.rest ∙ step.0) in
    let number = c.len-number.result in
    let leg = c.index-legs-number.result in
    let at : number ≡ k = omega (arith, c.len-number.ensures, i.len) in
    let low : number < length legs = omega (arith, c.len-number.ensures, i.len, i.count, step.1) in
    let own = read_at g.W.World.tells g.W.Src.Source.left g.W.Src.Source.faults g.W.Src.Source.name held legs c.args.sources.items k number leg source c.requires.opened there at low c.index-legs-number.is in
    let objects = g.W.World.object_faults c.args.world.now in
    let objects_then = g.W.World.object_faults c.close_inputs.new.world in
    subst (λ (n : ℕ). IsUnheard g.W.World.tells objects objects_then held c.args.limit legs n fault) (sym at)
    (unheard g.W.World.tells g.W.Src.Source.left g.W.Src.Source.faults g.W.Src.Source.name c.args.limit held (g.W.World.contents c.loop-source.world) legs k leg source c.loop-source.all.items fault objects (g.W.World.object_faults c.loop-source.world) (g.W.World.object_faults c.hear_leg.new.world) objects_then
    own.0 own.1 refl i.heard (λ t. c.in-Err.ensures.hears (c.requires.shown t (omega (arith, low)))) c.in-Err.ensures.read c.in-Err.ensures.calm c.hear_leg.ensures.no_other i.same_objects c.close_inputs.ensures.same_objects i.same_contents)

pub returns-clause-heard : goal.returns-clause-heard
returns-clause-heard g c = c.loop-source.invariant.heard

pub returns-clause-objects_never_fall : goal.returns-clause-objects_never_fall
returns-clause-objects_never_fall g c = λ n. omega (arith, c.loop-source.invariant.same_objects n)

pub returns-in-Err-clause-objects_never_fall : goal.returns-in-Err-clause-objects_never_fall
returns-in-Err-clause-objects_never_fall g c = λ n. omega (arith, c.loop-source.invariant.same_objects n, c.hear_leg.ensures.objects_never_fall n, c.close_inputs.ensures.same_objects n)
