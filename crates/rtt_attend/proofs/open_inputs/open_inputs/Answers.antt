use Rattle.std.proofs.Common.{◌≡◌, ◌≢◌, ◌+◌, ℕ, List, length, ap, subst, sym, ◌∙◌, arith}
use Rattle.std.specs.Prelude.{IsSome, Some}
use Rattle.std.proofs.lemmas.List.{length_push}
use Rattle.rtt_io.specs.Counts.{Rose}
use Rattle.file_spec.specs.declared.conference_lines.LegLine.{LegLine}
use Rattle.rtt_mix.proofs.Opening.{first_here, leg_read_at}
use Rattle.rtt_attend.specs.Opened.{AreFresh, AreInputs}
use Rattle.rtt_attend.proofs.Legs.{are_fresh, lie_below, opened_more}
use Rattle.rtt_attend.proofs.open_inputs.open_inputs.Goals as goal

pub close_inputs-requires-clause-fresh : goal.close_inputs-requires-clause-fresh
close_inputs-requires-clause-fresh g c = λ κs lives.
    subst (λ (l : List g.row.W-Src.Denot). AreFresh g.W.Src.Source.faults l) (sym c.into_iter.ensures.rest)
    (are_fresh g.W.World.tells g.W.Src.Source.left g.W.Src.Source.faults g.W.Src.Source.name (g.W.World.contents c.args.world.now) c.args.legs.now c.loop-index.sources.items c.loop-index.invariant.opened)

pub returns-in-Err-clause-refused : goal.returns-in-Err-clause-refused
returns-in-Err-clause-refused g c =
    let i = c.loop-index.invariant in
    let leg = c.index-legs-index.result in
    let named : c.as_str.result.now ≡ leg.input = c.as_str.ensures ∙ ap (λ (l : LegLine). l.input) (sym c.index-legs-index.is) in (
      leg,
      leg_read_at c.args.legs.now c.loop-index.index leg (omega (arith, c.loop-index-test.true)) c.index-legs-index.is,
      subst (λ (x : ℕ). Rose x (g.W.World.own_faults c.close_inputs.new.world leg.input)) (i.same_own leg.input)
          (subst (λ (x : ℕ). Rose (g.W.World.own_faults c.loop-index.world leg.input) x) (sym (c.close_inputs.ensures.same_own leg.input))
          (subst (λ (name : List ℕ). Rose (g.W.World.own_faults c.loop-index.world name) (g.W.World.own_faults c.open_source.new.self name)) named c.in-Err.ensures.failed)),
      λ t. lie_below g.W.World.tells g.W.Src.Source.left g.W.Src.Source.faults g.W.Src.Source.name (g.W.World.contents c.args.world.now) c.args.legs.now c.loop-index.sources.items c.loop-index.index i.opened i.count t,
    )

pub returns-in-Err-clause-first : goal.returns-in-Err-clause-first
returns-in-Err-clause-first g c =
    let i = c.loop-index.invariant in
    let leg = c.index-legs-index.result in
    let named : c.as_str.result.now ≡ leg.input = c.as_str.ensures ∙ ap (λ (l : LegLine). l.input) (sym c.index-legs-index.is) in
    let own = g.W.World.own_faults in
    first_here g.W.World.tells (g.W.World.contents c.args.world.now) (g.W.World.contents c.loop-index.world) c.args.legs.now c.loop-index.index leg
    (own c.args.world.now) (own c.loop-index.world) (own c.open_source.new.self) (own c.close_inputs.new.world) (leg_read_at c.args.legs.now c.loop-index.index leg (omega (arith, c.loop-index-test.true)) c.index-legs-index.is) i.contents
    (subst (λ (name : List ℕ). g.W.World.tells → IsSome (g.W.World.contents c.loop-index.world name) → (n : List ℕ) → n ≢ name → own c.open_source.new.self n ≡ own c.loop-index.world n) named c.in-Err.ensures.no_other)
    i.same_own c.close_inputs.ensures.same_own

pub loop-index-preserved : goal.loop-index-preserved
loop-index-preserved g c =
    let i = c.loop-index.invariant in
    let source = c.in-Ok-open_source.source in
    let now = c.loop-index.sources.items in
    let items = c.push_reserved.ensures.items in
    let leg = c.index-legs-index.result in
    let named : c.as_str.result.now ≡ leg.input = c.as_str.ensures ∙ ap (λ (l : LegLine). l.input) (sym c.index-legs-index.is) in
    let opened = subst (λ (xs : List g.row.W-Src.Denot). AreInputs g.W.World.tells g.W.Src.Source.left g.W.Src.Source.faults g.W.Src.Source.name (g.W.World.contents c.args.world.now) c.args.legs.now xs) (sym items)
    (opened_more g.W.World.tells g.W.Src.Source.left g.W.Src.Source.faults g.W.Src.Source.name (g.W.World.contents c.args.world.now) (g.W.World.contents c.loop-index.world) c.args.legs.now c.loop-index.index leg now source
    i.opened i.count (leg_read_at c.args.legs.now c.loop-index.index leg (omega (arith, c.loop-index-test.true)) c.index-legs-index.is) (c.in-Ok-open_source.ensures.named ∙ named) c.in-Ok-open_source.ensures.fresh
    (λ t. subst (λ (name : List ℕ). g.W.World.contents c.loop-index.world name ≡ Some (g.W.Src.Source.left source)) named (c.in-Ok-open_source.ensures.holds t)) i.contents) in
    record {
      count = ap (λ (xs : List g.row.W-Src.Denot). length xs) items ∙ (length_push now source ∙ ap (λ n. n + 1) i.count);
      len = omega (arith, c.push_reserved.ensures.len, i.len);
      room = omega (arith, c.push_reserved.ensures.capacity, i.room);
      opened = opened;
      shown = λ t l. c.in-Ok-open_source.ensures.told t;
      same_own = λ n. c.in-Ok-open_source.ensures.calm n ∙ i.same_own n;
      same_objects = λ n. c.open_source.ensures.same_objects n ∙ i.same_objects n;
      contents = λ t n. c.open_source.ensures.same_contents t n ∙ i.contents t n;
    }

pub returns-clause-own_never_falls : goal.returns-clause-own_never_falls
returns-clause-own_never_falls g c = λ n. omega (arith, c.loop-index.invariant.same_own n)
