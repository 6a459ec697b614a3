use Rattle.std.proofs.Common.{ℕ, List, [], length, ap, sym, ◌∙◌}
use Rattle.std.specs.Prelude.{map}
use Rattle.std.proofs.lemmas.List.{length-map}
use Rattle.wire_spec.specs.Dump.{Recording, arrivals_after}
use Rattle.command_spec.specs.Splitting.{split}
use Rattle.cascade.specs.Splits.{trunk_of}
use Rattle.cascade.proofs.splits.split_from.Goals as goal

pub listen-requires-clause-listens : goal.listen-requires-clause-listens
listen-requires-clause-listens g c = (trunk_of c.args.ssrc c.args.settings, c.args.sources.now, [], c.in_ok-divider.ensures.listens c.args.settings.limit)

pub finish-requires : goal.finish-requires
finish-requires g c =
    let t = trunk_of c.args.ssrc c.args.settings in
    let all = c.in_ok-listen.ensures.hears in
    record { listens = (t, c.args.sources.now, arrivals_after t.ssrc t.payload_types [] all.items, all.so t c.args.sources.now [] (c.in_ok-divider.ensures.listens c.args.settings.limit)) }

pub returns-clause-splits : goal.returns-clause-splits
returns-clause-splits g c = λ told.
    let t = trunk_of c.args.ssrc c.args.settings in
    let all = c.in_ok-listen.ensures.hears in
    c.in_ok-splitters.ensures.splits t c.args.sources.now (arrivals_after t.ssrc t.payload_types [] all.items) (all.so t c.args.sources.now [] (c.in_ok-divider.ensures.listens c.args.settings.limit))
    ∙ ap (λ (q : Recording). map (split t.payload_types t.wait (arrivals_after t.ssrc t.payload_types [] q.items)) c.args.sources.now) (sym (all.is told))

pub returns-clause-each : goal.returns-clause-each
returns-clause-each g c =
    let t = trunk_of c.args.ssrc c.args.settings in
    let all = c.in_ok-listen.ensures.hears in
    let past = arrivals_after t.ssrc t.payload_types [] all.items in
    ap (λ (xs : List (List ℕ)). length xs) (c.in_ok-splitters.ensures.splits t c.args.sources.now past (all.so t c.args.sources.now [] (c.in_ok-divider.ensures.listens c.args.settings.limit)))
    ∙ length-map c.args.sources.now (split t.payload_types t.wait past)
