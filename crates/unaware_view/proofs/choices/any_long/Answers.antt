use Rattle.std.proofs.Common.{◌≡◌, ◌==◌, ◌&&◌, not, true, length, sym, ◌∙◌}
use Rattle.std.proofs.lemmas.Bool.{ne_eqb}
use Rattle.mixer_spec.specs.Composed.{is_ago}
use Rattle.unaware_view.specs.Choices.{is_set, since_at}
use Rattle.unaware_view.proofs.Firsts.{any_here}
use Rattle.unaware_view.proofs.choices.any_long.Goals as goal

pub returns-then-is_ago : goal.returns-then-is_ago
returns-then-is_ago c =
    let i = c.loop-i.i in
    let flags = c.args.flags.now in
    let since = c.args.since.now in
    let other = ne_eqb i c.args.own c.if-i-own.true in
    let long : is_ago c.args.ms c.args.now (since_at since i) ≡ true = sym c.is_ago.ensures ∙ c.if-is_ago.true in
    let here : (not (i == c.args.own) && (is_set flags i && is_ago c.args.ms c.args.now (since_at since i))) ≡ true =
    (λ r. not (other r) && (c.if-flags-i.true r && long r)) in
    sym (any_here (λ s. not (s == c.args.own) && (is_set flags s && is_ago c.args.ms c.args.now (since_at since s))) (length flags) i c.loop-i-test.true here)
