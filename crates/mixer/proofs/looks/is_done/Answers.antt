use Rattle.std.proofs.Common.{◌≡◌, true, false, not, length, ap, ◌∙◌, arith}
use Rattle.std.specs.Prelude.{◌==◌, ◌||◌, ◌&&◌}
use Rattle.mixer_spec.specs.Rounds.{all_below}
use Rattle.mixer_spec.specs.Table.{is_quiet, has_work}
use Rattle.mixer.proofs.looks.is_done.Goals as goal
use Rattle.stream_spec.proofs.Plain.{get_read}

pub returns-then-is_quiet : goal.returns-then-is_quiet
returns-then-is_quiet c = λ s table h w.
    let i = c.args.leg in
    let g = get_read c.args.schedulers.now i c.index-schedulers-leg.result (omega (arith, c.requires.leg, c.requires.legs)) c.index-schedulers-leg.is in
    let quiet : true ≡ is_quiet s i (table.terminals i) = c.if-is_quiet.ensures s i table (h i c.index-schedulers-leg.result g) w in
    let legs : length c.args.schedulers.now ≡ s.legs = c.requires.legs ∙ w.legs in
    c.are_free_of.ensures s table h w
    ∙ (ap (λ n. all_below (λ j. (j == i) || not (has_work s j (table.terminals j) i)) n) legs ∙ ap (λ b. b && all_below (λ j. (j == i) || not (has_work s j (table.terminals j) i)) s.legs) quiet)

pub returns-else-is_quiet : goal.returns-else-is_quiet
returns-else-is_quiet c = λ s table h w.
    let i = c.args.leg in
    let g = get_read c.args.schedulers.now i c.index-schedulers-leg.result (omega (arith, c.requires.leg, c.requires.legs)) c.index-schedulers-leg.is in
    let quiet : false ≡ is_quiet s i (table.terminals i) = c.if-is_quiet.ensures s i table (h i c.index-schedulers-leg.result g) w in
    c.if-is_quiet.false ∙ ap (λ b. b && all_below (λ j. (j == i) || not (has_work s j (table.terminals j) i)) s.legs) quiet
