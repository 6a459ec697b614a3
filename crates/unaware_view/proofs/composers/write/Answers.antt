use Rattle.unaware_view.proofs.composers.write.Goals as goal
use Rattle.std.proofs.Common.{◌≡◌, refl, ap, subst, sym, ◌∙◌, not, IsUtf8}
use Rattle.unaware_view.proofs.Written.{written_step}

pub returns-clause-goes_on : goal.returns-clause-goes_on
returns-clause-goes_on c alone behind_cr before chunks h a e =
    let same : c.in-Ok.taken.now ≡ c.args.octets.now = c.in-Ok.ensures.cases.0 in
    let utf8 : IsUtf8 c.in-Ok.taken.now = subst IsUtf8 (sym same) c.in-Ok.ensures.cases.1 in
    written_step c.args.name.now c.args.run.now c.write.new.self _ alone behind_cr before c.in-Ok.taken.now c.write.new.out c.args.text.now chunks c.or-has_chunk.result (not c.is_empty.result) a (same ∙ e) (ap not c.is_empty.ensures) c.or-has_chunk.ensures
    (c.write.ensures.sends alone behind_cr before utf8 h) refl
