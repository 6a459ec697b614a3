use Rattle.std.proofs.Common.{◌≡◌, ℕ, ◌+◌, ◌-◌, ◌<◌, List, ◌++◌, length, length-append, codes, decimal, append_assoc, refl, ap, sym, ◌∙◌, arith}
use Rattle.recording_views.proofs.Sizes.{last_length, one_length}
use Rattle.recording_views.proofs.records.write_sizes.Goals as goal

pub loop-left-init : goal.loop-left-init
loop-left-init c =
    let v = c.args.view.now in
    let line = c.args.line.now in
    let number = c.prepend_number.new.self in
    let spaced : c.prepend.new.self ≡ codes " " ++ number = c.prepend.ensures in
    let one : length (codes " ") ≡ 1 = refl in
    let longer : length c.prepend.new.self ≡ length (codes " ") + length number = ap (λ (o : List ℕ). length o) spaced ∙ length-append (codes " ") number in
    record {
      few = omega arith;
      lengths = spaced
          ∙ (ap (λ (o : List ℕ). codes " " ++ o) c.prepend_number.ensures.line
          ∙ (sym (append_assoc (codes " ") (decimal (length v.primary.now)) line) ∙ ap (λ (o : List ℕ). o ++ line) (sym (last_length v))));
      fits = omega (arith, longer, one, c.prepend_number.ensures.fits);
    }

pub loop-left-preserved : goal.loop-left-preserved
loop-left-preserved c =
    let v = c.args.view.now in
    let left = c.loop-left.left in
    let some = c.loop-left-test.true in
    let few = c.loop-left.invariant.few in
    let number = c.prepend_number-in-loop-left.new.self in
    let spaced : c.prepend-in-loop-left.new.self ≡ codes " " ++ number = c.prepend-in-loop-left.ensures in
    let one : length (codes " ") ≡ 1 = refl in
    let longer : length c.prepend-in-loop-left.new.self ≡ length (codes " ") + length number = ap (λ (o : List ℕ). length o) spaced ∙ length-append (codes " ") number in
    let before : left - 1 + 1 ≡ left = omega (arith, some) in
    let within : left - 1 < v.count = omega (arith, some, few) in
    record {
      few = omega (arith, few);
      lengths = spaced
          ∙ (ap (λ (o : List ℕ). codes " " ++ o) (c.prepend_number-in-loop-left.ensures.line ∙ ap (λ (n : ℕ). decimal n ++ c.loop-left.line) c.from.ensures)
          ∙ one_length v (left - 1) left c.header-header.result c.loop-left.line c.args.line.now c.requires.view within before c.header-header.ensures.value c.loop-left.invariant.lengths);
      fits = omega (arith, longer, one, some, few, c.prepend_number-in-loop-left.ensures.fits, c.loop-left.invariant.fits);
    }
