use Rattle.unaware_view.proofs.labels.label.Goals as goal
use Rattle.std.proofs.Common.{length, length-append, ap, ◌∙◌, arith}
use Rattle.unaware_view.proofs.Sizes.{bracketed, length_is}

pub append-requires-2 : goal.append-requires-2
append-requires-2 c =
    omega (arith, length_is c.args.is_open c.args.name.now, ap length (c.as_bytes.ensures.value ∙ c.line_start.ensures.is), ap length c.append.ensures, length-append c.args.out.now c.as_bytes.result.now, c.requires)

pub append-requires-3 : goal.append-requires-3
append-requires-3 c =
    let b = bracketed c.args.is_open c.args.name.now c.as_bytes.result.now c.args.out.now c.append.new.out c.append-2.new.out (c.as_bytes.ensures.value ∙ c.line_start.ensures.is) c.append.ensures c.append-2.ensures in
    omega (arith, b, ap length c.as_bytes-2.ensures.value, c.requires)

pub append-requires-4 : goal.append-requires-4
append-requires-4 c =
    let b = bracketed c.args.is_open c.args.name.now c.as_bytes.result.now c.args.out.now c.append.new.out c.append-2.new.out (c.as_bytes.ensures.value ∙ c.line_start.ensures.is) c.append.ensures c.append-2.ensures in
    omega (arith, b, ap length c.as_bytes-2.ensures.value, ap length c.append-3.ensures, length-append c.append-2.new.out c.as_bytes-2.result.now, c.requires)
