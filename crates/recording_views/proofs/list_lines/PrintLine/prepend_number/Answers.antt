use Rattle.std.proofs.Common.{◌≤◌, length, decimal, drop, arith, ap, length-append}
use Rattle.recording_views.proofs.Digits.{digits_of_word, start_of}
use Rattle.recording_views.proofs.list_lines.PrintLine.prepend_number.Goals as goal

pub write_digits-self-inside-requires : goal.write_digits-self-inside-requires
write_digits-self-inside-requires c =
    let start = start_of c.self.inside.octets c.args.self.now c.self.inside.start c.self.told c.self.view_is c.self.invariant in
    let digits : length (decimal c.from.result) ≤ 10 = rw c.from.ensures (digits_of_word c.args.number c.ranges.number.fits) in
    (omega (arith, start, digits, c.requires), omega (arith, c.self.told, c.self.invariant))

pub returns-clause-fits : goal.returns-clause-fits
returns-clause-fits c =
    let digits : length (decimal c.from.result) ≤ 10 = rw c.from.ensures (digits_of_word c.args.number c.ranges.number.fits) in
    omega (arith, digits, ap length c.write_digits-self-inside.ensures.written, length-append (decimal c.from.result) (drop c.self.inside.start c.self.inside.octets), ap length c.self.view_is)
