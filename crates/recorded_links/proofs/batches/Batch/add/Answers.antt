use Rattle.std.proofs.Common.{List, ℕ, ap, ◌∙◌, length, length-append, arith}
use Rattle.recorded_links.specs.Notes.{octets_of}
use Rattle.recorded_links.proofs.Adding.{octets_more}
use Rattle.recorded_links.proofs.batches.Batch.add.Goals as goal

pub invariant_of-self-2 : goal.invariant_of-self-2
invariant_of-self-2 c =
    let items = ap octets_of c.in_ok-reserve.ensures.items in
    let long = ap (λ (l : List ℕ). length l) c.in_ok-append.ensures.ok in
    let sum = length-append c.args.self.now.octets c.args.octets.now in
    let whole = c.args.self.now.whole in
    record { whole = ap octets_of c.push_reserved.ensures.items ∙ (octets_more c.reserve.new.self.items _ ∙ omega (arith, items, long, sum, whole)) }
