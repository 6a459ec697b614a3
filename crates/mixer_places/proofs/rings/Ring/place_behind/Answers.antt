use Rattle.std.proofs.Common.{◌≡◌, ◌+◌, ◌-◌, ◌<◌, ◌≤◌, ℕ, suc, List, refl, ap, ◌∙◌, length, arith}
use Rattle.std.specs.Prelude.{slice_index}
use Rattle.mixer_places.specs.Rings.{chunks_between, count_fitting}
use Rattle.mixer_places.proofs.Fronts.{between_first, sum_between, fits_more, fits_none}
use Rattle.mixer_places.proofs.rings.Ring.place_behind.Goals as goal

pub returns-then-length-left-clause-chunks : goal.returns-then-length-left-clause-chunks
returns-then-length-left-clause-chunks c =
    let chunks = c.args.self.now in
    let k = c.loop-index.index in
    let left = c.loop-index.left in
    let rest = chunks_between chunks (k + 1) c.args.end in
    let n = slice_index chunks.lengths k in
    let more : left < n = omega (arith, c.length_at-length.ensures.value, c.if-length-left.true) in
    let none : count_fitting left (chunks_between chunks k c.args.end) ≡ 0 =
    ap (λ (zs : List ℕ). count_fitting left zs) (between_first chunks k c.args.end c.loop-index-test.true c.requires.end) ∙ fits_none left n rest more in
    omega (arith, none, c.loop-index.invariant.at, c.loop-index.invariant.count)

pub loop-index-preserved : goal.loop-index-preserved
loop-index-preserved c =
    let chunks = c.args.self.now in
    let k = c.loop-index.index in
    let left = c.loop-index.left in
    let from = c.args.from.chunks in
    let rest = chunks_between chunks (k + 1) c.args.end in
    let n = slice_index chunks.lengths k in
    let read : c.length_at-length.result ≡ n = c.length_at-length.ensures.value in
    let fits : n ≤ left = omega (arith, read, c.if-length-left.false) in
    let less : left - n ≡ left - c.length_at-length.result = omega (arith, read) in
    let more : count_fitting left (chunks_between chunks k c.args.end) ≡ suc (count_fitting (left - c.length_at-length.result) rest) =
    ap (λ (zs : List ℕ). count_fitting left zs) (between_first chunks k c.args.end c.loop-index-test.true c.requires.end) ∙ (fits_more left n rest fits ∙ ap (λ (m : ℕ). suc (count_fitting m rest)) less) in
    let within : k < length chunks.lengths = omega (arith, c.loop-index-test.true, c.requires.end) in
    let order : from ≤ k = c.loop-index.auto.index in
    record {
      at = refl;
      count = omega (arith, more, c.loop-index.invariant.count);
      octets = omega (arith, read, c.loop-index.invariant.octets, sum_between chunks from k order within);
      left = omega (arith, c.if-length-left.false, c.loop-index.invariant.left);
    }
