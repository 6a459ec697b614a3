use Rattle.std.proofs.Common.{◌≡◌, ◌+◌, ◌*◌, ℕ, List, length, length-drop, drop, ap, ◌∙◌, arith}
use Rattle.std.proofs.lemmas.Bool.Decides.{nat_tests}
use Rattle.std.proofs.lemmas.List.{take_rest, drop-drop}
use Rattle.std.proofs.lemmas.Result.{err_from_is_err_and}
use Rattle.rtp_text.proofs.Steps.{scan_refused, scan_more, scan_last, size_more}
use Rattle.rtp_text.proofs.block_readers.scan_headers.Goals as goal

pub returns-in_err-header-clause-exact : goal.returns-in_err-header-clause-exact
returns-in_err-header-clause-exact c =
    let p = err_from_is_err_and c.from_residual.result c.from_residual.ensures.1 in
    let i = c.loop-header.invariant in
    rw (p.1, p.2) (scan_refused c.loop-header.count c.args.octets.now c.loop-header.rest.now c.args.t140 _ c.in_err-header.field-0.0 i.few c.in_err-header.ensures.exact i.read)

pub loop-header-preserved : goal.loop-header-preserved
loop-header-preserved c =
    let i = c.loop-header.invariant in
    let n = c.loop-header.count in
    let rest = c.loop-header.rest.now in
    let octets = c.args.octets.now in
    let found = rw c.in-Some.is at c.in_ok-header.ensures in
    let room = found.room in
    let next : 4 * n + 4 ≡ 4 * (n + 1) = omega arith in
    record {
      read = rw (take_rest rest 4) (scan_more n octets rest c.in-Some.header c.args.t140 _ i.few i.rest found.header found.room found.exact i.read);
      few = let few = i.few in grind (arith, nat_tests);
      there = omega (arith, ap (λ (l : List ℕ). length l) i.rest, length-drop (4 * n) octets, found.octets, i.there);
      rest = rw (take_rest rest 4) (ap (λ (l : List ℕ). drop 4 l) i.rest ∙ (drop-drop 4 (4 * n) octets ∙ ap (λ (m : ℕ). drop m octets) next));
      older = omega (arith, i.older, c.from-older.ensures, size_more n octets rest c.in-Some.header i.rest found.header);
      bound = omega (arith, i.bound, c.from-older.ensures, found.small.size);
    }

pub returns-clause-exact : goal.returns-clause-exact
returns-clause-exact c =
    let i = c.loop-header.invariant in
    let found = rw c.in_default.is at c.in_ok-header.ensures in
    rw (take_rest c.loop-header.rest.now 1) (scan_last c.loop-header.count c.args.octets.now c.loop-header.rest.now c.args.t140 _ i.few found.exact i.read)
