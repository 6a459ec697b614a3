use Rattle.std.proofs.Common.{rules, ◌≡◌, ℕ, ◌<◌, ◌≤◌, ◌^◌, length, List, ◌++◌, take, chars, sym, ap, ◌∙◌, subst, arith, append-nil, IsUtf8}
use Rattle.std.proofs.lemmas.List.{take-append-drop, nil_from_length}
use Rattle.std.proofs.lemmas.Str.{IsCharBoundary-from_take, IsUtf8-from_ascii, chars-nil}
use Rattle.std.proofs.lemmas.List.Elements.{All-same}
use Rattle.std.proofs.lemmas.Bool.Decides.{nat_tests}
use Rattle.t140_text.specs.Screens.{ScreenHolds, IsPlain, Reads}
use Rattle.t140_text.proofs.Runs.{ascii-plain, bell_fits}
use Rattle.t140_text.proofs.displays.read.Goals as goal

pub split_at-requires : goal.split_at-requires
split_at-requires c =
    let rest = c.loop-rest.rest.now in
    let n = c.plain_len.result in
    let same = c.as_bytes.ensures.value in
    let plain = All-same IsPlain (take n rest) (take n c.as_bytes.result.now) (ap (λ (l : List ℕ). take n l) (sym same)) c.plain_len.ensures.plain in
    IsCharBoundary-from_take rest n (subst IsUtf8 same c.as_bytes.ensures.utf8) (subst (λ (l : List ℕ). n ≤ length l) same c.plain_len.ensures.fits) (IsUtf8-from_ascii (take n rest) (ascii-plain (take n rest) plain))

pub read_first-requires : goal.read_first-requires
read_first-requires c =
    let text = c.args.text.now in
    let rest = c.loop-rest.rest.now in
    let after = c.split_at.result.1.now in
    let parts : c.split_at.result.0.now ++ after ≡ rest = rw (c.split_at.ensures.front, c.split_at.ensures.back) (take-append-drop c.plain_len.result rest) in
    let size : length text < 2 ^ 63 = search rules in
    bell_fits c.print.new.self after text (c.in_ok-print.ensures after text (subst (λ (l : List ℕ). Reads c.loop-rest.screen l text) (sym parts) c.loop-rest.invariant.reads)) c.utf8.text size

pub loop-rest-smaller : goal.loop-rest-smaller
loop-rest-smaller c =
    let e = c.loop-rest-test.ensures in
    let some : 0 < length c.loop-rest.rest.now = grind (arith, nat_tests) in
    omega (arith, some, c.in_ok-rest.ensures.shorter, c.split_at.ensures.back_len)

pub returns : goal.returns
returns c =
    let r = c.loop-rest.invariant.reads in
    let e = c.loop-rest-test.ensures in
    let none : length c.loop-rest.rest.now ≡ 0 = grind (arith, nat_tests) in
    let same : r.past ≡ chars c.args.text.now =
    sym (append-nil r.past) ∙ (ap (λ (l : List ℕ). r.past ++ l) (sym (ap chars (nil_from_length c.loop-rest.rest.now none) ∙ chars-nil)) ∙ r.is) in
    subst (λ (l : List ℕ). ScreenHolds c.loop-rest.screen l) same r.holds
