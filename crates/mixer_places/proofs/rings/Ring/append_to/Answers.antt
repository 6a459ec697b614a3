use Rattle.std.proofs.Common.{◌≡◌, ◌≤◌, ◌+◌, ◌-◌, ℕ, List, ap, sym, ◌∙◌, ◌++◌, length, length-take, length-append, append_assoc, take, drop, arith}
use Rattle.std.proofs.lemmas.List.{append-nil}
use Rattle.mixer_places.specs.Rings.{Chunks}
use Rattle.mixer_places.proofs.Lists.{parts_between}
use Rattle.mixer_places.proofs.rings.Ring.append_to.Goals as goal
use Rattle.stream_spec.proofs.Plain.{on_ok}

pub returns-then-end-split : goal.returns-then-end-split
returns-then-end-split c =
    let first = c.as_slices.result.0.now in
    let second = c.as_slices.result.1.now in
    let from = c.args.from in
    let end = c.args.end in
    let one_part = take (end - from) (drop from first) in
    let nothing : (end - end) - (from - from) ≡ 0 = omega arith in
    let whole : one_part ++ take ((end - end) - (from - from)) (drop (from - from) second) ≡ take (end - from) (drop from c.args.self.now.octets) =
    parts_between c.args.self.now.octets first second from end from end (c.as_slices.ensures ∙ ap (λ (w : Chunks). w.octets) c.self.view_is) c.requires.order (omega (arith, c.requires.order, c.if-end-split.true)) (omega (arith, c.if-end-split.true)) in
    let is : one_part ≡ take (end - from) (drop from c.args.self.now.octets) =
    sym (append-nil one_part) ∙ (sym (ap (λ n. one_part ++ take n (drop (from - from) second)) nothing) ∙ whole) in
    let size : length one_part ≤ end - from = omega (arith, length-take (end - from) (drop from first)) in
    on_ok c.append.result (c.append.ensures.room.1 (omega (arith, size, c.requires.fits))) c.append.ensures.ok ∙ ap (λ (l : List ℕ). c.args.text.now ++ l) is

pub returns : goal.returns
returns c =
    let first = c.as_slices.result.0.now in
    let second = c.as_slices.result.1.now in
    let from = c.args.from in
    let end = c.args.end in
    let a = c.min-from_first.result in
    let b = c.min-end_first.result in
    let one_part = take (b - a) (drop a first) in
    let two_part = take ((end - b) - (from - a)) (drop (from - a) second) in
    let whole : take (b - a) (drop a first) ++ take ((end - b) - (from - a)) (drop (from - a) second) ≡ take (end - from) (drop from c.args.self.now.octets) =
    parts_between c.args.self.now.octets first second from end a b (c.as_slices.ensures ∙ ap (λ (w : Chunks). w.octets) c.self.view_is) c.requires.order c.min-from_first.ensures c.min-end_first.ensures in
    let rest = drop from c.args.self.now.octets in
    let size : length one_part + length two_part ≤ end - from =
    omega (arith, length-append one_part two_part, ap (λ (l : List ℕ). length l) whole, length-take (end - from) rest) in
    let one : c.append-2.new.self ≡ c.args.text.now ++ one_part =
    on_ok c.append-2.result (c.append-2.ensures.room.1 (omega (arith, size, c.requires.fits))) c.append-2.ensures.ok in
    let two : c.append-3.new.self ≡ c.append-2.new.self ++ two_part =
    on_ok c.append-3.result (c.append-3.ensures.room.1 (omega (arith, size, c.requires.fits, ap (λ (l : List ℕ). length l) one, length-append c.args.text.now one_part))) c.append-3.ensures.ok in
    two ∙ (ap (λ (l : List ℕ). l ++ two_part) one ∙ (append_assoc c.args.text.now one_part two_part ∙ ap (λ (l : List ℕ). c.args.text.now ++ l) whole))
