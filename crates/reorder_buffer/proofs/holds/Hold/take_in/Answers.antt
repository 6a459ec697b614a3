use Rattle.std.proofs.Common.{◌≡◌, ℕ, List, [], length, map, max, refl, sym, ap, subst, ◌∙◌, arith}
use Rattle.std.proofs.lemmas.Bool.Decides.{nat_tests}
use Rattle.std.proofs.lemmas.List.{nil_from_length}
use Rattle.stream_spec.specs.Numbering.{Numbered}
use Rattle.reorder_buffer.specs.States.{State, settled_first, coming, put_current, with_packet}
use Rattle.reorder_buffer.specs.Views.{numbered_in}
use Rattle.reorder_buffer.specs.Tracks.{Follows, SameBut}
use Rattle.reorder_buffer.proofs.Steps.{settle_follows, settle_same, follows_with}
use Rattle.reorder_buffer.proofs.Places.{at_once}
use Rattle.reorder_buffer.proofs.holds.Hold.take_in.Goals as goal

pub returns-then-number-self : goal.returns-then-number-self
returns-then-number-self c =
    let s = c.args.self.now in
    let n = c.args.number in
    let q = c.settle_at_once.new.self.current in
    let empty = c.is_empty.ensures in
    let t = c.if-is_empty.true in
    let nothing : length c.self.inside.held ≡ 0 = grind (arith, nat_tests) in
    let none : s.held ≡ [] = sym (ap (λ (x : State). x.held) c.self.view_is) ∙ ap (λ l. map (numbered_in c.self.inside.pool.packets) l) (nil_from_length c.self.inside.held nothing) in
    let zero : c.args.at ≡ 0 = omega (arith, c.requires.within, ap (λ (l : List Numbered). length l) none) in
    let next : n ≡ s.front = c.if-number-self.true ∙ ap (λ (x : State). x.front) c.self.view_is in
    let to = max s.latest s.moment in
    let first = with_packet (put_current s c.args.at n) q in
    record {
      stands = λ story f.
          let once = settle_follows (put_current s 0 n) story to (at_once s (coming s n) s.current none next) (subst (λ (p : ℕ). Follows (put_current s p n) story) zero f) in
          rw c.settle_at_once.ensures (follows_with (settled_first (put_current s 0 n) to) q story once);
      still = rw (c.settle_at_once.ensures, none) refl;
      same = subst (λ (x : State). SameBut first x) (sym c.settle_at_once.ensures) (settle_same first (with_packet (put_current s 0 n) q) to
          (subst (λ (p : ℕ). SameBut first (with_packet (put_current s p n) q)) zero
          (record { wait = refl; moment = refl; arrivals = refl; finished = refl; first = refl; top = refl; packets = refl; current = refl; total = refl })));
    }
