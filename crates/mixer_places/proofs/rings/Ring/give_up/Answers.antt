use Rattle.std.proofs.Common.{◌≡◌, ◌-◌, ◌≤◌, ℕ, ap, sym, ◌∙◌, length, length-drop, take, drop, arith}
use Rattle.std.specs.Prelude.{sum}
use Rattle.circular_buffer.specs.Buffer.{Buffer}
use Rattle.mixer_places.specs.Rings.{Chunks}
use Rattle.mixer_places.proofs.Lists.{sum-take-drop}
use Rattle.mixer_places.proofs.rings.Ring.give_up.Goals as goal

pub invariant_of-self : goal.invariant_of-self
invariant_of-self c =
    let p = c.args.front in
    let octets = c.self.inside.octets.items in
    let lengths = c.self.inside.lengths.items in
    let at : p.octets ≡ sum (take p.chunks lengths) = c.requires.octets ∙ ap (λ (w : Chunks). sum (take p.chunks w.lengths)) (sym c.self.view_is) in
    let within : p.chunks ≤ length lengths = omega (arith, c.requires.chunks, ap (λ (w : Chunks). length w.lengths) c.self.view_is) in
    let inside : p.octets ≤ length octets = omega (arith, at, sum-take-drop p.chunks lengths, c.self.invariant.sum) in
    let a : length octets - (c.len.result - p.octets) ≡ p.octets = omega (arith, c.len.ensures.len, inside) in
    let b : length lengths - (c.len-2.result - p.chunks) ≡ p.chunks = omega (arith, c.len-2.ensures.len, within) in
    record {
      most_octets = ap (λ (w : Buffer ℕ). w.capacity) c.truncate_front.ensures ∙ c.self.invariant.most_octets;
      most_chunks = ap (λ (w : Buffer ℕ). w.capacity) c.truncate_front-2.ensures ∙ c.self.invariant.most_chunks;
      sum = ap (λ (w : Buffer ℕ). length w.items) c.truncate_front.ensures
          ∙ (ap (λ (n : ℕ). length (drop n octets)) a
          ∙ (omega (arith, length-drop p.octets octets, at, sum-take-drop p.chunks lengths, c.self.invariant.sum)
          ∙ (ap (λ (n : ℕ). sum (drop n lengths)) (sym b)
          ∙ ap (λ (w : Buffer ℕ). sum w.items) (sym c.truncate_front-2.ensures))));
    }
