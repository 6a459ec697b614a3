-- Ports at which nothing was popped.
use Rattle.std.specs.Prelude.{◌≡◌, ℕ, Some, List, map, slice_get}
use Rattle.mix_loop.specs.declared.live_ports.LivePort.{LivePort}
use Rattle.mix_loop.specs.LivePorts.{IsBegun}

module _ {I : Type 0} where
  -- each has its number
  abbrev pub EachBegun : List (LivePort I) → Type 0
  EachBegun ps = (j : ℕ) (p : LivePort I) → slice_get ps j ≡ Some p → IsBegun p.inlet j p

  -- so it is, and they are over these, in order
  pub record AreBegun (inlets : List I) (ps : List (LivePort I)) : Type 0 where
    pub are : map (λ p. p.inlet) ps ≡ inlets
    pub each : EachBegun ps
