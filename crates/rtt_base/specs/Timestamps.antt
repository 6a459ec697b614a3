-- The order of timestamps (RFC 3550, section 5.1): they go round modulo 2^32.
use Rattle.std.specs.Prelude.{ℕ, ◌+◌, ◌-◌, ◌%◌, ◌^◌, Bool, ◌&&◌, nat_lt}

-- how many ticks x lies ahead of y, counted round
abbrev pub ahead : ℕ → ℕ → ℕ
ahead x y = (x + 2 ^ 32 - y) % 2 ^ 32

-- x is after y: less than half the circle ahead, and not at y
abbrev pub is_after : ℕ → ℕ → Bool
is_after x y = nat_lt 0 (ahead x y) && nat_lt (ahead x y) (2 ^ 31)
