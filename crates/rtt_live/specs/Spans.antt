-- The clock of a live call, from its beginning to its end.
use Rattle.std.specs.Prelude.{ℕ}
use Rattle.link_io.specs.declared.links.Links as links

-- how often it had paused, and the last moment that it had told, when the call began; and the last that it had told at the end
pub record Span : Type 0 where
  pub pauses : ℕ
  pub first : ℕ
  pub last : ℕ

-- that of these links, between these two
abbrev pub span_of : {W I O C : Type 0} → links.Ghosts W I O C → W → W → Span
span_of g old new = record { pauses = g.pauses old; first = g.moment old; last = g.moment new }
