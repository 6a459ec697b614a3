-- A test that refuses.
use Rattle.std.specs.Prelude.{Bool, Result, Ok, Err, if◌then◌else◌}

-- the value, or this refusal where the test says so
abbrev pub unless : {A E : Type 0} → Bool → E → A → Result A E
unless bad refusal x = if bad then Err refusal else Ok x
