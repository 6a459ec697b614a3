-- What it means that a call answers as a definition does.
use Rattle.std.specs.Prelude.{◌≡◌, Result, Ok, Err}

-- A call gives what a definition says: the same value, seen by view, or the same refusal.
abbrev pub Gives : {X Y E : Type 0} → (X → Y) → Result X E → Result Y E → Type 0
Gives view (Ok x) read = read ≡ Ok (view x)
Gives view (Err e) read = read ≡ Err e
