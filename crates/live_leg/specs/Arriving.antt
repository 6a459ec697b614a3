-- What a take of arrivals makes of what came before.
use Rattle.std.specs.Prelude.{◌∷◌}
use Rattle.stream_spec.specs.Links.{Taken, Takes}

module _ {A : Type 0} (came : A → A → Takes → Type 0) where
  -- whatever came before, this came behind it
  abbrev pub ComesMore : A → A → Taken → Type 0
  ComesMore old new x = (first : A) (takes : Takes) → came first old takes → came first new (x ∷ takes)

  -- whatever came before, it failed so behind it
  abbrev pub FailsThen : {F : Type 0} → (A → A → Takes → F → Type 0) → A → A → F → Type 0
  FailsThen failed old new f = (first : A) (takes : Takes) → came first old takes → failed first new takes f
