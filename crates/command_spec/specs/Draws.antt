-- Numbers drawn one after another (profile): a linear congruential generator, whose state has 31 bits. What is drawn
-- depends on the state alone.
use Rattle.std.specs.Prelude.{ℕ, zero, suc, ◌+◌, ◌*◌, ◌/◌, ◌%◌, ◌^◌, List, [], ◌∷◌}

-- what is drawn from a state, and the state then
abbrev pub Drawing : Type 0 → Type 0
Drawing A = ℕ → A × ℕ

-- nothing is drawn
abbrev pub give : {A : Type 0} → A → Drawing A
give x state = (x, state)

-- one drawing after another
infixl 10 ◌>>=◌
abbrev pub ◌>>=◌ : {A B : Type 0} → Drawing A → (A → Drawing B) → Drawing B
(drawing >>= more) state = let drawn = drawing state in more drawn.0 drawn.1

-- the state after a draw
unfoldable pub next : ℕ → ℕ
next state = (state * 1103515245 + 12345) % 2 ^ 31

-- a number below m
unfoldable pub draw : ℕ → Drawing ℕ
draw m state = (next state / 65536 % m, next state)

-- so many, one after another
unfoldable pub times : {A : Type 0} → ℕ → Drawing A → Drawing (List A)
times zero drawing = give []
times (suc n) drawing = do
  x ← drawing
  more ← times n drawing
  give (x ∷ more)
