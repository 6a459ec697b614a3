-- What lies under the names of a recording's files.
use Rattle.std.proofs.Common.{◌≡◌, ◌≢◌, ◌<◌, ◌≤◌, ◌^◌, ℕ, ◌+◌, Option, Some, List, [], ◌∷◌, ◌++◌, length, ap, ◌∙◌, arith}
use Rattle.std.specs.Prelude.{codes, decimal}
use Rattle.std.proofs.lemmas.Fmt.{decimal_injective}
use Rattle.std.proofs.lemmas.List.{append_cancel_left, append_cancel_right}
use Rattle.recorded_links.specs.Names.{numbered}
use Rattle.recorded_links.specs.Files.{AreFrom}

-- files of other numbers have other names
pub apart : (stem : List ℕ) (m n : ℕ) → m < 2 ^ 64 → n < 2 ^ 64 → m ≢ n → numbered stem m ≢ numbered stem n
apart stem m n small little other same =
    other (decimal_injective m n small little (append_cancel_left stem (decimal m) (decimal n) (append_cancel_right (stem ++ decimal m) (stem ++ decimal n) (codes ".rtp") same)))

-- what changes is behind them
pub kept : (stem : List ℕ) (old new : List ℕ → Option (List ℕ)) (number k : ℕ) (fs : List (List ℕ))
    → k + length fs ≤ number → number < 2 ^ 64
    → ((n : List ℕ) → n ≢ numbered stem number → new n ≡ old n)
    → AreFrom stem old k fs → AreFrom stem new k fs
kept stem old new number k [] few small others under = tt
kept stem old new number k (f ∷ fs) few small others under =
    (others (numbered stem k) (apart stem k number (omega (arith, few, small)) small (λ same. omega (arith, few, same))) ∙ under.0, kept stem old new number (k + 1) fs (omega (arith, few)) small others under.1)

-- one more lies there
pub more : (stem : List ℕ) (contents : List ℕ → Option (List ℕ)) (number k : ℕ) (fs : List (List ℕ)) (f : List ℕ)
    → number ≡ k + length fs
    → AreFrom stem contents k fs → contents (numbered stem number) ≡ Some f → AreFrom stem contents k (fs ++ f ∷ [])
more stem contents number k [] f at under there =
    let same : k ≡ number = omega (arith, at) in
    (ap (λ (n : ℕ). contents (numbered stem n)) same ∙ there, tt)
more stem contents number k (x ∷ fs) f at under there = (under.0, more stem contents number (k + 1) fs f (omega (arith, at)) under.1 there)

-- the same, where two names change
pub kept_both : (stem : List ℕ) (old new : List ℕ → Option (List ℕ)) (one other k : ℕ) (fs : List (List ℕ))
    → k + length fs ≤ one → one < other → other < 2 ^ 64
    → ((n : List ℕ) → n ≢ numbered stem one → n ≢ numbered stem other → new n ≡ old n)
    → AreFrom stem old k fs → AreFrom stem new k fs
kept_both stem old new one other k [] few less small others under = tt
kept_both stem old new one other k (f ∷ fs) few less small others under =
    let first = apart stem k one (omega (arith, few, less, small)) (omega (arith, less, small)) (λ same. omega (arith, few, same)) in
    let second = apart stem k other (omega (arith, few, less, small)) small (λ same. omega (arith, few, less, same)) in
    (others (numbered stem k) first second ∙ under.0, kept_both stem old new one other (k + 1) fs (omega (arith, few)) less small others under.1)
