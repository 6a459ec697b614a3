-- a list that is taken from the front, piece by piece
use Rattle.std.proofs.Common.{◌≡◌, ◌∙◌, ℕ, ◌+◌, ◌≤◌, List, ◌++◌, length, take, drop, sym, ap, arith, length-append, length-drop, length-take, append_assoc}
use Rattle.std.proofs.lemmas.List.{drop-append-le, take-append-le, drop-drop}
use Rattle.std.proofs.Math.Seq.{take-add, take-append-add}
use Rattle.rtpdump_io.specs.Input.{Passes}

-- the front of what follows so many octets is passed over
pub passes_more : (old before front back : List ℕ) (done number : ℕ) → Passes done old before → front ++ back ≡ before → number ≤ length front → Passes (done + number) old (drop number front ++ back)
passes_more old before front back done number p e fits = record {
  enough = omega (arith, length-append front back, length-drop done old, ap length p.rest, ap length e);
  rest = sym (drop-append-le number front back fits) ∙ ap (λ (l : List ℕ). drop number l) (e ∙ p.rest) ∙ drop-drop number done old;
}

-- and copied
pub copies_more : (old before front back out : List ℕ) (done number : ℕ) → Passes done old before → front ++ back ≡ before → number ≤ length front → (out ++ take done old) ++ take number front ≡ out ++ take (done + number) old
copies_more old before front back out done number p e fits =
    append_assoc out (take done old) (take number front)
    ∙ ap (λ (l : List ℕ). out ++ (take done old ++ l)) (sym (take-append-le number front back fits) ∙ ap (λ (l : List ℕ). take number l) (e ∙ p.rest))
    ∙ ap (λ (l : List ℕ). out ++ l) (sym (take-add done number old))

-- a buffer is filled from behind what stands in it
pub fills_more : (old before front left back buf tail after : List ℕ) (done number : ℕ) → old ≡ take done buf ++ before → front ++ back ≡ before → front ≡ take number tail ++ left → done ≤ length buf → number ≤ length tail →
    old ≡ take (done + number) (take done buf ++ (tail ++ after)) ++ (left ++ back)
fills_more old before front left back buf tail after done number given same moved within fits =
    let size : length (take done buf) ≡ done = simp length-take (omega arith) in
    let grown : take (done + number) (take done buf ++ (tail ++ after)) ≡ take done buf ++ take number tail =
    ap (λ (n : ℕ). take (n + number) (take done buf ++ (tail ++ after))) (sym size)
    ∙ take-append-add (take done buf) (tail ++ after) number
    ∙ ap (λ (l : List ℕ). take done buf ++ l) (take-append-le number tail after fits) in
    given
    ∙ ap (λ (l : List ℕ). take done buf ++ l) (sym same ∙ ap (λ (l : List ℕ). l ++ back) moved ∙ append_assoc (take number tail) left back)
    ∙ sym (append_assoc (take done buf) (take number tail) (left ++ back))
    ∙ ap (λ (l : List ℕ). l ++ (left ++ back)) (sym grown)
