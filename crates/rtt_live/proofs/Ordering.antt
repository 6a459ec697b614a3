-- What was given to links by a time.
use Rattle.std.proofs.Common.{◌≡◌, ℕ, zero, suc, Some, List, [], ◌∷◌, map, refl, ap, sym, subst, ◌∙◌}
use Rattle.std.specs.Prelude.{slice_get}
use Rattle.link_io.specs.Given.{given_by, packets}
use Rattle.mix_loop.specs.Addresses.{Address, AllWithin, AreWithin, address, addresses_by, ports_of}
use Rattle.rtt_live.specs.Calls.{at_link}
use Rattle.rtt_live.specs.Ends.{addresses_of, packets_in}
use Rattle.rtt_live.specs.Opened.{AreUnused}

module _ {O : Type 0} (port : O → ℕ) (given : O → List (ℕ × List ℕ)) where
  pub ports_are : (links : List O) → ports_of (addresses_of port given links) ≡ map port links
  ports_are [] = refl
  ports_are (l ∷ links) = ap (λ ps. port l ∷ ps) (ports_are links)

  -- links that were given nothing
  pub none_within : (n : ℕ) (faults : O → ℕ) (links : List O) → AreUnused given faults links → AreWithin n (addresses_of port given links)
  none_within n faults [] unused = tt
  none_within n faults (l ∷ links) unused = (
    subst (λ (xs : List (ℕ × List ℕ)). AllWithin n xs) (sym (unused 0 l refl).0) tt,
    none_within n faults links (λ j x e. unused (suc j) x e),
  )

-- what was given to a link by then was given to the one in its place
pub was_given : {O : Type 0} (n : ℕ) (port : O → ℕ) (given : O → List (ℕ × List ℕ)) (links others : List O) (j : ℕ) (other : O) → addresses_by n (addresses_of port given links) ≡ addresses_of port given others → slice_get others j ≡ Some other
    → packets (given_by n (at_link given links j)) ≡ packets_in given other
was_given n port given [] [] j other e at = absurd (cc at)
was_given n port given [] (t ∷ others) j other e at = absurd (cc e)
was_given n port given (l ∷ links) [] j other e at = absurd (cc e)
was_given n port given (l ∷ links) (t ∷ others) zero other e at =
    let one : address (port l) (given_by n (given l)) ≡ address (port t) (given t) = cc e in
    let is : t ≡ other = cc at in
    ap (λ (a : Address). packets a.given) one ∙ ap (packets_in given) is
was_given n port given (l ∷ links) (t ∷ others) (suc j) other e at =
    let rest : addresses_by n (addresses_of port given links) ≡ addresses_of port given others = cc e in
    was_given n port given links others j other rest at
