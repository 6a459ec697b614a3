-- How many sources each terminal is sent.
use Rattle.std.proofs.Common.{◌≡◌, ℕ, zero, suc, Some, List, [], ◌∷◌, length, map, set, refl, ap, sym, ◌∙◌, arith}
use Rattle.std.specs.Prelude.{slice_get, slice_index}
use Rattle.std.proofs.lemmas.List.{length-map}
use Rattle.std.proofs.lemmas.Option.{slice_get_within}
use Rattle.terminal_scheduler.specs.declared.schedulers.TerminalScheduler.{TerminalScheduler}
use Rattle.terminal_scheduler.specs.Schedulers.{sources_of}
use Rattle.mixer.specs.Waking.{AreWoken}
use Rattle.wire_spec.proofs.Plain.{get_map}

-- at the place of a terminal stands its count
pub count_there : (all : List TerminalScheduler) (n : ℕ) (o : TerminalScheduler) → slice_get all n ≡ Some o → slice_index (map sources_of all) n ≡ sources_of o
count_there [] n o e = absurd (cc e)
count_there (x ∷ xs) zero o e = ap sources_of (cc e)
count_there (x ∷ xs) (suc n) o e = count_there xs n o e

-- counts that stand at the places of the terminals are theirs
pub counts_are : (all : List TerminalScheduler) (counts : List ℕ) → length all ≡ length counts → ((j : ℕ) (o : TerminalScheduler) → slice_get all j ≡ Some o → slice_get counts j ≡ Some (sources_of o)) → map sources_of all ≡ counts
counts_are [] [] l f = refl
counts_are [] (y ∷ ys) l f = absurd (omega arith)
counts_are (x ∷ xs) [] l f = absurd (omega arith)
counts_are (x ∷ xs) (y ∷ ys) l f =
    let first : sources_of x ≡ y = cc (f zero x refl) in
    ap (λ n. n ∷ map sources_of xs) first ∙ ap (λ ns. y ∷ ns) (counts_are xs ys (omega arith) (λ j o g. f (suc j) o g))

-- another terminal_scheduler with as many sources changes no count
pub counts_kept : (all : List TerminalScheduler) (n : ℕ) (o new : TerminalScheduler) → slice_get all n ≡ Some o → sources_of new ≡ sources_of o → map sources_of (set all n new) ≡ map sources_of all
counts_kept [] n o new e same = refl
counts_kept (x ∷ xs) zero o new e same = ap (λ k. k ∷ map sources_of xs) (same ∙ sym (ap sources_of (cc e)))
counts_kept (x ∷ xs) (suc n) o new e same = ap (λ ks. sources_of x ∷ ks) (counts_kept xs n o new e same)

pub counts_woken : (old new : List TerminalScheduler) → AreWoken old new → map sources_of new ≡ map sources_of old
counts_woken old new w = counts_are new (map sources_of old) (omega (arith, w.count, length-map old sources_of)) (λ j o g.
    let f = w.first j o (omega (arith, slice_get_within new j o g, w.count)) g in
    get_map sources_of old j f.0 f.1 ∙ ap Some (sym f.2.sources))
