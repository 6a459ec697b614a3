-- Recordings of which none was read.
use Rattle.std.proofs.Common.{◌≡◌, ℕ, Some, List, ap, sym, arith}
use Rattle.std.specs.Prelude.{slice_get}
use Rattle.mixer_spec.specs.Setups.{Setup}
use Rattle.mixer_spec.specs.Table.{Call, empty}
use Rattle.mix_loop.specs.declared.turns.MixEnd.{MixEnd}
use Rattle.mix_loop.specs.declared.turns.MixEnd.TheVariants as mixing
use Rattle.leg.specs.declared.inlets.LegInlet.{LegInlet}
use Rattle.leg.specs.Answers.{PlainMixed, source_in}

one_there : {X : Type 0} (xs : List X) (j : ℕ) (x y : X) → slice_get xs j ≡ Some x → slice_get xs j ≡ Some y → x ≡ y
one_there xs j x y e f = cc (e, f)

not_faulted : {F T : Type 0} (why : T) (leg : ℕ) (fault : F) → ◌≡◌ {A = MixEnd F T} (mixing.Stopped why) (mixing.Faulted leg fault) → ⊥
not_faulted why leg fault e = cc e

module _ {S M T : Type 0} (tells : Type 0) (left : S → List ℕ) (faults : S → ℕ) (name : S → List ℕ) (mixes : M → Setup → List Call → Type 0) where
  pub not_mixed : (s : Setup) (tick turns : ℕ) (why : T) (legs : List (LegInlet S)) (m : M) → PlainMixed mixes tells left faults name s tick turns (mixing.Stopped why) legs legs m
  not_mixed s tick turns why legs m = record {
    table = empty;
    mixed = tt;
    within = λ leg fault e. absurd (not_faulted why leg fault e);
    sources = λ j i k was now.
        let same : i ≡ k = one_there legs j i k was now in
        record { never_falls = (let e = ap (λ (x : LegInlet S). faults (source_in x)) same in omega (arith, e)); same_name = ap (λ (x : LegInlet S). name (source_in x)) (sym same); read = λ fault e. absurd (not_faulted why j fault e); calm = λ w. absurd w };
    is = λ t asked chunks asks are. tt;
  }
