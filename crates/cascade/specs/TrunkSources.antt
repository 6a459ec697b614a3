-- What is read of the recording of a source, or of a source of a world.
use Rattle.std.specs.Prelude.{ℕ, List, [], ◌∷◌}
use Rattle.cascade.specs.declared.trunk_sources.TrunkSource.{TrunkSource}
use Rattle.cascade.specs.declared.trunk_sources.TrunkSource.TheVariants.{Split, Below}

-- a name of the world, behind one octet: so it is not that of a recording of a source, which is empty
abbrev pub below : List ℕ → List ℕ
below name = 1 ∷ name

module _ {S : Type 0} where
  abbrev pub left_in : (S → List ℕ) → TrunkSource S → List ℕ
  left_in left (Split own) = own.rest.now
  left_in left (Below b) = left b

  abbrev pub faults_in : (S → ℕ) → TrunkSource S → ℕ
  faults_in faults (Split own) = 0
  faults_in faults (Below b) = faults b

  abbrev pub name_in : (S → List ℕ) → TrunkSource S → List ℕ
  name_in name (Split own) = []
  name_in name (Below b) = below (name b)
