-- Legs that have the same files.
use Rattle.std.proofs.Common.{◌≡◌, ℕ, zero, suc, Some, List, [], ◌∷◌, length, refl, ap, subst, ◌∙◌}
use Rattle.std.specs.List.{AllZip}
use Rattle.file_spec.specs.declared.conference_lines.LegLine.{LegLine}
use Rattle.file_spec.specs.Conference.{change_leg}
use Rattle.mixer_spec.specs.Setups.{leg_at}
use Rattle.command_spec.specs.Work.{Contents}
use Rattle.command_spec.specs.Inputs.{inputs_under, octets_under}

pub record HasFilesOf (old new : LegLine) : Type 0 where
  pub input : new.input ≡ old.input
  pub output : new.output ≡ old.output

-- so many legs, each with the files of the one of its number
abbrev pub HaveFilesOf : List LegLine → List LegLine → Type 0
HaveFilesOf olds news = AllZip (λ old new. HasFilesOf old new) olds news

pub same_files : (ls : List LegLine) → HaveFilesOf ls ls
same_files [] = tt
same_files (l ∷ ls) = (record { input = refl; output = refl }, same_files ls)

pub changed_files : (change : LegLine → LegLine) → ((l : LegLine) → HasFilesOf l (change l)) → (k : ℕ) (olds ls : List LegLine) → HaveFilesOf olds ls → HaveFilesOf olds (change_leg change k ls)
changed_files change keeps k [] [] have = tt
changed_files change keeps k [] (l ∷ ls) have = absurd have
changed_files change keeps k (o ∷ olds) [] have = absurd have
changed_files change keeps zero (o ∷ olds) (l ∷ ls) have =
    let n = keeps l in (record { input = n.input ∙ have.0.input; output = n.output ∙ have.0.output }, have.1)
changed_files change keeps (suc k) (o ∷ olds) (l ∷ ls) have = (have.0, changed_files change keeps k olds ls have.1)

pub same_many : (olds news : List LegLine) → HaveFilesOf olds news → length news ≡ length olds
same_many [] [] have = refl
same_many [] (l ∷ ls) have = absurd have
same_many (o ∷ olds) [] have = absurd have
same_many (o ∷ olds) (l ∷ ls) have = ap suc (same_many olds ls have.1)

-- the same octets lie under their inputs
pub same_inputs : (held : Contents) (olds news : List LegLine) → HaveFilesOf olds news → inputs_under held news ≡ inputs_under held olds
same_inputs held [] [] have = refl
same_inputs held [] (l ∷ ls) have = absurd have
same_inputs held (o ∷ olds) [] have = absurd have
same_inputs held (o ∷ olds) (l ∷ ls) have = λ i. octets_under held (have.0.input i) ∷ same_inputs held olds ls have.1 i

-- the leg of the same number
pub there : (olds news : List LegLine) → HaveFilesOf olds news → (k : ℕ) (old : LegLine) → leg_at olds k ≡ Some old
    → (new : LegLine) × (leg_at news k ≡ Some new) × HasFilesOf old new
there [] news have k old at = absurd (cc at)
there (o ∷ olds) [] have k old at = absurd have
there (o ∷ olds) (l ∷ ls) have zero old at = let same : o ≡ old = cc at in (l, refl, subst (λ x. HasFilesOf x l) same have.0)
there (o ∷ olds) (l ∷ ls) have (suc k) old at = there olds ls have.1 k old at

pub back : (olds news : List LegLine) → HaveFilesOf olds news → (k : ℕ) (new : LegLine) → leg_at news k ≡ Some new
    → (old : LegLine) × (leg_at olds k ≡ Some old) × HasFilesOf old new
back olds [] have k new at = absurd (cc at)
back [] (l ∷ ls) have k new at = absurd have
back (o ∷ olds) (l ∷ ls) have zero new at = let same : l ≡ new = cc at in (o, refl, subst (λ x. HasFilesOf o x) same have.0)
back (o ∷ olds) (l ∷ ls) have (suc k) new at = back olds ls have.1 k new at
