-- What a turn sends, each text to a terminal.
use Rattle.std.specs.Prelude.{◌≡◌, ◌<◌, ℕ, List, All, length, slice_index}
use Rattle.mixer.specs.declared.batches.Post.{Post}

-- it goes to one of these terminals, each of which has so many sources, and is of one of them
pub record IsPost (sources : List ℕ) (p : Post) : Type 0 where
  pub below : p.terminal < length sources
  pub source : p.source < slice_index sources p.terminal

abbrev pub ArePosts : List ℕ → List Post → Type 0
ArePosts sources posts = All (IsPost sources) posts

-- what is put behind these is to the terminal of that leg, which has so many sources, if anything is
abbrev pub KeepsPosts : (leg count : ℕ) → List Post → List Post → Type 0
KeepsPosts leg count old new = (sources : List ℕ) → leg < length sources → slice_index sources leg ≡ count
    → ArePosts sources old → ArePosts sources new
