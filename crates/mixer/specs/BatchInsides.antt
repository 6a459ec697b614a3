-- The fields of a batch: as many places as the mixer has, of which the first so many are filled.
use Rattle.std.specs.Prelude.{◌≡◌, ◌≤◌, List, length, take}
use Rattle.mixer.specs.declared.batches.Batch.TheInside.{Inside}
use Rattle.mixer.specs.declared.batches.Post.{Post}
use Rattle.mixer_spec.specs.declared.limits.TheConstants.{PLACES}

abbrev pub posts_of : Inside → List Post
posts_of b = take b.len b.places.items

pub record IsBatch (b : Inside) : Type 0 where
  pub places : length b.places.items ≡ PLACES
  pub filled : b.len ≤ PLACES
