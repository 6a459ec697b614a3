-- What a mixer sends is what the definition enters for each terminal.
use Rattle.std.specs.Prelude.{◌≡◌, ◌<◌, ℕ, List, map}
use Rattle.mixer_spec.specs.Setups.{Setup}
use Rattle.mixer_spec.specs.Table.{Call, after_calls}
use Rattle.mixer_posts.specs.Streams.{AreSourcesAt}
use Rattle.mixer_posts.specs.Posts.{sent_by, sents_to}

-- of what these calls send, what goes to a terminal is what its past has, in its order, at its moments
abbrev pub PostsAreEntered : Type 0
PostsAreEntered = (s : Setup) (calls : List Call) (j : ℕ) (sources : List ℕ) → j < s.legs → AreSourcesAt s j sources
    → sents_to sources j (sent_by s calls) ≡ map (λ e. (e.at, e.sent)) ((after_calls s calls).terminals j).past
