-- The outputs to the terminals of a live call, before anything is sent.
use Rattle.std.specs.Prelude.{◌≡◌, ℕ, Some, List, [], slice_get}
use Rattle.file_spec.specs.Conference.{Conference}
use Rattle.mixer_spec.specs.Setups.{setup}
use Rattle.packetizer.specs.OutputStanding.{PacketizerStandsFor}
use Rattle.packetizer.specs.OutputStates.{State}
use Rattle.mixer_posts.specs.Streams.{AreSourcesAt, settings_at, payload_types_at}

-- nothing was sent by this output of the terminal j, of its sources
abbrev pub HasSentNone : Conference → ℕ → State → Type 0
HasSentNone c j o = (sources : List ℕ) × AreSourcesAt (setup c) j sources × PacketizerStandsFor (settings_at (setup c) (payload_types_at c j) j) sources o []

-- by none of these
abbrev pub NoneSent : Conference → List State → Type 0
NoneSent c outputs = (j : ℕ) (o : State) → slice_get outputs j ≡ Some o → HasSentNone c j o
