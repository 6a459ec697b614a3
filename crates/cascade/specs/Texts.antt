-- In which octets the texts of a conference's legs lie: in the splits of their SSRCs, where they stand behind another mixer, or in
-- their inputs.
use Rattle.std.specs.Prelude.{◌≡◌, ◌<◌, ℕ, false, IsSome, None, Some, Ok, List, [], ◌∷◌, length, unwrap_or, if◌then◌else◌}
use Rattle.wire_spec.specs.Dump.{dump}
use Rattle.file_spec.specs.declared.conference_lines.Form.TheVariants.{Files}
use Rattle.file_spec.specs.declared.conference_lines.LegLine.{LegLine}
use Rattle.file_spec.specs.Conference.{Conference, conference_from}
use Rattle.mixer_spec.specs.Setups.{leg_at}
use Rattle.command_spec.specs.Work.{Contents}
use Rattle.mixer_spec.specs.Bridged.{input_limit}
use Rattle.command_spec.specs.Laws.{split_of}
use Rattle.command_spec.specs.Cascading.{is_on_trunk, trunk_of}

-- those of a leg, where this is the split of its SSRC
abbrev pub text_of : Contents → List ℕ → LegLine → List ℕ
text_of held recording leg = if is_on_trunk leg then recording else unwrap_or (held leg.input) []

-- those of these legs, where these are the splits of their SSRCs
abbrev pub texts_of : Contents → List LegLine → List (List ℕ) → List (List ℕ)
texts_of held [] recordings = []
texts_of held (leg ∷ legs) [] = text_of held [] leg ∷ texts_of held legs []
texts_of held (leg ∷ legs) (recording ∷ more) = text_of held recording leg ∷ texts_of held legs more

-- something lies under the input of each of the first n legs that don't stand behind the other mixer
abbrev pub OwnLieBelow : ℕ → Contents → List LegLine → Type 0
OwnLieBelow n held legs = (k : ℕ) (leg : LegLine) → k < n → leg_at legs k ≡ Some leg → is_on_trunk leg ≡ false
    → IsSome (held leg.input)

-- and under that of each
abbrev pub AllOwnLie : Contents → List LegLine → Type 0
AllOwnLie held legs = OwnLieBelow (length legs) held legs

-- each split of the recording that lies there is read to its end
abbrev pub SplitsAreWhole : Contents → List ℕ → ℕ → Conference → Type 0
SplitsAreWhole held file ssrc c = (octets : List ℕ) → held file ≡ Some octets
    → (k : ℕ) (leg : LegLine) → leg_at c.legs k ≡ Some leg
    → (dump (input_limit c) (split_of (trunk_of c ssrc) octets leg.ssrc)).fault ≡ None

-- so it is of each recording, whatever lies there, for a conference that was read
abbrev pub AllSplitsAreWhole : Type 0
AllSplitsAreWhole = (read : List ℕ) (c : Conference) → conference_from Files read ≡ Ok c
    → (held : Contents) (file : List ℕ) (ssrc : ℕ) → SplitsAreWhole held file ssrc c
