-- Who is given text at an ask, by what is kept of the asks before (profile).
use Rattle.std.specs.Prelude.{ℕ, suc, ◌<◌, ◌==◌, Bool, false, not, ◌&&◌, ◌||◌, if◌then◌else◌, Option, None, Some, List, length, slice_index_or}
use Rattle.std.specs.Option.{option_or}
use Rattle.mixer_spec.specs.Rounds.{any_below, first_round}
use Rattle.mixer_spec.specs.Composed.{is_ago}
use Rattle.unaware_view.specs.declared.composers.Current.{Current}
use Rattle.unaware_view.specs.declared.composers.Choice.{Choice}
use Rattle.unaware_view.specs.declared.composers.Choice.TheVariants.{Nobody, Begins, GoesOn}
use Rattle.unaware_view.specs.Runs.{is_turn}
use Rattle.unaware_view.specs.States.{State}

-- the flag at i is set
abbrev pub is_set : List Bool → ℕ → Bool
is_set flags i = slice_index_or flags i false

-- the moment at i
abbrev pub since_at : List (Option ℕ) → ℕ → Option ℕ
since_at since i = slice_index_or since i None

-- a flag is set besides the one at `own`
abbrev pub any_other : List Bool → ℕ → Bool
any_other flags own = any_below (λ s. not (s == own) && is_set flags s) (length flags)

-- and its moment was so long ago
abbrev pub any_long : List Bool → List (Option ℕ) → ℕ → ℕ → ℕ → Bool
any_long flags since ms now own =
    any_below (λ s. not (s == own) && (is_set flags s && is_ago ms now (since_at since s))) (length flags)

-- Whether the speaker is left: the run has a chunk, another one waits, and the run's text ends a line or a sentence, or
-- nothing of the speaker waits and it was given 2000 ms ago, or another one has waited for 7000 ms.
abbrev pub is_left : State → Current → ℕ → Bool
is_left c x media =
    c.run.has_chunk
    && (any_other c.waits x.speaker
    && (is_turn c.run.ending
    || ((not (is_set c.waits x.speaker) && is_ago 2000 media (Some x.given_at))
    || any_long c.waits c.since 7000 media x.speaker)))

-- Whether the run of a speaker that was given text last at this moment is labelled again, where it has a chunk or not.
abbrev pub again_by : Option ℕ → Bool → ℕ → ℕ → Bool
again_by None has_chunk media given_at = false
again_by (Some ms) has_chunk media given_at = has_chunk && is_ago ms media (Some given_at)

abbrev pub is_again : State → Current → ℕ → Bool
is_again c x media = again_by c.relabel c.run.has_chunk media x.given_at

-- more of this speaker
abbrev pub onward : Bool → ℕ → Choice
onward again s = if again then Begins s else GoesOn s

abbrev pub begins : Option ℕ → Choice
begins None = Nobody
begins (Some s) = Begins s

abbrev pub choice_after : State → ℕ → Option Current → Choice
choice_after c media None = begins (first_round (is_set c.waits) 0 (length c.waits))
choice_after c media (Some x) =
    if is_left c x media then begins (first_round (is_set c.waits) (suc x.speaker) (length c.waits))
    else (if is_set c.waits x.speaker then onward (is_again c x media) x.speaker else Nobody)

-- who is given text at this media time, where text may be given
abbrev pub choice : State → Bool → ℕ → Choice
choice c due media = if due then choice_after c media c.current else Nobody

abbrev pub speaker_of : Choice → Option ℕ
speaker_of Nobody = None
speaker_of (Begins s) = Some s
speaker_of (GoesOn s) = Some s

-- the speaker is one of so many legs
abbrev pub IsBelow : ℕ → Choice → Type 0
IsBelow legs Nobody = Unit {0}
IsBelow legs (Begins s) = s < legs
IsBelow legs (GoesOn s) = s < legs

-- ---- since when each leg waits
abbrev pub is_leg : ℕ → Option ℕ → Bool
is_leg i None = false
is_leg i (Some s) = s == i

-- of a leg that was given now or not, and waited since this moment: since when it waits behind this ask
abbrev pub noted : ℕ → Bool → Bool → Option ℕ → Option ℕ
noted media given waits since = if given then None else option_or since (if waits then Some media else None)
