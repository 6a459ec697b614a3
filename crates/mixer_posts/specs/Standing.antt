-- What a mixer stands for whose packets are sent.
use Rattle.std.specs.Prelude.{◌≡◌, ◌<◌, ◌≤◌, ℕ, List, [], ◌∷◌, length}
use Rattle.rtt_base.specs.declared.text_packets.PayloadTypes.{PayloadTypes}
use Rattle.mixer_spec.specs.Setups.{Setup}
use Rattle.mixer_spec.specs.Table.{Call, Admit, Hush, Leave, Offer, Turn, after_calls}
use Rattle.mixer_spec.specs.Calls.{turns_made}
use Rattle.mixer.specs.declared.batches.Post.{Post}
use Rattle.mixer.specs.Standing.{MixerStandsFor}
use Rattle.mixer_posts.specs.States.{SendingState}
use Rattle.mixer.specs.Turns.{posts_at}
use Rattle.mixer_posts.specs.Posts.{IsHaltedIn, sent_by}

-- each turn came before this moment
abbrev pub AreBefore : ℕ → List Call → Type 0
AreBefore moment [] = Unit {0}
AreBefore moment (Admit i l ∷ past) = AreBefore moment past
AreBefore moment (Hush i ∷ past) = AreBefore moment past
AreBefore moment (Leave i ∷ past) = AreBefore moment past
AreBefore moment (Offer c ∷ past) = AreBefore moment past
AreBefore moment (Turn now ∷ past) = (now < moment) × AreBefore moment past

-- These calls were made of it, no more turns than a conference has, and what they send was taken, for terminals with these
-- payload types.
pub record SendsFor {O : Type 0} (took : O → Setup → (ℕ → PayloadTypes) → List (ℕ × Post) → Type 0) (sources : O → List ℕ) (horizon : ℕ) (m : SendingState O) (s : Setup) (payload_types : ℕ → PayloadTypes) (calls : List Call) : Type 0 where
  pub stands : MixerStandsFor s m.mixer calls
  pub sent : took m.outbound s payload_types (sent_by s calls)
  pub all : length (sources m.outbound) ≡ s.legs
  pub early : AreBefore horizon calls
  pub few : turns_made calls ≤ 5000000

-- These calls were made of it, and what they send was taken; then a turn was made at this moment, of which some first posts were taken, and
-- maybe the next one.
abbrev pub HaltsFor : {O : Type 0} → (O → Setup → (ℕ → PayloadTypes) → List (ℕ × Post) → ℕ → Post → Type 0)
    → SendingState O → Setup → (ℕ → PayloadTypes) → List Call → ℕ → Type 0
HaltsFor halted m s payload_types calls now = IsHaltedIn halted m.outbound s payload_types (sent_by s calls) now (posts_at s now (after_calls s calls))
