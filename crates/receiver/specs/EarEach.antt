-- What an ear of many sources gives: what is heard of each of them (profile).
use Rattle.std.specs.Prelude.{◌≡◌, ℕ, ◌+◌, ◌≤◌, List, length}
use Rattle.reorder_buffer.specs.Stories.{Story, ready_dues}
use Rattle.receiver.specs.declared.source_texts.SourceText.{SourceText}
use Rattle.receiver.specs.Each.{AreHeard}
use Rattle.receiver.specs.declared.settings.EarSettings.{EarSettings}
use Rattle.receiver.specs.declared.ears.Ear.{Ear}
use Rattle.receiver.specs.Hears.{Hears, all_given, arrival_count, ready_packets}

-- the ear was told and gave what the story says, and the texts are what is heard of each source by what it gave
pub record HearsEach (e : Ear) (settings : EarSettings) (sources : List ℕ) (story : Story) (texts : List SourceText) : Type 0 where
  pub hears : Hears e settings sources story
  pub each : length texts ≡ length sources
  pub heard : AreHeard sources (ready_packets story.given) texts

abbrev pub IsHearingEach : Ear → List SourceText → Type 0
IsHearingEach e texts = (settings : EarSettings) × (sources : List ℕ) × (story : Story) × HearsEach e settings sources story texts

-- all that is ready was given, n packets of it now
pub record GatheredEach (e : Ear) (settings : EarSettings) (sources : List ℕ) (story : Story) (n : ℕ) (texts : List SourceText) : Type 0 where
  pub hears : HearsEach e settings sources (all_given story) texts
  pub used : length (ready_dues story) ≡ length story.given + n
  pub few : length (ready_dues story) ≤ arrival_count e

abbrev pub GathersEach : Ear → Ear → ℕ → List SourceText → List SourceText → Type 0
GathersEach old new n texts more = (settings : EarSettings) (sources : List ℕ) (story : Story)
    → HearsEach old settings sources story texts → GatheredEach new settings sources story n more
