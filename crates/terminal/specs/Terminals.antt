-- What a terminal stands for: what came to it so far, what was heard of each source, and the counts (profile).
use Rattle.std.specs.Prelude.{◌≡◌, ℕ, ◌+◌, ◌<◌, ◌≤◌, ◌⊎◌, Bool, true, false, List, [], length, All, IsUtf8, slice_index, slice_index_or, if◌then◌else◌}
use Rattle.wire_spec.specs.Dump.{Item, What, Cut, Large}
use Rattle.reorder_buffer.specs.Stories.{Story}
use Rattle.receiver.specs.declared.source_texts.SourceText.{SourceText}
use Rattle.receiver.specs.declared.cuts.TextCut.TheVariants.{Never}
use Rattle.receiver.specs.declared.settings.EarSettings.{EarSettings}
use Rattle.receiver.specs.Hears.{IsToldOf, arrival_count, is_quiet, is_finished}
use Rattle.receiver.specs.EarEach.{HearsEach}
use Rattle.view_spec.specs.declared.counts.Counts.{Counts}
use Rattle.view_spec.specs.Seen.{Reception, Fate, fate_at, is_packet, is_refused, is_foreign, many, arrivals_at, text_at, counts_at}
use Rattle.view_spec.specs.Markers.{markers_at}
use Rattle.terminal.specs.declared.settings.TerminalSettings.{TerminalSettings}
use Rattle.terminal.specs.declared.terminals.Terminal.{Terminal}

-- ---- what is seen of a terminal

-- what was heard of each source, in their order
abbrev pub texts_of : Terminal → List SourceText
texts_of t = t.heard.items

-- how many packets came, and what became of them
abbrev pub counts_of : Terminal → Counts
counts_of t = t.counts

-- so many packets came, and each was used
abbrev pub all_used : ℕ → Counts
all_used packets = record { packets = packets; used = packets; refused = 0; foreign = 0 }

-- it had no memory to hear on, and answers so from then on
abbrev pub is_spent : Terminal → Bool
is_spent t = t.spent

-- it is not spent
abbrev pub IsWhole : Terminal → Type 0
IsWhole t = is_spent t ≡ false

-- ---- what it heard

-- who hears there
abbrev pub reception : TerminalSettings → Reception
reception c = record { ssrc = c.ssrc; payload_types = c.payload_types; wait = c.wait }

-- what is asked of the ear
abbrev pub ear_settings : TerminalSettings → EarSettings
ear_settings c = record { ssrc = c.ssrc; payload_types = c.payload_types; wait = c.wait; long = false; cut = Never }

-- nothing was heard of the source
pub record IsEmpty (t : SourceText) : Type 0 where
  pub text : t.text ≡ []
  pub markers : t.markers ≡ 0

-- the ear was told and gave what the story says, and the texts are what is heard of each source by what it gave
pub record HearsTexts (t : Terminal) (c : TerminalSettings) (sources : List ℕ) (story : Story) : Type 0 where
  pub hears : HearsEach t.ear (ear_settings c) sources story t.heard.items
  pub used : t.counts.used ≡ length story.given

-- what it heard is that of some story
abbrev pub IsHearingTexts : Terminal → Type 0
IsHearingTexts t = (c : TerminalSettings) × (sources : List ℕ) × (story : Story) × HearsTexts t c sources story

-- the packets that came are counted
pub record Counted (n : Counts) (r : Reception) (came : List Item) : Type 0 where
  pub packets : n.packets ≡ many is_packet (fate_at r) came
  pub refused : n.refused ≡ many is_refused (fate_at r) came
  pub foreign : n.foreign ≡ many is_foreign (fate_at r) came
  pub few_refused : n.refused ≤ n.packets
  pub few_foreign : n.foreign ≤ n.packets

-- this came to the terminal, oldest first, and more may come
pub record Listens (t : Terminal) (c : TerminalSettings) (sources : List ℕ) (came : List Item) : Type 0 where
  pub story : Story
  pub hears : HearsTexts t c sources story
  pub told : IsToldOf story (arrivals_at (reception c) came)
  pub some : 0 < length sources
  pub counts : Counted t.counts (reception c) came
  pub few : arrival_count t.ear ≤ t.counts.packets
  pub quiet : is_quiet t.ear ≡ true
  pub open_still : is_finished t.ear ≡ false
  pub whole : IsWhole t

-- something came so
abbrev pub IsListening : Terminal → Type 0
IsListening t = (c : TerminalSettings) × (sources : List ℕ) × (came : List Item) × Listens t c sources came

-- it is not finished: it listens, where it is not spent
abbrev pub IsOpen : Terminal → Type 0
IsOpen t = IsWhole t → IsListening t

-- each text is UTF-8
abbrev pub AreUtf8 : List SourceText → Type 0
AreUtf8 texts = All (λ t. IsUtf8 t.text) texts

-- all that is heard of the source s
pub record IsTextOf (r : Reception) (came : List Item) (s : ℕ) (t : SourceText) : Type 0 where
  pub text : t.text ≡ text_at r came s
  pub markers : t.markers ≡ markers_at r came s

-- what came was heard to its end
pub record Heard (t : Terminal) (c : TerminalSettings) (sources : List ℕ) (came : List Item) : Type 0 where
  pub some : 0 < length sources
  pub each : length (texts_of t) ≡ length sources
  pub texts : (k : ℕ) (d : SourceText) → k < length sources
      → IsTextOf (reception c) came (slice_index sources k) (slice_index_or (texts_of t) k d)
  pub utf8 : AreUtf8 (texts_of t)
  pub counts : counts_of t ≡ counts_at (reception c) came
  pub whole : IsWhole t

-- something came and was heard to its end
abbrev pub IsHeard : Terminal → Type 0
IsHeard t = (c : TerminalSettings) × (sources : List ℕ) × (came : List Item) × Heard t c sources came

-- it is finished, where it is not spent
abbrev pub IsFinished : Terminal → Type 0
IsFinished t = IsWhole t → IsHeard t

-- ---- what it counts

-- a packet whose octets are not all there, or too many
abbrev pub IsUnread : What → Type 0
IsUnread what = (what ≡ Cut) ⊎ (what ≡ Large)

-- 1 where it is so, and else 0
abbrev pub one_if : Bool → ℕ
one_if b = if b then 1 else 0

-- all counts but that of used packets stay
pub record SameCounts (old new : Counts) : Type 0 where
  pub packets : new.packets ≡ old.packets
  pub refused : new.refused ≡ old.refused
  pub foreign : new.foreign ≡ old.foreign

-- the counts with one more that became this
pub record CountsAs (f : Fate) (old new : Counts) : Type 0 where
  pub packets : new.packets ≡ old.packets + one_if (is_packet f)
  pub refused : new.refused ≡ old.refused + one_if (is_refused f)
  pub foreign : new.foreign ≡ old.foreign + one_if (is_foreign f)
