-- The sources of an output, and what may be sent of them (profile).
use Rattle.std.specs.Prelude.{◌≡◌, ℕ, ◌+◌, ◌<◌, ◌≤◌, ◌^◌, true, IfSome, List, [], ◌∷◌, length, slice_index, IsUtf8}
use Rattle.stream_spec.specs.Lists.{In}
use Rattle.stream_spec.specs.Own.{Sent, Stream, sent_of, nth, has_text_in}
use Rattle.stream_spec.specs.Typed.{longest_step}
use Rattle.packetizer.specs.WindowStanding.{kept_last}
use Rattle.packetizer.specs.declared.speakers.Speaker.{Speaker}
use Rattle.rtt_base.specs.declared.limits.TheConstants.{MOST_TEXT_OCTETS}

-- each is another than those behind it
abbrev pub AreDistinct : List ℕ → Type 0
AreDistinct [] = Unit {0}
AreDistinct (s ∷ more) = ((t : ℕ) → In t more → s ≡ t → ⊥) × AreDistinct more

-- the source of which this was sent, newest first: g blocks are kept, with timestamps counted from `base`
abbrev pub speaker_at : ℕ → ℕ → ℕ → List Sent → Speaker
speaker_at g base source sent = record { source = source; window = kept_last g base sent; spoke = has_text_in 1 sent }

-- the same source, of which nothing was sent
abbrev pub anew : ℕ → ℕ → Speaker → Speaker
anew g base speaker = speaker_at g base speaker.source []

-- the text of one of these sources at a media time
abbrev pub text_of : List ℕ → ℕ → ℕ → List ℕ → Sent
text_of sources source media text = record { source = slice_index sources source; media = media; text = text }

-- Text that may be sent after these: at a later media time and, where text of its source is still to be repeated, at
-- most the longest step after the last packet of the source.
pub record IsNext (c : Stream) (past : List Sent) (e : Sent) : Type 0 where
  pub later : (x : Sent) → In x past → (x.media < e.media) × (e.media < x.media + 2 ^ 31)
  pub near : has_text_in c.generations (sent_of e.source past) ≡ true
      → IfSome (nth 0 (sent_of e.source past)) (λ last. e.media ≤ last.media + longest_step c.generations)
  pub text : (length e.text ≤ MOST_TEXT_OCTETS) × IsUtf8 e.text

-- each of these could be sent after those before it
abbrev pub EachIsNext : Stream → List Sent → Type 0
EachIsNext c [] = Unit {0}
EachIsNext c (e ∷ past) = IsNext c past e × EachIsNext c past
