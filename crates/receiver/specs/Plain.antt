-- A packet of which nothing but its primary text is heard (RFC 4103, section 4).
use Rattle.std.specs.Prelude.{◌≡◌, ℕ, ◌<◌, ◌≤◌, Bool, false, Option, Some, List, [], ◌∷◌, ◌++◌, ◌&&◌, ◌||◌, length, position, slice_index_or, slice_set, nat_lt, ◌==◌}
use Rattle.stream_spec.specs.Numbering.{Numbered}
use Rattle.stream_spec.specs.Hearing.{heard_by, text_list}
use Rattle.wire_spec.specs.declared.headers.RedHeader.{RedHeader}
use Rattle.wire_spec.specs.Packets.{back}
use Rattle.rtp_text.specs.declared.views.TextView.{TextView}
use Rattle.rtp_text.specs.Views.{older_in, packet_in}
use Rattle.receiver.specs.declared.receivers.Receiver.{Receiver}
use Rattle.receiver.specs.declared.receivers.ListedSource.{ListedSource}
use Rattle.receiver.specs.declared.receivers.LastPacket.{LastPacket}
use Rattle.receiver.specs.declared.source_texts.SourceText.{SourceText}
use Rattle.receiver.specs.Stands.{Stands}
use Rattle.receiver.specs.Steps.{is_new_since, is_marked_since, older_since, missing_up_to}
use Rattle.receiver.specs.Each.{AreHeard}

-- a packet that was used under this number, and looked at where it lies
abbrev pub viewed_packet : ℕ → ℕ → TextView → Numbered
viewed_packet time number v = record { time = time; number = number; packet = packet_in v }

-- the receiver took the packet
abbrev pub TakesView : Receiver → Receiver → ℕ → TextView → Type 0
TakesView old new number v =
    (sources : List ℕ) (us : List Numbered) (time : ℕ) → Stands old sources us
    → Stands new sources (us ++ viewed_packet time number v ∷ [])

-- what is heard of it was added to what was heard of each source
abbrev pub HearsView : Receiver → ℕ → TextView → List SourceText → List SourceText → Type 0
HearsView old number v before after =
    (sources : List ℕ) (us : List Numbered) (time : ℕ) → Stands old sources us → AreHeard sources us before
    → AreHeard sources (us ++ viewed_packet time number v ∷ []) after

-- of the only source its primary text is heard, and nothing else
abbrev pub HearsPrimary : Receiver → ℕ → TextView → Type 0
HearsPrimary old number v =
    (source : ℕ) (us : List Numbered) (time : ℕ) → Stands old (source ∷ []) us
    → heard_by (us ++ viewed_packet time number v ∷ []) source ≡ heard_by us source ++ text_list v.primary.now

-- ---- how it is found

-- whether the redundant block of this header gives a text: it is new, and has one
abbrev pub gives_since : Option LastPacket → ℕ → RedHeader → Bool
gives_since seen timestamp h = is_new_since seen (back timestamp h.offset) && nat_lt 0 h.size

abbrev pub any_gives_since : Option LastPacket → ℕ → List RedHeader → Bool
any_gives_since seen timestamp [] = false
any_gives_since seen timestamp (h ∷ hs) = gives_since seen timestamp h || any_gives_since seen timestamp hs

-- no marker stands before the packet, and no text that it repeats is new
pub record IsPlain (seen : Option LastPacket) (missing : ℕ) (v : TextView) : Type 0 where
  pub unmarked : is_marked_since seen missing v.timestamp (older_in v) ≡ false
  pub repeated : older_since seen v.timestamp (older_in v) ≡ []

-- the packet's source has this place, and the packet is plain there
pub record IsPlainAt (r : Receiver) (number : ℕ) (v : TextView) (place : ℕ) : Type 0 where
  pub own : ListedSource
  pub is_place : position (λ l. l.source == v.source) r.listed.items ≡ Some place
  pub within : place < length r.listed.items
  pub is_own : own ≡ slice_index_or r.listed.items place own
  pub plain : missing_up_to r number ≤ 18446744073709551615 → IsPlain own.seen (missing_up_to r number) v

-- the number is counted, and the packet is kept as the last one of the source at this place
pub record IsKept (old new : Receiver) (number timestamp place : ℕ) : Type 0 where
  pub latest : new.latest ≡ Some number
  pub missing : missing_up_to old number ≤ 18446744073709551615 → new.missing ≡ missing_up_to old number
  pub listed : (own : ListedSource) → own ≡ slice_index_or old.listed.items place own
      → new.listed.items ≡ slice_set old.listed.items place (record { source = own.source; seen = Some (record { timestamp = timestamp; missing = new.missing }) })
