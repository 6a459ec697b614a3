-- What a receiver hears of a source: each text once, and U+FFFD where text may be missing (RFC 4103, section 4 and
-- Addendum 1; the rule for a marker where many sources share one numbering is a profile).
use Rattle.std.specs.Prelude.{◌≡◌, ℕ, zero, suc, ◌+◌, ◌-◌, ◌==◌, Bool, true, Option, None, Some, List, [], ◌∷◌, ◌++◌, length, filter, IsUtf8, ◌&&◌, nat_lt, if◌then◌else◌}
use Rattle.rtt_base.specs.declared.blocks.TextBlock.{TextBlock}
use Rattle.rtt_base.specs.Timestamps.{is_after}
use Rattle.wire_spec.specs.Packets.{Arrival, back, has_text}
use Rattle.stream_spec.specs.Lists.{In}
use Rattle.stream_spec.specs.Numbering.{Numbered, numbered, used, has_number, first_number}

-- how many of the n numbers from low on are not present
abbrev pub missing : (ℕ → Bool) → ℕ → ℕ → ℕ
missing present low zero = 0
missing present low (suc n) = (if present (low + n) then 0 else 1) + missing present low n

-- how many strictly between two numbers are not present
abbrev pub missing_between : (ℕ → Bool) → ℕ → ℕ → ℕ
missing_between present low high = missing present (low + 1) (high - (low + 1))

-- the text of a marker, U+FFFD
abbrev pub marker : List ℕ
marker = 239 ∷ 191 ∷ 189 ∷ []

-- what is stamped so is new after the packet before, if there is one
abbrev pub is_new : Option Numbered → ℕ → Bool
is_new None timestamp = true
is_new (Some a) timestamp = is_after timestamp a.packet.timestamp

-- how far the oldest block lies before the packet's timestamp; the primary, where it is the only one
abbrev pub oldest_offset : List TextBlock → ℕ
oldest_offset [] = 0
oldest_offset (b ∷ bs) = b.offset

-- how many numbers are missing before b: after a, or from the first number on
abbrev pub missing_before : (ℕ → Bool) → ℕ → Option Numbered → Numbered → ℕ
missing_before present first None b = missing_between present first b.number
missing_before present first (Some a) b = missing_between present a.number b.number

-- more numbers are missing before b than b repeats, and its oldest block is new
abbrev pub is_marked : (ℕ → Bool) → ℕ → Option Numbered → Numbered → Bool
is_marked present first prev b =
    nat_lt (length b.packet.older) (missing_before present first prev b)
    && is_new prev (back b.packet.timestamp (oldest_offset b.packet.older))

-- a text, where there is one
abbrev pub text_list : List ℕ → List (List ℕ)
text_list text = if has_text text then text ∷ [] else []

-- the new texts of redundant blocks, in a packet with this timestamp
abbrev pub older_texts : Option Numbered → ℕ → List TextBlock → List (List ℕ)
older_texts prev timestamp [] = []
older_texts prev timestamp (b ∷ bs) = (if is_new prev (back timestamp b.offset) then text_list b.text else []) ++ older_texts prev timestamp bs

-- all new texts of b, oldest first
abbrev pub new_texts : Option Numbered → Numbered → List (List ℕ)
new_texts prev b = older_texts prev b.packet.timestamp b.packet.older ++ text_list b.packet.primary

-- what b adds, where prev is the packet of its source before it
abbrev pub piece : (ℕ → Bool) → ℕ → Option Numbered → Numbered → List (List ℕ)
piece present first prev b = (if is_marked present first prev b then marker ∷ [] else []) ++ new_texts prev b

-- what these packets of one source add, in rising number, where prev is the one before them
abbrev pub heard_over : (ℕ → Bool) → ℕ → Option Numbered → List Numbered → List (List ℕ)
heard_over present first prev [] = []
heard_over present first prev (b ∷ bs) = piece present first prev b ++ heard_over present first (Some b) bs

abbrev pub is_packet_of : ℕ → Numbered → Bool
is_packet_of s b = b.packet.source == s

-- what is heard of the source s by these used packets, the first number being `first`
abbrev pub heard_of : ℕ → ℕ → List Numbered → List (List ℕ)
heard_of first s us = heard_over (has_number us) first None (filter (is_packet_of s) us)

-- what is heard of the source s by these arrivals
abbrev pub heard : ℕ → List Arrival → ℕ → List (List ℕ)
heard wait a s = heard_of (first_number 0 (numbered a)) s (used wait (numbered a))

-- each of these is a text: it is not empty, and is UTF-8
abbrev pub AreHeardTexts : List (List ℕ) → Type 0
AreHeardTexts [] = Unit {0}
AreHeardTexts (t ∷ ts) = (has_text t ≡ true) × IsUtf8 t × AreHeardTexts ts

-- ---- packet by packet: what b adds behind used packets of lower numbers
-- the first number
abbrev pub first_number_of : List Numbered → Numbered → ℕ
first_number_of [] b = b.number
first_number_of (u ∷ us) b = u.number

abbrev pub last_of : Option Numbered → List Numbered → Option Numbered
last_of prev [] = prev
last_of prev (u ∷ us) = last_of (Some u) us

-- the packet of b's source before it
abbrev pub before_it : List Numbered → Numbered → Option Numbered
before_it us b = last_of None (filter (is_packet_of b.packet.source) us)

-- a is the last of these of the source s
pub record IsLastOf (s : ℕ) (us : List Numbered) (a : Numbered) : Type 0 where
  pub front : List Numbered
  pub back : List Numbered
  pub is : us ≡ front ++ a ∷ back
  pub source : a.packet.source ≡ s
  pub others : (u : Numbered) → In u back → u.packet.source ≡ s → ⊥

-- whether a marker stands before the texts of b
abbrev pub adds_marker : List Numbered → Numbered → Bool
adds_marker us b = is_marked (has_number us) (first_number_of us b) (before_it us b) b

-- the new texts of b
abbrev pub adds_texts : List Numbered → Numbered → List (List ℕ)
adds_texts us b = new_texts (before_it us b) b

-- what is heard of the source s by these used packets, in rising number
abbrev pub heard_by : List Numbered → ℕ → List (List ℕ)
heard_by [] s = []
heard_by (u ∷ us) s = heard_of u.number s (u ∷ us)
