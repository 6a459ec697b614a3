-- What the laws say of what is heard of a lawful history, whatever packets were lost, repeated, reordered or late.
use Rattle.std.specs.Prelude.{◌≡◌, ℕ, ◌<◌, ◌↔◌, true, List, [], ◌∷◌, ◌++◌, filter, map}
use Rattle.wire_spec.specs.Packets.{Arrival, has_text}
use Rattle.stream_spec.specs.Lists.{In}
use Rattle.stream_spec.specs.Numbering.{Numbered, Falling, numbered, used}
use Rattle.stream_spec.specs.Hearing.{heard, heard_by}
use Rattle.stream_spec.specs.History.{History, Placed, Lawful, Come, placed, places}
use Rattle.stream_spec.specs.Kept.{Block, kept, texts, blocks_in, Rising, ArePlaces, IsCarried, Parts, is_text_of}
use Rattle.stream_spec.specs.Ready.{ReadyRises, chunks}
use Rattle.stream_spec.specs.ChunksBy.{texts_added, used_ready, chunks_added, chunks_by}

-- ---- as the history has it
-- What is heard of a source is the text of what the places that came in time tell of it.
abbrev pub HeardIsTold : Type 0
HeardIsTold =
    (wait : ℕ) (h : History) → Lawful h
    → (a : List Arrival) → Come h a
    → (s : ℕ)
    → heard wait a s ≡ texts (kept h (places wait h a) s)

-- The blocks that are told rise, each at most once.
abbrev pub BlocksRise : Type 0
BlocksRise =
    (h : History) (i : List Placed) → ArePlaces h i
    → (s : ℕ)
    → Rising (blocks_in (kept h i s))

-- A block is told exactly where one of its carriers came.
abbrev pub BlocksAreThoseCarried : Type 0
BlocksAreThoseCarried =
    (h : History) → Lawful h
    → (i : List Placed) → ArePlaces h i
    → (s : ℕ) (k : Placed)
    → In (Block k) (kept h i s) ↔ IsCarried h i s k

-- Where a block is absent, a place below it came and a later one of its source, a marker parts the blocks below it from those
-- above it.
abbrev pub MarkerStands : Type 0
MarkerStands =
    (h : History) → Lawful h
    → (i : List Placed) → ArePlaces h i
    → (s : ℕ) (k below above : Placed)
    → In k (placed h) → k.source ≡ s → has_text k.text ≡ true
    → (In (Block k) (kept h i s) → ⊥)
    → In below i → below.place < k.place
    → In above i → above.source ≡ s → k.place < above.place
    → Parts k (kept h i s)

-- Where all places came, the blocks are all entries of the source with text.
abbrev pub AllAreTold : Type 0
AllAreTold =
    (h : History) → Lawful h
    → (s : ℕ)
    → blocks_in (kept h (placed h) s) ≡ filter (is_text_of s) (placed h)

-- ---- packet by packet
-- What is heard is told by the used packets.
abbrev pub HeardIsByUsed : Type 0
HeardIsByUsed =
    (wait : ℕ) (a : List Arrival) (s : ℕ)
    → heard wait a s ≡ heard_by (used wait (numbered a)) s

-- each of these has a lower number than b
abbrev pub AreLower : List Numbered → Numbered → Type 0
AreLower us b = (u : Numbered) → In u us → u.number < b.number

-- A packet adds a marker or none, and its new texts, to what those of lower numbers tell.
abbrev pub NextAddsTexts : Type 0
NextAddsTexts =
    (us : List Numbered) (b : Numbered) (s : ℕ)
    → AreLower us b
    → heard_by (us ++ b ∷ []) s ≡ heard_by us s ++ texts_added us b s

-- The texts of the chunks are what is heard.
abbrev pub ChunksAreHeard : Type 0
ChunksAreHeard =
    (wait place : ℕ) (a : List Arrival) (s : ℕ)
    → map (λ c. c.text) (chunks wait place a s) ≡ heard wait a s

-- Where times never fall, the moments at which chunks are ready never fall.
abbrev pub ReadyNeverFalls : Type 0
ReadyNeverFalls =
    (wait place : ℕ) (a : List Arrival) (s : ℕ)
    → Falling (numbered a)
    → ReadyRises (chunks wait place a s)

-- The chunks are told by the used packets, each at the moment at which it is ready.
abbrev pub ChunksAreByUsed : Type 0
ChunksAreByUsed =
    (wait place : ℕ) (a : List Arrival) (s : ℕ)
    → chunks wait place a s ≡ chunks_by place (used_ready wait a) s

-- A packet adds its own chunks to those of packets of lower numbers.
abbrev pub NextAddsChunks : Type 0
NextAddsChunks =
    (place : ℕ) (us : List Numbered) (b : Numbered) (s : ℕ)
    → AreLower us b
    → chunks_by place (us ++ b ∷ []) s ≡ chunks_by place us s ++ chunks_added place us b s

-- The texts of the chunks of these packets are what these tell.
abbrev pub ChunksByAreHeard : Type 0
ChunksByAreHeard =
    (place : ℕ) (us : List Numbered) (s : ℕ)
    → map (λ c. c.text) (chunks_by place us s) ≡ heard_by us s
