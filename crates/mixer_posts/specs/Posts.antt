-- What a mixer sends, by the calls that were made of it (profile).
use Rattle.std.specs.Prelude.{◌≡◌, ℕ, ◌<◌, ◌==◌, List, [], ◌∷◌, ◌++◌, map, if◌then◌else◌}
use Rattle.rtt_base.specs.declared.text_packets.PayloadTypes.{PayloadTypes}
use Rattle.stream_spec.specs.Own.{Sent}
use Rattle.mixer_spec.specs.Setups.{Setup, stream}
use Rattle.mixer_spec.specs.Table.{Call, Admit, Hush, Leave, Offer, Turn, after_calls}
use Rattle.packetizer.specs.Speakers.{EachIsNext, text_of}
use Rattle.mixer.specs.declared.batches.Post.{Post}
use Rattle.mixer.specs.Turns.{posts_at}
use Rattle.mixer_posts.specs.Streams.{AreSourcesAt}

-- these posts, sent at this moment, behind what was sent before, newest first
abbrev pub with_posts : ℕ → List Post → List (ℕ × Post) → List (ℕ × Post)
with_posts now [] sent = sent
with_posts now (p ∷ posts) sent = with_posts now posts ((now, p) ∷ sent)

-- what these calls send, newest first, each at the moment of its turn
abbrev pub sent_by : Setup → List Call → List (ℕ × Post)
sent_by s [] = []
sent_by s (Admit i l ∷ past) = sent_by s past
sent_by s (Hush i ∷ past) = sent_by s past
sent_by s (Leave i ∷ past) = sent_by s past
sent_by s (Offer c ∷ past) = sent_by s past
sent_by s (Turn now ∷ past) = with_posts now (posts_at s now (after_calls s past)) (sent_by s past)

-- what is sent of a terminal with these sources
abbrev pub sent_of_post : List ℕ → Post → Sent
sent_of_post sources p = text_of sources p.source p.media p.text

-- of these posts, newest first, what is sent to the terminal j, which has these sources, each at its moment
abbrev pub sents_to : List ℕ → ℕ → List (ℕ × Post) → List (ℕ × Sent)
sents_to sources j [] = []
sents_to sources j (x ∷ sent) = (if x.1.terminal == j then (x.0, sent_of_post sources x.1) ∷ [] else []) ++ sents_to sources j sent

-- each of these posts may be sent after those before it
abbrev pub AreNext : Setup → List (ℕ × Post) → Type 0
AreNext s sent = (j : ℕ) (sources : List ℕ) → j < s.legs → AreSourcesAt s j sources
    → EachIsNext (stream s j) (map (λ x. x.1) (sents_to sources j sent))

module _ {O : Type 0} (took : O → Setup → (ℕ → PayloadTypes) → List (ℕ × Post) → Type 0) where
  -- a post that may be sent was taken, behind what was sent before
  abbrev pub Takes : O → O → ℕ → Post → Type 0
  Takes old new now p = (s : Setup) (payload_types : ℕ → PayloadTypes) (sent : List (ℕ × Post))
      → AreNext s ((now, p) ∷ sent) → took old s payload_types sent → took new s payload_types ((now, p) ∷ sent)

  -- it may have been taken or not, behind what was sent before
  abbrev pub TakesSome : (O → Setup → (ℕ → PayloadTypes) → List (ℕ × Post) → ℕ → Post → Type 0) → O → O → ℕ
      → Post → Type 0
  TakesSome halted old new now p = (s : Setup) (payload_types : ℕ → PayloadTypes) (sent : List (ℕ × Post))
      → AreNext s ((now, p) ∷ sent) → took old s payload_types sent → halted new s payload_types sent now p

  -- these posts were taken
  abbrev pub TakesAll : O → O → ℕ → List Post → Type 0
  TakesAll old new now posts = (s : Setup) (payload_types : ℕ → PayloadTypes) (sent : List (ℕ × Post))
      → AreNext s (with_posts now posts sent) → took old s payload_types sent
      → took new s payload_types (with_posts now posts sent)

module _ {O : Type 0} (halted : O → Setup → (ℕ → PayloadTypes) → List (ℕ × Post) → ℕ → Post → Type 0) where
  -- Of these posts, behind what was sent before, some first ones were taken, and maybe the next one.
  pub record IsHaltedIn (new : O) (s : Setup) (payload_types : ℕ → PayloadTypes) (sent : List (ℕ × Post)) (now : ℕ) (posts : List Post) : Type 0 where
    pub first : List Post
    pub next : Post
    pub left : List Post
    pub are : posts ≡ first ++ next ∷ left
    pub halts : halted new s payload_types (with_posts now first sent) now next

  -- so it is
  abbrev pub TakesFirst : (O → Setup → (ℕ → PayloadTypes) → List (ℕ × Post) → Type 0) → O → O → ℕ → List Post → Type 0
  TakesFirst took old new now posts = (s : Setup) (payload_types : ℕ → PayloadTypes) (sent : List (ℕ × Post))
      → AreNext s (with_posts now posts sent) → took old s payload_types sent
      → IsHaltedIn new s payload_types sent now posts
