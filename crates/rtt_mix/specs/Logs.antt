-- What was sent to each terminal, by the posts that a log took, and its recordings.
use Rattle.std.specs.Prelude.{◌≡◌, ◌<◌, ℕ, zero, suc, List, [], ◌∷◌, length, map}
use Rattle.rtt_base.specs.declared.text_packets.PayloadTypes.{PayloadTypes}
use Rattle.wire_spec.specs.Packets.{Arrival}
use Rattle.wire_spec.specs.Dump.{dump_written}
use Rattle.wire_spec.specs.SentPackets.{packet_written}
use Rattle.file_spec.specs.Conference.{Conference}
use Rattle.mixer_spec.specs.Setups.{Setup, setup, stream}
use Rattle.mixer_spec.specs.Table.{Table, packets}
use Rattle.mixer.specs.declared.batches.Post.{Post}
use Rattle.mixer.specs.Making.{source_counts}
use Rattle.mixer_posts.specs.Posts.{sents_to}
use Rattle.mixer_posts.specs.Streams.{AreSourcesAt, settings_at, payload_types_at}
use Rattle.sent_log.specs.States.{OfTerminal, Sending, State}

-- ---- what is written
-- the octets to the terminal j
abbrev pub out_at : List (List ℕ) → ℕ → List ℕ
out_at [] j = []
out_at (o ∷ os) zero = o
out_at (o ∷ os) (suc j) = out_at os j

-- packets that are sent with these payload types, as records
abbrev pub records : PayloadTypes → List Arrival → List (ℕ × List ℕ)
records payload_types sent = map (λ a. (a.time, packet_written payload_types a.packet)) sent

-- what was sent to the terminal j, as records
abbrev pub records_to : (ℕ → PayloadTypes) → Setup → Table → ℕ → List (ℕ × List ℕ)
records_to payload_types s table j = records (payload_types j) (packets (stream s j) (table.terminals j).past)

-- the recording to each terminal has what was sent to it
abbrev pub LogOf : (ℕ → PayloadTypes) → Setup → Table → List (List ℕ) → Type 0
LogOf payload_types s table log = (j : ℕ) → j < s.legs
    → out_at log j ≡ dump_written (records_to payload_types s table j)

-- ---- as it is sent
-- how many sources each terminal has
abbrev pub sources_in : State → List ℕ
sources_in log = map (λ x. length x.sources) log

-- This is the stream to the terminal j, with these payload types, and what was sent in it is what goes there of these posts.
pub record IsSentTo (s : Setup) (payload_types : PayloadTypes) (j : ℕ) (posts : List (ℕ × Post)) (x : Sending) : Type 0 where
  pub settings : x.settings ≡ settings_at s payload_types j
  pub sources : AreSourcesAt s j x.sources
  pub sent : x.sent ≡ sents_to x.sources j posts

-- so it is at each terminal
abbrev pub HasSent : Setup → (ℕ → PayloadTypes) → State → List (ℕ × Post) → Type 0
HasSent s payload_types log posts = (j : ℕ) → j < s.legs → OfTerminal log j (IsSentTo s (payload_types j) j posts)

-- A log of the terminals of this conference, to which nothing was sent.
pub record IsNew (c : Conference) (log : State) : Type 0 where
  pub terminals : length log ≡ length c.legs
  pub sources : sources_in log ≡ source_counts c
  pub silent : HasSent (setup c) (payload_types_at c) log []
