-- What the calls of the mixer send is what the definitions give to a terminal.
use Rattle.std.specs.Prelude.{◌≡◌, ℕ, Some, List}
use Rattle.file_spec.specs.declared.conference_lines.LegLine.{LegLine}
use Rattle.file_spec.specs.Conference.{Conference}
use Rattle.mixer_spec.specs.Setups.{leg_at, setup}
use Rattle.mixer_spec.specs.Table.{Call, after_calls}
use Rattle.mixer_posts.specs.Streams.{AreSourcesAt, settings_at, payload_types_at}
use Rattle.mixer_posts.specs.Posts.{sent_by, sents_to}
use Rattle.live_spec.specs.Served.{given_to}
use Rattle.rtt_live.specs.Ends.{packets_of}

-- Of what the calls of a conference's mixer send the packets to a terminal, which has these sources, are those that are given to
-- it.
abbrev pub SentIsGiven : Type 0
SentIsGiven =
    (c : Conference) (calls : List Call) (j : ℕ) (leg : LegLine) (sources : List ℕ)
    → leg_at c.legs j ≡ Some leg → AreSourcesAt (setup c) j sources
    → packets_of (settings_at (setup c) (payload_types_at c j) j) (sents_to sources j (sent_by (setup c) calls)) ≡ given_to c (after_calls (setup c) calls) j leg
