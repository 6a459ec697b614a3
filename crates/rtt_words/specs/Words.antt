-- The command words of the program (profile). A file is named by a word that is not empty and does not begin with `-`.
use Rattle.std.specs.Prelude.{ℕ, Bool, false, not, Option, None, Some, List, [], ◌∷◌, ◌==◌, ◌&&◌, bytes_eq, codes, if◌then◌else◌, option_and_then}
use Rattle.std.specs.Option.{option_map}
use Rattle.rtt_base.specs.declared.text_packets.PayloadTypes.{PayloadTypes}
use Rattle.file_spec.specs.Numbers.{number, number_between, most_ssrc, payload_types}
use Rattle.command_spec.specs.Usual.{usual_payload_types}
use Rattle.rtt_words.specs.declared.topics.Topic.{Topic}
use Rattle.rtt_words.specs.declared.topics.Topic.TheVariants.{Usage}
use Rattle.rtt_words.specs.Help.{topic}

-- what `read` and `script` are asked for: the text of a source in the packets of an SSRC of a recording, under two payload types
pub record ReadWords : Type 0 where
  pub file : List ℕ
  pub ssrc : ℕ
  pub source : ℕ
  pub payload_types : PayloadTypes

-- what `list`, `show` and `times` are asked for: the records of a recording, under two payload types
pub record ListWords : Type 0 where
  pub file : List ℕ
  pub payload_types : PayloadTypes

-- what `send` and `relay` are asked for: the text in a file is sent into a recording, by a stream of this SSRC, first sequence
-- number and timestamp at time 0
pub record SendWords : Type 0 where
  pub file : List ℕ
  pub out : List ℕ
  pub ssrc : ℕ
  pub seq : ℕ
  pub timestamp : ℕ

-- what `mix`, `attend`, `live` and `watch` are asked for: the conference in a file
pub record MixWords : Type 0 where
  pub conference : List ℕ

-- what `make` is asked for: the conference that is made from a number
pub record MakeWords : Type 0 where
  pub number : ℕ

-- what `channel` is asked for: the text of an SSRC of a recording as frames
pub record ChannelWords : Type 0 where
  pub file : List ℕ
  pub ssrc : ℕ
  pub out : List ℕ

-- what `check` is asked for: what lies in a file
pub record CheckWords : Type 0 where
  pub file : List ℕ

-- what `cascade` is asked for: the conference in a file, behind a mixer that sent the packets of an SSRC of a recording
pub record CascadeWords : Type 0 where
  pub file : List ℕ
  pub ssrc : ℕ
  pub conference : List ℕ

pub data Command : Type 0 where
  Read : ReadWords → Command
  ListRecords : ListWords → Command
  Send : SendWords → Command
  Mix : MixWords → Command
  Attend : MixWords → Command
  Cascade : CascadeWords → Command
  Make : MakeWords → Command
  Live : MixWords → Command
  Watch : MixWords → Command
  Relay : SendWords → Command
  Channel : ChannelWords → Command
  Show : ListWords → Command
  Times : ListWords → Command
  Script : ReadWords → Command
  Check : CheckWords → Command
  Help : Topic → Command
  Version : Command

-- a word that is empty or begins with `-` is none
abbrev pub is_word : List ℕ → Bool
is_word [] = false
is_word (c ∷ cs) = not (c == 45)

abbrev pub if_different : PayloadTypes → Option PayloadTypes
if_different p = if p.t140 == p.red then None else Some p

-- two payload types that differ
abbrev pub payload_type_pair : List ℕ → List ℕ → Option PayloadTypes
payload_type_pair t140 red = option_and_then if_different (payload_types t140 red)

-- the words of a `read`, where the numbers are numbers
abbrev pub read_of : List ℕ → Option ℕ → Option ℕ → Option PayloadTypes → Option ReadWords
read_of file ssrc source types =
    option_and_then (λ s. option_and_then (λ t. option_map (λ p.
    record { file = file; ssrc = s; source = t; payload_types = p }) types) source) ssrc

-- `FILE SSRC`, `FILE SSRC SOURCE` and `FILE SSRC SOURCE T140 RED`: where no source is named it is the SSRC
abbrev pub read_words : List (List ℕ) → Option ReadWords
read_words (file ∷ ssrc ∷ []) =
    if is_word file then read_of file (number most_ssrc ssrc) (number most_ssrc ssrc) (Some usual_payload_types) else None
read_words (file ∷ ssrc ∷ source ∷ []) =
    if is_word file then read_of file (number most_ssrc ssrc) (number most_ssrc source) (Some usual_payload_types) else None
read_words (file ∷ ssrc ∷ source ∷ t140 ∷ red ∷ []) =
    if is_word file then read_of file (number most_ssrc ssrc) (number most_ssrc source) (payload_type_pair t140 red)
    else None
read_words _ = None

abbrev pub list_of : List ℕ → Option PayloadTypes → Option ListWords
list_of file types = option_map (λ p. record { file = file; payload_types = p }) types

-- `FILE` and `FILE T140 RED`
abbrev pub list_words : List (List ℕ) → Option ListWords
list_words (file ∷ []) = if is_word file then list_of file (Some usual_payload_types) else None
list_words (file ∷ t140 ∷ red ∷ []) = if is_word file then list_of file (payload_type_pair t140 red) else None
list_words _ = None

-- the words of a `send`, where the numbers are numbers
abbrev pub send_of : List ℕ → List ℕ → Option ℕ → Option ℕ → Option ℕ → Option SendWords
send_of file out ssrc seq timestamp =
    option_and_then (λ s. option_and_then (λ q. option_map (λ t.
    record { file = file; out = out; ssrc = s; seq = q; timestamp = t }) timestamp) seq) ssrc

-- `SCRIPT OUT SSRC SEQ STAMP` and `FRAMES OUT SSRC SEQ STAMP`
abbrev pub send_words : List (List ℕ) → Option SendWords
send_words (file ∷ out ∷ ssrc ∷ seq ∷ timestamp ∷ []) =
    if is_word file && is_word out
    then send_of file out (number most_ssrc ssrc) (number 65535 seq) (number 4294967295 timestamp)
    else None
send_words _ = None

-- `CONF`
abbrev pub mix_words : List (List ℕ) → Option MixWords
mix_words (conference ∷ []) = if is_word conference then Some (record { conference = conference }) else None
mix_words _ = None

-- `N`, from 1 to 1000
abbrev pub make_words : List (List ℕ) → Option Command
make_words (n ∷ []) = option_map (λ k. Make (record { number = k })) (number_between 1 1000 n)
make_words _ = None

-- `FILE SSRC OUT`
abbrev pub channel_words : List (List ℕ) → Option ChannelWords
channel_words (file ∷ ssrc ∷ out ∷ []) =
    if is_word file && is_word out
    then option_map (λ s. record { file = file; ssrc = s; out = out }) (number most_ssrc ssrc)
    else None
channel_words _ = None

-- the last word names a conference
abbrev pub before_conference : ChannelWords → CascadeWords
before_conference c = record { file = c.file; ssrc = c.ssrc; conference = c.out }

-- `FILE SSRC CONF`, of the same shape
abbrev pub cascade_words : List (List ℕ) → Option CascadeWords
cascade_words words = option_map before_conference (channel_words words)

-- the one word names a file
abbrev pub to_check : MixWords → CheckWords
to_check m = record { file = m.conference }

-- `FILE`, of the same shape as `CONF`
abbrev pub check_words : List (List ℕ) → Option CheckWords
check_words words = option_map to_check (mix_words words)

-- no words, or `COMMAND`
abbrev pub help_words : List (List ℕ) → Option Command
help_words [] = Some (Help Usage)
help_words (name ∷ []) = if is_word name then option_map Help (topic name) else None
help_words _ = None

-- no words
abbrev pub version_words : List (List ℕ) → Option Command
version_words [] = Some Version
version_words _ = None

-- what the words ask for, if they are in the word table
abbrev pub command : List (List ℕ) → Option Command
command [] = None
command (name ∷ words) =
    if bytes_eq name (codes "read") then option_map Read (read_words words)
    else (if bytes_eq name (codes "list") then option_map ListRecords (list_words words)
    else (if bytes_eq name (codes "send") then option_map Send (send_words words)
    else (if bytes_eq name (codes "mix") then option_map Mix (mix_words words)
    else (if bytes_eq name (codes "attend") then option_map Attend (mix_words words)
    else (if bytes_eq name (codes "cascade") then option_map Cascade (cascade_words words)
    else (if bytes_eq name (codes "make") then make_words words
    else (if bytes_eq name (codes "live") then option_map Live (mix_words words)
    else (if bytes_eq name (codes "watch") then option_map Watch (mix_words words)
    else (if bytes_eq name (codes "relay") then option_map Relay (send_words words)
    else (if bytes_eq name (codes "channel") then option_map Channel (channel_words words)
    else (if bytes_eq name (codes "show") then option_map Show (list_words words)
    else (if bytes_eq name (codes "times") then option_map Times (list_words words)
    else (if bytes_eq name (codes "script") then option_map Script (read_words words)
    else (if bytes_eq name (codes "check") then option_map Check (check_words words)
    else (if bytes_eq name (codes "help") then help_words words
    else (if bytes_eq name (codes "--help") then help_words words
    else (if bytes_eq name (codes "-h") then help_words words
    else (if bytes_eq name (codes "version") then version_words words
    else (if bytes_eq name (codes "--version") then version_words words else None)))))))))))))))))))
