-- The arguments of each command, as `clap` sees them, and what their texts ask for.
use Rattle.std.specs.Prelude.{◌≡◌, ◌≢◌, ℕ, Bool, true, false, List, [], ◌∷◌, codes, Option, Some, None, option_and_then, unwrap_or, drop}
use Rattle.std.specs.List.{list_all}
use Rattle.std.specs.Option.{option_map}
use Rattle.clap.specs.Words.{App, Rule, fault_of, first_of, is_simple_and_free, matches_of, new_app, new_rule, with_rule}
use Rattle.clap.specs.declared.error.kind.ErrorKind.{ErrorKind}
use Rattle.clap.specs.declared.error.kind.ErrorKind.TheVariants.{OutOfMemory}
use Rattle.rtt_words.specs.declared.words.WordFault.{WordFault}
use Rattle.rtt_words.specs.declared.words.WordFault.TheVariants.{Wrong, NoMemory}
use Rattle.clap.specs.Simple.{on_top}
use Rattle.rtt_base.specs.declared.text_packets.PayloadTypes.{PayloadTypes}
use Rattle.file_spec.specs.Numbers.{number, number_between, most_ssrc}
use Rattle.command_spec.specs.Usual.{usual_payload_types}
use Rattle.rtt_words.specs.declared.topics.Topic.TheVariants.{Usage}
use Rattle.rtt_words.specs.Help.{topic}
use Rattle.rtt_words.specs.Words.{ReadWords, ListWords, SendWords, MixWords, ChannelWords, Command, Make, Help, Version, is_word, payload_type_pair, read_of, list_of, send_of}

-- a refusal of `clap`, by its kind
abbrev pub fault_by : ErrorKind → WordFault
fault_by OutOfMemory = NoMemory
fault_by _ = Wrong

-- a command without arguments, not even `--help`
abbrev pub bare_app : List ℕ → App
bare_app name = on_top (λ s. record s { disable_help_flag = true }) (new_app name)

-- an argument that every row has, or one that some rows have
abbrev pub rule_for : Bool → List ℕ → Rule
rule_for required id = record (new_rule id) { required = required }

-- a command with these arguments behind those that it has
abbrev pub with_rules : Bool → App → List (List ℕ) → App
with_rules required app [] = app
with_rules required app (id ∷ ids) = with_rules required (with_rule app (rule_for required id)) ids

-- a command of this name, with arguments that every row has, and behind them those that some rows have
abbrev pub app_with : List ℕ → List (List ℕ) → List (List ℕ) → App
app_with name all some = with_rules false (with_rules true (bare_app name) all) some

-- `read FILE SSRC`, and then SOURCE, T140 and RED; `script` has the same
abbrev pub read_app : App
read_app = app_with (codes "read") (codes "FILE" ∷ codes "SSRC" ∷ []) (codes "SOURCE" ∷ codes "T140" ∷ codes "RED" ∷ [])

-- `list FILE`, and then T140 and RED; `show` and `times` have the same
abbrev pub list_app : App
list_app = app_with (codes "list") (codes "FILE" ∷ []) (codes "T140" ∷ codes "RED" ∷ [])

-- `send SCRIPT OUT SSRC SEQ STAMP`; `relay` has as many
abbrev pub send_app : App
send_app = app_with (codes "send") (codes "SCRIPT" ∷ codes "OUT" ∷ codes "SSRC" ∷ codes "SEQ" ∷ codes "STAMP" ∷ []) []

-- `mix CONF`; `attend`, `live` and `watch` have the same
abbrev pub mix_app : App
mix_app = app_with (codes "mix") (codes "CONF" ∷ []) []

-- `make N`
abbrev pub make_app : App
make_app = app_with (codes "make") (codes "N" ∷ []) []

-- `channel FILE SSRC OUT`; `cascade` has as many
abbrev pub channel_app : App
channel_app = app_with (codes "channel") (codes "FILE" ∷ codes "SSRC" ∷ codes "OUT" ∷ []) []

-- `help`, and then COMMAND; `--help` and `-h` have the same
abbrev pub help_app : App
help_app = app_with (codes "help") [] (codes "COMMAND" ∷ [])

-- `version`; `--version` has as many
abbrev pub version_app : App
version_app = app_with (codes "version") [] []

-- ---- what is asked for where each argument has this text

-- the payload types are named both or not at all
abbrev pub payload_types_given : Option (List ℕ) → Option (List ℕ) → Option PayloadTypes
payload_types_given None None = Some usual_payload_types
payload_types_given (Some t140) (Some red) = payload_type_pair t140 red
payload_types_given _ _ = None

-- the texts of the arguments, by their ids
abbrev pub Texts : Type 0
Texts = List ℕ → Option (List ℕ)

abbrev pub read_given : Texts → Option ReadWords
read_given text =
    option_and_then (λ file. option_and_then (λ ssrc. read_of file (number most_ssrc ssrc) (number most_ssrc (unwrap_or (text (codes "SOURCE")) ssrc))
    (payload_types_given (text (codes "T140")) (text (codes "RED")))) (text (codes "SSRC"))) (text (codes "FILE"))

abbrev pub list_given : Texts → Option ListWords
list_given text = option_and_then (λ file. list_of file (payload_types_given (text (codes "T140")) (text (codes "RED")))) (text (codes "FILE"))

abbrev pub send_given : Texts → Option SendWords
send_given text =
    option_and_then (λ script. option_and_then (λ out. option_and_then (λ ssrc. option_and_then (λ seq. option_and_then (λ timestamp.
    send_of script out (number most_ssrc ssrc) (number 65535 seq) (number 4294967295 timestamp))
    (text (codes "STAMP"))) (text (codes "SEQ"))) (text (codes "SSRC"))) (text (codes "OUT"))) (text (codes "SCRIPT"))

abbrev pub mix_given : Texts → Option MixWords
mix_given text = option_and_then (λ conference. Some (record { conference = conference })) (text (codes "CONF"))

abbrev pub make_given : Texts → Option Command
make_given text = option_and_then (λ n. option_map (λ k. Make (record { number = k })) (number_between 1 1000 n)) (text (codes "N"))

abbrev pub channel_given : Texts → Option ChannelWords
channel_given text =
    option_and_then (λ file. option_and_then (λ ssrc. option_and_then (λ out.
    option_map (λ s. record { file = file; ssrc = s; out = out }) (number most_ssrc ssrc))
    (text (codes "OUT"))) (text (codes "SSRC"))) (text (codes "FILE"))

abbrev pub help_of : Option (List ℕ) → Option Command
help_of None = Some (Help Usage)
help_of (Some name) = option_map Help (topic name)

abbrev pub help_given : Texts → Option Command
help_given text = help_of (text (codes "COMMAND"))

abbrev pub version_given : Texts → Option Command
version_given text = Some Version

-- ---- what the arguments have to do with the rows of the word table

-- what the words of the code mean, what is asked for where each argument has this text, and what the word table says of the
-- words after the name
pub record Row (W A : Type 0) : Type 0 where
  pub meant : W → A
  pub given : Texts → Option A
  pub said : List (List ℕ) → Option A

-- the words after the name are neither empty nor begin with `-`
abbrev pub ArePlain : List (List ℕ) → Type 0
ArePlain words = list_all is_word (drop 1 words) ≡ true

-- the command takes the words that a row says something of, and what their texts ask for is what it says
pub record IsForm {A : Type 0} (app : App) (given : Texts → Option A) (said : List (List ℕ) → Option A) : Type 0 where
  pub simple : is_simple_and_free app ≡ true
  pub taken : (words : List (List ℕ)) → ArePlain words → fault_of app words ≡ [] → (text : Texts)
      → ((id : List ℕ) → text id ≡ first_of id (matches_of app words)) → given text ≡ said (drop 1 words)
  pub refused : (words : List (List ℕ)) → ArePlain words → fault_of app words ≢ [] → said (drop 1 words) ≡ None
