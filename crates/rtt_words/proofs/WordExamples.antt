-- Worked examples of command words, by computing.
use Rattle.std.proofs.Common.{◌≡◌, ℕ, List, [], ◌∷◌, Some, true, codes, map, refl}
use Rattle.std.specs.List.{list_all}
use Rattle.std.specs.Option.{is_none}
use Rattle.rtt_words.specs.declared.topics.Topic.TheVariants as of
use Rattle.rtt_words.specs.Words.{command, Command, Read, ListRecords, Send, Mix, Attend, Cascade, Make, Live, Watch, Relay, Channel, Show, Times, Script, Check, Help, Version}

-- the words of each row ask for what stands behind them
abbrev AskFor : List (List (List ℕ) × Command) → Type 0
AskFor rows = map (λ row. command row.0) rows ≡ map (λ row. Some row.1) rows

-- the words of each row ask for nothing
abbrev AskNothing : List (List (List ℕ)) → Type 0
AskNothing rows = list_all (λ row. is_none (command row)) rows ≡ true

read_a_source : AskFor (
    (codes "read" ∷ codes "a.rtp" ∷ codes "1001" ∷ [], Read (record { file = codes "a.rtp"; ssrc = 1001; source = 1001; payload_types = record { t140 = 98; red = 100 } }))
    ∷ (codes "read" ∷ codes "a.rtp" ∷ codes "1001" ∷ codes "7" ∷ [], Read (record { file = codes "a.rtp"; ssrc = 1001; source = 7; payload_types = record { t140 = 98; red = 100 } }))
    ∷ (codes "read" ∷ codes "a.rtp" ∷ codes "1001" ∷ codes "7" ∷ codes "96" ∷ codes "127" ∷ [], Read (record { file = codes "a.rtp"; ssrc = 1001; source = 7; payload_types = record { t140 = 96; red = 127 } }))
    ∷ (codes "script" ∷ codes "a.rtp" ∷ codes "9000" ∷ codes "1001" ∷ [], Script (record { file = codes "a.rtp"; ssrc = 9000; source = 1001; payload_types = record { t140 = 98; red = 100 } }))
    ∷ [])
read_a_source = refl

list_a_recording : AskFor (
    (codes "list" ∷ codes "a.rtp" ∷ [], ListRecords (record { file = codes "a.rtp"; payload_types = record { t140 = 98; red = 100 } }))
    ∷ (codes "show" ∷ codes "a.rtp" ∷ [], Show (record { file = codes "a.rtp"; payload_types = record { t140 = 98; red = 100 } }))
    ∷ (codes "show" ∷ codes "a.rtp" ∷ codes "96" ∷ codes "97" ∷ [], Show (record { file = codes "a.rtp"; payload_types = record { t140 = 96; red = 97 } }))
    ∷ (codes "times" ∷ codes "a.rtp" ∷ codes "96" ∷ codes "97" ∷ [], Times (record { file = codes "a.rtp"; payload_types = record { t140 = 96; red = 97 } }))
    ∷ [])
list_a_recording = refl

send_a_text : AskFor (
    (codes "send" ∷ codes "s.txt" ∷ codes "a.rtp" ∷ codes "1001" ∷ codes "65535" ∷ codes "4294967295" ∷ [], Send (record { file = codes "s.txt"; out = codes "a.rtp"; ssrc = 1001; seq = 65535; timestamp = 4294967295 }))
    ∷ (codes "relay" ∷ codes "f" ∷ codes "a.rtp" ∷ codes "1001" ∷ codes "0" ∷ codes "0" ∷ [], Relay (record { file = codes "f"; out = codes "a.rtp"; ssrc = 1001; seq = 0; timestamp = 0 }))
    ∷ (codes "channel" ∷ codes "a.rtp" ∷ codes "1001" ∷ codes "f" ∷ [], Channel (record { file = codes "a.rtp"; ssrc = 1001; out = codes "f" }))
    ∷ [])
send_a_text = refl

mix_a_conference : AskFor (
    (codes "mix" ∷ codes "c.txt" ∷ [], Mix (record { conference = codes "c.txt" }))
    ∷ (codes "attend" ∷ codes "c.txt" ∷ [], Attend (record { conference = codes "c.txt" }))
    ∷ (codes "cascade" ∷ codes "b.out" ∷ codes "9000" ∷ codes "c.txt" ∷ [], Cascade (record { file = codes "b.out"; ssrc = 9000; conference = codes "c.txt" }))
    ∷ (codes "live" ∷ codes "c.txt" ∷ [], Live (record { conference = codes "c.txt" }))
    ∷ (codes "watch" ∷ codes "c.txt" ∷ [], Watch (record { conference = codes "c.txt" }))
    ∷ [])
mix_a_conference = refl

make_with_leading_zeros : AskFor (
    (codes "make" ∷ codes "1000" ∷ [], Make (record { number = 1000 }))
    ∷ (codes "make" ∷ codes "0000000001" ∷ [], Make (record { number = 1 }))
    ∷ [])
make_with_leading_zeros = refl

version_alone : AskFor ((codes "version" ∷ [], Version) ∷ (codes "--version" ∷ [], Version) ∷ [])
version_alone = refl

words_are_missing : AskNothing (
    (codes "read" ∷ codes "a.rtp" ∷ [])
    ∷ (codes "read" ∷ codes "a.rtp" ∷ codes "1001" ∷ codes "7" ∷ codes "98" ∷ [])
    ∷ (codes "script" ∷ codes "a.rtp" ∷ [])
    ∷ (codes "list" ∷ codes "a.rtp" ∷ codes "98" ∷ [])
    ∷ (codes "relay" ∷ codes "f" ∷ codes "1001" ∷ codes "0" ∷ codes "0" ∷ [])
    ∷ (codes "channel" ∷ codes "a.rtp" ∷ codes "1001" ∷ [])
    ∷ (codes "mix" ∷ [])
    ∷ (codes "attend" ∷ [])
    ∷ (codes "cascade" ∷ codes "b.out" ∷ codes "9000" ∷ [])
    ∷ (codes "live" ∷ [])
    ∷ (codes "watch" ∷ [])
    ∷ (codes "check" ∷ [])
    ∷ (codes "make" ∷ [])
    ∷ [])
words_are_missing = refl

words_are_too_many : AskNothing (
    (codes "mix" ∷ codes "a" ∷ codes "b" ∷ [])
    ∷ (codes "attend" ∷ codes "a" ∷ codes "b" ∷ [])
    ∷ (codes "cascade" ∷ codes "b.out" ∷ codes "9000" ∷ codes "c.txt" ∷ codes "d.txt" ∷ [])
    ∷ (codes "live" ∷ codes "a" ∷ codes "b" ∷ [])
    ∷ (codes "watch" ∷ codes "a" ∷ codes "b" ∷ [])
    ∷ (codes "make" ∷ codes "1" ∷ codes "2" ∷ [])
    ∷ (codes "version" ∷ codes "a.rtp" ∷ [])
    ∷ [])
words_are_too_many = refl

numbers_are_outside_their_range : AskNothing (
    (codes "send" ∷ codes "s" ∷ codes "o" ∷ codes "1" ∷ codes "65536" ∷ codes "0" ∷ [])
    ∷ (codes "cascade" ∷ codes "b.out" ∷ codes "4294967296" ∷ codes "c.txt" ∷ [])
    ∷ (codes "make" ∷ codes "0" ∷ [])
    ∷ (codes "make" ∷ codes "1001" ∷ [])
    ∷ [])
numbers_are_outside_their_range = refl

-- payload types are dynamic ones of seven bits, and differ
no_such_payload_types : AskNothing (
    (codes "list" ∷ codes "a.rtp" ∷ codes "95" ∷ codes "100" ∷ [])
    ∷ (codes "list" ∷ codes "a.rtp" ∷ codes "98" ∷ codes "128" ∷ [])
    ∷ (codes "read" ∷ codes "a.rtp" ∷ codes "1001" ∷ codes "7" ∷ codes "98" ∷ codes "098" ∷ [])
    ∷ [])
no_such_payload_types = refl

no_word_is_like_an_option : AskNothing (
    (codes "read" ∷ codes "a.rtp" ∷ codes "-1" ∷ [])
    ∷ (codes "read" ∷ codes "--help" ∷ codes "1" ∷ [])
    ∷ (codes "send" ∷ codes "s" ∷ codes "-o" ∷ codes "1" ∷ codes "0" ∷ codes "0" ∷ [])
    ∷ (codes "attend" ∷ codes "-c" ∷ [])
    ∷ (codes "cascade" ∷ codes "b.out" ∷ codes "9000" ∷ codes "-c" ∷ [])
    ∷ (codes "channel" ∷ codes "a.rtp" ∷ codes "1001" ∷ codes "-f" ∷ [])
    ∷ [])
no_word_is_like_an_option = refl

check_a_file : AskFor ((codes "check" ∷ codes "a" ∷ [], Check (record { file = codes "a" })) ∷ [])
check_a_file = refl

help_of_all_or_of_one : AskFor (
    (codes "help" ∷ [], Help of.Usage)
    ∷ (codes "--help" ∷ [], Help of.Usage)
    ∷ (codes "-h" ∷ [], Help of.Usage)
    ∷ (codes "help" ∷ codes "read" ∷ [], Help of.Read)
    ∷ (codes "help" ∷ codes "help" ∷ [], Help of.Help)
    ∷ (codes "--help" ∷ codes "mix" ∷ [], Help of.Mix)
    ∷ [])
help_of_all_or_of_one = refl

help_of_no_command : AskNothing (
    (codes "help" ∷ codes "raed" ∷ [])
    ∷ (codes "help" ∷ codes "-h" ∷ [])
    ∷ (codes "help" ∷ codes "read" ∷ codes "list" ∷ [])
    ∷ (codes "-help" ∷ [])
    ∷ [])
help_of_no_command = refl
