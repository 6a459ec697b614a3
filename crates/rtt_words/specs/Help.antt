-- What `help` tells (profile): the words of all commands, or of one its words, what it does, and the statuses with which it can end. Each
-- line ends with LF.
use Rattle.std.specs.Prelude.{ℕ, ◌==◌, if◌then◌else◌, Option, None, Some, List, [], ◌∷◌, ◌++◌, codes, bytes_eq}
use Rattle.std.specs.List.{flat_map}
use Rattle.rtt_words.specs.declared.topics.Topic.{Topic}
use Rattle.rtt_words.specs.declared.topics.Topic.TheVariants as of

-- the commands, in the order in which they are told
abbrev pub commands : List Topic
commands = of.Read ∷ of.List ∷ of.Send ∷ of.Mix ∷ of.Attend ∷ of.Cascade ∷ of.Make ∷ of.Live ∷ of.Watch ∷ of.Relay ∷ of.Channel ∷ of.Show ∷ of.Times ∷ of.Script ∷ of.Check ∷ of.Help ∷ of.Version ∷ []

-- the command of this name, or all of them
abbrev pub topic : List ℕ → Option Topic
topic name =
    if bytes_eq name (codes "read") then Some of.Read
    else (if bytes_eq name (codes "list") then Some of.List
    else (if bytes_eq name (codes "send") then Some of.Send
    else (if bytes_eq name (codes "mix") then Some of.Mix
    else (if bytes_eq name (codes "attend") then Some of.Attend
    else (if bytes_eq name (codes "cascade") then Some of.Cascade
    else (if bytes_eq name (codes "make") then Some of.Make
    else (if bytes_eq name (codes "live") then Some of.Live
    else (if bytes_eq name (codes "watch") then Some of.Watch
    else (if bytes_eq name (codes "relay") then Some of.Relay
    else (if bytes_eq name (codes "channel") then Some of.Channel
    else (if bytes_eq name (codes "show") then Some of.Show
    else (if bytes_eq name (codes "times") then Some of.Times
    else (if bytes_eq name (codes "script") then Some of.Script
    else (if bytes_eq name (codes "check") then Some of.Check
    else (if bytes_eq name (codes "help") then Some of.Help
    else (if bytes_eq name (codes "version") then Some of.Version else None))))))))))))))))

-- its words
abbrev pub row : Topic → List ℕ
row of.Usage = []
row of.Read = codes "read FILE SSRC [SOURCE [T140 RED]]"
row of.List = codes "list FILE [T140 RED]"
row of.Send = codes "send SCRIPT OUT SSRC SEQ STAMP"
row of.Mix = codes "mix CONF"
row of.Attend = codes "attend CONF"
row of.Cascade = codes "cascade FILE SSRC CONF"
row of.Make = codes "make N"
row of.Live = codes "live CONF"
row of.Watch = codes "watch CONF"
row of.Relay = codes "relay FRAMES OUT SSRC SEQ STAMP"
row of.Channel = codes "channel FILE SSRC OUT"
row of.Show = codes "show FILE [T140 RED]"
row of.Times = codes "times FILE [T140 RED]"
row of.Script = codes "script FILE SSRC [SOURCE [T140 RED]]"
row of.Check = codes "check FILE"
row of.Help = codes "help [COMMAND]"
row of.Version = codes "version"

-- a command behind the first one
abbrev pub row_below : Topic → List ℕ
row_below t = codes "       rtt_program " ++ (row t ++ codes "\n")

abbrev pub first_row : Topic → List ℕ
first_row t = codes "usage: rtt_program " ++ (row t ++ codes "\n")

abbrev pub usage_of : List Topic → List ℕ
usage_of [] = []
usage_of (t ∷ more) = first_row t ++ flat_map row_below more

-- the words of all commands; also for words outside the word table
abbrev pub usage : List ℕ
usage = usage_of commands

-- ---- what the words are
abbrev pub file_word : List ℕ
file_word = codes "FILE: a recording, in the form of rtpdump\n"

abbrev pub ssrc_word : List ℕ
ssrc_word = codes "SSRC: that of its packets, a number up to 4294967295; list FILE shows it\n"

abbrev pub source_word : List ℕ
source_word = codes "SOURCE: whose text in them, a number up to 4294967295; left out, SSRC\n"

abbrev pub types_words : List ℕ
types_words = codes "T140 RED: the payload types of text/t140 and text/red, two different numbers from 96 to 127; left out, 98 100\n"

abbrev pub sending_words : List ℕ
sending_words = codes "SSRC SEQ STAMP: of its packets, numbers up to 4294967295, 65535 and 4294967295; SEQ is that of the first packet, STAMP the timestamp of the moment 0\n"

abbrev pub out_word : List ℕ
out_word = codes "OUT: the recording that is made\n"

abbrev pub conference_word : List ℕ
conference_word = codes "CONF: a conference of recordings\n"

abbrev pub links_word : List ℕ
links_word = codes "CONF: a conference of links\n"

-- what it does, and what its words are
abbrev pub does : Topic → List ℕ
does of.Usage = []
does of.Read = codes "prints the text of a source of a recording as a terminal shows it, and counts the packets\n" ++ (file_word ++ (ssrc_word ++ (source_word ++ types_words)))
does of.List = codes "prints a line for each record of a recording: when it came, its numbers, whose text it is, or why it is refused\n" ++ (file_word ++ types_words)
does of.Send = codes "makes the recording of what a sender sends of a script\n" ++ (codes "SCRIPT: lines of a number of milliseconds, one space, and the text that is typed then\n" ++ (out_word ++ sending_words))
does of.Mix = codes "mixes a conference of recordings, makes the OUT of each leg, and prints what each terminal shows\n" ++ conference_word
does of.Attend = codes "mixes as mix does, with the names and the leavings that RTCP in the recordings tells\n" ++ conference_word
does of.Cascade = codes "mixes as mix does, where the legs whose IN is trunk have their texts in what another mixer sent\n" ++ (codes "FILE: the recording of what that sent\n" ++ (codes "SSRC: of the packets in it, a number up to 4294967295\n" ++ conference_word))
does of.Make = codes "makes a conference from a number, mixes it in memory, and prints a line of it\n" ++ (codes "N: a number from 1 to 1000\n")
does of.Live = codes "mixes a conference over UDP while people type, and prints at its end what each terminal shows\n" ++ links_word
does of.Watch = codes "does what live does while a reader follows the texts, and prints how much of each was taken\n" ++ links_word
does of.Relay = codes "makes the recording of what a sender sends of frames of text\n" ++ (codes "FRAMES: frames, each a time in 32 bits, a length in 16 bits, and so many octets of text\n" ++ (out_word ++ sending_words))
does of.Channel = codes "writes the text of a recording as frames\n" ++ (file_word ++ (ssrc_word ++ (codes "OUT: the file of frames that is made\n")))
does of.Show = codes "prints all that was typed in each stream of a recording, and what else is in it; of one that is broken, the front\n" ++ (file_word ++ types_words)
does of.Times = codes "prints what came in a recording in the order of its moments, by the clock: each text, and which numbers were lost or late\n" ++ (file_word ++ types_words)
does of.Script = codes "prints the text of a source of a recording as a script, which send takes\n" ++ (file_word ++ (ssrc_word ++ (source_word ++ types_words)))
does of.Check = codes "prints what a file is, whether the program takes it, and if not where, why, and what to do\n" ++ (codes "FILE: a recording, a script, a conference or frames\n")
does of.Help = codes "prints the words of all commands, or of one its words, what it does, and the statuses with which it ends\n" ++ (codes "COMMAND: the first word of a command\n")
does of.Version = codes "prints the name of the program and its version\n"

-- ---- the statuses with which it can end
abbrev pub statuses : Topic → List ℕ
statuses of.Usage = []
statuses of.Read = 0 ∷ 3 ∷ 4 ∷ 6 ∷ 7 ∷ 70 ∷ []
statuses of.List = 0 ∷ 3 ∷ 4 ∷ 6 ∷ 7 ∷ 70 ∷ []
statuses of.Send = 0 ∷ 3 ∷ 4 ∷ 5 ∷ 7 ∷ 70 ∷ []
statuses of.Mix = 0 ∷ 3 ∷ 4 ∷ 5 ∷ 6 ∷ 7 ∷ 9 ∷ 70 ∷ []
statuses of.Attend = 0 ∷ 3 ∷ 4 ∷ 5 ∷ 6 ∷ 7 ∷ 9 ∷ 70 ∷ []
statuses of.Cascade = 0 ∷ 3 ∷ 4 ∷ 5 ∷ 6 ∷ 7 ∷ 9 ∷ 70 ∷ []
statuses of.Make = 0 ∷ 7 ∷ 9 ∷ 70 ∷ []
statuses of.Live = 0 ∷ 3 ∷ 4 ∷ 5 ∷ 7 ∷ 8 ∷ 70 ∷ []
statuses of.Watch = 0 ∷ 3 ∷ 4 ∷ 5 ∷ 7 ∷ 8 ∷ 70 ∷ []
statuses of.Relay = 0 ∷ 3 ∷ 4 ∷ 6 ∷ 7 ∷ 70 ∷ []
statuses of.Channel = 0 ∷ 3 ∷ 4 ∷ 6 ∷ 7 ∷ 70 ∷ []
statuses of.Show = 0 ∷ 3 ∷ 4 ∷ 6 ∷ 7 ∷ 70 ∷ []
statuses of.Times = 0 ∷ 3 ∷ 4 ∷ 6 ∷ 7 ∷ 70 ∷ []
statuses of.Script = 0 ∷ 3 ∷ 4 ∷ 6 ∷ 7 ∷ 70 ∷ []
statuses of.Check = 0 ∷ 1 ∷ 3 ∷ 4 ∷ 7 ∷ 70 ∷ []
statuses of.Help = 0 ∷ 7 ∷ 70 ∷ []
statuses of.Version = 0 ∷ 7 ∷ 70 ∷ []

abbrev pub status_line : ℕ → List ℕ
status_line status =
    if status == 0 then codes "status 0: all is done\n"
    else (if status == 1 then codes "status 1: something is wrong with FILE\n"
    else (if status == 3 then codes "status 3: a file cannot be opened\n"
    else (if status == 4 then codes "status 4: a file cannot be read to its end\n"
    else (if status == 5 then codes "status 5: the script or the conference is refused\n"
    else (if status == 6 then codes "status 6: a recording, or frames, are refused\n"
    else (if status == 7 then codes "status 7: the output, or OUT, cannot be written\n"
    else (if status == 8 then codes "status 8: a link cannot be opened\n"
    else (if status == 9 then codes "status 9: the conference takes too many turns\n" else codes "status 70: out of memory\n"))))))))

abbrev pub help_text : Topic → List ℕ
help_text of.Usage = usage
help_text t = first_row t ++ (does t ++ flat_map status_line (statuses t))
