-- What is wrong with a file, and what to do, in one sentence for each kind of fault and each word (profile).
use Rattle.std.specs.Prelude.{ℕ, List, [], codes}
use Rattle.wire_spec.specs.declared.faults.DumpKind.{DumpKind}
use Rattle.wire_spec.specs.declared.faults.DumpKind.TheVariants as dump
use Rattle.file_spec.specs.declared.kinds.ConfKind.{ConfKind}
use Rattle.file_spec.specs.declared.kinds.ConfKind.TheVariants as kind
use Rattle.file_spec.specs.declared.conference_lines.Form.{Form}
use Rattle.file_spec.specs.declared.conference_lines.Form.TheVariants as of
use Rattle.file_spec.specs.declared.frame_kinds.FrameKind.{FrameKind}
use Rattle.file_spec.specs.declared.frame_kinds.FrameKind.TheVariants as frame
use Rattle.report_spec.specs.declared.forms.FileForm.{FileForm}
use Rattle.report_spec.specs.declared.forms.FileForm.TheVariants as form
use Rattle.report_spec.specs.declared.forms.LineWord.{LineWord}
use Rattle.report_spec.specs.declared.forms.LineWord.TheVariants as word
use Rattle.report_spec.specs.declared.ports.PortFault.{PortFault}
use Rattle.report_spec.specs.declared.ports.PortFault.TheVariants as port

-- what a file is
abbrev pub form_name : FileForm → List ℕ
form_name form.Gzip = codes "gzip"
form_name form.Pcap = codes "pcap"
form_name form.PcapNg = codes "pcapng"
form_name form.TooLarge = codes "more than 4194304 octets"
form_name form.Empty = codes "empty"
form_name form.Utf16 = codes "text in UTF-16"
form_name form.Nothing = codes "nothing of these"
form_name form.Recording = codes "recording"
form_name form.Frames = codes "frames"
form_name form.Script = codes "script"
form_name form.Recordings = codes "conference of recordings"
form_name form.Links = codes "conference of links"

-- what a conference of recordings is that is right for `cascade`
abbrev pub cascade_name : List ℕ
cascade_name = codes "conference of recordings, for cascade"

-- what is wrong with a file of which nothing is taken
abbrev pub form_sentence : FileForm → List ℕ
form_sentence form.Gzip = codes "the file is compressed: unpack it first"
form_sentence form.Pcap = codes "the program reads no captures: examples/from-pcap makes recordings of one, and Wireshark exports a stream as rtpdump"
form_sentence form.PcapNg = codes "the program reads no captures: examples/from-pcap makes recordings of one, and Wireshark exports a stream as rtpdump"
form_sentence form.TooLarge = codes "no file of so many octets is taken: export a call in parts; of a recording show prints the front"
form_sentence form.Empty = codes "nothing is in the file: as a script and as frames it is taken, and says nothing"
form_sentence form.Utf16 = codes "save the file as UTF-8 without a byte order mark"
form_sentence form.Nothing = codes "a recording begins with #!rtpplay1.0, a line of a script with a number, and a conference has lines that begin with mixer and leg"
form_sentence form.Recording = []
form_sentence form.Frames = []
form_sentence form.Script = []
form_sentence form.Recordings = []
form_sentence form.Links = []

-- what is wrong with a recording
abbrev pub dump_sentence : DumpKind → List ℕ
dump_sentence dump.NotDump = codes "there is no line feed among the first 128 octets: export the recording as rtpdump anew"
dump_sentence dump.BadLength = codes "the length of a record is below 8, so the file is damaged from this byte on: keep what stands before it, which show prints"
dump_sentence dump.EndsInside = codes "the file ends inside the head or the record that begins at this byte: it was broken off; keep what stands before it, which show prints"
dump_sentence dump.TooLong = codes "the time of a record is above 14400000 milliseconds: export the call in parts, each with times from 0"
dump_sentence dump.TooLarge = codes "the recording has more than 4194304 octets: export the call in parts, or keep what stands before this byte"
dump_sentence dump.Read = codes "the file cannot be read further"

-- what is wrong with frames
abbrev pub frame_sentence : FrameKind → List ℕ
frame_sentence frame.Time = codes "the time of a frame is not before that of the frame in front, and below 16777216: count milliseconds from the first frame, and sort the frames"
frame_sentence frame.Length = codes "the text of a frame has 1 to 1023 octets: leave empty texts out, and part long ones"
frame_sentence frame.TooLarge = codes "frames have at most 1048576 octets: part the file"
frame_sentence frame.NotText = codes "the text of a frame is not UTF-8: cut texts between characters"
frame_sentence frame.EndsInside = codes "the file ends inside the frame that begins at this byte: it was broken off; keep what stands before it"
frame_sentence frame.Full = codes "more than 16384 octets wait to be sent by then: type later, a packet takes 1023 octets each 300 milliseconds"
frame_sentence frame.ManyFrames = codes "the frames would have more than 1048576 octets: write shorter parts of the recording"

-- what is wrong with a line of a script
abbrev pub script_sentence : ConfKind → List ℕ
script_sentence kind.NotText = codes "the line is not UTF-8: save the file as UTF-8"
script_sentence kind.Word = []
script_sentence kind.Count = codes "no space stands in the line: put one, and no tab, behind the number, also where nothing is typed"
script_sentence kind.Name = []
script_sentence kind.Number = codes "before the first space stands a whole number of milliseconds up to 14400000, in decimal digits, and the line begins with it"
script_sentence kind.Many = []
script_sentence kind.PlanMany = []
script_sentence kind.Twice = []
script_sentence kind.Clash = []
script_sentence kind.Few = []
script_sentence kind.Crowd = []
script_sentence kind.Large = codes "a script has at most 1048576 octets: part it"
script_sentence kind.Order = codes "a line above is later: sort the lines by their numbers"
script_sentence kind.Escape = codes "a backslash stands before n, b, a or another backslash: write two for one"
script_sentence kind.Long = codes "a line types at most 1023 octets: make two lines of it"
script_sentence kind.Full = codes "more than 16384 octets wait to be sent by then: type later, a packet takes 1023 octets each 300 milliseconds"

-- the first word, or how a leg's terminal shows text, is none of those that there are
abbrev pub word_sentence : Form → LineWord → List ℕ
word_sentence of.Files word.Leg = codes "behind the name of a leg stands aware or unaware, in small letters"
word_sentence of.Files word.Mixer = codes "a line begins with mixer, leg, gens, stay, tick, spacing, wait, turns, relabel, mtu, counts, long, lose, delay or twice, in small letters, or with # as its first octet: correct the word, and part words by spaces, not by tabs"
word_sentence of.Files word.Generations = codes "a line begins with mixer, leg, gens, stay, tick, spacing, wait, turns, relabel, mtu, counts, long, lose, delay or twice, in small letters, or with # as its first octet: correct the word, and part words by spaces, not by tabs"
word_sentence of.Files word.Stay = codes "a line begins with mixer, leg, gens, stay, tick, spacing, wait, turns, relabel, mtu, counts, long, lose, delay or twice, in small letters, or with # as its first octet: correct the word, and part words by spaces, not by tabs"
word_sentence of.Files word.Tick = codes "a line begins with mixer, leg, gens, stay, tick, spacing, wait, turns, relabel, mtu, counts, long, lose, delay or twice, in small letters, or with # as its first octet: correct the word, and part words by spaces, not by tabs"
word_sentence of.Files word.Spacing = codes "a line begins with mixer, leg, gens, stay, tick, spacing, wait, turns, relabel, mtu, counts, long, lose, delay or twice, in small letters, or with # as its first octet: correct the word, and part words by spaces, not by tabs"
word_sentence of.Files word.Wait = codes "a line begins with mixer, leg, gens, stay, tick, spacing, wait, turns, relabel, mtu, counts, long, lose, delay or twice, in small letters, or with # as its first octet: correct the word, and part words by spaces, not by tabs"
word_sentence of.Files word.Turns = codes "a line begins with mixer, leg, gens, stay, tick, spacing, wait, turns, relabel, mtu, counts, long, lose, delay or twice, in small letters, or with # as its first octet: correct the word, and part words by spaces, not by tabs"
word_sentence of.Files word.Relabel = codes "a line begins with mixer, leg, gens, stay, tick, spacing, wait, turns, relabel, mtu, counts, long, lose, delay or twice, in small letters, or with # as its first octet: correct the word, and part words by spaces, not by tabs"
word_sentence of.Files word.Mtu = codes "a line begins with mixer, leg, gens, stay, tick, spacing, wait, turns, relabel, mtu, counts, long, lose, delay or twice, in small letters, or with # as its first octet: correct the word, and part words by spaces, not by tabs"
word_sentence of.Files word.Gone = codes "a conference of recordings has no lines gone, operator, record and follow: leave the line out"
word_sentence of.Files word.Operator = codes "a conference of recordings has no lines gone, operator, record and follow: leave the line out"
word_sentence of.Files word.Record = codes "a conference of recordings has no lines gone, operator, record and follow: leave the line out"
word_sentence of.Files word.Follow = codes "a conference of recordings has no lines gone, operator, record and follow: leave the line out"
word_sentence of.Files word.Counts = codes "a line begins with mixer, leg, gens, stay, tick, spacing, wait, turns, relabel, mtu, counts, long, lose, delay or twice, in small letters, or with # as its first octet: correct the word, and part words by spaces, not by tabs"
word_sentence of.Files word.Long = codes "a line begins with mixer, leg, gens, stay, tick, spacing, wait, turns, relabel, mtu, counts, long, lose, delay or twice, in small letters, or with # as its first octet: correct the word, and part words by spaces, not by tabs"
word_sentence of.Files word.Lose = codes "a line begins with mixer, leg, gens, stay, tick, spacing, wait, turns, relabel, mtu, counts, long, lose, delay or twice, in small letters, or with # as its first octet: correct the word, and part words by spaces, not by tabs"
word_sentence of.Files word.Delay = codes "a line begins with mixer, leg, gens, stay, tick, spacing, wait, turns, relabel, mtu, counts, long, lose, delay or twice, in small letters, or with # as its first octet: correct the word, and part words by spaces, not by tabs"
word_sentence of.Files word.Twice = codes "a line begins with mixer, leg, gens, stay, tick, spacing, wait, turns, relabel, mtu, counts, long, lose, delay or twice, in small letters, or with # as its first octet: correct the word, and part words by spaces, not by tabs"
word_sentence of.Files word.Other = codes "a line begins with mixer, leg, gens, stay, tick, spacing, wait, turns, relabel, mtu, counts, long, lose, delay or twice, in small letters, or with # as its first octet: correct the word, and part words by spaces, not by tabs"
word_sentence of.Links word.Leg = codes "behind the name of a leg stands aware or unaware, in small letters"
word_sentence of.Links word.Mixer = codes "a line begins with mixer, leg, gens, tick, spacing, wait, turns, relabel, mtu, counts, long, gone, operator, record or follow, in small letters, or with # as its first octet: correct the word, and part words by spaces, not by tabs"
word_sentence of.Links word.Generations = codes "a line begins with mixer, leg, gens, tick, spacing, wait, turns, relabel, mtu, counts, long, gone, operator, record or follow, in small letters, or with # as its first octet: correct the word, and part words by spaces, not by tabs"
word_sentence of.Links word.Stay = codes "a conference of links has no lines stay, lose, delay and twice: leave the line out"
word_sentence of.Links word.Tick = codes "a line begins with mixer, leg, gens, tick, spacing, wait, turns, relabel, mtu, counts, long, gone, operator, record or follow, in small letters, or with # as its first octet: correct the word, and part words by spaces, not by tabs"
word_sentence of.Links word.Spacing = codes "a line begins with mixer, leg, gens, tick, spacing, wait, turns, relabel, mtu, counts, long, gone, operator, record or follow, in small letters, or with # as its first octet: correct the word, and part words by spaces, not by tabs"
word_sentence of.Links word.Wait = codes "a line begins with mixer, leg, gens, tick, spacing, wait, turns, relabel, mtu, counts, long, gone, operator, record or follow, in small letters, or with # as its first octet: correct the word, and part words by spaces, not by tabs"
word_sentence of.Links word.Turns = codes "a line begins with mixer, leg, gens, tick, spacing, wait, turns, relabel, mtu, counts, long, gone, operator, record or follow, in small letters, or with # as its first octet: correct the word, and part words by spaces, not by tabs"
word_sentence of.Links word.Relabel = codes "a line begins with mixer, leg, gens, tick, spacing, wait, turns, relabel, mtu, counts, long, gone, operator, record or follow, in small letters, or with # as its first octet: correct the word, and part words by spaces, not by tabs"
word_sentence of.Links word.Mtu = codes "a line begins with mixer, leg, gens, tick, spacing, wait, turns, relabel, mtu, counts, long, gone, operator, record or follow, in small letters, or with # as its first octet: correct the word, and part words by spaces, not by tabs"
word_sentence of.Links word.Gone = codes "a line begins with mixer, leg, gens, tick, spacing, wait, turns, relabel, mtu, counts, long, gone, operator, record or follow, in small letters, or with # as its first octet: correct the word, and part words by spaces, not by tabs"
word_sentence of.Links word.Operator = codes "a line begins with mixer, leg, gens, tick, spacing, wait, turns, relabel, mtu, counts, long, gone, operator, record or follow, in small letters, or with # as its first octet: correct the word, and part words by spaces, not by tabs"
word_sentence of.Links word.Record = codes "a line begins with mixer, leg, gens, tick, spacing, wait, turns, relabel, mtu, counts, long, gone, operator, record or follow, in small letters, or with # as its first octet: correct the word, and part words by spaces, not by tabs"
word_sentence of.Links word.Follow = codes "a line begins with mixer, leg, gens, tick, spacing, wait, turns, relabel, mtu, counts, long, gone, operator, record or follow, in small letters, or with # as its first octet: correct the word, and part words by spaces, not by tabs"
word_sentence of.Links word.Counts = codes "a line begins with mixer, leg, gens, tick, spacing, wait, turns, relabel, mtu, counts, long, gone, operator, record or follow, in small letters, or with # as its first octet: correct the word, and part words by spaces, not by tabs"
word_sentence of.Links word.Long = codes "a line begins with mixer, leg, gens, tick, spacing, wait, turns, relabel, mtu, counts, long, gone, operator, record or follow, in small letters, or with # as its first octet: correct the word, and part words by spaces, not by tabs"
word_sentence of.Links word.Lose = codes "a conference of links has no lines stay, lose, delay and twice: leave the line out"
word_sentence of.Links word.Delay = codes "a conference of links has no lines stay, lose, delay and twice: leave the line out"
word_sentence of.Links word.Twice = codes "a conference of links has no lines stay, lose, delay and twice: leave the line out"
word_sentence of.Links word.Other = codes "a line begins with mixer, leg, gens, tick, spacing, wait, turns, relabel, mtu, counts, long, gone, operator, record or follow, in small letters, or with # as its first octet: correct the word, and part words by spaces, not by tabs"

-- the words are too few or too many
abbrev pub count_sentence : LineWord → List ℕ
count_sentence word.Leg = codes "a leg has the words NAME MODE SSRC IN OUT, and two payload types behind them or none: no name has a space, and a comment needs a line of its own"
count_sentence word.Mixer = codes "a mixer has the words SSRC SEQ STAMP, and no other: a comment needs a line of its own"
count_sentence word.Generations = codes "gens has the words NAME N, and no other"
count_sentence word.Stay = codes "stay has the words NAME FROM UNTIL, and no other"
count_sentence word.Tick = codes "one number stands behind the word, and nothing else: a comment needs a line of its own"
count_sentence word.Spacing = codes "one number stands behind the word, and nothing else: a comment needs a line of its own"
count_sentence word.Wait = codes "one number stands behind the word, and nothing else: a comment needs a line of its own"
count_sentence word.Turns = codes "one number stands behind the word, and nothing else: a comment needs a line of its own"
count_sentence word.Relabel = codes "one number stands behind the word, and nothing else: a comment needs a line of its own"
count_sentence word.Mtu = codes "one number stands behind the word, and nothing else: a comment needs a line of its own"
count_sentence word.Gone = codes "one number stands behind the word, and nothing else: a comment needs a line of its own"
count_sentence word.Operator = codes "operator has the words PORT WORD, and no other"
count_sentence word.Record = codes "record has the word PREFIX, and no other: no name has a space"
count_sentence word.Follow = codes "follow has the word NAME, and no other"
count_sentence word.Counts = codes "counts stands alone in its line: a comment needs a line of its own"
count_sentence word.Long = codes "long has the word NAME, and no other"
count_sentence word.Lose = codes "lose has the words NAME K, and no other"
count_sentence word.Delay = codes "delay has the words NAME K MS, and no other"
count_sentence word.Twice = codes "twice has the words NAME K, and no other"
count_sentence word.Other = codes "one number stands behind the word, and nothing else: a comment needs a line of its own"

-- a name is none, or nobody's
abbrev pub name_sentence : LineWord → List ℕ
name_sentence word.Leg = codes "the name of a leg has 1 to 32 letters A to Z and a to z, digits, ., _ and -, and those of files have 1 to 255 octets"
name_sentence word.Mixer = codes "no leg above has this name: correct it, or move the line below that of the leg"
name_sentence word.Generations = codes "no leg above has this name: correct it, or move the line below that of the leg"
name_sentence word.Stay = codes "no leg above has this name: correct it, or move the line below that of the leg"
name_sentence word.Tick = codes "no leg above has this name: correct it, or move the line below that of the leg"
name_sentence word.Spacing = codes "no leg above has this name: correct it, or move the line below that of the leg"
name_sentence word.Wait = codes "no leg above has this name: correct it, or move the line below that of the leg"
name_sentence word.Turns = codes "no leg above has this name: correct it, or move the line below that of the leg"
name_sentence word.Relabel = codes "no leg above has this name: correct it, or move the line below that of the leg"
name_sentence word.Mtu = codes "no leg above has this name: correct it, or move the line below that of the leg"
name_sentence word.Gone = codes "no leg above has this name: correct it, or move the line below that of the leg"
name_sentence word.Operator = codes "WORD has 8 to 64 letters A to Z and a to z and digits"
name_sentence word.Record = codes "PREFIX has 1 to 255 octets"
name_sentence word.Follow = codes "no leg above has this name: correct it, or move the line below that of the leg"
name_sentence word.Counts = codes "no leg above has this name: correct it, or move the line below that of the leg"
name_sentence word.Long = codes "no leg above has this name: correct it, or move the line below that of the leg"
name_sentence word.Lose = codes "no leg above has this name: correct it, or move the line below that of the leg"
name_sentence word.Delay = codes "no leg above has this name: correct it, or move the line below that of the leg"
name_sentence word.Twice = codes "no leg above has this name: correct it, or move the line below that of the leg"
name_sentence word.Other = codes "no leg above has this name: correct it, or move the line below that of the leg"

-- a number is none, or out of its range
abbrev pub number_sentence : Form → LineWord → List ℕ
number_sentence of.Files word.Leg = codes "SSRC is a number up to 4294967295, in decimal digits, and T140 and RED are numbers from 96 to 127"
number_sentence of.Files word.Mixer = codes "SSRC and STAMP are numbers up to 4294967295, and SEQ is one up to 65535, in decimal digits"
number_sentence of.Files word.Generations = codes "gens is a number from 0 to 3"
number_sentence of.Files word.Stay = codes "FROM and UNTIL are numbers of milliseconds up to 14400000, and UNTIL is the greater one"
number_sentence of.Files word.Tick = codes "tick is a number of milliseconds from 20 to 200"
number_sentence of.Files word.Spacing = codes "spacing is a number of milliseconds from 100 to 500"
number_sentence of.Files word.Wait = codes "wait is a number of milliseconds from 0 to 10000"
number_sentence of.Files word.Turns = codes "turns is a number from 1 to 5000000"
number_sentence of.Files word.Relabel = codes "relabel is a number of milliseconds from 2000 to 60000"
number_sentence of.Files word.Mtu = codes "mtu is a number of octets from 548 to 4224"
number_sentence of.Files word.Gone = codes "gone is a number of milliseconds from 10000 to 86400000"
number_sentence of.Files word.Operator = codes "PORT is a number from 1 to 65535"
number_sentence of.Files word.Record = codes "the number of a packet is one from 0 to 4294967295"
number_sentence of.Files word.Follow = codes "the number of a packet is one from 0 to 4294967295"
number_sentence of.Files word.Counts = codes "the number of a packet is one from 0 to 4294967295"
number_sentence of.Files word.Long = codes "the number of a packet is one from 0 to 4294967295"
number_sentence of.Files word.Lose = codes "the number of a packet is one from 0 to 4294967295"
number_sentence of.Files word.Delay = codes "the number of a packet is one from 0 to 4294967295, and MS one of milliseconds up to 60000"
number_sentence of.Files word.Twice = codes "the number of a packet is one from 0 to 4294967295"
number_sentence of.Files word.Other = codes "the number of a packet is one from 0 to 4294967295"
number_sentence of.Links word.Leg = codes "SSRC is a number up to 4294967295, in decimal digits, IN is a port from 1 to 65535, and T140 and RED are numbers from 96 to 127"
number_sentence of.Links word.Mixer = codes "SSRC and STAMP are numbers up to 4294967295, and SEQ is one up to 65535, in decimal digits"
number_sentence of.Links word.Generations = codes "gens is a number from 0 to 3"
number_sentence of.Links word.Stay = codes "FROM and UNTIL are numbers of milliseconds up to 14400000, and UNTIL is the greater one"
number_sentence of.Links word.Tick = codes "tick is a number of milliseconds from 20 to 200"
number_sentence of.Links word.Spacing = codes "spacing is a number of milliseconds from 100 to 500"
number_sentence of.Links word.Wait = codes "wait is a number of milliseconds from 0 to 10000"
number_sentence of.Links word.Turns = codes "turns is a number from 1 to 5000000"
number_sentence of.Links word.Relabel = codes "relabel is a number of milliseconds from 2000 to 60000"
number_sentence of.Links word.Mtu = codes "mtu is a number of octets from 548 to 4224"
number_sentence of.Links word.Gone = codes "gone is a number of milliseconds from 10000 to 86400000"
number_sentence of.Links word.Operator = codes "PORT is a number from 1 to 65535"
number_sentence of.Links word.Record = codes "the number of a packet is one from 0 to 4294967295"
number_sentence of.Links word.Follow = codes "the number of a packet is one from 0 to 4294967295"
number_sentence of.Links word.Counts = codes "the number of a packet is one from 0 to 4294967295"
number_sentence of.Links word.Long = codes "the number of a packet is one from 0 to 4294967295"
number_sentence of.Links word.Lose = codes "the number of a packet is one from 0 to 4294967295"
number_sentence of.Links word.Delay = codes "the number of a packet is one from 0 to 4294967295, and MS one of milliseconds up to 60000"
number_sentence of.Links word.Twice = codes "the number of a packet is one from 0 to 4294967295"
number_sentence of.Links word.Other = codes "the number of a packet is one from 0 to 4294967295"

-- a line above says the same
abbrev pub twice_sentence : LineWord → List ℕ
twice_sentence word.Leg = codes "a leg above has this name: give each its own"
twice_sentence word.Mixer = codes "a line above says it: leave one of them out"
twice_sentence word.Generations = codes "a line above says it of this leg: leave one of them out"
twice_sentence word.Stay = codes "a line above says it of this leg: leave one of them out"
twice_sentence word.Tick = codes "a line above says it: leave one of them out"
twice_sentence word.Spacing = codes "a line above says it: leave one of them out"
twice_sentence word.Wait = codes "a line above says it: leave one of them out"
twice_sentence word.Turns = codes "a line above says it: leave one of them out"
twice_sentence word.Relabel = codes "a line above says it: leave one of them out"
twice_sentence word.Mtu = codes "a line above says it: leave one of them out"
twice_sentence word.Gone = codes "a line above says it: leave one of them out"
twice_sentence word.Operator = codes "a line above says it: leave one of them out"
twice_sentence word.Record = codes "a line above says it: leave one of them out"
twice_sentence word.Follow = codes "a line above says it of this leg: leave one of them out"
twice_sentence word.Counts = codes "a line above says it: leave one of them out"
twice_sentence word.Long = codes "a line above says it of this leg: leave one of them out"
twice_sentence word.Lose = codes "a line above says it of this packet: leave one of them out"
twice_sentence word.Delay = codes "a line above says it of this packet: leave one of them out"
twice_sentence word.Twice = codes "a line above says it of this packet: leave one of them out"
twice_sentence word.Other = codes "a line above says it: leave one of them out"

-- what is to differ is the same
abbrev pub clash_sentence : Form → LineWord → List ℕ
clash_sentence of.Files word.Leg = codes "the SSRC is that of a leg or the mixer above, the OUT is that of a leg above, an OUT is an IN, or the two payload types are the same: give each its own"
clash_sentence of.Files word.Mixer = codes "a leg above has this SSRC: give the mixer its own"
clash_sentence of.Files word.Generations = codes "a leg above has this SSRC: give the mixer its own"
clash_sentence of.Files word.Stay = codes "a leg above has this SSRC: give the mixer its own"
clash_sentence of.Files word.Tick = codes "a leg above has this SSRC: give the mixer its own"
clash_sentence of.Files word.Spacing = codes "a leg above has this SSRC: give the mixer its own"
clash_sentence of.Files word.Wait = codes "a leg above has this SSRC: give the mixer its own"
clash_sentence of.Files word.Turns = codes "a leg above has this SSRC: give the mixer its own"
clash_sentence of.Files word.Relabel = codes "a leg above has this SSRC: give the mixer its own"
clash_sentence of.Files word.Mtu = codes "a leg above has this SSRC: give the mixer its own"
clash_sentence of.Files word.Gone = codes "a leg above has this SSRC: give the mixer its own"
clash_sentence of.Files word.Operator = codes "a leg above has this port: give the operator its own"
clash_sentence of.Files word.Record = codes "a leg above has this SSRC: give the mixer its own"
clash_sentence of.Files word.Follow = codes "a leg above has this SSRC: give the mixer its own"
clash_sentence of.Files word.Counts = codes "a leg above has this SSRC: give the mixer its own"
clash_sentence of.Files word.Long = codes "a leg above has this SSRC: give the mixer its own"
clash_sentence of.Files word.Lose = codes "a leg above has this SSRC: give the mixer its own"
clash_sentence of.Files word.Delay = codes "a leg above has this SSRC: give the mixer its own"
clash_sentence of.Files word.Twice = codes "a leg above has this SSRC: give the mixer its own"
clash_sentence of.Files word.Other = codes "a leg above has this SSRC: give the mixer its own"
clash_sentence of.Links word.Leg = codes "the SSRC is that of a leg or the mixer above, the IN is that of a leg or the operator above, the OUT is that of a leg above, or the two payload types are the same: give each its own"
clash_sentence of.Links word.Mixer = codes "a leg above has this SSRC: give the mixer its own"
clash_sentence of.Links word.Generations = codes "a leg above has this SSRC: give the mixer its own"
clash_sentence of.Links word.Stay = codes "a leg above has this SSRC: give the mixer its own"
clash_sentence of.Links word.Tick = codes "a leg above has this SSRC: give the mixer its own"
clash_sentence of.Links word.Spacing = codes "a leg above has this SSRC: give the mixer its own"
clash_sentence of.Links word.Wait = codes "a leg above has this SSRC: give the mixer its own"
clash_sentence of.Links word.Turns = codes "a leg above has this SSRC: give the mixer its own"
clash_sentence of.Links word.Relabel = codes "a leg above has this SSRC: give the mixer its own"
clash_sentence of.Links word.Mtu = codes "a leg above has this SSRC: give the mixer its own"
clash_sentence of.Links word.Gone = codes "a leg above has this SSRC: give the mixer its own"
clash_sentence of.Links word.Operator = codes "a leg above has this port: give the operator its own"
clash_sentence of.Links word.Record = codes "a leg above has this SSRC: give the mixer its own"
clash_sentence of.Links word.Follow = codes "a leg above has this SSRC: give the mixer its own"
clash_sentence of.Links word.Counts = codes "a leg above has this SSRC: give the mixer its own"
clash_sentence of.Links word.Long = codes "a leg above has this SSRC: give the mixer its own"
clash_sentence of.Links word.Lose = codes "a leg above has this SSRC: give the mixer its own"
clash_sentence of.Links word.Delay = codes "a leg above has this SSRC: give the mixer its own"
clash_sentence of.Links word.Twice = codes "a leg above has this SSRC: give the mixer its own"
clash_sentence of.Links word.Other = codes "a leg above has this SSRC: give the mixer its own"

-- there are too many legs
abbrev pub many_sentence : Form → List ℕ
many_sentence of.Files = codes "a conference of recordings has at most 64 legs"
many_sentence of.Links = codes "a conference of links has at most 16 legs"

-- what is wrong with a line of a conference of this form that begins with this word
abbrev pub conference_sentence : Form → LineWord → ConfKind → List ℕ
conference_sentence f w kind.NotText = codes "the line is not UTF-8: save the file as UTF-8"
conference_sentence f w kind.Word = word_sentence f w
conference_sentence f w kind.Count = count_sentence w
conference_sentence f w kind.Name = name_sentence w
conference_sentence f w kind.Number = number_sentence f w
conference_sentence f w kind.Many = many_sentence f
conference_sentence f w kind.PlanMany = codes "a conference has at most 4096 lines lose, delay and twice"
conference_sentence f w kind.Twice = twice_sentence w
conference_sentence f w kind.Clash = clash_sentence f w
conference_sentence f w kind.Few = codes "the line mixer or a leg is missing: a conference has one mixer, and two legs at least"
conference_sentence f w kind.Crowd = codes "at some moment more than 16 legs stay: give legs stays, so that one goes before another comes"
conference_sentence f w kind.Large = codes "a conference has at most 262144 octets: leave out comments, or lines lose, delay and twice"
conference_sentence f w kind.Order = []
conference_sentence f w kind.Escape = []
conference_sentence f w kind.Long = []
conference_sentence f w kind.Full = []

-- where the file begins with a byte order mark
abbrev pub mark_sentence : List ℕ
mark_sentence = codes "the file begins with a byte order mark: save it as UTF-8 without one"

-- what is wrong with a leg behind another mixer
abbrev pub trunk_sentence : List ℕ
trunk_sentence = codes "the recording of another mixer has the payload types 98 and 100: leave them out of the line, or name another IN than trunk"

-- ---- what is wrong with the IN of a leg

-- a recording of the leg's has a fault
abbrev pub input_dump_sentence : DumpKind → List ℕ
input_dump_sentence dump.NotDump = dump_sentence dump.NotDump
input_dump_sentence dump.BadLength = dump_sentence dump.BadLength
input_dump_sentence dump.EndsInside = dump_sentence dump.EndsInside
input_dump_sentence dump.TooLong = dump_sentence dump.TooLong
input_dump_sentence dump.TooLarge = codes "an IN has at most 4194304 octets, and at most 1048576 where the conference has more than 16 legs: export the call in parts"
input_dump_sentence dump.Read = dump_sentence dump.Read

-- it is none
abbrev pub input_sentence : FileForm → List ℕ
input_sentence form.Gzip = form_sentence form.Gzip
input_sentence form.Pcap = form_sentence form.Pcap
input_sentence form.PcapNg = form_sentence form.PcapNg
input_sentence form.TooLarge = form_sentence form.TooLarge
input_sentence _ = codes "an IN is a recording, which begins with #!rtpplay1.0: send makes one of a script, and relay one of frames"

-- it has other packets than those of the leg, or none
abbrev pub stream_sentence : List ℕ
stream_sentence = codes "no packet of the IN has the SSRC of the leg and one of its payload types: correct the line, or name another IN; list prints what it has"

-- ---- what is wrong with the port of a leg

abbrev pub port_sentence : PortFault → List ℕ
port_sentence port.Taken = codes "another program has the port, or another call: end it, or name another port"
port_sentence port.NoRight = codes "whoever runs the program may not have this port: name one from 1024 on"
port_sentence port.NoAddress = codes "OUT is 127.0.0.1, another address of 127.0.0.0/8, or [::1], with a colon and a port from 1 to 65535 behind it: no name, and no other machine"
port_sentence port.ManyFiles = codes "as many files are open as may be, and each leg takes three: raise the limit (ulimit -n), or end what has them"
port_sentence port.Other = codes "the system does not give the port: try again, or name another port"
