-- What the words of the code mean.
use Rattle.rtt_words.specs.Words as words
use Rattle.rtt_words.specs.declared.commands.ReadWords.{ReadWords}
use Rattle.rtt_words.specs.declared.commands.ListWords.{ListWords}
use Rattle.rtt_words.specs.declared.commands.SendWords.{SendWords}
use Rattle.rtt_words.specs.declared.commands.MixWords.{MixWords}
use Rattle.rtt_words.specs.declared.commands.MakeWords.{MakeWords}
use Rattle.rtt_words.specs.declared.commands.ChannelWords.{ChannelWords}
use Rattle.rtt_words.specs.declared.commands.CascadeWords.{CascadeWords}
use Rattle.rtt_words.specs.declared.commands.CheckWords.{CheckWords}
use Rattle.rtt_words.specs.declared.commands.Command.{Command}
use Rattle.rtt_words.specs.declared.commands.Command.TheVariants.{Read, ListRecords, Send, Mix, Attend, Cascade, Make, Live, Watch, Relay, Channel, Show, Times, Script, Check, Help, Version}

abbrev pub asked : ReadWords → words.ReadWords
asked r = record { file = r.file.now; ssrc = r.ssrc; source = r.source; payload_types = r.payload_types }

abbrev pub listed : ListWords → words.ListWords
listed l = record { file = l.file.now; payload_types = l.payload_types }

abbrev pub sent : SendWords → words.SendWords
sent s = record { file = s.file.now; out = s.out.now; ssrc = s.ssrc; seq = s.seq; timestamp = s.timestamp }

abbrev pub mixed : MixWords → words.MixWords
mixed m = record { conference = m.conference.now }

abbrev pub made : MakeWords → words.MakeWords
made m = record { number = m.number }

abbrev pub channelled : ChannelWords → words.ChannelWords
channelled c = record { file = c.file.now; ssrc = c.ssrc; out = c.out.now }

abbrev pub cascaded : CascadeWords → words.CascadeWords
cascaded c = record { file = c.file.now; ssrc = c.ssrc; conference = c.conference.now }

abbrev pub checked : CheckWords → words.CheckWords
checked c = record { file = c.file.now }

abbrev pub meaning : Command → words.Command
meaning (Read r) = words.Read (asked r)
meaning (ListRecords l) = words.ListRecords (listed l)
meaning (Send s) = words.Send (sent s)
meaning (Mix m) = words.Mix (mixed m)
meaning (Attend m) = words.Attend (mixed m)
meaning (Cascade c) = words.Cascade (cascaded c)
meaning (Make m) = words.Make (made m)
meaning (Live m) = words.Live (mixed m)
meaning (Watch m) = words.Watch (mixed m)
meaning (Relay s) = words.Relay (sent s)
meaning (Channel c) = words.Channel (channelled c)
meaning (Show l) = words.Show (listed l)
meaning (Times l) = words.Times (listed l)
meaning (Script r) = words.Script (asked r)
meaning (Check c) = words.Check (checked c)
meaning (Help t) = words.Help t
meaning Version = words.Version
