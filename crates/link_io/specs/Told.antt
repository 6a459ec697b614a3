-- What an inbound end in memory keeps of its takes.
use Rattle.std.specs.Prelude.{List, map, reverse}
use Rattle.stream_spec.specs.Links.{Taken, Takes}
use Rattle.link_io.specs.declared.mem_ins.TakeLog.{TakeLog}
use Rattle.link_io.specs.Taking.{taken_of}

abbrev pub take_told : TakeLog → Taken
take_told t = taken_of t.taken t.octets

-- newest first
abbrev pub takes_told : List TakeLog → Takes
takes_told told = map take_told (reverse told)
