-- What an outbound end in memory keeps of what it was given.
use Rattle.std.specs.Prelude.{ℕ, List, map}
use Rattle.link_io.specs.declared.mem_outs.GivenPacket.{GivenPacket}

abbrev pub give_told : GivenPacket → ℕ × List ℕ
give_told g = (g.pauses, g.packet)

abbrev pub gives_told : List GivenPacket → List (ℕ × List ℕ)
gives_told given = map give_told given
