use Rattle.std.proofs.Common.{◌≡◌, ℕ, List, length}
use Rattle.command_spec.specs.Streams.{are_like_text}
use Rattle.rtpdump_io.specs.InMemory.{AreRecords}
use Rattle.rtpdump_io.proofs.Fronts.{Front}
use Rattle.rtt_show.proofs.likes.all_near_text.Given as goal

abbrev pub invariant-loop-octets : goal.invariant-loop-octets
invariant-loop-octets l =
    (all : List (ℕ × List ℕ)) → AreRecords l.fn.records all → Front (λ came. l.near ≡ are_like_text l.fn.ssrc l.fn.payload_types came) l.rest all

abbrev pub decreases-loop-octets : goal.decreases-loop-octets
decreases-loop-octets l = length l.rest
