-- What is heard of a source of any recording can be sent.
use Rattle.std.proofs.Common.{Bool, true, false, cond, List, [], ◌∷◌, sym, subst}
use Rattle.std.specs.Prelude.{filter}
use Rattle.wire_spec.specs.Dump.{dump}
use Rattle.stream_spec.specs.Ready.{Chunk, chunks}
use Rattle.stream_spec.specs.Still.{is_lively_chunk}
use Rattle.stream_spec.proofs.StillChunks.{chunks_still}
use Rattle.mixer_spec.specs.Laws.{AreShort, AreTexts}
use Rattle.mixer_spec.proofs.Heard.{chunks_law}
use Rattle.mixer_spec.proofs.HeardShort.{short_law}
use Rattle.mixer_spec.proofs.Recordings.{recordings_law}
use Rattle.command_spec.specs.Splitting.{came_of, chunks_of, split}
use Rattle.command_spec.specs.Laws.{AreSendable, HeardAreSendable, RecordingsAreHeard, RecordingsAreRead}
use Rattle.command_spec.proofs.Splits.{splits_heard, splits_read}
use Rattle.stream_spec.proofs.Lists.{filter_keeps}

all_sendable : (cs : List Chunk) → AreTexts cs → AreShort cs → AreSendable cs
all_sendable [] texts short = tt
all_sendable (c ∷ cs) texts short = (record { some = texts.0; utf8 = texts.1; few = short.0 }, all_sendable cs texts.2 short.1)

-- so can those of them that are no keep-alives
some_sendable : (p : Chunk → Bool) (cs : List Chunk) → AreSendable cs → AreSendable (filter p cs)
some_sendable p cs a = filter_keeps AreSendable tt (λ c rest h. h.1) (λ c rest more h m. (h.0, m)) p cs a

pub heard_sendable : HeardAreSendable
heard_sendable t octets s =
    let past = came_of t octets in
    let law = recordings_law (dump t.limit octets).items t.ssrc t.payload_types in
    subst AreSendable (sym (chunks_still t.wait 0 past s))
    (some_sendable is_lively_chunk (chunks t.wait 0 past s) (all_sendable (chunks t.wait 0 past s) (chunks_law t.wait 0 past s law.0) (short_law t.wait 0 s past law.1)))

pub recordings_read : RecordingsAreRead
unfolding split
recordings_read t octets s is limit few = splits_read t.payload_types s (chunks_of t.wait (came_of t octets) s) is (heard_sendable t octets s) limit few

pub recordings_heard : RecordingsAreHeard
unfolding split
recordings_heard t octets s is limit wait few = splits_heard t.payload_types s (chunks_of t.wait (came_of t octets) s) is (heard_sendable t octets s) limit wait few
