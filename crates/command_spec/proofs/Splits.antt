-- What is read and heard of a split.
use Rattle.std.proofs.Common.{◌≡◌, ◌≤◌, ℕ, List, [], length, ap, sym, ◌∙◌, subst, arith, map}
use Rattle.rtt_base.specs.declared.text_packets.PayloadTypes.{PayloadTypes}
use Rattle.wire_spec.specs.Packets.{Arrival}
use Rattle.wire_spec.specs.Dump.{Recording, arrivals_within, dump}
use Rattle.stream_spec.specs.Carries.{Groups}
use Rattle.stream_spec.specs.Hearing.{heard}
use Rattle.stream_spec.specs.Ready.{Chunk}
use Rattle.std.specs.List.{AllByRecursion}
use Rattle.command_spec.specs.Splitting.{groups, packets_in}
use Rattle.command_spec.specs.Laws.{AreSendable, IsStream, SplitsAreHeard, SplitsAreRead, recording_of}
use Rattle.command_spec.proofs.Carrying.{IsBack, all_back, arrives, groups_carry, groups_sendable, reads}
use Rattle.command_spec.proofs.Rows.{all_heard}
use Rattle.rtt_base.specs.declared.limits.TheConstants.{MOST_TEXT_OCTETS}

backs : (payload_types : PayloadTypes) (s : ℕ) (cs : List Chunk) → IsStream payload_types s → AreSendable cs → AllByRecursion (IsBack payload_types s) (packets_in s (groups cs))
backs payload_types s cs is a = all_back payload_types s 0 0 (groups cs) is (omega arith) (omega arith) (groups_sendable cs a)

pub splits_read : SplitsAreRead
splits_read payload_types s cs is a limit n = ap (λ (r : Recording). r.fault) (reads payload_types s limit (packets_in s (groups cs)) (backs payload_types s cs is a) n)

-- what is heard of it are the texts of its groups, however long a text may be
pub split_texts : (most : ℕ) → MOST_TEXT_OCTETS ≤ most → (payload_types : PayloadTypes) (s : ℕ) (cs : List Chunk) → IsStream payload_types s → AreSendable cs → (limit wait : ℕ) → length (recording_of payload_types s cs) ≤ limit
    → heard wait (arrivals_within most s payload_types [] (dump limit (recording_of payload_types s cs)).items) s ≡ map (λ g. g.text) (groups cs)
split_texts most l payload_types s cs is a limit wait n =
    ap (λ (r : Recording). heard wait (arrivals_within most s payload_types [] r.items) s) (reads payload_types s limit (packets_in s (groups cs)) (backs payload_types s cs is a) n)
    ∙ (ap (λ (past : List Arrival). heard wait past s) (arrives most l payload_types s [] (packets_in s (groups cs)) (backs payload_types s cs is a))
    ∙ all_heard wait s (groups cs) (groups_sendable cs a))

pub splits_heard : SplitsAreHeard
splits_heard payload_types s cs is a limit wait n =
    subst (λ ts. Groups ts (map (λ (c : Chunk). c.text) cs) []) (sym (split_texts MOST_TEXT_OCTETS (omega arith) payload_types s cs is a limit wait n)) (groups_carry cs a)
