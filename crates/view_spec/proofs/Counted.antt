-- No more packets are used than come, and a source has no more markers than packets that came.
use Rattle.std.proofs.Common.{ℕ, suc, ◌+◌, ◌≤◌, Bool, true, false, cond, Option, Some, None, List, [], ◌∷◌, Result, Ok, Err, length, arith}
use Rattle.std.specs.Prelude.{filter}
use Rattle.wire_spec.specs.declared.faults.TextFault.{TextFault}
use Rattle.wire_spec.specs.declared.faults.TextFault.TheVariants as faults
use Rattle.wire_spec.specs.Packets.{Packet, Arrival}
use Rattle.wire_spec.specs.Text.{text_of}
use Rattle.wire_spec.specs.Dump.{Item, What, Whole, Rtcp, Cut, Large, arrived, arrivals_with, arrivals_after}
use Rattle.stream_spec.specs.Numbering.{Numbered, numbered, used, has_number, first_number}
use Rattle.stream_spec.specs.Hearing.{is_marked, is_packet_of}
use Rattle.view_spec.specs.Seen.{Reception, fate_of, fate_at, is_packet, many, arrivals_at, counts_at}
use Rattle.view_spec.specs.Markers.{markers_over, markers_at}
use Rattle.view_spec.proofs.Markers.{one_if}
use Rattle.stream_spec.proofs.Plain.{used_fits, all_numbered}

pub filter_fits : {X : Type 0} (p : X → Bool) (xs : List X) → length (filter p xs) ≤ length xs
filter_fits p [] = omega arith
filter_fits p (x ∷ xs) = go (p x) (filter_fits p xs)
  where
    go : (t : Bool) → length (filter p xs) ≤ length xs → length (cond t (x ∷ filter p xs) (filter p xs)) ≤ suc (length xs)
    go true h = omega (arith, h)
    go false h = omega (arith, h)

over_fits : (f : ℕ → Bool) (first : ℕ) (prev : Option Numbered) (bs : List Numbered) → markers_over f first prev bs ≤ length bs
over_fits f first prev [] = omega arith
over_fits f first prev (b ∷ bs) = go (is_marked f first prev b) (over_fits f first (Some b) bs)
  where
    go : (t : Bool) → markers_over f first (Some b) bs ≤ length bs → one_if t + markers_over f first (Some b) bs ≤ suc (length bs)
    go true h = omega (arith, h)
    go false h = omega (arith, h)

-- what arrives is a packet
one_arrives : (at : ℕ) (past : List Arrival) (r : Result Packet TextFault) → length (arrived at r past) ≤ length past + one_if (is_packet (fate_of r))
one_arrives at past (Ok p) = omega arith
one_arrives at past (Err faults.Short) = omega arith
one_arrives at past (Err faults.Version) = omega arith
one_arrives at past (Err faults.Padding) = omega arith
one_arrives at past (Err faults.Sources) = omega arith
one_arrives at past (Err faults.WrongType) = omega arith
one_arrives at past (Err faults.Cut) = omega arith
one_arrives at past (Err faults.Many) = omega arith
one_arrives at past (Err faults.Long) = omega arith
one_arrives at past (Err faults.NotText) = omega arith
one_arrives at past (Err faults.Foreign) = omega arith

item_arrives : (r : Reception) (at : ℕ) (what : What) (past : List Arrival)
    → length (arrivals_with r.ssrc r.payload_types (record { time = at; what = what }) past) ≤ length past + one_if (is_packet (fate_at r (record { time = at; what = what })))
item_arrives r at (Whole octets) past = one_arrives at past (text_of octets (Some r.ssrc) r.payload_types)
item_arrives r at Rtcp past = omega arith
item_arrives r at Cut past = omega arith
item_arrives r at Large past = omega arith

arrivals_fit : (r : Reception) (past : List Arrival) (came : List Item) → length (arrivals_after r.ssrc r.payload_types past came) ≤ length past + many is_packet (fate_at r) came
arrivals_fit r past [] = omega arith
arrivals_fit r past (item ∷ came) =
    let rest = arrivals_fit r (arrivals_with r.ssrc r.payload_types item past) came in
    let one = item_arrives r item.time item.what past in
    go (is_packet (fate_at r item)) one rest
  where
    go : (t : Bool) → length (arrivals_with r.ssrc r.payload_types item past) ≤ length past + one_if t
        → length (arrivals_after r.ssrc r.payload_types (arrivals_with r.ssrc r.payload_types item past) came) ≤ length (arrivals_with r.ssrc r.payload_types item past) + many is_packet (fate_at r) came
        → length (arrivals_after r.ssrc r.payload_types (arrivals_with r.ssrc r.payload_types item past) came) ≤ length past + length (cond t (item ∷ filter (λ x. is_packet (fate_at r x)) came) (filter (λ x. is_packet (fate_at r x)) came))
    go true one rest = omega (arith, one, rest)
    go false one rest = omega (arith, one, rest)

pub used_came : (r : Reception) (came : List Item) → (counts_at r came).used ≤ (counts_at r came).packets
used_came r came = omega (arith, used_fits r.wait (numbered (arrivals_at r came)), all_numbered (arrivals_at r came), arrivals_fit r [] came)

pub markers_came : (r : Reception) (came : List Item) (source : ℕ) → markers_at r came source ≤ (counts_at r came).packets
markers_came r came source =
    let us = used r.wait (numbered (arrivals_at r came)) in
    omega (arith, used_came r came, over_fits (has_number us) (first_number 0 (numbered (arrivals_at r came))) None (filter (is_packet_of source) us), filter_fits (is_packet_of source) us)
