-- Packets of a stream that are followed by their numbers.
use Rattle.std.proofs.Common.{◌≡◌, ℕ, suc, ◌+◌, ◌-◌, Bool, false, Some, None, List, [], ◌∷◌, ◌++◌, length, refl, ap, sym, ◌∙◌, subst, arith, Result, Ok, Err}
use Rattle.rtt_base.specs.declared.text_packets.PayloadTypes.{PayloadTypes}
use Rattle.rtt_base.specs.declared.text_packets.TextPacket.{TextPacket}
use Rattle.wire_spec.specs.declared.faults.TextFault.{TextFault}
use Rattle.wire_spec.specs.Packets.{Packet, Arrival, packet_of}
use Rattle.wire_spec.specs.Dump.{Item, arrived, arrivals_after}
use Rattle.stream_spec.specs.Numbering.{Numbered, numbered, number_it, in_time, first_number, greatest, distinct_from}
use Rattle.command_spec.specs.Reading.{usual_wait}
use Rattle.reorder_buffer.specs.declared.answers.Due.{Due}
use Rattle.reorder_buffer.specs.Stories.{Story, given_of, begun}
use Rattle.reorder_buffer.specs.Stories as stories
use Rattle.reorder_buffer.specs.States.{State, current_of, with_packet}
use Rattle.reorder_buffer.specs.Tracks.{Tracks}
use Rattle.reorder_buffer.specs.Told.{LeadsStory, TellsStory, Gives, came_current, is_current_in_time}
use Rattle.reorder_buffer.proofs.Steps.{tracks_with}
use Rattle.receiver.specs.Hears.{IsToldOf}
use Rattle.receiver.proofs.ReadyBy.{told_arrived}
use Rattle.report_spec.specs.Missed.{lost_count}
use Rattle.report_spec.specs.Showing.{numbers_of}
use Rattle.rtt_show.specs.declared.losses.Losses.{Losses}
use Rattle.rtt_show.specs.declared.spreads.Spread.{Spread}
use Rattle.rtt_show.specs.declared.strays.NumberedPacket.{NumberedPacket}
use Rattle.rtt_show.specs.declared.strays.Follower.{Follower}
use Rattle.rtt_show.specs.declared.strays.Strays.{Strays}
use Rattle.rtt_show.specs.Spreads.{IsSpread, SpreadsBy}
use Rattle.rtt_show.specs.Missed.{IsMissed, IsMissedOf}
use Rattle.rtt_show.specs.Strays.{Drains, Follows, IsShort, CurrentComes, FollowsMore, StraysMore, IsFewStrays, IsBound, Strayed, StrayedMore, arriving}
use Rattle.rtt_show.proofs.Straying.{in_order}

-- ---- what a tracker gives
pub drains_none : (t : State) → Drains t t
drains_none t story k = (story.given, k)

pub drains_one : (old now new : State) (due : Due) → Drains old now → Gives now new due → Drains old new
drains_one old now new due d g story k = let r = d story k in (r.0 ++ given_of due new.current ∷ [], g (record story { given = r.0 }) r.1)

-- ---- a packet
-- whether the newest of these came in time
abbrev newest_in_time : ℕ → List Arrival → Bool
newest_in_time wait [] = false
newest_in_time wait (a ∷ before) = in_time wait (number_it (numbered before) a) (numbered before)

pub comes : (old new : Follower) (t : State) (at : ℕ) (c : NumberedPacket) → LeadsStory old.buffer t (came_current old.buffer at) → TellsStory old.buffer c.in_time (is_current_in_time old.buffer at) → Drains t new.buffer
    → SpreadsBy old.spread (current_of old.buffer).seq c.number new.spread → CurrentComes old at c new
comes old new t at c leads tells drains spreads past f =
    let p : Packet = packet_of (current_of old.buffer) in
    let told : IsToldOf (stories.came f.story at p) (arriving past at p ∷ past) = told_arrived f.story past at (Ok p) f.told in
    let drained = drains (stories.came f.story at p) (leads f.story f.tracks) in
    let e : Numbered = number_it (numbered past) (arriving past at p) in
    let number : c.number ≡ e.number = spreads.is (numbered past) f.spread in (
      record {
        story = record (stories.came f.story at p) { given = drained.0 };
        tracks = drained.1;
        wait = f.wait;
        told = record { arrivals = told.arrivals; moment = told.moment };
        spread = spreads.more (numbered past) e f.spread (sym number);
      },
      record {
        number = number;
        in_time = tells f.story f.tracks ∙ (ap (newest_in_time f.story.wait) told.arrivals ∙ ap (λ w. newest_in_time w (arriving past at p ∷ past)) f.wait);
      },
    )

-- another packet is current at the tracker
pub with_other : (f : Follower) (q : TextPacket) (past : List Arrival) → Follows f past → Follows (record f { buffer = with_packet f.buffer q }) past
with_other f q past k = record { story = k.story; tracks = tracks_with f.buffer q k.story k.tracks; wait = k.wait; told = k.told; spread = k.spread }

pub short_with : (n : ℕ) (f : Follower) (q : TextPacket) → IsShort n f → IsShort n (record f { buffer = with_packet f.buffer q })
short_with n f q s = record { arrivals = s.arrivals; quiet = s.quiet; narrow = s.narrow }

pub short_up : (n : ℕ) (f : Follower) → IsShort n f → IsShort (n + 1) f
short_up n f s = record { arrivals = omega (arith, s.arrivals); quiet = s.quiet; narrow = record { packets = omega (arith, s.narrow.packets); top = omega (arith, s.narrow.top) } }

pub follows_text : (old new : Follower) (q : TextPacket) (at : ℕ) (c : NumberedPacket) (r : Result Packet TextFault) → r ≡ Ok (packet_of q) → CurrentComes (record old { buffer = with_packet old.buffer q }) at c new → FollowsMore old at r (Some c) new
follows_text old new q at c r e m =
    let it : FollowsMore old at (Ok (packet_of q)) (Some c) new = λ past f. m past (with_other old q past f) in
    subst (λ (x : Result Packet TextFault). FollowsMore old at x (Some c) new) (sym e) it

pub follows_other : (old : Follower) (q : TextPacket) (at : ℕ) (fault : TextFault) (r : Result Packet TextFault) → r ≡ Err fault → FollowsMore old at r None (record old { buffer = with_packet old.buffer q })
follows_other old q at fault r e =
    let new : Follower = record old { buffer = with_packet old.buffer q } in
    let it : FollowsMore old at (Err fault) None new = λ past f. with_other old q past f in
    subst (λ (x : Result Packet TextFault). FollowsMore old at x None new) (sym e) it

pub follows_none : (f : Follower) → Tracks f.buffer (begun usual_wait) → IsSpread f.spread [] → Follows f []
follows_none f k s = record { story = begun usual_wait; tracks = k; wait = refl; told = record { arrivals = refl; moment = refl }; spread = s }

-- ---- with what came twice or late
pub bound_up : (n : ℕ) (f : Follower) (s : Strays) → IsShort (n + 1) f → IsFewStrays n s → IsBound (n + 1) f s
bound_up n f s short few = (short, record { packets = omega (arith, few.packets); above = omega (arith, few.above) })

pub strayed_some : (f g : Follower) (s t : Strays) (at : ℕ) (r : Result Packet TextFault) (c : NumberedPacket) → FollowsMore f at r (Some c) g → StraysMore s c g.spread.first t → StrayedMore f s at r g t
strayed_some f g s t at (Ok p) c m k = λ past h.
    let x = m past h.follows in
    record { follows = x.0; strays = k (numbered past) (number_it (numbered past) (arriving past at p)) x.1 x.0.spread.first h.strays }
strayed_some f g s t at (Err fault) c m k = absurd m

pub strayed_none : (f g : Follower) (s : Strays) (at : ℕ) (r : Result Packet TextFault) → FollowsMore f at r None g → StrayedMore f s at r g s
strayed_none f g s at (Ok p) m = absurd m
strayed_none f g s at (Err fault) m = λ past h. record { follows = m past h.follows; strays = h.strays }

pub strayed_arrived : (f g : Follower) (s t : Strays) (at : ℕ) (r : Result Packet TextFault) (past : List Arrival) → StrayedMore f s at r g t → Strayed f s past → Strayed g t (arrived at r past)
strayed_arrived f g s t at (Ok p) past m h = m past h
strayed_arrived f g s t at (Err fault) past m h = m past h

-- ---- what was missed
pub lost_is : (spread : Spread) (above : ℕ) (past : List Numbered) → IsSpread spread past → above ≡ distinct_from (suc (first_number 0 past)) past → (spread.top - spread.first) - above ≡ lost_count past
lost_is spread above past i e =
    ap (λ n. (n - spread.first) - above) i.top
    ∙ (ap (λ n. (greatest past - n) - above) i.first
    ∙ ap (λ n. (greatest past - first_number 0 past) - n) e)

pub missed_strayed : (payload_types : PayloadTypes) (ssrc : ℕ) (f : Follower) (s : Strays) (m : Losses) (came : List Item) → m.lost ≡ (f.spread.top - f.spread.first) - s.above → m.late ≡ s.packets → Strayed f s (arrivals_after ssrc payload_types [] came) → IsMissed payload_types ssrc m came
missed_strayed payload_types ssrc f s m came lost late h = record {
  lost = lost ∙ lost_is f.spread s.above (numbers_of payload_types ssrc came) h.follows.spread h.strays.above;
  late = late ∙ h.strays.packets;
}

pub missed_in_order : (payload_types : PayloadTypes) (ssrc n above : ℕ) (spread : Spread) (m : Losses) (came : List Item) → spread.packets ≡ n → above ≡ n - 1 → m.lost ≡ (spread.top - spread.first) - above → m.late ≡ 0 → IsMissedOf payload_types ssrc spread n m came
missed_in_order payload_types ssrc n above spread m came all less lost late i u =
    let past = numbers_of payload_types ssrc came in
    let count : n ≡ length past = sym all ∙ i.packets in
    let r = in_order usual_wait past (sym count ∙ u) in
    record {
      lost = lost ∙ lost_is spread above past i (less ∙ (ap (λ k. k - 1) count ∙ sym r.1));
      late = late ∙ sym r.0;
    }
