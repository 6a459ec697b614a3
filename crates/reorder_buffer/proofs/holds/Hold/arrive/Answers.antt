use Rattle.std.proofs.Common.{◌≡◌, ℕ, ap, ◌∙◌}
use Rattle.rtt_base.specs.declared.text_packets.TextPacket.{TextPacket}
use Rattle.wire_spec.specs.Packets.{packet_of}
use Rattle.reorder_buffer.specs.Stories.{Story, came, answer, is_used, is_in_time}
use Rattle.reorder_buffer.specs.States.{State, passed, put_at, put_current}
use Rattle.reorder_buffer.specs.Tracks.{SameBut, Tracks}
use Rattle.reorder_buffer.specs.Views.{next_number}
use Rattle.reorder_buffer.proofs.Counting.{refused_all, put_all, inside_came}
use Rattle.reorder_buffer.proofs.holds.Hold.arrive.Goals as goal

-- time that goes on, what it settles and a count leave the current packet as it is
still_current : (s sp s1 : State) (now : ℕ) → sp ≡ passed s now → SameBut sp s1 → s1.current ≡ s.current
still_current s sp s1 now e same = same.current ∙ ap (λ (t : State). t.current) e

refused : (c : goal.In-Err) (story : Story) → Tracks c.args.self.now story → Tracks c.count.new.self (came story c.args.now (packet_of c.args.self.now.current)) × (c.in-Err.taken ≡ answer story c.args.now (packet_of c.args.self.now.current)) × (is_used c.in-Err.taken ≡ is_in_time story c.args.now (packet_of c.args.self.now.current))
refused c story k =
    let s = c.args.self.now in
    let s1 = c.advance.new.self in
    let read = c.packet.ensures ∙ still_current s c.pass.new.self s1 c.args.now c.pass.ensures c.advance.ensures.same in
    refused_all s c.pass.new.self s1 c.count.new.self story c.args.now c.next_number-number.result (packet_of s.current) c.in-Err.taken c.pass.ensures c.advance.ensures.stands c.advance.ensures.still
    (c.next_number-number.ensures.value ∙ ap (λ (p : TextPacket). next_number s1 p.seq) read) c.count.ensures.value c.in-Err.ensures.refused k

pub returns-in-Err-clause-stands : goal.returns-in-Err-clause-stands
returns-in-Err-clause-stands c story k = (refused c story k).0

pub returns-in-Err-clause-answer : goal.returns-in-Err-clause-answer
returns-in-Err-clause-answer c story k = (refused c story k).1

pub returns-in-Err-clause-used : goal.returns-in-Err-clause-used
returns-in-Err-clause-used c story k = (refused c story k).2

-- what is held is the current packet, as it was handed in
put : (c : goal.After-taken) → put_current c.count.new.self c.in-Ok.place c.next_number-number.result
    ≡ put_at c.count.new.self c.in-Ok.place (record { time = c.count.new.self.moment; number = c.next_number-number.result; packet = packet_of c.args.self.now.current }) c.args.self.now.current
put c =
    let s1 = c.advance.new.self in
    let same = ap (λ (t : State). t.current) c.count.ensures.value ∙ still_current c.args.self.now c.pass.new.self s1 c.args.now c.pass.ensures c.advance.ensures.same in
    ap (λ (q : TextPacket). put_at c.count.new.self c.in-Ok.place (record { time = c.count.new.self.moment; number = c.next_number-number.result; packet = packet_of q }) q) same

taken : (c : goal.After-taken) (story : Story) → Tracks c.args.self.now story → Tracks c.take_in.new.self (came story c.args.now (packet_of c.args.self.now.current)) × (c.taken.result ≡ answer story c.args.now (packet_of c.args.self.now.current)) × (is_used c.taken.result ≡ is_in_time story c.args.now (packet_of c.args.self.now.current))
taken c story k =
    let s = c.args.self.now in
    let s1 = c.advance.new.self in
    let read = c.packet.ensures ∙ still_current s c.pass.new.self s1 c.args.now c.pass.ensures c.advance.ensures.same in
    put_all s c.pass.new.self s1 c.count.new.self (put_current c.count.new.self c.in-Ok.place c.next_number-number.result) c.take_in.new.self story c.args.now c.next_number-number.result c.in-Ok.place (packet_of s.current) s.current c.taken.result c.pass.ensures c.advance.ensures.stands
    c.advance.ensures.still (c.next_number-number.ensures.value ∙ ap (λ (p : TextPacket). next_number s1 p.seq) read) c.count.ensures.value c.in-Ok.ensures.place c.in-Ok.ensures.above.0 c.in-Ok.ensures.above.1 (put c) c.take_in.ensures.stands c.take_in.ensures.still
    c.take_in.ensures.same.first c.taken.ensures k

pub returns-clause-stands : goal.returns-clause-stands
returns-clause-stands c story k = (taken c story k).0

pub returns-clause-answer : goal.returns-clause-answer
returns-clause-answer c story k = (taken c story k).1

pub returns-clause-used : goal.returns-clause-used
returns-clause-used c story k = (taken c story k).2

pub returns-clause-packets : goal.returns-clause-packets
returns-clause-packets c q i =
    inside_came c.args.self.now c.pass.new.self c.advance.new.self c.count.new.self (put_current c.count.new.self c.in-Ok.place c.next_number-number.result) c.take_in.new.self c.args.now c.next_number-number.result c.in-Ok.place _ c.args.self.now.current q c.pass.ensures c.advance.ensures.same.packets
    c.count.ensures.value (put c) c.take_in.ensures.same.packets i
