-- From turns that were made to a live call of a conference.
use Rattle.std.specs.Prelude.{◌≡◌, ◌≤◌, ℕ, Some, List, [], length, slice_get}
use Rattle.rtt_base.specs.declared.text_packets.PayloadTypes.{PayloadTypes}
use Rattle.file_spec.specs.declared.conference_lines.LegLine.{LegLine}
use Rattle.file_spec.specs.Conference.{Conference}
use Rattle.mixer_spec.specs.Setups.{Setup, leg_at, setup}
use Rattle.mixer_spec.specs.Table.{Call, after_calls}
use Rattle.stream_spec.specs.Links.{Takes}
use Rattle.live_leg.specs.LinkLegs.{Item}
use Rattle.mix_loop.specs.declared.live_ports.LivePort.{LivePort}
use Rattle.mix_loop.specs.Walks.{BrokenTo, ClosedTo, DoneTo}
use Rattle.live_spec.specs.Served.{Broken, Closed, Done, IsServed, given_to, hearing_at, live_printed}
use Rattle.mix_loop.specs.Covers.{Covers}

-- The links of the conference's legs gave this, of which that was popped at the ports, and were given what these calls of the mixer
-- send.
pub record IsOfConference {I : Type 0} (popped : I → List Item) (c : Conference) (calls : List Call) (ps : List (LivePort I)) (takes : ℕ → Takes) (given : ℕ → List (List ℕ)) : Type 0 where
  pub legs : length c.legs ≡ length ps
  pub none : (i : ℕ) → length c.legs ≤ i → takes i ≡ []
  pub covers : (j : ℕ) (p : LivePort I) → slice_get ps j ≡ Some p → Covers (hearing_at c j) (takes j) (popped p.inlet)
  pub gave : (j : ℕ) (leg : LegLine) → leg_at c.legs j ≡ Some leg
      → given j ≡ given_to c (after_calls (setup c) calls) j leg

-- Where all turns of the conference were made and something is left, that is a live call of it.
abbrev pub DoneIsServed : {I M : Type 0} → (I → List Item)
    → (M → Setup → (ℕ → PayloadTypes) → List Call → Type 0) → Type 0
DoneIsServed {I} {M} popped stands =
    (c : Conference) (payload_types : ℕ → PayloadTypes) (ps : List (LivePort I)) (m : M) (takes : ℕ → Takes) (given : ℕ → List (List ℕ))
    → (v : DoneTo popped stands (setup c) payload_types c.turns ps m)
    → IsOfConference popped c v.serving.calls ps takes given
    → IsServed c takes given Done (live_printed c takes given Done)

-- So it is where all links are closed and nothing is left.
abbrev pub ClosedIsServed : {I M : Type 0} → (I → List Item)
    → (M → Setup → (ℕ → PayloadTypes) → List Call → Type 0) → Type 0
ClosedIsServed {I} {M} popped stands =
    (c : Conference) (payload_types : ℕ → PayloadTypes) (ps : List (LivePort I)) (m : M) (takes : ℕ → Takes) (given : ℕ → List (List ℕ))
    → (w : ClosedTo popped stands (setup c) payload_types c.turns ps m)
    → IsOfConference popped c w.serving.calls ps takes given
    → IsServed c takes given Closed (live_printed c takes given Closed)

-- So it is where it broke off before.
abbrev pub BrokenIsServed : {I M : Type 0} → (I → List Item)
    → (M → Setup → (ℕ → PayloadTypes) → List Call → Type 0) → Type 0
BrokenIsServed {I} {M} popped stands =
    (c : Conference) (payload_types : ℕ → PayloadTypes) (ps : List (LivePort I)) (m : M) (takes : ℕ → Takes) (given : ℕ → List (List ℕ))
    → (w : BrokenTo popped stands (setup c) payload_types c.turns ps m)
    → IsOfConference popped c w.serving.calls ps takes given
    → IsServed c takes given Broken (live_printed c takes given Broken)
