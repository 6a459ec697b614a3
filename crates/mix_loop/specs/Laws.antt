-- What a live call comes to.
use Rattle.std.specs.Prelude.{◌≡◌, ◌≤◌, ℕ, true, Some, List, [], ◌++◌, length, slice_get}
use Rattle.rtt_base.specs.declared.text_packets.PayloadTypes.{PayloadTypes}
use Rattle.mixer_spec.specs.Setups.{Setup}
use Rattle.mixer_spec.specs.Table.{Call, after_calls}
use Rattle.mixer_spec.specs.Calls.{took, turns_made}
use Rattle.mixer_spec.specs.Legs.{held}
use Rattle.link_io.specs.declared.ends.LinkIn as links
use Rattle.stream_spec.specs.Links.{Takes, is_closed}
use Rattle.live_spec.specs.Told.{Hearing, all_by}
use Rattle.live_spec.specs.Live.{Live}
use Rattle.live_leg.specs.LinkLegs.{Item, LegGave, LegStands, LinkItem, LinkLeg}
use Rattle.live_leg.specs.Items.{items_of, texts_in}
use Rattle.live_leg.specs.Stories.{hearing_of}
use Rattle.workers.specs.declared.lanes.Worker.{Worker}
use Rattle.workers.specs.Lanes.{ComesBack, IsStarted, LaneFollows, popped_of}
use Rattle.mix_loop.specs.declared.live_ports.LivePort.{LivePort}
use Rattle.mix_loop.specs.Handed.{AreLiveCalls, hand_after, has_end}
use Rattle.mix_loop.specs.Walks.{IsServing}
use Rattle.mix_loop.specs.Covers.{Covers, as_leg}

-- Where calls were made in a live run of these items, which the legs gave by these takes, they are a live run of the core.
abbrev pub CallsAreLive : Type 0
CallsAreLive =
    (s : Setup) (hears : ℕ → Hearing) (takes : ℕ → Takes) (items : ℕ → List Item) (counts : List (ℕ → ℕ)) (calls : List Call)
    → ((i : ℕ) → (hears i).leg ≡ i)
    → AreLiveCalls s items counts calls
    → ((i : ℕ) → texts_in i (items i) ≡ took s i calls ++ held (hand_after s i calls))
    → ((i : ℕ) → Covers (hears i) (takes i) (items i))
    → Live s hears takes (turns_made calls) (after_calls s calls)

-- What was popped of a leg over a link is the first of what it gives by what the link gave, whichever number the leg has.
abbrev pub LegsCover : {L : Type 0} → links.Ghosts L → Type 0
LegsCover {L} g =
    (leg : ℕ) (first now : LinkLeg L) (gave popped left : List Item) (w : LegStands g first now gave)
    → gave ≡ popped ++ left
    → Covers (as_leg leg (hearing_of first.settings)) w.so.takes popped

-- A leg that was started as `first`, ran, and came back.
pub record IsJoined {L G : Type 0} (g : links.Ghosts L) (first back : LinkLeg L) (started now : Worker LinkItem (LinkLeg L) G) : Type 0 where
  pub starts : IsStarted (LegGave g) first started
  pub runs : LaneFollows (LegGave g) started now
  pub comes : ComesBack (LegGave g) now back

-- What its link gave covers what was popped of it, whichever number the leg has; where links tell it, that is what the inbound end has taken since.
pub record IsAnswered {L G : Type 0} (g : links.Ghosts L) (first back : LinkLeg L) (now : Worker LinkItem (LinkLeg L) G) : Type 0 where
  pub takes : Takes
  pub covers : (leg : ℕ) → Covers (as_leg leg (hearing_of first.settings)) takes (items_of (popped_of now))
  pub taken : g.tells → g.taken back.arrivals.link ≡ takes ++ g.taken first.arrivals.link

abbrev pub ServedAreAnswered : {L : Type 0} (G : Type 0) → links.Ghosts L → Type 0
ServedAreAnswered {L} G g =
    (first back : LinkLeg L) (started now : Worker LinkItem (LinkLeg L) G) → IsJoined g first back started now
    → IsAnswered g first back now

-- Whatever turns were made of ports whose legs' links gave this, they are a live run.
abbrev pub ServingIsLive : {I M : Type 0} → (I → List Item)
    → (M → Setup → (ℕ → PayloadTypes) → List Call → Type 0) → Type 0
ServingIsLive {I} {M} popped stands =
    (s : Setup) (payload_types : ℕ → PayloadTypes) (turns : ℕ) (ps : List (LivePort I)) (m : M) (v : IsServing popped stands s payload_types turns ps m) (hears : ℕ → Hearing) (takes : ℕ → Takes)
    → s.legs ≡ length ps
    → ((i : ℕ) → (hears i).leg ≡ i)
    → ((i : ℕ) → s.legs ≤ i → takes i ≡ [])
    → ((j : ℕ) (p : LivePort I) → slice_get ps j ≡ Some p → Covers (hears j) (takes j) (popped p.inlet))
    → Live s hears takes turns (after_calls s v.calls)

-- Where the end of a leg was popped, its link is closed, and all that is heard of it was popped.
abbrev pub EndIsAll : {L : Type 0} → links.Ghosts L → Type 0
EndIsAll {L} g =
    (leg : ℕ) (first now : LinkLeg L) (gave popped left : List Item) (w : LegStands g first now gave)
    → gave ≡ popped ++ left
    → has_end popped ≡ true
    → (is_closed w.so.takes ≡ true) × (g.closed now.arrivals.link ≡ true) × (texts_in leg popped ≡ all_by (as_leg leg (hearing_of first.settings)) w.so.takes)

-- Of items that are covered and have the end the link is closed, and their texts are all that is heard.
abbrev pub EndIsCovered : Type 0
EndIsCovered =
    (h : Hearing) (takes : Takes) (items : List Item)
    → Covers h takes items
    → has_end items ≡ true
    → (is_closed takes ≡ true) × (texts_in h.leg items ≡ all_by h takes)
