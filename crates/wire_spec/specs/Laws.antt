-- What the laws say: what was written is read back.
use Rattle.std.specs.Prelude.{◌≡◌, ◌<◌, ◌≤◌, List, length, Ok}
use Rattle.std.specs.List.{flat_map, AllByRecursion}
use Rattle.wire_spec.specs.declared.events.Event.{Event}
use Rattle.wire_spec.specs.Rtcp.{rtcp, event_written, FitsEvent}

-- Events that are written one behind the other are read back.
abbrev pub EventsAreReadBack : Type 0
EventsAreReadBack =
    (events : List Event)
    → AllByRecursion FitsEvent events
    → 0 < length events
    → length events ≤ 64
    → rtcp (flat_map event_written events) ≡ Ok events
