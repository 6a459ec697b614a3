-- What is concluded of a leg behind another mixer, from `IsCascaded` alone.
use Rattle.std.specs.Prelude.{◌≡◌, ℕ, true, None, Some, List}
use Rattle.file_spec.specs.declared.conference_lines.LegLine.{LegLine}
use Rattle.stream_spec.specs.History.{History, Lawful, Come}
use Rattle.mixer_spec.specs.Setups.{AllStay, leg_at}
use Rattle.mixer_spec.specs.Bridged.{IsPair}
use Rattle.mixer_spec.specs.Headline.{Hop}
use Rattle.mixer_spec.specs.Pieces.{characters}
use Rattle.command_spec.specs.Splitting.{came_of}
use Rattle.command_spec.specs.Work.{Contents}
use Rattle.command_spec.specs.Bridges.{onward_from, setup_of}
use Rattle.command_spec.specs.Cascading.{is_on_trunk, trunk_of}
use Rattle.command_spec.specs.Cascaded.{IsCascaded, to_recording}
use Rattle.promise_tests.specs.Typed.{IsAllTyped, IsOnlyPieces, IsOnlyTyped}

-- what is heard behind these two hops: characters that were typed, whole blocks where packets have no limit, and all where all stay
pub record IsToldBehind (p q : Hop) (NoLimit AllStaying : Type 0) : Type 0 where
  pub only : IsOnlyPieces characters p q
  pub blocks : NoLimit → IsOnlyTyped p q
  pub whole : AllStaying → IsAllTyped p q

-- at each aware terminal j of each leg i behind the other mixer, of which the history h was sent
abbrev pub CascadesTellWhatWasTyped : Type 0
CascadesTellWhatWasTyped =
    (held after : Contents) (conference file : List ℕ) (ssrc : ℕ) (printed : List ℕ) (c : IsCascaded held after conference file ssrc printed)
    → (j i : ℕ) → IsPair (setup_of c.bridge) j i
    → (leg : LegLine) → leg_at c.bridge.conference.legs i ≡ Some leg → is_on_trunk leg ≡ true
    → (h : History) → Lawful h → Come h (came_of (trunk_of c.bridge.conference ssrc) c.octets)
    → IsToldBehind (to_recording (trunk_of c.bridge.conference ssrc) c.octets leg.ssrc h) (onward_from c.bridge j i)
    (c.bridge.conference.mtu ≡ None) (AllStay (setup_of c.bridge))
