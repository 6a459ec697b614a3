-- What is concluded of a live call, from `HeadLive` alone.
use Rattle.std.specs.Prelude.{◌≡◌, ℕ, List}
use Rattle.wire_spec.specs.Packets.{Arrival}
use Rattle.file_spec.specs.Conference.{Conference}
use Rattle.stream_spec.specs.History.{History, Come}
use Rattle.mixer_spec.specs.Setups.{setup}
use Rattle.mixer_spec.specs.Bridged.{IsPair, cutting_of, told_at}
use Rattle.mixer_spec.specs.Headline.{Hop}
use Rattle.mixer_spec.specs.Headlines.{hop_behind}
use Rattle.stream_spec.specs.Links.{Takes}
use Rattle.live_spec.specs.Served.{Closed, End}
use Rattle.live_spec.specs.HeadLive.{HeadLive, IsFromLive, inward_live}
use Rattle.promise_tests.specs.Typed.{IsAllTyped, IsOnlyPieces, IsTypedBut}

-- what is heard of these two hops, where the call of this conference ended so, and these texts were not given yet
pub record IsToldTyped (c : Conference) (p q : Hop) (end : End) (waiting : List (List ℕ)) : Type 0 where
  pub only : IsOnlyPieces (cutting_of c) p q
  pub front : IsTypedBut p q waiting
  pub whole : end ≡ Closed → IsAllTyped p q

-- at each aware terminal j of each other leg i, of whom the history h was sent, whatever comes there of what it is given
abbrev pub LiveCallsTellWhatWasTyped : Type 0
LiveCallsTellWhatWasTyped =
    (c : Conference) (takes : ℕ → Takes) (given : ℕ → List (List ℕ)) (end : End) (printed : List ℕ) (live : HeadLive c takes given end printed)
    → (j i : ℕ) (pair : IsPair (setup c) j i)
    → (h : History) → IsFromLive c takes i h
    → (wait : ℕ) (came : List Arrival) → Come (told_at (setup c) live.served.table j) came
    → IsToldTyped c (inward_live c takes i h) (hop_behind (setup c) live.served.table j i wait came) end
    (live.told j i pair).rest
