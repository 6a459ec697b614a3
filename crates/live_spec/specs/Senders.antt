-- What a live call tells of a leg, sender by sender (profile).
use Rattle.std.specs.Prelude.{◌≡◌, ℕ, List, [], ◌∷◌, ◌++◌, length}
use Rattle.wire_spec.specs.Packets.{Arrival}
use Rattle.file_spec.specs.Conference.{Conference}
use Rattle.stream_spec.specs.History.{Come, History}
use Rattle.stream_spec.specs.Kept.{Item, texts}
use Rattle.stream_spec.specs.Still.{still, still_history}
use Rattle.mixer_spec.specs.Setups.{setup}
use Rattle.mixer_spec.specs.Bridged.{IsPair, cutting_of, told_at}
use Rattle.mixer_spec.specs.Headline.{Hop}
use Rattle.mixer_spec.specs.Headlines.{hop_behind}
use Rattle.stream_spec.specs.Links.{Takes}
use Rattle.live_spec.specs.Told.{Former, Told}
use Rattle.live_spec.specs.ToldLaws.{AllCome, ComesOf}
use Rattle.live_spec.specs.Served.{End, sender_live, told_live}
use Rattle.live_spec.specs.HeadLive.{HeadLive}
use Rattle.live_spec.specs.InTurn.{InTurn}

-- the hop from a sender, of whom the history h was sent, but for keep-alives
abbrev pub sender_hop : ℕ → History → ℕ → List Arrival → Hop
sender_hop wait h ssrc past = record { sent = still_history h; wait = wait; came = still past; source = ssrc }

-- those of the senders before, oldest first; of the sender with the number n, from 0, this history was sent
abbrev pub hops_before : ℕ → (ℕ → History) → List Former → List Hop
hops_before wait of [] = []
hops_before wait of (f ∷ before) = hops_before wait of before ++ sender_hop wait (of (length before)) f.ssrc f.past ∷ []

-- that of who is the sender now
abbrev pub last_hop : Conference → (ℕ → Takes) → ℕ → (ℕ → History) → Hop
last_hop c takes i of = sender_hop c.wait (of (length (told_live c takes i).before)) (sender_live c takes i) (told_live c takes i).past

-- what came of each is of its lawful history
pub record ComeInTurn (d : Told) (of : ℕ → History) : Type 0 where
  pub before : AllCome of d.before
  pub last : ComesOf (of (length d.before)) d.past

-- At each aware terminal j, of each other leg i, whatever comes there of what it is given.
abbrev pub CallsTellInTurn : Type 0
CallsTellInTurn =
    (c : Conference) (takes : ℕ → Takes) (given : ℕ → List (List ℕ)) (end : End) (printed : List ℕ) (live : HeadLive c takes given end printed)
    → (j i : ℕ) (pair : IsPair (setup c) j i)
    → (of : ℕ → History) → ComeInTurn (told_live c takes i) of
    → (wait : ℕ) (came : List Arrival) → Come (told_at (setup c) live.served.table j) came
    → (sent : List Item) × (waiting : List Item) × (texts waiting ≡ (live.told j i pair).rest)
    × InTurn (cutting_of c) (hops_before c.wait of (told_live c takes i).before) (last_hop c takes i of)
    (hop_behind (setup c) live.served.table j i wait came) sent waiting
