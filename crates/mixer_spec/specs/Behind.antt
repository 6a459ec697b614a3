-- The headline in a conference: what a terminal hears of a leg behind the mixer, piece by piece of what the leg sent (profile).
use Rattle.std.specs.Prelude.{◌≡◌, ◌<◌, ℕ, List, []}
use Rattle.wire_spec.specs.Packets.{Arrival}
use Rattle.stream_spec.specs.History.{Come, History}
use Rattle.stream_spec.specs.Own.{Closed}
use Rattle.stream_spec.specs.Carries.{Carries}
use Rattle.stream_spec.specs.Ready.{Chunk}
use Rattle.mixer_spec.specs.Setups.{IsAnother, Setup}
use Rattle.mixer_spec.specs.Table.{Table}
use Rattle.mixer_spec.specs.Laws.{GivesShared, IsComposedAt, SendsGiven}
use Rattle.mixer_spec.specs.Headline.{Hop, IsHop, OneHop}
use Rattle.mixer_spec.specs.Bridged.{ComesByPlan, IsHeardOf, IsOut, IsTaken, SharedIsPart, hop_to, shared_texts}
use Rattle.mixer_spec.specs.PieceHeadline.{PieceHeadlineAt}

-- What the aware terminal j is sent of the leg i, which is heard with these chunks as the source of p, in pieces that are cut so; h is
-- the history that its packets tell.
pub record Bridged (cutting : List ℕ → List (List ℕ)) (s : Setup) (table : Table) (j i : ℕ) (h : History) (p : Hop) (cs : List Chunk) : Type 0 where
  pub out : IsOut s j (table.terminals j) h
  pub closed : Closed (s.generations j) h
  pub comes : ComesByPlan s table j h
  -- It carries all that the terminal shares of the leg, and what comes of it tells its entries, whatever came of the leg.
  pub part : SharedIsPart cutting s table j i p cs
  pub carries : Carries h (s.ssrc i) (shared_texts table j i)
  pub one_hop : (wait : ℕ) (came : List Arrival) → Come h came → OneHop (hop_to h (s.ssrc i) wait came)
  -- Where what came of the leg is of a lawful history, that is the headline, cut at what the terminal shares. Nothing waits.
  pub headline : IsHop p → (wait : ℕ) (came : List Arrival) → Come h came
      → PieceHeadlineAt cutting p (hop_to h (s.ssrc i) wait came) part.before [] part.after

-- What the terminal j that is not aware is sent: one text of the mixer.
pub record BridgedAsOne (s : Setup) (table : Table) (j : ℕ) (h : History) : Type 0 where
  pub out : IsOut s j (table.terminals j) h
  pub closed : Closed (s.generations j) h
  pub comes : ComesByPlan s table j h
  pub one_hop : (wait : ℕ) (came : List Arrival) → Come h came → OneHop (hop_to h s.mixer wait came)
  -- Its texts are those that the composer gives, and the chunks that it gives of each other leg are all that it shares of it.
  pub composed : IsComposedAt s table j
  pub sent : SendsGiven table j
  pub given : (i : ℕ) → i < s.legs → IsAnother i j → GivesShared table j i
  pub part : (i : ℕ) → i < s.legs → IsAnother i j
      → (cutting : List ℕ → List (List ℕ)) (p : Hop) (cs : List Chunk) → IsHeardOf cutting p i cs → IsTaken s table i cs
      → SharedIsPart cutting s table j i p cs
