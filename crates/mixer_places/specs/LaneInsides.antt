-- What holds of each lane.
use Rattle.std.specs.Prelude.{ℕ, Bool, List, [], ◌∷◌, IsUtf8}
use Rattle.stream_spec.specs.Ready.{Chunk}
use Rattle.mixer_spec.specs.Table.{Taken, chunks_taken}
use Rattle.mixer_places.specs.declared.lanes.SourceQueue.TheInside.{Inside}
use Rattle.mixer_places.specs.Lanes.{Waiting}
use Rattle.mixer_places.specs.SlotStanding.{SlotHolds}

abbrev pub waiting_in : Inside → Waiting
waiting_in l = record { chunks = l.ring; parts = l.parts.items }

-- each text is UTF-8
abbrev pub AreUtf8 : List Chunk → Type 0
AreUtf8 [] = Unit {0}
AreUtf8 (c ∷ cs) = IsUtf8 c.text × AreUtf8 cs

-- it holds what some calls leave, of texts that are UTF-8
pub record IsLane (l : Inside) : Type 0 where
  pub taken : List Taken
  pub listens : ℕ → Bool
  pub waits : ℕ → List Chunk
  pub holds : SlotHolds (waiting_in l) taken listens waits
  pub utf8 : AreUtf8 (chunks_taken taken)
