-- What a leg at its queue pushed, to the last.
use Rattle.std.specs.Prelude.{◌≡◌, ℕ, Bool, true, None, List, []}
use Rattle.rtpdump_io.specs.Reading.{IsFaultOf}
use Rattle.rtpdump_io.specs.declared.items.DumpFault.{DumpFault}
use Rattle.stream_spec.specs.Ready.{Chunk}
use Rattle.leg.specs.Gives.{Stands, is_over}
use Rattle.workers.specs.declared.feeds.Feed.{Feed}
use Rattle.workers.specs.Feeds.{FeedStands, is_done}
use Rattle.workers.specs.Passes.{pushed}
use Rattle.mix_loop.specs.declared.answers.Answer.{Answer}
use Rattle.mix_loop.specs.declared.items.TextsEnd.{TextsEnd}
use Rattle.mix_loop.specs.declared.items.TextsEnd.TheVariants.{Open, AtEnd, AtFault}
use Rattle.mix_loop.specs.Answers.{GaveAs, gave_of}
use Rattle.leg.specs.declared.inlets.LegInlet.{LegInlet}
use Rattle.leg.specs.Feds.{Asked, Fed, chunks_asked, past_of, recording_asked}

-- these texts, and how they ended, are all of a leg that is asked for this
abbrev pub IsWhole : Asked → List Chunk → TextsEnd DumpFault → Type 0
IsWhole a chunks Open = ⊥
IsWhole a chunks AtEnd = (chunks ≡ chunks_asked a) × ((recording_asked a).fault ≡ None)
IsWhole a chunks (AtFault fault) = IsFaultOf (recording_asked a) fault

module _ {S : Type 0} where
  -- a leg at its queue has pushed its last answer
  abbrev pub is_leg_done : Feed (Answer DumpFault) (LegInlet S) → Bool
  is_leg_done f = is_done (λ i. is_over i.leg) f

  -- from this leg on, it gave what was pushed and what is in hand
  abbrev pub LegStands : Type 0 → (S → List ℕ) → (S → ℕ) → (S → List ℕ) → LegInlet S
      → Feed (Answer DumpFault) (LegInlet S) → Type 0
  LegStands tells left faults name = FeedStands (GaveAs (λ first now gave. Fed tells left faults name first now gave))

  -- Where the last answer was pushed, all was pushed.
  abbrev pub DoneIsAll : Type 0 → (S → List ℕ) → (S → ℕ) → (S → List ℕ) → Type 0
  DoneIsAll tells left faults name =
      (first : LegInlet S) (f : Feed (Answer DumpFault) (LegInlet S)) (a : Asked) → tells
      → LegStands tells left faults name first f → Stands left first.leg (past_of a []) → is_leg_done f ≡ true
      → IsWhole a (gave_of (pushed f.pass)).chunks (gave_of (pushed f.pass)).ended
