-- What is asked of the legs of a conference.
use Rattle.std.specs.Prelude.{ℕ, List}
use Rattle.file_spec.specs.Conference.{Conference}
use Rattle.mixer_spec.specs.Setups.{setup}
use Rattle.mixer_spec.specs.Bridged.{leg_chunks}
use Rattle.leg.specs.Feds.{Asked}
use Rattle.mix_loop.specs.Mixing.{StayAs}
use Rattle.leg.specs.Answers.{AreChunks, AreOfConference}

-- where each leg hears its stream in its input, the chunks that count are those that the conference mixes
abbrev pub AskedAreMixed : Type 0
AskedAreMixed = (c : Conference) (inputs : ℕ → List ℕ) (asked : ℕ → Asked)
    → AreOfConference c inputs asked → AreChunks (setup c) asked (leg_chunks c inputs)

-- each leg stays as its line says
abbrev pub LegsStayAsTold : Type 0
LegsStayAsTold = (c : Conference) → StayAs (setup c) c.legs
