-- What a conference is told of its legs, and why it may not be.
use Rattle.std.specs.Prelude.{◌≡◌, ℕ, ◌<◌, None, Some, Option, List, length, slice_get, flat_map, take, Err, if◌then◌else◌}
use Rattle.std.specs.List.{enumerate_from}
use Rattle.file_spec.specs.declared.conference_lines.LegLine.{LegLine}
use Rattle.mixer_spec.specs.Setups.{leg_at}
use Rattle.view_spec.specs.Tallies.{tally_line}
use Rattle.command_spec.specs.Mixing.{counted, leg_tally}
use Rattle.file_spec.specs.Conference.{Conference, is_name}
use Rattle.command_spec.specs.Work.{Contents}
use Rattle.command_spec.specs.Attending as attending
use Rattle.command_spec.specs.Attending.{named, named_by, nothing, says_of}
use Rattle.command_spec.specs.Inputs.{AllLie, inputs_under}
use Rattle.rtt_mix.specs.Mixes.{NoneFailed, WholeBelow}
use Rattle.rtt_mix.specs.declared.results.MixFault.{MixFault}
use Rattle.rtt_attend.specs.declared.source_notes.SourceNotes.{SourceNotes}
use Rattle.rtt_attend.specs.Heard.{said_of}

-- what has the shape of a leg's name
abbrev pub shaped : List ℕ → Option (List ℕ)
shaped text = if is_name text then Some text else None

-- ---- what was heard, by leg
abbrev pub or_nothing : Option SourceNotes → attending.Said
or_nothing None = nothing
or_nothing (Some said) = said_of said

abbrev pub says_in : List SourceNotes → ℕ → attending.Said
says_in all k = or_nothing (slice_get all k)

-- This is what the inputs of all legs tell, each of which can be read to its end.
pub record AreTold (held : Contents) (c : Conference) (all : List SourceNotes) : Type 0 where
  pub lie : AllLie held c.legs
  pub whole : WholeBelow (length c.legs) c (inputs_under held c.legs)
  pub says : (k : ℕ) → k < length c.legs → says_in all k ≡ says_of c (inputs_under held c.legs) k
  pub counts : (k : ℕ) (said : SourceNotes) (leg : LegLine) → slice_get all k ≡ Some said → leg_at c.legs k ≡ Some leg
      → said.tally ≡ leg_tally c (inputs_under held c.legs) k leg

-- ---- what is counted
-- the lines of the first legs, so many
abbrev pub lines_below : Conference → List (List ℕ) → ℕ → List ℕ
lines_below c inputs k = flat_map (λ x. tally_line x.1.name (leg_tally c inputs x.0 x.1)) (take k (enumerate_from 0 c.legs))

-- what is counted of the inputs, where the conference asks for it
abbrev pub AreCounted : Contents → Conference → List ℕ → Type 0
AreCounted held c lines = lines ≡ counted c (inputs_under held c.legs)

-- ---- what that makes of the conference
-- It is named as its inputs tell, each of which can be read to its end.
pub record IsNamed (held : Contents) (old new : Conference) : Type 0 where
  pub lie : AllLie held old.legs
  pub whole : WholeBelow (length old.legs) old (inputs_under held old.legs)
  pub is : new ≡ named old (inputs_under held old.legs)

-- It is named by something. So nothing but names and stays may be another.
abbrev pub IsNamedSome : Conference → Conference → Type 0
IsNamedSome old new = (says : ℕ → attending.Said) × (new ≡ named_by says old)

module _ {W : Type 0} where
  -- Which readings did not fail where there is this fault: as in a mixing that ends with it.
  abbrev pub NoneFailedWith : Type 0 → (W → List ℕ → ℕ) → W → W → Conference → MixFault → Type 0
  NoneFailedWith Told objects old new c fault = NoneFailed Told c.legs (objects old) (objects new) (Err fault)
