-- What mixing a conference comes to, from what lies under the names of its inputs. Legs are counted from 0.
use Rattle.std.specs.Prelude.{◌≡◌, ◌≢◌, ℕ, ◌+◌, ◌<◌, false, true, None, Some, IsSome, Result, Ok, Err, List, [], ◌∷◌}
use Rattle.std.specs.List.{concat}
use Rattle.wire_spec.specs.Dump.{dump}
use Rattle.rtt_io.specs.Counts.{Rose}
use Rattle.rtpdump_io.specs.declared.items.DumpFault.{DumpFault}
use Rattle.rtpdump_io.specs.Reading.{is_of_source}
use Rattle.file_spec.specs.declared.conference_lines.LegLine.{LegLine}
use Rattle.file_spec.specs.Conference.{Conference}
use Rattle.mixer_spec.specs.Setups.{leg_at}
use Rattle.mixer_spec.specs.Bridged.{input_limit}
use Rattle.command_spec.specs.declared.faults.Refusal.TheVariants.{AtByte, AfterTurns}
use Rattle.command_spec.specs.Work.{Contents, Made, Steps, Refuses, Makes}
use Rattle.command_spec.specs.Mixing.{input_at, mixes}
use Rattle.command_spec.specs.Inputs.{AllLie, LieBelow, NoneFailedAtAll, NoneFailedBelow, inputs_under}
use Rattle.command_spec.specs.Sums.{Sums, sums_mixed}
use Rattle.leg.specs.Answers.{read_well}
use Rattle.rtt_mix.specs.declared.results.MixFault.{MixFault}
use Rattle.rtt_mix.specs.declared.results.MixFault.TheVariants.{Open, Dump, TooLong, NoMemory}
use Rattle.rtt_mix.specs.declared.results.Mixed.{Mixed}
use Rattle.sent_log.specs.Files.{recordings_of}

-- ---- what it comes to
-- what is made of what lies there, or why nothing is
abbrev pub steps_of : Contents → Conference → Steps
steps_of held c = mixes c (inputs_under held c.legs)

-- for each leg its output, with these octets
abbrev pub outputs_of : List LegLine → List (List ℕ) → List Made
outputs_of [] more = []
outputs_of (leg ∷ legs) [] = []
outputs_of (leg ∷ legs) (octets ∷ more) = record { name = leg.output; octets = octets } ∷ outputs_of legs more

-- the sums over all terminals
abbrev pub counted : Mixed → Sums
counted mixed = record { packets = mixed.packets; used = mixed.used; markers = mixed.markers }

-- the views, the outputs and the sums
pub record IsMade (held : Contents) (c : Conference) (mixed : Mixed) : Type 0 where
  pub lie : AllLie held c.legs
  pub makes : steps_of held c ≡ Makes (concat mixed.views.items) (outputs_of c.legs (recordings_of mixed.outs))
  pub sums : sums_mixed c (inputs_under held c.legs) ≡ Some (counted mixed)

-- the inputs of the first n legs are recordings without a fault
abbrev pub WholeBelow : ℕ → Conference → List (List ℕ) → Type 0
WholeBelow n c inputs = (k : ℕ) → k < n → (dump (input_limit c) (input_at inputs k)).fault ≡ None

-- The input of a leg is refused at the byte of this fault, or its source failed. Those of the legs before it can be read to
-- their ends.
pub record IsBroken (Told : Type 0) (Object : List ℕ → Type 0) (held : Contents) (c : Conference) (number : ℕ) (leg : LegLine) (fault : DumpFault) : Type 0 where
  pub lie : Told → AllLie held c.legs
  pub read : is_of_source fault.kind ≡ true → Object leg.input
  pub lowest : Told → WholeBelow number c (inputs_under held c.legs)
  pub refused : is_of_source fault.kind ≡ false → Told
      → steps_of held c ≡ Refuses (number + 1) (AtByte fault.offset fault.kind)

-- Why nothing is made; `Call` and `Object` tell of which names a call or an object failed. Want of memory is free.
abbrev pub Stops : (Told : Type 0) → (Call Object : List ℕ → Type 0) → Contents → Conference → MixFault → Type 0
Stops Told Call Object held c (Open number) =
    (leg : LegLine) × (leg_at c.legs number ≡ Some leg) × Call leg.input × (Told → LieBelow number held c.legs)
Stops Told Call Object held c (Dump number fault) =
    (leg : LegLine) × (leg_at c.legs number ≡ Some leg) × IsBroken Told Object held c number leg fault
Stops Told Call Object held c TooLong = Told → AllLie held c.legs × (steps_of held c ≡ Refuses 0 (AfterTurns c.turns))
Stops Told Call Object held c NoMemory = Unit {0}

-- ---- counts of faults
-- the count of this name rose
abbrev pub RoseAt : (List ℕ → ℕ) → (List ℕ → ℕ) → List ℕ → Type 0
RoseAt old new name = Rose (old name) (new name)

-- Which readings did not fail: none did where all is made, where an input can't be opened, and where the turns are too few. Where a
-- leg has a fault, none for a lower leg did, nor for that leg where its recording is refused, as far as counts are told of each
-- name. With no memory that is free.
abbrev pub NoneFailed : Type 0 → List LegLine → (List ℕ → ℕ) → (List ℕ → ℕ) → Result Mixed MixFault → Type 0
NoneFailed Told legs old new (Ok mixed) = NoneFailedAtAll old new
NoneFailed Told legs old new (Err (Open number)) = NoneFailedAtAll old new
NoneFailed Told legs old new (Err (Dump number fault)) = Told → NoneFailedBelow (read_well number fault) legs old new
NoneFailed Told legs old new (Err TooLong) = NoneFailedAtAll old new
NoneFailed Told legs old new (Err NoMemory) = Unit {0}

-- where something lies under this name, no call that opens another one failed: each other name has its old count
abbrev pub NoOtherFailed : Contents → List ℕ → (List ℕ → ℕ) → (List ℕ → ℕ) → Type 0
NoOtherFailed held input old new = IsSome (held input) → (name : List ℕ) → name ≢ input → new name ≡ old name

-- The input that can't be opened is the first one: no call for another failed, as far as counts are told of each name. Where all
-- are opened, no call failed. With no memory that is free.
abbrev pub IsFirst : Type 0 → Contents → List LegLine → (List ℕ → ℕ) → (List ℕ → ℕ) → MixFault → Type 0
IsFirst Told held legs old new (Open number) =
    Told → (leg : LegLine) → leg_at legs number ≡ Some leg → NoOtherFailed held leg.input old new
IsFirst Told held legs old new (Dump number fault) = NoneFailedAtAll old new
IsFirst Told held legs old new TooLong = NoneFailedAtAll old new
IsFirst Told held legs old new NoMemory = Unit {0}

module _ {W : Type 0} where
  -- the same by the counts of a world, before and after
  abbrev pub IsFirstIn : Type 0 → (W → Contents) → (W → List ℕ → ℕ) → W → W → List LegLine → MixFault → Type 0
  IsFirstIn Told contents own old new legs fault = IsFirst Told (contents old) legs (own old) (own new) fault

  abbrev pub NoneFailedIn : Type 0 → (W → List ℕ → ℕ) → W → W → Conference → Result Mixed MixFault → Type 0
  NoneFailedIn Told objects old new c result = NoneFailed Told c.legs (objects old) (objects new) result

  -- why nothing is made, by what lay in a world before, and by the counts that rose in it
  abbrev pub StopsIn : Type 0 → (W → Contents) → (W → List ℕ → ℕ) → (W → List ℕ → ℕ) → W → W → Conference
      → MixFault → Type 0
  StopsIn Told contents own objects old new c = Stops Told (RoseAt (own old) (own new)) (RoseAt (objects old) (objects new)) (contents old) c
