-- What mixing recordings answers, by their octets (profile).
use Rattle.std.specs.Prelude.{◌≡◌, ℕ, ◌+◌, ◌<◌, ◌≤◌, false, true, Some, List, Result, Ok, Err, length, slice_get}
use Rattle.std.specs.List.{concat}
use Rattle.rtt_io.specs.Counts.{Rose}
use Rattle.rtpdump_io.specs.declared.items.DumpFault.{DumpFault}
use Rattle.rtpdump_io.specs.Reading.{is_of_source}
use Rattle.file_spec.specs.Conference.{Conference}
use Rattle.mixer_spec.specs.Setups.{is_long, leg_at, ssrc_of}
use Rattle.mixer_spec.specs.Bridged.{input_limit}
use Rattle.command_spec.specs.declared.faults.Refusal.TheVariants.{AtByte, AfterTurns}
use Rattle.command_spec.specs.Work.{Refuses, Makes}
use Rattle.command_spec.specs.Mixing.{input_at, mixes}
use Rattle.command_spec.specs.Sums.{sums_mixed}
use Rattle.receiver.specs.Cuts.{cut_within}
use Rattle.leg.specs.declared.inlets.LegInlet.{LegInlet}
use Rattle.leg.specs.Feds.{Asked}
use Rattle.leg.specs.Answers.{AllAsked, read_well, source_in}
use Rattle.mixer_posts.specs.Streams.{payload_types_at}
use Rattle.rtt_mix.specs.declared.results.MixFault.{MixFault}
use Rattle.rtt_mix.specs.declared.results.MixFault.TheVariants.{Open, Dump, TooLong, NoMemory}
use Rattle.rtt_mix.specs.declared.results.Mixed.{Mixed}
use Rattle.sent_log.specs.Files.{recordings_of}
use Rattle.sent_log.specs.States.{AreLawful}
use Rattle.rtt_mix.specs.Mixes.{WholeBelow, counted, outputs_of}

-- what the leg j is asked for, where the inputs have these octets
abbrev pub asked_of : Conference → List (List ℕ) → ℕ → Asked
asked_of c inputs j = record {
  settings = record {
    ssrc = ssrc_of (leg_at c.legs j);
    payload_types = payload_types_at c j;
    wait = c.wait;
    long = is_long (leg_at c.legs j);
    cut = cut_within c.mtu;
  };
  limit = input_limit c;
  octets = input_at inputs j;
}

-- These are the views, the outputs and the numbers of a conference whose inputs have these octets.
pub record AreMixed (c : Conference) (inputs : List (List ℕ)) (mixed : Mixed) : Type 0 where
  pub makes : mixes c inputs ≡ Makes (concat mixed.views.items) (outputs_of c.legs (recordings_of mixed.outs))
  pub sums : sums_mixed c inputs ≡ Some (counted mixed)

-- it is what a conference comes to whose inputs have these octets
abbrev pub MixesTo : Conference → List (List ℕ) → Result Mixed MixFault → Type 0
MixesTo c inputs (Ok mixed) = AreMixed c inputs mixed
MixesTo c inputs (Err (Open leg)) = ⊥
MixesTo c inputs (Err (Dump leg fault)) =
    WholeBelow leg c inputs × (is_of_source fault.kind ≡ false → mixes c inputs ≡ Refuses (leg + 1) (AtByte fault.offset fault.kind))
MixesTo c inputs (Err TooLong) = mixes c inputs ≡ Refuses 0 (AfterTurns c.turns)
MixesTo c inputs (Err NoMemory) = Unit {0}

-- it is a fault of one of so many legs, where it is one of a leg's recording
abbrev pub IsOfLegs : ℕ → Result Mixed MixFault → Type 0
IsOfLegs n (Ok mixed) = Unit {0}
IsOfLegs n (Err (Open leg)) = ⊥
IsOfLegs n (Err (Dump leg fault)) = leg < n
IsOfLegs n (Err TooLong) = Unit {0}
IsOfLegs n (Err NoMemory) = Unit {0}

-- by this result no reading for the leg j failed
abbrev pub WasReadWell : Result Mixed MixFault → ℕ → Type 0
WasReadWell (Ok mixed) j = Unit {0}
WasReadWell (Err (Open leg)) j = ⊥
WasReadWell (Err (Dump leg fault)) j = j < read_well leg fault
WasReadWell (Err TooLong) j = Unit {0}
WasReadWell (Err NoMemory) j = ⊥

-- it has so many outputs, of each of which each packet could be sent after those before it
abbrev pub HasOutputs : ℕ → Mixed → Type 0
HasOutputs n mixed = (length mixed.outs ≡ n) × AreLawful mixed.outs

-- it is no failed reading of a recording
abbrev pub NoReadFailed : Result Mixed MixFault → Type 0
NoReadFailed result = (leg : ℕ) (fault : DumpFault) → result ≡ Err (Dump leg fault) → is_of_source fault.kind ≡ false

module _ {S : Type 0} where
  -- it is what the conference comes to by the octets of its inputs, whatever they are, where these legs are asked for them
  abbrev pub MixesAsked : (S → List ℕ) → Conference → List (LegInlet S) → Result Mixed MixFault → Type 0
  MixesAsked left c legs result =
      (inputs : List (List ℕ)) → length inputs ≡ length c.legs → AllAsked left (asked_of c inputs) legs
      → MixesTo c inputs result

  -- The source of the leg j is still the one that it was. Where its reading failed, its count rose; where none did, it is the old
  -- one.
  pub record IsKept (faults : S → ℕ) (name : S → List ℕ) (result : Result Mixed MixFault) (j : ℕ) (old new : S) : Type 0 where
    pub never_falls : faults old ≤ faults new
    pub same_name : name new ≡ name old
    pub read : (fault : DumpFault) → result ≡ Err (Dump j fault) → is_of_source fault.kind ≡ true
        → Rose (faults old) (faults new)
    pub calm : WasReadWell result j → faults new ≡ faults old

  -- and so is that of each leg
  abbrev pub AreKept : (S → ℕ) → (S → List ℕ) → Result Mixed MixFault → List (LegInlet S) → List (LegInlet S) → Type 0
  AreKept faults name result old new =
      (j : ℕ) (i k : LegInlet S) → slice_get old j ≡ Some i → slice_get new j ≡ Some k
      → IsKept faults name result j (source_in i) (source_in k)
