-- What is made of a conference of which some legs stand behind another mixer (profile): a recording of what that mixer sent is
-- split into its sources. In the conference the word `trunk` in the place of a leg's input says that the leg's text is that of
-- its SSRC in the recording.
use Rattle.std.specs.Prelude.{ℕ, suc, ◌==◌, ◌&&◌, not, nat_lt, Bool, Option, None, Some, List, [], ◌∷◌, length, bytes_eq, codes, Result, Ok, Err, if◌then◌else◌}
use Rattle.wire_spec.specs.Dump.{dump}
use Rattle.wire_spec.specs.Dump as dumps
use Rattle.file_spec.specs.declared.conference_lines.LegLine.{LegLine}
use Rattle.file_spec.specs.declared.conference_lines.Form.TheVariants.{Files}
use Rattle.file_spec.specs.Conference.{Conference, conference_from, usual_types}
use Rattle.file_spec.specs.Lines as lines
use Rattle.mixer_spec.specs.Setups.{setup}
use Rattle.mixer_spec.specs.Plain.{plain}
use Rattle.mixer_spec.specs.Bridged.{input_limit, leg_chunks}
use Rattle.command_spec.specs.Splitting.{Trunk}
use Rattle.command_spec.specs.Laws.{split_of}
use Rattle.command_spec.specs.declared.faults.Refusal.TheVariants.{AtByte, AtLine, AtTrunk}
use Rattle.command_spec.specs.Work.{Steps, Reads, Refuses}
use Rattle.command_spec.specs.Mixing.{input_at, makes}
use Rattle.mixer_spec.specs.declared.limits.TheConstants.{PLACES}
use Rattle.command_spec.specs.declared.limits.TheConstants.{MOST_TRUNK_OCTETS, MOST_TRUNK_OF_MANY}

-- ---- the legs behind the other mixer
abbrev pub is_on_trunk : LegLine → Bool
is_on_trunk leg = bytes_eq leg.input (codes "trunk")

-- The recording has the usual payload types, and such a leg must have them.
abbrev pub has_other_types : LegLine → Bool
has_other_types leg = is_on_trunk leg && not (leg.payload_types.t140 == usual_types.t140 && leg.payload_types.red == usual_types.red)

-- the line of the first leg that has not
abbrev pub odd_line : List LegLine → Option ℕ
odd_line [] = None
odd_line (leg ∷ legs) = if has_other_types leg then Some leg.line else odd_line legs

-- ---- the recording
-- how many octets it may have: 512 KiB where there are more legs than places, else 2 MiB
abbrev pub trunk_limit : Conference → ℕ
trunk_limit c = if nat_lt PLACES (length c.legs) then MOST_TRUNK_OF_MANY else MOST_TRUNK_OCTETS

-- how it is read, where the other mixer sent under this SSRC
abbrev pub trunk_of : Conference → ℕ → Trunk
trunk_of c ssrc = record { ssrc = ssrc; payload_types = usual_types; wait = c.wait; limit = trunk_limit c }

-- ---- the steps
-- the recording that is the input of this number is refused with this fault, or this comes then
abbrev pub unless_faulty : ℕ → Option dumps.Fault → Steps → Steps
unless_faulty n None steps = steps
unless_faulty n (Some fault) steps = Refuses n (AtByte fault.byte fault.kind)

-- The texts of the legs lie in recordings of these octets, of which each may have at most so many. Those of legs behind the other
-- mixer are of the input 1; the others are the inputs from number n on. The first that has a fault is refused, or this comes then.
abbrev pub unless_leg_faulty : ℕ → ℕ → List LegLine → List (List ℕ) → Steps → Steps
unless_leg_faulty limit n [] inputs steps = steps
unless_leg_faulty limit n (leg ∷ legs) [] steps = steps
unless_leg_faulty limit n (leg ∷ legs) (octets ∷ more) steps =
    if is_on_trunk leg then unless_faulty 1 (dump limit octets).fault (unless_leg_faulty limit n legs more steps)
    else unless_faulty n (dump limit octets).fault (unless_leg_faulty limit (suc n) legs more steps)

-- the legs are mixed, whose texts lie in recordings of these octets
abbrev pub mixes_over : Conference → List (List ℕ) → Steps
mixes_over c inputs =
    unless_leg_faulty (input_limit c) 2 c.legs inputs
    (makes c (plain (setup c) c.tick c.turns (leg_chunks c (input_at inputs))))

-- For each leg behind the other mixer there is the split of its SSRC; of each other leg the input is read.
abbrev pub reads_others : (ℕ → List ℕ) → List LegLine → (List (List ℕ) → Steps) → Steps
reads_others split [] next = next []
reads_others split (leg ∷ legs) next =
    if is_on_trunk leg then reads_others split legs (λ more. next (split leg.ssrc ∷ more))
    else Reads leg.input (λ octets. reads_others split legs (λ more. next (octets ∷ more)))

-- a recording of these octets is split, and its splits are mixed with the other legs
abbrev pub mixes_splits : Conference → ℕ → List ℕ → Steps
mixes_splits c ssrc octets =
    unless_faulty 1 (dump (trunk_limit c) octets).fault
    (reads_others (split_of (trunk_of c ssrc) octets) c.legs (mixes_over c))

-- what comes of a conference behind a mixer of this SSRC, which is recorded in this file
abbrev pub cascades : List ℕ → ℕ → Conference → Steps
cascades file ssrc c = Reads file (mixes_splits c ssrc)

-- the conference is refused at this line of a leg that has other types, or this comes then
abbrev pub unless_odd : Option ℕ → Steps → Steps
unless_odd None steps = steps
unless_odd (Some line) steps = Refuses 0 (AtTrunk line)

abbrev pub cascades_read : List ℕ → ℕ → Result Conference lines.Refusal → Steps
cascades_read file ssrc (Err refusal) = Refuses 0 (AtLine refusal.line refusal.kind)
cascades_read file ssrc (Ok c) = unless_odd (odd_line c.legs) (cascades file ssrc c)

-- the conference that the first file describes, behind a mixer of this SSRC, which is recorded in the other one
abbrev pub cascading : List ℕ → List ℕ → ℕ → Steps
cascading conference file ssrc = Reads conference (λ octets. cascades_read file ssrc (conference_from Files octets))
