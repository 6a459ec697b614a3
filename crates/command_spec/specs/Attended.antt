-- The headline of a conference that was mixed with the names and the leavings that its inputs tell (profile).
use Rattle.std.specs.Prelude.{◌≡◌, ℕ, None, Some, Ok, List, ◌++◌, All}
use Rattle.std.specs.List.{AllZip}
use Rattle.wire_spec.specs.Dump.{dump}
use Rattle.file_spec.specs.declared.conference_lines.Form.TheVariants.{Files}
use Rattle.file_spec.specs.Conference.{Conference, conference_from}
use Rattle.file_spec.specs.Kept.{IsConference}
use Rattle.mixer_spec.specs.Bridged.{IsConferenceMixed, input_limit}
use Rattle.command_spec.specs.Work.{Contents}
use Rattle.command_spec.specs.Outcomes.{HoldsOfMade}
use Rattle.command_spec.specs.Mixing.{counted, input_at}
use Rattle.command_spec.specs.Attending.{attending, named}
use Rattle.command_spec.specs.Bridges.{Bridge, views_behind}
use Rattle.command_spec.specs.Cascaded.{IsSeen}

-- This conference lies in this file, and recordings without a fault in its inputs. The bridge is that of the conference with what
-- these tell of its legs; mixing it is over within its turns.
pub record IsAttendedFrom (held : Contents) (file : List ℕ) (c : Conference) (b : Bridge) : Type 0 where
  pub read : (octets : List ℕ) × (held file ≡ Some octets) × (conference_from Files octets ≡ Ok c)
  pub inputs_lie : AllZip (λ leg octets. held leg.input ≡ Some octets) c.legs b.inputs
  pub is_named : b.conference ≡ named c b.inputs
  pub whole : All (λ octets. (dump (input_limit b.conference) octets).fault ≡ None) b.inputs
  pub over : IsConferenceMixed b.conference (input_at b.inputs) b.table

-- Of what lies in files there is one conference of the file at most, and one bridge.
abbrev pub AttendedAreOne : Type 0
AttendedAreOne =
    (held : Contents) (file : List ℕ) (c d : Conference) (a b : Bridge)
    → IsAttendedFrom held file c a
    → IsAttendedFrom held file d b
    → (c ≡ d) × (a ≡ b)

-- What `attend` makes of a file, where that lay in files, and this lies there then, and this is printed.
pub record IsAttended (held after : Contents) (file printed : List ℕ) : Type 0 where
  pub conference : Conference
  pub bridge : Bridge
  pub attended : IsAttendedFrom held file conference bridge
  -- The conference with its names and leavings is mixed as any is, and what is counted of its inputs stands behind the views.
  pub seen : IsSeen after (views_behind bridge) bridge
  pub views : printed ≡ views_behind bridge ++ counted bridge.conference bridge.inputs

-- Whatever lies in the files, that is what `attend` makes of it.
abbrev pub AttendedAreBridged : Type 0
AttendedAreBridged = HoldsOfMade attending IsAttended

-- A conference that keeps all limits does so with the names and the leavings that its inputs tell, whatever they tell.
abbrev pub NamedAreConferences : Type 0
NamedAreConferences = (c : Conference) (inputs : List (List ℕ)) → IsConference c → IsConference (named c inputs)
