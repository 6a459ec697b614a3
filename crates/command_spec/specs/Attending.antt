-- What `attend` makes of a conference (profile): it mixes it with the names and the leavings that the RTCP records of its inputs
-- tell. Legs are numbered from 0.
use Rattle.std.specs.Prelude.{ℕ, zero, suc, ◌+◌, ◌==◌, ◌&&◌, max, min, nat_le, nat_lt, not, if◌then◌else◌, Bool, Option, None, Some, List, [], ◌∷◌, length, map, bytes_eq, Result, Ok, Err}
use Rattle.std.specs.List.{list_any}
use Rattle.std.specs.Str.{byte}
use Rattle.wire_spec.specs.Dump.{dump}
use Rattle.wire_spec.specs.declared.events.Event.{Event}
use Rattle.wire_spec.specs.declared.events.Event.TheVariants.{Name, Bye}
use Rattle.wire_spec.specs.declared.rtcp_faults.RtcpRefusal.{RtcpRefusal}
use Rattle.wire_spec.specs.Rtcp.{rtcp}
use Rattle.wire_spec.specs.Recorded.{Entry, entries}
use Rattle.file_spec.specs.declared.limits.TheConstants.{LAST_MOMENT}
use Rattle.file_spec.specs.declared.conference_lines.Form.TheVariants.{Files}
use Rattle.file_spec.specs.declared.conference_lines.LegLine.{LegLine}
use Rattle.file_spec.specs.declared.conference_lines.Stay.{Stay}
use Rattle.file_spec.specs.Conference.{Conference, change_leg, conference_from, is_name}
use Rattle.file_spec.specs.Lines as lines
use Rattle.mixer_spec.specs.Setups.{leg_at, ssrc_of}
use Rattle.mixer_spec.specs.Bridged.{input_limit}
use Rattle.command_spec.specs.declared.faults.Refusal.TheVariants.{AtLine}
use Rattle.command_spec.specs.Work.{Steps, Reads, Refuses}
use Rattle.command_spec.specs.Mixing.{input_at, mixes_counted, reads_inputs}

-- ---- what the records of an input tell of its sender
-- its first name, and the moment of its first leaving
pub record Said : Type 0 where
  pub name : Option (List ℕ)
  pub left : Option ℕ

abbrev pub nothing : Said
nothing = record { name = None; left = None }

-- what was said first stays
abbrev pub or_first : {A : Type 0} → Option A → A → Option A
or_first None x = Some x
or_first (Some first) x = Some first

-- an event that is told at this moment
abbrev pub and_event : ℕ → ℕ → Said → Event → Said
and_event ssrc at said (Name sender name) = if sender == ssrc then record said { name = or_first said.name name } else said
and_event ssrc at said (Bye sender) = if sender == ssrc then record said { left = or_first said.left at } else said

abbrev pub and_events : ℕ → ℕ → Said → List Event → Said
and_events ssrc at said [] = said
and_events ssrc at said (e ∷ events) = and_events ssrc at (and_event ssrc at said e) events

-- what is refused tells nothing
abbrev pub and_read : ℕ → ℕ → Said → Result (List Event) RtcpRefusal → Said
and_read ssrc at said (Ok events) = and_events ssrc at said events
and_read ssrc at said (Err fault) = said

-- The records, oldest first, none earlier than those before it. One that is none of RTCP has no octets here, and so is refused.
abbrev pub said_after : ℕ → ℕ → Said → List Entry → Said
said_after ssrc latest said [] = said
said_after ssrc latest said (e ∷ more) =
    said_after ssrc (max latest e.item.time) (and_read ssrc (max latest e.item.time) said (rtcp e.octets)) more

-- an input that has a fault tells nothing
unfoldable pub said_by : ℕ → ℕ → List ℕ → Said
said_by limit ssrc octets = elim (dump limit octets).fault [
  | None ↦ said_after ssrc 0 nothing (entries limit octets)
  | Some fault ↦ nothing
]

-- ---- what that makes of a leg
-- `_` for each space
abbrev pub as_name : List ℕ → List ℕ
as_name text = map (λ c. if c == byte " " then byte "_" else c) text

abbrev pub is_free : List LegLine → List ℕ → Bool
is_free legs name = not (list_any (λ leg. bytes_eq leg.name name) legs)

-- the name becomes the leg's where it has the shape of one and no leg has it
abbrev pub named_so : List LegLine → Option (List ℕ) → LegLine → LegLine
named_so legs None leg = leg
named_so legs (Some text) leg =
    if is_name (as_name text) && is_free legs (as_name text) then record leg { name = as_name text } else leg

abbrev pub sooner : Option ℕ → ℕ → Option ℕ
sooner None end = Some end
sooner (Some until) end = Some (min until end)

-- a stay that ends at this moment, where it has begun by then; a stay has no end behind the last moment of a recording
abbrev pub until_then : ℕ → Stay → Stay
until_then end stay =
    if nat_lt stay.from end && nat_le end LAST_MOMENT then record stay { until = sooner stay.until end } else stay

-- who left is waited for as a lost packet is, so all that was sent before is heard
abbrev pub left_so : ℕ → Option ℕ → LegLine → LegLine
left_so wait None leg = leg
left_so wait (Some at) leg = record leg { stay = until_then (at + wait + 1) leg.stay }

abbrev pub told_so : ℕ → Said → List LegLine → LegLine → LegLine
told_so wait said legs leg = left_so wait said.left (named_so legs said.name leg)

-- ---- the legs
-- the first k legs are told so, in leg order
abbrev pub told_legs : ℕ → (ℕ → Said) → ℕ → List LegLine → List LegLine
told_legs wait says zero legs = legs
told_legs wait says (suc k) legs =
    change_leg (told_so wait (says k) (told_legs wait says k legs)) k (told_legs wait says k legs)

-- what the input of the leg k says of it
abbrev pub says_of : Conference → List (List ℕ) → ℕ → Said
says_of c inputs k = said_by (input_limit c) (ssrc_of (leg_at c.legs k)) (input_at inputs k)

-- all legs of the conference are told so
abbrev pub named_by : (ℕ → Said) → Conference → Conference
named_by says c = record c { legs = told_legs c.wait says (length c.legs) c.legs }

-- the conference with the names and the leavings that its inputs tell
abbrev pub named : Conference → List (List ℕ) → Conference
named c inputs = named_by (says_of c inputs) c

-- ---- the steps
-- what is mixed is the conference that is named so
abbrev pub attends : Conference → List (List ℕ) → Steps
attends c inputs = mixes_counted (named c inputs) inputs

abbrev pub attends_read : Result Conference lines.Refusal → Steps
attends_read (Err refusal) = Refuses 0 (AtLine refusal.line refusal.kind)
attends_read (Ok c) = reads_inputs c.legs (attends c)

-- the conference that this file describes is attended
abbrev pub attending : List ℕ → Steps
attending file = Reads file (λ octets. attends_read (conference_from Files octets))
