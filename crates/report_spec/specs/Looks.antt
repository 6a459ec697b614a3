-- What `check` looks at, and what it tells then (profile): a file, and of a conference of recordings the IN of each leg, of one of links the
-- port of each, in leg order, up to the first of which there is something to tell.
use Rattle.std.specs.Prelude.{ℕ, nat_lt, if◌then◌else◌, List, [], ◌∷◌, length, Option, None, Some, Result, Ok, Err}
use Rattle.file_spec.specs.declared.conference_lines.Form.TheVariants as of
use Rattle.file_spec.specs.declared.conference_lines.LegLine.{LegLine}
use Rattle.file_spec.specs.Conference.{Conference, conference_from}
use Rattle.file_spec.specs.Lines as file
use Rattle.command_spec.specs.Cascading.{is_on_trunk, odd_line}
use Rattle.command_spec.specs.Work.{Contents, Makes, Reads, Serves, Steps}
use Rattle.report_spec.specs.declared.forms.FileForm.{FileForm}
use Rattle.report_spec.specs.declared.forms.FileForm.TheVariants.{Gzip, Pcap, PcapNg, TooLarge, Empty, Utf16, Nothing, Recording, Frames, Script, Recordings, Links}
use Rattle.report_spec.specs.declared.limits.TheConstants.{MOST_CHECKED_OCTETS}
use Rattle.report_spec.specs.Checking.{Report, report}
use Rattle.report_spec.specs.Forms.{foreign, form_of}
use Rattle.report_spec.specs.Inputs.{leg_told, most_of_input}
use Rattle.report_spec.specs.Ports.{Answers, ports_told}

-- this is told; or the file of this name is read, and its octets say what comes then; or the ports of this conference are tried, and what
-- they answer says what is told
pub data Look : Type 0 where
  Tells : Report → Look
  Opens : (name : List ℕ) → (List ℕ → Look) → Look
  Tries : (conference : Conference) → (Answers → Report) → Look

-- the steps of it: what is told is printed. Where ports are tried that is decided outside, as it is in a live call.
abbrev pub steps_of : Look → Steps
steps_of (Tells told) = Makes told.text []
steps_of (Opens name next) = Reads name (λ octets. steps_of (next octets))
steps_of (Tries c told) = Serves c

-- what is told by what lies in files alone, where each file that is read is there
abbrev pub told_by : Contents → Look → Option Report
told_by held (Tells told) = Some told
told_by held (Opens name next) = elim (held name) [ None ↦ None | Some octets ↦ told_by held (next octets) ]
told_by held (Tries c told) = None

-- what is told by that and by what ports answer
abbrev pub told_over : Answers → Contents → Look → Option Report
told_over answers held (Tells told) = Some told
told_over answers held (Opens name next) = elim (held name) [ None ↦ None | Some octets ↦ told_over answers held (next octets) ]
told_over answers held (Tries c told) = Some (told answers)

-- ---- the legs whose INs are looked at

-- none where a leg behind another mixer has other payload types
abbrev pub legs_unless : Option ℕ → List LegLine → List LegLine
legs_unless None legs = legs
legs_unless (Some line) legs = []

abbrev pub legs_read : Result Conference file.Refusal → List LegLine
legs_read (Ok c) = legs_unless (odd_line c.legs) c.legs
legs_read (Err refusal) = []

abbrev pub legs_as : FileForm → List ℕ → List LegLine
legs_as Recordings octets = legs_read (conference_from of.Files octets)
legs_as _ octets = []

abbrev pub legs_by : Option FileForm → List ℕ → List LegLine
legs_by (Some form) octets = []
legs_by None octets = if nat_lt MOST_CHECKED_OCTETS (length octets) then [] else legs_as (form_of octets) octets

-- those of a conference of recordings that has these octets
abbrev pub legs_in : List ℕ → List LegLine
legs_in octets = legs_by (foreign octets) octets

-- ---- the conference whose ports are tried

abbrev pub links_read : Result Conference file.Refusal → Option Conference
links_read (Ok c) = Some c
links_read (Err refusal) = None

abbrev pub links_as : FileForm → List ℕ → Option Conference
links_as Links octets = links_read (conference_from of.Links octets)
links_as _ octets = None

abbrev pub links_by : Option FileForm → List ℕ → Option Conference
links_by (Some form) octets = None
links_by None octets = if nat_lt MOST_CHECKED_OCTETS (length octets) then None else links_as (form_of octets) octets

-- that of links that has these octets
abbrev pub links_in : List ℕ → Option Conference
links_in octets = links_by (foreign octets) octets

-- ---- the look

abbrev pub unless_told : Option Report → Look → Look
unless_told None look = look
unless_told (Some told) look = Tells told

-- The INs of these legs, of which each may have so many octets. That of a leg behind another mixer is none.
abbrev pub looks_at : ℕ → List ℕ → List LegLine → Report → Look
looks_at limit octets [] told = Tells told
looks_at limit octets (leg ∷ legs) told =
    if is_on_trunk leg then looks_at limit octets legs told
    else Opens leg.input (λ input. unless_told (leg_told limit octets leg input) (looks_at limit octets legs told))

-- a conference of links, or what else has these octets
abbrev pub look_over : Option Conference → List ℕ → Report → Look
look_over None octets told = looks_at (most_of_input (legs_in octets)) octets (legs_in octets) told
look_over (Some c) octets told = Tries c (λ answers. ports_told answers octets c told)

-- the file of this name has these octets
abbrev pub look_in : List ℕ → List ℕ → Look
look_in name octets = look_over (links_in octets) octets (report name octets)

-- the file of this name
abbrev pub look : List ℕ → Look
look name = Opens name (look_in name)
