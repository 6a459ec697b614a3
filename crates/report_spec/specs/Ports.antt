-- What `check` tells of the ports of a conference of links: that one can't be had, or that an OUT is no address of this machine (profile).
use Rattle.std.specs.Prelude.{ℕ, List, [], ◌∷◌, ◌++◌, Option, None, Some, codes, decimal}
use Rattle.std.specs.Str.Lines.{lines}
use Rattle.file_spec.specs.declared.conference_lines.LegLine.{LegLine}
use Rattle.file_spec.specs.declared.services.OperatorLine.{OperatorLine}
use Rattle.file_spec.specs.Conference.{Conference, port}
use Rattle.report_spec.specs.declared.forms.FileForm.TheVariants.{Links}
use Rattle.report_spec.specs.declared.ports.PortFault.{PortFault}
use Rattle.report_spec.specs.declared.ports.PortFault.TheVariants.{Taken, NoRight, NoAddress, ManyFiles, Other}
use Rattle.report_spec.specs.Checking.{Report, line_at}
use Rattle.report_spec.specs.Inputs.{ended}
use Rattle.report_spec.specs.Sentences.{form_name, port_sentence}
use Rattle.report_spec.specs.Told.{told_name}

-- why a port can't be had for a link to a peer, where it can't
abbrev pub Answers : Type 0
Answers = ℕ → List ℕ → Option PortFault

-- ---- what is asked

-- the port of a leg, for a link to its OUT
abbrev pub answer_to : Answers → LegLine → Option PortFault
answer_to answers leg = elim (port leg.input) [ None ↦ None | Some n ↦ answers n leg.output ]

-- the port of an operator, who is anywhere on this machine
abbrev pub any_peer : List ℕ
any_peer = codes "127.0.0.1:1"

-- ---- what is told

-- why it can't be had
abbrev pub port_cause : PortFault → List ℕ
port_cause Taken = codes "taken"
port_cause NoRight = codes "no right"
port_cause NoAddress = codes "no address of this machine"
port_cause ManyFiles = codes "too many open files"
port_cause Other = codes "not given"

-- behind what names it: it can't be had for this cause, and stands in this line
abbrev pub refused_behind : List ℕ → PortFault → Option (List ℕ) → Report
refused_behind named fault line = ended (named ++ codes ": " ++ port_cause fault) line (port_sentence fault)

-- what of the leg can't be had: its peer, or its port
abbrev pub had_by : PortFault → LegLine → List ℕ
had_by Taken leg = codes "port " ++ told_name leg.input
had_by NoRight leg = codes "port " ++ told_name leg.input
had_by NoAddress leg = told_name leg.output
had_by ManyFiles leg = codes "port " ++ told_name leg.input
had_by Other leg = codes "port " ++ told_name leg.input

-- of a leg of the conference that has these octets
abbrev pub link_told : List ℕ → LegLine → PortFault → Report
link_told conference leg fault = refused_behind (form_name Links ++ codes "\n" ++ had_by fault leg) fault (line_at leg.line (lines conference))

-- of the operator's port
abbrev pub operator_refused : OperatorLine → PortFault → Report
operator_refused operator fault =
    refused_behind (form_name Links ++ codes "\n" ++ codes "port " ++ decimal operator.port ++ codes " of the operator") fault None

-- ---- what is found

-- the report, or what is told of a port that can't be had
abbrev pub unless_refused : Option PortFault → (PortFault → Report) → Report → Report
unless_refused None told report = report
unless_refused (Some fault) told report = told fault

abbrev pub operator_told : Answers → Option OperatorLine → Report → Report
operator_told answers None whole = whole
operator_told answers (Some operator) whole = unless_refused (answers operator.port any_peer) (operator_refused operator) whole

-- of the first of these legs whose port can't be had, or else this
abbrev pub links_told : Answers → List ℕ → List LegLine → Report → Report
links_told answers conference [] rest = rest
links_told answers conference (leg ∷ legs) rest = unless_refused (answer_to answers leg) (link_told conference leg) (links_told answers conference legs rest)

-- of a conference of links that has these octets, of which this is told where all its ports can be had
abbrev pub ports_told : Answers → List ℕ → Conference → Report → Report
ports_told answers octets c whole = links_told answers octets c.legs (operator_told answers c.service.operator whole)
