-- What a live call leaves (profile).
use Rattle.std.specs.Prelude.{◌≡◌, ◌⊎◌, ◌==◌, ◌||◌, ℕ, Bool, true, not, Option, None, Some, List, ◌++◌, take, Result, Ok, Err, IfErr, OnErr}
use Rattle.stream_spec.specs.Links.{Takes}
use Rattle.file_spec.specs.declared.conference_lines.Form.TheVariants.{Links}
use Rattle.file_spec.specs.Conference.{Conference, conference_from}
use Rattle.command_spec.specs.declared.faults.Fault.TheVariants.{WrongWords, CannotOpen, CannotRead, Refused, CannotPrint, CannotWrite, LinkFailed, NoMemory}
use Rattle.rtt_io.specs.Fronts.{TakesFront}
use Rattle.command_spec.specs.Messages.{Ending, status_of}
use Rattle.rtt_words.specs.Told.{message_of}
use Rattle.rtt_words.specs.Words.{MixWords, Command, Live, Watch}
use Rattle.live_spec.specs.Served.{End, Done, Closed}
use Rattle.live_spec.specs.Watched.{CoversTold, IsBoardOf}
use Rattle.live_spec.specs.HeadLive.{HeadLive}
use Rattle.mix_loop.specs.Clocks.{IsPaced}
use Rattle.mix_loop.specs.Walks.{IsPaused}
use Rattle.rtt_io.specs.declared.sinks.Sink as sinks
use Rattle.rtt_live.specs.declared.faults.LiveFault.{LiveFault}
use Rattle.rtt_live.specs.declared.reports.LiveReport.{LiveReport}
use Rattle.rtt_live.specs.Calls.{AtPorts, BrokeOff, WasPaced, at_ports_of}
use Rattle.rtt_live.specs.Ends.{packets_in}
use Rattle.rtt_live.specs.Opened.{LeadsAll, LeadsSome}
use Rattle.rtt_live.specs.Spans.{Span}
use Rattle.rtt_top.specs.declared.serve_modes.ServeMode.{ServeMode}
use Rattle.rtt_top.specs.declared.serve_modes.ServeMode.TheVariants.{Alone, Watched}
use Rattle.rtt_top.specs.Conferences.{fault_of_live, serving_of}
use Rattle.rtt_top.specs.Faults.{is_live}
use Rattle.rtt_top.specs.Outside.{Failed, LinksLeft, Output, Outside, output_at}
use Rattle.rtt_top.specs.Ports.{LegFailed}
use Rattle.rtt_top.specs.Runs.{Ends, Prints, PrintsFront}
use Rattle.rtt_top.specs.Sinks.{Wrote, WrotePartly}
use Rattle.rtt_top.specs.Statuses.{is_unread}

-- the clock of these links, from the ones to the others
abbrev pub span_between : LinksLeft → LinksLeft → Span
span_between old new = record { pauses = old.pauses; first = old.moment; last = new.moment }

-- A live call of a conference was served to this end, and this was printed of it: the legs' links gave this and were given that, and it
-- keeps what a live call promises. Where the links tell it, that is what they left at the legs' ports, and
-- the links that were opened are one of each leg, from its port to its peer, and no other; and where all
-- turns were made, a tick went by for each. No call that opens a link failed,
-- and where all links were closed, none of their ends did.
pub record IsServedTo (c : Conference) (LinksTell : Type 0) (old new : LinksLeft) (end : End) (printed : List ℕ) : Type 0 where
  pub takes : ℕ → Takes
  pub given : ℕ → List (List ℕ)
  pub keeps : HeadLive c takes given end printed
  pub turned : LinksTell → WasPaced c keeps.served.table (span_between old new) (at_ports_of c new.given)
  pub taken : LinksTell → AtPorts c new.taken takes
  pub gave : LinksTell → AtPorts c (packets_in new.given) given
  pub leads : LinksTell → LeadsAll c old.leads new.leads
  pub paced : LinksTell → end ≡ Done → IsPaced c.turns c.tick old.moment new.moment
  pub paused : end ≡ Done → IsPaused c.turns old.pauses new.pauses
  pub all_opened : (port : ℕ) → new.calls port ≡ old.calls port
  pub calm : end ≡ Closed → (port : ℕ) → new.ends port ≡ old.ends port

-- The same by `watch`: behind what is printed of a live call stand the lines of its board, which count what the mixer took in that very
-- call: of each leg at least what any aware terminal was given of its text.
pub record IsWatchedTo (c : Conference) (LinksTell : Type 0) (old new : LinksLeft) (end : End) (printed : List ℕ) : Type 0 where
  pub views : List ℕ
  pub lines : List ℕ
  pub served : IsServedTo c LinksTell old new end views
  pub board : IsBoardOf c served.takes served.keeps.served.table end lines
  pub covers : CoversTold c served.keeps.served.table
  pub printed_is : printed ≡ views ++ lines

-- what serving a live call so means
abbrev pub served_by : ServeMode → Conference → (LinksTell : Type 0) → LinksLeft → LinksLeft → End → List ℕ → Type 0
served_by Alone c LinksTell old new = IsServedTo c LinksTell old new
served_by Watched c LinksTell old new = IsWatchedTo c LinksTell old new

-- a conference that some file of its form describes was served, as S says
abbrev pub ServedAs : (S : Conference → Type 0 → LinksLeft → LinksLeft → End → List ℕ → Type 0) → Type 0
    → LinksLeft → LinksLeft → Conference → End → List ℕ → Type 0
ServedAs S LinksTell old new c end printed = (octets : List ℕ) → conference_from Links octets ≡ Ok c
    → S c LinksTell old new end printed

-- it was served to some end, as S says, and this holds of what was printed of it
abbrev pub IsServedWith : (S : End → List ℕ → Type 0) → (List ℕ → Type 0) → Type 0
IsServedWith S P = (end : End) × (printed : List ℕ) × S end printed × P printed

-- how a live call of a conference ends, by what links and the output left
abbrev pub LiveEnds : (S : End → List ℕ → Type 0) (OutTells : Type 0) → (old new : LinksLeft)
    → (before after : Output) → Conference → Ending → Type 0
LiveEnds S OutTells old new before after c (Ok done) =
    IsServedWith S (λ printed. OutTells → after.octets ≡ before.octets ++ printed)
LiveEnds S OutTells old new before after c (Err WrongWords) = ⊥
LiveEnds S OutTells old new before after c (Err (CannotOpen input)) = ⊥
LiveEnds S OutTells old new before after c (Err (CannotRead input)) = ⊥
LiveEnds S OutTells old new before after c (Err (Refused input refusal)) = ⊥
LiveEnds S OutTells old new before after c (Err CannotPrint) = Failed before after
    × IsServedWith S (λ printed. OutTells → (n : ℕ) × (after.octets ≡ before.octets ++ take n printed))
LiveEnds S OutTells old new before after c (Err (CannotWrite output)) = ⊥
LiveEnds S OutTells old new before after c (Err (LinkFailed leg)) = (after ≡ before)
    × ((name : List ℕ) × LegFailed c leg name old new)
LiveEnds S OutTells old new before after c (Err NoMemory) = after ≡ before

-- the same of a conference that some file of its form describes
abbrev pub ServingEnds : (S : End → List ℕ → Type 0) (OutTells : Type 0) → (old new : LinksLeft)
    → (before after : Output) → Conference → Ending → Type 0
ServingEnds S OutTells old new before after c ending =
    (octets : List ℕ) → conference_from Links octets ≡ Ok c → LiveEnds S OutTells old new before after c ending

-- what was seen of a call is printed, where this was served; or nothing is, and the ending tells why it was given up
abbrev pub PrintsReport : {K : Type 0} → sinks.Ghosts K → Result LiveReport LiveFault → K → K → Ending → Type 0
PrintsReport k (Ok report) old new ending = IfErr ending (λ fault. fault ≡ CannotPrint)
    × OnErr ending (Failed (output_at k old) (output_at k new))
    × Wrote k old new report.views ending
    × WrotePartly k old new report.views ending
PrintsReport k (Err fault) old new ending = (new ≡ old) × (ending ≡ Err (fault_of_live fault))

-- what the output took: all that is printed, or a front of it, where it failed
pub data Share : Type 0 where
  Whole : Share
  Front : Share

-- the status that says so
abbrev pub status_at : Share → ℕ
status_at Whole = 0
status_at Front = 7

abbrev pub PrintsShare : Share → List ℕ → Outside → Outside → Type 0
PrintsShare Whole printed old new = Prints printed old new
PrintsShare Front printed old new = PrintsFront printed old new

-- A live call of the conference in this file was served to its end, as S says: the headline, from the file to what was printed.
pub record IsServedFrom (share : Share) (S : Conference → End → List ℕ → Type 0) (WorldTells OutTells : Type 0) (m : MixWords) (old new : Outside) : Type 0 where
  pub octets : List ℕ
  pub lies : WorldTells → old.contents m.conference ≡ Some octets
  pub conference : Conference
  pub is : conference_from Links octets ≡ Ok conference
  pub end : End
  pub printed : List ℕ
  pub served : S conference end printed
  pub prints : OutTells → PrintsShare share printed old new

-- A live call of the conference was given up. Where the links tell it, the links that were opened are those of some legs, from the
-- first one on, each from its port to its peer, and no other. It broke off, or no terminal was given anything.
pub record IsGivenUp (c : Conference) (LinksTell : Type 0) (old new : LinksLeft) : Type 0 where
  pub leads : LinksTell → LeadsSome c old.leads new.leads
  pub broke_off : BrokeOff LinksTell (span_between old new) old.given new.taken new.given c

-- where the ending says that it was given up, this holds
abbrev pub OnGivenUp : Ending → Type 0 → Type 0
OnGivenUp (Err (LinkFailed leg)) P = P
OnGivenUp (Err NoMemory) P = P
OnGivenUp _ P = Unit {0}

-- a live call of the conference in this file was given up so
pub record IsGivenUpFrom (WorldTells LinksTell : Type 0) (m : MixWords) (old new : Outside) : Type 0 where
  pub octets : List ℕ
  pub lies : WorldTells → old.contents m.conference ≡ Some octets
  pub conference : Conference
  pub is : conference_from Links octets ≡ Ok conference
  pub given_up : IsGivenUp conference LinksTell old.links new.links

-- at the status 8 one was; at 70 one was, or no link was used
pub record GivesUp (WorldTells LinksTell : Type 0) (m : MixWords) (old new : Outside) (status : ℕ) : Type 0 where
  pub failed : status ≡ 8 → IsGivenUpFrom WorldTells LinksTell m old new
  pub no_memory : status ≡ 70 → IsGivenUpFrom WorldTells LinksTell m old new ⊎ (new.links ≡ old.links)

-- A live call of the conference in this file was served so, at the status 0 or 7, or given up so, at 8 or 70.
pub record IsCallOf (S : Conference → End → List ℕ → Type 0) (WorldTells OutTells LinksTell : Type 0) (m : MixWords) (old new : Outside) (status : ℕ) : Type 0 where
  pub served : (share : Share) → status ≡ status_at share → IsServedFrom share S WorldTells OutTells m old new
  pub given_up : GivesUp WorldTells LinksTell m old new status

-- where a live call is asked for, alone or with a board, one was made so
abbrev pub RunsCall : Option Command → (WorldTells OutTells LinksTell : Type 0) → Outside → Outside → ℕ → Type 0
RunsCall (Some (Live m)) WorldTells OutTells LinksTell old new = IsCallOf (λ c. IsServedTo c LinksTell old.links new.links) WorldTells OutTells LinksTell m old new
RunsCall (Some (Watch m)) WorldTells OutTells LinksTell old new = IsCallOf (λ c. IsWatchedTo c LinksTell old.links new.links) WorldTells OutTells LinksTell m old new
RunsCall _ WorldTells OutTells LinksTell old new = λ status. Unit {0}

-- the status says that the conference can't be read (3, 4) or is refused (5), so that no live call began
abbrev pub is_unserved : ℕ → Bool
is_unserved status = is_unread status || status == 5

-- Whether no link is used: where no live call is asked for, or where none began.
abbrev pub uses_no_link : Option Command → ℕ → Bool
uses_no_link None status = true
uses_no_link (Some c) status = not (is_live c) || is_unserved status

-- A command that serves a live call of this file ended so, with this status, and this was told of it.
pub record EndsServing (file : List ℕ) (WorldTells OutTells ErrTells : Type 0) (old new : Outside) (before after : Output) (status : ℕ) : Type 0 where
  pub ending : Ending
  pub name : List ℕ
  pub is_status : status ≡ status_of ending
  pub ends : Ends (serving_of file) WorldTells OutTells old new name ending
  pub silent : ending ≡ Ok tt → after.octets ≡ before.octets
  pub front : ErrTells → TakesFront before.octets after.octets (message_of name ending)
  pub told : ErrTells → (Failed before after → ⊥) → after.octets ≡ before.octets ++ message_of name ending
