-- A live call: how it ends for the command.
use Rattle.std.proofs.Common.{◌≡◌, ℕ, ◌++◌, true, false, true≢false, inl, inr, take, Option, Some, List, Result, Ok, Err, refl, ap, sym, subst, ◌∙◌}
use Rattle.std.specs.Prelude.{◌==◌, ◌||◌, IfErr, IfOk, OnOk, OnErr}
use Rattle.file_spec.specs.declared.conference_lines.Form.TheVariants.{Links}
use Rattle.file_spec.specs.Conference.{Conference, conference_from}
use Rattle.file_spec.specs.Lines as lines
use Rattle.mixer_spec.specs.Setups.{leg_at}
use Rattle.rtt_io.specs.declared.sinks.Sink as sinks
use Rattle.live_spec.specs.Served as served
use Rattle.live_spec.specs.Served.{IsServed}
use Rattle.live_spec.specs.Watched.{IsBoardOf}
use Rattle.live_spec.proofs.LinksStay.{apart_law, stay_law}
use Rattle.live_spec.proofs.Totals.{covers_told}
use Rattle.mix_loop.specs.Clocks.{IsPaced}
use Rattle.mix_loop.specs.Walks.{IsPaused}
use Rattle.rtt_live.specs.declared.faults.LiveFault.{LiveFault}
use Rattle.rtt_live.specs.declared.faults.LiveFault.TheVariants as live
use Rattle.rtt_live.specs.declared.reports.LiveEnd.{LiveEnd}
use Rattle.rtt_live.specs.declared.reports.LiveReport.{LiveReport}
use Rattle.rtt_live.specs.declared.reports.LiveEnd.TheVariants as ends
use Rattle.rtt_live.specs.Calls.{BrokeOff, IsOfLinks, WasGivenUp, WasPaced, WasServed, at_ports_of}
use Rattle.rtt_live.specs.Opened.{LeadsAll, LeadsSome}
use Rattle.rtt_live.specs.Reports.{end_of}
use Rattle.rtt_live.specs.Watched.{WasWatched}
use Rattle.command_spec.specs.declared.faults.Fault.{Fault}
use Rattle.command_spec.specs.declared.faults.Fault.TheVariants.{WrongWords, CannotOpen, CannotRead, Refused, CannotPrint, CannotWrite, LinkFailed, NoMemory}
use Rattle.command_spec.specs.declared.faults.Refusal.TheVariants.{AtByte, AtFrame, AtLine, AtTrunk, AfterTurns}
use Rattle.rtt_words.specs.Words.{MixWords, Command, Live, Watch}
use Rattle.command_spec.specs.Work.{Contents, Made, ServesSome}
use Rattle.command_spec.specs.Outcomes.{Outcome, Served, outcome, outcome_from, IsDone, AllStored, Same}
use Rattle.command_spec.specs.Serving.{serves_read, serving}
use Rattle.command_spec.specs.Messages.{Ending, status_of}
use Rattle.rtt_top.specs.Conferences.{ending_name, fault_of_live, name_of, serving_of}
use Rattle.rtt_top.specs.Faults.{Stops, is_check}
use Rattle.rtt_top.specs.Outside.{Failed, LinksLeft, Output, Outside, output_at}
use Rattle.rtt_top.specs.Ports.{LegFailed}
use Rattle.rtt_top.specs.Runs.{Prints, PrintsFront, Ends, Runs}
use Rattle.rtt_top.specs.Lives.{EndsServing, Front, GivesUp, IsGivenUp, IsGivenUpFrom, IsServedFrom, IsServedTo, IsWatchedTo, LiveEnds, OnGivenUp, PrintsReport, RunsCall, ServedAs, ServingEnds, Share, Whole, is_unserved, span_between, status_at}
use Rattle.rtt_top.specs.Statuses.{is_unread}
use Rattle.rtt_top.proofs.Statused.{other}
use Rattle.rtt_top.proofs.Working.{lies}
use Rattle.rtt_top.proofs.Ending.{runs}

pub is_of_links : (octets : List ℕ) (c : Conference) → conference_from Links octets ≡ Ok c → IsOfLinks c
is_of_links octets c e =
    let ports = apart_law octets c e in
    record { ports = ports.each; apart = ports.differ; stay = stay_law octets c e }

-- ---- what `serve` answers
is_done : (end : LiveEnd) → end_of end ≡ served.Done → end ≡ ends.Done
is_done ends.Done e = refl
is_done ends.Closed e = absurd (cc e)

is_closed : (end : LiveEnd) → end_of end ≡ served.Closed → end ≡ ends.Closed
is_closed ends.Done e = absurd (cc e)
is_closed ends.Closed e = refl

pub was_served : (LinksTell : Type 0) (old new : LinksLeft) (octets : List ℕ) (c : Conference) (end : LiveEnd) (printed : List ℕ) → conference_from Links octets ≡ Ok c
    → WasServed LinksTell (span_between old new) new.taken new.given c (end_of end) printed → (end ≡ ends.Done → IsPaused c.turns old.pauses new.pauses)
    → (LinksTell → end ≡ ends.Done → IsPaced c.turns c.tick old.moment new.moment) → (LinksTell → LeadsAll c old.leads new.leads) → ((port : ℕ) → new.calls port ≡ old.calls port) → (end ≡ ends.Closed → (port : ℕ) → new.ends port ≡ old.ends port)
    → IsServedTo c LinksTell old new (end_of end) printed
was_served LinksTell old new octets c end printed read w paused paced leads opened calm = record {
  takes = w.takes;
  given = w.given;
  keeps = w.keeps octets read;
  turned = λ t. subst (λ (s : IsServed c w.takes w.given (end_of end) printed). WasPaced c s.table (span_between old new) (at_ports_of c new.given)) (sym (w.same octets read)) (w.paced t);
  taken = w.taken;
  gave = w.gave;
  leads = leads;
  paced = λ t e. paced t (is_done end e);
  paused = λ e. paused (is_done end e);
  all_opened = opened;
  calm = λ e. calm (is_closed end e);
}

pub was_watched : (LinksTell : Type 0) (old new : LinksLeft) (octets : List ℕ) (c : Conference) (end : LiveEnd) (printed : List ℕ) → conference_from Links octets ≡ Ok c
    → WasWatched LinksTell (span_between old new) new.taken new.given c (end_of end) printed → (end ≡ ends.Done → IsPaused c.turns old.pauses new.pauses)
    → (LinksTell → end ≡ ends.Done → IsPaced c.turns c.tick old.moment new.moment) → (LinksTell → LeadsAll c old.leads new.leads) → ((port : ℕ) → new.calls port ≡ old.calls port) → (end ≡ ends.Closed → (port : ℕ) → new.ends port ≡ old.ends port)
    → IsWatchedTo c LinksTell old new (end_of end) printed
unfolding was_served
was_watched LinksTell old new octets c end printed read w paused paced leads opened calm = record {
  views = w.views;
  lines = w.lines;
  served = was_served LinksTell old new octets c end w.views read w.was paused paced leads opened calm;
  board = subst (λ (s : IsServed c w.was.takes w.was.given (end_of end) w.views). IsBoardOf c w.was.takes s.table (end_of end) w.lines) (sym (w.was.same octets read)) w.board;
  covers = covers_told c w.was.takes w.was.given (end_of end) w.views (w.was.keeps octets read);
  printed_is = w.printed_is;
}

-- all turns were made, where the answer says so
abbrev pub IsPausedAtEnd : LinksLeft → LinksLeft → Conference → LiveReport → Type 0
IsPausedAtEnd old new c report = report.end ≡ ends.Done → IsPaused c.turns old.pauses new.pauses

abbrev pub IsPacedAtEnd : LinksLeft → LinksLeft → Conference → LiveReport → Type 0
IsPacedAtEnd old new c report = report.end ≡ ends.Done → IsPaced c.turns c.tick old.moment new.moment

-- no call that opens a link failed
abbrev pub AllOpened : LinksLeft → LinksLeft → Type 0
AllOpened old new = (port : ℕ) → new.calls port ≡ old.calls port

-- where all links were closed, none of their ends did
abbrev pub IsCalmAtEnd : LinksLeft → LinksLeft → LiveReport → Type 0
IsCalmAtEnd old new report = report.end ≡ ends.Closed → (port : ℕ) → new.ends port ≡ old.ends port

pub served_as : (LinksTell : Type 0) (old new : LinksLeft) (c : Conference) (answer : Result LiveReport LiveFault) → IfOk answer (λ r. WasServed LinksTell (span_between old new) new.taken new.given c (end_of r.end) r.views) → IfOk answer (IsPausedAtEnd old new c)
    → (LinksTell → IfOk answer (IsPacedAtEnd old new c)) → (LinksTell → OnOk answer (LeadsAll c old.leads new.leads)) → OnOk answer (AllOpened old new) → IfOk answer (IsCalmAtEnd old new) → IfOk answer (λ r. ServedAs IsServedTo LinksTell old new c (end_of r.end) r.views)
served_as LinksTell old new c (Ok r) w paused paced leads opened calm = λ octets read. was_served LinksTell old new octets c r.end r.views read w paused paced leads opened calm
served_as LinksTell old new c (Err fault) w paused paced leads opened calm = w

pub watched_as : (LinksTell : Type 0) (old new : LinksLeft) (c : Conference) (answer : Result LiveReport LiveFault) → IfOk answer (λ r. WasWatched LinksTell (span_between old new) new.taken new.given c (end_of r.end) r.views) → IfOk answer (IsPausedAtEnd old new c)
    → (LinksTell → IfOk answer (IsPacedAtEnd old new c)) → (LinksTell → OnOk answer (LeadsAll c old.leads new.leads)) → OnOk answer (AllOpened old new) → IfOk answer (IsCalmAtEnd old new) → IfOk answer (λ r. ServedAs IsWatchedTo LinksTell old new c (end_of r.end) r.views)
watched_as LinksTell old new c (Ok r) w paused paced leads opened calm = λ octets read. was_watched LinksTell old new octets c r.end r.views read w paused paced leads opened calm
watched_as LinksTell old new c (Err fault) w paused paced leads opened calm = w

pub given_up : (S : served.End → List ℕ → Type 0) (OutTells : Type 0) (old new : LinksLeft) (out : Output) (c : Conference) (fault : LiveFault)
    → WasGivenUp old.calls new.calls old.ends new.ends c fault → LiveEnds S OutTells old new out out c (Err (fault_of_live fault))
given_up S OutTells old new out c (live.Link leg) w =
    (refl, (w.line.name, record { line = w.line; at = w.at; named = refl; number = w.number; is = w.is; rose = w.rose }))
given_up S OutTells old new out c live.NoMemory w = refl

pub shown : (S : served.End → List ℕ → Type 0) (OutTells : Type 0) (old new : LinksLeft) (before after : Output) (c : Conference) (end : served.End) (printed : List ℕ) (result : Ending)
    → S end printed → IfErr result (λ fault. fault ≡ CannotPrint) → OnErr result (Failed before after)
    → (OutTells → OnOk result (after.octets ≡ before.octets ++ printed)) → (OutTells → OnErr result ((n : ℕ) × (after.octets ≡ before.octets ++ take n printed)))
    → LiveEnds S OutTells old new before after c result
shown S OutTells old new before after c end printed (Ok u) s fault cause whole partly = (end, printed, s, whole)
shown S OutTells old new before after c end printed (Err f) s fault cause whole partly =
    subst (λ g. LiveEnds S OutTells old new before after c (Err g)) (sym fault) (cause, (end, printed, s, partly))

-- a call that is answered so, of which this is printed, ends so
pub answered : {K : Type 0} (k : sinks.Ghosts K) (S : Conference → Type 0 → LinksLeft → LinksLeft → served.End → List ℕ → Type 0) (LinksTell : Type 0) (old new : LinksLeft) (before after : K) (c : Conference)
    (answer : Result LiveReport LiveFault) (ending : Ending) → IfOk answer (λ r. ServedAs S LinksTell old new c (end_of r.end) r.views) → IfErr answer (WasGivenUp old.calls new.calls old.ends new.ends c)
    → PrintsReport k answer before after ending → ServingEnds (S c LinksTell old new) k.tells old new (output_at k before) (output_at k after) c ending
answered {K} k S LinksTell old new before after c (Ok r) ending seen given_up_so prints = λ octets read.
    shown (S c LinksTell old new) k.tells old new (output_at k before) (output_at k after) c (end_of r.end) r.views ending (seen octets read) prints.0 prints.1 prints.2 prints.3
answered {K} k S LinksTell old new before after c (Err fault) ending seen given_up_so prints = λ octets read.
    let EndsAt : K → Ending → Type 0 = λ out e. LiveEnds (S c LinksTell old new) k.tells old new (output_at k before) (output_at k out) c e in
    subst (λ out. EndsAt out ending) (sym prints.0)
    (subst (EndsAt before) (sym prints.1) (given_up (S c LinksTell old new) k.tells old new (output_at k before) c fault given_up_so))

-- ---- how the command ends
served_outcome : (held : Contents) (file octets : List ℕ) (c : Conference) → held file ≡ Some octets → conference_from Links octets ≡ Ok c → outcome held (serving file) ≡ Served c
served_outcome held file octets c there read =
    lies held file (λ octets. serves_read (conference_from Links octets)) octets there ∙ ap (λ (r : Result Conference lines.Refusal). outcome_from 1 held (serves_read r)) read

-- a live call is served that was read there
serves_some : (WorldTells : Type 0) (held : Contents) (file octets : List ℕ) (c : Conference) (P : Conference → Type 0) → (WorldTells → held file ≡ Some octets) → conference_from Links octets ≡ Ok c → P c
    → ServesSome WorldTells held (serving file) P
serves_some WorldTells held file octets c P there read p =
    (octets, there, subst (λ (r : Result Conference lines.Refusal). ServesSome WorldTells held (serves_read r) P) (sym read) p)

-- the same leg, by the name that is told
told_of : (file : List ℕ) (c : Conference) (leg : ℕ) (name : List ℕ) (old new : LinksLeft) → LegFailed c leg name old new → LegFailed c leg (name_of file (leg_at c.legs leg)) old new
told_of file c leg name old new f = record { line = f.line; at = f.at; named = ap (name_of file) f.at; number = f.number; is = f.is; rose = f.rose }

pub ends_live : (S : served.End → List ℕ → Type 0) (WorldTells OutTells : Type 0) (old new : Outside) (file octets : List ℕ) (c : Conference) (ending : Ending) → (WorldTells → old.contents file ≡ Some octets) → conference_from Links octets ≡ Ok c
    → Same old.contents new.contents → LiveEnds S OutTells old.links new.links old.out new.out c ending
    → Ends (serving_of file) WorldTells OutTells old new (ending_name file c.legs ending) ending
ends_live S WorldTells OutTells old new file octets c (Ok u) there read same l = λ told.
    let P : List ℕ → List Made → Type 0 = λ printed files. (WorldTells → AllStored files old.contents new.contents) × (OutTells → Prints printed old new) in
    subst (λ (o : Outcome). IsDone o P) (sym (served_outcome old.contents file octets c (there told) read)) (l.1, ((λ told. same), l.3))
ends_live S WorldTells OutTells old new file octets c (Err WrongWords) there read same l = absurd l
ends_live S WorldTells OutTells old new file octets c (Err (CannotOpen n)) there read same l = absurd l
ends_live S WorldTells OutTells old new file octets c (Err (CannotRead n)) there read same l = absurd l
ends_live S WorldTells OutTells old new file octets c (Err (Refused n (AtByte byte kind))) there read same l = absurd l
ends_live S WorldTells OutTells old new file octets c (Err (Refused n (AtFrame byte kind))) there read same l = absurd l
ends_live S WorldTells OutTells old new file octets c (Err (Refused n (AtLine line kind))) there read same l = absurd l
ends_live S WorldTells OutTells old new file octets c (Err (Refused n (AtTrunk line))) there read same l = absurd l
ends_live S WorldTells OutTells old new file octets c (Err (Refused n (AfterTurns turns))) there read same l = absurd l
ends_live S WorldTells OutTells old new file octets c (Err CannotPrint) there read same l = (
  refl,
  l.0,
  λ told. (let P : List ℕ → List Made → Type 0 = λ printed files. (WorldTells → AllStored files old.contents new.contents) × (OutTells → PrintsFront printed old new) in
      subst (λ (o : Outcome). IsDone o P) (sym (served_outcome old.contents file octets c (there told) read)) (l.1.1, ((λ told. same), l.1.3))),
)
ends_live S WorldTells OutTells old new file octets c (Err (CannotWrite n)) there read same l = absurd l
ends_live S WorldTells OutTells old new file octets c (Err (LinkFailed leg)) there read same l = (
  refl,
  serves_some WorldTells old.contents file octets c (λ conference. LegFailed conference leg (name_of file (leg_at c.legs leg)) old.links new.links) there read (told_of file c leg l.1.0 old.links new.links l.1.1),
  ((λ shown. ap (λ (o : Output). o.octets) l.0), λ told. same),
)
ends_live S WorldTells OutTells old new file octets c (Err NoMemory) there read same l = ((λ shown. ap (λ (o : Output). o.octets) l), λ told. same)

-- ---- the headline
-- what stops over the file that is read first has neither status
no_status : (share : Share) (Told : Type 0) (held : Contents) (c : Command) (Call Object : Type 0) (fault : Fault) → Stops Told held c Call Object fault → (let e : Ending = Err fault in status_of e ≡ status_at share) → ⊥
no_status share Told held c Call Object WrongWords s e = absurd s
no_status Whole Told held c Call Object (CannotOpen n) s e = cc e
no_status Front Told held c Call Object (CannotOpen n) s e = cc e
no_status Whole Told held c Call Object (CannotRead n) s e = cc e
no_status Front Told held c Call Object (CannotRead n) s e = cc e
no_status Whole Told held c Call Object (Refused n (AtByte byte kind)) s e = cc e
no_status Front Told held c Call Object (Refused n (AtByte byte kind)) s e = cc e
no_status Whole Told held c Call Object (Refused n (AtFrame byte kind)) s e = cc e
no_status Front Told held c Call Object (Refused n (AtFrame byte kind)) s e = cc e
no_status Whole Told held c Call Object (Refused n (AtLine line kind)) s e = cc e
no_status Front Told held c Call Object (Refused n (AtLine line kind)) s e = cc e
no_status Whole Told held c Call Object (Refused n (AtTrunk line)) s e = cc e
no_status Front Told held c Call Object (Refused n (AtTrunk line)) s e = cc e
no_status Whole Told held c Call Object (Refused n (AfterTurns turns)) s e = cc e
no_status Front Told held c Call Object (Refused n (AfterTurns turns)) s e = cc e
no_status share Told held c Call Object CannotPrint s e = absurd s
no_status share Told held c Call Object (CannotWrite n) s e = absurd s
no_status share Told held c Call Object (LinkFailed leg) s e = absurd s
no_status Whole Told held c Call Object NoMemory s e = cc e
no_status Front Told held c Call Object NoMemory s e = cc e

-- a call that was served so has status 0, or 7 where the output failed
pub served_from : (share : Share) (S : Conference → served.End → List ℕ → Type 0) (WorldTells OutTells : Type 0) (old new : Outside) (m : MixWords) (octets : List ℕ) (c : Conference) (status : ℕ) (ending : Ending) → (WorldTells → old.contents m.conference ≡ Some octets) → conference_from Links octets ≡ Ok c
    → status ≡ status_of ending → LiveEnds (S c) OutTells old.links new.links old.out new.out c ending → status ≡ status_at share → IsServedFrom share S WorldTells OutTells m old new
served_from Whole S WorldTells OutTells old new m octets c status (Ok u) there read is l at = record { octets = octets; lies = there; conference = c; is = read; end = l.0; printed = l.1; served = l.2; prints = l.3 }
served_from Front S WorldTells OutTells old new m octets c status (Ok u) there read is l at = absurd (cc (is, at))
served_from share S WorldTells OutTells old new m octets c status (Err WrongWords) there read is l at = absurd l
served_from share S WorldTells OutTells old new m octets c status (Err (CannotOpen n)) there read is l at = absurd l
served_from share S WorldTells OutTells old new m octets c status (Err (CannotRead n)) there read is l at = absurd l
served_from share S WorldTells OutTells old new m octets c status (Err (Refused n refusal)) there read is l at = absurd l
served_from Whole S WorldTells OutTells old new m octets c status (Err CannotPrint) there read is l at = absurd (cc (is, at))
served_from Front S WorldTells OutTells old new m octets c status (Err CannotPrint) there read is l at = record { octets = octets; lies = there; conference = c; is = read; end = l.1.0; printed = l.1.1; served = l.1.2; prints = l.1.3 }
served_from share S WorldTells OutTells old new m octets c status (Err (CannotWrite n)) there read is l at = absurd l
served_from Whole S WorldTells OutTells old new m octets c status (Err (LinkFailed leg)) there read is l at = absurd (cc (is, at))
served_from Front S WorldTells OutTells old new m octets c status (Err (LinkFailed leg)) there read is l at = absurd (cc (is, at))
served_from Whole S WorldTells OutTells old new m octets c status (Err NoMemory) there read is l at = absurd (cc (is, at))
served_from Front S WorldTells OutTells old new m octets c status (Err NoMemory) there read is l at = absurd (cc (is, at))

-- a command that stopped over its file has neither
pub failed : (share : Share) (Told : Type 0) (held : Contents) (c : Command) (Call Object : Type 0) (status : ℕ) (fault : Fault) → Stops Told held c Call Object fault → (let e : Ending = Err fault in status ≡ status_of e) → status ≡ status_at share → ⊥
failed share Told held c Call Object status fault s is at = no_status share Told held c Call Object fault s (sym is ∙ at)

-- links were used where a live call was begun, whatever came of it
pub used : (S : served.End → List ℕ → Type 0) (OutTells : Type 0) (old new : LinksLeft) (before after : Output) (c : Conference) (status : ℕ) (ending : Ending) → status ≡ status_of ending → LiveEnds S OutTells old new before after c ending
    → is_unserved status ≡ true → ⊥
used S OutTells old new before after c status (Ok u) is l e = true≢false (sym e ∙ ap (λ n. is_unread n || n == 5) is)
used S OutTells old new before after c status (Err WrongWords) is l e = absurd l
used S OutTells old new before after c status (Err (CannotOpen n)) is l e = absurd l
used S OutTells old new before after c status (Err (CannotRead n)) is l e = absurd l
used S OutTells old new before after c status (Err (Refused n refusal)) is l e = absurd l
used S OutTells old new before after c status (Err CannotPrint) is l e = true≢false (sym e ∙ ap (λ n. is_unread n || n == 5) is)
used S OutTells old new before after c status (Err (CannotWrite n)) is l e = absurd l
used S OutTells old new before after c status (Err (LinkFailed leg)) is l e = true≢false (sym e ∙ ap (λ n. is_unread n || n == 5) is)
used S OutTells old new before after c status (Err NoMemory) is l e = true≢false (sym e ∙ ap (λ n. is_unread n || n == 5) is)

-- ---- a call that was given up
pub given_up_as : (LinksTell : Type 0) (old new : LinksLeft) (c : Conference) (answer : Result LiveReport LiveFault) → (LinksTell → OnErr answer (LeadsSome c old.leads new.leads)) → OnErr answer (BrokeOff LinksTell (span_between old new) old.given new.taken new.given c)
    → OnErr answer (IsGivenUp c LinksTell old new)
given_up_as LinksTell old new c (Ok r) leads broke = tt
given_up_as LinksTell old new c (Err fault) leads broke = record { leads = leads; broke_off = broke }

-- what is answered of it is how it ends
pub given_up_answer : {K : Type 0} (k : sinks.Ghosts K) (answer : Result LiveReport LiveFault) (before after : K) (ending : Ending) (P : Type 0) → OnErr answer P → PrintsReport k answer before after ending → OnGivenUp ending P
given_up_answer k (Ok r) before after (Ok u) P p prints = tt
given_up_answer k (Ok r) before after (Err fault) P p prints = subst (λ (f : Fault). let e : Ending = Err f in OnGivenUp e P) (sym prints.0) tt
given_up_answer k (Err (live.Link leg)) before after ending P p prints = subst (λ (e : Ending). OnGivenUp e P) (sym prints.1) p
given_up_answer k (Err live.NoMemory) before after ending P p prints = subst (λ (e : Ending). OnGivenUp e P) (sym prints.1) p

-- a call of the conference in this file
pub given_up_from : (S : served.End → List ℕ → Type 0) (WorldTells OutTells LinksTell : Type 0) (old new : Outside) (m : MixWords) (octets : List ℕ) (c : Conference) (status : ℕ) (ending : Ending) → (WorldTells → old.contents m.conference ≡ Some octets) → conference_from Links octets ≡ Ok c
    → status ≡ status_of ending → LiveEnds S OutTells old.links new.links old.out new.out c ending → OnGivenUp ending (IsGivenUp c LinksTell old.links new.links) → GivesUp WorldTells LinksTell m old new status
given_up_from S WorldTells OutTells LinksTell old new m octets c status (Ok u) there read is l g = record { failed = λ at. absurd (cc (is, at)); no_memory = λ at. absurd (cc (is, at)) }
given_up_from S WorldTells OutTells LinksTell old new m octets c status (Err WrongWords) there read is l g = absurd l
given_up_from S WorldTells OutTells LinksTell old new m octets c status (Err (CannotOpen n)) there read is l g = absurd l
given_up_from S WorldTells OutTells LinksTell old new m octets c status (Err (CannotRead n)) there read is l g = absurd l
given_up_from S WorldTells OutTells LinksTell old new m octets c status (Err (Refused n refusal)) there read is l g = absurd l
given_up_from S WorldTells OutTells LinksTell old new m octets c status (Err CannotPrint) there read is l g = record { failed = λ at. absurd (cc (is, at)); no_memory = λ at. absurd (cc (is, at)) }
given_up_from S WorldTells OutTells LinksTell old new m octets c status (Err (CannotWrite n)) there read is l g = absurd l
given_up_from S WorldTells OutTells LinksTell old new m octets c status (Err (LinkFailed leg)) there read is l g =
    let this : IsGivenUpFrom WorldTells LinksTell m old new = record { octets = octets; lies = there; conference = c; is = read; given_up = g } in record { failed = λ at. this; no_memory = λ at. inl this }
given_up_from S WorldTells OutTells LinksTell old new m octets c status (Err NoMemory) there read is l g =
    let this : IsGivenUpFrom WorldTells LinksTell m old new = record { octets = octets; lies = there; conference = c; is = read; given_up = g } in record { failed = λ at. this; no_memory = λ at. inl this }

-- what stops over the file that is read first has not the status 8
not_a_link : (Told : Type 0) (held : Contents) (c : Command) (Call Object : Type 0) (fault : Fault) → Stops Told held c Call Object fault → (let e : Ending = Err fault in status_of e ≡ 8) → ⊥
not_a_link Told held c Call Object WrongWords s e = absurd s
not_a_link Told held c Call Object (CannotOpen n) s e = cc e
not_a_link Told held c Call Object (CannotRead n) s e = cc e
not_a_link Told held c Call Object (Refused n (AtByte byte kind)) s e = cc e
not_a_link Told held c Call Object (Refused n (AtFrame byte kind)) s e = cc e
not_a_link Told held c Call Object (Refused n (AtLine line kind)) s e = cc e
not_a_link Told held c Call Object (Refused n (AtTrunk line)) s e = cc e
not_a_link Told held c Call Object (Refused n (AfterTurns turns)) s e = cc e
not_a_link Told held c Call Object CannotPrint s e = absurd s
not_a_link Told held c Call Object (CannotWrite n) s e = absurd s
not_a_link Told held c Call Object (LinkFailed leg) s e = absurd s
not_a_link Told held c Call Object NoMemory s e = cc e

pub not_begun : (Told : Type 0) (held : Contents) (c : Command) (Call Object WorldTells LinksTell : Type 0) (m : MixWords) (old new : Outside) (status : ℕ) (fault : Fault) → Stops Told held c Call Object fault → (let e : Ending = Err fault in status ≡ status_of e) → new.links ≡ old.links
    → GivesUp WorldTells LinksTell m old new status
not_begun Told held c Call Object WorldTells LinksTell m old new status fault s is same = record { failed = λ at. absurd (not_a_link Told held c Call Object fault s (sym is ∙ at)); no_memory = λ at. inr same }

-- what was asked for is a call that was served, or given up, so
pub runs_call : (words : Option Command) (c : Command) (WorldTells OutTells LinksTell : Type 0) (old new : Outside) (status : ℕ) → words ≡ Some c
    → RunsCall (Some c) WorldTells OutTells LinksTell old new status → RunsCall words WorldTells OutTells LinksTell old new status
runs_call words c WorldTells OutTells LinksTell old new status is call = subst (λ w. RunsCall w WorldTells OutTells LinksTell old new status) (sym is) call

-- a live call that was served of a file ended as a command that serves the same file
pub runs_served : {words : Option Command} {file : List ℕ} {WorldTells OutTells ErrTells : Type 0} {old new : Outside} {before after : Output} {status : ℕ} (c : Command) → words ≡ Some c → is_check c ≡ false
    → ((name : List ℕ) (ending : Ending) → Ends (serving_of file) WorldTells OutTells old new name ending → Ends c WorldTells OutTells old new name ending)
    → EndsServing file WorldTells OutTells ErrTells old new before after status → Runs words WorldTells OutTells ErrTells old new before after status
runs_served {words} {file} {WorldTells} {OutTells} {ErrTells} {old} {new} {before} {after} {status} c is off same e =
    subst (λ w. Runs w WorldTells OutTells ErrTells old new before after status) (sym is)
    (runs e.ending e.name (other c WorldTells old.contents e.ending status off e.is_status) (same e.name e.ending e.ends) e.silent e.front e.told)
