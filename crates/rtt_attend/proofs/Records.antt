-- The records of an input, heard one after another.
use Rattle.std.proofs.Common.{◌≡◌, ◌<◌, ℕ, true, false, Option, Some, None, List, [], refl, ap, sym, subst, ◌∙◌}
use Rattle.std.specs.Prelude.{max, min, Result, Ok, Err}
use Rattle.wire_spec.specs.declared.faults.DumpKind.TheVariants.{Read}
use Rattle.wire_spec.specs.Dump.{Fault, Item, Recording, dump}
use Rattle.view_spec.specs.declared.tallies.Tally.{Tally}
use Rattle.rtt_attend.specs.declared.inputs.Sender.{Sender}
use Rattle.rtt_attend.specs.Counted.{CountsFate, IsCounted, fate_in}
use Rattle.rtt_attend.proofs.Tallying.{StayFew, all_counted, item_counted, stay_few}
use Rattle.rtt_io.specs.Counts.{Rose}
use Rattle.rtt_mix.proofs.Answering.{source_read}
use Rattle.wire_spec.specs.declared.rtcp_faults.RtcpRefusal.TheVariants.{Short}
use Rattle.wire_spec.specs.Rtcp.{packets_within, rtcp}
use Rattle.wire_spec.specs.Recorded.{Entry, entries}
use Rattle.rtpdump_io.specs.declared.items.DumpItem.{DumpItem}
use Rattle.rtpdump_io.specs.declared.items.DumpItem.TheVariants.{Packet, Rtcp, Cut, Large, End}
use Rattle.rtpdump_io.specs.declared.items.DumpFault.{DumpFault}
use Rattle.rtpdump_io.specs.declared.readers.DumpReader.{DumpReader}
use Rattle.rtpdump_io.specs.Entries.{GivesEntry, entries_to_come, entry_as}
use Rattle.rtpdump_io.specs.Reading.{Gives, is_ended, is_last, is_of_source, most_answers, source_of, to_come}
use Rattle.rtpdump_io.proofs.Told.{gives_fault}
use Rattle.command_spec.specs.Attending as attending
use Rattle.command_spec.specs.Attending.{and_read, nothing, said_after, said_by}
use Rattle.rtt_attend.specs.declared.source_notes.SourceNotes.{SourceNotes}
use Rattle.rtt_attend.specs.Heard.{Hears, HearsAll, TellsItem, moment_of, said_of, tally_of}

-- no octets are no RTCP
none_read : rtcp [] ≡ Err Short
unfolding rtcp packets_within
none_read = refl

-- ---- one record
-- one that is none of RTCP tells nothing
other : (ssrc latest at t : ℕ) (rest : List Entry) (old new : SourceNotes) → Some t ≡ Some at → said_of new ≡ said_of old
    → said_after ssrc (max latest t) (and_read ssrc (max latest t) (said_of old) (rtcp [])) rest ≡ said_after ssrc (max latest at) (said_of new) rest
other ssrc latest at t rest old new is same =
    let moment : t ≡ at = cc is in
    ap (λ read. said_after ssrc (max latest t) (and_read ssrc (max latest t) (said_of old) read) rest) none_read
    ∙ (ap (λ n. said_after ssrc (max latest n) (said_of old) rest) moment
    ∙ ap (λ said. said_after ssrc (max latest at) said rest) (sym same))

-- what a record tells, and those behind it
one_heard : (ssrc latest at : ℕ) (item : DumpItem) (out : List ℕ) (rest : List Entry) (old new : SourceNotes) → moment_of item ≡ Some at → TellsItem ssrc (max latest at) item out old new
    → said_after ssrc latest (said_of old) (entry_as item out rest) ≡ said_after ssrc (max latest at) (said_of new) rest
one_heard ssrc latest at (Packet t) out rest old new is tells = other ssrc latest at t rest old new is tells
one_heard ssrc latest at (Cut t) out rest old new is tells = other ssrc latest at t rest old new is tells
one_heard ssrc latest at (Large t) out rest old new is tells = other ssrc latest at t rest old new is tells
one_heard ssrc latest at (Rtcp t) out rest old new is tells =
    let same : t ≡ at = cc is in
    ap (λ n. said_after ssrc (max latest n) (and_read ssrc (max latest n) (said_of old) (rtcp out)) rest) same
    ∙ ap (λ said. said_after ssrc (max latest at) said rest) (sym tells)
one_heard ssrc latest at End out rest old new is tells = absurd (cc is)

-- no fault is told by a record
same_fault : (item : DumpItem) (at : ℕ) (out : List ℕ) (old new : Recording) → moment_of item ≡ Some at → Gives (Ok item) out old new → new.fault ≡ old.fault
same_fault (Packet t) at out old new is gives = ap (λ (r : Recording). r.fault) (sym gives)
same_fault (Rtcp t) at out old new is gives = ap (λ (r : Recording). r.fault) (sym gives)
same_fault (Cut t) at out old new is gives = ap (λ (r : Recording). r.fault) (sym gives)
same_fault (Large t) at out old new is gives = ap (λ (r : Recording). r.fault) (sym gives)
same_fault End at out old new is gives = absurd (cc is)

goes_on : (item : DumpItem) (at : ℕ) → moment_of item ≡ Some at → is_last (Ok item) ≡ false
goes_on (Packet t) at is = refl
goes_on (Rtcp t) at is = refl
goes_on (Cut t) at is = refl
goes_on (Large t) at is = refl
goes_on End at is = absurd (cc is)

is_the_end : (item : DumpItem) → moment_of item ≡ None → item ≡ End
is_the_end (Packet t) is = absurd (cc is)
is_the_end (Rtcp t) is = absurd (cc is)
is_the_end (Cut t) is = absurd (cc is)
is_the_end (Large t) is = absurd (cc is)
is_the_end End is = refl

-- ---- all of them
-- What holds between two records of a reading that began so.
pub record Going {S : Type 0} (tells : Type 0) (left : S → List ℕ) (faults : S → ℕ) (name : S → List ℕ) (r : Sender) (before now : DumpReader S) (latest : ℕ) (said : SourceNotes) : Type 0 where
  pub not_ended : is_ended now ≡ false
  pub same_name : name (source_of now) ≡ name (source_of before)
  pub calm : faults (source_of now) ≡ faults (source_of before)
  pub heard : tells → said_after r.ssrc latest (said_of said) (entries_to_come left now) ≡ said_after r.ssrc 0 nothing (entries_to_come left before)
  pub fault : tells → (to_come left now).fault ≡ (to_come left before).fault
  pub few : StayFew now said.tally
  pub counted : tells → IsCounted r said.tally (to_come left now).items (to_come left before).items

module _ {S : Type 0} (tells : Type 0) (left : S → List ℕ) (faults : S → ℕ) (name : S → List ℕ) (r : Sender) (before now next : DumpReader S) (latest : ℕ) (said : SourceNotes) (out : List ℕ)
    (going : Going tells left faults name r before now latest said) where
  -- one more record
  pub goes_more : (item : DumpItem) (at then : ℕ) (more : SourceNotes) → moment_of item ≡ Some at → then ≡ max latest at → TellsItem r.ssrc then item out said more → CountsFate (fate_in r item out) said.tally more.tally → most_answers next < most_answers now
      → is_ended next ≡ is_last (Ok item) → name (source_of next) ≡ name (source_of now) → faults (source_of next) ≡ faults (source_of now)
      → (tells → Gives (Ok item) out (to_come left now) (to_come left next)) → (tells → GivesEntry (Ok item) out (entries_to_come left now) (entries_to_come left next))
      → Going tells left faults name r before next then more
  goes_more item at then more is max_is heard counts nearer ended named calm gives entry = record {
    not_ended = ended ∙ goes_on item at is;
    same_name = named ∙ going.same_name;
    calm = calm ∙ going.calm;
    heard = λ t.
        ap (λ n. said_after r.ssrc n (said_of more) (entries_to_come left next)) max_is
        ∙ (sym (one_heard r.ssrc latest at item out (entries_to_come left next) said more is (subst (λ n. TellsItem r.ssrc n item out said more) max_is heard))
        ∙ (ap (λ es. said_after r.ssrc latest (said_of said) es) (sym (entry t)) ∙ going.heard t));
    fault = λ t. same_fault item at out (to_come left now) (to_come left next) is (gives t) ∙ going.fault t;
    few = stay_few now next (fate_in r item out) said.tally more.tally nearer counts going.few;
    counted = λ t. item_counted r item at out said.tally more.tally (to_come left now) (to_come left next) (to_come left before).items is (gives t) counts (going.counted t);
  }

  -- the end
  pub all_heard : (item : DumpItem) (whole : SourceNotes) → said_of whole ≡ said_of said → whole.tally ≡ record said.tally { senders = min said.tally.text 1 } → moment_of item ≡ None → (tells → Gives (Ok item) out (to_come left now) (to_come left next)) → (tells → GivesEntry (Ok item) out (entries_to_come left now) (entries_to_come left next))
      → tells → HearsAll r (entries_to_come left before) (to_come left before) (Ok whole)
  all_heard item whole said_is tally_is is gives entry t =
      let end = is_the_end item is in
      let none : entries_to_come left now ≡ [] = subst (λ (i : DumpItem). entries_to_come left now ≡ entry_as i out (entries_to_come left next)) end (entry t) in
      let over = subst (λ (i : DumpItem). Gives (Ok i) out (to_come left now) (to_come left next)) end (gives t) in (
        said_is ∙ (ap (λ es. said_after r.ssrc latest (said_of said) es) (sym none) ∙ going.heard t),
        sym (going.fault t) ∙ ap (λ (x : Recording). x.fault) over,
        tally_is ∙ all_counted r said.tally (to_come left before).items (subst (λ (is : List Item). IsCounted r said.tally is (to_come left before).items) (ap (λ (x : Recording). x.items) over) (going.counted t)),
      )

  -- a fault
  pub not_heard : (fault : DumpFault) → (tells → Gives (Err fault) out (to_come left now) (to_come left next)) → tells → HearsAll r (entries_to_come left before) (to_come left before) (Err fault)
  not_heard fault gives t none = sym (going.fault t) ∙ gives_fault fault out (to_come left now) (to_come left next) (gives t) none

-- ---- an input
pub heard_input : (limit : ℕ) (r : Sender) (octets : List ℕ) (records : List Entry) (recording : Recording) (result : Result SourceNotes DumpFault) → records ≡ entries limit octets → recording ≡ dump limit octets
    → HearsAll r records recording result → Hears limit r octets result
unfolding said_by
heard_input limit p octets records recording (Ok said) e r h =
    let by_fault : Option Fault → attending.Said = λ fault. elim fault [ None ↦ said_after p.ssrc 0 nothing (entries limit octets) | Some fault ↦ nothing ] in
    let whole : (dump limit octets).fault ≡ None = ap (λ (q : Recording). q.fault) (sym r) ∙ h.1 in (
      h.0 ∙ (ap (λ es. said_after p.ssrc 0 nothing es) e ∙ sym (ap by_fault whole)),
      whole,
      h.2 ∙ ap (λ (q : Recording). tally_of p q.items) r,
    )
heard_input limit p octets records recording (Err fault) e r h = λ none. ap (λ (q : Recording). q.fault) (sym r) ∙ h none

-- ---- faults of sources
pub source_failed : {S : Type 0} (faults : S → ℕ) (before now next : DumpReader S) (fault : DumpFault) → faults (source_of now) ≡ faults (source_of before) → (fault.kind ≡ Read → Rose (faults (source_of now)) (faults (source_of next)))
    → is_of_source fault.kind ≡ true → Rose (faults (source_of before)) (faults (source_of next))
source_failed faults before now next fault calm rose source = subst (λ n. Rose n (faults (source_of next))) calm (rose (source_read fault.kind source))
