-- No run is one of these.
use Rattle.std.proofs.Common.{◌≡◌, ℕ, Bool, true, false, true≢false, Ok, Err, Some, None, Option, List, refl, ap, sym, ◌∙◌, subst}
use Rattle.command_spec.specs.declared.faults.Refusal.TheVariants.{AtByte, AtFrame, AtLine, AtTrunk, AfterTurns}
use Rattle.command_spec.specs.declared.faults.Fault.TheVariants.{WrongWords, CannotOpen, CannotRead, Refused, CannotPrint, CannotWrite, LinkFailed, NoMemory}
use Rattle.command_spec.specs.Messages.{Ending, status_of}
use Rattle.command_spec.specs.Generated.{Generated, generated}
use Rattle.command_spec.specs.Making.{makes_summary, recordings}
use Rattle.command_spec.specs.Sums.{Sums, sums_mixed}
use Rattle.rtt_words.specs.Words.{Make, Mix, MixWords, Read}
use Rattle.rtt_top.specs.Faults.{WhereRead}
use Rattle.rtt_top.specs.Outside.{Outside}
use Rattle.rtt_top.specs.Runs.{Ends, IsAllMade, NoneFailed, Prints, outcome_of}
use Rattle.rtt_top.specs.Statuses.{EndsAsItCan}
use Rattle.promise_tests.specs.Shut.{LoopholesStayShut}
use Rattle.promise_tests.proofs.Endings.{all_done}
use Rattle.command_spec.proofs.Plain.{done_map as weaker}

no_input : (n : ℕ) (g : Generated) (o : Option Sums) (P : Type 0) → WhereRead (makes_summary n g o) P
no_input n g None P = tt
no_input n g (Some sums) P = tt

nine : (WorldTells OutTells : Type 0) (m : MixWords) (old new : Outside) (name : List ℕ) (e : Ending) → 9 ≡ status_of e → Ends (Mix m) WorldTells OutTells old new name e → NoneFailed old new
nine WorldTells OutTells m old new name (Ok u) q d = absurd (cc q)
nine WorldTells OutTells m old new name (Err WrongWords) q d = absurd (cc q)
nine WorldTells OutTells m old new name (Err (CannotOpen n)) q d = absurd (cc q)
nine WorldTells OutTells m old new name (Err (CannotRead n)) q d = absurd (cc q)
nine WorldTells OutTells m old new name (Err (Refused n (AtByte b k))) q d = absurd (cc q)
nine WorldTells OutTells m old new name (Err (Refused n (AtFrame b k))) q d = absurd (cc q)
nine WorldTells OutTells m old new name (Err (Refused n (AtLine b k))) q d = absurd (cc q)
nine WorldTells OutTells m old new name (Err (Refused n (AtTrunk b))) q d = absurd (cc q)
nine WorldTells OutTells m old new name (Err (Refused n (AfterTurns b))) q d = d.3
nine WorldTells OutTells m old new name (Err CannotPrint) q d = absurd (cc q)
nine WorldTells OutTells m old new name (Err (CannotWrite n)) q d = absurd (cc q)
nine WorldTells OutTells m old new name (Err (LinkFailed n)) q d = absurd (cc q)
nine WorldTells OutTells m old new name (Err NoMemory) q d = absurd (cc q)

pub shut : (WorldTells OutTells ErrTells : Type 0) → EndsAsItCan WorldTells OutTells ErrTells → LoopholesStayShut WorldTells OutTells ErrTells
shut WorldTells OutTells ErrTells can old new before after = record {
  no_recording = λ m r. true≢false (sym (can (Make m) old new before after 6 r));
  no_line = λ m r. true≢false (sym (can (Make m) old new before after 5 r));
  no_turns = λ m r. true≢false (sym (can (Read m) old new before after 9 r));
  printed = λ m tells r.
      let made = generated m.number in
      let ends : IsAllMade (Make m) WorldTells old new (λ printed. OutTells → Prints printed old new) =
      subst (λ (e : Ending). Ends (Make m) WorldTells OutTells old new r.name e) (all_done r.ending r.is_status) r.ends in
      weaker (outcome_of (Make m) old) _ _ (λ x fs d. d.1 tells) (ends (no_input m.number made (sums_mixed made.conference (recordings made)) WorldTells));
  none_failed = λ m r. nine WorldTells OutTells m old new r.name r.ending r.is_status r.ends;
}
