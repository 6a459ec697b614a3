-- What holds of a command that uses no link holds whatever links leave.
use Rattle.std.proofs.Common.{◌≡◌, ℕ, true, false, true≢false, inl, inr, Option, Some, None, List, Ok, Err, refl, sym, subst, ◌∙◌}
use Rattle.command_spec.specs.declared.faults.Refusal.TheVariants.{AtByte, AtFrame, AtLine, AtTrunk, AfterTurns}
use Rattle.command_spec.specs.declared.faults.Fault.TheVariants.{WrongWords, CannotOpen, CannotRead, Refused, CannotPrint, CannotWrite, LinkFailed, NoMemory}
use Rattle.file_spec.specs.Conference.{Conference}
use Rattle.live_spec.specs.Served.{End}
use Rattle.rtt_words.specs.Words.{MixWords, Command, Read, ListRecords, Send, Mix, Attend, Cascade, Make, Live, Watch, Relay, Channel, Show, Times, Script, Check, Help, Version}
use Rattle.command_spec.specs.Messages.{Ending}
use Rattle.rtt_words.specs.declared.commands.CheckWords as looked
use Rattle.rtt_words.specs.declared.commands.MixWords as coded
use Rattle.rtt_words.specs.declared.commands.Command as asked
use Rattle.rtt_words.specs.declared.commands.Command.TheVariants as word
use Rattle.rtt_words.specs.Commands.{meaning}
use Rattle.rtt_top.specs.Faults.{is_check, is_live}
use Rattle.rtt_top.specs.Lives.{Front, IsCallOf, IsServedTo, IsWatchedTo, RunsCall, Share, Whole, status_at}
use Rattle.rtt_top.specs.Outside.{LinksLeft, Output, Outside, with_links}
use Rattle.rtt_top.specs.Runs.{Ends, Runs, is_plain}
use Rattle.rtt_top.proofs.Ending.{runs}

ends_linked : (c : Command) (WorldTells OutTells : Type 0) (old new : Outside) (before after : LinksLeft) (name : List ℕ) (ending : Ending) → is_live c ≡ false
    → Ends c WorldTells OutTells old new name ending → Ends c WorldTells OutTells (with_links old before) (with_links new after) name ending
ends_linked c WorldTells OutTells old new before after name (Ok u) off e = e
ends_linked c WorldTells OutTells old new before after name (Err WrongWords) off e = e
ends_linked c WorldTells OutTells old new before after name (Err (CannotOpen n)) off e = e
ends_linked c WorldTells OutTells old new before after name (Err (CannotRead n)) off e = e
ends_linked c WorldTells OutTells old new before after name (Err (Refused n (AtLine line kind))) off e = e
ends_linked c WorldTells OutTells old new before after name (Err (Refused n (AtByte byte kind))) off e = e
ends_linked c WorldTells OutTells old new before after name (Err (Refused n (AtFrame byte kind))) off e = e
ends_linked c WorldTells OutTells old new before after name (Err (Refused n (AtTrunk line))) off e = e
ends_linked c WorldTells OutTells old new before after name (Err (Refused n (AfterTurns turns))) off e = e
ends_linked c WorldTells OutTells old new before after name (Err CannotPrint) off e = e
ends_linked c WorldTells OutTells old new before after name (Err (CannotWrite n)) off e = e
ends_linked c WorldTells OutTells old new before after name (Err (LinkFailed leg)) off e = absurd (true≢false (sym e.0 ∙ off))
ends_linked c WorldTells OutTells old new before after name (Err NoMemory) off e = e

pub runs_linked : (words : Option Command) (c : Command) (WorldTells OutTells ErrTells : Type 0) (old new : Outside) (before after : LinksLeft) (told told_then : Output) (status : ℕ) → words ≡ Some c → is_live c ≡ false
    → Runs (Some c) WorldTells OutTells ErrTells old new told told_then status
    → Runs words WorldTells OutTells ErrTells (with_links old before) (with_links new after) told told_then status
runs_linked words c WorldTells OutTells ErrTells old new before after told told_then status is off r =
    subst (λ w. Runs w WorldTells OutTells ErrTells (with_links old before) (with_links new after) told told_then status) (sym is)
    (runs r.ending r.name r.is_status (ends_linked c WorldTells OutTells old new before after r.name r.ending off r.ends) r.silent r.front r.told)

pub plain_is_not_live : (c : Command) → is_plain (Some c) ≡ true → is_live c ≡ false
plain_is_not_live (Read r) e = refl
plain_is_not_live (ListRecords l) e = refl
plain_is_not_live (Send s) e = refl
plain_is_not_live (Mix m) e = refl
plain_is_not_live (Attend m) e = refl
plain_is_not_live (Cascade c) e = refl
plain_is_not_live (Make m) e = refl
plain_is_not_live (Live m) e = absurd (true≢false (sym e))
plain_is_not_live (Watch m) e = absurd (true≢false (sym e))
plain_is_not_live (Relay s) e = refl
plain_is_not_live (Channel c) e = refl
plain_is_not_live (Show l) e = refl
plain_is_not_live (Times l) e = refl
plain_is_not_live (Script r) e = refl
plain_is_not_live (Check c) e = refl
plain_is_not_live (Help t) e = refl
plain_is_not_live Version e = refl

-- what asks for no live call
pub other_is_not_live : (command : asked.Command) → ((words : coded.MixWords) → command ≡ word.Live words → ⊥) → ((words : coded.MixWords) → command ≡ word.Watch words → ⊥) → is_live (meaning command) ≡ false
other_is_not_live (word.Read r) other watch = refl
other_is_not_live (word.ListRecords l) other watch = refl
other_is_not_live (word.Send s) other watch = refl
other_is_not_live (word.Mix m) other watch = refl
other_is_not_live (word.Attend m) other watch = refl
other_is_not_live (word.Cascade c) other watch = refl
other_is_not_live (word.Make m) other watch = refl
other_is_not_live (word.Live m) other watch = absurd (other m refl)
other_is_not_live (word.Watch m) other watch = absurd (watch m refl)
other_is_not_live (word.Relay s) other watch = refl
other_is_not_live (word.Channel c) other watch = refl
other_is_not_live (word.Show l) other watch = refl
other_is_not_live (word.Times l) other watch = refl
other_is_not_live (word.Script r) other watch = refl
other_is_not_live (word.Check c) other watch = refl
other_is_not_live (word.Help t) other watch = refl
other_is_not_live word.Version other watch = refl

-- what asks for no look at a file
pub other_is_no_check : (command : asked.Command) → ((words : looked.CheckWords) → command ≡ word.Check words → ⊥) → is_check (meaning command) ≡ false
other_is_no_check (word.Read r) other = refl
other_is_no_check (word.ListRecords l) other = refl
other_is_no_check (word.Send s) other = refl
other_is_no_check (word.Mix m) other = refl
other_is_no_check (word.Attend m) other = refl
other_is_no_check (word.Cascade c) other = refl
other_is_no_check (word.Make m) other = refl
other_is_no_check (word.Live m) other = refl
other_is_no_check (word.Watch m) other = refl
other_is_no_check (word.Relay s) other = refl
other_is_no_check (word.Channel c) other = refl
other_is_no_check (word.Show l) other = refl
other_is_no_check (word.Times l) other = refl
other_is_no_check (word.Script r) other = refl
other_is_no_check (word.Check c) other = absurd (other c refl)
other_is_no_check (word.Help t) other = refl
other_is_no_check word.Version other = refl

-- of another command nothing is said of a live call
no_call_of : (c : Command) (WorldTells OutTells LinksTell : Type 0) (old new : Outside) (status : ℕ) → is_live c ≡ false → RunsCall (Some c) WorldTells OutTells LinksTell old new status
no_call_of (Live m) WorldTells OutTells LinksTell old new status off = absurd (true≢false off)
no_call_of (Watch m) WorldTells OutTells LinksTell old new status off = absurd (true≢false off)
no_call_of _ WorldTells OutTells LinksTell old new status off = tt

pub no_call : (words : Option Command) (c : Command) (WorldTells OutTells LinksTell : Type 0) (old new : Outside) (status : ℕ) → words ≡ Some c → is_live c ≡ false
    → RunsCall words WorldTells OutTells LinksTell old new status
no_call words c WorldTells OutTells LinksTell old new status is off =
    subst (λ w. RunsCall w WorldTells OutTells LinksTell old new status) (sym is) (no_call_of c WorldTells OutTells LinksTell old new status off)

-- nor where the words ask for none
pub no_words_call : (words : Option Command) (WorldTells OutTells LinksTell : Type 0) (old new : Outside) (status : ℕ) → words ≡ None → RunsCall words WorldTells OutTells LinksTell old new status
no_words_call words WorldTells OutTells LinksTell old new status none = subst (λ w. RunsCall w WorldTells OutTells LinksTell old new status) (sym none) tt

-- nor where memory ran out before they were told apart
no_share : (share : Share) → 70 ≡ status_at share → ⊥
no_share Whole e = cc e
no_share Front e = cc e

none_of : (S : Conference → End → List ℕ → Type 0) (WorldTells OutTells LinksTell : Type 0) (m : MixWords) (old : Outside) (status : ℕ) → status ≡ 70 → IsCallOf S WorldTells OutTells LinksTell m old old status
none_of S WorldTells OutTells LinksTell m old status is = record {
  served = λ share at. absurd (no_share share (sym is ∙ at));
  given_up = record { failed = λ at. absurd (cc (is, at)); no_memory = λ at. inr refl };
}

pub failed_call : (words : Option Command) (WorldTells OutTells LinksTell : Type 0) (old : Outside) (status : ℕ) → status ≡ 70 → RunsCall words WorldTells OutTells LinksTell old old status
failed_call (Some (Live m)) WorldTells OutTells LinksTell old status is = none_of (λ c. IsServedTo c LinksTell old.links old.links) WorldTells OutTells LinksTell m old status is
failed_call (Some (Watch m)) WorldTells OutTells LinksTell old status is = none_of (λ c. IsWatchedTo c LinksTell old.links old.links) WorldTells OutTells LinksTell m old status is
failed_call _ WorldTells OutTells LinksTell old status is = tt
