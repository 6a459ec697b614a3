-- What the status of a run says.
use Rattle.std.proofs.Common.{◌≡◌, ℕ, Bool, true, false, true≢false, Some, List, Ok, Err, refl, sym, subst}
use Rattle.command_spec.specs.declared.faults.Fault.{Fault}
use Rattle.command_spec.specs.Messages.{Ending, status_of}
use Rattle.command_spec.specs.Work.{Contents}
use Rattle.rtt_words.specs.Words.{Command, Read, ListRecords, Send, Mix, Attend, Cascade, Make, Live, Watch, Relay, Channel, Show, Times, Script, Check, Help, Version}
use Rattle.rtt_top.specs.declared.conversions.Conversion.{Conversion}
use Rattle.rtt_top.specs.declared.conversions.Conversion.TheVariants as conversion
use Rattle.rtt_top.specs.declared.mix_modes.MixMode.{MixMode}
use Rattle.rtt_top.specs.declared.mix_modes.MixMode.TheVariants.{Attending, Plain}
use Rattle.rtt_top.specs.declared.views.RecordingView.{RecordingView}
use Rattle.rtt_top.specs.declared.views.RecordingView.TheVariants as view
use Rattle.rtt_words.specs.Words.{MixWords}
use Rattle.rtt_top.specs.Conversions.{asked_for}
use Rattle.rtt_top.specs.Recorded.{asked_as}
use Rattle.rtt_top.specs.RecordingViews.{command_of}
use Rattle.rtt_top.specs.Faults.{is_check}
use Rattle.rtt_top.specs.Runs.{HasStatus, found_status}
use Rattle.rtt_top.specs.Statuses.{can_end}

-- of each command but `check` it is that of the ending
pub other : (c : Command) (WorldTells : Type 0) (held : Contents) (ending : Ending) (status : ℕ) → is_check c ≡ false → status ≡ status_of ending → HasStatus (Some c) WorldTells held ending status
other (Read r) WorldTells held ending status off is = is
other (ListRecords l) WorldTells held ending status off is = is
other (Send s) WorldTells held ending status off is = is
other (Mix m) WorldTells held ending status off is = is
other (Attend m) WorldTells held ending status off is = is
other (Cascade c) WorldTells held ending status off is = is
other (Make m) WorldTells held ending status off is = is
other (Live m) WorldTells held ending status off is = is
other (Watch m) WorldTells held ending status off is = is
other (Relay s) WorldTells held ending status off is = is
other (Channel c) WorldTells held ending status off is = is
other (Show l) WorldTells held ending status off is = is
other (Times l) WorldTells held ending status off is = is
other (Script r) WorldTells held ending status off is = is
other (Check c) WorldTells held ending status off is = absurd (true≢false off)
other (Help t) WorldTells held ending status off is = is
other Version WorldTells held ending status off is = is

-- and of each command, where it ended with a fault
pub of_fault : (c : Command) (WorldTells : Type 0) (held : Contents) (fault : Fault) (status : ℕ) → (let e : Ending = Err fault in status ≡ status_of e) → HasStatus (Some c) WorldTells held (Err fault) status
of_fault (Read r) WorldTells held fault status is = is
of_fault (ListRecords l) WorldTells held fault status is = is
of_fault (Send s) WorldTells held fault status is = is
of_fault (Mix m) WorldTells held fault status is = is
of_fault (Attend m) WorldTells held fault status is = is
of_fault (Cascade c) WorldTells held fault status is = is
of_fault (Make m) WorldTells held fault status is = is
of_fault (Live m) WorldTells held fault status is = is
of_fault (Watch m) WorldTells held fault status is = is
of_fault (Relay s) WorldTells held fault status is = is
of_fault (Channel c) WorldTells held fault status is = is
of_fault (Show l) WorldTells held fault status is = is
of_fault (Times l) WorldTells held fault status is = is
of_fault (Script r) WorldTells held fault status is = is
of_fault (Check c) WorldTells held fault status is = is
of_fault (Help t) WorldTells held fault status is = is
of_fault Version WorldTells held fault status is = is

-- a command can end with the status of what was found
can_be_found : (taken : Bool) (c : Command) → is_check c ≡ true → can_end c (found_status taken) ≡ true
can_be_found true c e = refl
can_be_found false (Read r) e = absurd (true≢false (sym e))
can_be_found false (ListRecords l) e = absurd (true≢false (sym e))
can_be_found false (Send s) e = absurd (true≢false (sym e))
can_be_found false (Mix m) e = absurd (true≢false (sym e))
can_be_found false (Attend m) e = absurd (true≢false (sym e))
can_be_found false (Cascade c) e = absurd (true≢false (sym e))
can_be_found false (Make m) e = absurd (true≢false (sym e))
can_be_found false (Live m) e = absurd (true≢false (sym e))
can_be_found false (Watch m) e = absurd (true≢false (sym e))
can_be_found false (Relay s) e = absurd (true≢false (sym e))
can_be_found false (Channel c) e = absurd (true≢false (sym e))
can_be_found false (Show l) e = absurd (true≢false (sym e))
can_be_found false (Times l) e = absurd (true≢false (sym e))
can_be_found false (Script r) e = absurd (true≢false (sym e))
can_be_found false (Check c) e = refl
can_be_found false (Help t) e = absurd (true≢false (sym e))
can_be_found false Version e = absurd (true≢false (sym e))

pub can_be : (c : Command) (WorldTells : Type 0) (held : Contents) (ending : Ending) (status : ℕ) → HasStatus (Some c) WorldTells held ending status → can_end c (status_of ending) ≡ true → can_end c status ≡ true
can_be (Read r) WorldTells held ending status is can = subst (λ n. can_end (Read r) n ≡ true) (sym is) can
can_be (ListRecords l) WorldTells held ending status is can = subst (λ n. can_end (ListRecords l) n ≡ true) (sym is) can
can_be (Send s) WorldTells held ending status is can = subst (λ n. can_end (Send s) n ≡ true) (sym is) can
can_be (Mix m) WorldTells held ending status is can = subst (λ n. can_end (Mix m) n ≡ true) (sym is) can
can_be (Attend m) WorldTells held ending status is can = subst (λ n. can_end (Attend m) n ≡ true) (sym is) can
can_be (Cascade c) WorldTells held ending status is can = subst (λ n. can_end (Cascade c) n ≡ true) (sym is) can
can_be (Make m) WorldTells held ending status is can = subst (λ n. can_end (Make m) n ≡ true) (sym is) can
can_be (Live m) WorldTells held ending status is can = subst (λ n. can_end (Live m) n ≡ true) (sym is) can
can_be (Watch m) WorldTells held ending status is can = subst (λ n. can_end (Watch m) n ≡ true) (sym is) can
can_be (Relay s) WorldTells held ending status is can = subst (λ n. can_end (Relay s) n ≡ true) (sym is) can
can_be (Channel c) WorldTells held ending status is can = subst (λ n. can_end (Channel c) n ≡ true) (sym is) can
can_be (Show l) WorldTells held ending status is can = subst (λ n. can_end (Show l) n ≡ true) (sym is) can
can_be (Times l) WorldTells held ending status is can = subst (λ n. can_end (Times l) n ≡ true) (sym is) can
can_be (Script r) WorldTells held ending status is can = subst (λ n. can_end (Script r) n ≡ true) (sym is) can
can_be (Check c) WorldTells held (Ok done) status is can = subst (λ n. can_end (Check c) n ≡ true) (sym is.is_status) (can_be_found is.taken (Check c) refl)
can_be (Check c) WorldTells held (Err fault) status is can = subst (λ n. can_end (Check c) n ≡ true) (sym is) can
can_be (Help t) WorldTells held ending status is can = subst (λ n. can_end (Help t) n ≡ true) (sym is) can
can_be Version WorldTells held ending status is can = subst (λ n. can_end Version n ≡ true) (sym is) can

-- ---- commands that share what they do

pub no_check_view : (it : RecordingView) (file : List ℕ) → is_check (command_of it file) ≡ false
no_check_view (view.Text r) file = refl
no_check_view (view.Lines p) file = refl
no_check_view (view.Streams p) file = refl
no_check_view (view.Times p) file = refl
no_check_view (view.Transcript r) file = refl

pub no_check_conversion : (it : Conversion) → is_check (asked_for it) ≡ false
no_check_conversion (conversion.Script s) = refl
no_check_conversion (conversion.Frames s) = refl
no_check_conversion (conversion.Recording c) = refl

pub no_check_mixing : (it : MixMode) (m : MixWords) → is_check (asked_as it m) ≡ false
no_check_mixing Plain m = refl
no_check_mixing Attending m = refl
