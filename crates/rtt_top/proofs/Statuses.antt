-- With which statuses a command can end.
use Rattle.std.proofs.Common.{◌≡◌, ◌∙◌, ℕ, Bool, true, false, true≢false, Option, Some, None, List, [], Result, Ok, Err, refl, ap, sym, subst}
use Rattle.wire_spec.specs.Dump.{dump, usual_limit}
use Rattle.wire_spec.specs.Dump as dumps
use Rattle.rtt_words.specs.Words.{Command, Read, ListRecords, Send, Mix, Attend, Cascade, Make, Live, Watch, Relay, Channel, Show, Times, Script, Check, Help, Version}
use Rattle.command_spec.specs.declared.faults.Refusal.{Refusal}
use Rattle.command_spec.specs.declared.faults.Refusal.TheVariants.{AtByte, AtFrame, AtLine, AtTrunk, AfterTurns}
use Rattle.command_spec.specs.declared.faults.Fault.TheVariants.{WrongWords, CannotOpen, CannotRead, Refused, CannotPrint, CannotWrite, LinkFailed, NoMemory}
use Rattle.command_spec.specs.Work.{Contents, Steps, Makes, IsInput}
use Rattle.rtt_words.specs.Tasks.{saves_frames, sending_of, unless_broken, work}
use Rattle.command_spec.specs.Frames.{channel, relay}
use Rattle.command_spec.specs.Showing.{show_refusal}
use Rattle.file_spec.specs.declared.frames.FrameRefusal.{FrameRefusal}
use Rattle.command_spec.specs.Generated.{Generated, generated}
use Rattle.command_spec.specs.Making.{makes_summary, making, recordings}
use Rattle.command_spec.specs.Sums.{Sums, sums_mixed}
use Rattle.command_spec.specs.Messages.{Ending, status_of}
use Rattle.rtt_top.specs.Faults.{RefusesSo, has_frames, is_live, is_mixed, is_recording}
use Rattle.rtt_top.specs.Outside.{Outside}
use Rattle.rtt_top.specs.Runs.{Ends, IsInputOf}
use Rattle.report_spec.specs.Looks.{look}
use Rattle.rtt_top.proofs.Looking.{never_refuses}
use Rattle.rtt_top.proofs.Statused.{can_be}
use Rattle.rtt_top.specs.Statuses.{EndsAsItCan, HelpNamesThem, can_end}

-- a line is refused
abbrev is_of_line : Refusal → Bool
is_of_line (AtByte byte kind) = false
is_of_line (AtFrame byte kind) = false
is_of_line (AtLine line kind) = true
is_of_line (AtTrunk line) = true
is_of_line (AfterTurns turns) = false

-- a recording is refused at no line, unless what comes of it is
no_line : (WorldTells : Type 0) (held : Contents) (found : Option dumps.Fault) (steps : Steps) (n : ℕ) (refusal : Refusal) → is_of_line refusal ≡ true
    → (RefusesSo WorldTells held steps n refusal → ⊥) → RefusesSo WorldTells held (unless_broken found steps) n refusal → ⊥
no_line WorldTells held None steps n refusal line none r = none r
no_line WorldTells held (Some fault) steps n refusal line none r = true≢false (sym line ∙ sym (ap is_of_line r.1))

-- frames are refused at no line
no_frame_line : (WorldTells : Type 0) (held : Contents) (out : List ℕ) (frames : Result (List ℕ) FrameRefusal) (n : ℕ) (refusal : Refusal) → is_of_line refusal ≡ true
    → RefusesSo WorldTells held (saves_frames out frames) n refusal → ⊥
no_frame_line WorldTells held out (Ok octets) n refusal line r = r
no_frame_line WorldTells held out (Err fault) n refusal line r = true≢false (sym line ∙ sym (ap is_of_line r.1))

-- `make` reads nothing
no_input : (WorldTells : Type 0) (held : Contents) (k : ℕ) (made : Generated) (found : Option Sums) (n : ℕ) (name : List ℕ) → IsInput WorldTells held (makes_summary k made found) n name → ⊥
no_input WorldTells held k made None n name i = i
no_input WorldTells held k made (Some sums) n name i = i

reads_none : (WorldTells : Type 0) (held : Contents) (k n : ℕ) (name : List ℕ) → IsInput WorldTells held (making k) n name → ⊥
reads_none WorldTells held k n name i = no_input WorldTells held k (generated k) (sums_mixed (generated k).conference (recordings (generated k))) n name i

-- what each command can end with: all was done, an output failed, memory ran out
always : (c : Command) → (can_end c 0 ≡ true) × (can_end c 7 ≡ true) × (can_end c 70 ≡ true)
always c = (refl, refl, refl)

-- nothing holds of a command of another kind
off : {A : Type 0} → false ≡ true → A
off e = absurd (true≢false (sym e))

-- 6 over a recording and over frames, 9 over a conference that is mixed, 8 over one of links
by_kind : (c : Command) (n : ℕ) → (is_recording c n ≡ true → can_end c 6 ≡ true) × (has_frames c ≡ true → can_end c 6 ≡ true)
    × (is_mixed c ≡ true → can_end c 9 ≡ true) × (is_live c ≡ true → can_end c 8 ≡ true)
by_kind (Read r) n = (λ e. refl, off, off, off)
by_kind (ListRecords l) n = (λ e. refl, off, off, off)
by_kind (Send s) n = (off, off, off, off)
by_kind (Mix m) n = (λ e. refl, off, λ e. refl, off)
by_kind (Attend m) n = (λ e. refl, off, λ e. refl, off)
by_kind (Cascade c) n = (λ e. refl, off, λ e. refl, off)
by_kind (Make m) n = (off, off, λ e. refl, off)
by_kind (Live m) n = (off, off, off, λ e. refl)
by_kind (Watch m) n = (off, off, off, λ e. refl)
by_kind (Relay s) n = (off, λ e. refl, off, off)
by_kind (Channel c) n = (λ e. refl, λ e. refl, off, off)
by_kind (Show l) n = (λ e. refl, off, off, off)
by_kind (Times l) n = (λ e. refl, off, off, off)
by_kind (Script r) n = (λ e. refl, off, off, off)
by_kind (Check c) n = (off, off, off, off)
by_kind (Help t) n = (off, off, off, off)
by_kind Version n = (off, off, off, off)

module _ (WorldTells : Type 0) (old : Outside) (n : ℕ) (name : List ℕ) where
  -- of a command that has an input: 3 and 4, and 5 where it reads lines
  with_input : (c : Command) → IsInputOf c WorldTells old n name → (can_end c 3 ≡ true) × (can_end c 4 ≡ true)
      × ((refusal : Refusal) → is_of_line refusal ≡ true → RefusesSo WorldTells old.contents (work c).steps n refusal → can_end c 5 ≡ true)
  with_input (Read q) i = (refl, refl, λ refusal line r. absurd (no_line WorldTells old.contents (dump usual_limit r.0).fault (Makes _ []) n refusal line (λ none. none) r.2))
  with_input (ListRecords l) i = (refl, refl, λ refusal line r. absurd (no_line WorldTells old.contents (dump usual_limit r.0).fault (Makes _ []) n refusal line (λ none. none) r.2))
  with_input (Send s) i = (refl, refl, λ refusal line r. refl)
  with_input (Mix m) i = (refl, refl, λ refusal line r. refl)
  with_input (Attend m) i = (refl, refl, λ refusal line r. refl)
  with_input (Cascade c) i = (refl, refl, λ refusal line r. refl)
  with_input (Make m) i = absurd (reads_none WorldTells old.contents m.number n name i)
  with_input (Live m) i = (refl, refl, λ refusal line r. refl)
  with_input (Watch m) i = (refl, refl, λ refusal line r. refl)
  with_input (Relay s) i = (refl, refl, λ refusal line r. absurd (no_frame_line WorldTells old.contents s.out (relay (sending_of s) r.0) n refusal line r.2))
  with_input (Channel c) i = (
    refl,
    refl,
    λ refusal line r. absurd (no_line WorldTells old.contents (dump usual_limit r.0).fault (saves_frames c.out (channel c.ssrc r.0)) n refusal line
        (no_frame_line WorldTells old.contents c.out (channel c.ssrc r.0) n refusal line) r.2),
  )
  with_input (Show l) i = (refl, refl, λ refusal line r. absurd (no_line WorldTells old.contents (show_refusal r.0) (Makes _ []) n refusal line (λ none. none) r.2))
  with_input (Times l) i = (refl, refl, λ refusal line r. absurd (no_line WorldTells old.contents (show_refusal r.0) (Makes _ []) n refusal line (λ none. none) r.2))
  with_input (Script q) i = (refl, refl, λ refusal line r. absurd (no_line WorldTells old.contents (dump usual_limit r.0).fault (Makes _ []) n refusal line (λ none. none) r.2))
  with_input (Check c) i = (refl, refl, λ refusal line r. absurd (never_refuses WorldTells old.contents (look c.file) n refusal r))
  with_input (Help t) i = absurd i
  with_input Version i = absurd i

ends_so : (c : Command) (WorldTells OutTells : Type 0) (old new : Outside) (name : List ℕ) (ending : Ending) → Ends c WorldTells OutTells old new name ending → can_end c (status_of ending) ≡ true
ends_so c WorldTells OutTells old new name (Ok u) e = (always c).0
ends_so c WorldTells OutTells old new name (Err WrongWords) e = absurd e
ends_so c WorldTells OutTells old new name (Err (CannotOpen n)) e = (with_input WorldTells old n name c e.0).0
ends_so c WorldTells OutTells old new name (Err (CannotRead n)) e = (with_input WorldTells old n name c e.0).1
ends_so c WorldTells OutTells old new name (Err (Refused n (AtLine line kind))) e = (with_input WorldTells old n name c e.0).2 (AtLine line kind) refl e.1
ends_so c WorldTells OutTells old new name (Err (Refused n (AtTrunk line))) e = (with_input WorldTells old n name c e.0).2 (AtTrunk line) refl e.1
ends_so c WorldTells OutTells old new name (Err (Refused n (AtByte byte kind))) e = (by_kind c n).0 e.1
ends_so c WorldTells OutTells old new name (Err (Refused n (AtFrame byte kind))) e = (by_kind c n).1 e.1
ends_so c WorldTells OutTells old new name (Err (Refused n (AfterTurns turns))) e = (by_kind c n).2 e.1
ends_so c WorldTells OutTells old new name (Err CannotPrint) e = (always c).1
ends_so c WorldTells OutTells old new name (Err (CannotWrite n)) e = (always c).1
ends_so c WorldTells OutTells old new name (Err (LinkFailed leg)) e = (by_kind c 0).3 e.0
ends_so c WorldTells OutTells old new name (Err NoMemory) e = (always c).2

pub can : (WorldTells OutTells ErrTells : Type 0) → EndsAsItCan WorldTells OutTells ErrTells
can WorldTells OutTells ErrTells c old new before after status r =
    can_be c WorldTells old.contents r.ending status r.is_status (ends_so c WorldTells OutTells old new r.name r.ending r.ends)

-- `help` names them
pub named : HelpNamesThem
named (Read r) = refl
named (ListRecords l) = refl
named (Send s) = refl
named (Mix m) = refl
named (Attend m) = refl
named (Cascade c) = refl
named (Make m) = refl
named (Live m) = refl
named (Watch m) = refl
named (Relay s) = refl
named (Channel c) = refl
named (Show l) = refl
named (Times l) = refl
named (Script r) = refl
named (Check c) = refl
named (Help t) = refl
named Version = refl
