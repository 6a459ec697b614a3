-- What is kept of a run: what an erasure can take back, what its text ends with, and whether its label was given.
use Rattle.std.specs.Prelude.{◌≡◌, ℕ, ◌+◌, ◌-◌, ◌≤◌, ◌<◌, ◌==◌, Bool, true, false, not, ◌&&◌, ◌||◌, ◌⊎◌, if◌then◌else◌, List, [], ◌∷◌, ◌++◌, length, chars, encode_utf8, encode_utf8_all, IsUtf8}
use Rattle.view_spec.specs.declared.classes.CharClass.{CharClass}
use Rattle.view_spec.specs.declared.classes.CharClass.TheVariants.{Erase, Bell, NewLine, Silent, Marker, Print}
use Rattle.view_spec.specs.Characters.{class_of, is_open_after, is_print, opens}
use Rattle.view_spec.specs.Shown.{ends_with_cr, loose, signs, survivors}
use Rattle.view_spec.specs.TextViews.{is_direction, label_after, without_bracket, without_directions}
use Rattle.t140_text.specs.declared.ends.TextEnd.{TextEnd}
use Rattle.t140_text.specs.Endings.{IsEnding, is_line_end, is_sentence_end, pushed}
use Rattle.stream_spec.specs.Ready.{Chunk}
use Rattle.mixer_spec.specs.Chunks.{has_chunk}
use Rattle.mixer_spec.specs.Composed.{chars_of, cr_last, from_seen, labelled, own_part, written}
use Rattle.unaware_view.specs.declared.runs.Run.{Run}

-- another speaker may follow
abbrev pub is_turn : TextEnd → Bool
is_turn e = is_line_end e || is_sentence_end e

-- ---- one character
abbrev pub erasable_by : CharClass → Bool → ℕ → ℕ → ℕ
erasable_by Erase after_cr n c = n - 1
erasable_by Bell after_cr n c = n
erasable_by NewLine after_cr n c = if c == 0x0A && after_cr then n else n + 1
erasable_by Silent after_cr n c = n
erasable_by Marker after_cr n c = 0
erasable_by Print after_cr n c = n + 1

-- how many characters an erasure can take back with one character more, where there were n, after a CR or not
abbrev pub erasable_after : Bool → ℕ → ℕ → ℕ
erasable_after after_cr n c = erasable_by (class_of c) after_cr n c

-- what is sent for a character where so many can be taken back: `X` for an erasure that finds none, and no bracket
abbrev pub sent_for : ℕ → ℕ → ℕ
sent_for n c = if c == 0x08 && n == 0 then 0x58 else without_bracket c

-- it prints, or is sent as `X`
abbrev pub is_seen_at : ℕ → ℕ → Bool
is_seen_at n c = is_print (class_of c) || (c == 0x08 && n == 0)

-- the label goes before this character
abbrev pub is_headed : Run → ℕ → Bool
is_headed r c = not r.labelled && is_seen_at r.erasable c

-- behind its label a run is counted afresh
abbrev pub headed : Run → Run
headed r = record { erasable = 0; after_cr = false; ending = r.ending; has_chunk = r.has_chunk; labelled = true; is_open = r.is_open }

abbrev pub with_one : Run → ℕ → Run
with_one r c = record {
  erasable = erasable_after r.after_cr r.erasable c;
  after_cr = c == 0x0D;
  ending = pushed r.ending c;
  has_chunk = r.has_chunk;
  labelled = r.labelled;
  is_open = opens (class_of c) r.is_open;
}

-- a printable character of ASCII that is sent as it is
pub record IsPlain (c : ℕ) : Type 0 where
  pub from : 0x20 ≤ c
  pub to : c < 0x7F
  pub no_bracket : without_bracket c ≡ c

-- an ending with more characters, one behind the other
abbrev pub pushed_all : TextEnd → List ℕ → TextEnd
pushed_all e [] = e
pushed_all e (c ∷ cs) = pushed_all (pushed e c) cs

-- with some plain characters more
abbrev pub with_plain : Run → List ℕ → Run
with_plain r cs = record {
  erasable = r.erasable + length cs;
  after_cr = false;
  ending = pushed_all r.ending cs;
  has_chunk = r.has_chunk;
  labelled = r.labelled;
  is_open = true;
}

-- where the label goes before a character, or not
abbrev pub before_by : Bool → Run → Run
before_by heads r = if heads then headed r else r

abbrev pub label_by : Bool → List ℕ → Run → List ℕ
label_by heads name r = if heads then label_after r.is_open name else []

-- with this character, and what is sent then
abbrev pub step_by : Bool → Run → ℕ → Run
step_by heads r c = with_one (before_by heads r) c

abbrev pub text_by : Bool → List ℕ → Run → ℕ → List ℕ
text_by heads name r c = label_by heads name r ++ encode_utf8 (sent_for (before_by heads r).erasable c)

abbrev pub stepped : Run → ℕ → Run
stepped r c = step_by (is_headed r c) r c

abbrev pub text_of_one : List ℕ → Run → ℕ → List ℕ
text_of_one name r c = text_by (is_headed r c) name r c

-- with this character, or as it was where that is a direction, which is left out
abbrev pub after_one : Run → ℕ → Run
after_one r c = if is_direction c then r else stepped r c

abbrev pub text_after_one : List ℕ → Run → ℕ → List ℕ
text_after_one name r c = if is_direction c then [] else text_of_one name r c

-- the room that is kept for the label
abbrev pub label_room : Bool → List ℕ → ℕ
label_room labelled name = if labelled then 0 else length (label_after true name)

-- a new run behind this one, whose label is to come
pub record IsBegun (r next : Run) : Type 0 where
  pub erasable : next.erasable ≡ 0
  pub after_cr : next.after_cr ≡ r.after_cr
  pub ending : IsEnding next.ending []
  pub has_chunk : next.has_chunk ≡ false
  pub labelled : next.labelled ≡ false
  pub is_open : next.is_open ≡ r.is_open

-- ---- a run
-- the characters behind the label, which went alone or not
abbrev pub behind : Bool → Bool → List ℕ → List ℕ
behind alone behind_cr cs = if alone then cs else from_seen behind_cr [] cs

-- The run has these characters, and its label is to come.
pub record IsAhead (r : Run) (alone behind_cr : Bool) (cs : List ℕ) : Type 0 where
  pub labelled : r.labelled ≡ false
  pub not_alone : alone ≡ false
  pub unseen : from_seen behind_cr [] cs ≡ []
  pub erasable : loose (survivors (signs (own_part behind_cr cs))) ≡ r.erasable
  pub after_cr : cr_last behind_cr cs ≡ r.after_cr

-- It has these characters, and its label was given.
pub record IsBehind (r : Run) (alone behind_cr : Bool) (cs : List ℕ) : Type 0 where
  pub labelled : r.labelled ≡ true
  pub seen : (not alone && length (from_seen behind_cr [] cs) == 0) ≡ false
  pub erasable : loose (survivors (signs (behind alone behind_cr cs))) ≡ r.erasable
  pub after_cr : ends_with_cr (behind alone behind_cr cs) ≡ r.after_cr

-- The run, which began with its label alone or not, and behind a CR or not, has these characters.
pub record IsRun (r : Run) (alone behind_cr : Bool) (cs : List ℕ) : Type 0 where
  pub ending : IsEnding r.ending cs
  pub part : IsAhead r alone behind_cr cs ⊎ IsBehind r alone behind_cr cs

-- what is sent of these characters behind those of the run
abbrev pub sent_of : List ℕ → Run → Bool → Bool → List ℕ → List ℕ → List ℕ
sent_of name r alone behind_cr run cs =
    if r.labelled
    then encode_utf8_all (written (behind alone behind_cr run) cs)
    else labelled name behind_cr r.is_open run cs

-- With these characters the run is `next`, and they are sent behind `before`.
pub record Sends (name : List ℕ) (r next : Run) (alone behind_cr : Bool) (run cs before after : List ℕ) : Type 0 where
  pub run_is : IsRun next alone behind_cr (run ++ cs)
  pub open_is : next.is_open ≡ is_open_after r.is_open cs
  pub text_is : after ≡ before ++ sent_of name r alone behind_cr run cs

-- Of the whole, which goes on this run, `rest` is still to be written.
pub record Writes (name : List ℕ) (r next : Run) (alone behind_cr : Bool) (run cs before out rest : List ℕ) : Type 0 where
  pub past : List ℕ
  pub parts : past ++ without_directions (chars rest) ≡ cs
  pub utf8 : IsUtf8 rest
  pub run_is : IsRun next alone behind_cr (run ++ past)
  pub open_is : next.is_open ≡ is_open_after r.is_open past
  pub out_is : out ++ sent_of name next alone behind_cr (run ++ past) (without_directions (chars rest)) ≡ before ++ sent_of name r alone behind_cr run cs

-- With these chunks the run goes on; `after` has them behind `before`, as they are sent.
pub record GoesOn (name : List ℕ) (r next : Run) (alone behind_cr : Bool) (run : List ℕ) (chunks : List Chunk) (before after : List ℕ) : Type 0 where
  pub sends : Sends name r next alone behind_cr run (chars_of chunks) before after
  pub has_chunk : next.has_chunk ≡ (r.has_chunk || has_chunk chunks)

-- The label was given alone: a run begins with it.
pub record GoesAlone (name : List ℕ) (r next : Run) (text : List ℕ) : Type 0 where
  pub run_is : (behind_cr : Bool) → IsRun next true behind_cr []
  pub open_is : next.is_open ≡ true
  pub text_is : text ≡ label_after r.is_open name
  pub has_chunk : next.has_chunk ≡ false

-- The label of the run is to come, and these chunks were given.
abbrev pub Heads : List ℕ → Run → Run → Bool → List ℕ → List Chunk → List ℕ → Type 0
Heads name r next behind_cr run [] text = GoesAlone name r next text
Heads name r next behind_cr run (c ∷ cs) text = GoesOn name r next false behind_cr run (c ∷ cs) [] text
