-- What the laws say of a terminal that is not aware: its texts are those that its composer gives, and labels are the mixer's.
use Rattle.std.specs.Prelude.{◌≡◌, ℕ, ◌<◌, Bool, true, false, ◌⊎◌, Option, None, Some, List, [], ◌∷◌, ◌++◌, encode_utf8_all}
use Rattle.std.specs.List.{list_any}
use Rattle.view_spec.specs.Characters.{is_open_after}
use Rattle.view_spec.specs.TextViews.{is_bracket, is_direction, label_after}
use Rattle.mixer_spec.specs.Composed.{Answer, Asked, from_seen, is_seen, labelled, written}
use Rattle.stream_spec.specs.Ready.{Chunk}
use Rattle.mixer_spec.specs.Setups.{Setup, IsAnother}
use Rattle.mixer_spec.specs.Table.{Table}
use Rattle.mixer_spec.specs.Core.{Event, after}
use Rattle.mixer_spec.specs.Plain.{IsOverWith}
use Rattle.mixer_spec.specs.Laws.{GivesShared, IsComposedAt, SendsGiven, carried, chunks_given}

-- ---- after every list of events
-- Each ask is answered as the composer answers, from what was shared until then.
abbrev pub AsksAreComposed : Type 0
AsksAreComposed =
    (s : Setup) (chunks : ℕ → List Chunk) (past : List Event) (j : ℕ)
    → s.aware j ≡ false
    → IsComposedAt s (after s chunks past).table j

-- The texts that are sent are those that are given.
abbrev pub TextsAreGiven : Type 0
TextsAreGiven =
    (s : Setup) (chunks : ℕ → List Chunk) (past : List Event) (j : ℕ)
    → s.aware j ≡ false
    → SendsGiven (after s chunks past).table j

-- The chunks that are sent of a leg are those that are given of it.
abbrev pub ChunksAreGiven : Type 0
ChunksAreGiven =
    (s : Setup) (chunks : ℕ → List Chunk) (past : List Event) (j i : ℕ)
    → s.aware j ≡ false
    → let d = (after s chunks past).table.terminals j in
    carried i d.past ≡ chunks_given i d.asks

-- ---- at the end of plain mixing
abbrev pub EndIsComposed : Type 0
EndIsComposed =
    (s : Setup) (chunks : ℕ → List Chunk) (tick turns j : ℕ) (table : Table)
    → s.aware j ≡ false
    → IsOverWith s tick turns chunks table
    → IsComposedAt s table j

abbrev pub EndTextsAreGiven : Type 0
EndTextsAreGiven =
    (s : Setup) (chunks : ℕ → List Chunk) (tick turns j : ℕ) (table : Table)
    → s.aware j ≡ false
    → IsOverWith s tick turns chunks table
    → SendsGiven table j

-- All that the terminal shares of a leg is given.
abbrev pub SharedIsGiven : Type 0
SharedIsGiven =
    (s : Setup) (chunks : ℕ → List Chunk) (tick turns j i : ℕ) (table : Table)
    → s.aware j ≡ false
    → j < s.legs → i < s.legs → IsAnother i j
    → IsOverWith s tick turns chunks table
    → GivesShared table j i

-- ---- labels
-- A text that was given of a speaker of this name: some characters, its label or none, and more characters. No bracket is among
-- the characters, so each one that is sent is a label's; nor is any direction.
pub record HasOneLabel (name text : List ℕ) : Type 0 where
  pub ahead : List ℕ
  pub label : List ℕ
  pub rest : List ℕ
  pub text_is : text ≡ encode_utf8_all ahead ++ (label ++ encode_utf8_all rest)
  pub of_name : (label ≡ []) ⊎ ((is_open : Bool) × (label ≡ label_after is_open name))
  pub no_bracket : list_any is_bracket (ahead ++ rest) ≡ false
  pub no_direction : list_any is_direction (ahead ++ rest) ≡ false

abbrev pub IsLabelledAnswer : Setup → Option Answer → Type 0
IsLabelledAnswer s None = Unit {0}
IsLabelledAnswer s (Some g) = HasOneLabel (s.name g.source) g.text

-- each text that was given at these asks is
abbrev pub AreLabelled : Setup → List Asked → Type 0
AreLabelled s [] = Unit {0}
AreLabelled s (a ∷ past) = IsLabelledAnswer s a.given × AreLabelled s past

-- Whatever is typed, no bracket is sent but those of labels, and no direction.
abbrev pub BracketsAreLabels : Type 0
BracketsAreLabels =
    (s : Setup) (chunks : ℕ → List Chunk) (past : List Event) (j : ℕ)
    → s.aware j ≡ false
    → AreLabelled s ((after s chunks past).table.terminals j).asks

-- the label before characters, where there are some
abbrev pub label_before : List ℕ → Bool → List ℕ → List ℕ
label_before name is_open [] = []
label_before name is_open (c ∷ cs) = label_after is_open name ++ encode_utf8_all (written [] (c ∷ cs))

-- the first one is seen, where there is one
abbrev pub begins_seen : Bool → List ℕ → List ℕ → Bool
begins_seen behind_cr run [] = true
begins_seen behind_cr run (c ∷ cs) = is_seen behind_cr run c

-- Characters of a run with its label: nothing of `ahead`, which goes ahead of it, is seen; `rest`, behind it, begins with a
-- character that is, and has what is sent of a run's beginning.
pub record StandsBeforeSeen (name : List ℕ) (behind_cr is_open : Bool) (run cs : List ℕ) : Type 0 where
  pub ahead : List ℕ
  pub rest : List ℕ
  pub parts : cs ≡ ahead ++ rest
  pub unseen : from_seen behind_cr run ahead ≡ []
  pub seen : begins_seen behind_cr (run ++ ahead) rest ≡ true
  pub is : labelled name behind_cr is_open run cs ≡ encode_utf8_all ahead ++ label_before name (is_open_after is_open ahead) rest

abbrev pub LabelsStandBeforeSeen : Type 0
LabelsStandBeforeSeen = (name : List ℕ) (behind_cr is_open : Bool) (run cs : List ℕ)
    → StandsBeforeSeen name behind_cr is_open run cs
