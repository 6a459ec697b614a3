-- The conference that `make` makes from a number (profile), and what is typed in it. The number is the state from which
-- all is drawn.
use Rattle.std.specs.Prelude.{false, ℕ, zero, suc, ◌+◌, ◌%◌, ◌==◌, not, List, [], ◌∷◌, ◌++◌, map, filter, codes, decimal, if◌then◌else◌}
use Rattle.std.specs.List.{range_with_len}
use Rattle.file_spec.specs.declared.conference_lines.LegLine.{LegLine}
use Rattle.file_spec.specs.declared.conference_lines.MixerLine.{MixerLine}
use Rattle.file_spec.specs.declared.conference_lines.PlanLine.{PlanLine}
use Rattle.file_spec.specs.declared.conference_lines.What.{What}
use Rattle.file_spec.specs.declared.conference_lines.What.TheVariants.{Lose, Delay, Twice}
use Rattle.file_spec.specs.declared.limits.TheConstants.{USUAL_GENERATIONS}
use Rattle.file_spec.specs.Conference.{Conference, is_same_packet, nothing, usual_types, whole, whole_stay}
use Rattle.file_spec.specs.Script.{ScriptLine}
use Rattle.command_spec.specs.Draws.{Drawing, draw, give, times, ◌>>=◌}

-- what one leg types, and its first sequence number
pub record Typist : Type 0 where
  pub first : ℕ
  pub script : List ScriptLine

-- the conference, and for each of its legs, in leg order, what it types and its first sequence number
pub record Generated : Type 0 where
  pub conference : Conference
  pub scripts : List (List ScriptLine)
  pub firsts : List ℕ

-- ---- what is typed
-- a letter `a` to `z`
abbrev pub letter : Drawing ℕ
letter = do
  place ← draw 26
  give (97 + place)

-- what stands behind a word: a stop and a space, U+2028, U+0008, or nothing
abbrev pub behind_word : ℕ → List ℕ
behind_word e =
    if e == 0 then codes ". "
    else (if e == 1 then 226 ∷ 128 ∷ 168 ∷ []
    else (if e == 2 then 8 ∷ [] else []))

-- a word of 1 to 12 letters, and what stands behind it
unfoldable pub text : Drawing (List ℕ)
text = do
  more ← draw 12
  word ← times (1 + more) letter
  e ← draw 8
  give (word ++ behind_word e)

-- so many lines, the first of them typed at this moment, each 100 to 999 milliseconds after the one before
unfoldable pub script_from : ℕ → ℕ → Drawing (List ScriptLine)
script_from zero at = give []
script_from (suc n) at = do
  said ← text
  pause ← draw 900
  more ← script_from n (at + (100 + pause))
  give (record { line = 0; at = at; text = said } ∷ more)

-- 40 lines, the first of them in the first second
unfoldable pub typist : Drawing Typist
typist = do
  first ← draw 32768
  at ← draw 1000
  script ← script_from 40 at
  give (record { first = first; script = script })

-- ---- what becomes of packets
abbrev pub delay : Drawing What
delay = do
  late ← draw 2000
  give (Delay late)

-- half are lost, the others late by less than two seconds or doubled
abbrev pub what : Drawing What
what = do
  w ← draw 4
  if w == 2 then delay else give (if w == 3 then Twice else Lose)

-- one of the first 400 packets to one of so many terminals
unfoldable pub plan_line : ℕ → Drawing PlanLine
plan_line legs = do
  terminal ← draw legs
  packet ← draw 400
  happens ← what
  give (record { terminal = terminal; packet = packet; what = happens })

-- the lines of which none before says the same of a packet
abbrev pub without_repeats : List PlanLine → List PlanLine
without_repeats [] = []
without_repeats (p ∷ more) = p ∷ filter (λ q. not (is_same_packet p q)) (without_repeats more)

-- ---- the conference
-- every fourth leg is not aware
abbrev pub leg : ℕ → LegLine
leg i = record {
  line = 0;
  name = codes "L" ++ decimal i;
  aware = not (i % 4 == 3);
  ssrc = 1000 + i;
  input = decimal i ++ codes ".in";
  output = decimal i ++ codes ".out";
  payload_types = usual_types;
  generations = USUAL_GENERATIONS;
  stay = whole_stay;
  follow = false;
  long = false;
}

-- the mixer's stream begins with 0
abbrev pub mixer : MixerLine
mixer = record { ssrc = 1; seq = 0; timestamp = 0 }

-- so many legs, and this plan; all else has its default
abbrev pub conference_of : ℕ → List PlanLine → Conference
conference_of legs plan = whole (record nothing { legs = map leg (range_with_len 0 legs); plan = plan }) mixer

-- ---- the whole
abbrev pub generated_of : ℕ → List Typist → List PlanLine → Generated
generated_of legs typists lines = record {
  conference = conference_of legs (without_repeats lines);
  scripts = map (λ t. t.script) typists;
  firsts = map (λ t. t.first) typists;
}

-- 2 to 16 legs, what each of them types, and 200 plan lines
abbrev pub drawn : Drawing Generated
drawn = do
  more ← draw 15
  typists ← times (2 + more) typist
  lines ← times 200 (plan_line (2 + more))
  give (generated_of (2 + more) typists lines)

unfoldable pub generated : ℕ → Generated
generated n = (drawn n).0
