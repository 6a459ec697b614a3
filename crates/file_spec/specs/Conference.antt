-- A conference: its legs, its mixer, its times, and what becomes of packets (profile).
use Rattle.std.specs.Prelude.{ℕ, zero, suc, ◌+◌, ◌==◌, nat_lt, nat_le, Bool, true, false, not, ◌&&◌, ◌||◌, if◌then◌else◌, List, [], ◌∷◌, ◌++◌, length, Option, None, Some, is_some, unwrap_or, option_and_then, Result, Ok, Err, codes, bytes_eq}
use Rattle.std.specs.List.{list_any, list_all, position}
use Rattle.std.specs.Option.{ok_or}
use Rattle.std.specs.Char.{is_ascii_alphanumeric}
use Rattle.std.specs.Str.{byte, is_utf8}
use Rattle.std.specs.Str.Lines.{lines}
use Rattle.rtt_base.specs.declared.text_packets.PayloadTypes.{PayloadTypes}
use Rattle.file_spec.specs.declared.kinds.ConfKind.{ConfKind}
use Rattle.file_spec.specs.declared.kinds.ConfKind.TheVariants.{NotText, Word, Count, Name, Number, Many, PlanMany, Twice, Clash, Few, Crowd, Large}
use Rattle.file_spec.specs.declared.conference_lines.Form.{Form}
use Rattle.file_spec.specs.declared.conference_lines.Form.TheVariants.{Files, Links}
use Rattle.file_spec.specs.declared.conference_lines.MixerLine.{MixerLine}
use Rattle.file_spec.specs.declared.conference_lines.LegLine.{LegLine}
use Rattle.file_spec.specs.declared.conference_lines.Stay.{Stay}
use Rattle.file_spec.specs.declared.conference_lines.GenerationsLine.{GenerationsLine}
use Rattle.file_spec.specs.declared.conference_lines.StayLine.{StayLine}
use Rattle.file_spec.specs.declared.conference_lines.PlanLine.{PlanLine}
use Rattle.file_spec.specs.declared.conference_lines.What.{What}
use Rattle.file_spec.specs.declared.conference_lines.What.TheVariants as what
use Rattle.file_spec.specs.declared.services.OperatorLine.{OperatorLine}
use Rattle.file_spec.specs.declared.services.Service.{Service}
use Rattle.file_spec.specs.declared.services.ServiceLine.{ServiceLine}
use Rattle.file_spec.specs.declared.services.ServiceLine.TheVariants as service
use Rattle.file_spec.specs.declared.limits.TheConstants.{FEWEST_LEGS, MOST_LEGS, MOST_LINKS, LEAST_TICK, MOST_TICK, USUAL_TICK, LEAST_SPACING, MOST_SPACING, USUAL_SPACING, LEAST_RELABEL, MOST_RELABEL, LEAST_MTU, MOST_MTU, LEAST_GONE, MOST_GONE, MOST_TURNS, MOST_GENERATIONS, USUAL_GENERATIONS, MOST_PLAN_LINES, LONGEST_DELAY, LAST_MOMENT, USUAL_T140, USUAL_RED, LONGEST_NAME, LONGEST_PATH, MOST_CONFERENCE_OCTETS}
use Rattle.rtt_base.specs.Steps.{◌>>=◌}
use Rattle.file_spec.specs.Steps.{unless}
use Rattle.file_spec.specs.Lines.{Line, Refusal, told, is_comment, words, at_line, read_lines}
use Rattle.file_spec.specs.Numbers.{number, number_between, most_ssrc, payload_types}
use Rattle.file_spec.specs.Stays.{is_crowd}
use Rattle.file_spec.specs.Services.{no_service, with_service, is_operator_word}
use Rattle.rtt_base.specs.declared.limits.TheConstants.{LONGEST_WAIT, USUAL_WAIT}

pub record Conference : Type 0 where
  pub legs : List LegLine
  pub tick : ℕ
  pub spacing : ℕ
  pub wait : ℕ
  pub turns : ℕ
  pub relabel : Option ℕ
  pub mtu : Option ℕ
  pub mixer : MixerLine
  pub plan : List PlanLine
  pub service : Service

-- what the lines so far say: the legs with their generations and stays, and of which legs lines have told these
pub record Above : Type 0 where
  pub legs : List LegLine
  pub generations : List ℕ
  pub stays : List ℕ
  pub tick : Option ℕ
  pub spacing : Option ℕ
  pub wait : Option ℕ
  pub turns : Option ℕ
  pub relabel : Option ℕ
  pub mtu : Option ℕ
  pub mixer : Option MixerLine
  pub plan : List PlanLine
  pub service : Service

-- what one line says
pub data Entry : Type 0 where
  Leg : LegLine → Entry
  Generations : GenerationsLine → Entry
  Stays : StayLine → Entry
  Tick : ℕ → Entry
  Spacing : ℕ → Entry
  Wait : ℕ → Entry
  Turns : ℕ → Entry
  Relabel : ℕ → Entry
  Mtu : ℕ → Entry
  Mixer : MixerLine → Entry
  Plan : PlanLine → Entry
  Follows : ℕ → Entry
  Longs : ℕ → Entry
  Serves : ServiceLine → Entry

abbrev pub nothing : Above
nothing = record { legs = []; generations = []; stays = []; tick = None; spacing = None; wait = None; turns = None; relabel = None; mtu = None; mixer = None; plan = []; service = no_service }

-- the legs, the one at this place changed
abbrev pub change_leg : (LegLine → LegLine) → ℕ → List LegLine → List LegLine
change_leg change k [] = []
change_leg change zero (leg ∷ more) = change leg ∷ more
change_leg change (suc k) (leg ∷ more) = leg ∷ change_leg change k more

abbrev pub with_generations : ℕ → LegLine → LegLine
with_generations n leg = record leg { generations = n }

abbrev pub with_stay : Stay → LegLine → LegLine
with_stay stay leg = record leg { stay = stay }

abbrev pub with_follow : LegLine → LegLine
with_follow leg = record leg { follow = true }

abbrev pub with_long : LegLine → LegLine
with_long leg = record leg { long = true }

abbrev pub with_entry : Above → Entry → Above
with_entry a (Leg l) = record a { legs = a.legs ++ l ∷ [] }
with_entry a (Generations g) = record a { legs = change_leg (with_generations g.generations) g.leg a.legs; generations = a.generations ++ g.leg ∷ [] }
with_entry a (Stays s) = record a { legs = change_leg (with_stay s.stay) s.leg a.legs; stays = a.stays ++ s.leg ∷ [] }
with_entry a (Tick n) = record a { tick = Some n }
with_entry a (Spacing n) = record a { spacing = Some n }
with_entry a (Wait n) = record a { wait = Some n }
with_entry a (Turns n) = record a { turns = Some n }
with_entry a (Relabel n) = record a { relabel = Some n }
with_entry a (Mtu n) = record a { mtu = Some n }
with_entry a (Mixer m) = record a { mixer = Some m }
with_entry a (Plan p) = record a { plan = a.plan ++ p ∷ [] }
with_entry a (Follows k) = record a { legs = change_leg with_follow k a.legs }
with_entry a (Longs k) = record a { legs = change_leg with_long k a.legs }
with_entry a (Serves s) = record a { service = with_service a.service s }

-- ---- numbers, times and the mixer

-- one number, on one line
abbrev pub setting : ℕ → ℕ → Option ℕ → List (List ℕ) → Result ℕ ConfKind
setting least most above (text ∷ []) = ok_or (number_between least most text) Number >>= unless (is_some above) Twice
setting least most above _ = Err Count

unfoldable pub mixer_of : Above → List ℕ → List ℕ → List ℕ → Result MixerLine ConfKind
mixer_of above ssrc seq timestamp = do
  sender ← ok_or (number most_ssrc ssrc) Number
  first ← ok_or (number 65535 seq) Number
  start ← ok_or (number 4294967295 timestamp) Number
  line ← unless (is_some above.mixer) Twice (record { ssrc = sender; seq = first; timestamp = start })
  unless (list_any (λ leg. leg.ssrc == sender) above.legs) Clash line

abbrev pub mixer : Above → List (List ℕ) → Result MixerLine ConfKind
mixer above (ssrc ∷ seq ∷ timestamp ∷ []) = mixer_of above ssrc seq timestamp
mixer above _ = Err Count

-- ---- legs

abbrev pub aware_of : List ℕ → Option Bool
aware_of mode = if bytes_eq mode (codes "aware") then Some true else (if bytes_eq mode (codes "unaware") then Some false else None)

-- an ASCII letter, a digit, or one of `.`, `_` and `-`
abbrev pub is_name_octet : ℕ → Bool
is_name_octet c = is_ascii_alphanumeric c || (c == byte "." || (c == byte "_" || c == byte "-"))

abbrev pub is_name : List ℕ → Bool
is_name text = nat_lt 0 (length text) && (nat_le (length text) LONGEST_NAME && list_all is_name_octet text)

abbrev pub is_path : List ℕ → Bool
is_path text = nat_lt 0 (length text) && nat_le (length text) LONGEST_PATH

-- the port at which a link hears
abbrev pub port : List ℕ → Option ℕ
port text = number_between 1 65535 text

-- the input is a path among files; among links it's a port, and that is a matter of numbers
abbrev pub has_names : Form → List ℕ → List ℕ → List ℕ → Bool
has_names Files name input output = is_name name && (is_path input && is_path output)
has_names Links name input output = is_name name && is_path output

abbrev pub has_port : Form → List ℕ → Bool
has_port Files input = true
has_port Links input = is_some (port input)

abbrev pub is_same_port : Option ℕ → Option ℕ → Bool
is_same_port (Some a) (Some b) = a == b
is_same_port _ _ = false

-- whether two legs, the first one above the second, want the same path or port
abbrev pub shares_path : Form → LegLine → LegLine → Bool
shares_path Files above leg = bytes_eq above.output leg.output || (bytes_eq above.input leg.output || bytes_eq above.output leg.input)
shares_path Links above leg = bytes_eq above.output leg.output || is_same_port (port above.input) (port leg.input)

-- whether a leg's own paths or payload types are the same
abbrev pub shares_own : Form → LegLine → Bool
shares_own Files leg = leg.payload_types.t140 == leg.payload_types.red || bytes_eq leg.output leg.input
shares_own Links leg = leg.payload_types.t140 == leg.payload_types.red

abbrev pub is_mixers : Option MixerLine → ℕ → Bool
is_mixers None ssrc = false
is_mixers (Some m) ssrc = m.ssrc == ssrc

-- whether an operator is heard at this port; so it is among links alone
abbrev pub is_operators : Option OperatorLine → Option ℕ → Bool
is_operators None port = false
is_operators (Some o) port = is_same_port (Some o.port) port

abbrev pub clashes : Form → Above → LegLine → Bool
clashes form above leg =
    list_any (λ a. a.ssrc == leg.ssrc) above.legs || (is_mixers above.mixer leg.ssrc
    || (shares_own form leg || (list_any (λ a. shares_path form a leg) above.legs || is_operators above.service.operator (port leg.input))))

-- how many legs there may be
abbrev pub most_legs : Form → ℕ
most_legs Files = MOST_LEGS
most_legs Links = MOST_LINKS

abbrev pub new_leg : Form → Above → LegLine → Result LegLine ConfKind
new_leg form above leg =
    unless (nat_le (most_legs form) (length above.legs)) Many leg
    >>= unless (list_any (λ a. bytes_eq a.name leg.name) above.legs) Twice
    >>= unless (clashes form above leg) Clash

-- without end
abbrev pub whole_stay : Stay
whole_stay = record { from = 0; until = None }

unfoldable pub leg_of : Form → Above → ℕ → List ℕ → List ℕ → List ℕ → List ℕ → List ℕ → Option PayloadTypes
    → Result LegLine ConfKind
leg_of form above n name mode ssrc input output types = do
  aware ← ok_or (aware_of mode) Word
  named ← unless (not (has_names form name input output)) Name name
  sender ← ok_or (number most_ssrc ssrc) Number
  from ← unless (not (has_port form input)) Number input
  payload_types ← ok_or types Number
  new_leg form above (record { line = n; name = named; aware = aware; ssrc = sender; input = from; output = output; payload_types = payload_types; generations = USUAL_GENERATIONS; stay = whole_stay; follow = false; long = false })

abbrev pub usual_types : PayloadTypes
usual_types = record { t140 = USUAL_T140; red = USUAL_RED }

abbrev pub leg : Form → Above → ℕ → List (List ℕ) → Result LegLine ConfKind
leg form above n (name ∷ mode ∷ ssrc ∷ input ∷ output ∷ []) = leg_of form above n name mode ssrc input output (Some usual_types)
leg form above n (name ∷ mode ∷ ssrc ∷ input ∷ output ∷ t140 ∷ red ∷ []) = leg_of form above n name mode ssrc input output (payload_types t140 red)
leg form above n _ = Err Count

-- ---- generations and stays

-- the leg above that has this name, by its place
abbrev pub place_of : Above → List ℕ → Result ℕ ConfKind
place_of above name = ok_or (position (λ leg. bytes_eq leg.name name) above.legs) Name

unfoldable pub generations_of : Above → List ℕ → List ℕ → Result GenerationsLine ConfKind
generations_of above name count = do
  k ← place_of above name
  n ← ok_or (number MOST_GENERATIONS count) Number
  unless (list_any (λ other. other == k) above.generations) Twice (record { leg = k; generations = n })

abbrev pub generations : Above → List (List ℕ) → Result GenerationsLine ConfKind
generations above (name ∷ count ∷ []) = generations_of above name count
generations above _ = Err Count

unfoldable pub stay_of : Above → List ℕ → List ℕ → List ℕ → Result StayLine ConfKind
stay_of above name from until = do
  k ← place_of above name
  comes ← ok_or (number LAST_MOMENT from) Number
  goes ← ok_or (number LAST_MOMENT until) Number
  line ← unless (nat_le goes comes) Number (record { leg = k; stay = record { from = comes; until = Some goes } })
  unless (list_any (λ other. other == k) above.stays) Twice line

abbrev pub stay : Above → List (List ℕ) → Result StayLine ConfKind
stay above (name ∷ from ∷ until ∷ []) = stay_of above name from until
stay above _ = Err Count

-- ---- who is followed

-- the place of a leg above that is not yet followed
unfoldable pub follow_of : Above → List ℕ → Result ℕ ConfKind
follow_of above name = place_of above name >>= unless (list_any (λ leg. bytes_eq leg.name name && leg.follow) above.legs) Twice

abbrev pub follow : Above → List (List ℕ) → Result ℕ ConfKind
follow above (name ∷ []) = follow_of above name
follow above _ = Err Count

-- ---- whose texts may be long

-- the place of a leg above that is not yet told to be so
unfoldable pub long_of : Above → List ℕ → Result ℕ ConfKind
long_of above name = place_of above name >>= unless (list_any (λ leg. bytes_eq leg.name name && leg.long) above.legs) Twice

abbrev pub long : Above → List (List ℕ) → Result ℕ ConfKind
long above (name ∷ []) = long_of above name
long above _ = Err Count

-- ---- what becomes of packets

abbrev pub is_same_word : What → What → Bool
is_same_word what.Lose what.Lose = true
is_same_word (what.Delay a) (what.Delay b) = true
is_same_word what.Twice what.Twice = true
is_same_word _ _ = false

abbrev pub is_same_packet : PlanLine → PlanLine → Bool
is_same_packet a b = is_same_word a.what b.what && (a.terminal == b.terminal && a.packet == b.packet)

unfoldable pub plan_of : Above → List ℕ → List ℕ → Option What → Result PlanLine ConfKind
plan_of above name packet happens = do
  terminal ← place_of above name
  k ← ok_or (number 4294967295 packet) Number
  w ← ok_or happens Number
  line ← unless (nat_le MOST_PLAN_LINES (length above.plan)) PlanMany (record { terminal = terminal; packet = k; what = w })
  unless (list_any (λ p. is_same_packet p line) above.plan) Twice line

abbrev pub plan : Above → What → List (List ℕ) → Result PlanLine ConfKind
plan above w (name ∷ packet ∷ []) = plan_of above name packet (Some w)
plan above w _ = Err Count

abbrev pub delay_of : List ℕ → Option What
delay_of text = option_and_then (λ ms. Some (what.Delay ms)) (number LONGEST_DELAY text)

abbrev pub delay : Above → List (List ℕ) → Result PlanLine ConfKind
delay above (name ∷ packet ∷ late ∷ []) = plan_of above name packet (delay_of late)
delay above _ = Err Count

abbrev pub plan_word : Above → List ℕ → List (List ℕ) → Result PlanLine ConfKind
plan_word above word more =
    if bytes_eq word (codes "lose") then plan above what.Lose more
    else (if bytes_eq word (codes "delay") then delay above more
    else (if bytes_eq word (codes "twice") then plan above what.Twice more else Err Word))

-- ---- what is asked beside the mixing

abbrev pub says : {A B : Type 0} → (A → B) → Result A ConfKind → Result B ConfKind
says entry (Ok x) = Ok (entry x)
says entry (Err kind) = Err kind

unfoldable pub operator_of : Above → List ℕ → List ℕ → Result OperatorLine ConfKind
operator_of above at word = do
  said ← unless (not (is_operator_word word)) Name word
  n ← ok_or (port at) Number
  line ← unless (is_some above.service.operator) Twice (record { port = n; word = said })
  unless (list_any (λ leg. is_same_port (Some n) (port leg.input)) above.legs) Clash line

abbrev pub operator : Above → List (List ℕ) → Result OperatorLine ConfKind
operator above (at ∷ word ∷ []) = operator_of above at word
operator above _ = Err Count

-- what the names of recordings begin with
abbrev pub prefix_of : Above → List ℕ → Result (List ℕ) ConfKind
prefix_of above text = unless (not (is_path text)) Name text >>= unless (is_some above.service.recorded) Twice

abbrev pub prefix : Above → List (List ℕ) → Result (List ℕ) ConfKind
prefix above (text ∷ []) = prefix_of above text
prefix above _ = Err Count

abbrev pub service_word : Above → List ℕ → List (List ℕ) → Result ServiceLine ConfKind
service_word above word more =
    if bytes_eq word (codes "gone") then says service.Gone (setting LEAST_GONE MOST_GONE above.service.gone more)
    else (if bytes_eq word (codes "operator") then says service.Operator (operator above more)
    else (if bytes_eq word (codes "record") then says service.Record (prefix above more) else Err Word))

-- the counts of each leg, asked for once
abbrev pub counts : Above → List (List ℕ) → Result ServiceLine ConfKind
counts above [] = unless above.service.counts Twice service.Counts
counts above _ = Err Count

-- ---- lines

unfoldable pub stay_or_plan : Above → List ℕ → List (List ℕ) → Result Entry ConfKind
stay_or_plan above word more =
    if bytes_eq word (codes "stay") then says Stays (stay above more)
    else says Plan (plan_word above word more)

unfoldable pub follow_or_service : Above → List ℕ → List (List ℕ) → Result Entry ConfKind
follow_or_service above word more =
    if bytes_eq word (codes "follow") then says Follows (follow above more)
    else says Serves (service_word above word more)

-- what one form alone has words for
abbrev pub of_form : Form → Above → List ℕ → List (List ℕ) → Result Entry ConfKind
of_form Files above word more = stay_or_plan above word more
of_form Links above word more = follow_or_service above word more

-- the counts and long texts, which both forms have, or what one form alone has words for
abbrev pub counts_or_other : Form → Above → List ℕ → List (List ℕ) → Result Entry ConfKind
counts_or_other form above word more =
    if bytes_eq word (codes "counts") then says Serves (counts above more)
    else (if bytes_eq word (codes "long") then says Longs (long above more)
    else of_form form above word more)

-- the times, and the most octets of a packet, one number each
unfoldable pub time_or_other : Form → Above → List ℕ → List (List ℕ) → Result Entry ConfKind
time_or_other form above word more =
    if bytes_eq word (codes "tick") then says Tick (setting LEAST_TICK MOST_TICK above.tick more)
    else (if bytes_eq word (codes "spacing") then says Spacing (setting LEAST_SPACING MOST_SPACING above.spacing more)
    else (if bytes_eq word (codes "wait") then says Wait (setting 0 LONGEST_WAIT above.wait more)
    else (if bytes_eq word (codes "turns") then says Turns (setting 1 MOST_TURNS above.turns more)
    else (if bytes_eq word (codes "relabel") then says Relabel (setting LEAST_RELABEL MOST_RELABEL above.relabel more)
    else (if bytes_eq word (codes "mtu") then says Mtu (setting LEAST_MTU MOST_MTU above.mtu more)
    else counts_or_other form above word more)))))

-- what the words of a line say: the first one decides how many there are
unfoldable pub entry : Form → Above → ℕ → List (List ℕ) → Result Entry ConfKind
entry form above n [] = Err Word
entry form above n (word ∷ more) =
    if bytes_eq word (codes "leg") then says Leg (leg form above n more)
    else (if bytes_eq word (codes "mixer") then says Mixer (mixer above more)
    else (if bytes_eq word (codes "gens") then says Generations (generations above more)
    else time_or_other form above word more))

-- spaces alone, or a comment
abbrev pub is_blank : List ℕ → Bool
is_blank octets = list_all (λ c. c == byte " ") octets || is_comment octets

-- a line and those above it
abbrev pub and_line : Form → Above → Line → Result Above ConfKind
and_line form above line = do
  octets ← unless (not (is_utf8 line.octets)) NotText line.octets
  said ← entry form above line.number (words octets)
  Ok (with_entry above said)

-- ---- the whole

-- what isn't said has its default; of labelling again, and of packets' octets, there is none
abbrev pub whole : Above → MixerLine → Conference
whole above mixer = record {
  legs = above.legs;
  tick = unwrap_or above.tick USUAL_TICK;
  spacing = unwrap_or above.spacing USUAL_SPACING;
  wait = unwrap_or above.wait USUAL_WAIT;
  turns = unwrap_or above.turns MOST_TURNS;
  relabel = above.relabel;
  mtu = above.mtu;
  mixer = mixer;
  plan = above.plan;
  service = above.service;
}

-- two legs at least, a mixer, and a place for each leg that stays
abbrev pub complete : Above → Option MixerLine → Result Conference ConfKind
complete above None = Err Few
complete above (Some mixer) =
    unless (nat_lt (length above.legs) FEWEST_LEGS) Few (whole above mixer)
    >>= unless (is_crowd above.legs) Crowd

-- the conference that a file describes, or its first bad line; the line after the last one is bad where something is missing
abbrev pub conference_from : Form → List ℕ → Result Conference Refusal
conference_from form octets =
    if nat_lt MOST_CONFERENCE_OCTETS (length octets) then Err (record { line = 0; kind = Large })
    else read_lines (and_line form) nothing (told is_blank 1 (lines octets))
    >>= λ above. at_line (length (lines octets) + 1) (complete above above.mixer)
