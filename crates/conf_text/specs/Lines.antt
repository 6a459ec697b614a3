-- What the lines of a conference in the code mean (profile).
use Rattle.std.specs.Prelude.{false, ℕ, ◌<◌, Result, Ok, Err, Option, List, length, map}
use denote.Ref.{Bor}
use Rattle.file_spec.specs.declared.limits.TheConstants.{MOST_LEGS, USUAL_GENERATIONS}
use Rattle.file_spec.specs.declared.conference_lines.LegLine.{LegLine}
use Rattle.file_spec.specs.declared.conference_lines.Form.{Form}
use Rattle.file_spec.specs.declared.kinds.ConfKind.{ConfKind}
use Rattle.file_spec.specs.Conference as conference
use Rattle.rtt_base.specs.declared.text_packets.PayloadTypes.{PayloadTypes}
use Rattle.conf_text.specs.declared.leg_lines.LegWords.{LegWords}
use Rattle.conf_text.specs.declared.drafts.NewLeg.{NewLeg}
use Rattle.conf_text.specs.declared.drafts.Draft.{Draft}
use Rattle.conf_text.specs.declared.drafts.LineEntry.{LineEntry}
use Rattle.conf_text.specs.declared.drafts.LineEntry.TheVariants.{Leg, Generations, Stays, Tick, Spacing, Wait, Turns, Relabel, Mtu, Mixer, Plan, Follows, Longs, Serves}

abbrev pub above_of : Draft → conference.Above
above_of d = record { legs = d.legs; generations = d.generations.items; stays = d.stays.items; tick = d.tick; spacing = d.spacing; wait = d.wait; turns = d.turns; relabel = d.relabel; mtu = d.mtu; mixer = d.mixer; plan = d.plan; service = d.service }

abbrev pub leg_line : NewLeg → LegLine
leg_line l = record { line = l.line; name = l.name; aware = l.aware; ssrc = l.ssrc; input = l.input.now; output = l.output.now; payload_types = l.payload_types; generations = USUAL_GENERATIONS; stay = conference.whole_stay; follow = false; long = false }

abbrev pub meaning : LineEntry → conference.Entry
meaning (Leg l) = conference.Leg (leg_line l)
meaning (Generations g) = conference.Generations g
meaning (Stays s) = conference.Stays s
meaning (Tick n) = conference.Tick n
meaning (Spacing n) = conference.Spacing n
meaning (Wait n) = conference.Wait n
meaning (Turns n) = conference.Turns n
meaning (Relabel n) = conference.Relabel n
meaning (Mtu n) = conference.Mtu n
meaning (Mixer m) = conference.Mixer m
meaning (Plan p) = conference.Plan p
meaning (Follows k) = conference.Follows k
meaning (Longs k) = conference.Longs k
meaning (Serves s) = conference.Serves s

-- the lines so far with a line of this number that has these octets
abbrev pub with_line : Form → Draft → ℕ → List ℕ → Result conference.Above ConfKind
with_line form draft number octets = conference.and_line form (above_of draft) (record { number = number; octets = octets })

-- the leg that these words say on a line, below these lines
abbrev pub leg_said : Form → Draft → ℕ → LegWords → Option PayloadTypes → Result LegLine ConfKind
leg_said form above line words payload_types =
    conference.leg_of form (above_of above) line words.name.now words.mode.now words.ssrc.now words.input.now words.output.now payload_types

-- the words themselves
abbrev pub texts_of : List (Bor (List ℕ)) → List (List ℕ)
texts_of words = map (λ w. w.now) words

-- a result, its value seen so
abbrev pub seen : {A B E : Type 0} → (A → B) → Result A E → Result B E
seen view (Ok x) = Ok (view x)
seen view (Err e) = Err e

-- there is room for a leg, and what is told of one is told of a leg above
abbrev pub MayFollow : conference.Above → conference.Entry → Type 0
MayFollow above (conference.Leg l) = length above.legs < MOST_LEGS
MayFollow above (conference.Generations g) = g.leg < length above.legs
MayFollow above (conference.Stays s) = s.leg < length above.legs
MayFollow above (conference.Tick n) = Unit {0}
MayFollow above (conference.Spacing n) = Unit {0}
MayFollow above (conference.Wait n) = Unit {0}
MayFollow above (conference.Turns n) = Unit {0}
MayFollow above (conference.Relabel n) = Unit {0}
MayFollow above (conference.Mtu n) = Unit {0}
MayFollow above (conference.Mixer m) = Unit {0}
MayFollow above (conference.Plan p) = Unit {0}
MayFollow above (conference.Follows k) = k < length above.legs
MayFollow above (conference.Longs k) = k < length above.legs
MayFollow above (conference.Serves s) = Unit {0}
