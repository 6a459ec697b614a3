-- Worked examples of conferences, by computing.
use Rattle.std.proofs.Common.{◌≡◌, ℕ, refl, List, [], ◌∷◌, ◌++◌, Ok, Err, None, Some, codes, true, false}
use Rattle.std.specs.Prelude.{map, replicate}
use Rattle.std.specs.Str.{is_utf8, chars}
use Rattle.std.specs.Char.{encode_utf8}
use Rattle.file_spec.specs.declared.kinds.ConfKind.TheVariants.{NotText, Word, Count, Name, Number, Many, PlanMany, Twice, Clash, Few, Crowd}
use Rattle.file_spec.specs.declared.conference_lines.Form.{Form}
use Rattle.file_spec.specs.declared.conference_lines.Form.TheVariants.{Files, Links}
use Rattle.file_spec.specs.declared.conference_lines.LegLine.{LegLine}
use Rattle.file_spec.specs.declared.conference_lines.MixerLine.{MixerLine}
use Rattle.file_spec.specs.declared.conference_lines.Stay.{Stay}
use Rattle.file_spec.specs.declared.conference_lines.What.TheVariants as what
use Rattle.file_spec.specs.Lines.{Refusal}
use Rattle.file_spec.specs.Stays.{is_crowd}
use Rattle.file_spec.specs.Services.{no_service}
use Rattle.file_spec.specs.Conference.{Above, Conference, complete, conference_from, entry, generations_of, leg_of, mixer_of, new_leg, nothing, operator_of, plan_of, stay_of, stay_or_plan, follow_of, follow_or_service, time_or_other, usual_types, whole, whole_stay}

-- a conference of these legs that says no more than it must
abbrev usual : List LegLine → MixerLine → Conference
usual legs mixer = record { legs = legs; tick = 100; spacing = 300; wait = 1000; turns = 5000000; relabel = None; mtu = None; mixer = mixer; plan = []; service = no_service }

two_legs_and_a_loss : conference_from Files (codes "mixer 9000 100 5000\n\n# who\n leg Ann aware 1001 ann.in ann.out\r\nleg Bob  unaware 1002 bob.in bob.out 96 97\ntick 20\nlose Bob 1")
    ≡ Ok (record (
    usual
    (record { line = 4; name = codes "Ann"; aware = true; ssrc = 1001; input = codes "ann.in"; output = codes "ann.out"; payload_types = record { t140 = 98; red = 100 }; generations = 2; stay = record { from = 0; until = None }; follow = false; long = false }
    ∷ record { line = 5; name = codes "Bob"; aware = false; ssrc = 1002; input = codes "bob.in"; output = codes "bob.out"; payload_types = record { t140 = 96; red = 97 }; generations = 2; stay = record { from = 0; until = None }; follow = false; long = false } ∷ [])
    (record { ssrc = 9000; seq = 100; timestamp = 5000 })
    ) { tick = 20; plan = record { terminal = 1; packet = 1; what = what.Lose } ∷ [] })
unfolding entry generations_of leg_of mixer_of plan_of stay_of stay_or_plan follow_or_service time_or_other is_utf8 chars encode_utf8
two_legs_and_a_loss = refl

labelled_again : conference_from Links (codes "leg A aware 1 5004 h:1\nleg B unaware 2 5006 h:2\nrelabel 7000\nmixer 3 0 0")
    ≡ Ok (record (
    usual
    (record { line = 1; name = codes "A"; aware = true; ssrc = 1; input = codes "5004"; output = codes "h:1"; payload_types = record { t140 = 98; red = 100 }; generations = 2; stay = record { from = 0; until = None }; follow = false; long = false }
    ∷ record { line = 2; name = codes "B"; aware = false; ssrc = 2; input = codes "5006"; output = codes "h:2"; payload_types = record { t140 = 98; red = 100 }; generations = 2; stay = record { from = 0; until = None }; follow = false; long = false } ∷ [])
    (record { ssrc = 3; seq = 0; timestamp = 0 })
    ) { relabel = Some 7000 })
unfolding entry generations_of leg_of mixer_of plan_of stay_of stay_or_plan follow_or_service time_or_other is_utf8 chars encode_utf8
labelled_again = refl

asked_of_links : conference_from Links (codes "gone 60000\nleg A aware 1 5004 h:1\noperator 06100 Word4Watch\nleg B unaware 2 5006 h:2\nmixer 3 0 0\nrecord calls/main\ncounts")
    ≡ Ok (record (
    usual
    (record { line = 2; name = codes "A"; aware = true; ssrc = 1; input = codes "5004"; output = codes "h:1"; payload_types = record { t140 = 98; red = 100 }; generations = 2; stay = record { from = 0; until = None }; follow = false; long = false }
    ∷ record { line = 4; name = codes "B"; aware = false; ssrc = 2; input = codes "5006"; output = codes "h:2"; payload_types = record { t140 = 98; red = 100 }; generations = 2; stay = record { from = 0; until = None }; follow = false; long = false } ∷ [])
    (record { ssrc = 3; seq = 0; timestamp = 0 })
    ) { service = record { gone = Some 60000; operator = Some (record { port = 6100; word = codes "Word4Watch" }); recorded = Some (codes "calls/main"); counts = true } })
unfolding entry generations_of leg_of mixer_of operator_of plan_of stay_of stay_or_plan follow_or_service time_or_other is_utf8 chars encode_utf8
asked_of_links = refl

generations_and_stays : conference_from Files (codes "leg A aware 1 a.in a.out\nleg B aware 2 b.in b.out\ngens B 0\nstay A 300 900\nmixer 3 0 0")
    ≡ Ok (usual
    (record { line = 1; name = codes "A"; aware = true; ssrc = 1; input = codes "a.in"; output = codes "a.out"; payload_types = record { t140 = 98; red = 100 }; generations = 2; stay = record { from = 300; until = Some 900 }; follow = false; long = false }
    ∷ record { line = 2; name = codes "B"; aware = true; ssrc = 2; input = codes "b.in"; output = codes "b.out"; payload_types = record { t140 = 98; red = 100 }; generations = 0; stay = record { from = 0; until = None }; follow = false; long = false } ∷ [])
    (record { ssrc = 3; seq = 0; timestamp = 0 }))
unfolding entry generations_of leg_of mixer_of plan_of stay_of stay_or_plan follow_or_service time_or_other is_utf8 chars encode_utf8
generations_and_stays = refl

one_is_followed : conference_from Links (codes "leg A aware 1 5004 h:1\nfollow A\nleg B unaware 2 5006 h:2\nmixer 3 0 0")
    ≡ Ok (usual
    (record { line = 1; name = codes "A"; aware = true; ssrc = 1; input = codes "5004"; output = codes "h:1"; payload_types = record { t140 = 98; red = 100 }; generations = 2; stay = record { from = 0; until = None }; follow = true; long = false }
    ∷ record { line = 3; name = codes "B"; aware = false; ssrc = 2; input = codes "5006"; output = codes "h:2"; payload_types = record { t140 = 98; red = 100 }; generations = 2; stay = record { from = 0; until = None }; follow = false; long = false } ∷ [])
    (record { ssrc = 3; seq = 0; timestamp = 0 }))
unfolding entry leg_of mixer_of follow_of follow_or_service time_or_other is_utf8 chars encode_utf8
one_is_followed = refl

nothing_is_too_little : conference_from Files [] ≡ Err (record { line = 1; kind = Few })
nothing_is_too_little = refl

-- conferences with a fault, and what is told of it
abbrev faulty : List (Form × List ℕ × Refusal)
faulty =
    -- half a character
    (Files, codes "wait 1\n" ++ 195 ∷ [], record { line = 2; kind = NotText })
    -- no such word
    ∷ (Files, codes "wait 1\nwaits 1", record { line = 2; kind = Word })
    -- neither aware nor unaware
    ∷ (Files, codes "leg A deaf 1 a b", record { line = 1; kind = Word })
    -- a word too many
    ∷ (Files, codes "tick 20 20", record { line = 1; kind = Count })
    -- no stay without an end
    ∷ (Files, codes "leg A aware 1 a b\nstay A 5", record { line = 2; kind = Count })
    -- no such leg
    ∷ (Files, codes "leg A aware 1 a b\ngens B 1", record { line = 2; kind = Name })
    -- a name of 33 letters
    ∷ (Files, codes "leg AAAAAAAAAAAAAAAAAAAAAAAAAAAAAAAAA aware 1 a b", record { line = 1; kind = Name })
    -- a long tick
    ∷ (Files, codes "tick 201", record { line = 1; kind = Number })
    -- a run labelled again too soon, or too late
    ∷ (Files, codes "relabel 1999", record { line = 1; kind = Number })
    ∷ (Links, codes "relabel 60001", record { line = 1; kind = Number })
    -- two such times, and none
    ∷ (Links, codes "relabel 2000\nrelabel 2000", record { line = 2; kind = Twice })
    ∷ (Files, codes "relabel", record { line = 1; kind = Count })
    ∷ (Files, codes "mtu 547", record { line = 1; kind = Number })
    ∷ (Links, codes "mtu 4225", record { line = 1; kind = Number })
    ∷ (Links, codes "mtu 1200\nmtu 1200", record { line = 2; kind = Twice })
    -- short spacing
    ∷ (Files, codes "spacing 99", record { line = 1; kind = Number })
    -- four generations
    ∷ (Files, codes "leg A aware 1 a b\ngens A 4", record { line = 2; kind = Number })
    -- an empty stay
    ∷ (Files, codes "leg A aware 1 a b\nstay A 5 5", record { line = 2; kind = Number })
    -- two stays
    ∷ (Files, codes "leg A aware 1 a b\nstay A 0 5\nstay A 7 8", record { line = 3; kind = Twice })
    -- generations said again
    ∷ (Files, codes "leg A aware 1 a b\ngens A 2\ngens A 2", record { line = 3; kind = Twice })
    -- one name for two legs
    ∷ (Files, codes "leg A aware 1 a b\nleg A aware 1 a b", record { line = 2; kind = Twice })
    -- one sender for two legs
    ∷ (Files, codes "mixer 1 0 0\nleg A aware 2 a b\nleg B aware 02 a c", record { line = 3; kind = Clash })
    -- one output for two links
    ∷ (Links, codes "leg A aware 1 5004 h:1\nleg B aware 2 5006 h:1", record { line = 2; kind = Clash })
    -- one port for two links
    ∷ (Links, codes "leg A aware 1 5004 h:1\nleg B aware 2 05004 h:2", record { line = 2; kind = Clash })
    -- no mixer
    ∷ (Files, codes "leg A aware 1 a b\nleg B aware 2 a c\n", record { line = 3; kind = Few })
    -- no plan among links
    ∷ (Links, codes "mixer 1 0 0\nleg A aware 2 5004 h:1\nlose A 0", record { line = 3; kind = Word })
    -- no stay among links
    ∷ (Links, codes "leg A aware 2 5004 h:1\nstay A 0 1", record { line = 2; kind = Word })
    -- no operator, nobody gone and nothing recorded among files
    ∷ (Files, codes "gone 60000", record { line = 1; kind = Word })
    ∷ (Files, codes "operator 6100 Word4Watch", record { line = 1; kind = Word })
    ∷ (Files, codes "record calls/main", record { line = 1; kind = Word })
    -- counts: with a number, and twice
    ∷ (Files, codes "counts 1", record { line = 1; kind = Count })
    ∷ (Links, codes "counts\ncounts", record { line = 2; kind = Twice })
    -- followed: nobody, one who is not there, twice, and among files
    ∷ (Links, codes "follow", record { line = 1; kind = Count })
    ∷ (Links, codes "follow A", record { line = 1; kind = Name })
    ∷ (Links, codes "leg A aware 2 5004 h:1\nfollow A A", record { line = 2; kind = Count })
    ∷ (Links, codes "leg A aware 2 5004 h:1\nfollow A\nfollow A", record { line = 3; kind = Twice })
    ∷ (Files, codes "leg A aware 2 a.in a.out\nfollow A", record { line = 2; kind = Word })
    -- gone too soon, and twice
    ∷ (Links, codes "gone 9999", record { line = 1; kind = Number })
    ∷ (Links, codes "gone 86400001", record { line = 1; kind = Number })
    ∷ (Links, codes "gone 10000\ngone 86400000", record { line = 2; kind = Twice })
    -- recorded under no name, under two, and twice
    ∷ (Links, codes "record", record { line = 1; kind = Count })
    ∷ (Links, codes "record calls main", record { line = 1; kind = Count })
    ∷ (Links, codes "record a\nrecord a", record { line = 2; kind = Twice })
    -- an operator without a word, with a short one, and one of other letters
    ∷ (Links, codes "operator 6100", record { line = 1; kind = Count })
    ∷ (Links, codes "operator 6100 Word4Op", record { line = 1; kind = Name })
    ∷ (Links, codes "operator 6100 Word-4-Watch", record { line = 1; kind = Name })
    -- an operator at no port, and two of them
    ∷ (Links, codes "operator 0 Word4Watch", record { line = 1; kind = Number })
    ∷ (Links, codes "operator 6100 Word4Watch\noperator 6102 Word4Watch", record { line = 2; kind = Twice })
    -- an operator at the port of a leg, above or below
    ∷ (Links, codes "leg A aware 1 5004 h:1\noperator 05004 Word4Watch", record { line = 2; kind = Clash })
    ∷ (Links, codes "operator 5004 Word4Watch\nleg A aware 1 05004 h:1", record { line = 2; kind = Clash })
    ∷ []

faults_are_told : map (λ f. conference_from f.0 f.1) faulty ≡ map (λ f. Err f.2) faulty
unfolding entry generations_of leg_of mixer_of operator_of plan_of stay_of stay_or_plan follow_of follow_or_service time_or_other is_utf8 chars encode_utf8
faults_are_told = refl

-- ---- many legs, by themselves
someone : Stay → LegLine
someone s = record { line = 0; name = []; aware = true; ssrc = 0; input = []; output = []; payload_types = usual_types; generations = 2; stay = s; follow = false; long = false }

-- so many legs so far that stay without end
with_legs : ℕ → Above
with_legs n = record nothing { legs = replicate n (someone whole_stay) }

new_one : LegLine
new_one = record { line = 0; name = codes "A"; aware = true; ssrc = 1; input = codes "1"; output = codes "b"; payload_types = usual_types; generations = 2; stay = whole_stay; follow = false; long = false }

the_65th_leg : (new_leg Files (with_legs 64) new_one ≡ Err Many) × (new_leg Files (with_legs 63) new_one ≡ Ok new_one)
unfolding with_legs new_one someone
the_65th_leg = (refl, refl)

the_17th_link : (new_leg Links (with_legs 16) new_one ≡ Err Many) × (new_leg Links (with_legs 15) new_one ≡ Ok new_one)
unfolding with_legs new_one someone
the_17th_link = (refl, refl)

mixer_line : MixerLine
mixer_line = record { ssrc = 1; seq = 0; timestamp = 0 }

seventeen_stay : (complete (with_legs 17) (Some mixer_line) ≡ Err Crowd) × (complete (with_legs 16) (Some mixer_line) ≡ Ok (whole (with_legs 16) mixer_line))
unfolding with_legs mixer_line someone
seventeen_stay = (refl, refl)

-- the end of a stay is no part of it
one_goes_as_another_comes : is_crowd (someone (record { from = 0; until = Some 5 }) ∷ someone (record { from = 5; until = None }) ∷ replicate 15 (someone whole_stay)) ≡ false
unfolding someone
one_goes_as_another_comes = refl

one_goes_after_another_comes : is_crowd (someone (record { from = 0; until = Some 6 }) ∷ someone (record { from = 5; until = None }) ∷ replicate 15 (someone whole_stay)) ≡ true
unfolding someone
one_goes_after_another_comes = refl

planned : ℕ → Above
planned n = record nothing { legs = new_one ∷ []; plan = replicate n (record { terminal = 0; packet = 1; what = what.Twice }) }

the_4097th_plan_line : plan_of (planned 4096) (codes "A") (codes "0") (Some what.Lose) ≡ Err PlanMany
unfolding planned new_one plan_of
the_4097th_plan_line = refl
