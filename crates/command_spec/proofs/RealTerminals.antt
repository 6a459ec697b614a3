-- What real terminals send, from the files of a conference to what is seen, by computing.
use Rattle.std.proofs.Common.{◌≡◌, ℕ, ◌+◌, cond, Option, Some, None, List, [], ◌∷◌, ◌++◌, refl}
use Rattle.std.specs.Prelude.{codes, bytes_eq}
use Rattle.std.specs.Str.{is_utf8, chars}
use Rattle.std.specs.Char.{encode_utf8}
use Rattle.wire_spec.specs.Rtp.{rtp, rtp_of_header}
use Rattle.wire_spec.specs.Red.{headers_at, red, red_within, texts_at, texts_within}
use Rattle.wire_spec.specs.Text.{short_within, text_of, text_of_short, text_within}
use Rattle.wire_spec.specs.Dump.{opening, dump_step, records_within, records, dump, dump_written}
use Rattle.file_spec.specs.Conference.{entry, leg_of, mixer_of, plan_of, stay_or_plan, time_or_other}
use Rattle.view_spec.specs.Characters.{class_of}
use Rattle.view_spec.specs.Ends.{ends_line, ends_sentence}
use Rattle.view_spec.specs.Shown.{Display, shown}
use Rattle.view_spec.specs.Views.{aware_view, unaware_view}
use Rattle.view_spec.specs.TextViews.{label, label_after}
use Rattle.command_spec.specs.Work.{Contents}
use Rattle.command_spec.specs.Outcomes.{Outcome, Missing, Refused, Done, Served, outcome}
use Rattle.command_spec.specs.Mixing.{mixing}
use Rattle.command_spec.proofs.MixExamples.{typist, text, recorded}

abbrev legs : List ℕ
legs = codes "leg Ann aware 1001 ann.in ann.out\nleg Bob aware 1002 bob.in bob.out\nleg Cy unaware 1003 cy.in cy.out\nmixer 9000 100 5000\n"

-- what lies there: the conference, what Ann and Bob sent, and a recording without a packet
abbrev lying : List ℕ → List ℕ → Contents
lying ann bob name = if_named (codes "c.txt") legs (if_named (codes "ann.in") ann (if_named (codes "bob.in") bob (if_named (codes "cy.in") (dump_written []) None)))
  where
    if_named : List ℕ → List ℕ → Option (List ℕ) → Option (List ℕ)
    if_named file octets other = cond (bytes_eq name file) (Some octets) other

-- what is printed
abbrev printed : Outcome → List ℕ
printed (Missing input) = []
printed (Refused input refusal) = []
printed (Done views files) = views
printed (Served c) = []

abbrev seen : List ℕ → List ℕ → List ℕ
seen ann bob = printed (outcome (lying ann bob) (mixing (codes "c.txt")))

-- the views of the three: Ann's of Bob and Cy, Bob's of Ann and Cy, and Cy's, each with so many packets
abbrev display : List (List ℕ) → ℕ → Display
display lines bells = record { lines = lines; bells = bells }

abbrev silent : Display
silent = display ([] ∷ []) 0

abbrev views : Display → ℕ → Display → ℕ → Display → ℕ → List ℕ
views of_bob to_ann of_ann to_bob of_both to_cy =
    aware_view (codes "Ann") (record { name = codes "Bob"; display = of_bob } ∷ record { name = codes "Cy"; display = silent } ∷ []) (record { packets = to_ann; used = to_ann; refused = 0; foreign = 0 })
    ++ (aware_view (codes "Bob") (record { name = codes "Ann"; display = of_ann } ∷ record { name = codes "Cy"; display = silent } ∷ []) (record { packets = to_bob; used = to_bob; refused = 0; foreign = 0 })
    ++ (unaware_view (codes "Cy") of_both (record { packets = to_cy; used = to_cy; refused = 0; foreign = 0 }) ++ []))

-- ---- idle-between
-- U+FEFF
abbrev keep_alive : List ℕ
keep_alive = 0xEF ∷ 0xBB ∷ 0xBF ∷ []

-- Ann types two sentences; Bob's terminal sends keep-alives, which nobody is sent.
idle_between :
    seen (recorded (typist 1001) (text 1001 2600 [] ∷ text 1001 2300 [] ∷ text 1001 2000 (codes "Bye. ") ∷ text 1001 600 [] ∷ text 1001 300 [] ∷ text 1001 0 (codes "Hi. ") ∷ []))
    (recorded (typist 1002) (text 1002 2700 keep_alive ∷ text 1002 1800 keep_alive ∷ text 1002 900 keep_alive ∷ text 1002 0 keep_alive ∷ []))
    ≡ views silent 0 (display (codes "Hi. Bye. " ∷ []) 0) 6 (display (codes "[Ann] Hi. Bye. " ∷ []) 0) 6
unfolding entry time_or_other stay_or_plan leg_of mixer_of plan_of is_utf8 chars encode_utf8 text_within short_within rtp rtp_of_header red_within headers_at texts_within dump records records_within dump_step opening shown class_of ends_line ends_sentence label label_after
idle_between = refl

-- ---- enter-first
-- U+2028, as a script's `\n`
abbrev break : List ℕ
break = 0xE2 ∷ 0x80 ∷ 0xA8 ∷ []

-- one text at this moment, and twice again
abbrev once : ℕ → ℕ → List ℕ → List ℕ
once ssrc media octets = recorded (typist ssrc) (text ssrc (media + 600) [] ∷ text ssrc (media + 300) [] ∷ text ssrc media octets ∷ [])

-- Bob begins with a new line: it goes ahead of his label, which stands before his first letter.
enter_first :
    seen (once 1001 0 (codes "Hello. ")) (once 1002 0 (break ++ codes "Hi"))
    ≡ views (display ([] ∷ codes "Hi" ∷ []) 0) 3 (display (codes "Hello. " ∷ []) 0) 3 (display (codes "[Ann] Hello. " ∷ codes "[Bob] Hi" ∷ []) 0) 4
unfolding entry time_or_other stay_or_plan leg_of mixer_of plan_of is_utf8 chars encode_utf8 text_within short_within rtp rtp_of_header red_within headers_at texts_within dump records records_within dump_step opening shown class_of ends_line ends_sentence label label_after
enter_first = refl

-- ---- forged
-- Ann types what looks like Bob's label.
forged :
    seen (once 1001 0 (codes "Hello." ++ break ++ codes "[Bob] I owe you. ")) (dump_written [])
    ≡ views silent 0 (display (codes "Hello." ∷ codes "[Bob] I owe you. " ∷ []) 0) 3 (display (codes "[Ann] Hello." ∷ codes "(Bob) I owe you. " ∷ []) 0) 3
unfolding entry time_or_other stay_or_plan leg_of mixer_of plan_of is_utf8 chars encode_utf8 text_within short_within rtp rtp_of_header red_within headers_at texts_within dump records records_within dump_step opening shown class_of ends_line ends_sentence label label_after
forged = refl

-- ---- bell-alone
-- Ann rings and types nothing: there is no label of hers, and Bob is sent when she has paused for 2000 ms.
bell_alone :
    seen (once 1001 0 (7 ∷ [])) (once 1002 300 (codes "Hi"))
    ≡ views (display (codes "Hi" ∷ []) 0) 3 (display ([] ∷ []) 1) 3 (display (codes "[Bob] Hi" ∷ []) 1) 6
unfolding entry time_or_other stay_or_plan leg_of mixer_of plan_of is_utf8 chars encode_utf8 text_within short_within rtp rtp_of_header red_within headers_at texts_within dump records records_within dump_step opening shown class_of ends_line ends_sentence label label_after
bell_alone = refl
