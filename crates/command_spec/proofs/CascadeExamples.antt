-- What comes of a conference behind another mixer, worked out by hand: Bob's mixer sent him what Ann typed (`H`, `e`, and `y` with a
-- line break), and Ann takes part in a second conference, with Cy, who is silent.
use Rattle.std.proofs.Common.{◌≡◌, ℕ, cond, Option, Some, None, List, [], ◌∷◌, ◌++◌, Result, Ok, Err, refl}
use Rattle.std.specs.Prelude.{codes, bytes_eq}
use Rattle.std.specs.Str.{is_utf8, chars}
use Rattle.std.specs.Char.{encode_utf8}
use Rattle.wire_spec.specs.Rtp.{rtp, rtp_of_header}
use Rattle.wire_spec.specs.Red.{headers_at, red, red_within, texts_at, texts_within}
use Rattle.wire_spec.specs.Text.{short_within, text_of, text_of_short, text_within}
use Rattle.wire_spec.specs.Dump.{opening, dump_step, records_within, records, dump, dump_written}
use Rattle.wire_spec.specs.declared.faults.DumpKind.TheVariants.{NotDump}
use Rattle.file_spec.specs.declared.conference_lines.Form.TheVariants.{Files}
use Rattle.file_spec.specs.Conference.{Conference, conference_from, entry, leg_of, mixer_of, plan_of, stay_or_plan, time_or_other}
use Rattle.file_spec.specs.Lines as lines
use Rattle.view_spec.specs.Characters.{class_of}
use Rattle.view_spec.specs.Shown.{shown}
use Rattle.view_spec.specs.Views.{aware_view}
use Rattle.command_spec.specs.Splitting.{split}
use Rattle.command_spec.specs.declared.faults.Refusal.TheVariants.{AtByte}
use Rattle.command_spec.specs.Work.{Contents}
use Rattle.command_spec.specs.Outcomes.{Outcome, Missing, Refused, Done, Served, outcome_from}
use Rattle.command_spec.specs.Cascading.{cascades, odd_line}
use Rattle.command_spec.proofs.MixExamples.{to_bob}

-- the second conference
abbrev legs : List ℕ
legs = codes "mixer 9001 0 0\nleg Ann aware 1001 trunk x.out\nleg Cy aware 2001 cy.in y.out\n"

-- what lies there: what Bob was sent, and what Cy says
abbrev lying : List ℕ → List ℕ → Contents
lying recording cy name = if_named (codes "b.out") recording (if_named (codes "cy.in") cy None)
  where
    if_named : List ℕ → List ℕ → Option (List ℕ) → Option (List ℕ)
    if_named file octets other = cond (bytes_eq name file) (Some octets) other

-- the first mixer's SSRC is 9000
abbrev comes : Contents → Result Conference lines.Refusal → Outcome
comes held (Ok c) = outcome_from 1 held (cascades (codes "b.out") 9000 c)
comes held (Err refusal) = Missing 0

-- what is printed, where all is made
abbrev prints : Outcome → Option (List ℕ)
prints (Missing input) = None
prints (Refused input refusal) = None
prints (Done printed files) = Some printed
prints (Served c) = None

abbrev view : List ℕ → List ℕ → List (List ℕ) → ℕ → List ℕ
view name other shows came =
    aware_view name (record { name = other; display = record { lines = shows; bells = 0 } } ∷ []) (record { packets = came; used = came; refused = 0; foreign = 0 })

-- Cy reads what Ann typed, as Bob does.
trunk : prints (comes (lying (dump_written to_bob) (dump_written [])) (conference_from Files legs))
    ≡ Some (view (codes "Ann") (codes "Cy") ([] ∷ []) 0 ++ (view (codes "Cy") (codes "Ann") (codes "Hey" ∷ [] ∷ []) 5 ++ []))
unfolding split entry time_or_other stay_or_plan leg_of mixer_of plan_of is_utf8 chars encode_utf8 text_within short_within rtp rtp_of_header red_within headers_at texts_within dump records records_within dump_step opening shown class_of
trunk = refl

-- the recording without its second packet
abbrev without_second : List (ℕ × List ℕ) → List (ℕ × List ℕ)
without_second (a ∷ b ∷ more) = a ∷ more
without_second _ = []

-- What that packet had comes with the third, and nothing is lost: the last two texts go on together, in a packet that is sent thrice.
trunk_loss : prints (comes (lying (dump_written (without_second to_bob)) (dump_written [])) (conference_from Files legs))
    ≡ Some (view (codes "Ann") (codes "Cy") ([] ∷ []) 0 ++ (view (codes "Cy") (codes "Ann") (codes "Hey" ∷ [] ∷ []) 6 ++ []))
unfolding split entry time_or_other stay_or_plan leg_of mixer_of plan_of is_utf8 chars encode_utf8 text_within short_within rtp rtp_of_header red_within headers_at texts_within dump records records_within dump_step opening shown class_of
trunk_loss = refl

-- ---- what is refused
-- The recording is the second input, also where a leg's own is no recording either; Cy's is the third.
broken_recording : comes (lying [] []) (conference_from Files legs) ≡ Refused 1 (AtByte 0 NotDump)
unfolding split entry time_or_other stay_or_plan leg_of mixer_of plan_of is_utf8 chars encode_utf8 dump records records_within dump_step opening
broken_recording = refl

broken_leg : comes (lying (dump_written []) []) (conference_from Files legs) ≡ Refused 2 (AtByte 0 NotDump)
unfolding split entry time_or_other stay_or_plan leg_of mixer_of plan_of is_utf8 chars encode_utf8 dump records records_within dump_step opening
broken_leg = refl

-- The recording is read also where no leg is behind the other mixer.
nobody_behind : comes (lying [] []) (conference_from Files (codes "mixer 9001 0 0\nleg Ann aware 1001 ann.in x.out\nleg Cy aware 2001 cy.in y.out\n")) ≡ Refused 1 (AtByte 0 NotDump)
unfolding split entry time_or_other stay_or_plan leg_of mixer_of plan_of is_utf8 chars encode_utf8 dump records records_within dump_step opening
nobody_behind = refl

-- the line of the first leg behind it with other payload types
abbrev odd_in : Result Conference lines.Refusal → Option ℕ
odd_in (Ok c) = odd_line c.legs
odd_in (Err refusal) = None

odd_types : odd_in (conference_from Files (codes "mixer 9001 0 0\nleg Ann aware 1001 trunk x.out 98 100\nleg Cy aware 2001 cy.in y.out 97 99\nleg Di aware 3001 trunk z.out 98 101\n")) ≡ Some 4
unfolding entry time_or_other stay_or_plan leg_of mixer_of plan_of is_utf8 chars encode_utf8
odd_types = refl
