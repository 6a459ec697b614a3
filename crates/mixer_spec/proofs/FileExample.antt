-- A conference in files that meets what the laws ask for: Ann types a letter, Bob hears it at an aware terminal and Cy at
-- one that is not.
use Rattle.std.proofs.Common.{◌≡◌, ℕ, zero, suc, ◌+◌, ◌^◌, ◌<◌, ◌≤◌, true, false, cond, inl, inr, Some, None, Ok, List, [], ◌∷◌, ◌++◌, length, refl, sym, subst, ap, ◌∙◌, arith}
use Rattle.std.specs.Prelude.{codes, map, is_some, replicate, ◌==◌, IsUtf8}
use Rattle.std.specs.List.{AllByRecursion}
use Rattle.std.specs.Str.{is_utf8, chars}
use Rattle.std.specs.Char.{encode_utf8}
use Rattle.std.proofs.lemmas.Str.{IsUtf8-from_is_utf8, IsUtf8-nil}
use lib.Utf8.{encode}
use Rattle.rtt_base.specs.declared.text_packets.PayloadTypes.{PayloadTypes}
use Rattle.wire_spec.specs.Packets.{Packet, blocks_of}
use Rattle.wire_spec.specs.Rtp.{rtp, rtp_of_header, rtp_written}
use Rattle.wire_spec.specs.Red.{headers_at, red, red_within, red_written, texts_at, texts_within}
use Rattle.wire_spec.specs.Text.{short_within, text_of, text_of_short, text_within}
use Rattle.wire_spec.specs.Dump.{opening, dump_step, records_within, records, dump, dump_written}
use Rattle.stream_spec.specs.History.{History, Placed, Lawful, Come, placed, places}
use Rattle.stream_spec.specs.Kept.{ArePlaces}
use Rattle.stream_spec.specs.Own.{Stream, Sent, Sendable, NearEach, has_text_in, sent_history, own_packet, come_from}
use Rattle.stream_spec.specs.Ready.{Chunk, chunk}
use Rattle.stream_spec.proofs.Sent.{sent_lawful, sent_own}
use Rattle.stream_spec.proofs.OwnPackets.{own_come}
use Rattle.stream_spec.proofs.Walks.{are_places}
use Rattle.file_spec.specs.declared.conference_lines.Form.TheVariants.{Files}
use Rattle.file_spec.specs.declared.conference_lines.LegLine.{LegLine}
use Rattle.file_spec.specs.declared.conference_lines.Stay.{Stay}
use Rattle.file_spec.specs.declared.conference_lines.What.TheVariants.{Lose}
use Rattle.file_spec.specs.Kept.{IsConference}
use Rattle.file_spec.specs.Conference as line
use Rattle.file_spec.specs.Services.{no_service}
use Rattle.file_spec.specs.Conference.{Conference, conference_from, entry, leg_of, mixer_of, plan_of, stay_or_plan, time_or_other}
use Rattle.view_spec.specs.Characters.{class_of}
use Rattle.view_spec.specs.Ends.{ends_line, ends_sentence}
use Rattle.view_spec.specs.TextViews.{label, label_after}
use Rattle.mixer_spec.specs.Setups.{AllStay, setup, stream}
use Rattle.mixer_spec.specs.Table.{Call, Admit, Hush, Leave, Offer, Turn, Taken, Table, after_calls, chunks_taken, is_due, last_media, packets, sent_from}
use Rattle.mixer_spec.specs.Core.{Core, Event, Enter, Push, Take, after, turns_in}
use Rattle.mixer_spec.specs.Core as event
use Rattle.mixer_spec.specs.Calls.{AreMade, took}
use Rattle.mixer_spec.specs.Plain.{plain}
use Rattle.mixer_spec.specs.Arrives.{arrivals}
use Rattle.mixer_spec.specs.Headline.{IsHop}
use Rattle.mixer_spec.specs.Bridged.{IsPair, IsMixed, IsRunning, IsSentBy, came_of, cutting_of, leg_chunks, leg_heard, hop_from, told_by_packets, IsConferenceMixed}
use Rattle.mixer_spec.specs.Behind.{Bridged}
use Rattle.mixer_spec.proofs.Lists.{set_other}
use Rattle.mixer_spec.proofs.Conferences.{accepted_law, plan_law}
use Rattle.mixer_spec.proofs.Runs.{run_law}
use Rattle.mixer_spec.proofs.OfFiles.{mixed_law, hops_law, aware_law, short}
use Rattle.mixer_spec.proofs.MixedExample.{table_of}

-- ---- the file
abbrev file : List ℕ
file = codes "leg Ann aware 1001 ann.in ann.out\nleg Bob aware 1002 bob.in bob.out\nleg Cy unaware 1003 cy.in cy.out\nmixer 9000 100 5000\nturns 30\nlose Bob 1\n"

abbrev pub types : PayloadTypes
types = record { t140 = 98; red = 100 }

abbrev pub for_good : Stay
for_good = record { from = 0; until = None }

abbrev ann_leg : LegLine
ann_leg = record { line = 1; name = codes "Ann"; aware = true; ssrc = 1001; input = codes "ann.in"; output = codes "ann.out"; payload_types = types; generations = 2; stay = for_good; follow = false; long = false }

abbrev bob_leg : LegLine
bob_leg = record { line = 2; name = codes "Bob"; aware = true; ssrc = 1002; input = codes "bob.in"; output = codes "bob.out"; payload_types = types; generations = 2; stay = for_good; follow = false; long = false }

abbrev cy_leg : LegLine
cy_leg = record { line = 3; name = codes "Cy"; aware = false; ssrc = 1003; input = codes "cy.in"; output = codes "cy.out"; payload_types = types; generations = 2; stay = for_good; follow = false; long = false }

abbrev call : Conference
call = record {
  legs = ann_leg ∷ bob_leg ∷ cy_leg ∷ [];
  tick = 100;
  spacing = 300;
  wait = 1000;
  turns = 30;
  relabel = None;
  mtu = None;
  mixer = record { ssrc = 9000; seq = 100; timestamp = 5000 };
  plan = record { terminal = 1; packet = 1; what = Lose } ∷ [];
  service = no_service;
}

is_read : conference_from Files file ≡ Ok call
unfolding entry time_or_other stay_or_plan leg_of mixer_of plan_of is_utf8 chars encode_utf8
is_read = refl

accepted : IsConference call
accepted = (accepted_law Files file call is_read).0

-- ---- what Ann sends: one letter, which is repeated twice
abbrev of_ann : Stream
of_ann = record { ssrc = 1001; first = 0; base = 0; generations = 2 }

abbrev sent : List Sent
sent = record { source = 1001; media = 600; text = [] } ∷ record { source = 1001; media = 300; text = [] } ∷ record { source = 1001; media = 0; text = codes "H" } ∷ []

abbrev ann : History
ann = sent_history of_ann sent

abbrev octets_of : Packet → List ℕ
octets_of p = rtp_written (record { marker_bit = p.marker_bit; pt = 100; seq = p.seq; timestamp = p.timestamp; ssrc = p.ssrc; csrc = None }) (red_written (blocks_of p) types)

-- the recordings of Ann's packets, and of nobody's
abbrev inputs : ℕ → List ℕ
inputs i = cond (i == 0) (dump_written (map (λ x. (x.media, octets_of (own_packet ann x))) (placed ann))) (dump_written [])

h : IsUtf8 (codes "H")
unfolding is_utf8 chars encode_utf8
h = IsUtf8-from_is_utf8 (codes "H") refl

late : (x y : Sent) (media : ℕ) → x ≡ y → y.media < media → media < y.media + 2 ^ 31 → (x.media < media) × (media < x.media + 2 ^ 31)
late x y media e a b = let q = ap (λ (z : Sent). z.media) e in (omega (arith, q, a), omega (arith, q, b))

close : (x y : Sent) (media : ℕ) → x ≡ y → media ≤ y.media + 16383 → media ≤ x.media + 16383
close x y media e a = let q = ap (λ (z : Sent). z.media) e in omega (arith, q, a)

abbrev letter : Sent
letter = record { source = 1001; media = 0; text = codes "H" }

abbrev again : ℕ → Sent
again media = record { source = 1001; media = media; text = [] }

sendable : Sendable of_ann sent
sendable = (
  record {
    later = λ x i. elim i [ inl e ↦ late x (again 300) 600 e (omega arith) (omega arith) | inr j ↦ elim j [ inl e ↦ late x letter 600 e (omega arith) (omega arith) | inr k ↦ absurd k ] ];
    near = λ x i t. elim i [ inl e ↦ close x (again 300) 600 e (omega arith) | inr j ↦ elim j [ inl e ↦ close x letter 600 e (omega arith) | inr k ↦ absurd k ] ];
    text = (omega arith, IsUtf8-nil);
  },
  (
    record {
      later = λ x i. elim i [ inl e ↦ late x letter 300 e (omega arith) (omega arith) | inr k ↦ absurd k ];
      near = λ x i t. elim i [ inl e ↦ close x letter 300 e (omega arith) | inr k ↦ absurd k ];
      text = (omega arith, IsUtf8-nil);
    },
    (record { later = λ x i. absurd i; near = λ x i t. absurd i; text = (omega arith, h) }, tt),
  ),
)

lawful : Lawful ann
lawful = sent_lawful of_ann sent (omega arith) sendable

-- ---- what comes of it
abbrev entry_at : ℕ → ℕ → List ℕ → ℕ → Placed
entry_at k media text reach = record { place = k; index = k; source = 1001; media = media; text = text; generations = 2; reach = reach }

abbrev came : List (ℕ × Placed)
came = (600, entry_at 2 600 [] 600) ∷ (300, entry_at 1 300 [] 16383) ∷ (0, entry_at 0 0 (codes "H") 16383) ∷ []

near_each : NearEach ann came
near_each = (inr (inr (inl refl)), ((omega arith, omega arith), (inr (inl refl), ((omega arith, omega arith), (inl refl, (tt, tt))))))

came_is : came_of call inputs 0 ≡ come_from ann came
unfolding text_within short_within rtp rtp_of_header red_within headers_at texts_within is_utf8 chars encode dump records records_within dump_step opening
came_is = refl

is_sent : IsSentBy call inputs 0 ann
is_sent = record { lawful = lawful; come = subst (Come ann) (sym came_is) (own_come 2 ann lawful (sent_own of_ann sent) came near_each) }

hop : IsHop (hop_from call inputs 0 ann)
hop = hops_law call inputs 0 ann is_sent

are : ArePlaces ann (places 1000 ann (came_of call inputs 0))
are = are_places 1000 ann (came_of call inputs 0) is_sent.come

-- ---- what is heard, and mixed to the end
abbrev said : ℕ → List Chunk
said zero = chunk 0 0 (codes "H") ∷ []
said (suc i) = []

chunks_are : (i : ℕ) → leg_chunks call inputs i ≡ said i
unfolding text_within short_within rtp rtp_of_header red_within headers_at texts_within is_utf8 chars encode dump records records_within dump_step opening
chunks_are zero = refl
chunks_are (suc zero) = refl
chunks_are (suc (suc zero)) = refl
chunks_are (suc (suc (suc i))) = refl

over : is_some (plain (setup call) call.tick call.turns said) ≡ true
unfolding ends_line ends_sentence label label_after encode_utf8 class_of chars
over = refl

mixed : (t : Table) × IsConferenceMixed call inputs t
mixed =
    let r = table_of (plain (setup call) call.tick call.turns said) over in
    (r.0, ap (plain (setup call) call.tick call.turns) (λ k i. chunks_are i k) ∙ r.1)

is_mixed : IsMixed (setup call) (leg_chunks call inputs) call.tick call.turns mixed.0
is_mixed = mixed_law call inputs mixed.0 accepted mixed.1

are_short : (i : ℕ) → AllByRecursion (λ (x : Chunk). length x.text ≤ 1023) (leg_chunks call inputs i)
are_short = short call inputs

pair : IsPair (setup call) 1 0
pair = record { aware = refl; terminal = omega arith; leg = omega arith; other = λ q. omega (arith, q) }

cy_is_unaware : (setup call).aware 2 ≡ false
cy_is_unaware = refl

all_stay : AllStay (setup call)
all_stay = record { seats = omega arith; from = from; until = until }
  where
    from : (i : ℕ) → (setup call).from i ≡ 0
    from zero = refl
    from (suc zero) = refl
    from (suc (suc zero)) = refl
    from (suc (suc (suc i))) = refl

    until : (i : ℕ) → (setup call).until i ≡ None
    until zero = refl
    until (suc zero) = refl
    until (suc (suc zero)) = refl
    until (suc (suc (suc i))) = refl

bridged : Bridged (cutting_of call) (setup call) mixed.0 1 0 (told_by_packets (setup call) 1 (mixed.0.terminals 1).past) (hop_from call inputs 0 ann) (leg_heard call inputs 0)
bridged = aware_law call inputs mixed.0 accepted mixed.1 1 0 pair ann

-- what comes to Bob, who loses a packet
come : Come (told_by_packets (setup call) 1 (mixed.0.terminals 1).past) (arrivals call.plan 1 (packets (stream (setup call) 1) (mixed.0.terminals 1).past))
come = bridged.comes call.plan (plan_law call accepted)

-- ---- events
running : (past : List Event) × IsRunning (setup call) (leg_chunks call inputs) past
running =
    let r = run_law (setup call) (leg_chunks call inputs) call.tick call.turns mixed.0 mixed.1 in
    let few : turns_in r.past ≤ 30 = r.few in
    (r.past, record { setup = is_mixed.setup; texts = is_mixed.texts; span = omega (arith, few) })

-- Ann and Bob come, and her letter is taken.
abbrev taken : List Event
taken = Take 0 0 ∷ Push 0 ∷ Enter 1 0 ∷ Enter 0 0 ∷ []

-- it is due at Bob, and turns enough follow
due : is_due (setup call) 1 0 ((after (setup call) said taken).table.terminals 1) 0 ≡ true
due = refl

places_held : ((after (setup call) said taken).table.seats.place 1 ≡ Some 1) × ((after (setup call) said taken).table.seats.place 0 ≡ Some 0)
places_held = (refl, refl)

enough_turns : (setup call).places ≤ turns_in (replicate 14 (event.Turn 0)) + 2
enough_turns = omega arith

-- after a turn it is still to be repeated
repeated : has_text_in ((setup call).generations 1) (sent_from ((setup call).ssrc 0) ((after (setup call) said (event.Turn 0 ∷ taken)).table.terminals 1)) ≡ true
repeated = refl

at_once : last_media (sent_from ((setup call).ssrc 0) ((after (setup call) said (event.Turn 0 ∷ taken)).table.terminals 1)) ≡ Some 0
at_once = refl

-- ---- calls
abbrev calls : List Call
calls = Turn 0 ∷ Offer (chunk 0 0 (codes "H")) ∷ Admit 1 true ∷ Admit 0 true ∷ []

made : AreMade (setup call) said calls
made = (
  record { at = 0; leg = omega arith; fresh = refl; begun = omega arith; listens = refl },
  (record { at = 0; leg = omega arith; fresh = refl; begun = omega arith; listens = refl }, tt),
)

took_all : (i : ℕ) → said i ≡ took (setup call) i calls ++ []
took_all zero = refl
took_all (suc i) = sym (ap (λ (xs : List Taken). chunks_taken xs ++ []) (set_other (after_calls (setup call) (Admit 1 true ∷ Admit 0 true ∷ [])).taken 0 _ (suc i) (λ q. omega (arith, q))))

-- ---- the same call, where Ann goes at 500 and Bob is sent no generation
abbrev going : Conference
going = record call { legs = record ann_leg { stay = record { from = 0; until = Some 500 } } ∷ record bob_leg { generations = 0 } ∷ cy_leg ∷ [] }

going_is_read : conference_from Files (file ++ codes "gens Bob 0\nstay Ann 0 500\n") ≡ Ok going
unfolding entry time_or_other stay_or_plan leg_of mixer_of plan_of line.generations_of line.stay_of is_utf8 chars encode_utf8
going_is_read = refl

ann_goes : (setup going).until 0 ≡ Some 500
ann_goes = refl

none_to_bob : (setup going).generations 1 ≡ 0
none_to_bob = refl

two_to_cy : (setup going).generations 2 ≡ 2
two_to_cy = refl

goes : AreMade (setup going) (λ i. []) (Leave 0 ∷ Hush 0 ∷ Admit 1 true ∷ Admit 0 true ∷ [])
goes = (
  λ e. refl,
  (
    record { at = 500; seated = refl; over = refl },
    (
      record { at = 0; leg = omega arith; fresh = refl; begun = omega arith; listens = refl },
      (record { at = 0; leg = omega arith; fresh = refl; begun = omega arith; listens = refl }, tt),
    ),
  ),
)
