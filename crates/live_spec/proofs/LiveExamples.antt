-- A live call of two, worked out by hand. Ann's link gives one packet with an `A`, and is closed, as Bob's is at once; or the call
-- has one turn, and the links stay quiet.
use Rattle.std.proofs.Common.{◌≡◌, ℕ, zero, suc, ◌-◌, ◌<◌, ◌≤◌, true, false, true≢false, cond, inl, inr, Some, None, Ok, List, [], ◌∷◌, ◌++◌, drop, length, refl, ap, sym, ◌∙◌, arith}
use Rattle.std.specs.Prelude.{codes, ◌==◌}
use Rattle.std.specs.Str.{is_utf8, chars}
use Rattle.std.specs.Char.{encode_utf8}
use Rattle.std.specs.Fmt.{digits}
use Rattle.wire_spec.specs.Rtp.{rtp, rtp_of_header}
use Rattle.wire_spec.specs.Red.{headers_at, red, red_within, texts_at, texts_within}
use Rattle.wire_spec.specs.Text.{short_within, text_of, text_of_short, text_within}
use Rattle.file_spec.specs.declared.conference_lines.Form.TheVariants.{Links}
use Rattle.file_spec.specs.declared.conference_lines.LegLine.{LegLine}
use Rattle.file_spec.specs.Services.{no_service}
use Rattle.file_spec.specs.Conference.{Conference, conference_from, entry, leg_of, mixer_of, stay_or_plan, time_or_other}
use Rattle.stream_spec.specs.Ready.{Chunk}
use Rattle.view_spec.specs.Characters.{class_of}
use Rattle.view_spec.specs.Shown.{shown}
use Rattle.view_spec.specs.Tallies.{tally_heard, tally_unheard}
use Rattle.view_spec.specs.Views.{aware_view}
use Rattle.mixer_spec.specs.Setups.{leg_at, setup}
use Rattle.mixer_spec.specs.Table.{Table, chunks_taken, is_idle, is_seated}
use Rattle.mixer_spec.specs.Core.{Enter, Event, Push, Take, Turn, after}
use Rattle.mixer_spec.proofs.FileExample.{for_good, types}
use Rattle.stream_spec.specs.Links.{Takes, is_closed}
use Rattle.stream_spec.specs.Links as link
use Rattle.live_spec.specs.Told.{ready_by}
use Rattle.live_spec.specs.Live.{AllMayTurn, AreLive, IsOver, IsUpToDate, Live, MayTurn, at_last, but_last, first_takes, is_blocked}
use Rattle.live_spec.specs.Served.{counts_lines, Closed, Done, End, IsDrained, IsServed, chunks_live, end_line, given_to, hearing_at, live_printed}
use Rattle.live_spec.specs.Watched.{board_line, board_lines}
use Rattle.live_spec.specs.HeadLive.{HeadLive}
use Rattle.live_spec.proofs.Promised.{head_law}

-- ---- the conference
abbrev legs : List ℕ
legs = codes "leg Ann aware 1001 5004 127.0.0.1:6004\nleg Bob aware 1002 5006 127.0.0.1:6006\nmixer 9000 100 5000\n"

abbrev ann : LegLine
ann = record { line = 1; name = codes "Ann"; aware = true; ssrc = 1001; input = codes "5004"; output = codes "127.0.0.1:6004"; payload_types = types; generations = 2; stay = for_good; follow = false; long = false }

abbrev bob : LegLine
bob = record { line = 2; name = codes "Bob"; aware = true; ssrc = 1002; input = codes "5006"; output = codes "127.0.0.1:6006"; payload_types = types; generations = 2; stay = for_good; follow = false; long = false }

abbrev call : ℕ → Conference
call turns = record { legs = ann ∷ bob ∷ []; tick = 100; spacing = 300; wait = 1000; turns = turns; relabel = None; mtu = None; mixer = record { ssrc = 9000; seq = 100; timestamp = 5000 }; plan = []; service = no_service }

many_turns : conference_from Links legs ≡ Ok (call 5000000)
unfolding entry time_or_other stay_or_plan leg_of mixer_of is_utf8 chars encode_utf8
many_turns = refl

one_turn : conference_from Links (legs ++ codes "turns 1\n") ≡ Ok (call 1)
unfolding entry time_or_other stay_or_plan leg_of mixer_of is_utf8 chars encode_utf8
one_turn = refl

-- ---- what the links give
abbrev letter : List ℕ
letter =
    0x80 ∷ 0xE4 ∷ 0x00 ∷ 0x00 ∷ 0x00 ∷ 0x00 ∷ 0x00 ∷ 0x00 ∷ 0x00 ∷ 0x00 ∷ 0x03 ∷ 0xE9 ∷ 0xE2 ∷ 0xFF ∷ 0xFC ∷ 0x00 ∷ 0xE2 ∷ 0xFF ∷ 0xFC ∷ 0x00 ∷ 0x62 ∷ 0x41 ∷ []

abbrev took : ℕ → link.Came → Takes
took at came = record { at = at; came = came } ∷ []

abbrev to_the_end : ℕ → Takes
to_the_end j = cond (j == 0) (took 20 link.Closed ++ took 10 (link.Datagram letter)) (cond (j == 1) (took 15 link.Closed) [])

abbrev quiet : ℕ → Takes
quiet j = cond (j == 0) (took 17 link.Quiet ++ took 5 link.Quiet) (cond (j == 1) (took 6 link.Quiet) [])

abbrev one_letter : ℕ → Takes
one_letter j = cond (j == 0) (took 17 link.Quiet ++ took 5 (link.Datagram letter)) (cond (j == 1) (took 6 link.Quiet) [])

-- ---- what is given
abbrev first : List ℕ
first =
    0x81 ∷ 0xE4 ∷ 0x00 ∷ 0x64 ∷ 0x00 ∷ 0x00 ∷ 0x13 ∷ 0x88 ∷ 0x00 ∷ 0x00 ∷ 0x23 ∷ 0x28 ∷ 0x00 ∷ 0x00 ∷ 0x03 ∷ 0xE9 ∷ 0xE2 ∷ 0xFF ∷ 0xFC ∷ 0x00 ∷ 0xE2 ∷ 0xFF ∷ 0xFC ∷ 0x00 ∷ 0x62 ∷ 0x41 ∷ []

-- the text is repeated twice
abbrev second : List ℕ
second =
    0x81 ∷ 0x64 ∷ 0x00 ∷ 0x65 ∷ 0x00 ∷ 0x00 ∷ 0x14 ∷ 0xB4 ∷ 0x00 ∷ 0x00 ∷ 0x23 ∷ 0x28 ∷ 0x00 ∷ 0x00 ∷ 0x03 ∷ 0xE9 ∷ 0xE2 ∷ 0xFF ∷ 0xFC ∷ 0x00 ∷ 0xE2 ∷ 0x04 ∷ 0xB0 ∷ 0x01 ∷ 0x62 ∷ 0x41 ∷ []

abbrev third : List ℕ
third =
    0x81 ∷ 0x64 ∷ 0x00 ∷ 0x66 ∷ 0x00 ∷ 0x00 ∷ 0x15 ∷ 0xE0 ∷ 0x00 ∷ 0x00 ∷ 0x23 ∷ 0x28 ∷ 0x00 ∷ 0x00 ∷ 0x03 ∷ 0xE9 ∷ 0xE2 ∷ 0x09 ∷ 0x60 ∷ 0x01 ∷ 0xE2 ∷ 0x04 ∷ 0xB0 ∷ 0x00 ∷ 0x62 ∷ 0x41 ∷ []

abbrev to_bob : List (List ℕ) → ℕ → List (List ℕ)
to_bob packets j = cond (j == 1) packets []

-- ---- what is printed
abbrev view : List ℕ → List ℕ → List ℕ → ℕ → List ℕ
view name other line came = aware_view name (record { name = other; display = record { lines = line ∷ []; bells = 0 } } ∷ []) (record { packets = came; used = came; refused = 0; foreign = 0 })

abbrev shows : List ℕ → ℕ → End → List ℕ
shows line came end = (view (codes "Ann") (codes "Bob") [] 0 ++ (view (codes "Bob") (codes "Ann") line came ++ [])) ++ end_line end

closed_is_printed : shows (codes "A") 3 Closed ≡ live_printed (call 5000000) to_the_end (to_bob (first ∷ second ∷ third ∷ [])) Closed
unfolding is_utf8 chars encode_utf8 text_within short_within rtp rtp_of_header red_within headers_at texts_within shown class_of
closed_is_printed = refl

nothing_is_printed : shows [] 0 Done ≡ live_printed (call 1) quiet (to_bob []) Done
unfolding is_utf8 chars encode_utf8 text_within short_within rtp rtp_of_header red_within headers_at texts_within shown class_of
nothing_is_printed = refl

letter_is_printed : shows (codes "A") 1 Done ≡ live_printed (call 1) one_letter (to_bob (first ∷ [])) Done
unfolding is_utf8 chars encode_utf8 text_within short_within rtp rtp_of_header red_within headers_at texts_within shown class_of
letter_is_printed = refl

-- ---- the runs
abbrev entered : List Event
entered = Enter 1 0 ∷ Enter 0 0 ∷ []

abbrev offered : List Event
offered = Take 0 10 ∷ Push 0 ∷ entered

abbrev turned : List Event → List Event
turned past = Turn 600 ∷ Turn 500 ∷ Turn 400 ∷ Turn 300 ∷ Turn 200 ∷ Turn 100 ∷ Turn 0 ∷ past

module _ (turns : ℕ) (takes : ℕ → Takes) where
  abbrev table_after : List Event → Table
  table_after past = (after (setup (call turns)) (chunks_live (call turns) takes) past).table

  abbrev taken_of : List Event → ℕ → List Chunk
  taken_of past i = chunks_taken ((table_after past).taken i)

  abbrev IsFreshFor : List Event → (before now : ℕ) → ℕ → Type 0
  IsFreshFor past before now i =
      IsUpToDate (hearing_at (call turns) i) (takes i) (is_blocked (setup (call turns)) (after (setup (call turns)) (chunks_live (call turns) takes) past) i) before now (taken_of past i)

  -- both hold places and are up to date
  both : (past : List Event) (before now : ℕ → ℕ) → is_seated (table_after past).seats 0 ≡ true → is_seated (table_after past).seats 1 ≡ true → IsFreshFor past (before 0) (now 0) 0 → IsFreshFor past (before 1) (now 1) 1
      → (i : ℕ) → i < 2 → MayTurn (setup (call turns)) (hearing_at (call turns)) takes (chunks_live (call turns) takes) past (before i) (now i) i
  both past before now a b f g zero low = record { seated = a; fresh = f }
  both past before now a b f g (suc zero) low = record { seated = b; fresh = g }
  both past before now a b f g (suc (suc i)) low = absurd (omega (arith, low))

-- before a turn so many of Ann's takes count, and so many of Bob's
abbrev heard : ℕ → ℕ → ℕ → ℕ
heard a b j = cond (j == 0) a b

-- before each of so many turns two of hers, and one of his
abbrev heard_each : ℕ → List (ℕ → ℕ)
heard_each zero = []
heard_each (suc n) = heard 2 1 ∷ heard_each n

pub nil : (xs : List Chunk) → xs ≡ xs ++ []
nil [] = refl
nil (x ∷ xs) = ap (λ ys. x ∷ ys) (nil xs)

-- ---- the links are closed: what they gave counts
abbrev long : Conference
long = call 5000000

abbrev closed_after : List Event → Table
closed_after past = table_after 5000000 to_the_end past

abbrev AreTaken : List Event → Type 0
AreTaken past = (taken_of 5000000 to_the_end past 0 ≡ ready_by (hearing_at long 0) (to_the_end 0)) × (taken_of 5000000 to_the_end past 1 ≡ ready_by (hearing_at long 1) (to_the_end 1))

closed_turn : (past : List Event) (counts : List (ℕ → ℕ)) (a b : ℕ) → at_last counts 0 ≡ 2 → at_last counts 1 ≡ 1 → at_last (but_last counts) 0 ≡ a → at_last (but_last counts) 1 ≡ b → a ≤ 2 → b ≤ 1
    → is_seated (closed_after past).seats 0 ≡ true → is_seated (closed_after past).seats 1 ≡ true → AreTaken past → is_idle (setup long) (closed_after past) ≡ false
    → AllMayTurn (setup long) (hearing_at long) to_the_end (chunks_live long to_the_end) past (at_last (but_last counts)) (at_last counts)
closed_turn past counts a b two one la lb more_a more_b x y r busy = record {
  each = both 5000000 to_the_end past (at_last (but_last counts)) (at_last counts) x y
      (up 0 (at_last (but_last counts) 0) (at_last counts 0) two (omega (arith, la, more_a)) refl r.0) (up 1 (at_last (but_last counts) 1) (at_last counts 1) one (omega (arith, lb, more_b)) refl r.1);
  goes_on = λ over. true≢false (sym over.idle ∙ busy);
}
  where
    up : (i last now : ℕ) → now ≡ length (to_the_end i) → last ≤ length (to_the_end i) → is_closed (to_the_end i) ≡ true → taken_of 5000000 to_the_end past i ≡ ready_by (hearing_at long i) (to_the_end i)
        → IsFreshFor 5000000 to_the_end past last now i
    up i last now is l c e =
        let all : first_takes now (to_the_end i) ≡ to_the_end i = ap (λ (n : ℕ). drop (length (to_the_end i) - n) (to_the_end i)) is ∙ ap (λ (n : ℕ). drop n (to_the_end i)) (none (length (to_the_end i))) in
        record {
          more = omega (arith, is, l);
          came = omega (arith, is);
          took = ([], e ∙ (ap (ready_by (hearing_at long i)) (sym all) ∙ nil (ready_by (hearing_at long i) (first_takes now (to_the_end i)))));
          heard_out = λ free. inr (inr (is, c));
        }
      where
        none : (n : ℕ) → n - n ≡ 0
        none n = omega arith

closed_seated : (i : ℕ) → i < 2 → is_seated (closed_after (Push 0 ∷ entered)).seats i ≡ true
closed_seated zero low = refl
closed_seated (suc zero) low = refl
closed_seated (suc (suc i)) low = absurd (omega (arith, low))

all_taken : AreTaken offered
unfolding is_utf8 chars encode_utf8 text_within short_within rtp rtp_of_header red_within headers_at texts_within
all_taken = (refl, refl)

closed_live : AreLive (setup long) (hearing_at long) to_the_end (chunks_live long to_the_end) (heard_each 7) (turned offered)
unfolding is_utf8 chars encode_utf8 text_within short_within rtp rtp_of_header red_within headers_at texts_within
closed_live = (
  closed_turn (drop 1 (turned offered)) (heard_each 7) 2 1 refl refl refl refl (omega arith) (omega arith) refl refl all_taken refl,
  (
    closed_turn (drop 2 (turned offered)) (heard_each 6) 2 1 refl refl refl refl (omega arith) (omega arith) refl refl all_taken refl,
    (
      closed_turn (drop 3 (turned offered)) (heard_each 5) 2 1 refl refl refl refl (omega arith) (omega arith) refl refl all_taken refl,
      (
        closed_turn (drop 4 (turned offered)) (heard_each 4) 2 1 refl refl refl refl (omega arith) (omega arith) refl refl all_taken refl,
        (
          closed_turn (drop 5 (turned offered)) (heard_each 3) 2 1 refl refl refl refl (omega arith) (omega arith) refl refl all_taken refl,
          (
            closed_turn (drop 6 (turned offered)) (heard_each 2) 2 1 refl refl refl refl (omega arith) (omega arith) refl refl all_taken refl,
            (
              closed_turn (drop 7 (turned offered)) (heard_each 1) 0 0 refl refl refl refl (omega arith) (omega arith) refl refl all_taken refl,
              (closed_seated, (tt, (tt, (tt, tt)))),
            ),
          ),
        ),
      ),
    ),
  ),
)

packets_to_bob : first ∷ second ∷ third ∷ [] ≡ given_to long (closed_after (turned offered)) 1 bob
unfolding is_utf8 chars encode_utf8 text_within short_within rtp rtp_of_header red_within headers_at texts_within
packets_to_bob = refl

closed_gives : (j : ℕ) (leg : LegLine) → leg_at long.legs j ≡ Some leg → to_bob (first ∷ second ∷ third ∷ []) j ≡ given_to long (closed_after (turned offered)) j leg
unfolding is_utf8 chars encode_utf8 text_within short_within rtp rtp_of_header red_within headers_at texts_within
closed_gives zero leg e = let is : ann ≡ leg = cc e in ap (λ l. given_to long (closed_after (turned offered)) 0 l) is
closed_gives (suc zero) leg e = let is : bob ≡ leg = cc e in packets_to_bob ∙ ap (λ l. given_to long (closed_after (turned offered)) 1 l) is
closed_gives (suc (suc j)) leg e = absurd (cc e)

closed_idle : is_idle (setup long) (closed_after (turned offered)) ≡ true
unfolding is_utf8 chars encode_utf8 text_within short_within rtp rtp_of_header red_within headers_at texts_within
closed_idle = refl

closed_drained : (j : ℕ) → j < 2 → IsDrained long to_the_end (closed_after (turned offered)) j
closed_drained zero low = record { closed = refl; taken = all_taken.0 }
closed_drained (suc zero) low = record { closed = refl; taken = all_taken.1 }
closed_drained (suc (suc j)) low = absurd (omega (arith, low))

live_closed : IsServed long to_the_end (to_bob (first ∷ second ∷ third ∷ [])) Closed (shows (codes "A") 3 Closed)
live_closed = record {
  table = closed_after (turned offered);
  turns = 7;
  live = record { past = turned offered; counts = heard_each 7; live = closed_live; turned = refl; leads = refl };
  few = omega arith;
  gives = closed_gives;
  prints = closed_is_printed;
  done = λ e. absurd (cc e);
  goes_on = λ e. absurd (cc e);
  drained = λ e. closed_drained;
  idle = λ e. closed_idle;
}

-- by `watch`, behind the same lines: of Ann one octet, of Bob none
watch_closed : board_lines long (chunks_live long to_the_end) ≡ board_line ann 1 ++ (board_line bob 0 ++ [])
unfolding is_utf8 chars encode_utf8 text_within short_within rtp rtp_of_header red_within headers_at texts_within
watch_closed = refl

-- of Ann's link one datagram came, of Bob's none
long_counts : counts_lines long to_the_end ≡ codes "-- Ann came 1 text 1 refused 0 foreign 0 senders 1\n-- Bob came 0 text 0 refused 0 foreign 0 senders 0\n"
unfolding digits tally_heard tally_unheard is_utf8 chars encode_utf8 text_within short_within rtp rtp_of_header red_within headers_at texts_within
long_counts = refl

-- so it keeps what is promised
live_closed_keeps : HeadLive long to_the_end (to_bob (first ∷ second ∷ third ∷ [])) Closed (shows (codes "A") 3 Closed)
live_closed_keeps = head_law legs long to_the_end (to_bob (first ∷ second ∷ third ∷ [])) Closed (shows (codes "A") 3 Closed) many_turns live_closed

-- ---- one turn, before which each link has told nothing new but once
abbrev short : Conference
short = call 1

quiet_turn : AllMayTurn (setup short) (hearing_at short) quiet (chunks_live short quiet) entered (at_last []) (at_last (heard 2 1 ∷ []))
quiet_turn = record {
  each = both 1 quiet entered (at_last []) (at_last (heard 2 1 ∷ [])) refl refl
      (record { more = omega arith; came = omega arith; took = ([], refl); heard_out = λ free. inl (omega arith, refl) }) (record { more = omega arith; came = omega arith; took = ([], refl); heard_out = λ free. inl (omega arith, refl) });
  goes_on = λ over. true≢false (sym (over.closed 0 (omega arith)));
}

quiet_gives : (j : ℕ) (leg : LegLine) → leg_at short.legs j ≡ Some leg → to_bob [] j ≡ given_to short (table_after 1 quiet (Turn 0 ∷ entered)) j leg
quiet_gives zero leg e = refl
quiet_gives (suc zero) leg e = refl
quiet_gives (suc (suc j)) leg e = absurd (cc e)

-- after one turn all turns were made
done_at_once : (takes : ℕ → Takes) (packets : List (List ℕ)) (printed : List ℕ) (table : Table) (live : Live (setup short) (hearing_at short) takes 1 table)
    → (IsOver (setup short) (hearing_at short) takes (chunks_live short takes) live.past (at_last live.counts) → ⊥)
    → ((j : ℕ) (leg : LegLine) → leg_at short.legs j ≡ Some leg → to_bob packets j ≡ given_to short table j leg) → printed ≡ live_printed short takes (to_bob packets) Done
    → IsServed short takes (to_bob packets) Done printed
done_at_once takes packets printed table live goes_on gives prints = record {
  table = table;
  turns = 1;
  live = live;
  few = omega arith;
  gives = gives;
  prints = prints;
  done = λ e. refl;
  goes_on = λ e. goes_on;
  drained = λ e. absurd (cc e);
  idle = λ e. absurd (cc e);
}

live_done : IsServed short quiet (to_bob []) Done (shows [] 0 Done)
live_done = done_at_once quiet [] (shows [] 0 Done) (table_after 1 quiet (Turn 0 ∷ entered))
    (record { past = Turn 0 ∷ entered; counts = heard 2 1 ∷ []; live = (quiet_turn, (tt, (tt, tt))); turned = refl; leads = refl }) (λ over. true≢false (sym (over.closed 0 (omega arith)))) quiet_gives nothing_is_printed

-- ---- one turn, and a letter before it
letter_ready : taken_of 1 one_letter offered 0 ≡ ready_by (hearing_at short 0) (one_letter 0)
unfolding is_utf8 chars encode_utf8 text_within short_within rtp rtp_of_header red_within headers_at texts_within
letter_ready = refl

none_ready : taken_of 1 one_letter offered 1 ≡ ready_by (hearing_at short 1) (one_letter 1)
unfolding is_utf8 chars encode_utf8 text_within short_within rtp rtp_of_header red_within headers_at texts_within
none_ready = refl

letter_seats : (is_seated (table_after 1 one_letter offered).seats 0 ≡ true) × (is_seated (table_after 1 one_letter offered).seats 1 ≡ true)
unfolding is_utf8 chars encode_utf8 text_within short_within rtp rtp_of_header red_within headers_at texts_within
letter_seats = (refl, refl)

letter_turn : AllMayTurn (setup short) (hearing_at short) one_letter (chunks_live short one_letter) offered (at_last []) (at_last (heard 2 1 ∷ []))
letter_turn = record {
  each = both 1 one_letter offered (at_last []) (at_last (heard 2 1 ∷ [])) letter_seats.0 letter_seats.1
      (record { more = omega arith; came = omega arith; took = ([], letter_ready ∙ nil (ready_by (hearing_at short 0) (one_letter 0))); heard_out = λ free. inl (omega arith, refl) })
      (record { more = omega arith; came = omega arith; took = ([], none_ready ∙ nil (ready_by (hearing_at short 1) (one_letter 1))); heard_out = λ free. inl (omega arith, refl) });
  goes_on = λ over. true≢false (sym (over.closed 0 (omega arith)));
}

letter_seated : (i : ℕ) → i < 2 → is_seated (table_after 1 one_letter (Push 0 ∷ entered)).seats i ≡ true
letter_seated zero low = refl
letter_seated (suc zero) low = refl
letter_seated (suc (suc i)) low = absurd (omega (arith, low))

letter_to_bob : first ∷ [] ≡ given_to short (table_after 1 one_letter (Turn 0 ∷ offered)) 1 bob
unfolding is_utf8 chars encode_utf8 text_within short_within rtp rtp_of_header red_within headers_at texts_within
letter_to_bob = refl

letter_gives : (j : ℕ) (leg : LegLine) → leg_at short.legs j ≡ Some leg → to_bob (first ∷ []) j ≡ given_to short (table_after 1 one_letter (Turn 0 ∷ offered)) j leg
unfolding is_utf8 chars encode_utf8 text_within short_within rtp rtp_of_header red_within headers_at texts_within
letter_gives zero leg e = let is : ann ≡ leg = cc e in ap (λ l. given_to short (table_after 1 one_letter (Turn 0 ∷ offered)) 0 l) is
letter_gives (suc zero) leg e = let is : bob ≡ leg = cc e in letter_to_bob ∙ ap (λ l. given_to short (table_after 1 one_letter (Turn 0 ∷ offered)) 1 l) is
letter_gives (suc (suc j)) leg e = absurd (cc e)

live_one_letter : IsServed short one_letter (to_bob (first ∷ [])) Done (shows (codes "A") 1 Done)
live_one_letter = done_at_once one_letter (first ∷ []) (shows (codes "A") 1 Done) (table_after 1 one_letter (Turn 0 ∷ offered))
    (record { past = Turn 0 ∷ offered; counts = heard 2 1 ∷ []; live = (letter_turn, (letter_seated, (tt, (tt, (tt, tt))))); turned = refl; leads = refl }) (λ over. true≢false (sym (over.closed 0 (omega arith)))) letter_gives letter_is_printed
