-- What one terminal is sent comes into the batch.
use Rattle.std.proofs.Common.{◌≡◌, ℕ, suc, ◌+◌, ◌<◌, ◌≤◌, true, false, List, [], ◌∷◌, ◌++◌, length, take, set, get_or, ap, subst, sym, ◌∙◌, arith}
use Rattle.std.specs.Prelude.{slice_index}
use Rattle.std.proofs.lemmas.List.Elements.{All-push}
use Rattle.std.proofs.lemmas.List.{take_more_set, take-set, length-take, length-set}
use Rattle.mixer_spec.specs.Setups.{Setup, stream}
use Rattle.mixer_spec.specs.Table.{Terminal, Seats, Table, is_seated, turn_at}
use Rattle.mixer_spec.specs.Laws.{AreTexts}
use Rattle.mixer_places.specs.Lanes.{Waiting}
use Rattle.mixer_places.proofs.Lists.{get_set_same}
use Rattle.mixer_places.specs.States as seating
use Rattle.mixer_places.specs.SeatStanding as seatings
use Rattle.terminal_scheduler.specs.declared.schedulers.TerminalScheduler.{TerminalScheduler}
use Rattle.terminal_scheduler.specs.Turns.{SendsNext}
use Rattle.terminal_scheduler.specs.Schedulers as schedulers
use Rattle.terminal_scheduler.specs.Schedulers.{IsTurn}
use Rattle.mixer.specs.declared.batches.Post.{Post}
use Rattle.mixer.specs.Posts.{ArePosts, IsPost}
use Rattle.mixer.specs.Turns.{turned_below, IsPut, Reaches, LegMayTurn, LegTurned}
use Rattle.mixer.proofs.Turning.{seats_below, still_there, no_turn, reach_past, reach_more}
use Rattle.stream_spec.proofs.Plain.{get_read}

-- ---- the batch
pub len_is : (items : List Post) (len : ℕ) (old : List Post) → old ≡ take len items → length items ≡ 16 → len ≤ 16 → length old ≡ len
len_is items len old e n l = omega (arith, ap length e, length-take len items, n, l)

pub filled_same : (items : List Post) (len : ℕ) (post : Post) (old : List Post) → old ≡ take len items → take len (set items len post) ≡ old
filled_same items len post old e = take-set items len post ∙ sym e

-- what is read at a place to which it was written
read_back : (items : List Post) (n : ℕ) (post read : Post) → n < length items → read ≡ get_or (set items n post) n read → read ≡ post
read_back items n post read l e = get_set_same items n post read (get_read (set items n post) n read (omega (arith, l, length-set items n post)) e)

-- the next place is written to, and then its source
pub filled_more : (items : List Post) (len leg t source : ℕ) (post read : Post) (old : List Post) → old ≡ take len items → length items ≡ 16 → len ≤ 16 → length old < 16 → post.terminal ≡ leg → post.media ≡ t
    → read ≡ get_or (set items len post) len read
    → take (len + 1) (set (set items len post) len (record read { source = source })) ≡ old ++ record { terminal = leg; source = source; media = t; text = post.text } ∷ []
filled_more items len leg t source post read old e n l room a b r =
    let below : len < length items = omega (arith, len_is items len old e n l, room, n) in
    take_more_set (set items len post) len (record read { source = source }) (omega (arith, below, length-set items len post))
    ∙ (ap (λ (xs : List Post). xs ++ record read { source = source } ∷ []) (filled_same items len post old e)
    ∙ (ap (λ (p : Post). old ++ record p { source = source } ∷ []) (read_back items len post read below r)
    ∙ (ap (λ (x : ℕ). old ++ record { terminal = x; source = source; media = post.media; text = post.text } ∷ []) a
    ∙ ap (λ (x : ℕ). old ++ record { terminal = leg; source = source; media = x; text = post.text } ∷ []) b)))

pub posts_more : (sources : List ℕ) (leg t source : ℕ) (text : List ℕ) (old : List Post) → leg < length sources → source < slice_index sources leg → ArePosts sources old
    → ArePosts sources (old ++ record { terminal = leg; source = source; media = t; text = text } ∷ [])
posts_more sources leg t source text old low within h = All-push (IsPost sources) old (record { terminal = leg; source = source; media = t; text = text }) h (record { below = low; source = within })

-- ---- a leg that holds a place
pub leg_turned : (s : Setup) (table : Table) (now t leg : ℕ) (o new : TerminalScheduler) (places : seating.State) (waiting after : List Waiting) (called : List (List ℕ)) (old batch : List Post)
    → LegMayTurn s table now t leg o places called → is_seated table.seats leg ≡ true → Reaches s table now t leg waiting old
    → (IsTurn s leg (turned_below s now t table leg) o places waiting called now t → IsPut s leg leg (turned_below s now t table leg) now t new after old batch)
    → LegTurned s table now t leg new after batch
leg_turned s table now t leg o new places waiting after called old batch may seated r call = record {
  stands = subst (schedulers.SchedulerStandsFor s leg new) turned (put.turned).stands;
  reaches = subst (Reaches s table now t (suc leg) after) (sym put.batch) (reach_more s table now t leg waiting after old put.source put.text r (put.turned).slots_stand (put.turned).puts);
}
  where
    v : Table
    v = turned_below s now t table leg

    there : v.terminals leg ≡ table.terminals leg
    there = still_there s now t table leg leg (omega arith)

    seats : v.seats ≡ table.seats
    seats = seats_below s now t table leg

    turned : turn_at s v.seats leg now t (v.terminals leg) ≡ turn_at s table.seats leg now t (table.terminals leg)
    turned = ap (λ (x : Seats). turn_at s x leg now t (v.terminals leg)) seats ∙ ap (turn_at s table.seats leg now t) there

    asked : IsTurn s leg v o places waiting called now t
    asked = record {
      stands = subst (schedulers.SchedulerStandsFor s leg o) (sym there) may.stands;
      seats_stand = subst (seatings.SeatingStandsFor s places) (sym seats) may.seats;
      slots_stand = r.waits;
      seated = ap (λ (x : Seats). is_seated x leg) seats ∙ seated;
      texts = λ i. subst (λ (d : Terminal). AreTexts (d.waits i)) (sym there) ((may.all).texts leg i);
      names = may.names;
      next = subst (λ (d : Terminal). SendsNext (stream s leg) (v.terminals leg).past d.past) (sym turned)
          (subst (λ (d : Terminal). SendsNext (stream s leg) d.past (turn_at s table.seats leg now t (table.terminals leg)).past) (sym there) ((may.all).next leg));
    }

    put : IsPut s leg leg v now t new after old batch
    put = call asked

-- ---- a leg that holds none
pub leg_passed : (s : Setup) (table : Table) (now t leg : ℕ) (o : TerminalScheduler) (places : seating.State) (waiting : List Waiting) (called : List (List ℕ)) (old : List Post)
    → LegMayTurn s table now t leg o places called → is_seated table.seats leg ≡ false → Reaches s table now t leg waiting old → LegTurned s table now t leg o waiting old
leg_passed s table now t leg o places waiting called old may e r = record {
  stands = subst (schedulers.SchedulerStandsFor s leg o) (sym (no_turn s table.seats leg now t (table.terminals leg) e)) may.stands;
  reaches = reach_past s table now t leg waiting old e r;
}
