-- What a mixer is made of.
use Rattle.std.proofs.Common.{◌≡◌, ℕ, zero, suc, ◌+◌, ◌<◌, inl, inr, false, not, Some, List, [], ◌∷◌, ◌++◌, length, map, get_or, refl, ap, subst, sym, ◌∙◌, arith}
use Rattle.std.specs.Prelude.{◌&&◌, ◌==◌, slice_get, slice_index_or, nat_le, IfOk, Result, Ok, Err, if◌then◌else◌}
use Rattle.std.proofs.lemmas.Bool.{cases_lt, cases_eq, le-leb, lt-leb}
use Rattle.std.proofs.lemmas.Option.{slice_get_within}
use Rattle.file_spec.specs.declared.conference_lines.LegLine.{LegLine}
use Rattle.file_spec.specs.Conference.{Conference}
use Rattle.file_spec.specs.Kept.{IsConference}
use Rattle.mixer_spec.proofs.Conferences.{setup_law}
use Rattle.terminal_scheduler.specs.AwareStanding.{IsMadeFor}
use Rattle.terminal_scheduler.specs.declared.schedulers.TerminalScheduler.{TerminalScheduler}
use Rattle.terminal_scheduler.specs.Schedulers.{StandsNew, own_of, legs_of, next_turn, sources_of}
use Rattle.rtt_base.specs.declared.errors.NoMemory.{NoMemory}
use Rattle.file_spec.specs.Speakers.{AreNamed}
use Rattle.mixer.specs.Making.{IsMade}
use Rattle.mixer_spec.specs.Rooms.{room_within}
use Rattle.mixer_spec.specs.Rounds.{set_at}
use Rattle.mixer_spec.proofs.Lists.{set_same, set_other}
use Rattle.mixer_spec.specs.Setups.{Setup, leg_at, is_aware_leg, name_of, generations_of, setup}
use Rattle.mixer_spec.specs.Table.{Table, empty, no_seats, is_given}
use Rattle.mixer_places.specs.Lanes.{Waiting}
use Rattle.mixer_places.specs.Words.{all_listen, listening}
use Rattle.mixer_places.specs.SlotStanding.{SourceStands, SlotsStandFor}
use Rattle.mixer_places.proofs.Holding.{part_same}
use Rattle.mixer_places.proofs.Sources.{stands_same}
use Rattle.stream_spec.proofs.Plain.{get_push, get_read}
use Rattle.wire_spec.proofs.Plain.{get_map}
use Rattle.mixer_spec.proofs.Plain.{leg_found}

-- ---- nobody listens
-- the legs from n on listen
abbrev pub listening_from : ℕ → Table
listening_from n = record empty { seats = record no_seats { listens = λ j. nat_le n j } }

pub all_first : (s : Setup) (waiting : List Waiting) → SlotsStandFor s waiting all_listen → SlotsStandFor s waiting (listening_from 0)
all_first s waiting h = stands_same s waiting all_listen (listening_from 0) h (λ i. refl) (λ j. le-leb 0 j (omega arith)) (λ j i. refl)

from_next : (n j : ℕ) → nat_le (n + 1) j ≡ set_at (λ x. nat_le n x) n false j
from_next n j = elim (cases_eq j n) [
  | inl e ↦ lt-leb (n + 1) j (omega (arith, e)) ∙ sym (set_same (λ x. nat_le n x) n false j e)
  | inr ne ↦ elim (cases_lt j n) [
    | inl l ↦ lt-leb (n + 1) j (omega (arith, l)) ∙ (sym (lt-leb n j l) ∙ sym (set_other (λ x. nat_le n x) n false j ne))
    | inr g ↦ le-leb (n + 1) j (omega (arith, ne, g)) ∙ (sym (le-leb n j g) ∙ sym (set_other (λ x. nat_le n x) n false j ne))
  ]
]

pub one_less : (s : Setup) (waiting : List Waiting) (n : ℕ) → SlotsStandFor s waiting (listening n false (listening_from n)) → SlotsStandFor s waiting (listening_from (n + 1))
one_less s waiting n h = stands_same s waiting (listening n false (listening_from n)) (listening_from (n + 1)) h (λ i. refl) (λ j. from_next n j) (λ j i. refl)

-- of the terminals that are no legs nothing is known
source_below : (s : Setup) (i : ℕ) (w : Waiting) → SourceStands s i w (listening_from s.legs) → SourceStands s i w empty
source_below s i w h = record {
  terminals = h.terminals;
  holds = record {
    gone = h.holds.gone;
    kept = h.holds.kept;
    all = h.holds.all;
    chunks = h.holds.chunks;
    parts = λ j p g.
        let l : j < s.legs = omega (arith, slice_get_within w.parts j p g, h.terminals) in
        part_same j (is_given (listening_from s.legs).seats i j) (is_given no_seats i j) [] [] h.holds.kept p (ap (λ b. not (j == i) && b) (sym (lt-leb s.legs j l))) refl (h.holds.parts j p g);
  };
}

pub none_listens : (s : Setup) (waiting : List Waiting) → SlotsStandFor s waiting (listening_from s.legs) → SlotsStandFor s waiting empty
none_listens s waiting h = record { legs = h.legs; sources = λ i w g. source_below s i w (h.sources i w g) }

-- ---- the legs
-- the leg that was read
pub leg_here : (read legs : List LegLine) (own : ℕ) (leg : LegLine) → read ≡ legs → own < length legs → leg ≡ get_or read own leg → slice_get legs own ≡ Some leg
leg_here read legs own leg same low is =
    ap (λ (ls : List LegLine). slice_get ls own) (sym same) ∙ get_read read own leg (omega (arith, low, ap (λ (ls : List LegLine). length ls) same)) is

pub name_there : (ls : List LegLine) (k : ℕ) → k < length ls → slice_index_or (map (λ l. l.name) ls) k [] ≡ name_of (leg_at ls k)
name_there [] k l = absurd (omega arith)
name_there (x ∷ ls) zero l = refl
name_there (x ∷ ls) (suc k) l = name_there ls k (omega arith)

made_for : (c : Conference) (k count room : ℕ) (leg : LegLine) → IsConference c → slice_get c.legs k ≡ Some leg → count ≡ length c.legs → room ≡ room_within c.mtu leg.generations → IsMadeFor (setup c) leg.generations count k room c.spacing
made_for c k count room leg h g e fits = record {
  setup = setup_law c h;
  places = refl;
  generations_is = sym (ap generations_of (leg_found c.legs k leg g));
  legs_is = e;
  room_is = fits ∙ ap (room_within c.mtu) (sym (ap generations_of (leg_found c.legs k leg g)));
  spacing_is = refl;
}

pub aware_is : (c : Conference) (k : ℕ) (leg : LegLine) → slice_get c.legs k ≡ Some leg → leg.aware ≡ (setup c).aware k
aware_is c k leg g = sym (ap is_aware_leg (leg_found c.legs k leg g))

pub all_named : (c : Conference) → IsConference c → AreNamed c.legs
all_named c h = λ i x l. (h.legs.each i x l).name

-- what is told of a new terminal_scheduler, where there are so many legs
pub made_of : (c : Conference) (k count room : ℕ) (leg : LegLine) (r : Result TerminalScheduler NoMemory) → IsConference c → slice_get c.legs k ≡ Some leg → count ≡ length c.legs → room ≡ room_within c.mtu leg.generations
    → IfOk r (λ o. StandsNew leg.aware leg.generations count k room c.spacing c.relabel o)
    → IfOk r (λ o. own_of o ≡ k) → IfOk r (λ o. legs_of o ≡ count) → IfOk r (λ o. sources_of o ≡ (if leg.aware then count else 1)) → IfOk r (λ o. next_turn o ≡ 0) → IfOk r (λ o. IsMade c k o)
made_of c k count room leg (Ok o) h g e fits stands own legs sources next = record {
  stands = stands (setup c) (made_for c k count room leg h g e fits) refl (aware_is c k leg g);
  own = own;
  legs = legs ∙ e;
  sources = get_map (λ l. if l.aware then length c.legs else 1) c.legs k leg g ∙ ap Some (sym (sources ∙ ap (λ n. if leg.aware then n else 1) e));
  next = next;
}
made_of c k count room leg (Err x) h g e fits stands own legs sources next = tt

-- ---- one more
pub made_more : (c : Conference) (xs : List TerminalScheduler) (o : TerminalScheduler) → ((j : ℕ) (p : TerminalScheduler) → slice_get xs j ≡ Some p → IsMade c j p) → IsMade c (length xs) o → (j : ℕ) (p : TerminalScheduler) → slice_get (xs ++ o ∷ []) j ≡ Some p → IsMade c j p
made_more c xs o f n j p e = elim (get_push xs o j p e) [
  | inl g ↦ f j p g
  | inr q ↦ subst (λ (i : ℕ). IsMade c i p) (sym q.0) (subst (λ (v : TerminalScheduler). IsMade c (length xs) v) (sym q.1) n)
]
