-- Calls that are allowed are events of the core.
use Rattle.std.proofs.Common.{◌≡◌, ℕ, suc, Bool, true, false, cond, inl, inr, List, [], ◌∷◌, ◌++◌, refl, ap, subst, sym, ◌∙◌, not}
use Rattle.std.specs.Prelude.{◌&&◌, nat_le}
use Rattle.std.proofs.lemmas.Bool.{cases_eq, le-leb, lt-ltb, and_parts}
use Rattle.stream_spec.specs.Ready.{Chunk}
use Rattle.mixer_spec.specs.Rounds.{set_at}
use Rattle.mixer_spec.specs.Setups.{Setup, is_before_end}
use Rattle.mixer_spec.specs.Table.{Call, Admit, Hush, Leave, Offer, Turn, Taken, Table, chunks_taken, is_given, has_room, given, offered, turned, admitted, hushed, free_place, may_enter, entered, may_stop, stopped, may_leave, departed, after_calls}
use Rattle.mixer_spec.specs.Legs.{Leg, begin, left}
use Rattle.mixer_spec.specs.Core.{Core, Event, Push, Take, Enter, Stop, is_taken, offer_hand, gone, happens, after, turns_in}
use Rattle.mixer_spec.specs.Core as core
use Rattle.mixer_spec.specs.Calls.{took, turns_made, AreEvents}
use Rattle.mixer_spec.specs.Laws.{AreTexts, AreShort}
use Rattle.mixer_spec.proofs.Lists.{nil, set_same, set_other}
use Rattle.mixer_spec.proofs.Legs.{chunks_more, come_taken}
use Rattle.mixer_spec.proofs.Kept.{departed_same}
use Rattle.mixer_spec.proofs.Calls.{resting, move, none_more, offer_gives, ahead_before}
use Rattle.mixer.specs.Allowed.{AreAllowed}
use Rattle.mixer.proofs.Leaving.{AreAll, all_before, left_away, departed_idle}
pub use Rattle.mixer.proofs.Leaving.{seated}
use Rattle.mixer_spec.proofs.After.{joined_texts as texts_more}

-- ---- what a call comes to: a chunk that is taken goes its whole way, and what changes nothing is no event
abbrev pub events_of : (s : Setup) (calls : List Call) → AreAllowed s calls → List Event
events_of s [] a = []
events_of s (Admit i l ∷ past) a = Enter i a.0.at ∷ events_of s past a.1
events_of s (Hush i ∷ past) a = Stop i a.0.at ∷ events_of s past a.1
events_of s (Leave i ∷ past) a = cond ((after_calls s past).seats.came i && may_leave s i (after_calls s past)) (core.Depart i ∷ events_of s past a) (events_of s past a)
events_of s (Offer c ∷ past) a = cond (has_room s c.source c (after_calls s past)) (Take c.source c.ready ∷ Push c.source ∷ events_of s past a.1) (events_of s past a.1)
events_of s (Turn now ∷ past) a = core.Turn now ∷ events_of s past a

-- after these events the table is that of the calls, and each leg rests with what is still ahead
pub record Rests (s : Setup) (chunks more : ℕ → List Chunk) (calls : List Call) (past : List Event) : Type 0 where
  pub table : (after s chunks past).table ≡ after_calls s calls
  pub legs : (i : ℕ) → (after s chunks past).legs i ≡ resting (more i)

-- a leg leaves, or stays
leaves : (s : Setup) (chunks more : ℕ → List Chunk) (i : ℕ) (past : List Call) (a : AreAllowed s past) → AreAll s chunks (Leave i ∷ past) → ((x : ℕ) → chunks x ≡ took s x past ++ more x)
    → Rests s chunks more past (events_of s past a) → Rests s chunks more (Leave i ∷ past) (events_of s (Leave i ∷ past) a)
leaves s chunks more i past a all e rest = go ((after_calls s past).seats.came i && may_leave s i (after_calls s past)) refl
  where
    go : (b : Bool) → ((after_calls s past).seats.came i && may_leave s i (after_calls s past)) ≡ b → Rests s chunks more (Leave i ∷ past) (cond b (core.Depart i ∷ events_of s past a) (events_of s past a))
    go false q = record { table = rest.table ∙ sym (departed_idle s i (after_calls s past) (seated s past a) q); legs = rest.legs }
    go true q =
        let r = and_parts ((after_calls s past).seats.came i) (may_leave s i (after_calls s past)) q in
        let took_is : took s i past ≡ chunks i = ap (λ (y : ℕ → List Taken). chunks_taken (y i)) (sym (departed_same s i (after_calls s past)).taken) ∙ all i (left_away s i (after_calls s past) r.0 r.1) in
        let nothing : more i ≡ [] = none_more (took s i past) (more i) (took_is ∙ e i) in
        record {
          table = ap (λ (l : Leg). gone s i (left l) (after s chunks (events_of s past a)).table) (rest.legs i) ∙ (ap (λ cs. gone s i cs (after s chunks (events_of s past a)).table) nothing ∙ ap (departed s i) rest.table);
          legs = rest.legs;
        }

pub rests : (s : Setup) (chunks : ℕ → List Chunk) (calls : List Call) (a : AreAllowed s calls) → AreAll s chunks calls → (more : ℕ → List Chunk) → ((i : ℕ) → chunks i ≡ took s i calls ++ more i) → Rests s chunks more calls (events_of s calls a)
rests s chunks [] a all more e = record { table = refl; legs = λ i. ap begin (e i) }
rests s chunks (Turn now ∷ past) a all more e = let f = rests s chunks past a (all_before s chunks (Turn now) past a all) more e in record { table = ap (turned s now) f.table; legs = f.legs }
rests s chunks (Admit i l ∷ past) a all more e =
    let m = a.0 in
    let same : (admitted s i l (after_calls s past)).taken ≡ (after_calls s past).taken = come_taken i l (after_calls s past) (free_place s (after_calls s past).seats) in
    let f = rests s chunks past a.1 (all_before s chunks (Admit i l) past a all) more (λ x. e x ∙ ap (λ (y : ℕ → List Taken). chunks_taken (y x) ++ more x) same) in
    let may : may_enter s i m.at (after_calls s past) ≡ true =
    ap (λ b. b && (not ((after_calls s past).seats.came i) && nat_le (s.from i) m.at)) (lt-ltb i s.legs m.leg) ∙ (ap (λ b. not b && nat_le (s.from i) m.at) m.fresh ∙ le-leb (s.from i) m.at m.begun) in
    record {
      table = ap (entered s i m.at) f.table
          ∙ (ap (λ b. cond {A = Table} b (admitted s i (is_before_end m.at (s.until i)) (after_calls s past)) (after_calls s past)) may ∙ ap (λ b. admitted s i b (after_calls s past)) (sym m.listens));
      legs = f.legs;
    }
rests s chunks (Hush i ∷ past) a all more e =
    let m = a.0 in
    let f = rests s chunks past a.1 (all_before s chunks (Hush i) past a all) more e in
    let may : may_stop s i m.at (after_calls s past) ≡ true = ap (λ b. b && not (is_before_end m.at (s.until i))) m.seated ∙ ap not m.over in
    record { table = ap (stopped s i m.at) f.table ∙ ap (λ b. cond {A = Table} b (hushed i (after_calls s past)) (after_calls s past)) may; legs = f.legs }
rests s chunks (Leave i ∷ past) a all more e =
    let before : (x : ℕ) → chunks x ≡ took s x past ++ more x = λ x. e x ∙ ap (λ (y : ℕ → List Taken). chunks_taken (y x) ++ more x) (departed_same s i (after_calls s past)).taken in
    leaves s chunks more i past a all before (rests s chunks past a (all_before s chunks (Leave i) past a all) more before)
rests s chunks (Offer c ∷ past) a all more e = go (has_room s c.source c (after_calls s past)) refl (λ m d. rests s chunks past a.1 (all_before s chunks (Offer c) past a all) m d)
  where
    go : (b : Bool) → has_room s c.source c (after_calls s past) ≡ b → ((m : ℕ → List Chunk) → ((i : ℕ) → chunks i ≡ took s i past ++ m i) → Rests s chunks m past (events_of s past a.1))
        → Rests s chunks more (Offer c ∷ past) (cond b (Take c.source c.ready ∷ Push c.source ∷ events_of s past a.1) (events_of s past a.1))
    go false q ih =
        let is : offered s c.source c (after_calls s past) ≡ after_calls s past = ap (λ b. cond {A = Table} b (given c.source c (after_calls s past)) (after_calls s past)) q in
        let f = ih more (λ i. e i ∙ ap (λ (t : Table). chunks_taken (t.taken i) ++ more i) is) in
        record { table = f.table ∙ sym is; legs = f.legs }
    go true q ih =
        let f = ih (set_at more c.source (c ∷ more c.source)) (ahead_before s chunks more past c e q) in
        let m = move s (after s chunks (events_of s past a.1)) c.source c (more c.source) (f.legs c.source ∙ ap resting (set_same more c.source (c ∷ more c.source) c.source refl))
        (ap (has_room s c.source c) f.table ∙ q) in
        record {
          table = m.table ∙ (ap (given c.source c) f.table ∙ sym (offer_gives s past c q));
          legs = λ i. elim (cases_eq i c.source) [
            | inl p ↦ ap (after s chunks (Take c.source c.ready ∷ Push c.source ∷ events_of s past a.1)).legs p ∙ (m.leg ∙ ap (λ n. resting (more n)) (sym p))
            | inr n ↦ m.others i n ∙ (f.legs i ∙ ap resting (set_other more c.source (c ∷ more c.source) i n))
          ];
        }

pub turns_same : (s : Setup) (calls : List Call) (a : AreAllowed s calls) → turns_in (events_of s calls a) ≡ turns_made calls
turns_same s [] a = refl
turns_same s (Admit i l ∷ past) a = turns_same s past a.1
turns_same s (Hush i ∷ past) a = turns_same s past a.1
turns_same s (Leave i ∷ past) a = go ((after_calls s past).seats.came i && may_leave s i (after_calls s past)) (turns_same s past a)
  where
    go : (b : Bool) → turns_in (events_of s past a) ≡ turns_made past → turns_in (cond b (core.Depart i ∷ events_of s past a) (events_of s past a)) ≡ turns_made past
    go true e = e
    go false e = e
turns_same s (Offer c ∷ past) a = go (has_room s c.source c (after_calls s past)) (turns_same s past a.1)
  where
    go : (b : Bool) → turns_in (events_of s past a.1) ≡ turns_made past → turns_in (cond b (Take c.source c.ready ∷ Push c.source ∷ events_of s past a.1) (events_of s past a.1)) ≡ turns_made past
    go true e = e
    go false e = e
turns_same s (Turn now ∷ past) a = ap suc (turns_same s past a)

pub table_law : (s : Setup) (calls : List Call) (a : AreAllowed s calls) → (after s (λ i. took s i calls) (events_of s calls a)).table ≡ after_calls s calls
table_law s calls a = (rests s (λ i. took s i calls) calls a (λ i h. refl) (λ i. []) (λ i. sym (nil (took s i calls)))).table

pub events_law : (s : Setup) (calls : List Call) → AreAllowed s calls → AreEvents s (λ i. took s i calls) calls
events_law s calls a = record { past = events_of s calls a; turns = turns_same s calls a; table = table_law s calls a }

-- ---- what was taken
pub short_more : (xs ys : List Chunk) → AreShort xs → AreShort ys → AreShort (xs ++ ys)
short_more [] ys a b = b
short_more (x ∷ xs) ys a b = (a.0, short_more xs ys a.1 b)

pub record AreGood (cs : List Chunk) : Type 0 where
  pub texts : AreTexts cs
  pub short : AreShort cs

pub good_taken : (s : Setup) (calls : List Call) → AreAllowed s calls → (i : ℕ) → AreGood (took s i calls)
good_taken s [] a i = record { texts = tt; short = tt }
good_taken s (Admit k l ∷ past) a i = subst (λ (y : ℕ → List Taken). AreGood (chunks_taken (y i))) (sym (come_taken k l (after_calls s past) (free_place s (after_calls s past).seats))) (good_taken s past a.1 i)
good_taken s (Hush k ∷ past) a i = good_taken s past a.1 i
good_taken s (Leave k ∷ past) a i = subst (λ (y : ℕ → List Taken). AreGood (chunks_taken (y i))) (sym (departed_same s k (after_calls s past)).taken) (good_taken s past a i)
good_taken s (Offer c ∷ past) a i = go (has_room s c.source c (after_calls s past)) (good_taken s past a.1 i)
  where
    more : List Taken
    more = (after_calls s past).taken c.source ++ record { chunk = c; given = is_given (after_calls s past).seats c.source } ∷ []

    go : (b : Bool) → AreGood (took s i past) → AreGood (chunks_taken ((cond {A = Table} b (given c.source c (after_calls s past)) (after_calls s past)).taken i))
    go false h = h
    go true h = elim (cases_eq i c.source) [
      | inl q ↦ subst AreGood
          (sym (ap chunks_taken (set_same (after_calls s past).taken c.source ((after_calls s past).taken c.source ++ record { chunk = c; given = is_given (after_calls s past).seats c.source } ∷ []) i q)
          ∙ (chunks_more ((after_calls s past).taken c.source) (record { chunk = c; given = is_given (after_calls s past).seats c.source }) ∙ ap (λ n. took s n past ++ c ∷ []) (sym q))))
          (record { texts = texts_more (took s i past) (c ∷ []) h.texts (a.0.some, a.0.utf8, tt); short = short_more (took s i past) (c ∷ []) h.short (a.0.short, tt) })
      | inr n ↦ subst AreGood (sym (ap chunks_taken (set_other (after_calls s past).taken c.source ((after_calls s past).taken c.source ++ record { chunk = c; given = is_given (after_calls s past).seats c.source } ∷ []) i n))) h
    ]
good_taken s (Turn now ∷ past) a i = good_taken s past a i
