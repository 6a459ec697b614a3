-- The calls of a live run as events of the core.
use Rattle.std.proofs.Common.{◌≡◌, ◌<◌, ℕ, suc, true, false, cond, inl, inr, Some, None, List, [], ◌∷◌, ◌++◌, length, length-append, refl, ap, sym, not, ◌∙◌, subst, append_assoc, arith}
use Rattle.std.specs.Prelude.{Bool, Option, nat_le, ◌&&◌, if◌then◌else◌}
use Rattle.std.proofs.lemmas.Bool.{cases_eq, le-leb, lt-ltb}
use Rattle.std.proofs.lemmas.List.{append-nil}
use Rattle.stream_spec.specs.Ready.{Chunk}
use Rattle.mixer_spec.specs.Rounds.{set_at}
use Rattle.mixer_spec.specs.Setups.{Setup, is_before_end}
use Rattle.mixer_spec.specs.Table.{Admit, Call, Hush, Leave, Offer, Table, Taken, admitted, after_calls, chunks_taken, entered, free_place, given, has_room, is_idle, is_seated, may_enter, turned}
use Rattle.mixer_spec.specs.Table as table
use Rattle.mixer_spec.specs.Legs.{Leg, begin, held, picked, pushed, take_hand}
use Rattle.mixer_spec.specs.Core.{Core, Enter, Event, Push, Take, after, happens, is_taken, offer_hand, turns_in}
use Rattle.mixer_spec.specs.Core as core
use Rattle.mixer_spec.specs.Calls.{took, turns_made}
use Rattle.mixer_spec.proofs.Lists.{set_other, set_same}
use Rattle.mixer_spec.proofs.Legs.{come_taken}
use Rattle.stream_spec.specs.Links.{Takes, is_closed}
use Rattle.live_spec.specs.Told.{Hearing}
use Rattle.live_spec.specs.Live.{AllMayTurn, AllSeated, AreLive, IsOver, IsUpToDate, Live, MayTurn, at_last, but_last, first_takes, is_blocked, is_held_back, live_chunks}
use Rattle.live_leg.specs.LinkLegs.{Item}
use Rattle.live_leg.specs.Items.{signals_in, texts_in}
use Rattle.live_leg.proofs.Texts.{texts_append}
use Rattle.mix_loop.specs.Handed.{AllFreshAt, AreLiveCalls, IsFreshAt, hand_after, is_blocked_after}
use Rattle.mix_loop.proofs.LiveOffering.{hand_kept, hand_taken, took_kept, took_taken}
use Rattle.mix_loop.proofs.Others.{other_hand, other_took}
use Rattle.mix_loop.specs.Covers.{Covers}
use Rattle.mix_loop.specs.Laws.{CallsAreLive}
use Rattle.mix_loop.proofs.Draining.{nothing}
use Rattle.mix_loop.proofs.CallFinding.{closed_ends, up_to_date}

-- ---- one offer
abbrev leg_with : List Chunk → Option Chunk → Leg
leg_with ahead hand = record { ahead = ahead; queue = []; hand = hand }

abbrev hand_if : Bool → Chunk → Option Chunk
hand_if b c = if b then None else Some c

abbrev table_if : Bool → ℕ → Chunk → Table → Table
table_if b i c t = cond {A = Table} b (given i c t) t

-- the leg i offered the chunk, of which the rest is ahead
record Offered (s : Setup) (w v : Core) (i : ℕ) (c : Chunk) (b : Bool) (rest : List Chunk) : Type 0 where
  leg : v.legs i ≡ leg_with rest (hand_if b c)
  others : (x : ℕ) → (x ≡ i → ⊥) → v.legs x ≡ w.legs x
  table : v.table ≡ table_if b i c w.table

taken_is : (s : Setup) (i : ℕ) (t : Table) (c : Chunk) (b : Bool) → has_room s i c t ≡ b → is_taken s i c.ready t c ≡ b
taken_is s i t c b e = ap (λ x. x && has_room s i c t) (le-leb c.ready c.ready (omega arith)) ∙ e

abbrev yes : Core → ℕ → Chunk → List Chunk → Core
yes u i c rest = record { legs = set_at u.legs i (take_hand (leg_with rest (Some c))); table = given i c u.table }

abbrev no : Core → ℕ → Chunk → List Chunk → Core
no u i c rest = record { legs = set_at u.legs i (leg_with rest (Some c)); table = u.table }

by_room : (s : Setup) (u : Core) (i : ℕ) (c : Chunk) (rest : List Chunk) (b : Bool) → Offered s u (cond {A = Core} b (yes u i c rest) (no u i c rest)) i c b rest
by_room s u i c rest true = record { leg = set_same u.legs i (leg_with rest None) i refl; others = λ x n. set_other u.legs i (leg_with rest None) x n; table = refl }
by_room s u i c rest false = record { leg = set_same u.legs i (leg_with rest (Some c)) i refl; others = λ x n. set_other u.legs i (leg_with rest (Some c)) x n; table = refl }

hand_offered : (s : Setup) (u : Core) (i : ℕ) (c : Chunk) (rest : List Chunk) (b : Bool) (l : Leg) → l ≡ leg_with rest (Some c) → is_taken s i c.ready u.table c ≡ b → Offered s u (offer_hand s u i c.ready l l.hand) i c b rest
hand_offered s u i c rest b l q e =
    subst (λ (m : Leg). Offered s u (offer_hand s u i c.ready m m.hand) i c b rest) (sym q)
    (subst (λ (x : Bool). Offered s u (cond {A = Core} x (yes u i c rest) (no u i c rest)) i c b rest) (sym e) (by_room s u i c rest b))

-- a new chunk
moves : (s : Setup) (w : Core) (i : ℕ) (c : Chunk) (rest : List Chunk) (b : Bool) → w.legs i ≡ leg_with (c ∷ rest) None → has_room s i c w.table ≡ b
    → Offered s w (happens s (happens s w (Push i)) (Take i c.ready)) i c b rest
moves s w i c rest b e room =
    let u : Core = happens s w (Push i) in
    let picked_is : picked (set_at w.legs i (pushed (w.legs i)) i) ≡ leg_with rest (Some c) = ap picked (set_same w.legs i (pushed (w.legs i)) i refl ∙ ap pushed e) in
    let o = hand_offered s u i c rest b (picked (u.legs i)) picked_is (taken_is s i w.table c b room) in
    record { leg = o.leg; others = λ x n. o.others x n ∙ set_other w.legs i (pushed (w.legs i)) x n; table = o.table }

-- the one in hand again
again : (s : Setup) (w : Core) (i : ℕ) (c : Chunk) (rest : List Chunk) (b : Bool) → w.legs i ≡ leg_with rest (Some c) → has_room s i c w.table ≡ b
    → Offered s w (happens s w (Take i c.ready)) i c b rest
again s w i c rest b e room = hand_offered s w i c rest b (picked (w.legs i)) (ap picked e) (taken_is s i w.table c b room)

-- ---- all calls
module _ (s : Setup) (hears : ℕ → Hearing) (takes : ℕ → Takes) (items : ℕ → List Item) (own : (i : ℕ) → (hears i).leg ≡ i) (covers : (i : ℕ) → Covers (hears i) (takes i) (items i)) where
  abbrev chunks : ℕ → List Chunk
  chunks i = live_chunks hears takes i

  record Follows (more : ℕ → List Chunk) (counts : List (ℕ → ℕ)) (calls : List Call) : Type 0 where
    past : List Event
    turns : turns_in past ≡ turns_made calls
    table_is : (after s chunks past).table ≡ after_calls s calls
    legs : (i : ℕ) → (after s chunks past).legs i ≡ leg_with (more i) (hand_after s i calls)
    live : AreLive s hears takes chunks counts past

  abbrev Splits : (ℕ → List Chunk) → List Call → ℕ → Type 0
  Splits more calls i = chunks i ≡ (took s i calls ++ held (hand_after s i calls)) ++ more i

  -- all legs hold a place
  there : {more : ℕ → List Chunk} {counts : List (ℕ → ℕ)} {past : List Call} → AllSeated s (after_calls s past) → (f : Follows more counts past) → AllSeated s (after s chunks f.past).table
  there seated f = subst (λ (t : Table). AllSeated s t) (sym f.table_is) seated

  -- what the offer adds
  both : (b : Bool) (c : Chunk) (past : List Call) → has_room s c.source c (after_calls s past) ≡ b
      → took s c.source (Offer c ∷ past) ++ held (hand_after s c.source (Offer c ∷ past)) ≡ took s c.source past ++ c ∷ []
  both true c past e = ap (λ h. took s c.source (Offer c ∷ past) ++ held h) (hand_taken s past c c.source refl e) ∙ (append-nil (took s c.source (Offer c ∷ past)) ∙ took_taken s past c c.source refl e)
  both false c past e = ap (λ h. took s c.source (Offer c ∷ past) ++ held h) (hand_kept s past c c.source refl e) ∙ ap (λ cs. cs ++ c ∷ []) (took_kept s past c c.source refl e)

  hand_is : (b : Bool) (c : Chunk) (past : List Call) → has_room s c.source c (after_calls s past) ≡ b → hand_after s c.source (Offer c ∷ past) ≡ hand_if b c
  hand_is true c past e = hand_taken s past c c.source refl e
  hand_is false c past e = hand_kept s past c c.source refl e

  offer_table : (b : Bool) (c : Chunk) (past : List Call) → has_room s c.source c (after_calls s past) ≡ b → table_if b c.source c (after_calls s past) ≡ after_calls s (Offer c ∷ past)
  offer_table b c past e = ap (λ x. table_if x c.source c (after_calls s past)) (sym e)

  new_offer : (b : Bool) (c : Chunk) (past : List Call) (more : ℕ → List Chunk) (counts : List (ℕ → ℕ)) → has_room s c.source c (after_calls s past) ≡ b → hand_after s c.source past ≡ None
      → AllSeated s (after_calls s past) → Follows (set_at more c.source (c ∷ more c.source)) counts past → Follows more counts (Offer c ∷ past)
  new_offer b c past more counts e n seated f =
      let i = c.source in
      let w = after s chunks f.past in
      let before : w.legs i ≡ leg_with (c ∷ more i) None = f.legs i ∙ (ap (λ h. leg_with (set_at more i (c ∷ more i) i) h) n ∙ ap (λ m. leg_with m None) (set_same more i (c ∷ more i) i refl)) in
      let o = moves s w i c (more i) b before (ap (has_room s i c) f.table_is ∙ e) in
      record {
        past = Take i c.ready ∷ Push i ∷ f.past;
        turns = f.turns;
        table_is = o.table ∙ (ap (table_if b i c) f.table_is ∙ offer_table b c past e);
        legs = λ x. elim (cases_eq x i) [
          | inl same ↦ ap (after s chunks (Take i c.ready ∷ Push i ∷ f.past)).legs same ∙ (o.leg ∙ (ap (leg_with (more i)) (sym (hand_is b c past e)) ∙ ap (λ k. leg_with (more k) (hand_after s k (Offer c ∷ past))) (sym same)))
          | inr other ↦ o.others x other ∙ (f.legs x ∙ (ap (λ m. leg_with m (hand_after s x past)) (set_other more i (c ∷ more i) x other) ∙ ap (leg_with (more x)) (sym (other_hand s x past c other))))
        ];
        live = (there seated f, (tt, f.live));
      }

  old_offer : (b : Bool) (c : Chunk) (past : List Call) (more : ℕ → List Chunk) (counts : List (ℕ → ℕ)) → has_room s c.source c (after_calls s past) ≡ b → hand_after s c.source past ≡ Some c → AllSeated s (after_calls s past) → Follows more counts past → Follows more counts (Offer c ∷ past)
  old_offer b c past more counts e n seated f =
      let i = c.source in
      let w = after s chunks f.past in
      let o = again s w i c (more i) b (f.legs i ∙ ap (leg_with (more i)) n) (ap (has_room s i c) f.table_is ∙ e) in
      record {
        past = Take i c.ready ∷ f.past;
        turns = f.turns;
        table_is = o.table ∙ (ap (table_if b i c) f.table_is ∙ offer_table b c past e);
        legs = λ x. elim (cases_eq x i) [
          | inl same ↦ ap (after s chunks (Take i c.ready ∷ f.past)).legs same ∙ (o.leg ∙ (ap (leg_with (more i)) (sym (hand_is b c past e)) ∙ ap (λ k. leg_with (more k) (hand_after s k (Offer c ∷ past))) (sym same)))
          | inr other ↦ o.others x other ∙ (f.legs x ∙ ap (leg_with (more x)) (sym (other_hand s x past c other)))
        ];
        live = (there seated f, f.live);
      }

  -- what is ahead of the others
  others_split : (c : Chunk) (past : List Call) (more : ℕ → List Chunk) (x : ℕ) → (x ≡ c.source → ⊥) → Splits more (Offer c ∷ past) x → Splits more past x
  others_split c past more x other e = e ∙ (ap (λ cs. (cs ++ held (hand_after s x (Offer c ∷ past))) ++ more x) (other_took s x past c other) ∙ ap (λ h. (took s x past ++ held h) ++ more x) (other_hand s x past c other))

  new_splits : (b : Bool) (c : Chunk) (past : List Call) (more : ℕ → List Chunk) → has_room s c.source c (after_calls s past) ≡ b → hand_after s c.source past ≡ None
      → ((x : ℕ) → Splits more (Offer c ∷ past) x) → (x : ℕ) → Splits (set_at more c.source (c ∷ more c.source)) past x
  new_splits b c past more e n all x = elim (cases_eq x c.source) [
    | inl same ↦ subst (λ (k : ℕ). Splits (set_at more c.source (c ∷ more c.source)) past k) (sym same) (
        all c.source
        ∙ (ap (λ cs. cs ++ more c.source) (both b c past e)
        ∙ (append_assoc (took s c.source past) (c ∷ []) (more c.source)
        ∙ (ap (λ cs. took s c.source past ++ cs) (sym (set_same more c.source (c ∷ more c.source) c.source refl))
        ∙ (ap (λ cs. cs ++ set_at more c.source (c ∷ more c.source) c.source) (sym (append-nil (took s c.source past)))
        ∙ ap (λ h. (took s c.source past ++ held h) ++ set_at more c.source (c ∷ more c.source) c.source) (sym n)))))
        )
    | inr other ↦ others_split c past more x other (all x) ∙ ap (λ cs. (took s x past ++ held (hand_after s x past)) ++ cs) (sym (set_other more c.source (c ∷ more c.source) x other))
  ]

  old_splits : (b : Bool) (c : Chunk) (past : List Call) (more : ℕ → List Chunk) → has_room s c.source c (after_calls s past) ≡ b → hand_after s c.source past ≡ Some c
      → ((x : ℕ) → Splits more (Offer c ∷ past) x) → (x : ℕ) → Splits more past x
  old_splits b c past more e n all x = elim (cases_eq x c.source) [
    | inl same ↦ subst (λ (k : ℕ). Splits more past k) (sym same) (all c.source ∙ (ap (λ cs. cs ++ more c.source) (both b c past e) ∙ ap (λ h. (took s c.source past ++ held h) ++ more c.source) (sym n)))
    | inr other ↦ others_split c past more x other (all x)
  ]

  -- the turn may be made
  blocked_is : (more : ℕ → List Chunk) (counts : List (ℕ → ℕ)) (past : List Call) (i : ℕ) (f : Follows more counts past) → is_blocked s (after s chunks f.past) i ≡ is_blocked_after s i past
  blocked_is more counts past i f =
      ap (λ (l : Leg). is_held_back s (after s chunks f.past).table i l.hand) (f.legs i) ∙ ap (λ (t : Table). is_held_back s t i (hand_after s i past)) f.table_is

  taken_is_took : (more : ℕ → List Chunk) (counts : List (ℕ → ℕ)) (past : List Call) (i : ℕ) (f : Follows more counts past) → chunks_taken ((after s chunks f.past).table.taken i) ≡ took s i past
  taken_is_took more counts past i f = ap (λ (t : Table). chunks_taken (t.taken i)) f.table_is

  may_turn : (more : ℕ → List Chunk) (counts : List (ℕ → ℕ)) (past : List Call) (last now i : ℕ) → IsFreshAt s (items i) past last now i → (f : Follows more counts past) → MayTurn s hears takes chunks f.past last now i
  may_turn more counts past last now i w f =
      let h = hears i in
      let b = is_blocked s (after s chunks f.past) i in
      let fresh = up_to_date h (takes i) (items i) w.given w.more (covers i) w.items_are (is_blocked_after s i past) last w.enough in
      let texts : texts_in h.leg w.given ≡ chunks_taken ((after s chunks f.past).table.taken i) = ap (λ n. texts_in n w.given) (own i) ∙ (w.taken ∙ sym (taken_is_took more counts past i f)) in
      record {
        seated = ap (λ (t : Table). is_seated t.seats i) f.table_is ∙ w.seated;
        fresh = subst (λ (n : ℕ). IsUpToDate h (takes i) b last n (chunks_taken ((after s chunks f.past).table.taken i))) (sym w.count)
            (subst (λ (cs : List Chunk). IsUpToDate h (takes i) b last (signals_in w.given) cs) texts
            (subst (λ (x : Bool). IsUpToDate h (takes i) x last (signals_in w.given) (texts_in h.leg w.given)) (sym (blocked_is more counts past i f)) fresh));
      }

  -- where all is taken nothing is in the hand
  none_left : (more : ℕ → List Chunk) (counts : List (ℕ → ℕ)) (past : List Call) (i : ℕ) (f : Follows more counts past) → chunks_taken ((after s chunks f.past).table.taken i) ≡ chunks i → Splits more past i → hand_after s i past ≡ None
  none_left more counts past i f all e = none_held (hand_after s i past) (all_held (took s i past) (held (hand_after s i past)) (more i) (chunks i) (sym (taken_is_took more counts past i f) ∙ all) e)
    where
      none_held : (h : Option Chunk) → held h ≡ [] → h ≡ None
      none_held None q = refl
      none_held (Some c) q = absurd (cc q)

      -- of a list that is whole nothing is behind
      all_held : (xs ys zs all : List Chunk) → xs ≡ all → all ≡ (xs ++ ys) ++ zs → ys ≡ []
      all_held xs ys zs all is e =
          let a = ap length is in
          let b = ap length e in
          let c = length-append (xs ++ ys) zs in
          let d = length-append xs ys in
          nothing ys (omega (arith, a, b, c, d))

  all_may_turn : (more : ℕ → List Chunk) (counts : List (ℕ → ℕ)) (past : List Call) (last now : ℕ → ℕ) → AllFreshAt s items past last now → ((i : ℕ) → Splits more past i) → (f : Follows more counts past)
      → AllMayTurn s hears takes chunks f.past last now
  all_may_turn more counts past last now w e f = record {
    each = λ i low. may_turn more counts past (last i) (now i) i (w.each i low) f;
    goes_on = λ over. w.goes_on
        (λ i low. let x = w.each i low in (
          closed_ends (hears i) (takes i) (items i) x.given x.more (covers i) x.items_are (ap (λ (n : ℕ). is_closed (first_takes n (takes i))) (sym x.count) ∙ over.closed i low),
          none_left more counts past i f (over.taken i low) (e i),
        ))
        (ap (is_idle s) (sym f.table_is) ∙ over.idle);
  }

  follows : (counts : List (ℕ → ℕ)) (calls : List Call) → AreLiveCalls s items counts calls → (more : ℕ → List Chunk) → ((i : ℕ) → Splits more calls i) → Follows more counts calls
  follows counts [] l more e = record { past = []; turns = refl; table_is = refl; legs = λ i. ap begin (e i); live = tt }
  follows counts (table.Turn now ∷ past) l more e =
      let f = follows (but_last counts) past l.1 more e in
      record { past = core.Turn now ∷ f.past; turns = ap suc f.turns; table_is = ap (turned s now) f.table_is; legs = f.legs; live = (all_may_turn more (but_last counts) past (at_last (but_last counts)) (at_last counts) l.0 e f, f.live) }
  follows counts (Admit i a ∷ past) l more e =
      let m = l.0 in
      let t = after_calls s past in
      let same : (admitted s i a t).taken ≡ t.taken = come_taken i a t (free_place s t.seats) in
      let f = follows counts past l.1 more (λ x. e x ∙ ap (λ (y : ℕ → List Taken). (chunks_taken (y x) ++ held (hand_after s x past)) ++ more x) same) in
      let may : may_enter s i m.at t ≡ true =
      ap (λ b. b && (not (t.seats.came i) && nat_le (s.from i) m.at)) (lt-ltb i s.legs m.leg) ∙ (ap (λ b. not b && nat_le (s.from i) m.at) m.fresh ∙ le-leb (s.from i) m.at m.begun) in
      record {
        past = Enter i m.at ∷ f.past;
        turns = f.turns;
        table_is = ap (entered s i m.at) f.table_is ∙ (ap (λ b. cond {A = Table} b (admitted s i (is_before_end m.at (s.until i)) t) t) may ∙ ap (λ b. admitted s i b t) (sym m.listens));
        legs = f.legs;
        live = (tt, f.live);
      }
  follows counts (Hush i ∷ past) l more e = absurd l
  follows counts (Leave i ∷ past) l more e = absurd l
  follows counts (Offer c ∷ past) l more e =
      let b = has_room s c.source c (after_calls s past) in
      elim l.1 [
        | inl n ↦ new_offer b c past more counts refl n l.2 (follows counts past l.3 (set_at more c.source (c ∷ more c.source)) (new_splits b c past more refl n e))
        | inr n ↦ old_offer b c past more counts refl n l.2 (follows counts past l.3 more (old_splits b c past more refl n e))
      ]

  -- what is still ahead of a leg
  ahead : (i : ℕ) → (more : List Chunk) × (chunks i ≡ texts_in i (items i) ++ more)
  ahead i =
      let w = covers i in
      let h = hears i in
      let all : live_chunks hears takes i ≡ texts_in h.leg (items i) ++ (texts_in h.leg w.left ++ w.front.0) =
      w.front.1 ∙ (ap (λ l. texts_in h.leg l ++ w.front.0) (sym w.items_are) ∙ (ap (λ cs. cs ++ w.front.0) (texts_append h.leg (items i) w.left) ∙ append_assoc (texts_in h.leg (items i)) (texts_in h.leg w.left) w.front.0)) in
      (texts_in h.leg w.left ++ w.front.0, all ∙ ap (λ n. texts_in n (items i) ++ (texts_in h.leg w.left ++ w.front.0)) (own i))

  -- by the takes that count each link is closed, and nothing is in a hand or left in the mixer
  pub record IsOverBy (counts : List (ℕ → ℕ)) (calls : List Call) : Type 0 where
    pub closed : (i : ℕ) → i < s.legs → is_closed (first_takes (at_last counts i) (takes i)) ≡ true
    pub empty : (i : ℕ) → i < s.legs → hand_after s i calls ≡ None
    pub idle : is_idle s (after_calls s calls) ≡ true

  -- a live run, and that only such a one is over
  abbrev pub RunsTo : (counts : List (ℕ → ℕ)) (calls : List Call) (turns : ℕ) → Type 0
  RunsTo counts calls turns = (l : Live s hears takes turns (after_calls s calls)) × (IsOver s hears takes chunks l.past (at_last l.counts) → IsOverBy counts calls)

  pub runs_to : (counts : List (ℕ → ℕ)) (calls : List Call) → AreLiveCalls s items counts calls → ((i : ℕ) → texts_in i (items i) ≡ took s i calls ++ held (hand_after s i calls)) → RunsTo counts calls (turns_made calls)
  runs_to counts calls l texts =
      let more : ℕ → List Chunk = λ i. (ahead i).0 in
      let splits : (i : ℕ) → Splits more calls i = λ i. (ahead i).1 ∙ ap (λ cs. cs ++ (ahead i).0) (texts i) in
      let f = follows counts calls l more splits in (
        record { past = f.past; counts = counts; live = f.live; turned = f.turns; leads = f.table_is },
        λ over. record {
          closed = over.closed;
          empty = λ i low. none_left more counts calls i f (over.taken i low) (splits i);
          idle = ap (is_idle s) (sym f.table_is) ∙ over.idle;
        },
      )

  pub live_run : (counts : List (ℕ → ℕ)) (calls : List Call) → AreLiveCalls s items counts calls → ((i : ℕ) → texts_in i (items i) ≡ took s i calls ++ held (hand_after s i calls)) → Live s hears takes (turns_made calls) (after_calls s calls)
  live_run counts calls l texts = (runs_to counts calls l texts).0

pub calls_law : CallsAreLive
calls_law s hears takes items counts calls own l texts covers = live_run s hears takes items own covers counts calls l texts
