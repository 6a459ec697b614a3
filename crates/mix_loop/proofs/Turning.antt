-- What is found before a turn, and what comes of it.
use Rattle.std.proofs.Common.{◌≡◌, ◌<◌, ◌-◌, ◌*◌, ℕ, zero, suc, Bool, true, false, true≢false, cond, not, inl, inr, Option, Some, None, List, [], ◌∷◌, ◌++◌, length, refl, ap, sym, subst, ◌∙◌, arith}
use Rattle.std.specs.Prelude.{◌&&◌, ◌||◌, is_none, slice_get}
use Rattle.std.specs.List.{list_all, list_any}
use Rattle.stream_spec.specs.Ready.{Chunk, chunk_of}
use Rattle.mixer_spec.specs.Chunks.{has_chunk}
use Rattle.mixer_spec.specs.Rounds.{all_below}
use Rattle.mixer_spec.specs.Setups.{Setup}
use Rattle.mixer_spec.specs.Table.{Table, Call, Turn, turned, is_idle, empty}
use Rattle.mixer_spec.specs.Legs.{held}
use Rattle.mixer_spec.specs.Plain.{Desk, before_turn, is_over, plain_from, plain}
use Rattle.mix_loop.specs.declared.ports.Port.{Port}
use Rattle.mix_loop.specs.declared.turns.Before.TheVariants as before
use Rattle.mix_loop.specs.declared.turns.TurnsEnd.TheVariants as turn
use Rattle.mix_loop.specs.Items.{Gave, is_fault, nothing}
use Rattle.mix_loop.specs.Mixers.{At}
use Rattle.mix_loop.specs.Ports.{hand_of, hand_with, is_away}
use Rattle.mix_loop.specs.Turns.{Known, unknown, all_of, desk_of, MayComeAll, Reaches, Settled, SettledBelow, next_from, turn_from, IsBefore, Answers, IsOverAs, AllFresh, IsNow, BecomesBy, OffersBy, SettlesBy, BeforeTo, TurnsTo, UnlessStopped, AnswersAs}
use Rattle.mix_loop.proofs.Lists.{lt_or_ge}
use Rattle.mix_loop.proofs.Reaching.{becomes_then}
use Rattle.mix_loop.specs.declared.turns.Before.{Before}
use Rattle.mix_loop.specs.declared.turns.TurnsEnd.{TurnsEnd}
use Rattle.mixer_spec.proofs.Plain.{all_same}

-- ---- plain mixing, cut behind what is done before a turn
pick : (b : Bool) (x : Option Table) → cond b x None ≡ elim b as (λ b. Option Table) [ true ↦ x | false ↦ None ]
pick true x = refl
pick false x = refl

plain_turn : (s : Setup) (tick n k : ℕ) (d : Desk) → plain_from s tick n k d ≡ turn_from s tick n k (before_turn s (k * tick) d)
plain_turn s tick zero k d = pick (is_over s (before_turn s (k * tick) d)) (Some (before_turn s (k * tick) d).table)
plain_turn s tick (suc n) k d = refl

is_true : (b : Bool) (x y : Option Table) → b ≡ true → (elim b as (λ b. Option Table) [ true ↦ x | false ↦ y ]) ≡ x
is_true true x y e = refl
is_true false x y e = absurd (true≢false (sym e))

is_false : (b : Bool) (x y : Option Table) → b ≡ false → (elim b as (λ b. Option Table) [ true ↦ x | false ↦ y ]) ≡ y
is_false true x y e = absurd (true≢false e)
is_false false x y e = refl

module _ {F : Type 0} (s : Setup) (tick turns k : ℕ) (kn kn' : ℕ → Known F) (table table' : Table) (b : IsBefore s tick turns k kn table) (r : Reaches (before_turn s (k * tick)) kn table kn' table') where
  comes_to : (rest : ℕ → List Chunk) → MayComeAll kn' rest → plain s tick turns (all_of kn' rest) ≡ turn_from s tick (turns - k) k (desk_of kn' rest table')
  comes_to rest may =
      let q = r.goes rest may in
      ap (plain s tick turns) (sym q.2) ∙ (b.goes q.0 q.1 ∙ (plain_turn s tick (turns - k) k (desk_of kn q.0 table) ∙ ap (turn_from s tick (turns - k) k) q.3))

  pub over_answers : IsOverAs true s kn' table' → Answers s tick turns kn' (Some table')
  over_answers o = record {
    goes = λ rest may. comes_to rest may ∙ is_true (is_over s (desk_of kn' rest table')) (Some table') (next_from s tick (turns - k) k (desk_of kn' rest table')) (o rest may);
  }

  going : IsOverAs false s kn' table' → (rest : ℕ → List Chunk) → MayComeAll kn' rest → plain s tick turns (all_of kn' rest) ≡ next_from s tick (turns - k) k (desk_of kn' rest table')
  going o rest may = comes_to rest may ∙ is_false (is_over s (desk_of kn' rest table')) (Some table') (next_from s tick (turns - k) k (desk_of kn' rest table')) (o rest may)

  pub going_turn : IsOverAs false s kn' table' → k < turns → Settled kn' → IsBefore s tick turns (suc k) kn' (turned s (k * tick) table')
  going_turn o low settled = record {
    goes = λ rest may. let e : turns - k ≡ suc (turns - suc k) = omega arith in going o rest may ∙ ap (λ n. next_from s tick n k (desk_of kn' rest table')) e;
    settled = settled;
  }

  pub going_long : IsOverAs false s kn' table' → k ≡ turns → Answers s tick turns kn' None
  going_long o e = record { goes = λ rest may. let z : turns - k ≡ 0 = omega arith in going o rest may ∙ ap (λ n. next_from s tick n k (desk_of kn' rest table')) z }

-- ---- nothing is left where each hand is empty and the table is idle
all_front : (p : ℕ → Bool) (n : ℕ) → all_below p (suc n) ≡ (p 0 && all_below (λ i. p (suc i)) n)
all_front p zero = refl
all_front p (suc n) = ap (λ b. p (suc n) && b) (all_front p n) ∙ swap (p (suc n)) (p 0) (all_below (λ i. p (suc i)) n)
  where
    swap : (a b c : Bool) → (a && (b && c)) ≡ (b && (a && c))
    swap true true c = refl
    swap true false c = refl
    swap false true c = refl
    swap false false c = refl

none_left : (h : Option Chunk) (r : List Chunk) → (h ≡ None → r ≡ []) → not (has_chunk (held h ++ r)) ≡ is_none h
none_left None r e = ap (λ x. not (has_chunk x)) (e refl)
none_left (Some c) r e = refl

over_is : {F : Type 0} (s : Setup) (kn : ℕ → Known F) (table : Table) → SettledBelow s.legs kn → (rest : ℕ → List Chunk) → MayComeAll kn rest
    → is_over s (desk_of kn rest table) ≡ (all_below (λ j. is_none (kn j).hand) s.legs && is_idle s table)
over_is s kn table settled rest may = ap (λ b. b && is_idle s table)
    (all_same (λ j. not (has_chunk (held (kn j).hand ++ rest j))) (λ j. is_none (kn j).hand) s.legs (λ j low. none_left (kn j).hand (rest j) (λ n. may j (settled j low n))))

empty_hand : (b : Bool) (c : Chunk) → not b ≡ is_none (hand_with b c)
empty_hand true c = refl
empty_hand false c = refl

module _ {I F : Type 0} where
  spent_hands : (ps : List (Port I F)) (hand : ℕ → Option Chunk) → ((j : ℕ) (p : Port I F) → slice_get ps j ≡ Some p → hand_of p ≡ hand j) → list_all (λ p. not p.full) ps ≡ all_below (λ j. is_none (hand j)) (length ps)
  spent_hands [] hand h = refl
  spent_hands (p ∷ ps) hand h =
      ap (λ b. b && list_all (λ p. not p.full) ps) (empty_hand p.full (chunk_of p.hand) ∙ ap is_none (h 0 p refl))
      ∙ (ap (λ b. is_none (hand 0) && b) (spent_hands ps (λ j. hand (suc j)) (λ j q e. h (suc j) q e)) ∙ sym (all_front (λ j. is_none (hand j)) (length ps)))

  -- a fault of a port is one of what is known
  fault_at : (ps : List (Port I F)) (gave : ℕ → Gave F) → ((j : ℕ) (p : Port I F) → slice_get ps j ≡ Some p → p.ended ≡ (gave j).ended) → list_any (λ p. is_fault p.ended) ps ≡ true → (j : ℕ) × (is_fault (gave j).ended ≡ true)
  fault_at [] gave h e = absurd (true≢false (sym e))
  fault_at (p ∷ ps) gave h e = go (is_fault p.ended) refl e (λ f. fault_at ps (λ j. gave (suc j)) (λ j q x. h (suc j) q x) f)
    where
      go : (b : Bool) → is_fault p.ended ≡ b → (b || list_any (λ p. is_fault p.ended) ps) ≡ true → (list_any (λ p. is_fault p.ended) ps ≡ true → (j : ℕ) × (is_fault (gave (suc j)).ended ≡ true)) → (j : ℕ) × (is_fault (gave j).ended ≡ true)
      go true q f r = (0, ap is_fault (sym (h 0 p refl)) ∙ q)
      go false q f r = let x = r f in (suc x.0, x.1)

module _ {I F M : Type 0} (stands : I → I → Gave F → Type 0) (mixes : M → Setup → List Call → Type 0) (s : Setup) (firsts : List I) where
  -- ---- what is found before a turn
  module _ (f : Desk → Desk) (kn : ℕ → Known F) (table : Table) (ps : List (Port I F)) (m : M) (o : OffersBy stands mixes s firsts s.legs f kn table ps m) where
    pub finds_fault : list_any (λ p. is_fault p.ended) ps ≡ true → SettlesBy stands mixes s firsts before.Faulted f kn table ps m
    finds_fault e = record {
      becomes = o.becomes;
      settled = o.settled;
      finds = fault_at ps (λ j. (o.becomes.kn' j).gave) (λ j p x. (o.becomes.now.known j p x).holds.ended) e;
    }

    over_as : (b : Bool) → ((s : Setup) (table : Table) → At mixes m s table → b ≡ (list_all (λ p. not p.full) ps && is_idle s table)) → IsOverAs b s o.becomes.kn' o.becomes.table'
    over_as b e rest may =
        over_is s o.becomes.kn' o.becomes.table' o.settled rest may
        ∙ (ap (λ n. all_below (λ j. is_none (o.becomes.kn' j).hand) n && is_idle s o.becomes.table') o.becomes.now.legs
        ∙ (ap (λ x. x && is_idle s o.becomes.table') (sym (spent_hands ps (λ j. (o.becomes.kn' j).hand) (λ j p x. (o.becomes.now.known j p x).hand))) ∙ sym (e s o.becomes.table' o.becomes.now.mixed)))

    pub finds_over : (b : Bool) → b ≡ true → ((s : Setup) (table : Table) → At mixes m s table → b ≡ (list_all (λ p. not p.full) ps && is_idle s table)) → SettlesBy stands mixes s firsts before.Over f kn table ps m
    finds_over b t e = record { becomes = o.becomes; settled = o.settled; finds = subst (λ (x : Bool). IsOverAs x s o.becomes.kn' o.becomes.table') t (over_as b e) }

    pub finds_going : (b : Bool) → b ≡ false → ((s : Setup) (table : Table) → At mixes m s table → b ≡ (list_all (λ p. not p.full) ps && is_idle s table)) → SettlesBy stands mixes s firsts before.Going f kn table ps m
    finds_going b t e = record { becomes = o.becomes; settled = o.settled; finds = subst (λ (x : Bool). IsOverAs x s o.becomes.kn' o.becomes.table') t (over_as b e) }

  -- legs go, legs come, and offer
  pub offers_then : (f g h : Desk → Desk) (kn : ℕ → Known F) (table : Table) (ps qs rs : List (Port I F)) (m m1 m2 : M) (a : BecomesBy stands mixes s firsts f kn table ps m) (b : BecomesBy stands mixes s firsts g a.kn' a.table' qs m1)
      → OffersBy stands mixes s firsts s.legs h b.kn' b.table' rs m2 → OffersBy stands mixes s firsts s.legs (λ d. h (g (f d))) kn table rs m2
  offers_then f g h kn table ps qs rs m m1 m2 a b c = record {
    becomes = becomes_then stands s firsts mixes (λ d. g (f d)) h kn table qs rs m1 m2 (becomes_then stands s firsts mixes f g kn table ps qs m m1 a b) c.becomes;
    settled = c.settled;
  }

  -- ---- the turns
  settled_all : (kn : ℕ → Known F) (table : Table) (ps : List (Port I F)) (m : M) → IsNow stands mixes s firsts kn table ps m → SettledBelow s.legs kn → Settled kn
  settled_all kn table ps m n settled j a empty_hand = elim (lt_or_ge j s.legs) [
    | inl low ↦ settled j low empty_hand
    | inr high ↦ absurd (true≢false (ap (λ (k : Known F). is_away k.seat) (sym (n.above j high)) ∙ a))
  ]

  module _ (tick turns k now : ℕ) (at : now ≡ k * tick) (ps qs : List (Port I F)) (m m1 : M) (b : BeforeTo stands mixes s firsts tick turns k ps m) where
    reached : (kn' : ℕ → Known F) (table' : Table) → Reaches (before_turn s now) b.kn b.table kn' table' → Reaches (before_turn s (k * tick)) b.kn b.table kn' table'
    reached kn' table' r = subst (λ (t : ℕ). Reaches (before_turn s t) b.kn b.table kn' table') at r

    -- an answer of the turns, by what settling comes to
    ends_as : {T : Type 0} (what : Before) (answer : TurnsEnd T) (o : SettlesBy stands mixes s firsts what (before_turn s now) b.kn b.table qs m1) → UnlessStopped answer (At mixes m1 s o.becomes.table') → AnswersAs answer s tick turns o.becomes.kn' o.becomes.table'
        → TurnsTo {T = T} stands mixes s firsts tick turns answer qs m1
    ends_as what answer o mixed answers = let n = o.becomes.now in record { kn = o.becomes.kn'; table = o.becomes.table'; known = n.known; legs = n.legs; above = n.above; mixed = mixed; answers = answers }

    pub fault_ends : {T : Type 0} → SettlesBy stands mixes s firsts before.Faulted (before_turn s now) b.kn b.table qs m1 → TurnsTo {T = T} stands mixes s firsts tick turns turn.Faulted qs m1
    fault_ends o = ends_as before.Faulted turn.Faulted o o.becomes.now.mixed o.finds

    pub over_ends : {T : Type 0} → SettlesBy stands mixes s firsts before.Over (before_turn s now) b.kn b.table qs m1 → TurnsTo {T = T} stands mixes s firsts tick turns turn.Over qs m1
    over_ends o = ends_as before.Over turn.Over o o.becomes.now.mixed
        (over_answers s tick turns k b.kn o.becomes.kn' b.table o.becomes.table' b.before (reached o.becomes.kn' o.becomes.table' o.becomes.reaches) o.finds)

    pub long_ends : {T : Type 0} → k ≡ turns → SettlesBy stands mixes s firsts before.Going (before_turn s now) b.kn b.table qs m1 → TurnsTo {T = T} stands mixes s firsts tick turns turn.TooLong qs m1
    long_ends e o = ends_as before.Going turn.TooLong o o.becomes.now.mixed
        (going_long s tick turns k b.kn o.becomes.kn' b.table o.becomes.table' b.before (reached o.becomes.kn' o.becomes.table' o.becomes.reaches) o.finds e)

    module _ (o : SettlesBy stands mixes s firsts before.Going (before_turn s now) b.kn b.table qs m1) (m2 : M) where
      pub stop_ends : {T : Type 0} (why : T) → TurnsTo stands mixes s firsts tick turns (turn.Stopped why) qs m2
      stop_ends why = let n = o.becomes.now in record { kn = o.becomes.kn'; table = o.becomes.table'; known = n.known; legs = n.legs; above = n.above; mixed = tt; answers = tt }

      pub turn_made : ((s : Setup) (calls : List Call) → mixes m1 s calls → mixes m2 s (Turn now ∷ calls)) → k < turns → BeforeTo stands mixes s firsts tick turns (suc k) qs m2
      turn_made made low =
          let n = o.becomes.now in
          let a = n.mixed in
          record {
            kn = o.becomes.kn';
            table = turned s (k * tick) o.becomes.table';
            now = record {
              known = n.known;
              seats = n.seats;
              mixed = record { calls = Turn now ∷ a.calls; made = made s a.calls a.made; leads = ap (turned s now) a.leads ∙ ap (λ t. turned s t o.becomes.table') at };
              legs = n.legs;
              above = n.above;
            };
            before = going_turn s tick turns k b.kn o.becomes.kn' b.table o.becomes.table' b.before (reached o.becomes.kn' o.becomes.table' o.becomes.reaches) o.finds low
                (settled_all o.becomes.kn' o.becomes.table' qs m1 n o.settled);
          }

  -- ---- at the beginning
  pub fresh_now : (ps : List (Port I F)) (m : M) → AllFresh stands s firsts ps → At mixes m s empty → s.legs ≡ length ps → IsNow stands mixes s firsts (λ j. unknown) empty ps m
  fresh_now ps m fresh a e = record {
    known = λ j p x. let f = fresh j p x in record {
      first = f.first;
      of = f.of;
      holds = record { whole = nothing; gives = f.gives; is = refl; ended = f.open_still };
      hand = ap (λ b. hand_with b (chunk_of p.hand)) f.empty;
      seat = f.away;
      stays = f.stays;
    };
    seats = λ j low. (refl, refl);
    mixed = a;
    legs = e;
    above = λ j high. refl;
  }

pub fresh_before : {F : Type 0} (s : Setup) (tick turns : ℕ) → IsBefore {F = F} s tick turns 0 (λ j. unknown) empty
fresh_before s tick turns = record {
  goes = λ rest may. let e : turns ≡ turns - 0 = omega arith in ap (λ n. plain_from s tick n 0 (record { left = rest; table = empty })) e;
  settled = λ j a. absurd (true≢false a);
}
