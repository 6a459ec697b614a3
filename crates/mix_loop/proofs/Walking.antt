-- One port after the other: legs go, come, and offer.
use Rattle.std.proofs.Common.{◌≡◌, ◌<◌, ◌+◌, ℕ, suc, Bool, true, false, cond, inl, inr, Some, None, List, length, get_or, set, refl, ap, sym, subst, ◌∙◌, arith}
use Rattle.std.specs.Prelude.{slice_get}
use Rattle.std.proofs.lemmas.Bool.{cases_eq}
use Rattle.mixer_spec.specs.Setups.{Setup}
use Rattle.mixer_spec.specs.Table.{Table, Call, departed, stopped, entered}
use Rattle.mixer_spec.specs.Plain.{goes, goes_below, comes_below, offers, offers_below}
use Rattle.mixer_spec.proofs.Lists.{set_same, set_other}
use Rattle.mix_loop.specs.declared.ports.Port.{Port}
use Rattle.mix_loop.specs.Items.{Gave, is_open}
use Rattle.mix_loop.specs.Mixers.{At}
use Rattle.mix_loop.specs.Ports.{SeatAt, SeatsKept, StaysAs, OnlySeat, SameSeat, PortIsSound, PortHolds, Gathered, GatheredTo, hand_of, is_away, is_to_leave}
use Rattle.mix_loop.specs.Turns.{Known, AreSound, KnownAt, IsNow, BecomesBy, GoesBy, OffersBy, Settled, comes}
use Rattle.mix_loop.proofs.Lists.{get_there, get_within, get_set_other}
use Rattle.mix_loop.proofs.Places.{stopped_kept, departed_kept, entered_kept}
use Rattle.mix_loop.proofs.Reaching.{seated, goes_one, comes_one, offers_one, settled_same, kept_more, no_others, becomes_none, becomes_more, known_on}
use Rattle.stream_spec.proofs.Plain.{get_set_same}

-- ---- ports that are sound
module _ {I F : Type 0} (good : I → Type 0) where
  -- one that is read at an index
  pub sound_read : (ps : List (Port I F)) (i : ℕ) (x : Port I F) → AreSound good ps → i < length ps → PortIsSound good i (get_or ps i x)
  sound_read ps i x a low = a i (get_or ps i x) (get_there ps i x low)

  pub sound_set : (ps : List (Port I F)) (i : ℕ) (q : Port I F) → AreSound good ps → i < length ps → PortIsSound good i q → AreSound good (set ps i q)
  sound_set ps i q a low sound j r e = elim (cases_eq j i) [
    | inl same ↦
        let same_port : Some q ≡ Some r = sym (get_set_same ps i q low) ∙ (ap (slice_get (set ps i q)) (sym same) ∙ e) in
        let is : q ≡ r = cc same_port in
        subst (λ (v : ℕ × Port I F). PortIsSound good v.0 v.1) (λ ι. (sym same ι, is ι)) sound
    | inr other ↦ a j r (sym (get_set_other ps i q j other) ∙ e)
  ]

  -- a port whose seat alone is another
  pub sound_seat : (ps : List (Port I F)) (i : ℕ) (p q : Port I F) → AreSound good ps → slice_get ps i ≡ Some p → OnlySeat p q → AreSound good (set ps i q)
  sound_seat ps i p q a e only =
      let r = a i p e in
      sound_set ps i q a (get_within ps i p e) (subst (λ (x : Port I F). PortIsSound good i x) (sym only) (record { asked = r.asked; hand = r.hand }))

pub only_more : {I F : Type 0} (p q r : Port I F) → OnlySeat p q → OnlySeat q r → OnlySeat p r
only_more {I} {F} p q r a b = b ∙ ap (λ (x : Port I F). record x { seat = r.seat }) a

module _ {I F M : Type 0} (stands : I → I → Gave F → Type 0) (mixes : M → Setup → List Call → Type 0) (s : Setup) (firsts : List I) (kn : ℕ → Known F) (table : Table) (t : ℕ) where
  -- what is known of a port whose seat is another
  seat_known : (i : ℕ) (p q : Port I F) (k : Known F) → KnownAt stands s firsts i p k → OnlySeat p q → KnownAt stands s firsts i q (seated k q.seat)
  seat_known i p q k h only = subst (λ (x : Port I F). KnownAt stands s firsts i x (seated k q.seat)) (sym only) (record {
    first = h.first;
    of = h.of;
    holds = record { whole = h.holds.whole; gives = h.holds.gives; is = h.holds.is; ended = h.holds.ended };
    hand = h.hand;
    seat = refl;
    stays = record { from = h.stays.from; until = h.stays.until };
  })

  cond_kept : (i : ℕ) (u : Table) (b : Bool) → SeatsKept i u.seats (cond {A = Table} b (departed s i u) u).seats
  cond_kept i u true = departed_kept s i u
  cond_kept i u false = no_others i u.seats u.seats refl

  pub go_none : (ps : List (Port I F)) (m : M) → IsNow stands mixes s firsts kn table ps m → Settled kn → GoesBy stands mixes s firsts (goes_below s t 0) kn table ps m
  go_none ps m n settled = record { becomes = becomes_none stands s firsts mixes kn table ps m n; settled = settled }

  module _ (i : ℕ) (ps : List (Port I F)) (m : M) (p q r : Port I F) (m1 m2 : M) (at : slice_get ps i ≡ Some p) where
    low : i < length ps
    low = get_within ps i p at

    pub go_more : GoesBy stands mixes s firsts (goes_below s t i) kn table ps m
        → OnlySeat p q → is_away q.seat ≡ is_away p.seat
        → ((s : Setup) (table : Table) → StaysAs s i p → SeatAt table.seats i p.seat → At mixes m s table → At mixes m1 s (stopped s i t table) × SeatAt (stopped s i t table).seats i q.seat)
        → OnlySeat q r → is_away r.seat ≡ is_away q.seat
        → ((s : Setup) (table : Table) → SeatAt table.seats i q.seat → At mixes m1 s table → At mixes m2 s (cond {A = Table} (is_to_leave q) (departed s i table) table) × SeatAt (cond {A = Table} (is_to_leave q) (departed s i table) table).seats i r.seat)
        → GoesBy stands mixes s firsts (goes_below s t (i + 1)) kn table (set ps i r) m2
    go_more b only away stops only' away' leaves =
        let n = b.becomes.now in
        let before = b.becomes.table' in
        let x = b.becomes.kn' i in
        let k = n.known i p at in
        let below : i < s.legs = (let e = n.legs in let l = low in omega (arith, e, l)) in
        let seat : SeatAt before.seats i p.seat = subst (SeatAt before.seats i) (sym k.seat) (n.seats i below) in
        let u = stopped s i t before in
        let st = stops s before k.stays seat n.mixed in
        let lv = leaves s u st.1 st.0 in
        let after = cond {A = Table} (is_to_leave q) (departed s i u) u in
        let same_away : is_away q.seat ≡ is_away x.seat = away ∙ ap is_away k.seat in
        let more : suc i ≡ i + 1 = omega arith in
        subst (λ (j : ℕ). GoesBy stands mixes s firsts (goes_below s t j) kn table (set ps i r) m2) more (record {
          becomes = becomes_more stands s firsts mixes (goes_below s t i) (goes s t i) kn table ps m m2 i r b.becomes (seated x r.seat) after low
              (seat_known i p r x k (only_more p q r only only'))
              (kept_more i before.seats u.seats after.seats (stopped_kept s i t before) (cond_kept i u (is_to_leave q)))
              lv.1 lv.0
              (goes_one b.becomes.kn' i r.seat s t before q b.settled (ap hand_of only ∙ k.hand) (ap (λ (y : Port I F). y.ended) only ∙ k.holds.ended) same_away st.1);
          settled = settled_same b.becomes.kn' i r.seat b.settled (away' ∙ same_away);
        })

    pub come_more : BecomesBy stands mixes s firsts (comes_below s t i) kn table ps m
        → OnlySeat p r
        → ((s : Setup) (table : Table) → i < s.legs → StaysAs s i p → SeatAt table.seats i p.seat → At mixes m s table → At mixes m2 s (entered s i t table) × SeatAt (entered s i t table).seats i r.seat)
        → BecomesBy stands mixes s firsts (comes_below s t (i + 1)) kn table (set ps i r) m2
    come_more b only comes_in =
        let n = b.now in
        let x = b.kn' i in
        let k = n.known i p at in
        let below : i < s.legs = (let e = n.legs in let l = low in omega (arith, e, l)) in
        let seat : SeatAt b.table'.seats i p.seat = subst (SeatAt b.table'.seats i) (sym k.seat) (n.seats i below) in
        let c = comes_in s b.table' below k.stays seat n.mixed in
        let more : suc i ≡ i + 1 = omega arith in
        subst (λ (j : ℕ). BecomesBy stands mixes s firsts (comes_below s t j) kn table (set ps i r) m2) more
        (becomes_more stands s firsts mixes (comes_below s t i) (comes s t i) kn table ps m m2 i r b (seated x r.seat) (entered s i t b.table') low
        (seat_known i p r x k only) (entered_kept s i t b.table') c.1 c.0 (comes_one b.kn' i r.seat s t b.table'))

    pub offer_more : OffersBy stands mixes s firsts i (offers_below s t i) kn table ps m → SameSeat p r
        → ((s : Setup) (table : Table) (first : I) (gave : Gave F) → PortHolds stands i first p gave → At mixes m s table → GatheredTo stands mixes s i t first gave (hand_of p) table r m2)
        → OffersBy stands mixes s firsts (i + 1) (offers_below s t (i + 1)) kn table (set ps i r) m2
    offer_more b same gathers =
        let n = b.becomes.now in
        let before = b.becomes.table' in
        let x = b.becomes.kn' i in
        let k = n.known i p at in
        let below : i < s.legs = (let e = n.legs in let l = low in omega (arith, e, l)) in
        let g = gathers s before k.first x.gave k.holds n.mixed in
        let y : Known F = record { gave = g.gave'; hand = hand_of r; seat = x.seat } in
        let gathered : Gathered s i t x.gave x.hand before y.gave y.hand g.table' =
        subst (λ h. Gathered s i t x.gave h before y.gave y.hand g.table') k.hand g.gathers in
        let seat : SeatAt g.table'.seats i x.seat = subst (λ z. SeatAt z i x.seat) (sym gathered.seats) (n.seats i below) in
        let more : suc i ≡ i + 1 = omega arith in
        let known = known_on stands s firsts i p r x k g.gave' same g.holds in
        let still : (j : ℕ) → (j ≡ i → ⊥) → j < suc i → j < i = λ j other less. omega (arith, other, less) in
        subst (λ (j : ℕ). OffersBy stands mixes s firsts j (offers_below s t j) kn table (set ps i r) m2) more (record {
          becomes = becomes_more stands s firsts mixes (offers_below s t i) (offers s t i) kn table ps m m2 i r b.becomes y g.table' low known
              (no_others i before.seats g.table'.seats gathered.seats) seat g.mixed (offers_one s t i b.becomes.kn' y before g.table' gathered);
          settled = λ j less. elim (cases_eq j i) [
            | inl here ↦ subst (λ (z : Known F). z.hand ≡ None → is_open z.gave.ended ≡ false) (sym (set_same b.becomes.kn' i y j here)) gathered.settled
            | inr other ↦ subst (λ (z : Known F). z.hand ≡ None → is_open z.gave.ended ≡ false) (sym (set_other b.becomes.kn' i y j other)) (b.settled j (still j other less))
          ];
        })
