-- Where nothing is done before a turn, all is as it was.
use Rattle.std.proofs.Common.{◌≡◌, ◌<◌, ◌≤◌, ℕ, zero, suc, Bool, true, false, cond, not, Option, Some, None, List, [], ◌∷◌, ◌++◌, refl, ap, sym, subst, ◌∙◌, arith}
use Rattle.std.specs.Prelude.{◌&&◌, slice_get}
use Rattle.std.proofs.lemmas.Bool.{lt-leb}
use Rattle.stream_spec.specs.Ready.{Chunk, chunk_of}
use Rattle.mixer_spec.specs.Setups.{Setup, is_before_end}
use Rattle.mixer_spec.specs.Table.{Table, Call, departed, entered, given, has_room, is_idle, stopped}
use Rattle.mixer_spec.specs.Legs.{held}
use Rattle.mixer_spec.specs.Core.{gone}
use Rattle.mixer_spec.specs.Plain.{Desk, left_over, table_after, goes, goes_below, comes_below, offers, offers_below, before_turn}
use Rattle.mix_loop.specs.declared.ports.SeatState.TheVariants.{Listens}
use Rattle.mix_loop.specs.declared.ports.Port.{Port}
use Rattle.mix_loop.specs.declared.turns.Before.TheVariants as before
use Rattle.mix_loop.specs.Items.{Gave, is_open}
use Rattle.mix_loop.specs.Ports.{SeatAt, hand_with, is_away}
use Rattle.mix_loop.specs.Calm.{IsCalm, AreCalm}
use Rattle.mix_loop.specs.Turns.{Known, desk_of, MayComeAll, IsNow, KnownAt, OffersBy, SettlesBy, comes}
use Rattle.mix_loop.proofs.Lists.{set_still}
use Rattle.mix_loop.proofs.Places.{stopped_still, entered_still, entered_early}
use Rattle.mix_loop.proofs.Reaching.{gone_is}
use Rattle.mix_loop.proofs.Turning.{finds_going}
use Rattle.stream_spec.proofs.Plain.{get_at}

-- of these chunks none is ready
none_taken : (s : Setup) (i t : ℕ) (table : Table) (hand : Option Chunk) (rest : List Chunk) → ((c : Chunk) → hand ≡ Some c → t < c.ready) → (hand ≡ None → rest ≡ [])
    → (left_over s i t table (held hand ++ rest) ≡ held hand ++ rest) × (table_after s i t table (held hand ++ rest) ≡ table)
none_taken s i t table None rest early none = (ap (left_over s i t table) (none refl) ∙ sym (none refl), ap (table_after s i t table) (none refl))
none_taken s i t table (Some c) rest early none =
    let e = lt-leb c.ready t (early c refl) in (
      ap (λ b. cond {A = List Chunk} (b && has_room s i c table) (left_over s i t (given i c table) rest) (c ∷ rest)) e,
      ap (λ b. cond {A = Table} (b && has_room s i c table) (table_after s i t (given i c table) rest) table) e,
    )

-- what is in a hand
empty_is : (full : Bool) (c : Chunk) → hand_with full c ≡ None → full ≡ false
empty_is true c e = absurd (cc e)
empty_is false c e = refl

full_is : (full : Bool) (c d : Chunk) → hand_with full c ≡ Some d → (full ≡ true) × (c ≡ d)
full_is true c d e = (refl, cc e)
full_is false c d e = absurd (cc e)

module _ {I F M : Type 0} (stands : I → I → Gave F → Type 0) (mixes : M → Setup → List Call → Type 0) (s : Setup) (firsts : List I) (t : ℕ) (kn : ℕ → Known F) (table : Table) (ps : List (Port I F)) (m : M)
    (n : IsNow stands mixes s firsts kn table ps m) (calm : AreCalm t ps) where
  -- ---- one leg
  module _ (i : ℕ) (low : i < s.legs) where
    port : (p : Port I F) × (slice_get ps i ≡ Some p)
    port = get_at ps i (let e = n.legs in omega (arith, e, low))

    known : KnownAt stands s firsts i port.0 (kn i)
    known = n.known i port.0 port.1

    is_calm : IsCalm t port.0
    is_calm = calm.each i port.0 port.1

    seat : SeatAt table.seats i port.0.seat
    seat = subst (SeatAt table.seats i) (sym known.seat) (n.seats i low)

    ended : (kn i).hand ≡ None → is_open (kn i).gave.ended ≡ false
    ended e = ap is_open (sym known.holds.ended) ∙ is_calm.ended (empty_is port.0.full (chunk_of port.0.hand) (known.hand ∙ e))

    early : (c : Chunk) → (kn i).hand ≡ Some c → t < c.ready
    early c e =
        let f = full_is port.0.full (chunk_of port.0.hand) c (known.hand ∙ e) in
        let r = is_calm.waits f.0 in
        let same : port.0.hand.ready ≡ c.ready = ap (λ (x : Chunk). x.ready) f.1 in
        omega (arith, r, same)

    comes_not : entered s i t table ≡ table
    comes_not = go (is_away port.0.seat) refl
      where
        go : (b : Bool) → is_away port.0.seat ≡ b → entered s i t table ≡ table
        go true e = entered_early s i t table (let f = known.stays.from in let l = is_calm.early e in lt-leb (s.from i) t (omega (arith, f, l)))
        go false e = entered_still s i t table port.0.seat seat e

    stops_not : stopped s i t table ≡ table
    stops_not = stopped_still s i t table port.0.seat seat (ap (λ o. elim port.0.seat as (λ x. Bool) [ Listens ↦ not (is_before_end t o) | _ ↦ false ]) known.stays.until ∙ is_calm.stays)

    module _ (rest : ℕ → List Chunk) (may : MayComeAll kn rest) where
      abbrev d : Desk
      d = desk_of kn rest table

      leaves_not : gone s i (d.left i) table ≡ table
      leaves_not =
          gone_is s i table port.0 seat (kn i).hand known.hand (rest i) (λ e. may i (sym (ap is_open known.holds.ended) ∙ e)) (λ a e. ap is_open known.holds.ended ∙ ended e)
          ∙ ap (λ b. cond {A = Table} b (departed s i table) table) is_calm.keeps

      goes_not : goes s t i d ≡ d
      goes_not = λ ι. record { left = d.left; table = (ap (gone s i (d.left i)) stops_not ∙ leaves_not) ι }

      offers_not : offers s t i d ≡ d
      offers_not =
          let r = none_taken s i t table (kn i).hand (rest i) early (λ e. may i (ended e)) in
          λ ι. record { left = set_still d.left i (left_over s i t table (d.left i)) (sym r.0) ι; table = r.1 ι }

  -- ---- all legs
  module _ (rest : ℕ → List Chunk) (may : MayComeAll kn rest) where
    abbrev all : Desk
    all = desk_of kn rest table

    none_goes : (k : ℕ) → k ≤ s.legs → goes_below s t k all ≡ all
    none_goes zero l = refl
    none_goes (suc k) l = ap (goes s t k) (none_goes k (omega (arith, l))) ∙ goes_not k (omega (arith, l)) rest may

    none_comes : (k : ℕ) → k ≤ s.legs → comes_below s t k all ≡ all
    none_comes zero l = refl
    none_comes (suc k) l = ap (comes s t k) (none_comes k (omega (arith, l))) ∙ (λ ι. record { left = all.left; table = comes_not k (omega (arith, l)) ι })

    none_offers : (k : ℕ) → k ≤ s.legs → offers_below s t k all ≡ all
    none_offers zero l = refl
    none_offers (suc k) l = ap (offers s t k) (none_offers k (omega (arith, l))) ∙ offers_not k (omega (arith, l)) rest may

    none_moves : before_turn s t all ≡ all
    none_moves =
        let whole : s.legs ≤ s.legs = omega arith in
        ap (λ (d : Desk). offers_below s t s.legs (comes_below s t s.legs d)) (none_goes s.legs whole)
        ∙ (ap (offers_below s t s.legs) (none_comes s.legs whole) ∙ none_offers s.legs whole)

  still : OffersBy stands mixes s firsts s.legs (before_turn s t) kn table ps m
  still = record {
    becomes = record { kn' = kn; table' = table; now = n; reaches = record { goes = λ rest may. (rest, may, refl, none_moves rest may) } };
    settled = λ j low. ended j low;
  }

  pub calm_settles : SettlesBy stands mixes s firsts before.Going (before_turn s t) kn table ps m
  calm_settles = finds_going stands mixes s firsts (before_turn s t) kn table ps m still false refl (λ s table a. sym (ap (λ b. b && is_idle s table) calm.some))
