-- What a leg's texts do on their way to the mixer.
use Rattle.std.proofs.Common.{not, ◌≡◌, ℕ, Bool, true, false, true≢false, cond, subst, Option, Some, None, List, [], ◌∷◌, ◌++◌, refl, ap, sym, ◌∙◌, append_assoc}
use Rattle.std.specs.Prelude.{◌&&◌, filter, map, nat_le}
use Rattle.std.proofs.lemmas.Bool.{and_parts}
use Rattle.std.proofs.lemmas.List.{map-append}
use Rattle.std.proofs.lemmas.List.Elements.{filter-append}
use Rattle.file_spec.specs.declared.conference_lines.Stay.{Stay}
use Rattle.file_spec.specs.Stays.{stays_at}
use Rattle.stream_spec.specs.Ready.{Chunk, chunk_of}
use Rattle.mixer_spec.specs.Setups.{Setup}
use Rattle.mixer_spec.specs.Table.{Table, Call, Offer, given, offered, has_room, after_calls}
use Rattle.mixer_spec.specs.Core.{is_taken}
use Rattle.mixer_spec.specs.Plain.{left_over, table_after}
use Rattle.mixer_spec.proofs.Lists.{nil}
use Rattle.mix_loop.specs.declared.items.Item.{Item}
use Rattle.mix_loop.specs.declared.items.Item.TheVariants as item
use Rattle.mix_loop.specs.declared.items.TextsEnd.{TextsEnd}
use Rattle.mix_loop.specs.declared.items.TextsEnd.TheVariants.{Open, AtEnd, AtFault}
use Rattle.mix_loop.specs.declared.ports.Port.{Port}
use Rattle.mix_loop.specs.Items.{Gave, IsOf, IsSaid, ended_by, gave_more, goes_on, is_chunk, is_open}
use Rattle.mix_loop.specs.Addresses.{Address}
use Rattle.mix_loop.specs.Mixers.{At, Keeps}
use Rattle.mix_loop.specs.Ports.{OnlyHand, PortIsSound, SameSeat, MayCome, Pulls, Gathers, Gathered, PortHolds, PulledTo, GatheringTo, GatheredTo, DrainedTo, counted, counts, hand_of, hand_with, mixed_of, of_leg}

open_is : {F : Type 0} (e : TextsEnd F) → is_open e ≡ true → e ≡ Open
open_is Open o = refl
open_is AtEnd o = absurd (true≢false (sym o))
open_is (AtFault f) o = absurd (true≢false (sym o))

-- ---- one answer
chunk_is : {F : Type 0} (x : Item F) → is_chunk x ≡ true → x ≡ item.Chunk
chunk_is item.Chunk e = refl
chunk_is item.Later e = absurd (true≢false (sym e))
chunk_is item.End e = absurd (true≢false (sym e))
chunk_is (item.Fault f) e = absurd (true≢false (sym e))

module _ {F : Type 0} where
  pub goes_open : (x : Item F) → is_open (ended_by x) ≡ true → goes_on x ≡ true
  goes_open item.Chunk o = refl
  goes_open item.Later o = refl
  goes_open item.End o = o
  goes_open (item.Fault f) o = o

  -- a text was handed out that counts
  pub counts_chunk : (x : Item F) (c : Chunk) (stay : Stay) → counts x c stay ≡ true → x ≡ item.Chunk
  counts_chunk x c stay e = chunk_is x (and_parts (is_chunk x) (stays_at c.ready stay) e).0

  pub ended_more : (x : Item F) (c : Chunk) (gave : Gave F) → is_open gave.ended ≡ true → ended_by x ≡ (gave_more x c gave).ended
  ended_more item.Chunk c gave o = sym (open_is gave.ended o)
  ended_more item.Later c gave o = sym (open_is gave.ended o)
  ended_more item.End c gave o = refl
  ended_more (item.Fault f) c gave o = refl

  not_closed : (e : TextsEnd F) (rest : List Chunk) → is_open e ≡ true → MayCome e rest
  not_closed e rest o = λ z. absurd (true≢false (sym o ∙ z))

pub said_of : (j : ℕ) (c : Chunk) → IsSaid c → IsOf j (of_leg j c)
said_of j c s = record { source = refl; text = s.text; utf8 = s.utf8 }

-- one more chunk, by whether it is ready within the stay
mixed_push : (j : ℕ) (stay : Stay) (cs : List Chunk) (c : Chunk) (b : Bool) → stays_at c.ready stay ≡ b → mixed_of j stay (cs ++ c ∷ []) ≡ mixed_of j stay cs ++ cond b (of_leg j c ∷ []) []
mixed_push j stay cs c b e =
    let p : Chunk → Bool = λ c. stays_at c.ready stay in
    ap (map (of_leg j)) (filter-append p cs (c ∷ []))
    ∙ (map-append (of_leg j) (filter p cs) (filter p (c ∷ []))
    ∙ ap (λ xs. mixed_of j stay cs ++ xs) (ap (λ b. map (of_leg j) (cond b (c ∷ []) [])) e ∙ one b))
  where
    one : (b : Bool) → map (of_leg j) (cond b (c ∷ []) []) ≡ cond b (of_leg j c ∷ []) []
    one true = refl
    one false = refl

-- one answer more, where this counts of what was given
pub pulls_item : {F : Type 0} (j : ℕ) (stay : Stay) (x : Item F) (c : Chunk) (whole : Gave F) → is_open whole.ended ≡ true
    → Pulls (counted j stay whole) None (counted j stay (gave_more x c whole)) (hand_with (counts x c stay) (of_leg j c))
pulls_item {F} j stay item.Chunk c whole o = go (stays_at c.ready stay) refl
  where
    before : List Chunk
    before = mixed_of j stay whole.chunks

    go : (b : Bool) → stays_at c.ready stay ≡ b → Pulls (counted j stay whole) None (counted j stay (gave_more item.Chunk c whole)) (hand_with (true && b) (of_leg j c))
    go true e = record {
      goes = λ rest may.
          (of_leg j c ∷ rest, not_closed whole.ended (of_leg j c ∷ rest) o, sym (ap (λ xs. xs ++ rest) (mixed_push j stay whole.chunks c true e) ∙ append_assoc before (of_leg j c ∷ []) rest), refl);
    }
    go false e = record { goes = λ rest may. (rest, not_closed whole.ended rest o, sym (ap (λ xs. xs ++ rest) (mixed_push j stay whole.chunks c false e ∙ nil before)), refl) }
pulls_item j stay item.Later c whole o = record { goes = λ rest may. (rest, may, refl, refl) }
pulls_item j stay item.End c whole o = record { goes = λ rest may. (rest, not_closed whole.ended rest o, refl, refl) }
pulls_item j stay (item.Fault f) c whole o = record { goes = λ rest may. (rest, not_closed whole.ended rest o, refl, refl) }

-- ---- an offer
gathers_none : {F : Type 0} (s : Setup) (i t : ℕ) (gave : Gave F) (hand : Option Chunk) (table : Table) → Gathers s i t gave hand table gave hand table
gathers_none s i t gave hand table = record { goes = λ rest may. (rest, may, refl, refl, refl); seats = refl }

gathers_pull : {F : Type 0} (s : Setup) (i t : ℕ) (gave gave1 gave2 : Gave F) (hand hand1 hand2 : Option Chunk) (table table1 : Table)
    → Gathers s i t gave hand table gave1 hand1 table1 → Pulls gave1 hand1 gave2 hand2 → Gathers s i t gave hand table gave2 hand2 table1
gathers_pull s i t gave gave1 gave2 hand hand1 hand2 table table1 g p = record {
  goes = λ rest may.
      let q = p.goes rest may in
      let r = g.goes q.0 q.1 in
      (r.0, r.1, r.2 ∙ q.2, r.3 ∙ ap (left_over s i t table1) q.3, r.4 ∙ ap (table_after s i t table1) q.3);
  seats = g.seats;
}

left_taken : (s : Setup) (i t : ℕ) (table : Table) (c : Chunk) (cs : List Chunk) → is_taken s i t table c ≡ true → left_over s i t table (c ∷ cs) ≡ left_over s i t (given i c table) cs
left_taken s i t table c cs e = rw e refl

table_taken : (s : Setup) (i t : ℕ) (table : Table) (c : Chunk) (cs : List Chunk) → is_taken s i t table c ≡ true → table_after s i t table (c ∷ cs) ≡ table_after s i t (given i c table) cs
table_taken s i t table c cs e = rw e refl

left_kept : (s : Setup) (i t : ℕ) (table : Table) (c : Chunk) (cs : List Chunk) → is_taken s i t table c ≡ false → left_over s i t table (c ∷ cs) ≡ c ∷ cs
left_kept s i t table c cs e = rw e refl

table_kept : (s : Setup) (i t : ℕ) (table : Table) (c : Chunk) (cs : List Chunk) → is_taken s i t table c ≡ false → table_after s i t table (c ∷ cs) ≡ table
table_kept s i t table c cs e = rw e refl

gathers_take : {F : Type 0} (s : Setup) (i t : ℕ) (gave gave1 : Gave F) (hand : Option Chunk) (table table1 : Table) (c : Chunk)
    → Gathers s i t gave hand table gave1 (Some c) table1 → is_taken s i t table1 c ≡ true → Gathers s i t gave hand table gave1 None (given i c table1)
gathers_take s i t gave gave1 hand table table1 c g e = record {
  goes = λ rest may.
      let r = g.goes rest may in
      (r.0, r.1, r.2, r.3 ∙ left_taken s i t table1 c rest e, r.4 ∙ table_taken s i t table1 c rest e);
  seats = g.seats;
}

gathered_kept : {F : Type 0} (s : Setup) (i t : ℕ) (gave gave1 : Gave F) (hand : Option Chunk) (table table1 : Table) (c : Chunk)
    → Gathers s i t gave hand table gave1 (Some c) table1 → is_taken s i t table1 c ≡ false → Gathered s i t gave hand table gave1 (Some c) table1
gathered_kept s i t gave gave1 hand table table1 c g e = record {
  goes = λ rest may.
      let r = g.goes rest may in
      (r.0, r.1, r.2, r.3 ∙ left_kept s i t table1 c rest e, r.4 ∙ table_kept s i t table1 c rest e);
  seats = g.seats;
  settled = λ n. absurd (cc n);
}

gathered_end : {F : Type 0} (s : Setup) (i t : ℕ) (gave gave1 : Gave F) (hand : Option Chunk) (table table1 : Table)
    → Gathers s i t gave hand table gave1 None table1 → is_open gave1.ended ≡ false → Gathered s i t gave hand table gave1 None table1
gathered_end s i t gave gave1 hand table table1 g e = record {
  goes = λ rest may.
      let r = g.goes rest may in
      let n : rest ≡ [] = may e in
      (r.0, r.1, r.2, r.3 ∙ (ap (left_over s i t table1) n ∙ sym n), r.4 ∙ ap (table_after s i t table1) n);
  seats = g.seats;
  settled = λ n. e;
}

-- ---- an offer, by the mixer's calls
module _ {M : Type 0} (mixes : M → Setup → List Call → Type 0) (s : Setup) (t : ℕ) (table : Table) (c : Chunk) (old new : M) (at_old : At mixes old s table) where
  -- it is not ready yet
  pub not_ready : nat_le c.ready t ≡ false → (false ≡ is_taken s c.source t table c) × At mixes old s table
  not_ready e = (sym (ap (λ b. b && has_room s c.source c table) e), at_old)

  pub offers : (r : Bool) → nat_le c.ready t ≡ true → ((s : Setup) (calls : List Call) → mixes old s calls → mixes new s (Offer c ∷ calls) × (r ≡ has_room s c.source c (after_calls s calls)))
      → (r ≡ is_taken s c.source t table c) × At mixes new s (cond {A = Table} r (given c.source c table) table)
  offers r e made =
      let m = made s at_old.calls at_old.made in
      let room : r ≡ has_room s c.source c table = m.1 ∙ ap (has_room s c.source c) at_old.leads in (
        room ∙ sym (ap (λ b. b && has_room s c.source c table) e),
        record { calls = Offer c ∷ at_old.calls; made = m.0; leads = ap (offered s c.source c) at_old.leads ∙ ap (λ b. cond {A = Table} b (given c.source c table) table) (sym room) },
      )

-- ---- what stays the same
pub keeps_none : {M : Type 0} (legs turns : M → ℕ) (addresses : M → List Address) (m : M) → Keeps legs turns addresses m m
keeps_none legs turns addresses m = record { legs = refl; turns = refl; addresses = refl }

pub keeps_more : {M : Type 0} (legs turns : M → ℕ) (addresses : M → List Address) (a b c : M) → Keeps legs turns addresses a b → Keeps legs turns addresses b c → Keeps legs turns addresses a c
keeps_more legs turns addresses a b c x y = record { legs = y.legs ∙ x.legs; turns = y.turns ∙ x.turns; addresses = y.addresses ∙ x.addresses }

pub seats_none : {I F : Type 0} (p : Port I F) → SameSeat p p
seats_none p = record { stay = refl; seat = refl }

pub seats_more : {I F : Type 0} (p q r : Port I F) → SameSeat p q → SameSeat q r → SameSeat p r
seats_more p q r x y = record { stay = y.stay ∙ x.stay; seat = y.seat ∙ x.seat }

-- ---- the port
abbrev pub chunk_in : {I F : Type 0} → Port I F → Chunk
chunk_in p = chunk_of p.hand

module _ {I F M : Type 0} (stands : I → I → Gave F → Type 0) (mixes : M → Setup → List Call → Type 0) (s : Setup) (i t : ℕ) (first : I) (gave : Gave F) (hand : Option Chunk) (table : Table) where
  pub to_none : (p : Port I F) (m : M) → PortHolds stands i first p gave → At mixes m s table → hand_of p ≡ hand → GatheringTo stands mixes s i t first gave hand table p m
  to_none p m h a e = record { gave' = gave; table' = table; holds = h; mixed = a; gathers = subst (λ (o : Option Chunk). Gathers s i t gave hand table gave o table) (sym e) (gathers_none s i t gave hand table) }

  pub to_pull : (p q : Port I F) (m : M) → GatheringTo stands mixes s i t first gave hand table p m → ((gave : Gave F) → PortHolds stands i first p gave → PulledTo stands i first (hand_of p) gave q)
      → GatheringTo stands mixes s i t first gave hand table q m
  to_pull p q m g k =
      let x = k g.gave' g.holds in
      record {
        gave' = x.gave';
        table' = g.table';
        holds = x.holds;
        mixed = g.mixed;
        gathers = gathers_pull s i t gave g.gave' x.gave' hand (hand_of p) (hand_of q) table g.table' g.gathers x.pulls;
      }

  pub to_end : (p : Port I F) (m : M) → GatheringTo stands mixes s i t first gave hand table p m → p.full ≡ false → is_open p.ended ≡ false → GatheredTo stands mixes s i t first gave hand table p m
  to_end p m g e o =
      let empty : hand_of p ≡ None = ap (λ b. hand_with b (chunk_in p)) e in
      record {
        gave' = g.gave';
        table' = g.table';
        holds = g.holds;
        mixed = g.mixed;
        gathers = subst (λ (h : Option Chunk). Gathered s i t gave hand table g.gave' h g.table') (sym empty)
            (gathered_end s i t gave g.gave' hand table g.table' (subst (λ (h : Option Chunk). Gathers s i t gave hand table g.gave' h g.table') empty g.gathers) (ap is_open (sym g.holds.ended) ∙ o));
      }

  -- the text in hand, of this leg, was offered
  module _ (p : Port I F) (m m' : M) (g : GatheringTo stands mixes s i t first gave hand table p m) (full : p.full ≡ true) (of : (chunk_in p).source ≡ i) (r : Bool)
      (k : (s : Setup) (table : Table) → At mixes m s table → (r ≡ is_taken s (chunk_in p).source t table (chunk_in p)) × At mixes m' s (cond {A = Table} r (given (chunk_in p).source (chunk_in p) table) table)) where
    abbrev c : Chunk
    c = chunk_in p

    in_hand : hand_of p ≡ Some c
    in_hand = ap (λ b. hand_with b c) full

    so_far : Gathers s i t gave hand table g.gave' (Some c) g.table'
    so_far = subst (λ (h : Option Chunk). Gathers s i t gave hand table g.gave' h g.table') in_hand g.gathers

    is : r ≡ is_taken s i t g.table' c
    is = (k s g.table' g.mixed).0 ∙ ap (λ j. is_taken s j t g.table' c) of

    pub to_kept : r ≡ false → (q : Port I F) → OnlyHand p q → q.full ≡ not r → GatheredTo stands mixes s i t first gave hand table q m'
    to_kept e q only now_full =
        let same : q ≡ p = only ∙ ap (λ b. record p { full = b }) (now_full ∙ (ap not e ∙ sym full)) in
        subst (λ (x : Port I F). GatheredTo stands mixes s i t first gave hand table x m') (sym same) (record {
          gave' = g.gave';
          table' = g.table';
          holds = g.holds;
          mixed = subst (λ (b : Bool). At mixes m' s (cond {A = Table} b (given c.source c g.table') g.table')) e (k s g.table' g.mixed).1;
          gathers = subst (λ (h : Option Chunk). Gathered s i t gave hand table g.gave' h g.table') (sym in_hand) (gathered_kept s i t gave g.gave' hand table g.table' c so_far (sym is ∙ e));
        })

    pub to_take : r ≡ true → (q : Port I F) → OnlyHand p q → q.full ≡ not r → GatheringTo stands mixes s i t first gave hand table q m'
    to_take e q only now_full =
        let same : q ≡ record p { full = false } = only ∙ ap (λ b. record p { full = b }) (now_full ∙ ap not e) in
        subst (λ (x : Port I F). GatheringTo stands mixes s i t first gave hand table x m') (sym same) (record {
          gave' = g.gave';
          table' = given i c g.table';
          holds = record { whole = g.holds.whole; gives = g.holds.gives; is = g.holds.is; ended = g.holds.ended };
          mixed = subst (λ (j : ℕ). At mixes m' s (given j c g.table')) of (subst (λ (b : Bool). At mixes m' s (cond {A = Table} b (given c.source c g.table') g.table')) e (k s g.table' g.mixed).1);
          gathers = gathers_take s i t gave g.gave' hand table g.table' c so_far (sym is ∙ e);
        })

-- a port of which the hand alone is another
pub hand_sound : {I F : Type 0} (good : I → Type 0) (j : ℕ) (p q : Port I F) (full : p.full ≡ true) → PortIsSound good j p → OnlyHand p q → PortIsSound good j q
hand_sound {I} {F} good j p q full h only = subst (λ (x : Port I F). PortIsSound good j x) (sym only) (record { asked = h.asked; hand = λ f. h.hand full })

pub hand_seat : {I F : Type 0} (p q : Port I F) → OnlyHand p q → SameSeat p q
hand_seat {I} {F} p q only = record { stay = ap (λ (x : Port I F). x.stay) only; seat = ap (λ (x : Port I F). x.seat) only }

-- ---- without looking at what comes
module _ {I F : Type 0} (stands : I → I → Gave F → Type 0) (j : ℕ) (first : I) (gave : Gave F) where
  pub drained_none : (p : Port I F) → PortHolds stands j first p gave → DrainedTo stands j first gave p
  drained_none p h = record { gave' = gave; holds = h; grows = record { goes = λ rest may. (rest, may, refl); kept = λ e. refl } }

  pub drained_pull : (p q r : Port I F) → DrainedTo stands j first gave p → is_open p.ended ≡ true → q ≡ record p { full = false }
      → ((gave : Gave F) → PortHolds stands j first q gave → PulledTo stands j first (hand_of q) gave r) → DrainedTo stands j first gave r
  drained_pull p q r g o same k =
      let h = g.holds in
      let x = k g.gave' (subst (λ (y : Port I F). PortHolds stands j first y g.gave') (sym same) (record { whole = h.whole; gives = h.gives; is = h.is; ended = h.ended })) in
      record {
        gave' = x.gave';
        holds = x.holds;
        grows = record {
          goes = λ rest may.
              let y = x.pulls.goes rest may in
              let z = g.grows.goes y.0 y.1 in
              (z.0, z.1, z.2 ∙ y.2);
          kept = λ e. absurd (true≢false (sym o ∙ (ap is_open (g.holds.ended ∙ ap (λ (v : Gave F). v.ended) (g.grows.kept e)) ∙ e)));
        };
      }
