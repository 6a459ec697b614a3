-- A leg's chunk is offered.
use Rattle.std.proofs.Common.{◌≡◌, ℕ, ◌≤◌, true, false, cond, Some, None, List, [], ◌∷◌, ◌++◌, refl, ap, sym, ◌∙◌, not, arith}
use Rattle.std.specs.Prelude.{Bool, Option, if◌then◌else◌}
use Rattle.std.proofs.lemmas.Bool.{eq-eqb}
use Rattle.std.proofs.lemmas.List.{append-nil}
use Rattle.stream_spec.specs.Ready.{Chunk, chunk_of}
use Rattle.mixer_spec.specs.Setups.{Setup}
use Rattle.mixer_spec.specs.Table.{Call, Offer, Table, Taken, after_calls, chunks_taken, given, has_room, is_given, offered}
use Rattle.mixer_spec.specs.Calls.{took}
use Rattle.mixer_spec.specs.Legs.{held}
use Rattle.mixer_spec.proofs.Lists.{set_same}
use Rattle.mixer_spec.proofs.Legs.{chunks_more}
use Rattle.live_leg.specs.LinkLegs.{Item}
use Rattle.live_leg.specs.Items.{signals_in, texts_in}
use Rattle.live_leg.proofs.Texts.{texts_append}
use Rattle.live_spec.specs.Live.{is_held_back}
use Rattle.mix_loop.specs.declared.live_ports.LivePort.{LivePort}
use Rattle.mix_loop.specs.Handed.{HasSignals, hand_after, has_end, is_blocked_after}
use Rattle.mix_loop.specs.LivePorts.{PortAt, hand_of}
use Rattle.mix_loop.proofs.Enough.{end_none, signals_more}

-- ---- by the calls
module _ (s : Setup) (calls : List Call) (c : Chunk) (i : ℕ) (own : c.source ≡ i) where
  abbrev pub room : Bool
  room = has_room s c.source c (after_calls s calls)

  pub taken_is : room ≡ true → offered s c.source c (after_calls s calls) ≡ given c.source c (after_calls s calls)
  taken_is e = ap (λ b. cond {A = Table} b (given c.source c (after_calls s calls)) (after_calls s calls)) e

  pub kept_is : room ≡ false → offered s c.source c (after_calls s calls) ≡ after_calls s calls
  kept_is e = ap (λ b. cond {A = Table} b (given c.source c (after_calls s calls)) (after_calls s calls)) e

  pub took_taken : room ≡ true → took s i (Offer c ∷ calls) ≡ took s i calls ++ c ∷ []
  took_taken e =
      let t = after_calls s calls in
      let now : Taken = record { chunk = c; given = is_given t.seats c.source } in
      ap (λ (x : Table). chunks_taken (x.taken i)) (taken_is e)
      ∙ (ap chunks_taken (set_same t.taken c.source (t.taken c.source ++ now ∷ []) i (sym own))
      ∙ (chunks_more (t.taken c.source) now ∙ ap (λ n. chunks_taken (t.taken n) ++ c ∷ []) own))

  pub took_kept : room ≡ false → took s i (Offer c ∷ calls) ≡ took s i calls
  took_kept e = ap (λ (x : Table). chunks_taken (x.taken i)) (kept_is e)

  hand_is : (b : Bool) → room ≡ b → hand_after s i (Offer c ∷ calls) ≡ (if b then None else Some c)
  hand_is b e =
      ap (λ t. cond {A = Option Chunk} t (if has_room s i c (after_calls s calls) then None else Some c) (hand_after s i calls)) (eq-eqb c.source i own)
      ∙ ap (λ r. if r then None else Some c) (ap (λ n. has_room s n c (after_calls s calls)) (sym own) ∙ e)

  pub hand_taken : room ≡ true → hand_after s i (Offer c ∷ calls) ≡ None
  hand_taken e = hand_is true e

  pub hand_kept : room ≡ false → hand_after s i (Offer c ∷ calls) ≡ Some c
  hand_kept e = hand_is false e

  -- a chunk that is not taken blocks the next turn
  pub blocks : room ≡ false → is_blocked_after s i (Offer c ∷ calls) ≡ true
  blocks e =
      ap (λ (h : Option Chunk). is_held_back s (after_calls s (Offer c ∷ calls)) i h) (hand_kept e)
      ∙ (ap (λ (t : Table). not (has_room s i c t)) (kept_is e) ∙ ap not (ap (λ n. has_room s n c (after_calls s calls)) (sym own) ∙ e))

-- ---- by the port
module _ {I : Type 0} (popped : I → List Item) (s : Setup) (calls : List Call) (i n : ℕ) where
  -- the text behind the others was offered
  pub offered_at : (c : Chunk) (before tail : List Item) (p : LivePort I) (taken : Bool) → c.source ≡ i → popped p.inlet ≡ before ++ tail → texts_in i before ≡ took s i calls → texts_in i tail ≡ c ∷ []
      → chunk_of p.hand ≡ c → p.full ≡ not taken → taken ≡ has_room s c.source c (after_calls s calls) → p.ended ≡ has_end before → has_end tail ≡ false → HasSignals n before → PortAt popped s (Offer c ∷ calls) i (HasSignals n) p
  offered_at c before tail p true own items texts text hand full room ends goes enough = record {
    before = before ++ tail;
    tail = [];
    popped_are = items ∙ sym (append-nil (before ++ tail));
    taken = texts_append i before tail ∙ (ap (λ cs. cs ++ texts_in i tail) texts ∙ (ap (λ cs. took s i calls ++ cs) text ∙ sym (took_taken s calls c i own (sym room))));
    in_hand = ap (λ b. held (if b then Some (chunk_of p.hand) else None)) (sym full);
    hand_is = ap (λ b. if b then Some (chunk_of p.hand) else None) full ∙ sym (hand_taken s calls c i own (sym room));
    ended = ends ∙ sym (end_none before tail goes);
    goes_on = refl;
    enough = signals_more n n before tail (omega arith) enough;
  }
  offered_at c before tail p false own items texts text hand full room ends goes enough =
      let held_is : hand_of p ≡ Some c = ap (λ b. if b then Some (chunk_of p.hand) else None) full ∙ ap Some hand in
      record {
        before = before;
        tail = tail;
        popped_are = items;
        taken = texts ∙ sym (took_kept s calls c i own (sym room));
        in_hand = text ∙ ap held (sym held_is);
        hand_is = held_is ∙ sym (hand_kept s calls c i own (sym room));
        ended = ends;
        goes_on = goes;
        enough = enough;
      }

  -- it is enough for something else
  pub as_enough : (E F : List Item → Type 0) (p : LivePort I) (a : PortAt popped s calls i E p) → F a.before → PortAt popped s calls i F p
  as_enough E F p a f = record { before = a.before; tail = a.tail; popped_are = a.popped_are; taken = a.taken; in_hand = a.in_hand; hand_is = a.hand_is; ended = a.ended; goes_on = a.goes_on; enough = f }

  pub less : (m : ℕ) (p : LivePort I) → n ≤ m → PortAt popped s calls i (HasSignals m) p → PortAt popped s calls i (HasSignals n) p
  less m p l a =
      let e : m ≤ signals_in a.before = a.enough in
      let r : n ≤ signals_in a.before = omega (arith, l, e) in
      as_enough (HasSignals m) (HasSignals n) p a r
