-- What is known of a leg stays where a chunk of another one is offered.
use Rattle.std.proofs.Common.{◌≡◌, ℕ, true, false, cond, Some, None, List, [], ◌∷◌, ◌++◌, refl, ap, sym, ◌∙◌, not}
use Rattle.std.specs.Prelude.{Bool, Option, if◌then◌else◌}
use Rattle.std.proofs.lemmas.Bool.{ne_eqb}
use Rattle.stream_spec.specs.Ready.{Chunk}
use Rattle.mixer_spec.specs.Setups.{Setup}
use Rattle.mixer_spec.specs.Table.{Call, Offer, Table, after_calls, chunks_taken, given, has_room, is_given, offered}
use Rattle.mixer_spec.specs.Calls.{took}
use Rattle.mixer_spec.proofs.Lists.{set_other}
use Rattle.live_leg.specs.LinkLegs.{Item}
use Rattle.live_spec.specs.Live.{is_held_back}
use Rattle.mix_loop.specs.declared.live_ports.LivePort.{LivePort}
use Rattle.mix_loop.specs.Handed.{hand_after, is_blocked_after}
use Rattle.mix_loop.specs.LivePorts.{AreNext, PortAt, with_offers}
use Rattle.mixer_spec.proofs.Finish.{given_room}

module _ (s : Setup) (k : ℕ) where
  offered_room : (i : ℕ) (c d : Chunk) (table : Table) → (k ≡ i → ⊥) → has_room s k d (offered s i c table) ≡ has_room s k d table
  offered_room i c d table ne = go (has_room s i c table)
    where
      go : (b : Bool) → has_room s k d (cond {A = Table} b (given i c table) table) ≡ has_room s k d table
      go true = given_room s i k d c table ne
      go false = refl

  pub other_took : (calls : List Call) (c : Chunk) → (k ≡ c.source → ⊥) → took s k (Offer c ∷ calls) ≡ took s k calls
  other_took calls c ne = go (has_room s c.source c t)
    where
      t : Table
      t = after_calls s calls

      go : (b : Bool) → chunks_taken ((cond {A = Table} b (given c.source c t) t).taken k) ≡ chunks_taken (t.taken k)
      go true = ap chunks_taken (set_other t.taken c.source (t.taken c.source ++ record { chunk = c; given = is_given t.seats c.source } ∷ []) k ne)
      go false = refl

  pub other_hand : (calls : List Call) (c : Chunk) → (k ≡ c.source → ⊥) → hand_after s k (Offer c ∷ calls) ≡ hand_after s k calls
  other_hand calls c ne = ap (λ t. cond {A = Option Chunk} t (if has_room s k c (after_calls s calls) then None else Some c) (hand_after s k calls)) (ne_eqb c.source k (λ e. ne (sym e)))

  other_blocked : (calls : List Call) (c : Chunk) → (k ≡ c.source → ⊥) → is_blocked_after s k (Offer c ∷ calls) ≡ is_blocked_after s k calls
  other_blocked calls c ne = ap (λ (h : Option Chunk). is_held_back s (after_calls s (Offer c ∷ calls)) k h) (other_hand calls c ne) ∙ go (hand_after s k calls)
    where
      go : (h : Option Chunk) → is_held_back s (offered s c.source c (after_calls s calls)) k h ≡ is_held_back s (after_calls s calls) k h
      go None = refl
      go (Some d) = ap not (offered_room c.source c d (after_calls s calls) ne)

  -- ---- offers of another leg
  apart : (i : ℕ) (c : Chunk) → c.source ≡ i → (k ≡ i → ⊥) → k ≡ c.source → ⊥
  apart i c own ne e = ne (e ∙ own)

  pub others_blocked : (i : ℕ) (more : List Chunk) (calls : List Call) → (k ≡ i → ⊥) → AreNext s i more calls → is_blocked_after s k (with_offers more calls) ≡ is_blocked_after s k calls
  others_blocked i [] calls ne a = refl
  others_blocked i (c ∷ more) calls ne a = other_blocked (with_offers more calls) c (apart i c a.0 ne) ∙ others_blocked i more calls ne a.2

  pub others_at : {I : Type 0} (popped : I → List Item) (i : ℕ) (E : List Item → Type 0) (p : LivePort I) (more : List Chunk) (calls : List Call) → (k ≡ i → ⊥) → AreNext s i more calls
      → PortAt popped s calls k E p → PortAt popped s (with_offers more calls) k E p
  others_at popped i E p [] calls ne a q = q
  others_at popped i E p (c ∷ more) calls ne a q =
      let b = others_at popped i E p more calls ne a.2 q in
      let away = apart i c a.0 ne in
      record {
        before = b.before;
        tail = b.tail;
        popped_are = b.popped_are;
        taken = b.taken ∙ sym (other_took (with_offers more calls) c away);
        in_hand = b.in_hand;
        hand_is = b.hand_is ∙ sym (other_hand (with_offers more calls) c away);
        ended = b.ended;
        goes_on = b.goes_on;
        enough = b.enough;
      }
