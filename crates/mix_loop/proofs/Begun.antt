-- A live call before its first turn.
use Rattle.std.proofs.Common.{◌≡◌, ℕ, Some, None, List, [], ◌∷◌, refl, ap, sym, ◌∙◌, arith}
use Rattle.std.specs.Prelude.{Bool, if◌then◌else◌}
use Rattle.rtt_base.specs.declared.text_packets.PayloadTypes.{PayloadTypes}
use Rattle.stream_spec.specs.Ready.{chunk_of}
use Rattle.mixer_spec.specs.Setups.{Setup}
use Rattle.mixer_spec.specs.Table.{Call, Admit, Hush, Leave, Offer, Taken, Turn, after_calls, chunks_taken, free_place}
use Rattle.mixer_spec.specs.Calls.{took, turns_made}
use Rattle.mixer_spec.specs.Legs.{held}
use Rattle.mixer_spec.proofs.Legs.{come_taken}
use Rattle.live_leg.specs.LinkLegs.{Item}
use Rattle.mix_loop.specs.declared.live_ports.LivePort.{LivePort}
use Rattle.mix_loop.specs.Handed.{AreLiveCalls, HasSignals, hand_after}
use Rattle.mix_loop.specs.LivePorts.{PortAt}
use Rattle.mix_loop.specs.Begun.{AreAdmits, IsUnpopped, MayBegin}

-- what holds of no call and goes on with each leg that comes holds of calls by which legs only come
by_admits : (s : Setup) (P : List Call → Type 0) → P [] → ((j : ℕ) (l : Bool) (past : List Call) → AreAdmits s (Admit j l ∷ past) → P past → P (Admit j l ∷ past)) → (calls : List Call) → AreAdmits s calls → P calls
by_admits s P z f [] a = z
by_admits s P z f (Admit j l ∷ past) a = f j l past a (by_admits s P z f past a.1)
by_admits s P z f (Hush j ∷ past) a = absurd a
by_admits s P z f (Leave j ∷ past) a = absurd a
by_admits s P z f (Offer c ∷ past) a = absurd a
by_admits s P z f (Turn now ∷ past) a = absurd a

hand_none : (s : Setup) (i : ℕ) (calls : List Call) → AreAdmits s calls → hand_after s i calls ≡ None
hand_none s i = by_admits s (λ calls. hand_after s i calls ≡ None) refl (λ j l past a h. h)

no_turn : (s : Setup) (calls : List Call) → AreAdmits s calls → turns_made calls ≡ 0
no_turn s = by_admits s (λ calls. turns_made calls ≡ 0) refl (λ j l past a h. h)

none_taken : (s : Setup) (i : ℕ) (calls : List Call) → AreAdmits s calls → took s i calls ≡ []
none_taken s i = by_admits s (λ calls. took s i calls ≡ []) refl
    (λ j l past a h. let t = after_calls s past in ap (λ (taken : ℕ → List Taken). chunks_taken (taken i)) (come_taken j l t (free_place s t.seats)) ∙ h)

live_admits : (s : Setup) (items : ℕ → List Item) (calls : List Call) → AreAdmits s calls → AreLiveCalls s items [] calls
live_admits s items = by_admits s (AreLiveCalls s items []) tt (λ j l past a h. (a.0, h))

port_begun : {I : Type 0} (popped : I → List Item) (s : Setup) (calls : List Call) (i : ℕ) (p : LivePort I) → AreAdmits s calls → IsUnpopped popped p → PortAt popped s calls i (HasSignals 0) p
port_begun popped s calls i p a u = record {
  before = [];
  tail = [];
  popped_are = u.none;
  taken = sym (none_taken s i calls a);
  in_hand = ap (λ b. held (if b then Some (chunk_of p.hand) else None)) (sym u.empty);
  hand_is = ap (λ b. if b then Some (chunk_of p.hand) else None) u.empty ∙ sym (hand_none s i calls a);
  ended = u.going;
  goes_on = refl;
  enough = omega arith;
}

pub may_begin : {I M : Type 0} (popped : I → List Item) (stands : M → Setup → (ℕ → PayloadTypes) → List Call → Type 0) → MayBegin popped stands
may_begin popped stands s payload_types calls ps m made a seated u = record {
  calls = calls;
  counts = [];
  made = made;
  live = λ items _. live_admits s items calls a;
  turned = no_turn s calls a;
  seated = seated;
  at = λ j p e. port_begun popped s calls j p a (u j p e);
}
