-- A live call before its first turn.
use Rattle.std.specs.Prelude.{◌≡◌, ℕ, false, Some, List, [], ◌∷◌, slice_get}
use Rattle.rtt_base.specs.declared.text_packets.PayloadTypes.{PayloadTypes}
use Rattle.mixer_spec.specs.Setups.{Setup}
use Rattle.mixer_spec.specs.Table.{Call, Admit, Hush, Leave, Offer, Turn, after_calls}
use Rattle.mixer_spec.specs.Calls.{IsAdmit}
use Rattle.live_spec.specs.Live.{AllSeated}
use Rattle.live_leg.specs.LinkLegs.{Item}
use Rattle.mix_loop.specs.declared.live_ports.LivePort.{LivePort}
use Rattle.mix_loop.specs.Walks.{IsServing}

-- legs came, and nothing else was called
abbrev pub AreAdmits : Setup → List Call → Type 0
AreAdmits s [] = Unit {0}
AreAdmits s (Admit i l ∷ past) = IsAdmit s i l past × AreAdmits s past
AreAdmits s (Hush i ∷ past) = ⊥
AreAdmits s (Leave i ∷ past) = ⊥
AreAdmits s (Offer c ∷ past) = ⊥
AreAdmits s (Turn now ∷ past) = ⊥

module _ {I : Type 0} (popped : I → List Item) where
  -- nothing was popped of it
  pub record IsUnpopped (p : LivePort I) : Type 0 where
    pub none : popped p.inlet ≡ []
    pub empty : p.full ≡ false
    pub going : p.ended ≡ false

  abbrev pub AllUnpopped : List (LivePort I) → Type 0
  AllUnpopped ps = (j : ℕ) (p : LivePort I) → slice_get ps j ≡ Some p → IsUnpopped p

  -- Where all legs came and nothing was popped, turns may begin.
  abbrev pub MayBegin : {M : Type 0} → (M → Setup → (ℕ → PayloadTypes) → List Call → Type 0) → Type 0
  MayBegin {M} stands =
      (s : Setup) (payload_types : ℕ → PayloadTypes) (calls : List Call) (ps : List (LivePort I)) (m : M)
      → stands m s payload_types calls
      → AreAdmits s calls
      → AllSeated s (after_calls s calls)
      → AllUnpopped ps
      → IsServing popped stands s payload_types 0 ps m
