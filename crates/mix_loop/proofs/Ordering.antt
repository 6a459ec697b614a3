-- What a turn sends is given before the pause behind it.
use Rattle.std.proofs.Common.{◌≡◌, ◌≤◌, ◌<◌, ◌+◌, ℕ, suc, inl, inr, List, [], ◌∷◌, refl, ap, sym, subst, ◌∙◌, arith}
use Rattle.std.specs.Prelude.{◌⊎◌, Bool, if◌then◌else◌, min}
use Rattle.std.proofs.Math.Nat.{min-eq_left, min-eq_right}
use Rattle.std.proofs.lemmas.Bool.{le-ltb, lt-ltb}
use Rattle.rtt_base.specs.declared.text_packets.PayloadTypes.{PayloadTypes}
use Rattle.rtt_io.specs.Counts.{counted, last_count}
use Rattle.stream_spec.specs.Ready.{Chunk}
use Rattle.mixer_spec.specs.Setups.{Setup}
use Rattle.mixer_spec.specs.Table.{Call, Turn}
use Rattle.mixer_spec.specs.Calls.{turns_made}
use Rattle.mix_loop.specs.Addresses.{Address, AreWithin, GiveAfter, addresses_by}
use Rattle.mix_loop.proofs.Addresses.{same_by, whole_by, within_later, within_then}
use Rattle.mix_loop.proofs.Lists.{lt_or_ge}
use Rattle.mix_loop.specs.Order.{AreInTurn, SameTurns, WereGivenBy, up_to_turn}
use Rattle.mix_loop.specs.LivePorts.{with_offers}
use Rattle.mix_loop.specs.Walks.{IsPaused}

-- offers are no turns
pub ups_same : (offers : List Chunk) (calls : List Call) (n : ℕ) → up_to_turn n (with_offers offers calls) ≡ up_to_turn n calls
ups_same [] calls n = refl
ups_same (c ∷ offers) calls n = ups_same offers calls n

-- ---- pauses
pub paused_at_most : (old new next : ℕ) → new ≤ old → next ≡ counted new 1 → next ≤ old + 1
paused_at_most old new next low is = elim (lt_or_ge new last_count) [
  | inl small ↦ let m : min last_count (new + 1) ≡ new + 1 = min-eq_right (omega (arith, small)) in omega (arith, is, m, low)
  | inr high ↦ let m : min last_count (new + 1) ≡ last_count = min-eq_left (omega (arith, high)) in omega (arith, is, m, low, high)
]

-- a later turn has a later beat, so long as pauses are counted
later : (last j k paused p : ℕ) → (p ≡ paused + k) ⊎ (p ≡ last) → j < k → paused + j < last → paused + j < p
later last j k paused p (inl e) low early = omega (arith, e, low)
later last j k paused p (inr e) low early = omega (arith, e, early)

module _ {M : Type 0} (stands : M → Setup → (ℕ → PayloadTypes) → List Call → Type 0) (addresses : M → List Address) (paused : ℕ) (s : Setup) (payload_types : ℕ → PayloadTypes) where
  pub order_none : (m : M) (calls : List Call) → turns_made calls ≡ 0 → AreInTurn stands addresses paused m s payload_types calls
  order_none m calls none j low early = absurd (omega (arith, none, low))

  -- nothing was given since, and no turn was made
  pub order_same : (m m' : M) (calls calls' : List Call) → addresses m' ≡ addresses m → SameTurns calls calls' → turns_made calls' ≡ turns_made calls
      → AreInTurn stands addresses paused m s payload_types calls → AreInTurn stands addresses paused m' s payload_types calls'
  order_same m m' calls calls' same turns many order j low early =
      let w = order j (omega (arith, many, low)) early in
      subst (λ (cs : List Call). WereGivenBy stands addresses (paused + j) m' s payload_types cs) (sym (turns.up_to (suc j)))
      (record { other = w.other; stood = w.stood; gave = ap (addresses_by (paused + j)) same ∙ w.gave })

  module _ (k p : ℕ) (m m' : M) (calls : List Call) (many : turns_made calls ≡ k) (count : IsPaused k paused p) (gives : GiveAfter p (addresses m) (addresses m')) where
    given_later : (j : ℕ) → j < k → paused + j < last_count → AreInTurn stands addresses paused m s payload_types calls → WereGivenBy stands addresses (paused + j) m' s payload_types (up_to_turn (suc j) calls)
    given_later j low early order =
        let w = order j (omega (arith, many, low)) early in
        record { other = w.other; stood = w.stood; gave = same_by (paused + j) p (addresses m) (addresses m') (later last_count j k paused p count low early) gives ∙ w.gave }

    -- a turn was not sent to its end
    pub order_kept : AreInTurn stands addresses paused m s payload_types calls → AreInTurn stands addresses paused m' s payload_types calls
    order_kept order j low early = given_later j (omega (arith, many, low)) early order

    -- a turn was made
    pub order_turn : (now : ℕ) → p ≤ paused + k → AreWithin (paused + k) (addresses m) → stands m' s payload_types (Turn now ∷ calls)
        → AreInTurn stands addresses paused m s payload_types calls → AreInTurn stands addresses paused m' s payload_types (Turn now ∷ calls)
    order_turn now upper within stood order j low early = elim (lt_or_ge j k) [
      | inl less ↦
          let before : up_to_turn (suc j) (Turn now ∷ calls) ≡ up_to_turn (suc j) calls =
          ap (λ (b : Bool). if b then Turn now ∷ calls else up_to_turn (suc j) calls) (le-ltb (turns_made calls) (suc j) (omega (arith, many, less))) in
          subst (λ (cs : List Call). WereGivenBy stands addresses (paused + j) m' s payload_types cs) (sym before) (given_later j less early order)
      | inr more ↦
          let now_all : up_to_turn (suc j) (Turn now ∷ calls) ≡ Turn now ∷ calls =
          ap (λ (b : Bool). if b then Turn now ∷ calls else up_to_turn (suc j) calls) (lt-ltb (turns_made calls) (suc j) (omega (arith, many, more))) in
          let all = within_then (paused + j) p (addresses m) (addresses m') (omega (arith, upper, more)) (within_later (paused + k) (paused + j) (addresses m) (omega (arith, more)) within) gives in
          subst (λ (cs : List Call). WereGivenBy stands addresses (paused + j) m' s payload_types cs) (sym now_all) (record { other = m'; stood = stood; gave = whole_by (paused + j) (addresses m') all })
    ]
