-- That what a turn sends is given before the pause behind it.
use Rattle.std.specs.Prelude.{◌≡◌, ◌<◌, ◌+◌, ℕ, suc, List, [], ◌∷◌, if◌then◌else◌, nat_lt}
use Rattle.rtt_base.specs.declared.text_packets.PayloadTypes.{PayloadTypes}
use Rattle.rtt_io.specs.Counts.{last_count}
use Rattle.mixer_spec.specs.Setups.{Setup}
use Rattle.mixer_spec.specs.Table.{Call, Admit, Hush, Leave, Offer, Turn}
use Rattle.mixer_spec.specs.Calls.{turns_made}
use Rattle.mix_loop.specs.Addresses.{Address, addresses_by}
use Rattle.mix_loop.specs.Clocks.{moments_of}

-- of these calls those up to the turn of this number, from 1 on
abbrev pub up_to_turn : ℕ → List Call → List Call
up_to_turn n [] = []
up_to_turn n (Admit i l ∷ past) = up_to_turn n past
up_to_turn n (Hush i ∷ past) = up_to_turn n past
up_to_turn n (Leave i ∷ past) = up_to_turn n past
up_to_turn n (Offer c ∷ past) = up_to_turn n past
up_to_turn n (Turn now ∷ past) = if nat_lt (turns_made past) n then Turn now ∷ past else up_to_turn n past

-- no turn was made between these calls and those
pub record SameTurns (old new : List Call) : Type 0 where
  pub moments : moments_of new ≡ moments_of old
  pub up_to : (n : ℕ) → up_to_turn n new ≡ up_to_turn n old

module _ {M : Type 0} (stands : M → Setup → (ℕ → PayloadTypes) → List Call → Type 0) (addresses : M → List Address) where
  -- By the time that so many pauses were made there was given at the addresses what some mixer had given that stood for these calls.
  pub record WereGivenBy (pauses : ℕ) (m : M) (s : Setup) (payload_types : ℕ → PayloadTypes) (calls : List Call) : Type 0 where
    pub other : M
    pub stood : stands other s payload_types calls
    pub gave : addresses_by pauses (addresses m) ≡ addresses other

  -- So of each turn, before the pause behind it: k pauses were made since this count before the turn k, from 0 on; so long as pauses
  -- are counted.
  abbrev pub AreInTurn : (paused : ℕ) → M → Setup → (ℕ → PayloadTypes) → List Call → Type 0
  AreInTurn paused m s payload_types calls = (k : ℕ) → k < turns_made calls → paused + k < last_count
      → WereGivenBy (paused + k) m s payload_types (up_to_turn (suc k) calls)
