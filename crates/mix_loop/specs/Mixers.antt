-- A mixer, by its table.
use Rattle.std.specs.Prelude.{◌≡◌, ◌<◌, ◌*◌, ℕ, Bool, is_some, List, ◌∷◌}
use Rattle.rtt_base.specs.declared.text_packets.PayloadTypes.{PayloadTypes}
use Rattle.mixer_spec.specs.Setups.{Setup}
use Rattle.mixer_spec.specs.Table.{Table, Call, Admit, Hush, Leave, Offer, Turn, after_calls, free_place, may_leave, has_room, is_idle}
use Rattle.mixer_spec.specs.Calls.{IsAdmit, IsHush}
use Rattle.stream_spec.specs.Ready.{Chunk}
use Rattle.mix_loop.specs.Addresses.{Address}

module _ {M : Type 0} where
  -- it has as many legs, made no turn, and sends where it sent, and nothing was given there
  pub record Keeps (legs_of turns_of : M → ℕ) (addresses_of : M → List Address) (old new : M) : Type 0 where
    pub legs : legs_of new ≡ legs_of old
    pub turns : turns_of new ≡ turns_of old
    pub addresses : addresses_of new ≡ addresses_of old

  -- where the terminals have these payload types
  abbrev pub Of : (M → Setup → (ℕ → PayloadTypes) → List Call → Type 0) → (ℕ → PayloadTypes) → M → Setup
      → List Call → Type 0
  Of stands payload_types m s calls = stands m s payload_types calls

  -- calls were made that lead to this table
  pub record At (mixes : M → Setup → List Call → Type 0) (m : M) (s : Setup) (table : Table) : Type 0 where
    pub calls : List Call
    pub made : mixes m s calls
    pub leads : after_calls s calls ≡ table

-- ---- what a call tells, of a mixer that stands for calls
module _ {M : Type 0} (stands : M → Setup → (ℕ → PayloadTypes) → List Call → Type 0) where
  -- a leg was admitted where it may be, and found a place or none
  abbrev pub Admits : M → M → ℕ → Bool → Bool → Type 0
  Admits old new leg listens found =
      (s : Setup) (payload_types : ℕ → PayloadTypes) (calls : List Call) → stands old s payload_types calls
      → IsAdmit s leg listens calls
      → stands new s payload_types (Admit leg listens ∷ calls) × (found ≡ is_some (free_place s (after_calls s calls).seats))

  -- a leg was hushed where it may be
  abbrev pub Hushes : M → M → ℕ → Type 0
  Hushes old new leg = (s : Setup) (payload_types : ℕ → PayloadTypes) (calls : List Call)
      → stands old s payload_types calls → IsHush s leg calls → stands new s payload_types (Hush leg ∷ calls)

  -- a leg left or stayed
  abbrev pub Leaves : M → M → ℕ → Bool → Type 0
  Leaves old new leg left =
      (s : Setup) (payload_types : ℕ → PayloadTypes) (calls : List Call) → stands old s payload_types calls
      → stands new s payload_types (Leave leg ∷ calls) × (left ≡ may_leave s leg (after_calls s calls))

  -- a chunk was taken or not
  abbrev pub Offers : M → M → Chunk → Bool → Type 0
  Offers old new c taken =
      (s : Setup) (payload_types : ℕ → PayloadTypes) (calls : List Call) → stands old s payload_types calls
      → stands new s payload_types (Offer c ∷ calls) × (taken ≡ has_room s c.source c (after_calls s calls))

  -- a turn was made
  abbrev pub Turns : M → M → ℕ → Type 0
  Turns old new now = (s : Setup) (payload_types : ℕ → PayloadTypes) (calls : List Call)
      → stands old s payload_types calls → stands new s payload_types (Turn now ∷ calls)

  -- a turn was not sent to its end
  abbrev pub Halts : (M → Setup → (ℕ → PayloadTypes) → List Call → ℕ → Type 0) → M → M → ℕ → Type 0
  Halts halted old new now = (s : Setup) (payload_types : ℕ → PayloadTypes) (calls : List Call)
      → stands old s payload_types calls → halted new s payload_types calls now

  -- whether its table is idle
  abbrev pub TellsIdle : M → Bool → Type 0
  TellsIdle m idle = (s : Setup) (payload_types : ℕ → PayloadTypes) (calls : List Call)
      → stands m s payload_types calls → idle ≡ is_idle s (after_calls s calls)

-- so many turns, one each tick, come before this moment
abbrev pub ComeBefore : ℕ → ℕ → ℕ → Type 0
ComeBefore moment tick turns = (k : ℕ) → k < turns → k * tick < moment
