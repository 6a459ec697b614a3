-- The mixer of a live call, whose packets go to links.
use Rattle.std.specs.Prelude.{◌≡◌, ◌<◌, ℕ, zero, suc, ◌^◌, true, List, [], ◌∷◌, length}
use Rattle.rtt_base.specs.declared.text_packets.PayloadTypes.{PayloadTypes}
use Rattle.file_spec.specs.Conference.{Conference}
use Rattle.mixer_spec.specs.Setups.{Setup, setup}
use Rattle.mixer_spec.specs.Table.{Call, Admit, after_calls, is_seated}
use Rattle.mixer_posts.specs.Streams.{payload_types_at}
use Rattle.mixer_posts.specs.States.{SendingState}
use Rattle.mixer_posts.specs.Standing.{HaltsFor, SendsFor}
use Rattle.rtt_live.specs.declared.far_ends.FarEnds.{FarEnds}
use Rattle.rtt_live.specs.Ends.{WereCut, WereGiven, counts_of}

-- the legs below n came, in leg order, and listen
abbrev pub all_admitted : ℕ → List Call
all_admitted zero = []
all_admitted (suc n) = Admit n true ∷ all_admitted n

module _ {O : Type 0} (tells : Type 0) (given : O → List (List ℕ)) where
  -- These calls were made of it, and the links were given what they send; then a turn was made at this moment, of which some links were given
  -- what it sends.
  abbrev pub HaltsGiving : SendingState (FarEnds O) → Setup → (ℕ → PayloadTypes) → List Call → ℕ → Type 0
  HaltsGiving m s payload_types calls now = HaltsFor (λ ends s payload_types sent at next. WereCut tells given ends s payload_types sent at next) m s payload_types calls now

module _ {O : Type 0} (tells : Type 0) (given : O → List (List ℕ)) (faults : O → ℕ) where
  -- These calls were made of it, and the links were given what they send.
  abbrev pub GivesFor : SendingState (FarEnds O) → Setup → (ℕ → PayloadTypes) → List Call → Type 0
  GivesFor m s payload_types calls = SendsFor (λ ends s payload_types sent. WereGiven tells given faults ends s payload_types sent) (λ ends. counts_of ends) (2 ^ 47) m s payload_types calls

  -- it is one for this conference, all of whose legs came
  abbrev pub HasAll : Conference → SendingState (FarEnds O) → Type 0
  HasAll c m = GivesFor m (setup c) (payload_types_at c) (all_admitted (length c.legs))

-- each leg holds a place then
abbrev pub SeatsAll : Conference → Type 0
SeatsAll c = (j : ℕ) → j < length c.legs → is_seated (after_calls (setup c) (all_admitted (length c.legs))).seats j ≡ true
