-- What is known of one leg at the mixer of a live call.
use Rattle.std.specs.Prelude.{◌≡◌, ◌⊎◌, ℕ, suc, ◌+◌, Bool, true, false, Option, None, Some, List, [], ◌∷◌, ◌++◌, if◌then◌else◌}
use Rattle.stream_spec.specs.Ready.{Chunk, chunk_of}
use Rattle.mixer_spec.specs.Setups.{Setup}
use Rattle.mixer_spec.specs.Table.{Call, Offer}
use Rattle.mixer_spec.specs.Calls.{took}
use Rattle.mixer_spec.specs.Legs.{held}
use Rattle.live_leg.specs.Items as item
use Rattle.live_leg.specs.declared.paced_links.LinkStop.TheVariants.{Failed, Told}
use Rattle.live_leg.specs.LinkLegs.{Item, has_fault}
use Rattle.live_leg.specs.Items.{text_in, texts_in}
use Rattle.mix_loop.specs.Addresses.{Address}
use Rattle.mix_loop.specs.Mixers.{Keeps}
use Rattle.mix_loop.specs.declared.live_offers.StepAnswer.{StepAnswer}
use Rattle.mix_loop.specs.declared.live_offers.StepAnswer.TheVariants as advanced
use Rattle.mix_loop.specs.declared.live_offers.PopAnswer.{PopAnswer}
use Rattle.mix_loop.specs.declared.live_offers.PopAnswer.TheVariants.{Text, Seen, Silent, End, Fault, Quit, Nothing}
use Rattle.mix_loop.specs.declared.live_ports.LivePort.{LivePort}
use Rattle.mix_loop.specs.Handed.{EndsSilent, HasSignals, IsEnough, IsNext, hand_after, has_end, is_blocked_after}
use Rattle.rtt_base.specs.declared.text_packets.PayloadTypes.{PayloadTypes}

-- the mixer's calls with these offers behind them, newest first
abbrev pub with_offers : List Chunk → List Call → List Call
with_offers [] calls = calls
with_offers (c ∷ more) calls = Offer c ∷ with_offers more calls

-- each is an offer of the leg i, of the chunk in its hand or of the next one
abbrev pub AreNext : Setup → ℕ → List Chunk → List Call → Type 0
AreNext s i [] calls = Unit {0}
AreNext s i (c ∷ more) calls = (c.source ≡ i) × IsNext s c (with_offers more calls) × AreNext s i more calls

module _ {I : Type 0} where
  -- What was popped of the port, and maybe more; a fault of which it knows is among that.
  pub record Grew (popped : I → List Item) (began : I → I → Type 0) (old new : LivePort I) : Type 0 where
    pub more : List Item
    pub popped_are : popped new.inlet ≡ popped old.inlet ++ more
    pub goes_on : (first : I) → began first old.inlet → began first new.inlet
    pub fails : new.failed ≡ true → (old.failed ≡ true) ⊎ (has_fault more ≡ true)

  abbrev pub hand_of : LivePort I → Option Chunk
  hand_of p = if p.full then Some (chunk_of p.hand) else None

  -- After these calls: of what was popped of the leg i the first items have all its texts that were taken, and are enough; behind
  -- them there is at most one text, which is in hand.
  pub record PortAt (popped : I → List Item) (s : Setup) (calls : List Call) (i : ℕ) (Enough : List Item → Type 0) (p : LivePort I) : Type 0 where
    pub before : List Item
    pub tail : List Item
    pub popped_are : popped p.inlet ≡ before ++ tail
    pub taken : texts_in i before ≡ took s i calls
    pub in_hand : texts_in i tail ≡ held (hand_of p)
    pub hand_is : hand_of p ≡ hand_after s i calls
    pub ended : p.ended ≡ has_end before
    pub goes_on : has_end tail ≡ false
    pub enough : Enough before

  -- what was popped of the port, and one more item
  abbrev pub IsMore : (I → List Item) → LivePort I → LivePort I → Item → Type 0
  IsMore popped old new x = popped new.inlet ≡ popped old.inlet ++ x ∷ []

  -- a port of this, at which nothing was popped
  pub record IsBegun (inlet : I) (leg : ℕ) (p : LivePort I) : Type 0 where
    pub is : p.inlet ≡ inlet
    pub leg_is : p.leg ≡ leg
    pub empty : p.full ≡ false
    pub going : p.ended ≡ false
    pub well : p.failed ≡ false

  -- it is as it was, but that its hand may be empty now
  abbrev pub OnlyHand : LivePort I → LivePort I → Type 0
  OnlyHand old new =
      (new.inlet ≡ old.inlet) × (new.leg ≡ old.leg) × (new.ended ≡ old.ended) × (new.failed ≡ old.failed) × (chunk_of new.hand ≡ chunk_of old.hand)

  -- an item was popped that is no text
  pub record PullsSignal (popped : I → List Item) (old new : LivePort I) (x : Item) (ended failed : Bool) : Type 0 where
    pub more : IsMore popped old new x
    pub empty : new.full ≡ false
    pub ends : new.ended ≡ ended
    pub fails : new.failed ≡ failed

  -- a text was popped, which is in hand
  pub record PullsText (popped : I → List Item) (old new : LivePort I) : Type 0 where
    pub item : Item
    pub more : IsMore popped old new item
    pub text : (i : ℕ) → i ≡ old.leg → text_in i item ≡ chunk_of new.hand ∷ []
    pub own : new.hand.source ≡ old.leg
    pub full : new.full ≡ true
    pub ends : new.ended ≡ old.ended
    pub fails : new.failed ≡ old.failed

  -- nothing was popped
  pub record PullsNothing (popped : I → List Item) (old new : LivePort I) : Type 0 where
    pub same : popped new.inlet ≡ popped old.inlet
    pub empty : new.full ≡ false
    pub ends : new.ended ≡ old.ended
    pub fails : new.failed ≡ old.failed

  -- this was popped of a port with an empty hand
  abbrev pub Pulls : (I → List Item) → LivePort I → LivePort I → PopAnswer → Type 0
  Pulls popped old new Text = PullsText popped old new
  Pulls popped old new Seen = PullsSignal popped old new item.Seen old.ended old.failed
  Pulls popped old new Silent = PullsSignal popped old new item.Silent old.ended old.failed
  Pulls popped old new End = PullsSignal popped old new item.End true old.failed
  Pulls popped old new Fault = PullsSignal popped old new (item.Fault Failed) old.ended true
  Pulls popped old new Quit = PullsSignal popped old new (item.Fault Told) old.ended old.failed
  Pulls popped old new Nothing = PullsNothing popped old new

  -- From these calls on: offers of the leg i were made, and it said n times that all was given.
  pub record OffersTo {M : Type 0} (popped : I → List Item) (stands : M → Setup → (ℕ → PayloadTypes) → List Call → Type 0) (s : Setup) (payload_types : ℕ → PayloadTypes) (calls : List Call) (i n : ℕ) (p : LivePort I) (m : M) : Type 0 where
    pub offers : List Chunk
    pub next : AreNext s i offers calls
    pub made : stands m s payload_types (with_offers offers calls)
    pub port : PortAt popped s (with_offers offers calls) i (HasSignals n) p

  -- The same before a turn, for which it is enough.
  pub record GatheredTo {M : Type 0} (popped : I → List Item) (stands : M → Setup → (ℕ → PayloadTypes) → List Call → Type 0) (s : Setup) (payload_types : ℕ → PayloadTypes) (calls : List Call) (i n : ℕ) (p : LivePort I) (m : M) : Type 0 where
    pub offers : List Chunk
    pub next : AreNext s i offers calls
    pub made : stands m s payload_types (with_offers offers calls)
    pub port : PortAt popped s (with_offers offers calls) i (HasSignals n) p
    pub fresh : p.failed ≡ false → PortAt popped s (with_offers offers calls) i (IsEnough (is_blocked_after s i (with_offers offers calls)) n) p

  -- whatever calls were made before
  abbrev pub Gathered : {M : Type 0} → (I → List Item) → (M → Setup → (ℕ → PayloadTypes) → List Call → Type 0)
      → LivePort I → LivePort I → M → M → Type 0
  Gathered popped stands p p' m m' =
      (s : Setup) (payload_types : ℕ → PayloadTypes) (calls : List Call) (n : ℕ)
      → stands m s payload_types calls → PortAt popped s calls p.leg (HasSignals n) p
      → GatheredTo popped stands s payload_types calls p.leg n p' m'

  -- whatever calls were made before, and however often that was said
  abbrev pub Goes : {M : Type 0} → (ℕ → ℕ) → (I → List Item)
      → (M → Setup → (ℕ → PayloadTypes) → List Call → Type 0) → LivePort I → LivePort I → M → M → Type 0
  Goes f popped stands p p' m m' =
      (s : Setup) (payload_types : ℕ → PayloadTypes) (calls : List Call) (n : ℕ)
      → stands m s payload_types calls → PortAt popped s calls p.leg (HasSignals n) p
      → OffersTo popped stands s payload_types calls p.leg (f n) p' m'

  -- the last text that was offered was not taken
  pub record BlockedTo {M : Type 0} (popped : I → List Item) (stands : M → Setup → (ℕ → PayloadTypes) → List Call → Type 0) (s : Setup) (payload_types : ℕ → PayloadTypes) (calls : List Call) (i n : ℕ) (p : LivePort I) (m : M) : Type 0 where
    pub goes : OffersTo popped stands s payload_types calls i n p m
    pub blocked : is_blocked_after s i (with_offers goes.offers calls) ≡ true

  abbrev pub Blocks : {M : Type 0} → (I → List Item) → (M → Setup → (ℕ → PayloadTypes) → List Call → Type 0)
      → LivePort I → LivePort I → M → M → Type 0
  Blocks popped stands p p' m m' =
      (s : Setup) (payload_types : ℕ → PayloadTypes) (calls : List Call) (n : ℕ)
      → stands m s payload_types calls → PortAt popped s calls p.leg (HasSignals n) p
      → BlockedTo popped stands s payload_types calls p.leg n p' m'

  -- the link had nothing, and that is the last item
  pub record SilentTo {M : Type 0} (popped : I → List Item) (stands : M → Setup → (ℕ → PayloadTypes) → List Call → Type 0) (s : Setup) (payload_types : ℕ → PayloadTypes) (calls : List Call) (i n : ℕ) (p : LivePort I) (m : M) : Type 0 where
    pub goes : OffersTo popped stands s payload_types calls i n p m
    pub silent : EndsSilent goes.port.before

  abbrev pub Silences : {M : Type 0} → (ℕ → ℕ) → (I → List Item)
      → (M → Setup → (ℕ → PayloadTypes) → List Call → Type 0) → LivePort I → LivePort I → M → M → Type 0
  Silences f popped stands p p' m m' =
      (s : Setup) (payload_types : ℕ → PayloadTypes) (calls : List Call) (n : ℕ)
      → stands m s payload_types calls → PortAt popped s calls p.leg (HasSignals n) p
      → SilentTo popped stands s payload_types calls p.leg (f n) p' m'

  abbrev pub GoesOn : {M : Type 0} → (ℕ → ℕ) → (I → List Item)
      → (M → Setup → (ℕ → PayloadTypes) → List Call → Type 0) → LivePort I → LivePort I → M → M → Type 0
  GoesOn f popped stands p p' m m' = (p'.full ≡ false) × Goes f popped stands p p' m m'

  abbrev pub Retries : {M : Type 0} → (I → List Item) → (M → Setup → (ℕ → PayloadTypes) → List Call → Type 0)
      → LivePort I → LivePort I → M → M → Bool → Type 0
  Retries popped stands p p' m m' true = GoesOn (λ n. n) popped stands p p' m m'
  Retries popped stands p p' m m' false = Blocks popped stands p p' m m'

  abbrev pub Advances : {M : Type 0} → (I → List Item) → (M → Setup → (ℕ → PayloadTypes) → List Call → Type 0)
      → LivePort I → LivePort I → M → M → StepAnswer → Type 0
  Advances popped stands p p' m m' advanced.Going = GoesOn (λ n. n) popped stands p p' m m'
  Advances popped stands p p' m m' advanced.Seen = GoesOn suc popped stands p p' m m'
  Advances popped stands p p' m m' advanced.Silent = (p'.full ≡ false) × Silences suc popped stands p p' m m'
  Advances popped stands p p' m m' advanced.Nothing = GoesOn (λ n. n) popped stands p p' m m'
  Advances popped stands p p' m m' advanced.Blocked = Blocks popped stands p p' m m'

  -- where a leg was asked since the last turn, and has said so often that all was given
  pub record IsGathering {M : Type 0} (popped : I → List Item) (began : I → I → Type 0) (stands : M → Setup → (ℕ → PayloadTypes) → List Call → Type 0) (legs turns : M → ℕ) (addresses : M → List Address) (takes : ℕ) (p p' : LivePort I) (m m' : M) : Type 0 where
    pub empty : p'.full ≡ false
    pub same : p'.leg ≡ p.leg
    pub grew : Grew popped began p p'
    pub keeps : Keeps legs turns addresses m m'
    pub goes : Goes (λ n. takes + n) popped stands p p' m m'

-- what becomes of a text that was offered
abbrev pub after_offer : Bool → StepAnswer
after_offer taken = if taken then advanced.Going else advanced.Blocked
