-- What was given to the terminals of a live call.
use Rattle.std.specs.Prelude.{◌≡◌, ◌<◌, ◌⊎◌, ℕ, Some, List, [], ◌∷◌, ◌++◌, length, map, slice_get}
use Rattle.rtt_base.specs.declared.text_packets.PayloadTypes.{PayloadTypes}
use Rattle.rtt_io.specs.Counts.{Rose}
use Rattle.stream_spec.specs.Own.{Sent}
use Rattle.mixer_spec.specs.Setups.{Setup}
use Rattle.packetizer.specs.declared.outputs.PacketizerSettings.{PacketizerSettings}
use Rattle.packetizer.specs.Sending.{octets_of}
use Rattle.packetizer.specs.OutputStanding.{PacketizerStandsFor}
use Rattle.packetizer.specs.OutputStates.{State}
use Rattle.mixer.specs.declared.batches.Post.{Post}
use Rattle.link_io.specs.Given.{packets}
use Rattle.mix_loop.specs.Addresses.{Address, address}
use Rattle.mixer_posts.specs.Streams.{AreSourcesAt, settings_at}
use Rattle.mixer_posts.specs.Posts.{sents_to}
use Rattle.rtt_live.specs.declared.faults.LiveFault.{LiveFault}
use Rattle.rtt_live.specs.declared.faults.LiveFault.TheVariants.{Link, NoMemory}
use Rattle.rtt_live.specs.declared.far_ends.FarEnds.{FarEnds}
use Rattle.rtt_live.specs.Listeners.{Listening, HasHeard}

-- how many sources an output has
abbrev pub count_sources : State → ℕ
count_sources o = length o.speakers

-- those of each, in leg order
abbrev pub counts_of : {O : Type 0} → FarEnds O → List ℕ
counts_of ends = map count_sources ends.outputs.items

-- what was sent, without its moments
abbrev pub texts_in : List (ℕ × Sent) → List Sent
texts_in sent = map (λ x. x.1) sent

-- of a stream on which this was sent, newest first, the packets, oldest first
abbrev pub packets_of : PacketizerSettings → List (ℕ × Sent) → List (List ℕ)
packets_of settings [] = []
packets_of settings (x ∷ sent) = packets_of settings sent ++ octets_of settings (texts_in sent) x.1 ∷ []

-- the packets that a link was given
abbrev pub packets_in : {O : Type 0} → (O → List (ℕ × List ℕ)) → O → List (List ℕ)
packets_in given link = packets (given link)

-- where these links are, and what each was given
abbrev pub addresses_of : {O : Type 0} → (O → ℕ) → (O → List (ℕ × List ℕ)) → List O → List Address
addresses_of port given links = map (λ link. address (port link) (given link)) links

module _ {O : Type 0} (tells : Type 0) (given : O → List (List ℕ)) (faults : O → ℕ) where
  -- no give of the link failed, and where it tells, it was given these packets
  abbrev pub WasGiven : O → List (List ℕ) → Type 0
  WasGiven link packets = (faults link ≡ 0) × (tells → given link ≡ packets)

  -- Of these posts, newest first, the output of the terminal j wrote those to it, which has these payload types: its link was
  -- given the packets, and it heard them.
  pub record WasSent (outputs : List State) (links : List O) (listeners : List Listening) (s : Setup) (payload_types : PayloadTypes) (j : ℕ) (sent : List (ℕ × Post)) : Type 0 where
    pub sources : List ℕ
    pub are : AreSourcesAt s j sources
    pub wrote : (o : State) → slice_get outputs j ≡ Some o
        → PacketizerStandsFor (settings_at s payload_types j) sources o (texts_in (sents_to sources j sent))
    pub gave : (link : O) → slice_get links j ≡ Some link
        → WasGiven link (packets_of (settings_at s payload_types j) (sents_to sources j sent))
    pub heard : (l : Listening) → slice_get listeners j ≡ Some l
        → HasHeard l (packets_of (settings_at s payload_types j) (sents_to sources j sent))

  -- so of each terminal of the setup
  pub record WereGiven (ends : FarEnds O) (s : Setup) (payload_types : ℕ → PayloadTypes) (sent : List (ℕ × Post)) : Type 0 where
    pub many : length ends.links.items ≡ s.legs
    pub each : (j : ℕ) → j < s.legs → WasSent ends.outputs.items ends.links.items ends.listeners.items s (payload_types j) j sent

module _ {O : Type 0} (tells : Type 0) (given : O → List (List ℕ)) where
  -- Where it tells, the link of the terminal j was given the packets of these posts, newest first, or that of one more besides.
  pub record WasCut (links : List O) (s : Setup) (payload_types : PayloadTypes) (j : ℕ) (sent : List (ℕ × Post)) (now : ℕ) (next : Post) : Type 0 where
    pub sources : List ℕ
    pub are : AreSourcesAt s j sources
    pub gave : (link : O) → slice_get links j ≡ Some link → tells
        → (given link ≡ packets_of (settings_at s payload_types j) (sents_to sources j sent)) ⊎ (given link ≡ packets_of (settings_at s payload_types j) (sents_to sources j ((now, next) ∷ sent)))

  -- so of each terminal of the setup
  pub record WereCut (ends : FarEnds O) (s : Setup) (payload_types : ℕ → PayloadTypes) (sent : List (ℕ × Post)) (now : ℕ) (next : Post) : Type 0 where
    pub many : length ends.links.items ≡ s.legs
    pub each : (j : ℕ) → j < s.legs → WasCut ends.links.items s (payload_types j) j sent now next

-- why a packet was not given: the link of its leg failed, or memory ran out
abbrev pub IsUnsent : {O : Type 0} → (O → ℕ) → FarEnds O → LiveFault → Type 0
IsUnsent {O} faults ends (Link leg) = (link : O) × (slice_get ends.links.items leg ≡ Some link) × Rose 0 (faults link)
IsUnsent {O} faults ends NoMemory = Unit {0}
