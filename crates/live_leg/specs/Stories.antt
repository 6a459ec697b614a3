-- What an ear was told, by what the takes of a link gave (profile).
use Rattle.std.specs.Prelude.{◌≡◌, true, ℕ, Option, None, Some, List, []}
use Rattle.stream_spec.specs.Ready.{Chunk}
use Rattle.wire_spec.specs.Packets.{Arrival}
use Rattle.reorder_buffer.specs.Stories.{Story, begun, went, ended}
use Rattle.receiver.specs.declared.settings.EarSettings.{EarSettings}
use Rattle.receiver.specs.declared.ears.Ear.{Ear}
use Rattle.receiver.specs.Cuts.{is_cut, most_of}
use Rattle.receiver.specs.Hears.{AllReady, Becomes, Gave, settings_of, told, text_for}
use Rattle.file_spec.specs.Primaries.{primary_limit}
use Rattle.live_spec.specs.Told.{Hearing, Told}
use Rattle.live_leg.specs.declared.settings.LegSettings.{LegSettings}
use Rattle.live_leg.specs.declared.senders.DatagramSender.{DatagramSender}
use Rattle.live_leg.specs.declared.senders.DatagramSender.TheVariants.{Refused, Foreign, Sender, First, Other}
use Rattle.live_leg.specs.declared.states.State.{State}
use Rattle.live_leg.specs.declared.states.State.TheVariants.{Giving, Parting}

-- what is heard of a leg that is asked for this, its texts with the source 0: whose they are is set by who mixes
abbrev pub hearing_of : LegSettings → Hearing
hearing_of settings = record {
  leg = 0;
  ssrc = settings.ear.ssrc;
  payload_types = settings.ear.payload_types;
  most = primary_limit settings.ear.long;
  wait = settings.ear.wait;
  follow = settings.follow;
  piece = most_of settings.ear.cut;
}

-- ---- what an ear is told
-- a packet of the sender came at `now`
pub record HearsMore (old new : Ear) (now : ℕ) (octets : List ℕ) : Type 0 where
  pub becomes : Becomes old new (λ settings story. told story now (text_for settings octets))
  pub settings : settings_of new ≡ settings_of old

-- whatever it heard before, it hears the packets of this SSRC now, of which this is the first
pub record BeginsWith (old new : Ear) (ssrc now : ℕ) (octets : List ℕ) : Type 0 where
  pub begins : (settings : EarSettings) (source : ℕ) (story : Story) (gave : List Chunk)
      → Gave old settings source story gave
      → Gave new (record settings { ssrc = ssrc }) ssrc (told (begun settings.wait) now (text_for (record settings { ssrc = ssrc }) octets)) []
  pub settings : settings_of new ≡ record (settings_of old) { ssrc = ssrc }

-- time goes on to `now`
pub record Waits (old new : Ear) (now : ℕ) : Type 0 where
  pub becomes : Becomes old new (λ settings story. went story now)
  pub settings : settings_of new ≡ settings_of old

-- nothing of it is waited for any longer
pub record Ends (old new : Ear) : Type 0 where
  pub becomes : Becomes old new (λ settings story. ended story)
  pub all : AllReady old
  pub settings : settings_of new ≡ settings_of old

-- who sent a datagram, and what the ear is told of it; `now` is the greatest moment, `ssrc` that of the sender
abbrev pub HearsSent : DatagramSender → (old new : Ear) (ssrc now : ℕ) (octets : List ℕ) → Type 0
HearsSent Refused old new ssrc now octets = new ≡ old
HearsSent Foreign old new ssrc now octets = new ≡ old
HearsSent Sender old new ssrc now octets = HearsMore old new now octets
HearsSent First old new ssrc now octets = BeginsWith old new ssrc now octets
HearsSent Other old new ssrc now octets = Ends old new

-- how far a leg is of which that was sent: who takes over from another waits until what is left of that one is given
abbrev pub state_of_sent : DatagramSender → State
state_of_sent Refused = Giving
state_of_sent Foreign = Giving
state_of_sent Sender = Giving
state_of_sent First = Giving
state_of_sent Other = Parting

-- ---- by what was told
-- the sender's, or that of a leg of which nobody was heard
abbrev pub IsOf : Option ℕ → (ssrc : ℕ) → List Arrival → Type 0
IsOf None ssrc past = past ≡ []
IsOf (Some s) ssrc past = ssrc ≡ s

-- an ear asked for this hears the sender
pub record IsEarOf (h : Hearing) (d : Told) (settings : EarSettings) : Type 0 where
  pub payload_types : settings.payload_types ≡ h.payload_types
  pub most : primary_limit settings.long ≡ h.most
  pub wait : settings.wait ≡ h.wait
  pub cut : is_cut settings.cut ≡ true
  pub piece : most_of settings.cut ≡ h.piece
  pub sender : IsOf d.sender settings.ssrc d.past
