-- What a take tells a leg is what its definition has it told.
use Rattle.std.proofs.Common.{◌≡◌, ◌⊎◌, ℕ, List, inl, inr, refl, ap, sym, ◌∙◌, subst}
use Rattle.std.specs.Prelude.{unwrap_or}
use Rattle.reorder_buffer.specs.Stories.{ended, went}
use Rattle.receiver.specs.declared.ears.Ear.{Ear}
use Rattle.receiver.specs.Hears.{AllReady, Becomes, settings_of, text_for, told}
use Rattle.link_io.specs.declared.ends.Came.{Came}
use Rattle.link_io.specs.declared.ends.Came.TheVariants as came
use Rattle.link_io.specs.declared.ends.LinkTake.{LinkTake}
use Rattle.live_leg.specs.declared.senders.Senders.{Senders}
use Rattle.live_leg.specs.declared.senders.DatagramSender.{DatagramSender}
use Rattle.live_leg.specs.declared.senders.DatagramSender.TheVariants.{Refused, Foreign, Sender, First, Other}
use Rattle.live_leg.specs.declared.states.State.{State}
use Rattle.live_leg.specs.declared.states.State.TheVariants.{Giving, Blank, Ending}
use Rattle.live_leg.specs.Senders.{Meets, Passes}
use Rattle.live_leg.specs.Stories.{BeginsWith, HearsMore, HearsSent, state_of_sent}
use Rattle.live_leg.specs.Taking.{Follows, HearsTaken}

-- ---- who sent a datagram
pub sent_unheard : (sent : DatagramSender) (ear : Ear) (ssrc now : ℕ) (octets : List ℕ) → (sent ≡ Refused) ⊎ (sent ≡ Foreign) → HearsSent sent ear ear ssrc now octets
sent_unheard sent ear ssrc now octets (inl is) = subst (λ (x : DatagramSender). HearsSent x ear ear ssrc now octets) (sym is) refl
sent_unheard sent ear ssrc now octets (inr is) = subst (λ (x : DatagramSender). HearsSent x ear ear ssrc now octets) (sym is) refl

pub sent_sender : (sent : DatagramSender) (old new : Ear) (ssrc at now : ℕ) (octets : List ℕ) → sent ≡ Sender → at ≡ now
    → Becomes old new (λ settings story. told story at (text_for settings octets)) → settings_of new ≡ settings_of old → HearsSent sent old new ssrc now octets
sent_sender sent old new ssrc at now octets is same becomes settings =
    subst (λ (x : DatagramSender). HearsSent x old new ssrc now octets) (sym is) (subst (λ (n : ℕ). HearsMore old new n octets) same (record { becomes = becomes; settings = settings }))

pub sent_first : (sent : DatagramSender) (old new : Ear) (of ssrc at now : ℕ) (octets : List ℕ) → sent ≡ First → of ≡ ssrc → at ≡ now → BeginsWith old new of at octets → HearsSent sent old new ssrc now octets
sent_first sent old new of ssrc at now octets is who when begins =
    subst (λ (x : DatagramSender). HearsSent x old new ssrc now octets) (sym is)
    (subst (λ (n : ℕ). BeginsWith old new ssrc n octets) when (subst (λ (s : ℕ). BeginsWith old new s at octets) who begins))

pub sent_other : (sent : DatagramSender) (old new : Ear) (ssrc now : ℕ) (octets : List ℕ) → sent ≡ Other
    → Becomes old new (λ settings story. ended story) → AllReady old → settings_of new ≡ settings_of old → HearsSent sent old new ssrc now octets
sent_other sent old new ssrc now octets is becomes all settings =
    subst (λ (x : DatagramSender). HearsSent x old new ssrc now octets) (sym is) (record { becomes = becomes; all = all; settings = settings })

-- ---- what came
pub follows_datagram : (old new : Ear) (before after : Senders) (taken : LinkTake) (octets : List ℕ) (sent : DatagramSender) (state : State) → taken.came ≡ came.Datagram → Meets before after taken.at octets sent
    → HearsSent sent old new (unwrap_or after.sender 0) after.moment octets → state ≡ state_of_sent sent → HearsTaken old new before after taken octets state
follows_datagram old new before after taken octets sent state is meets hears stands h d k =
    let m = meets h d k in
    subst (λ (c : Came). Follows old new before after taken.at c octets state h d) (sym is) (record {
      knows = m.knows;
      hears = (subst (λ (x : DatagramSender). HearsSent x old new (unwrap_or after.sender 0) after.moment octets) m.sent_is hears, stands ∙ ap state_of_sent m.sent_is);
    })

pub follows_large : (old new : Ear) (before after : Senders) (taken : LinkTake) (octets : List ℕ) → taken.came ≡ came.Large → Passes before after taken.at
    → Becomes old new (λ settings story. went story taken.at) → settings_of new ≡ settings_of old → HearsTaken old new before after taken octets Giving
follows_large old new before after taken octets is passes becomes settings h d k =
    subst (λ (c : Came). Follows old new before after taken.at c octets Giving h d) (sym is) (record {
      knows = passes h d k;
      hears = (record { becomes = becomes; settings = settings }, refl);
    })

pub follows_quiet : (old new : Ear) (before after : Senders) (taken : LinkTake) (octets : List ℕ) → taken.came ≡ came.Quiet → Passes before after taken.at
    → Becomes old new (λ settings story. went story taken.at) → settings_of new ≡ settings_of old → HearsTaken old new before after taken octets Blank
follows_quiet old new before after taken octets is passes becomes settings h d k =
    subst (λ (c : Came). Follows old new before after taken.at c octets Blank h d) (sym is) (record {
      knows = passes h d k;
      hears = (record { becomes = becomes; settings = settings }, refl);
    })

pub follows_closed : (old new : Ear) (senders : Senders) (taken : LinkTake) (octets : List ℕ) → taken.came ≡ came.Closed
    → Becomes old new (λ settings story. ended story) → AllReady old → settings_of new ≡ settings_of old → HearsTaken old new senders senders taken octets Ending
follows_closed old new senders taken octets is becomes all settings h d k =
    subst (λ (c : Came). Follows old new senders senders taken.at c octets Ending h d) (sym is) (record {
      knows = record { payload_types = k.payload_types; most = k.most; follow = k.follow; sender = k.sender; known = k.known; moment = k.moment; last = k.last };
      hears = (record { becomes = becomes; all = all; settings = settings }, refl);
    })
