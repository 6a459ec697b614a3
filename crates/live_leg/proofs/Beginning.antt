-- A leg of whose link nothing was asked.
use Rattle.std.proofs.Common.{◌≡◌, ℕ, true≢false, None, Some, [], refl, sym, ap, ◌∙◌, subst}
use Rattle.std.specs.Prelude.{Bool, true, false, if◌then◌else◌}
use Rattle.reorder_buffer.specs.Stories.{begun as begun_story}
use Rattle.receiver.specs.declared.settings.EarSettings.{EarSettings}
use Rattle.receiver.specs.Cuts.{is_cut, most_of}
use Rattle.receiver.specs.Hears.{Gave, settings_of}
use Rattle.live_leg.specs.declared.arrivals.Arrivals as arrivals
use Rattle.file_spec.specs.Primaries.{primary_limit}
use Rattle.live_spec.specs.Told.{all_by, untold}
use Rattle.live_spec.specs.Tally.{untallied}
use Rattle.live_leg.specs.declared.states.State.{State}
use Rattle.live_leg.specs.declared.states.State.TheVariants.{Idle}
use Rattle.live_leg.specs.declared.legs.Leg.{Leg}
use Rattle.live_leg.specs.Senders.{KnowsFirst}
use Rattle.live_leg.specs.Tallies.{IsTally}
use Rattle.live_leg.specs.Stories.{IsOf, hearing_of}
use Rattle.live_leg.specs.Stands.{EarStands, LegStands, PhaseAt}

-- nothing came of the first sender, if there is one
first_is : (b : Bool) (ssrc : ℕ) → IsOf (if b then None else Some ssrc) ssrc []
first_is true ssrc = refl
first_is false ssrc = refl

pub begun : {A F : Type 0} (g : arrivals.Ghosts A F) (leg : Leg A) → Gave leg.ear leg.settings.ear leg.settings.ear.ssrc (begun_story leg.settings.ear.wait) [] → is_cut leg.settings.ear.cut ≡ true → KnowsFirst (hearing_of leg.settings) leg.senders → IsTally leg.tally untallied
    → leg.state ≡ Idle → g.came leg.arrivals leg.arrivals [] → LegStands g leg leg []
begun {A} {F} g leg gave cut knows tally idle came =
    let h = hearing_of leg.settings in
    let own : settings_of leg.ear ≡ leg.settings.ear = gave.hears.asked in
    record {
      so = record {
        takes = [];
        settings = refl;
        ear = subst (λ (st : State). EarStands {F = F} leg.ear st leg.senders.moment leg.packet.value h [] []) (sym idle) (record {
          part = untold h;
          story = begun_story leg.settings.ear.wait;
          heard = [];
          gave = subst (λ (k : EarSettings). Gave leg.ear k k.ssrc (begun_story leg.settings.ear.wait) []) (sym own) gave;
          hears = record {
            payload_types = ap (λ (k : EarSettings). k.payload_types) own;
            most = ap (λ (k : EarSettings). primary_limit k.long) own;
            wait = ap (λ (k : EarSettings). k.wait) own;
            cut = ap (λ (k : EarSettings). is_cut k.cut) own ∙ cut;
            piece = ap (λ (k : EarSettings). most_of k.cut) own;
            sender = subst (λ (k : EarSettings). IsOf (untold h).sender k.ssrc []) (sym own) (first_is leg.settings.follow leg.settings.ear.ssrc);
          };
          past = refl;
          at_moment = λ _. refl;
          all = λ e. absurd (true≢false (sym e));
          part_is = refl;
          texts = refl;
        });
        knows = knows;
        tally = tally;
        went = came;
        phase = subst (λ (st : State). PhaseAt {F = F} st h [] []) (sym idle) (record { open_still = refl; are = refl });
      };
      front = (all_by h [], refl);
    }
