-- A leg's link gives more, or the leg stops.
use Rattle.std.proofs.Common.{◌≡◌, ℕ, Bool, true, false, true≢false, inr, Option, None, Some, List, [], ◌∷◌, ◌++◌, ◌||◌, refl, ap, sym, ◌∙◌, subst}
use Rattle.std.specs.Prelude.{filter, if◌then◌else◌}
use Rattle.std.proofs.lemmas.List.{append-nil}
use Rattle.stream_spec.specs.Fronts.{IsFront, is_ready_by}
use Rattle.receiver.specs.declared.ears.Ear.{Ear}
use Rattle.live_leg.specs.declared.arrivals.Arrivals as arrivals
use Rattle.link_io.specs.declared.ends.Came.{Came}
use Rattle.link_io.specs.declared.ends.Came.TheVariants as came
use Rattle.link_io.specs.declared.ends.LinkTake.{LinkTake}
use Rattle.link_io.specs.Taking.{taken_of, closes, came_of}
use Rattle.stream_spec.specs.Links.{Takes, is_closing}
use Rattle.wire_spec.specs.Text.{text_within}
use Rattle.live_spec.specs.Told.{Hearing, all_by, last_chunks, ready_by, told_by}
use Rattle.live_spec.specs.Tally.{tally_by}
use Rattle.live_spec.proofs.Fronts.{came_closed}
use Rattle.live_leg.specs.declared.settings.LegSettings.{LegSettings}
use Rattle.live_leg.specs.declared.senders.Senders.{Senders}
use Rattle.live_leg.specs.declared.senders.DatagramSender.{DatagramSender}
use Rattle.live_leg.specs.declared.senders.DatagramSender.TheVariants.{Refused, Foreign, Sender, First, Other}
use Rattle.live_leg.specs.declared.states.State.{State}
use Rattle.live_leg.specs.declared.states.State.TheVariants.{Idle, Over}
use Rattle.live_leg.specs.declared.legs.Leg.{Leg}
use Rattle.live_leg.specs.declared.tallies.LegTally.{LegTally}
use Rattle.live_leg.specs.Senders.{Knows, sent_of}
use Rattle.live_leg.specs.Tallies.{CountsTaken, IsTally}
use Rattle.live_leg.specs.Stories.{hearing_of, state_of_sent}
use Rattle.live_leg.specs.Taking.{Follows, HearsTaken}
use Rattle.live_leg.specs.Items.{AreItems, Item, Seen, Fault, fault_in, signal_of, text_in, texts_in}
use Rattle.live_leg.specs.Arriving.{ComesMore, FailsThen}
use Rattle.live_leg.specs.Stands.{EarStands, GivesThen, IsGivingSome, IsIdle, Listens, PhaseAt, Went}
use Rattle.live_leg.proofs.Telling.{told_more}
use Rattle.live_leg.proofs.Texts.{fault_behind, items_calm, texts_same}

idle_is : {F : Type 0} (st : State) (h : Hearing) (takes : Takes) (items : List (Item F)) → st ≡ Idle → PhaseAt st h takes items → IsIdle h takes items
idle_is st h takes items e p = subst (λ (x : State). PhaseAt x h takes items) e p

-- all that is ready was given
ready_is : {F : Type 0} (lc : LegSettings) (takes : Takes) (items : List (Item F)) → AreItems (hearing_of lc) takes items → texts_in 0 items ≡ ready_by (hearing_of lc) takes
ready_is lc [] items a = ap (texts_in 0) a ∙ go lc.follow
  where
    go : (b : Bool) → [] ≡ filter (is_ready_by 0) (last_chunks (hearing_of lc) (if b then None else Some lc.ear.ssrc) [])
    go true = refl
    go false = refl
ready_is lc (t ∷ past) items a = a.5

pub closing_is : (c : Came) (octets : List ℕ) → is_closing (came_of c octets) ≡ closes c
closing_is came.Datagram octets = refl
closing_is came.Large octets = refl
closing_is came.Quiet octets = refl
closing_is came.Closed octets = refl

-- the link is closed by the last take, or not
closed_now : (h : Hearing) (takes : Takes) (t : ℕ) (c : Came) (octets : List ℕ) → (told_by h takes).closed ≡ false → (told_by h (record { at = t; came = came_of c octets } ∷ takes)).closed ≡ closes c
closed_now h takes t c octets o =
    came_closed h (told_by h takes) t (came_of c octets) ∙ (ap (λ (b : Bool). is_closing (came_of c octets) || b) o ∙ (or_none (is_closing (came_of c octets)) ∙ closing_is c octets))
  where
    or_none : (b : Bool) → (b || false) ≡ b
    or_none true = refl
    or_none false = refl

module _ {A F : Type 0} (g : arrivals.Ghosts A F) where
  -- what is given of an answer begins
  begins : (h : Hearing) (takes : Takes) (items : List (Item F)) (t : ℕ) (c : Came) (octets : List ℕ) (old new : Ear) (before after : Senders) (st : State)
      → IsIdle h takes items → Follows old new before after t c octets st h (told_by h takes) → PhaseAt st h (record { at = t; came = came_of c octets } ∷ takes) items
  begins h takes items t c octets old new before after st i f = go c f (some c)
    where
      some : (c : Came) → IsGivingSome (closes c) (signal_of (came_of c octets)) h (record { at = t; came = came_of c octets } ∷ takes) items
      some c = record {
        last = record { at = t; came = came_of c octets };
        past = takes;
        before = items;
        news = [];
        takes_are = refl;
        items_are = sym (append-nil items);
        are = i.are;
        texts = tt;
        closes = closing_is c octets;
        signals = refl;
        open_before = i.open_still;
        closed = closed_now h takes t c octets i.open_still;
      }

      sent : (x : DatagramSender) → st ≡ state_of_sent x → IsGivingSome false Seen h (record { at = t; came = came_of came.Datagram octets } ∷ takes) items
          → PhaseAt st h (record { at = t; came = came_of came.Datagram octets } ∷ takes) items
      sent Refused e w = subst (λ (y : State). PhaseAt y h (record { at = t; came = came_of came.Datagram octets } ∷ takes) items) (sym e) w
      sent Foreign e w = subst (λ (y : State). PhaseAt y h (record { at = t; came = came_of came.Datagram octets } ∷ takes) items) (sym e) w
      sent Sender e w = subst (λ (y : State). PhaseAt y h (record { at = t; came = came_of came.Datagram octets } ∷ takes) items) (sym e) w
      sent First e w = subst (λ (y : State). PhaseAt y h (record { at = t; came = came_of came.Datagram octets } ∷ takes) items) (sym e) w
      sent Other e w = subst (λ (y : State). PhaseAt y h (record { at = t; came = came_of came.Datagram octets } ∷ takes) items) (sym e) w

      go : (c : Came) → Follows old new before after t c octets st h (told_by h takes) → IsGivingSome (closes c) (signal_of (came_of c octets)) h (record { at = t; came = came_of c octets } ∷ takes) items
          → PhaseAt st h (record { at = t; came = came_of c octets } ∷ takes) items
      go came.Datagram f w = sent (sent_of h (told_by h takes) t (text_within h.most octets None h.payload_types)) f.hears.1 w
      go came.Large f w = subst (λ (y : State). PhaseAt y h (record { at = t; came = came_of came.Large octets } ∷ takes) items) (sym f.hears.1) w
      go came.Quiet f w = subst (λ (y : State). PhaseAt y h (record { at = t; came = came_of came.Quiet octets } ∷ takes) items) (sym f.hears.1) w
      go came.Closed f w = subst (λ (y : State). PhaseAt y h (record { at = t; came = came_of came.Closed octets } ∷ takes) items) (sym f.hears.1) w

  -- where none of the items says why nothing more comes, it came
  came_so : (first now : A) (takes : Takes) (items : List (Item F)) → fault_in items ≡ None → Went g (fault_in items) first now takes → g.came first now takes
  came_so first now takes items e w = subst (λ (o : Option F). Went g o first now takes) e w

  pub listens : (l m : Leg A) (taken : LinkTake) (octets : List ℕ) → l.state ≡ Idle → m.settings ≡ l.settings → m.packet.value ≡ octets → HearsTaken l.ear m.ear l.senders m.senders taken octets m.state → CountsTaken l.senders l.tally m.tally taken octets
      → ComesMore g.came l.arrivals m.arrivals (taken_of taken octets) → Listens g l m
  listens l m taken octets idle same packet hears counts comes first items s =
      let n = s.so in
      let h = hearing_of first.settings in
      let i = idle_is l.state h n.takes items idle n.phase in
      let f = hears h (told_by h n.takes) n.knows in
      let ear = subst (λ (st : State). EarStands l.ear st l.senders.moment l.packet.value h n.takes items) idle n.ear in
      record {
        takes = taken_of taken octets ∷ n.takes;
        settings = same ∙ n.settings;
        ear = subst (λ (os : List ℕ). EarStands m.ear m.state m.senders.moment os h (taken_of taken octets ∷ n.takes) items) (sym packet)
            (told_more first.settings n.takes items l.ear m.ear octets l.packet.value l.senders.moment l.senders m.senders taken.at taken.came m.state ear i.open_still (ready_is first.settings n.takes items i.are) f);
        knows = f.knows;
        tally = counts h (told_by h n.takes) n.knows (tally_by h n.takes) n.tally;
        went = subst (λ (o : Option F). Went g o first.arrivals m.arrivals (taken_of taken octets ∷ n.takes)) (sym (items_calm h n.takes items i.are))
            (comes first.arrivals n.takes (came_so first.arrivals l.arrivals n.takes items (items_calm h n.takes items i.are) n.went));
        phase = begins h n.takes items taken.at taken.came octets l.ear m.ear l.senders m.senders m.state i f;
      }

  over_ear : (e : Ear) (moment moment2 : ℕ) (octets octets2 : List ℕ) (h : Hearing) (takes : Takes) (items : List (Item F)) (x : Item F) → text_in 0 x ≡ []
      → EarStands e Idle moment octets h takes items → EarStands e Over moment2 octets2 h takes (items ++ x ∷ [])
  over_ear e moment moment2 octets octets2 h takes items x none s = record {
    part = s.part;
    story = s.story;
    heard = s.heard;
    gave = s.gave;
    hears = s.hears;
    past = s.past;
    at_moment = λ q. absurd (true≢false (sym q));
    all = λ q. absurd (true≢false (sym q));
    part_is = s.part_is;
    texts = texts_same 0 items x none ∙ s.texts;
  }

  -- nothing more comes, for this reason
  pub stops : (l m : Leg A) (f : F) → l.state ≡ Idle → m.state ≡ Over → m.ear ≡ l.ear → m.settings ≡ l.settings → m.senders ≡ l.senders → m.tally ≡ l.tally
      → FailsThen g.came g.failed l.arrivals m.arrivals f → GivesThen g l m (Fault f ∷ [])
  stops l m f idle state ear settings senders tally fails first items s =
      let x : Item F = Fault f in
      let h = hearing_of first.settings in
      let n = s.so in
      let texts = texts_same 0 items x refl in
      let i = idle_is l.state h n.takes items idle n.phase in
      let before = subst (λ (st : State). EarStands l.ear st l.senders.moment l.packet.value h n.takes items) idle n.ear in
      record {
        so = record {
          takes = n.takes;
          settings = settings ∙ n.settings;
          ear = subst (λ (st : State). EarStands m.ear st m.senders.moment m.packet.value h n.takes (items ++ x ∷ [])) (sym state)
              (subst (λ (e : Ear). EarStands e Over m.senders.moment m.packet.value h n.takes (items ++ x ∷ [])) (sym ear)
              (over_ear l.ear l.senders.moment m.senders.moment l.packet.value m.packet.value h n.takes items x refl before));
          knows = subst (λ (k : Senders). Knows k h (told_by h n.takes)) (sym senders) n.knows;
          tally = subst (λ (k : LegTally). IsTally k (tally_by h n.takes)) (sym tally) n.tally;
          went = subst (λ (o : Option F). Went g o first.arrivals m.arrivals n.takes) (sym (fault_behind items (x ∷ []) (items_calm h n.takes items i.are)))
              (fails first.arrivals n.takes (came_so first.arrivals l.arrivals n.takes items (items_calm h n.takes items i.are) n.went));
          phase = subst (λ (st : State). PhaseAt st h n.takes (items ++ x ∷ [])) (sym state)
              (inr (record { before = items; last = x; items_are = refl; open_still = i.open_still; are = i.are; stops = tt }));
        };
        front = subst (λ cs. IsFront cs (all_by h n.takes)) (sym texts) s.front;
      }
