-- What a leg gave, by what came.
use Rattle.std.specs.Prelude.{◌≡◌, ◌≤◌, ◌⊎◌, ℕ, Bool, true, false, Option, None, Some, Ok, List, [], ◌∷◌, ◌++◌, map}
use Rattle.rtt_base.specs.declared.limits.TheConstants.{MOST_ARRIVALS}
use Rattle.stream_spec.specs.Fronts.{IsFront}
use Rattle.stream_spec.specs.Ready.{Chunk}
use Rattle.reorder_buffer.specs.Stories.{Story}
use Rattle.wire_spec.specs.Packets.{Packet}
use Rattle.wire_spec.specs.Text.{text_within}
use Rattle.receiver.specs.declared.ears.Ear.{Ear}
use Rattle.receiver.specs.Hears.{Gave, arrival_count, settings_of, ready_chunks, story_chunks}
use Rattle.stream_spec.specs.Links.{Taken, Takes, Datagram, is_closed, is_closing}
use Rattle.live_spec.specs.Told.{Hearing, Told, all_by, all_former, ready_until, taken_over, told_by}
use Rattle.live_spec.specs.Tally.{tally_by}
use Rattle.live_leg.specs.declared.items.LegItem.{LegItem}
use Rattle.live_leg.specs.declared.states.State.{State}
use Rattle.live_leg.specs.declared.states.State.TheVariants.{Idle, Giving, Blank, Parting, Ending, Over}
use Rattle.live_leg.specs.declared.arrivals.Arrivals as arrivals
use Rattle.live_leg.specs.declared.legs.Leg.{Leg}
use Rattle.live_leg.specs.Senders.{Knows}
use Rattle.live_leg.specs.Tallies.{IsTally}
use Rattle.live_leg.specs.Stories.{IsEarOf, hearing_of}
use Rattle.live_leg.specs.States.{is_giving, is_going}
use Rattle.live_leg.specs.Items.{AreItems, AreTexts, Item, Text, Seen, Silent, End, Fault, fault_in, items_of, signal_of, texts_in}

-- This is the last item of a leg of which nothing more comes, though it is not closed.
abbrev pub IsStop : {F : Type 0} → Item F → Type 0
IsStop (Text ready octets) = ⊥
IsStop Seen = ⊥
IsStop Silent = ⊥
IsStop End = ⊥
IsStop (Fault f) = Unit {0}

-- ---- items so far
-- All that was ready by the takes was given, and that was said.
pub record IsIdle {F : Type 0} (h : Hearing) (takes : Takes) (items : List (Item F)) : Type 0 where
  pub open_still : (told_by h takes).closed ≡ false
  pub are : AreItems h takes items

-- Some of what is ready by the takes was given; the last of them closed the link, or not, and has this signal.
pub record IsGivingSome {F : Type 0} (closing : Bool) (signal : Item F) (h : Hearing) (takes : Takes) (items : List (Item F)) : Type 0 where
  pub last : Taken
  pub past : Takes
  pub before : List (Item F)
  pub news : List (Item F)
  pub takes_are : takes ≡ last ∷ past
  pub items_are : items ≡ before ++ news
  pub are : AreItems h past before
  pub texts : AreTexts news
  pub closes : is_closing last.came ≡ closing
  pub signals : signal_of last.came ≡ signal
  pub open_before : (told_by h past).closed ≡ false
  pub closed : (told_by h takes).closed ≡ closing

-- The last take closed the link, and none before it.
pub record IsGivenBefore (h : Hearing) (takes : Takes) : Type 0 where
  pub last : Taken
  pub past : Takes
  pub takes_are : takes ≡ last ∷ past
  pub closes : is_closing last.came ≡ true
  pub open_before : (told_by h past).closed ≡ false

-- All was given behind which the link is closed.
pub record IsEnded {F : Type 0} (h : Hearing) (takes : Takes) (items : List (Item F)) : Type 0 where
  pub closed : is_closed takes ≡ true
  pub some : IsGivenBefore h takes
  pub are : AreItems h takes items

-- Nothing more comes, though it is not closed.
pub record IsStopped {F : Type 0} (h : Hearing) (takes : Takes) (items : List (Item F)) : Type 0 where
  pub before : List (Item F)
  pub last : Item F
  pub items_are : items ≡ before ++ last ∷ []
  pub open_still : (told_by h takes).closed ≡ false
  pub are : AreItems h takes before
  pub stops : IsStop last

abbrev pub PhaseAt : {F : Type 0} → State → Hearing → Takes → List (Item F) → Type 0
PhaseAt Idle h takes items = IsIdle h takes items
PhaseAt Giving h takes items = IsGivingSome false Seen h takes items
PhaseAt Blank h takes items = IsGivingSome false Silent h takes items
PhaseAt Parting h takes items = IsGivingSome false Seen h takes items
PhaseAt Ending h takes items = IsGivingSome true End h takes items
PhaseAt Over h takes items = IsEnded h takes items ⊎ IsStopped h takes items

-- ---- whom the ear hears
-- The last take gave these octets: a packet of one who took over from the sender of the part.
pub record IsTakenOver (h : Hearing) (takes : Takes) (octets : List ℕ) (part : Told) : Type 0 where
  pub at : ℕ
  pub past : Takes
  pub takes_are : takes ≡ record { at = at; came = Datagram octets } ∷ past
  pub part_is : part ≡ told_by h past
  pub packet : Packet
  pub reads : text_within h.most octets None h.payload_types ≡ Ok packet
  pub over : told_by h takes ≡ taken_over part at packet
  pub ssrc : ℕ
  pub sender : part.sender ≡ Some ssrc

-- The part that is being given: all that was told, or, where one took over, what was told before.
abbrev pub IsPart : State → Hearing → Takes → List ℕ → Told → Type 0
IsPart Idle h takes octets part = part ≡ told_by h takes
IsPart Giving h takes octets part = part ≡ told_by h takes
IsPart Blank h takes octets part = part ≡ told_by h takes
IsPart Parting h takes octets part = IsTakenOver h takes octets part
IsPart Ending h takes octets part = part ≡ told_by h takes
IsPart Over h takes octets part = part ≡ told_by h takes

-- what is left of a sender is ready when the other took over at the latest
abbrev pub given_as : State → ℕ → List Chunk → List Chunk
given_as Idle t cs = cs
given_as Giving t cs = cs
given_as Blank t cs = cs
given_as Parting t cs = map (ready_until t) cs
given_as Ending t cs = cs
given_as Over t cs = cs

-- nothing of what the ear was told is waited for any longer
abbrev pub is_last : State → Bool
is_last state = elim state [ Parting ↦ true | Ending ↦ true | _ ↦ false ]

-- What is known of the ear of a leg that is heard so and so far, of which these takes came, the last with these octets where
-- it gave a datagram: what it was told and gave. The texts of the leg's items are those of the senders before, and what the ear
-- gave.
pub record EarStands {F : Type 0} (e : Ear) (state : State) (moment : ℕ) (octets : List ℕ) (h : Hearing) (takes : Takes) (items : List (Item F)) : Type 0 where
  pub part : Told
  pub story : Story
  pub heard : List Chunk
  pub gave : Gave e (settings_of e) (settings_of e).ssrc story heard
  pub hears : IsEarOf h part (settings_of e)
  pub past : story.past ≡ part.past
  pub at_moment : is_going state ≡ true → story.moment ≡ part.moment
  pub all : is_last state ≡ true → ready_chunks (settings_of e) (settings_of e).ssrc story ≡ story_chunks (settings_of e) (settings_of e).ssrc story
  pub part_is : IsPart state h takes octets part
  pub texts : texts_in 0 items ≡ all_former h part.before ++ given_as state moment heard

module _ {A F : Type 0} (g : arrivals.Ghosts A F) where
  -- these takes came, newest first, and where it failed, it failed so behind them
  abbrev pub Went : Option F → A → A → Takes → Type 0
  Went None first now takes = g.came first now takes
  Went (Some f) first now takes = g.failed first now takes f

  -- From `first` on, of which nothing was asked, these takes came, newest first, and it gave these items, oldest first.
  pub record Nearly (first now : Leg A) (items : List (Item F)) : Type 0 where
    pub takes : Takes
    pub settings : now.settings ≡ first.settings
    pub ear : EarStands now.ear now.state now.senders.moment now.packet.value (hearing_of first.settings) takes items
    pub knows : Knows now.senders (hearing_of first.settings) (told_by (hearing_of first.settings) takes)
    pub tally : IsTally now.tally (tally_by (hearing_of first.settings) takes)
    pub went : Went (fault_in items) first.arrivals now.arrivals takes
    pub phase : PhaseAt now.state (hearing_of first.settings) takes items

  -- and its texts are the first of all that are heard by these takes
  pub record LegStands (first now : Leg A) (items : List (Item F)) : Type 0 where
    pub so : Nearly first now items
    pub front : IsFront (texts_in 0 items) (all_by (hearing_of first.settings) so.takes)

  abbrev pub LegGave : Leg A → Leg A → List (LegItem F) → Type 0
  LegGave first now gave = LegStands first now (items_of gave)

  -- ---- what calls make of it
  -- more came
  abbrev pub Listens : Leg A → Leg A → Type 0
  Listens old new = (first : Leg A) (items : List (Item F)) → LegStands first old items → Nearly first new items

  -- these items were given
  abbrev pub GivesThen : Leg A → Leg A → List (Item F) → Type 0
  GivesThen old new xs = (first : Leg A) (items : List (Item F)) → LegStands first old items
      → LegStands first new (items ++ xs)

  -- these items were given, of what was taken just now
  abbrev pub GivesOf : Leg A → Leg A → List (Item F) → Type 0
  GivesOf old new xs = (first : Leg A) (items : List (Item F)) → Nearly first old items
      → LegStands first new (items ++ xs)

module _ {A : Type 0} where
  -- where nothing was given: it has more to give, or it heard all that an ear hears
  abbrev pub GetsOn : Leg A → Leg A → Type 0
  GetsOn old new = (is_giving new.state ≡ true) ⊎ (MOST_ARRIVALS ≤ arrival_count old.ear)
