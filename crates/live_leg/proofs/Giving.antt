-- A leg gives what is ready by its link's takes.
use Rattle.std.proofs.Common.{◌≡◌, ℕ, Bool, true, false, true≢false, inl, Option, None, Some, List, [], ◌∷◌, ◌++◌, refl, ap, sym, ◌∙◌, subst, append_assoc, ◌||◌}
use Rattle.std.specs.Prelude.{filter, map, max, if◌then◌else◌, is_some, unwrap_or}
use Rattle.std.proofs.lemmas.List.{append-nil, map-append}
use Rattle.stream_spec.specs.Fronts.{IsFront, is_ready_by}
use Rattle.stream_spec.specs.Hearing.{marker}
use Rattle.stream_spec.specs.Ready.{Chunk, chunk, chunk_of}
use Rattle.reorder_buffer.specs.Stories.{Story}
use Rattle.receiver.specs.declared.settings.EarSettings.{EarSettings}
use Rattle.receiver.specs.declared.ears.Ear.{Ear}
use Rattle.receiver.specs.Hears.{Gave, GaveFront, GaveReady, GaveSome, GivesChunk, GivesNone, settings_of, ready_chunks, story_chunks}
use Rattle.workers.specs.Giving.{GivesMore, items_by}
use Rattle.live_leg.specs.declared.arrivals.Arrivals as arrivals
use Rattle.stream_spec.specs.Links.{Takes, is_closed}
use Rattle.file_spec.specs.Primaries.{primary_limit}
use Rattle.live_spec.specs.Told.{Hearing, Told, all_by, all_former, all_told, last_chunks, ready_by, ready_until, taken_over, told_by}
use Rattle.live_spec.specs.Tally.{tally_by}
use Rattle.live_spec.proofs.Fronts.{all_good, ready_is}
use Rattle.live_leg.specs.declared.settings.LegSettings.{LegSettings}
use Rattle.live_leg.specs.declared.senders.Senders.{Senders}
use Rattle.live_leg.specs.declared.items.LegItem.{LegItem}
use Rattle.live_leg.specs.declared.kinds.ItemKind.{ItemKind}
use Rattle.live_leg.specs.declared.kinds.ItemKind.TheVariants as kind
use Rattle.live_leg.specs.declared.states.State.{State}
use Rattle.live_leg.specs.declared.states.State.TheVariants.{Idle, Giving, Blank, Parting, Ending, Over}
use Rattle.live_leg.specs.declared.legs.Leg.{Leg}
use Rattle.live_leg.specs.declared.tallies.LegTally.{LegTally}
use Rattle.live_leg.specs.Senders.{Knows}
use Rattle.live_leg.specs.Tallies.{IsTally}
use Rattle.live_leg.specs.Stories.{BeginsWith, IsEarOf, hearing_of}
use Rattle.live_leg.specs.Items.{AreItems, Item, Text, Seen, Silent, End, fault_in, is_text, item_with, items_of, items_with, text_in, texts_in}
use Rattle.live_leg.specs.States.{is_ending, is_giving, is_going, is_heard}
use Rattle.live_leg.specs.Stands.{EarStands, GivesOf, GivesThen, IsGivingSome, IsPart, LegGave, LegStands, Nearly, PhaseAt, Went, given_as, is_last}
use Rattle.receiver.specs.Cuts.{is_cut, most_of}
use Rattle.live_leg.specs.Stepping.{seen_as}
use Rattle.live_leg.proofs.Parting.{front_at, over_former, part_chunks, part_front, part_ready}
use Rattle.live_leg.proofs.Telling.{first_heard}
use Rattle.live_leg.proofs.Texts.{all_texts, fault_before, items_append, texts_append, texts_same}

-- ---- what is ready
-- what is ready of all that was told, where the link is closed or not
abbrev ready_where : Hearing → Told → Bool → List Chunk
ready_where h d closed = if closed then all_told h d else filter (is_ready_by d.moment) (all_told h d)

ready_open : (lc : LegSettings) (takes : Takes) (settings : EarSettings) (story : Story) → (told_by (hearing_of lc) takes).closed ≡ false → IsEarOf (hearing_of lc) (told_by (hearing_of lc) takes) settings
    → story.past ≡ (told_by (hearing_of lc) takes).past → story.moment ≡ (told_by (hearing_of lc) takes).moment
    → all_former (hearing_of lc) (told_by (hearing_of lc) takes).before ++ ready_chunks settings settings.ssrc story ≡ ready_by (hearing_of lc) takes
ready_open lc takes settings story o e past moment =
    let h = hearing_of lc in
    let d = told_by h takes in
    let last : ready_chunks settings settings.ssrc story ≡ filter (is_ready_by d.moment) (last_chunks h d.sender d.past) =
    part_ready lc d settings story e past ∙ ap (λ (n : ℕ). filter (is_ready_by n) (last_chunks h d.sender d.past)) moment in
    ap (λ cs. all_former h d.before ++ cs) last ∙ (sym (ready_is h d d.moment (all_good h takes).until) ∙ ap (ready_where h d) (sym o))

ready_closed : (lc : LegSettings) (takes : Takes) (settings : EarSettings) (story : Story) → (told_by (hearing_of lc) takes).closed ≡ true → IsEarOf (hearing_of lc) (told_by (hearing_of lc) takes) settings
    → story.past ≡ (told_by (hearing_of lc) takes).past
    → all_former (hearing_of lc) (told_by (hearing_of lc) takes).before ++ story_chunks settings settings.ssrc story ≡ ready_by (hearing_of lc) takes
ready_closed lc takes settings story o e past =
    let h = hearing_of lc in
    let d = told_by h takes in
    ap (λ cs. all_former h d.before ++ cs) (part_chunks lc d settings story e past) ∙ ap (ready_where h d) (sym o)

-- ---- from one state to the next
given_append : (st : State) (m : ℕ) (xs ys : List Chunk) → given_as st m (xs ++ ys) ≡ given_as st m xs ++ given_as st m ys
given_append Idle m xs ys = refl
given_append Giving m xs ys = refl
given_append Blank m xs ys = refl
given_append Parting m xs ys = map-append (ready_until m) xs ys
given_append Ending m xs ys = refl
given_append Over m xs ys = refl

-- what holds of an ear in the one holds in the other
record Turns (a b : State) : Type 0 where
  given : (m : ℕ) (cs : List Chunk) → given_as b m cs ≡ given_as a m cs
  part : (h : Hearing) (takes : Takes) (octets : List ℕ) (part : Told) → IsPart a h takes octets part → IsPart b h takes octets part
  going : is_going b ≡ true → is_going a ≡ true
  last : is_last b ≡ true → is_last a ≡ true

stays : (a b : State) → b ≡ a → Turns a b
stays a b e = subst (λ (x : State). Turns a x) (sym e) (record { given = λ m cs. refl; part = λ h takes octets part p. p; going = λ g. g; last = λ l. l })

turns_idle : (a : State) → is_heard a ≡ true → is_ending a ≡ false → Turns a Idle
turns_idle Idle g e = absurd (true≢false (sym g))
turns_idle Giving g e = record { given = λ m cs. refl; part = λ h takes octets part p. p; going = λ g. refl; last = λ l. absurd (true≢false (sym l)) }
turns_idle Blank g e = record { given = λ m cs. refl; part = λ h takes octets part p. p; going = λ g. refl; last = λ l. absurd (true≢false (sym l)) }
turns_idle Parting g e = absurd (true≢false (sym g))
turns_idle Ending g e = absurd (true≢false e)
turns_idle Over g e = absurd (true≢false (sym g))

turns_over : (a : State) → is_ending a ≡ true → Turns a Over
turns_over Idle e = absurd (true≢false (sym e))
turns_over Giving e = absurd (true≢false (sym e))
turns_over Blank e = absurd (true≢false (sym e))
turns_over Parting e = absurd (true≢false (sym e))
turns_over Ending e = record { given = λ m cs. refl; part = λ h takes octets part p. p; going = λ g. absurd (true≢false (sym g)); last = λ l. absurd (true≢false (sym l)) }
turns_over Over e = absurd (true≢false (sym e))

-- an ear gave these chunks more
ear_gave : {F : Type 0} (h : Hearing) (takes : Takes) (a b : State) (l m : Ear) (moment : ℕ) (octets : List ℕ) (items xs : List (Item F)) (cs : List Chunk) → Turns a b → settings_of m ≡ settings_of l
    → (s : EarStands l a moment octets h takes items) → GaveSome m (settings_of l) (settings_of l).ssrc s.story (s.heard ++ cs) → texts_in 0 xs ≡ given_as a moment cs
    → EarStands m b moment octets h takes (items ++ xs)
ear_gave h takes a b l m moment octets items xs cs turns settings s gives are =
    let story = record s.story { given = gives.0 } in
    record {
      part = s.part;
      story = story;
      heard = s.heard ++ cs;
      gave = subst (λ (k : EarSettings). Gave m k k.ssrc story (s.heard ++ cs)) (sym settings) gives.1;
      hears = subst (λ (k : EarSettings). IsEarOf h s.part k) (sym settings) s.hears;
      past = s.past;
      at_moment = λ g. s.at_moment (turns.going g);
      all = λ l. subst (λ (k : EarSettings). ready_chunks k k.ssrc story ≡ story_chunks k k.ssrc story) (sym settings) (s.all (turns.last l));
      part_is = turns.part h takes octets s.part s.part_is;
      texts = texts_append 0 items xs
          ∙ ((λ ι. s.texts ι ++ are ι)
          ∙ (append_assoc (all_former h s.part.before) (given_as a moment s.heard) (given_as a moment cs)
          ∙ ap (λ ds. all_former h s.part.before ++ ds)
          (sym (given_append a moment s.heard cs) ∙ sym (turns.given moment (s.heard ++ cs)))));
    }

-- what it gave so far stands before all
ear_front : {F : Type 0} (lc : LegSettings) (takes : Takes) (st : State) (e : Ear) (moment : ℕ) (octets : List ℕ) (items : List (Item F)) → GaveFront e → moment ≡ (told_by (hearing_of lc) takes).moment
    → EarStands e st moment octets (hearing_of lc) takes items → IsFront (texts_in 0 items) (all_by (hearing_of lc) takes)
ear_front lc takes st e moment octets items f m s =
    subst (λ cs. IsFront cs (all_by (hearing_of lc) takes)) (sym s.texts)
    (front_at st (hearing_of lc) takes octets moment s.part s.heard s.part_is m (part_front lc s.part e s.story s.heard f s.hears s.past s.gave))

-- ---- one item more
with_text : {F : Type 0} (closing : Bool) (signal : Item F) (h : Hearing) (takes : Takes) (items : List (Item F)) (x : Item F) → is_text x ≡ true → IsGivingSome closing signal h takes items → IsGivingSome closing signal h takes (items ++ x ∷ [])
with_text closing signal h takes items x e w = record {
  last = w.last;
  past = w.past;
  before = w.before;
  news = w.news ++ x ∷ [];
  takes_are = w.takes_are;
  items_are = ap (λ l. l ++ x ∷ []) w.items_are ∙ append_assoc w.before w.news (x ∷ []);
  are = w.are;
  texts = all_texts w.news x w.texts e;
  closes = w.closes;
  signals = w.signals;
  open_before = w.open_before;
  closed = w.closed;
}

-- the answer's signal behind its texts, which are all that is ready
with_signal : {F : Type 0} (closing : Bool) (lc : LegSettings) (takes : Takes) (items : List (Item F)) (x : Item F) → texts_in 0 (items ++ x ∷ []) ≡ ready_by (hearing_of lc) takes
    → IsGivingSome closing x (hearing_of lc) takes items → AreItems (hearing_of lc) takes (items ++ x ∷ [])
with_signal closing lc takes items x all w =
    let h = hearing_of lc in
    subst (λ (ps : Takes). AreItems h ps (items ++ x ∷ [])) (sym w.takes_are) (
      w.before,
      w.news,
      ap (λ l. l ++ x ∷ []) w.items_are ∙ (append_assoc w.before w.news (x ∷ []) ∙ ap (λ y. w.before ++ (w.news ++ y ∷ [])) (sym w.signals)),
      w.are,
      w.texts,
      all ∙ ap (λ (ps : Takes). ready_by h ps) w.takes_are,
    )

closing_by : {F : Type 0} (h : Hearing) (takes : Takes) (items : List (Item F)) → IsGivingSome true End h takes items → is_closed takes ≡ true
closing_by h takes items w = ap is_closed w.takes_are ∙ ap (λ b. b || is_closed w.past) w.closes

text_phase : {F : Type 0} (st : State) (h : Hearing) (takes : Takes) (items : List (Item F)) (x : Item F) → is_text x ≡ true → is_giving st ≡ true
    → PhaseAt st h takes items → PhaseAt st h takes (items ++ x ∷ [])
text_phase Idle h takes items x t e p = absurd (true≢false (sym e))
text_phase Giving h takes items x t e p = with_text false Seen h takes items x t p
text_phase Blank h takes items x t e p = with_text false Silent h takes items x t p
text_phase Parting h takes items x t e p = with_text false Seen h takes items x t p
text_phase Ending h takes items x t e p = with_text true End h takes items x t p
text_phase Over h takes items x t e p = absurd (true≢false (sym e))

giving_is : {F : Type 0} (st : State) (h : Hearing) (takes : Takes) (items : List (Item F)) (c : Chunk) → is_heard st ≡ true → is_ending st ≡ false → PhaseAt st h takes items
    → IsGivingSome false (item_with (seen_as st) c) h takes items
giving_is Idle h takes items c e d p = absurd (true≢false (sym e))
giving_is Giving h takes items c e d p = p
giving_is Blank h takes items c e d p = p
giving_is Parting h takes items c e d p = absurd (true≢false (sym e))
giving_is Ending h takes items c e d p = absurd (true≢false d)
giving_is Over h takes items c e d p = absurd (true≢false (sym e))

ending_is : {F : Type 0} (st : State) (h : Hearing) (takes : Takes) (items : List (Item F)) → is_ending st ≡ true → PhaseAt st h takes items → IsGivingSome true End h takes items
ending_is Idle h takes items e p = absurd (true≢false (sym e))
ending_is Giving h takes items e p = absurd (true≢false (sym e))
ending_is Blank h takes items e p = absurd (true≢false (sym e))
ending_is Parting h takes items e p = absurd (true≢false (sym e))
ending_is Ending h takes items e p = p
ending_is Over h takes items e p = absurd (true≢false (sym e))

ending_last : (st : State) → is_ending st ≡ true → is_last st ≡ true
ending_last Idle e = absurd (true≢false (sym e))
ending_last Giving e = absurd (true≢false (sym e))
ending_last Blank e = absurd (true≢false (sym e))
ending_last Parting e = absurd (true≢false (sym e))
ending_last Ending e = refl
ending_last Over e = absurd (true≢false (sym e))

-- a state in which the sender is heard: the part is all that was told
part_now : (st : State) (h : Hearing) (takes : Takes) (octets : List ℕ) (part : Told) → is_heard st ≡ true → IsPart st h takes octets part → part ≡ told_by h takes
part_now Idle h takes octets part e p = p
part_now Giving h takes octets part e p = p
part_now Blank h takes octets part e p = p
part_now Parting h takes octets part e p = absurd (true≢false (sym e))
part_now Ending h takes octets part e p = p
part_now Over h takes octets part e p = p

as_now : (st : State) (m : ℕ) (cs : List Chunk) → is_heard st ≡ true → given_as st m cs ≡ cs
as_now Idle m cs e = refl
as_now Giving m cs e = refl
as_now Blank m cs e = refl
as_now Parting m cs e = absurd (true≢false (sym e))
as_now Ending m cs e = refl
as_now Over m cs e = refl

heard_if : (st : State) → is_ending st ≡ true → is_heard st ≡ true
heard_if Idle e = absurd (true≢false (sym e))
heard_if Giving e = refl
heard_if Blank e = refl
heard_if Parting e = absurd (true≢false (sym e))
heard_if Ending e = refl
heard_if Over e = absurd (true≢false (sym e))

pub going_if : (st : State) → is_heard st ≡ true → is_ending st ≡ false → is_going st ≡ true
going_if Idle e d = refl
going_if Giving e d = refl
going_if Blank e d = refl
going_if Parting e d = absurd (true≢false (sym e))
going_if Ending e d = absurd (true≢false d)
going_if Over e d = absurd (true≢false (sym e))

no_text : (F : Type 0) (st : State) (c : Chunk) (leg : ℕ) → text_in {F = F} leg (item_with (seen_as st) c) ≡ []
no_text F Idle c leg = refl
no_text F Giving c leg = refl
no_text F Blank c leg = refl
no_text F Parting c leg = refl
no_text F Ending c leg = refl
no_text F Over c leg = refl

no_fault : {F : Type 0} (st : State) (c : Chunk) → fault_in {F = F} (item_with (seen_as st) c ∷ []) ≡ None
no_fault Idle c = refl
no_fault Giving c = refl
no_fault Blank c = refl
no_fault Parting c = refl
no_fault Ending c = refl
no_fault Over c = refl

-- the chunk as it is given
abbrev given_chunk : State → ℕ → Chunk → Chunk
given_chunk Idle m c = c
given_chunk Giving m c = c
given_chunk Blank m c = c
given_chunk Parting m c = ready_until m c
given_chunk Ending m c = c
given_chunk Over m c = c

given_one : (st : State) (m : ℕ) (c : Chunk) → given_as st m (c ∷ []) ≡ given_chunk st m c ∷ []
given_one Idle m c = refl
given_one Giving m c = refl
given_one Blank m c = refl
given_one Parting m c = refl
given_one Ending m c = refl
given_one Over m c = refl

given_none : (st : State) (m : ℕ) → given_as st m [] ≡ []
given_none Idle m = refl
given_none Giving m = refl
given_none Blank m = refl
given_none Parting m = refl
given_none Ending m = refl
given_none Over m = refl

given_source : (st : State) (m : ℕ) (c : Chunk) → c.source ≡ 0 → (given_chunk st m c).source ≡ 0
given_source Idle m c e = e
given_source Giving m c e = e
given_source Blank m c e = e
given_source Parting m c e = e
given_source Ending m c e = e
given_source Over m c e = e

pub given_heard : (st : State) (m : ℕ) (c : Chunk) → is_heard st ≡ true → given_chunk st m c ≡ c
given_heard Idle m c e = refl
given_heard Giving m c e = refl
given_heard Blank m c e = refl
given_heard Parting m c e = absurd (true≢false (sym e))
given_heard Ending m c e = refl
given_heard Over m c e = refl

pub given_parting : (st : State) (m t : ℕ) (c x : Chunk) → st ≡ Parting → t ≡ m → x ≡ ready_until t c → x ≡ given_chunk st m c
given_parting st m t c x p e is = is ∙ (ap (λ (n : ℕ). ready_until n c) e ∙ sym (ap (λ (s : State). given_chunk s m c) p))

module _ {A F : Type 0} (g : arrivals.Ghosts A F) where
  -- what a leg did that gives: all but its ear and how far it is stays
  abbrev Same : Leg A → Leg A → Type 0
  Same l m = (m.arrivals ≡ l.arrivals) × (m.settings ≡ l.settings) × (m.senders ≡ l.senders) × (m.packet.value ≡ l.packet.value) × (m.tally ≡ l.tally)

  moment_is : (l : Leg A) (h : Hearing) (takes : Takes) → Knows l.senders h (told_by h takes) → l.senders.moment ≡ (told_by h takes).moment
  moment_is l h takes k = k.moment

  -- these items more
  stands_more : (first l m : Leg A) (items xs : List (Item F)) → fault_in xs ≡ None → Same l m → (n : Nearly g first l items)
      → EarStands m.ear m.state l.senders.moment l.packet.value (hearing_of first.settings) n.takes (items ++ xs)
      → IsFront (texts_in 0 (items ++ xs)) (all_by (hearing_of first.settings) n.takes)
      → PhaseAt m.state (hearing_of first.settings) n.takes (items ++ xs)
      → LegStands g first m (items ++ xs)
  stands_more first l m items xs well same n ear front phase =
      let h = hearing_of first.settings in
      record {
        so = record {
          takes = n.takes;
          settings = same.1 ∙ n.settings;
          ear = subst (λ (k : Senders). EarStands m.ear m.state k.moment m.packet.value h n.takes (items ++ xs)) (sym same.2)
              (subst (λ (os : List ℕ). EarStands m.ear m.state l.senders.moment os h n.takes (items ++ xs)) (sym same.3) ear);
          knows = subst (λ (k : Senders). Knows k h (told_by h n.takes)) (sym same.2) n.knows;
          tally = subst (λ (k : LegTally). IsTally k (tally_by h n.takes)) (sym same.4) n.tally;
          went = subst (λ (o : Option F). Went g o first.arrivals m.arrivals n.takes) (sym (fault_before items xs well))
              (subst (λ (k : A). Went g (fault_in items) first.arrivals k n.takes) (sym same.0) n.went);
          phase = phase;
        };
        front = front;
      }

  -- what the ear gave more, and with which items
  gave_more : (l m : Leg A) (cs : List Chunk) (xs : List (Item F)) → fault_in xs ≡ None → Same l m → Turns l.state m.state → settings_of m.ear ≡ settings_of l.ear → GaveFront m.ear
      → (first : Leg A) (items : List (Item F)) (n : Nearly g first l items)
      → GaveSome m.ear (settings_of l.ear) (settings_of l.ear).ssrc n.ear.story (n.ear.heard ++ cs)
      → texts_in 0 xs ≡ given_as l.state l.senders.moment cs
      → PhaseAt m.state (hearing_of first.settings) n.takes (items ++ xs)
      → LegStands g first m (items ++ xs)
  gave_more l m cs xs well same turns settings_is front first items n gives are phase =
      let h = hearing_of first.settings in
      let ear = ear_gave h n.takes l.state m.state l.ear m.ear l.senders.moment l.packet.value items xs cs turns settings_is n.ear gives are in
      stands_more first l m items xs well same n ear (ear_front first.settings n.takes m.state m.ear l.senders.moment l.packet.value (items ++ xs) front n.knows.moment ear) phase

  -- a text was given
  pub gives_next : (l m : Leg A) (c x : Chunk) → is_giving l.state ≡ true → m.state ≡ l.state → Same l m → settings_of m.ear ≡ settings_of l.ear
      → GivesChunk l.ear m.ear c → GaveFront m.ear → c.source ≡ 0 → x ≡ given_chunk l.state l.senders.moment c → GivesOf g l m (items_with (Some kind.Text) x)
  gives_next l m c x giving state same settings_is gives front own shown first items n =
      gave_more l m (c ∷ []) (Text x.ready x.text ∷ []) refl same (stays l.state m.state state) settings_is front first items n (gives (settings_of l.ear) (settings_of l.ear).ssrc n.ear.story n.ear.heard n.ear.gave)
      (ap (λ k. chunk k x.ready x.text ∷ []) (sym source) ∙ (ap (λ (k : Chunk). k ∷ []) shown ∙ sym (given_one l.state l.senders.moment c)))
      (subst (λ (st : State). PhaseAt st h n.takes (items ++ Text x.ready x.text ∷ [])) (sym state)
      (text_phase l.state h n.takes items (Text x.ready x.text) refl giving n.phase))
    where
      h : Hearing
      h = hearing_of first.settings

      source : x.source ≡ 0
      source = ap (λ (k : Chunk). k.source) shown ∙ given_source l.state l.senders.moment c own

  -- nothing more was given: all that is ready was
  marked : (l m : Leg A) (x : Item F) → ((leg : ℕ) → text_in leg x ≡ []) → fault_in (x ∷ []) ≡ None → Same l m → Turns l.state m.state → settings_of m.ear ≡ settings_of l.ear → GivesNone l.ear m.ear → GaveFront m.ear
      → (first : Leg A) (items : List (Item F)) (n : Nearly g first l items)
      → PhaseAt m.state (hearing_of first.settings) n.takes (items ++ x ∷ [])
      → LegStands g first m (items ++ x ∷ [])
  marked l m x none well same turns settings_is gives front first items n phase =
      let settings = settings_of l.ear in
      gave_more l m [] (x ∷ []) well same turns settings_is front first items n
      (subst (λ cs. GaveSome m.ear settings settings.ssrc n.ear.story cs) (sym (append-nil n.ear.heard)) (gives settings settings.ssrc n.ear.story n.ear.heard n.ear.gave))
      (append-nil (text_in 0 x) ∙ (none 0 ∙ sym (given_none l.state l.senders.moment))) phase

  -- that all was given, as it is said there
  gives_seen : (l m : Leg A) (c : Chunk) → is_heard l.state ≡ true → is_ending l.state ≡ false → m.state ≡ Idle → Same l m → settings_of m.ear ≡ settings_of l.ear
      → GivesNone l.ear m.ear → GaveReady l.ear → GaveFront m.ear → GivesOf g l m (item_with (seen_as l.state) c ∷ [])
  gives_seen l m c giving not_ending state same settings_is gives ready front first items n =
      let lc = first.settings in
      let h = hearing_of lc in
      let e = n.ear in
      let settings = settings_of l.ear in
      let x : Item F = item_with (seen_as l.state) c in
      let w = giving_is l.state h n.takes items c giving not_ending n.phase in
      let part = part_now l.state h n.takes l.packet.value e.part giving e.part_is in
      let all : texts_in 0 (items ++ x ∷ []) ≡ ready_by h n.takes = texts_same 0 items x (no_text F l.state c 0)
      ∙ (e.texts ∙ (ap (λ cs. all_former h e.part.before ++ cs) (as_now l.state l.senders.moment e.heard giving)
      ∙ (ap (λ cs. all_former h e.part.before ++ cs) (ready settings settings.ssrc e.story e.heard e.gave)
      ∙ (ap (λ (d : Told). all_former h d.before ++ ready_chunks settings settings.ssrc e.story) part
      ∙ ready_open lc n.takes settings e.story w.closed (subst (λ (d : Told). IsEarOf h d settings) part e.hears) (e.past ∙ ap (λ (d : Told). d.past) part)
      (e.at_moment (going_if l.state giving not_ending) ∙ ap (λ (d : Told). d.moment) part))))) in
      marked l m x (no_text F l.state c) (no_fault l.state c) same (subst (λ (st : State). Turns l.state st) (sym state) (turns_idle l.state giving not_ending)) settings_is gives front first items n
      (subst (λ (st : State). PhaseAt st h n.takes (items ++ x ∷ [])) (sym state) (record { open_still = w.closed; are = with_signal false lc n.takes items x all w }))

  pub gives_said : (l m : Leg A) (c : Chunk) (said : ItemKind F) → said ≡ seen_as l.state → is_heard l.state ≡ true → is_ending l.state ≡ false → m.state ≡ Idle → Same l m → settings_of m.ear ≡ settings_of l.ear
      → GivesNone l.ear m.ear → GaveReady l.ear → GaveFront m.ear → GivesOf g l m (items_with (Some said) c)
  gives_said l m c said is giving open_still state same settings_is gives ready front first items n =
      subst (λ (k : ItemKind F). LegStands g first m (items ++ item_with k c ∷ [])) (sym is) (gives_seen l m c giving open_still state same settings_is gives ready front first items n)

  pub gives_end : (l m : Leg A) → is_ending l.state ≡ true → m.state ≡ Over → Same l m → settings_of m.ear ≡ settings_of l.ear
      → GivesNone l.ear m.ear → GaveReady l.ear → GaveFront m.ear → GivesOf g l m (End ∷ [])
  gives_end l m ending state same settings_is gives ready front first items n =
      let lc = first.settings in
      let h = hearing_of lc in
      let e = n.ear in
      let settings = settings_of l.ear in
      let w = ending_is l.state h n.takes items ending n.phase in
      let heard = heard_if l.state ending in
      let part = part_now l.state h n.takes l.packet.value e.part heard e.part_is in
      let all : texts_in 0 (items ++ End ∷ []) ≡ ready_by h n.takes = texts_same 0 items End refl
      ∙ (e.texts ∙ (ap (λ cs. all_former h e.part.before ++ cs) (as_now l.state l.senders.moment e.heard heard)
      ∙ (ap (λ cs. all_former h e.part.before ++ cs) (ready settings settings.ssrc e.story e.heard e.gave ∙ e.all (ending_last l.state ending))
      ∙ (ap (λ (d : Told). all_former h d.before ++ story_chunks settings settings.ssrc e.story) part
      ∙ ready_closed lc n.takes settings e.story w.closed (subst (λ (d : Told). IsEarOf h d settings) part e.hears) (e.past ∙ ap (λ (d : Told). d.past) part))))) in
      marked l m End (λ leg. refl) refl same (subst (λ (st : State). Turns l.state st) (sym state) (turns_over l.state ending)) settings_is gives front first items n
      (subst (λ (st : State). PhaseAt st h n.takes (items ++ End ∷ [])) (sym state)
      (inl (record { closed = closing_by h n.takes items w; some = record { last = w.last; past = w.past; takes_are = w.takes_are; closes = w.closes; open_before = w.open_before }; are = with_signal true lc n.takes items End all w })))

  -- all of a sender was given from whom another took over: a marker, and the other is heard
  gives_turn : (l m : Leg A) (mid : Ear) (c : Chunk) → l.state ≡ Parting → m.state ≡ Giving → Same l m → settings_of mid ≡ settings_of l.ear → GivesNone l.ear mid → GaveReady l.ear
      → BeginsWith mid m.ear (unwrap_or l.senders.sender 0) l.senders.moment l.packet.value → c ≡ chunk 0 l.senders.moment marker → GivesOf g l m (Text c.ready c.text ∷ [])
  gives_turn l m mid c parting state same settings_is gives ready begins is first items n =
      let lc = first.settings in
      let h = hearing_of lc in
      let e = subst (λ (st : State). EarStands l.ear st l.senders.moment l.packet.value h n.takes items) parting n.ear in
      let settings = settings_of l.ear in
      let moment = l.senders.moment in
      let v = e.part_is in
      let x : Item F = Text c.ready c.text in
      let at : moment ≡ max e.part.moment v.at = n.knows.moment ∙ ap (λ (d : Told). d.moment) v.over in
      let there : l.senders.sender ≡ Some v.packet.ssrc = n.knows.sender ∙ ap (λ (d : Told). d.sender) v.over in
      let gone = gives settings settings.ssrc e.story e.heard e.gave in
      let all : e.heard ≡ last_chunks h e.part.sender e.part.past =
      ready settings settings.ssrc e.story e.heard e.gave ∙ (e.all refl ∙ part_chunks lc e.part settings e.story e.hears e.past) in
      let texts : texts_in 0 (items ++ x ∷ []) ≡ all_former h (taken_over e.part v.at v.packet).before = texts_append 0 items (x ∷ [])
      ∙ (ap (λ cs. cs ++ texts_in 0 (x ∷ [])) (e.texts ∙ ap (λ cs. all_former h e.part.before ++ map (ready_until moment) cs) all)
      ∙ (append_assoc (all_former h e.part.before) (map (ready_until moment) (last_chunks h e.part.sender e.part.past)) (texts_in 0 (x ∷ []))
      ∙ (ap (λ (k : Chunk). all_former h e.part.before ++ (map (ready_until moment) (last_chunks h e.part.sender e.part.past) ++ chunk 0 k.ready k.text ∷ [])) is
      ∙ (ap (λ (t : ℕ). all_former h e.part.before ++ (map (ready_until t) (last_chunks h e.part.sender e.part.past) ++ chunk 0 t marker ∷ [])) at
      ∙ sym (over_former h e.part v.at v.ssrc v.sender))))) in
      let ear : EarStands m.ear m.state moment l.packet.value h n.takes (items ++ x ∷ []) =
      first_heard lc mid m.ear m.state moment l.packet.value l.packet.value n.takes (items ++ x ∷ []) e.part v.at v.packet (unwrap_or l.senders.sender 0)
      (record e.story { given = gone.0 }) e.heard (subst (λ (k : EarSettings). Gave mid k k.ssrc (record e.story { given = gone.0 }) e.heard) (sym settings_is) gone.1)
      (ap (λ (k : EarSettings). k.payload_types) settings_is ∙ e.hears.payload_types) (ap (λ (k : EarSettings). primary_limit k.long) settings_is ∙ e.hears.most) (ap (λ (k : EarSettings). k.wait) settings_is ∙ e.hears.wait)
      (ap (λ (k : EarSettings). is_cut k.cut) settings_is ∙ e.hears.cut) (ap (λ (k : EarSettings). most_of k.cut) settings_is ∙ e.hears.piece)
      begins (ap (λ (o : Option ℕ). unwrap_or o 0) there) at v.reads v.over state texts in
      stands_more first l m items (x ∷ []) refl same n ear
      (subst (λ cs. IsFront cs (all_by h n.takes)) (sym texts)
      (subst (λ (d : Told). IsFront (all_former h (taken_over e.part v.at v.packet).before) (all_told h d)) (sym v.over)
      (last_chunks h (taken_over e.part v.at v.packet).sender (taken_over e.part v.at v.packet).past, refl)))
      (subst (λ (st : State). PhaseAt st h n.takes (items ++ x ∷ [])) (sym state)
      (with_text false Seen h n.takes items x refl (subst (λ (st : State). PhaseAt st h n.takes items) parting n.phase)))

  pub gives_marker : (l m : Leg A) (mid : Ear) (c : Chunk) → l.state ≡ Parting → m.state ≡ Giving → Same l m → settings_of mid ≡ settings_of l.ear → GivesNone l.ear mid → GaveReady l.ear
      → BeginsWith mid m.ear (unwrap_or l.senders.sender 0) l.senders.moment l.packet.value → c ≡ chunk 0 l.senders.moment marker → GivesOf g l m (items_with (Some kind.Text) c)
  gives_marker l m mid c parting state same settings_is gives ready begins is = gives_turn l m mid c parting state same settings_is gives ready begins is

  -- ---- as items that are used again
  pub gave_with : (l m : Leg A) (given : Option (ItemKind F)) (some : Bool) (x : LegItem F) → some ≡ is_some given → x.kind ≡ unwrap_or given kind.Seen
      → GivesThen g l m (items_with given (chunk_of x.chunk.value)) → GivesMore (LegGave g) l m (items_by some x)
  gave_with l m given some x is e h = subst (λ (b : Bool). GivesMore (LegGave g) l m (items_by b x)) (sym is) (go given e h)
    where
      go : (given : Option (ItemKind F)) → x.kind ≡ unwrap_or given kind.Seen → GivesThen g l m (items_with given (chunk_of x.chunk.value)) → GivesMore (LegGave g) l m (items_by (is_some given) x)
      go None e h = λ first gave s.
          subst (λ (xs : List (LegItem F)). LegGave g first m xs) (sym (append-nil gave)) (subst (λ (items : List (Item F)). LegStands g first m items) (append-nil (items_of gave)) (h first (items_of gave) s))
      go (Some k) e h = λ first gave s.
          subst (λ (items : List (Item F)). LegStands g first m items)
          (sym (items_append gave (x ∷ []) ∙ ap (λ (k : ItemKind F). items_of gave ++ item_with k (chunk_of x.chunk.value) ∷ []) e)) (h first (items_of gave) s)
