-- What an ear knows once its leg was told of a take.
use Rattle.std.proofs.Common.{◌≡◌, ◌≤◌, ℕ, Bool, true, false, true≢false, Option, None, Some, List, [], ◌∷◌, ◌++◌, Result, Ok, Err, refl, ap, sym, ◌∙◌, subst, arith}
use Rattle.std.specs.Prelude.{filter, max, unwrap_or}
use Rattle.std.proofs.lemmas.List.{append-nil}
use Rattle.rtt_base.specs.declared.text_packets.PayloadTypes.{PayloadTypes}
use Rattle.wire_spec.specs.declared.faults.TextFault.{TextFault}
use Rattle.wire_spec.specs.Packets.{Arrival, Packet}
use Rattle.wire_spec.specs.Text.{text_within}
use Rattle.file_spec.specs.Primaries.{primary_limit}
use Rattle.stream_spec.specs.Fronts.{is_ready_by}
use Rattle.stream_spec.specs.Ready.{Chunk}
use Rattle.receiver.specs.Cuts.{is_cut, most_of}
use Rattle.reorder_buffer.specs.Stories.{Story, begun, came, ended, went}
use Rattle.receiver.specs.declared.settings.EarSettings.{EarSettings}
use Rattle.receiver.specs.declared.ears.Ear.{Ear}
use Rattle.receiver.specs.Hears.{Gave, settings_of, ready_chunks, story_chunks, text_for, told}
use Rattle.link_io.specs.declared.ends.Came.{Came}
use Rattle.link_io.specs.declared.ends.Came.TheVariants as came
use Rattle.link_io.specs.Taking.{came_of}
use Rattle.stream_spec.specs.Links.{Takes}
use Rattle.stream_spec.specs.Links as link
use Rattle.live_spec.specs.Told.{Former, Hearing, Told, all_former, arrival_at, former_after, is_sender, last_chunks, ready_by, taken_over, takes_over, told_by, told_moment, told_packet, with_packet}
use Rattle.live_spec.proofs.Asked.{eqb_true, own_asked}
use Rattle.live_leg.specs.declared.settings.LegSettings.{LegSettings}
use Rattle.live_leg.specs.declared.senders.Senders.{Senders}
use Rattle.live_leg.specs.declared.states.State.{State}
use Rattle.live_leg.specs.declared.states.State.TheVariants.{Idle, Giving, Blank, Parting, Ending}
use Rattle.live_leg.specs.Items.{Item, texts_in}
use Rattle.live_leg.specs.Senders.{over_from, sent_of}
use Rattle.live_leg.specs.Stands.{EarStands}
use Rattle.live_leg.specs.Stories.{BeginsWith, Ends, HearsMore, HearsSent, IsEarOf, IsOf, Waits, hearing_of, state_of_sent}
use Rattle.live_leg.specs.Taking.{Follows}
use Rattle.live_leg.proofs.Knowing.{sent_if, told_if}
use Rattle.live_leg.proofs.Parting.{all_soon, ready_part}

sender_there : (o : Option ℕ) (x : ℕ) → is_sender o x ≡ true → o ≡ Some x
sender_there None x e = absurd (true≢false (sym e))
sender_there (Some s) x e = ap (λ (n : ℕ). Some n) (sym (eqb_true x s e))

-- a packet that is read is read by an ear that is asked for its SSRC
pub read_here : (most : ℕ) (octets : List ℕ) (payload_types : PayloadTypes) (p : Packet) (settings : EarSettings) → settings.payload_types ≡ payload_types → primary_limit settings.long ≡ most → settings.ssrc ≡ p.ssrc → text_within most octets None payload_types ≡ Ok p → text_for settings octets ≡ Ok p
read_here most octets payload_types p settings e l s r = (λ i. text_within (l i) octets (Some (s i)) (e i)) ∙ own_asked most octets payload_types p r

-- an ear that hears the first packet of its sender, and nothing before
pub first_heard : {F : Type 0} (lc : LegSettings) (old new : Ear) (state : State) (moment : ℕ) (packet octets : List ℕ) (takes : Takes) (items : List (Item F)) (d : Told) (t : ℕ) (p : Packet) (ssrc : ℕ)
    (story : Story) (heard : List Chunk) → Gave old (settings_of old) (settings_of old).ssrc story heard → (settings_of old).payload_types ≡ lc.ear.payload_types → primary_limit (settings_of old).long ≡ primary_limit lc.ear.long → (settings_of old).wait ≡ lc.ear.wait → is_cut (settings_of old).cut ≡ true → most_of (settings_of old).cut ≡ most_of lc.ear.cut
    → BeginsWith old new ssrc moment octets → ssrc ≡ p.ssrc → moment ≡ max d.moment t → text_within (primary_limit lc.ear.long) octets None lc.ear.payload_types ≡ Ok p → told_by (hearing_of lc) takes ≡ taken_over d t p → state ≡ Giving
    → texts_in 0 items ≡ all_former (hearing_of lc) (taken_over d t p).before
    → EarStands new state moment packet (hearing_of lc) takes items
first_heard lc old new state moment packet octets takes items d t p ssrc story heard gave payload_types most wait cut piece b same at reads is stands texts = subst (λ (st : State). EarStands new st moment packet (hearing_of lc) takes items) (sym stands) (
    let settings = settings_of old in
    let mine : EarSettings = record settings { ssrc = ssrc } in
    let here = read_here (primary_limit lc.ear.long) octets lc.ear.payload_types p mine payload_types most same reads in
    let h = hearing_of lc in
    let now : Story = came (begun settings.wait) moment p in
    let time : max 0 moment ≡ max d.moment t = (let z : max 0 moment ≡ moment = omega arith in z ∙ at) in
    record {
      part = taken_over d t p;
      story = now;
      heard = [];
      gave = subst (λ (k : EarSettings). Gave new k k.ssrc now []) (sym b.settings)
          (subst (λ (r : Result Packet TextFault). Gave new mine ssrc (told (begun settings.wait) moment r) []) here (b.begins settings settings.ssrc story heard gave));
      hears = record {
        payload_types = ap (λ (k : EarSettings). k.payload_types) b.settings ∙ payload_types;
        most = ap (λ (k : EarSettings). primary_limit k.long) b.settings ∙ most;
        wait = ap (λ (k : EarSettings). k.wait) b.settings ∙ wait;
        cut = ap (λ (k : EarSettings). is_cut k.cut) b.settings ∙ cut;
        piece = ap (λ (k : EarSettings). most_of k.cut) b.settings ∙ piece;
        sender = ap (λ (k : EarSettings). k.ssrc) b.settings ∙ same;
      };
      past = ap (λ (n : ℕ). record { time = n; packet = p } ∷ []) time;
      at_moment = λ _. time;
      all = λ e. absurd (true≢false (sym e));
      part_is = sym is;
      texts = texts ∙ sym (append-nil (all_former h (taken_over d t p).before));
    })

-- a leg that is giving, whose link had nothing
pub as_blank : {F : Type 0} (e : Ear) (moment : ℕ) (octets : List ℕ) (h : Hearing) (takes : Takes) (items : List (Item F)) → EarStands e Giving moment octets h takes items → EarStands e Blank moment octets h takes items
as_blank e moment octets h takes items s = record {
  part = s.part;
  story = s.story;
  heard = s.heard;
  gave = s.gave;
  hears = s.hears;
  past = s.past;
  at_moment = s.at_moment;
  all = s.all;
  part_is = s.part_is;
  texts = s.texts;
}

-- ---- behind all that is ready was given
module _ {F : Type 0} (lc : LegSettings) (takes : Takes) (items : List (Item F)) (l m : Ear) (before octets : List ℕ) (old : ℕ) (s : EarStands l Idle old before (hearing_of lc) takes items)
    (open_still : (told_by (hearing_of lc) takes).closed ≡ false) (ready : texts_in 0 items ≡ ready_by (hearing_of lc) takes) (moment ssrc t : ℕ) where
  abbrev h : Hearing
  h = hearing_of lc

  abbrev d : Told
  d = told_by (hearing_of lc) takes

  -- what is known of the part, of all that was told
  hears_now : IsEarOf (hearing_of lc) (told_by (hearing_of lc) takes) (settings_of l)
  hears_now = subst (λ (x : Told). IsEarOf (hearing_of lc) x (settings_of l)) s.part_is s.hears

  past_now : s.story.past ≡ (told_by (hearing_of lc) takes).past
  past_now = s.past ∙ ap (λ (x : Told). x.past) s.part_is

  moment_now : s.story.moment ≡ (told_by (hearing_of lc) takes).moment
  moment_now = s.at_moment refl ∙ ap (λ (x : Told). x.moment) s.part_is

  texts_now : texts_in 0 items ≡ all_former (hearing_of lc) (told_by (hearing_of lc) takes).before ++ s.heard
  texts_now = s.texts ∙ ap (λ (x : Told). all_former (hearing_of lc) x.before ++ s.heard) s.part_is

  -- nothing new was told
  same_ear : (next : Takes) → m ≡ l → told_by (hearing_of lc) next ≡ told_by (hearing_of lc) takes → EarStands m Giving moment octets (hearing_of lc) next items
  same_ear next e is = subst (λ (x : Ear). EarStands x Giving moment octets (hearing_of lc) next items) (sym e) (record {
    part = d;
    story = s.story;
    heard = s.heard;
    gave = s.gave;
    hears = hears_now;
    past = past_now;
    at_moment = λ _. moment_now;
    all = λ q. absurd (true≢false (sym q));
    part_is = sym is;
    texts = texts_now;
  })

  -- the sender's story goes on
  goes_on : (next : Takes) (e : Told) (story : Story) → e.before ≡ d.before → Gave m (settings_of l) (settings_of l).ssrc story s.heard → settings_of m ≡ settings_of l → IsOf e.sender (settings_of l).ssrc e.past
      → story.past ≡ e.past → story.moment ≡ e.moment → told_by (hearing_of lc) next ≡ e → EarStands m Giving moment octets (hearing_of lc) next items
  goes_on next e story same gave settings of past at is = record {
    part = e;
    story = story;
    heard = s.heard;
    gave = subst (λ (k : EarSettings). Gave m k k.ssrc story s.heard) (sym settings) gave;
    hears = record {
      payload_types = ap (λ (k : EarSettings). k.payload_types) settings ∙ s.hears.payload_types;
      most = ap (λ (k : EarSettings). primary_limit k.long) settings ∙ s.hears.most;
      wait = ap (λ (k : EarSettings). k.wait) settings ∙ s.hears.wait;
      cut = ap (λ (k : EarSettings). is_cut k.cut) settings ∙ s.hears.cut;
      piece = ap (λ (k : EarSettings). most_of k.cut) settings ∙ s.hears.piece;
      sender = subst (λ (k : EarSettings). IsOf e.sender k.ssrc e.past) (sym settings) of;
    };
    past = past;
    at_moment = λ _. at;
    all = λ q. absurd (true≢false (sym q));
    part_is = sym is;
    texts = texts_now ∙ ap (λ (b : List Former). all_former (hearing_of lc) b ++ s.heard) (sym same);
  }

  -- all of the sender is ready, since the link is closed
  closes : (next : Takes) → Ends l m → told_by (hearing_of lc) next ≡ record d { closed = true } → EarStands m Ending moment octets (hearing_of lc) next items
  closes next ends is = record {
    part = record d { closed = true };
    story = ended s.story;
    heard = s.heard;
    gave = subst (λ (k : EarSettings). Gave m k k.ssrc (ended s.story) s.heard) (sym ends.settings) (ends.becomes.gave (settings_of l) (settings_of l).ssrc s.story s.heard s.gave);
    hears = subst (λ (k : EarSettings). IsEarOf (hearing_of lc) (record d { closed = true }) k) (sym ends.settings) (record { payload_types = hears_now.payload_types; most = hears_now.most; wait = hears_now.wait; cut = hears_now.cut; piece = hears_now.piece; sender = hears_now.sender });
    past = past_now;
    at_moment = λ q. absurd (true≢false (sym q));
    all = λ _. subst (λ (k : EarSettings). ready_chunks k k.ssrc (ended s.story) ≡ story_chunks k k.ssrc (ended s.story)) (sym ends.settings)
        ((ends.all (settings_of l) ((settings_of l).ssrc ∷ []) s.story s.gave.hears).chunks (settings_of l).ssrc);
    part_is = sym is;
    texts = texts_now;
  }

  -- or since one took over from it
  parts : (p : Packet) (x : ℕ) → d.sender ≡ Some x → moment ≡ max d.moment t → text_within (primary_limit lc.ear.long) octets None lc.ear.payload_types ≡ Ok p → Ends l m
      → told_by (hearing_of lc) (record { at = t; came = link.Datagram octets } ∷ takes) ≡ taken_over d t p
      → EarStands m Parting moment octets (hearing_of lc) (record { at = t; came = link.Datagram octets } ∷ takes) items
  parts p x there at reads ends is =
      let later : d.moment ≤ moment = omega (arith, at) in
      let soon = all_soon (hearing_of lc) takes s.heard moment open_still later (sym texts_now ∙ ready) in
      record {
        part = d;
        story = ended s.story;
        heard = s.heard;
        gave = subst (λ (k : EarSettings). Gave m k k.ssrc (ended s.story) s.heard) (sym ends.settings) (ends.becomes.gave (settings_of l) (settings_of l).ssrc s.story s.heard s.gave);
        hears = subst (λ (k : EarSettings). IsEarOf (hearing_of lc) d k) (sym ends.settings) hears_now;
        past = past_now;
        at_moment = λ q. absurd (true≢false (sym q));
        all = λ _. subst (λ (k : EarSettings). ready_chunks k k.ssrc (ended s.story) ≡ story_chunks k k.ssrc (ended s.story)) (sym ends.settings)
            ((ends.all (settings_of l) ((settings_of l).ssrc ∷ []) s.story s.gave.hears).chunks (settings_of l).ssrc);
        part_is = record { at = t; past = takes; takes_are = refl; part_is = refl; packet = p; reads = reads; over = is; ssrc = x; sender = there };
        texts = texts_now ∙ ap (λ cs. all_former (hearing_of lc) d.before ++ cs) (sym soon);
      }

  -- one took over from nobody
  begins : (next : Takes) (p : Packet) → d.sender ≡ None → ssrc ≡ p.ssrc → moment ≡ max d.moment t → text_within (primary_limit lc.ear.long) octets None lc.ear.payload_types ≡ Ok p → BeginsWith l m ssrc moment octets
      → told_by (hearing_of lc) next ≡ taken_over d t p → EarStands m Giving moment octets (hearing_of lc) next items
  begins next p none same at reads b is =
      let empty : s.heard ≡ [] = ready_part (hearing_of lc) takes s.heard open_still (sym texts_now ∙ ready)
      ∙ ap (λ (o : Option ℕ). filter (is_ready_by d.moment) (last_chunks (hearing_of lc) o d.past)) none in
      first_heard lc l m Giving moment octets octets next items d t p ssrc s.story s.heard s.gave hears_now.payload_types hears_now.most hears_now.wait hears_now.cut hears_now.piece b same at reads is refl
      (texts_now ∙ (ap (λ cs. all_former (hearing_of lc) d.before ++ cs) empty
      ∙ (append-nil (all_former (hearing_of lc) d.before) ∙ ap (λ (o : Option ℕ). all_former (hearing_of lc) (former_after o d.past (max d.moment t) d.before)) (sym none))))

  -- a packet of the sender
  hears_more : (next : Takes) (p : Packet) → is_sender d.sender p.ssrc ≡ true → moment ≡ max d.moment t → text_within (primary_limit lc.ear.long) octets None lc.ear.payload_types ≡ Ok p → HearsMore l m moment octets
      → told_by (hearing_of lc) next ≡ with_packet d t p → EarStands m Giving moment octets (hearing_of lc) next items
  hears_more next p is_one at reads b is =
      let there = sender_there d.sender p.ssrc is_one in
      let mine : (settings_of l).ssrc ≡ p.ssrc = subst (λ (o : Option ℕ). IsOf o (settings_of l).ssrc d.past) there hears_now.sender in
      let here = read_here (primary_limit lc.ear.long) octets lc.ear.payload_types p (settings_of l) hears_now.payload_types hears_now.most mine reads in
      let time : max s.story.moment moment ≡ max d.moment t = (let n = moment_now in omega (arith, n, at)) in
      goes_on next (with_packet d t p) (came s.story moment p) refl
      (subst (λ (r : Result Packet TextFault). Gave m (settings_of l) (settings_of l).ssrc (told s.story moment r) s.heard) here (b.becomes.gave (settings_of l) (settings_of l).ssrc s.story s.heard s.gave))
      b.settings (subst (λ (o : Option ℕ). IsOf o (settings_of l).ssrc (arrival_at d t p ∷ d.past)) (sym there) mine)
      (ap (λ (n : ℕ). record { time = n; packet = p } ∷ s.story.past) time ∙ ap (λ (ps : List Arrival). arrival_at d t p ∷ ps) past_now)
      time is

  -- ---- a datagram
  abbrev next_takes : Takes
  next_takes = record { at = t; came = link.Datagram octets } ∷ takes

  datagram : (r : Result Packet TextFault) (st : State) → text_within (primary_limit lc.ear.long) octets None lc.ear.payload_types ≡ r → told_by (hearing_of lc) (record { at = t; came = link.Datagram octets } ∷ takes) ≡ told_packet (hearing_of lc) d t r
      → ((p : Packet) → r ≡ Ok p → (told_packet (hearing_of lc) d t r).sender ≡ Some p.ssrc → ssrc ≡ p.ssrc)
      → moment ≡ (told_packet (hearing_of lc) d t r).moment
      → HearsSent (sent_of (hearing_of lc) d t r) l m ssrc moment octets → st ≡ state_of_sent (sent_of (hearing_of lc) d t r)
      → EarStands m st moment octets (hearing_of lc) (record { at = t; came = link.Datagram octets } ∷ takes) items
  datagram (Err f) st reads is of at hs stands = subst (λ (x : State). EarStands m x moment octets (hearing_of lc) next_takes items) (sym stands) (same_ear next_takes hs is)
  datagram (Ok p) st reads is of at hs stands = go (is_sender d.sender p.ssrc) (takes_over (hearing_of lc) d t p.ssrc) refl is (of p refl) at hs stands
    where
      over : (o : Option ℕ) → d.sender ≡ o → told_by (hearing_of lc) (record { at = t; came = link.Datagram octets } ∷ takes) ≡ taken_over d t p → ssrc ≡ p.ssrc → moment ≡ max d.moment t
          → HearsSent (over_from o) l m ssrc moment octets → st ≡ state_of_sent (over_from o) → EarStands m st moment octets (hearing_of lc) (record { at = t; came = link.Datagram octets } ∷ takes) items
      over None e is same at hs stands = subst (λ (x : State). EarStands m x moment octets (hearing_of lc) next_takes items) (sym stands) (begins next_takes p e same at reads hs is)
      over (Some x) e is same at hs stands = subst (λ (y : State). EarStands m y moment octets (hearing_of lc) next_takes items) (sym stands) (parts p x e at reads hs is)

      go : (a b : Bool) → is_sender d.sender p.ssrc ≡ a → told_by (hearing_of lc) (record { at = t; came = link.Datagram octets } ∷ takes) ≡ told_if d t p a b
          → ((told_if d t p a b).sender ≡ Some p.ssrc → ssrc ≡ p.ssrc) → moment ≡ (told_if d t p a b).moment
          → HearsSent (sent_if d a b) l m ssrc moment octets → st ≡ state_of_sent (sent_if d a b) → EarStands m st moment octets (hearing_of lc) (record { at = t; came = link.Datagram octets } ∷ takes) items
      go true b e is of at hs stands = subst (λ (x : State). EarStands m x moment octets (hearing_of lc) next_takes items) (sym stands) (hears_more next_takes p e at reads hs is)
      go false true e is of at hs stands = over d.sender refl is (of refl) at hs stands
      go false false e is of at hs stands = subst (λ (x : State). EarStands m x moment octets (hearing_of lc) next_takes items) (sym stands) (same_ear next_takes hs is)

  -- time goes on
  waits : (next : Takes) → Waits l m t → told_by (hearing_of lc) next ≡ told_moment d t → EarStands m Giving moment octets (hearing_of lc) next items
  waits next w is =
      goes_on next (told_moment d t) (went s.story t) refl (w.becomes.gave (settings_of l) (settings_of l).ssrc s.story s.heard s.gave) w.settings hears_now.sender past_now (ap (λ n. max n t) moment_now) is

-- ---- whatever came
pub told_more : {F : Type 0} (lc : LegSettings) (takes : Takes) (items : List (Item F)) (l m : Ear) (octets first : List ℕ) (old : ℕ) (before after : Senders) (t : ℕ) (c : Came) (st : State)
    → EarStands l Idle old first (hearing_of lc) takes items → (told_by (hearing_of lc) takes).closed ≡ false → texts_in 0 items ≡ ready_by (hearing_of lc) takes
    → Follows l m before after t c octets st (hearing_of lc) (told_by (hearing_of lc) takes)
    → EarStands m st after.moment octets (hearing_of lc) (record { at = t; came = came_of c octets } ∷ takes) items
told_more lc takes items l m octets first old before after t came.Datagram st s o ready f =
    let h = hearing_of lc in
    let d = told_by h takes in
    datagram lc takes items l m first octets old s o ready after.moment (unwrap_or after.sender 0) t (text_within (primary_limit lc.ear.long) octets None lc.ear.payload_types) st refl refl
    (λ p e q. ap (λ (x : Option ℕ). unwrap_or x 0) (f.knows.sender ∙ q)) f.knows.moment f.hears.0 f.hears.1
told_more lc takes items l m octets first old before after t came.Large st s o ready f =
    let next : Takes = record { at = t; came = link.Large } ∷ takes in
    subst (λ (x : State). EarStands m x after.moment octets (hearing_of lc) next items) (sym f.hears.1) (waits lc takes items l m first octets old s o ready after.moment 0 t next f.hears.0 refl)
told_more lc takes items l m octets first old before after t came.Quiet st s o ready f =
    let next : Takes = record { at = t; came = link.Quiet } ∷ takes in
    subst (λ (x : State). EarStands m x after.moment octets (hearing_of lc) next items) (sym f.hears.1)
    (as_blank m after.moment octets (hearing_of lc) next items (waits lc takes items l m first octets old s o ready after.moment 0 t next f.hears.0 refl))
told_more lc takes items l m octets first old before after t came.Closed st s o ready f =
    let next : Takes = record { at = t; came = link.Closed } ∷ takes in
    subst (λ (x : State). EarStands m x after.moment octets (hearing_of lc) next items) (sym f.hears.1) (closes lc takes items l m first octets old s o ready after.moment 0 t next f.hears.0 refl)
