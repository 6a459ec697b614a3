-- A turn at a terminal that is not aware: from what its calls tell to what the terminal_scheduler and the slots stand
-- for.
use Rattle.std.proofs.Common.{◌≡◌, ◌<◌, ℕ, ◌+◌, ◌-◌, not, cond, inl, inr, Bool, true, false, ◌&&◌, ◌||◌, Option, Some, None, List, [], ◌∷◌, refl, ap, subst, sym, ◌∙◌, arith}
use Rattle.std.specs.Prelude.{is_some, nat_le, nat_lt, ◌==◌}
use Rattle.std.proofs.lemmas.Bool.{cases_eq, eq-eqb, le-leb}
use Rattle.wire_spec.specs.Packets.{has_text}
use Rattle.stream_spec.specs.Ready.{Chunk}
use Rattle.stream_spec.specs.Own.{Sent, sent_of, has_text_in}
use Rattle.mixer_spec.specs.Chunks.{has_chunk}
use Rattle.mixer_spec.proofs.Lists.{set_same, set_other}
use Rattle.mixer_spec.specs.Laws.{AreTexts}
use Rattle.mixer_spec.specs.Setups.{Setup, stream}
use Rattle.mixer_spec.specs.Composed.{waits_here, Answer, Asked, text_given, answer}
use Rattle.mixer_spec.specs.Table.{TurnEntry, Terminal, Table, sents, sent_from, last_media, is_spaced, is_asked, answer_at, asked_at, repeated, compose}
use Rattle.packetizer.specs.Speakers.{EachIsNext, IsNext}
use Rattle.mixer_places.specs.Lanes.{Waiting}
use Rattle.mixer_places.specs.SlotStanding as slots
use Rattle.mixer_places.proofs.Sources.{stands_same}
use Rattle.unaware_view.specs.Standing as composers
use Rattle.unaware_view.specs.Standing.{NoneWaits, IsAsked, left_after, answered, asked_now, given_now}
use Rattle.terminal_scheduler.specs.Turns.{Puts, SendsNext, free_after, new_entry, repeats_left, with_terminal}
use Rattle.terminal_scheduler.specs.UnawareStates.{SameLeg, UnawareState}
use Rattle.terminal_scheduler.specs.UnawareStanding.{AreBy, Composes, IsTurn, UnawareStandsFor, entry_here, kept_sent, turned_here}
use Rattle.terminal_scheduler.proofs.Putting.{puts_none, puts_one}
use Rattle.terminal_scheduler.proofs.Repeating.{still_left}

-- ---- what a turn adds
-- the text, sent of this source at this media time
abbrev pub sent_now : ℕ → ℕ → List ℕ → Sent
sent_now source media text = record { source = source; media = media; text = text }

-- to these a packet with this text was added, or nothing
abbrev pub Added : Setup → ℕ → List TurnEntry → List TurnEntry → List ℕ → Bool → Type 0
Added s t before after text true = (e : TurnEntry) × (after ≡ e ∷ before) × (e.sent ≡ sent_now s.mixer t text)
Added s t before after text false = after ≡ before

added : (s : Setup) (j now t : ℕ) (d : Terminal) (o : Option Answer)
    → Added s t d.past (compose s j now t d o).past (text_given o) (is_some o || (is_asked s t d && has_text_in (s.generations j) (sent_from s.mixer d)))
added s j now t d None = go (is_asked s t d && has_text_in (s.generations j) (sent_from s.mixer d))
  where
    go : (b : Bool) → Added s t d.past (repeated s j now t b d.past) [] b
    go true = (record { at = now; place = 0; leg = j; chunks = []; sent = sent_now s.mixer t [] }, refl, refl)
    go false = refl
added s j now t d (Some g) = (record { at = now; place = 0; leg = g.source; chunks = g.chunks; sent = sent_now s.mixer t g.text }, refl, refl)

asks_are : (s : Setup) (j now t : ℕ) (d : Terminal) (o : Option Answer) → (compose s j now t d o).asks ≡ asked_at t d o
asks_are s j now t d None = refl
asks_are s j now t d (Some g) = refl

waits_are : (s : Setup) (j now t : ℕ) (table : Table) (o : Option Answer) (k i : ℕ)
    → ((with_terminal j (compose s j now t (table.terminals j) o) table).terminals k).waits i ≡ ((answered j o table).terminals k).waits i
waits_are s j now t table None k i =
    let d = compose s j now t (table.terminals j) None in
    elim (cases_eq k j) [
      | inl e ↦ ap (λ (x : Terminal). x.waits i) (set_same table.terminals j d k e) ∙ ap (λ (x : ℕ). (table.terminals x).waits i) (sym e)
      | inr n ↦ ap (λ (x : Terminal). x.waits i) (set_other table.terminals j d k n)
    ]
waits_are s j now t table (Some g) k i =
    let d = compose s j now t (table.terminals j) (Some g) in
    let l = left_after g (table.terminals j) in
    elim (cases_eq k j) [
      | inl e ↦ ap (λ (x : Terminal). x.waits i) (set_same table.terminals j d k e) ∙ sym (ap (λ (x : Terminal). x.waits i) (set_same table.terminals j l k e))
      | inr n ↦ ap (λ (x : Terminal). x.waits i) (set_other table.terminals j d k n) ∙ sym (ap (λ (x : Terminal). x.waits i) (set_other table.terminals j l k n))
    ]

waits_left : (s : Setup) (j now t : ℕ) (table : Table) (o : Option Answer) (i : ℕ) → ((answered j o table).terminals j).waits i ≡ (compose s j now t (table.terminals j) o).waits i
waits_left s j now t table None i = refl
waits_left s j now t table (Some g) i = ap (λ (x : Terminal). x.waits i) (set_same table.terminals j (left_after g (table.terminals j)) j refl)

-- ---- what the calls tell
-- Of the terminal_scheduler o the composer was asked or not, and gave the text or none, which left `mid` and these slots; `due` says
-- whether a text is still to be repeated, and `sends` whether a packet is sent.
pub record Steps (s : Setup) (j t : ℕ) (table : Table) (o mid : UnawareState) (asked gave due sends : Bool) (text : List ℕ) (after : List Waiting) : Type 0 where
  pub asked_is : asked ≡ nat_le o.free_at t
  pub composes : Composes s table o.composer t asked (table.terminals j).asks gave text mid after
  pub due_is : due ≡ nat_lt 0 mid.left
  pub sends_is : sends ≡ (gave || (asked && due))
  pub same : SameLeg o mid
  pub repeats : (mid.generations ≡ o.generations) × (mid.left ≡ o.left)
  pub times : (mid.spacing ≡ o.spacing) × (mid.free_at ≡ o.free_at)

-- The composer was asked, gave the text or none, and is that of the terminal_scheduler o then; these are the slots then. `sends` says
-- whether a packet is sent.
pub record Told (s : Setup) (j t : ℕ) (table : Table) (asked gave due sends : Bool) (text : List ℕ) (o : UnawareState) (after : List Waiting) : Type 0 where
  pub asked_is : asked ≡ is_asked s t (table.terminals j)
  pub given : gave ≡ is_some (answer_at s j t (table.terminals j))
  pub text_is : text ≡ text_given (answer_at s j t (table.terminals j))
  pub composer : composers.ComposerStandsFor s o.composer (asked_at t (table.terminals j) (answer_at s j t (table.terminals j)))
  pub slots_stand : slots.SlotsStandFor s after (answered j (answer_at s j t (table.terminals j)) table)
  pub rests : o.none_waits ≡ true → (i : ℕ) → i < s.legs → waits_here j ((answered j (answer_at s j t (table.terminals j)) table).terminals j).waits i ≡ false
  pub due_is : due ≡ has_text_in (s.generations j) (sent_from s.mixer (table.terminals j))
  pub sends_is : sends ≡ (gave || (asked && due))

-- where a packet may be sent again
spaced_is : (spacing t : ℕ) (o : Option ℕ) → nat_le (free_after spacing o) t ≡ is_spaced spacing t o
spaced_is spacing t None = le-leb 0 t (omega arith)
spaced_is spacing t (Some m) = refl

asked_of : (s : Setup) (j t : ℕ) (o : UnawareState) (d : Terminal) → UnawareStandsFor s j o d → nat_le o.free_at t ≡ is_asked s t d
asked_of s j t o d h = ap (λ (n : ℕ). nat_le n t) h.free ∙ spaced_is s.spacing t (last_media (sent_from s.mixer d))

-- a text of the mixer is still to be repeated
pub due_here : (s : Setup) (j : ℕ) (o : UnawareState) (d : Terminal) → UnawareStandsFor s j o d → nat_lt 0 o.left ≡ has_text_in (s.generations j) (sent_from s.mixer d)
due_here s j o d h = ap (λ (n : ℕ). nat_lt 0 n) h.left ∙ sym (still_left (s.generations j) (sent_from s.mixer d))

-- the premises of an ask of the composer
pub is_asked_so : (s : Setup) (j : ℕ) (table : Table) (now t : ℕ) (o : UnawareState) (waiting : List Waiting) (called : List (List ℕ)) → IsTurn s j table o waiting called now t
    → IsAsked s table o.composer waiting called (table.terminals j).asks
is_asked_so s j table now t o waiting called h = record {
  stands = h.stands.composer;
  slots_stand = h.slots_stand;
  texts = subst (λ (k : ℕ). (i : ℕ) → AreTexts ((table.terminals k).waits i)) (sym h.stands.own) h.texts;
  names = h.names;
}

pub rests_so : (s : Setup) (j : ℕ) (table : Table) (o : UnawareState) → UnawareStandsFor s j o (table.terminals j) → o.none_waits ≡ true → NoneWaits s table o.composer
rests_so s j table o h e = λ i l. subst (λ (x : ℕ). waits_here x (table.terminals x).waits i ≡ false) (sym h.own) (h.rests e i l)

-- the answer is that of the definition
given_is : (s : Setup) (j : ℕ) (table : Table) (t : ℕ) (o : UnawareState) (asked : Bool) → UnawareStandsFor s j o (table.terminals j) → asked ≡ is_asked s t (table.terminals j)
    → given_now s table o.composer t asked (table.terminals j).asks ≡ answer_at s j t (table.terminals j)
given_is s j table t o asked h e =
    ap (λ (k : ℕ). answer (s.room k) s.legs s.name s.relabel k t asked (table.terminals k).waits (table.terminals j).asks) h.own
    ∙ ap (λ (b : Bool). answer (s.room j) s.legs s.name s.relabel j t b (table.terminals j).waits (table.terminals j).asks) e

told : (s : Setup) (j t : ℕ) (table : Table) (o mid : UnawareState) (asked gave due sends : Bool) (text : List ℕ) (after : List Waiting) → UnawareStandsFor s j o (table.terminals j)
    → Steps s j t table o mid asked gave due sends text after → Told s j t table asked gave due sends text mid after
told s j t table o mid asked gave due sends text after h w =
    let p = w.composes in
    let asked_is = w.asked_is ∙ asked_of s j t o (table.terminals j) h in
    let same = given_is s j table t o asked h asked_is in
    let answer = answer_at s j t (table.terminals j) in
    record {
      asked_is = asked_is;
      given = p.given ∙ ap is_some same;
      text_is = p.text_is ∙ ap text_given same;
      composer = subst (λ (k : ℕ). composers.ComposerStandsFor s mid.composer (record { media = t; waiting = λ i. has_chunk ((table.terminals k).waits i); given = answer } ∷ (table.terminals j).asks)) h.own
          (subst (λ (y : Option Answer). composers.ComposerStandsFor s mid.composer (record { media = t; waiting = λ i. has_chunk ((table.terminals o.composer.own).waits i); given = y } ∷ (table.terminals j).asks)) same p.composer);
      slots_stand = subst (λ (k : ℕ). slots.SlotsStandFor s after (answered k answer table)) h.own
          (subst (λ (y : Option Answer). slots.SlotsStandFor s after (answered o.composer.own y table)) same p.slots_stand);
      rests = λ e i l. subst (λ (k : ℕ). waits_here k ((answered k answer table).terminals k).waits i ≡ false) h.own
          (subst (λ (y : Option Answer). waits_here o.composer.own ((answered o.composer.own y table).terminals o.composer.own).waits i ≡ false) same (p.rests e i l));
      due_is = w.due_is ∙ (ap (λ (n : ℕ). nat_lt 0 n) w.repeats.1 ∙ due_here s j o (table.terminals j) h);
      sends_is = w.sends_is;
    }

-- ---- what follows
added_here : (s : Setup) (j now t : ℕ) (table : Table) (asked gave due sends : Bool) (text : List ℕ) (new : UnawareState) (after : List Waiting) → Told s j t table asked gave due sends text new after
    → Added s t (table.terminals j).past (turned_here s j now t table).past text sends
added_here s j now t table asked gave due sends text new after h =
    let d = table.terminals j in
    let o = answer_at s j t d in
    let is : sends ≡ (is_some o || (is_asked s t d && has_text_in (s.generations j) (sent_from s.mixer d))) = h.sends_is ∙ (λ r. h.given r || (h.asked_is r && h.due_is r)) in
    subst (λ (b : Bool). Added s t d.past (turned_here s j now t table).past text b) (sym is)
    (subst (λ (x : List ℕ). Added s t d.past (turned_here s j now t table).past x (is_some o || (is_asked s t d && has_text_in (s.generations j) (sent_from s.mixer d)))) (sym h.text_is) (added s j now t d o))

waits_stand : (s : Setup) (j now t : ℕ) (table : Table) (asked gave due sends : Bool) (text : List ℕ) (new : UnawareState) (after : List Waiting) → Told s j t table asked gave due sends text new after
    → slots.SlotsStandFor s after (with_terminal j (turned_here s j now t table) table)
waits_stand s j now t table asked gave due sends text new after h =
    let o = answer_at s j t (table.terminals j) in
    stands_same s after (answered j o table) (with_terminal j (turned_here s j now t table) table) h.slots_stand (taken_same o) (seats_same o) (waits_are s j now t table o)
  where
    taken_same : (o : Option Answer) (i : ℕ) → table.taken i ≡ (answered j o table).taken i
    taken_same None i = refl
    taken_same (Some g) i = refl

    seats_same : (o : Option Answer) (k : ℕ) → table.seats.listens k ≡ (answered j o table).seats.listens k
    seats_same None k = refl
    seats_same (Some g) k = refl

-- nothing waits where that is known
none_left : (s : Setup) (j now t : ℕ) (table : Table) (asked gave due sends : Bool) (text : List ℕ) (new : UnawareState) (after : List Waiting) → Told s j t table asked gave due sends text new after
    → new.none_waits ≡ true → (i : ℕ) → i < s.legs → waits_here j (turned_here s j now t table).waits i ≡ false
none_left s j now t table asked gave due sends text new after h e i l =
    ap (λ (cs : List Chunk). not (i == j) && has_chunk cs) (sym (waits_left s j now t table (answer_at s j t (table.terminals j)) i)) ∙ h.rests e i l

-- ---- the turn is over
pub record IsOver (s : Setup) (j now t : ℕ) (table : Table) (o : UnawareState) (after : List Waiting) (source : Option ℕ) (text : List ℕ) : Type 0 where
  pub stands : UnawareStandsFor s j o (turned_here s j now t table)
  pub waits : slots.SlotsStandFor s after (with_terminal j (turned_here s j now t table) table)
  pub puts : Puts false t (entry_here s j now t table) source text

-- it stands for the terminal that was turned, where it does so of what was sent there
stands_turned : (s : Setup) (j now t : ℕ) (table : Table) (o mid : UnawareState) (left free_at : ℕ) (asked gave due sends : Bool) (text : List ℕ) (after : List Waiting) → UnawareStandsFor s j o (table.terminals j)
    → Steps s j t table o mid asked gave due sends text after → Told s j t table asked gave due sends text mid after → EachIsNext (stream s j) (sents (turned_here s j now t table).past)
    → left ≡ repeats_left (s.generations j) (sent_from s.mixer (turned_here s j now t table)) → free_at ≡ free_after s.spacing (last_media (sent_from s.mixer (turned_here s j now t table)))
    → AreBy s.mixer (sents (turned_here s j now t table).past) → UnawareStandsFor s j (record mid { left = left; free_at = free_at }) (turned_here s j now t table)
stands_turned s j now t table o mid left free_at asked gave due sends text after h w p each left_is free_is by = record {
  setup = h.setup;
  own = w.same.0 ∙ h.own;
  leg = h.leg;
  spacing = w.times.0 ∙ h.spacing;
  composer = subst (λ (xs : List Asked). composers.ComposerStandsFor s mid.composer xs) (sym (asks_are s j now t (table.terminals j) (answer_at s j t (table.terminals j)))) p.composer;
  generations = w.repeats.0 ∙ h.generations;
  sent = each;
  left = left_is;
  free = free_is;
  by_mixer = by;
  rests = none_left s j now t table asked gave due sends text mid after p;
}

-- a packet was sent
stands_sent : (s : Setup) (j now t : ℕ) (table : Table) (o mid : UnawareState) (asked gave due sends : Bool) (text : List ℕ) (after : List Waiting) → UnawareStandsFor s j o (table.terminals j)
    → Steps s j t table o mid asked gave due sends text after → Told s j t table asked gave due sends text mid after → SendsNext (stream s j) (table.terminals j).past (turned_here s j now t table).past
    → Added s t (table.terminals j).past (turned_here s j now t table).past text true → UnawareStandsFor s j (kept_sent t text mid) (turned_here s j now t table)
stands_sent s j now t table o mid asked gave due sends text after h w p next a =
    let d = table.terminals j in
    let e = sent_now s.mixer t text in
    let es : e ∷ sents d.past ≡ sents (turned_here s j now t table).past =
    ap (λ (x : Sent). x ∷ sents d.past) (sym a.2) ∙ sym (ap (λ (xs : List TurnEntry). sents xs) a.1) in
    let own : sent_of s.mixer (e ∷ sents d.past) ≡ e ∷ sent_of s.mixer (sents d.past) = rw (eq-eqb s.mixer s.mixer refl) refl in
    let mixed : e ∷ sent_from s.mixer d ≡ sent_from s.mixer (turned_here s j now t table) = sym own ∙ ap (λ (xs : List Sent). sent_of s.mixer xs) es in
    stands_turned s j now t table o mid (kept_sent t text mid).left (kept_sent t text mid).free_at asked gave due sends text after h w p
    (subst (λ (xs : List Sent). EachIsNext (stream s j) xs) es (subst (λ (x : Sent). IsNext (stream s j) (sents d.past) x) a.2 (next a.0 a.1), h.sent))
    ((λ r. cond (has_text text) ((w.repeats.0 ∙ h.generations) r) ((w.repeats.1 ∙ h.left) r - 1)) ∙ ap (λ (xs : List Sent). repeats_left (s.generations j) xs) mixed)
    (ap (λ (n : ℕ). t + n) (w.times.0 ∙ h.spacing) ∙ ap (λ (xs : List Sent). free_after s.spacing (last_media xs)) mixed)
    (subst (λ (xs : List Sent). AreBy s.mixer xs) es (refl, h.by_mixer))

pub sent_so : (s : Setup) (j now t : ℕ) (table : Table) (o mid new : UnawareState) (waiting : List Waiting) (called : List (List ℕ)) (asked gave due sends : Bool) (text : List ℕ) (after : List Waiting)
    → IsTurn s j table o waiting called now t → Steps s j t table o mid asked gave due sends text after → sends ≡ true → new ≡ kept_sent t text mid → IsOver s j now t table new after (Some 0) text
sent_so s j now t table o mid new waiting called asked gave due sends text after h w b n =
    let before = (table.terminals j).past in
    let p = told s j t table o mid asked gave due sends text after h.stands w in
    let a = subst (λ (y : Bool). Added s t before (turned_here s j now t table).past text y) b (added_here s j now t table asked gave due sends text mid after p) in
    record {
      stands = subst (λ (x : UnawareState). UnawareStandsFor s j x (turned_here s j now t table)) (sym n) (stands_sent s j now t table o mid asked gave due sends text after h.stands w p h.next a);
      waits = waits_stand s j now t table asked gave due sends text mid after p;
      puts = subst (λ (xs : List TurnEntry). Puts false t (new_entry before xs) (Some 0) text) (sym a.1)
          (puts_one false t a.0 before text (ap (λ (x : Sent). x.text) (sym a.2)) (ap (λ (x : Sent). x.media) a.2));
    }

-- none was
stands_silent : (s : Setup) (j now t : ℕ) (table : Table) (o mid : UnawareState) (asked gave due sends : Bool) (text : List ℕ) (after : List Waiting) → UnawareStandsFor s j o (table.terminals j)
    → Steps s j t table o mid asked gave due sends text after → Told s j t table asked gave due sends text mid after
    → Added s t (table.terminals j).past (turned_here s j now t table).past text false → UnawareStandsFor s j mid (turned_here s j now t table)
stands_silent s j now t table o mid asked gave due sends text after h w p a =
    let d = table.terminals j in
    let es : sents d.past ≡ sents (turned_here s j now t table).past = sym (ap (λ (xs : List TurnEntry). sents xs) a) in
    let mixed : sent_from s.mixer d ≡ sent_from s.mixer (turned_here s j now t table) = ap (λ (xs : List Sent). sent_of s.mixer xs) es in
    stands_turned s j now t table o mid mid.left mid.free_at asked gave due sends text after h w p (subst (λ (xs : List Sent). EachIsNext (stream s j) xs) es h.sent)
    (w.repeats.1 ∙ (h.left ∙ ap (λ (xs : List Sent). repeats_left (s.generations j) xs) mixed))
    (w.times.1 ∙ (h.free ∙ ap (λ (xs : List Sent). free_after s.spacing (last_media xs)) mixed)) (subst (λ (xs : List Sent). AreBy s.mixer xs) es h.by_mixer)

pub silent_so : (s : Setup) (j now t : ℕ) (table : Table) (o mid : UnawareState) (waiting : List Waiting) (called : List (List ℕ)) (asked gave due sends : Bool) (text : List ℕ) (after : List Waiting)
    → IsTurn s j table o waiting called now t → Steps s j t table o mid asked gave due sends text after → sends ≡ false → IsOver s j now t table mid after None text
silent_so s j now t table o mid waiting called asked gave due sends text after h w b =
    let before = (table.terminals j).past in
    let p = told s j t table o mid asked gave due sends text after h.stands w in
    let a = subst (λ (y : Bool). Added s t before (turned_here s j now t table).past text y) b (added_here s j now t table asked gave due sends text mid after p) in
    record {
      stands = stands_silent s j now t table o mid asked gave due sends text after h.stands w p a;
      waits = waits_stand s j now t table asked gave due sends text mid after p;
      puts = subst (λ (xs : List TurnEntry). Puts false t (new_entry before xs) None text) (sym a) (puts_none false t before text);
    }
