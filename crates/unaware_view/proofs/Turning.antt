-- One ask of a composer that has looked: what is given, and what it stands for then.
use Rattle.std.proofs.Common.{◌≡◌, ℕ, suc, ◌+◌, ◌<◌, ◌≤◌, Bool, true, false, cond, not, ◌&&◌, ◌||◌, Option, Some, None, List, [], ◌∷◌, ◌++◌, length, refl, sym, ap, subst, ◌∙◌, arith, encode_utf8_all, inl, inr}
use Rattle.std.specs.Prelude.{◌==◌, is_some}
use Rattle.std.specs.Option.{option_or}
use Rattle.std.proofs.lemmas.Bool.{true≢false, eq-eqb, and_parts, not-true}
use Rattle.std.specs.Prelude.{IsUtf8, chars}
use Rattle.std.proofs.lemmas.Str.{IsUtf8-append, chars-append, chars-encodes}
use Rattle.std.proofs.lemmas.Bool.{and_right}
use Rattle.view_spec.specs.Characters.{is_open_after}
use Rattle.view_spec.specs.TextViews.{is_direction, label_after, without_directions}
use Rattle.std.proofs.lemmas.List.Elements.{filter-append}
use Rattle.stream_spec.specs.Ready.{Chunk}
use Rattle.mixer_spec.specs.Chunks.{joined, has_chunk, front}
use Rattle.mixer_spec.specs.Rounds.{first_round}
use Rattle.mixer_spec.specs.Setups.{Setup}
use Rattle.mixer_spec.specs.Table.{Table}
use Rattle.mixer_spec.specs.Composed.{Answer, Asked, began_alone, began_behind_cr, behind_label, chars_of, go_on, gone_on, headed, is_after_cr, is_open, is_unlabelled, labelled, latest, room_beside, seen_part, text_given, run_of, given_at, since, is_of, waits_here, with_label, written}
use Rattle.mixer_spec.proofs.Rounds.{round_some}
use Rattle.mixer_places.specs.Lanes.{Waiting}
use Rattle.mixer_places.specs.SlotStanding as slots
use Rattle.mixer_places.specs.Words.{fetched}
use Rattle.mixer_places.proofs.Sizes.{joined_append}
use Rattle.unaware_view.specs.declared.composers.Current.{Current}
use Rattle.unaware_view.specs.declared.composers.Choice.{Choice}
use Rattle.unaware_view.specs.declared.composers.Choice.TheVariants.{Nobody, Begins, GoesOn}
use Rattle.unaware_view.specs.declared.runs.Run.{Run}
use Rattle.mixer_spec.specs.Laws.{AreTexts}
use Rattle.mixer_spec.proofs.Texts.{front_texts, joined_utf8}
use Rattle.unaware_view.specs.Runs.{GoesAlone, GoesOn as RunGoesOn, Heads, IsAhead, IsRun, behind}
use Rattle.unaware_view.specs.States.{State}
use Rattle.unaware_view.specs.Choices.{is_set, since_at, is_again, is_left, begins, choice_after, choice, onward, speaker_of, IsBelow, is_leg, noted}
use Rattle.unaware_view.specs.Standing.{RunStands, ComposerStandsFor, IsAsked, IsCurrent, IsSpeaker, name_at, answered, asked_now, given_now}
use Rattle.unaware_view.specs.Giving.{Gives, GivesLabel, GivesOn, remembered, waits_of}
use Rattle.unaware_view.proofs.Asking.{Looks, choice_is, given_of, speaker_flag}
use Rattle.std.proofs.Math.Bool.{or-true as some_chunk}

-- ---- the speaker is never the terminal's own leg
abbrev pub IsOther : ℕ → Choice → Type 0
IsOther own Nobody = Unit {0}
IsOther own (Begins i) = i ≡ own → ⊥
IsOther own (GoesOn i) = i ≡ own → ⊥

flag_other : (s : Setup) (c : State) (asks : List Asked) (w : ℕ → List Chunk) (i : ℕ) → Looks s c asks w → i < length c.waits → is_set c.waits i ≡ true → i ≡ c.own → ⊥
flag_other s c asks w i h l e q = true≢false (sym e ∙ (h.flags i l ∙ ap (λ (b : Bool). not b && has_chunk (w i)) (eq-eqb i c.own q)))

begins_other : (s : Setup) (c : State) (asks : List Asked) (w : ℕ → List Chunk) (start : ℕ) → Looks s c asks w → start ≤ length c.waits
    → IsOther c.own (begins (first_round (is_set c.waits) start (length c.waits)))
begins_other s c asks w start h l = go (first_round (is_set c.waits) start (length c.waits)) refl
  where
    go : (o : Option ℕ) → first_round (is_set c.waits) start (length c.waits) ≡ o → IsOther c.own (begins o)
    go None e = tt
    go (Some i) e = let f = round_some (is_set c.waits) start (length c.waits) i l e in flag_other s c asks w i h f.below f.passes

pub choice_other : (s : Setup) (c : State) (asks : List Asked) (w : ℕ → List Chunk) (due : Bool) (now : ℕ) → Looks s c asks w → IsOther c.own (choice c due now)
choice_other s c asks w false now h = tt
choice_other s c asks w true now h = go (latest asks) c.current h.stands.current
  where
    by : (b d a : Bool) (k : Choice) (i : ℕ) → IsOther c.own k → (i ≡ c.own → ⊥) → IsOther c.own (cond b k (cond d (onward a i) Nobody))
    by true d a k i o n = o
    by false true true k i o n = n
    by false true false k i o n = n
    by false false a k i o n = tt

    go : (o : Option Answer) (k : Option Current) → IsCurrent s c.own asks o k → IsOther c.own (choice_after c now k)
    go None None u = begins_other s c asks w 0 h (omega arith)
    go None (Some x) u = absurd u
    go (Some g) None u = absurd u
    go (Some g) (Some x) u =
        by (is_left c x now) (is_set c.waits x.speaker) (is_again c x now) (begins (first_round (is_set c.waits) (suc x.speaker) (length c.waits))) x.speaker
        (begins_other s c asks w (suc x.speaker) h (let l = u.leg in let k = h.legs in omega (arith, l, k))) u.other

-- ---- what is given
-- the composer has looked (c) and made its choice, and gave its text: then this is the run, and these are the slots
pub record Turns (s : Setup) (table : Table) (c : State) (asks : List Asked) (names : List (List ℕ)) (k : Choice) (next : Run) (text : List ℕ) (after : List Waiting) : Type 0 where
  pub looks : Looks s c asks (waits_of table c.own)
  pub names_are : (i : ℕ) → i < s.legs → name_at names i ≡ s.name i
  pub below : IsBelow s.legs k
  pub other : IsOther c.own k
  pub texts : (i : ℕ) → AreTexts (waits_of table c.own i)
  pub gives : Gives s table c.own (s.room c.own) names c.run next (began_alone asks) (began_behind_cr asks) (chars_of (run_of asks)) k text after

pub some_is : (room : ℕ) (name : ℕ → List ℕ) (w : ℕ → List Chunk) (asks : List Asked) (k : Choice) → is_some (speaker_of k) ≡ is_some (given_of room name w asks k)
some_is room name w asks Nobody = refl
some_is room name w asks (Begins i) = refl
some_is room name w asks (GoesOn i) = refl

-- the label of a run is to come as the definition says it
unlabelled_is : (s : Setup) (c : State) (asks : List Asked) → ComposerStandsFor s c asks → is_unlabelled asks ≡ not c.run.labelled
unlabelled_is s c asks h = elim h.run.is_run.part [ inl a ↦ ahead a | inr b ↦ and_right (has_chunk (run_of asks)) _ b.seen ∙ sym (ap not b.labelled) ]
  where
    has : began_alone asks ≡ false → has_chunk (run_of asks) ≡ true
    has e = go (has_chunk (run_of asks)) (sym (ap (λ b. has_chunk (run_of asks) || b) e) ∙ h.run.begun)
      where
        go : (b : Bool) → (b || false) ≡ true → b ≡ true
        go true q = refl
        go false q = q

    ahead : IsAhead c.run (began_alone asks) (began_behind_cr asks) (chars_of (run_of asks)) → is_unlabelled asks ≡ not c.run.labelled
    ahead a = (λ i. has a.not_alone i && (not (a.not_alone i) && length (a.unseen i) == 0)) ∙ sym (ap not a.labelled)

no_chars : chars_of [] ≡ []
no_chars = ap without_directions (chars-encodes [] refl)

-- before the first ask
pub at_first : (r : Run) → ((behind_cr : Bool) → IsRun r true behind_cr []) → IsRun r (began_alone []) (began_behind_cr []) (chars_of (run_of []))
at_first r h = subst (λ (xs : List ℕ). IsRun r true false xs) (sym no_chars) (h false)

pub no_text : IsUtf8 (joined (run_of []))
no_text = joined_utf8 [] tt

-- ---- a run with more chunks
-- With these chunks, with which a run begins or not, this is the run.
abbrev Then : Run → Bool → List Chunk → List Chunk → Bool → Bool → Bool → Bool → Type 0
Then next begins run cs alone other behind_cr on =
    RunStands next (cond begins (not (has_chunk cs)) alone) (cond begins other behind_cr) (cond begins cs (run ++ cs)) ((begins && not (has_chunk cs)) || is_open_after on (chars_of cs))

has_chunk_append : (cs ds : List Chunk) → (has_chunk cs || has_chunk ds) ≡ has_chunk (cs ++ ds)
has_chunk_append [] ds = refl
has_chunk_append (c ∷ cs) ds = refl

chars_append : (cs ds : List Chunk) → IsUtf8 (joined cs) → chars_of (cs ++ ds) ≡ chars_of cs ++ chars_of ds
chars_append cs ds u =
    ap without_directions (ap chars (joined_append cs ds) ∙ chars-append (joined cs) (joined ds) u)
    ∙ filter-append (λ c. not (is_direction c)) (chars (joined cs)) (chars (joined ds))

goes_then : (name : List ℕ) (r next : Run) (alone other behind_cr on : Bool) (run cs : List Chunk) (text : List ℕ) → IsUtf8 (joined run) → AreTexts cs → r.is_open ≡ on → r.has_chunk ≡ has_chunk run → (has_chunk run || alone) ≡ true
    → RunGoesOn name r next alone behind_cr (chars_of run) cs [] text → Then next false run cs alone other behind_cr on
goes_then name r next alone other behind_cr on run cs text u a o k b h = record {
  is_run = subst (λ (xs : List ℕ). IsRun next alone behind_cr xs) (sym (chars_append run cs u)) h.sends.run_is;
  utf8 = subst IsUtf8 (sym (joined_append run cs)) (IsUtf8-append (joined run) (joined cs) u (joined_utf8 cs a));
  chunk = h.has_chunk ∙ (ap (λ (x : Bool). x || has_chunk cs) k ∙ has_chunk_append run cs);
  begun = still run b;
  line = h.sends.open_is ∙ ap (λ (x : Bool). is_open_after x (chars_of cs)) o;
}
  where
    still : (xs : List Chunk) → (has_chunk xs || alone) ≡ true → (has_chunk (xs ++ cs) || alone) ≡ true
    still [] e = ap (λ (x : Bool). has_chunk cs || x) e ∙ some_chunk (has_chunk cs)
    still (x ∷ xs) e = refl

alone_then : (name : List ℕ) (r next : Run) (alone other behind_cr on : Bool) (run : List Chunk) (text : List ℕ) → GoesAlone name r next text → Then next true run [] alone other behind_cr on
alone_then name r next alone other behind_cr on run text h = record {
  is_run = subst (λ (xs : List ℕ). IsRun next true other xs) (sym no_chars) (h.run_is other);
  utf8 = joined_utf8 [] tt;
  chunk = h.has_chunk;
  begun = refl;
  line = h.open_is;
}

-- the label of a new run was to come
new_then : (name : List ℕ) (r next : Run) (alone other behind_cr on : Bool) (run cs : List Chunk) (text : List ℕ) → AreTexts cs → r.is_open ≡ on → r.has_chunk ≡ false
    → Heads name r next other [] cs text → Then next true run cs alone other behind_cr on
new_then name r next alone other behind_cr on run [] text a o k h = alone_then name r next alone other behind_cr on run text h
new_then name r next alone other behind_cr on run (c ∷ cs) text a o k h = record {
  is_run = h.sends.run_is;
  utf8 = joined_utf8 (c ∷ cs) a;
  chunk = h.has_chunk ∙ ap (λ (x : Bool). x || true) k;
  begun = refl;
  line = h.sends.open_is ∙ ap (λ (x : Bool). is_open_after x (chars_of (c ∷ cs))) o;
}

-- the label of this run was to come
more_then : (name : List ℕ) (r next : Run) (alone other behind_cr on : Bool) (run cs : List Chunk) (text : List ℕ) → IsUtf8 (joined run) → AreTexts cs → r.is_open ≡ on → r.has_chunk ≡ has_chunk run → alone ≡ false → has_chunk run ≡ true
    → Heads name r next behind_cr (chars_of run) cs text → Then next (not (has_chunk run && has_chunk cs)) run cs alone other behind_cr on
more_then name r next alone other behind_cr on run [] text u a o k n e h =
    subst (λ (b : Bool). Then next (not (b && false)) run [] alone other behind_cr on) (sym e) (alone_then name r next alone other behind_cr on run text h)
more_then name r next alone other behind_cr on run (c ∷ cs) text u a o k n e h =
    subst (λ (b : Bool). Then next (not (b && true)) run (c ∷ cs) alone other behind_cr on) (sym e)
    (goes_then name r next alone other behind_cr on run (c ∷ cs) text u a o k (ap (λ (b : Bool). b || alone) e)
    (subst (λ (b : Bool). RunGoesOn name r next b behind_cr (chars_of run) (c ∷ cs) [] text) (sym n) h))

-- what is sent of them
heads_text : (name : List ℕ) (r next : Run) (behind_cr on : Bool) (run cs : List Chunk) (text : List ℕ) → r.is_open ≡ on → r.labelled ≡ false → Heads name r next behind_cr (chars_of run) cs text → text ≡ with_label name behind_cr on run cs
heads_text name r next behind_cr on run [] text o l h = h.text_is ∙ ap (λ (b : Bool). label_after b name) o
heads_text name r next behind_cr on run (c ∷ cs) text o l h =
    h.sends.text_is
    ∙ ((λ i. cond (l i) (encode_utf8_all (written (behind false behind_cr (chars_of run)) (chars_of (c ∷ cs)))) (labelled name behind_cr (o i) (chars_of run) (chars_of (c ∷ cs)))))

-- ---- what is given
new_heads : (name : List ℕ) (r next : Run) (other : Bool) (cs : List Chunk) (text : List ℕ) → Heads name r next other [] cs text → Heads name r next other (chars_of []) cs text
new_heads name r next other cs text h = subst (λ (xs : List ℕ). Heads name r next other xs cs text) (sym no_chars) h

begins_text : (s : Setup) (table : Table) (c : State) (asks : List Asked) (names : List (List ℕ)) (i : ℕ) (next : Run) (text : List ℕ) (after : List Waiting)
    → Turns s table c asks names (Begins i) next text after → text ≡ (headed (s.room c.own) (waits_of table c.own) (s.name i) (is_after_cr asks) (is_open asks) [] i).text
begins_text s table c asks names i next text after h =
    let g = h.gives in
    let name : List ℕ = name_at names i in
    let cs : List ℕ → List Chunk = λ n. front (room_beside (s.room c.own) n) (waits_of table c.own i) in
    let b = g.begun in
    heads_text name g.start next (is_after_cr asks) (is_open asks) [] (cs name) text (b.is_open ∙ h.looks.stands.run.line) b.labelled
    (new_heads name g.start next (is_after_cr asks) (cs name) text g.headed.heads)
    ∙ ap (λ n. with_label n (is_after_cr asks) (is_open asks) [] (cs n)) (h.names_are i h.below)

on_text : (s : Setup) (table : Table) (c : State) (asks : List Asked) (names : List (List ℕ)) (i : ℕ) (next : Run) (text : List ℕ) (after : List Waiting)
    → Turns s table c asks names (GoesOn i) next text after → text ≡ (go_on (s.room c.own) s.name (waits_of table c.own) asks i).text
on_text s table c asks names i next text after h = elim h.gives [ inl g ↦ on g | inr g ↦ label g ]
  where
    by : Bool → List ℕ
    by b = (cond b (headed (s.room c.own) (waits_of table c.own) (s.name i) (began_behind_cr asks) (is_open asks) (run_of asks) i) (gone_on (s.room c.own) (waits_of table c.own) (behind_label asks) i)).text

    on : GivesOn s table c.own (s.room c.own) (name_at names i) c.run next (began_alone asks) (began_behind_cr asks) (chars_of (run_of asks)) i text after → text ≡ (go_on (s.room c.own) s.name (waits_of table c.own) asks i).text
    on g =
        g.goes.sends.text_is
        ∙ (ap (λ (l : Bool). cond l (encode_utf8_all (written (behind_label asks) (chars_of (front (s.room c.own) (waits_of table c.own i))))) (labelled (name_at names i) (began_behind_cr asks) c.run.is_open (chars_of (run_of asks)) (chars_of (front (s.room c.own) (waits_of table c.own i))))) g.labelled
        ∙ ap by (sym (unlabelled_is s c asks h.looks.stands ∙ ap not g.labelled)))

    label : GivesLabel s table c.own (s.room c.own) (name_at names i) c.run next (began_alone asks) (began_behind_cr asks) (chars_of (run_of asks)) i text after → text ≡ (go_on (s.room c.own) s.name (waits_of table c.own) asks i).text
    label g =
        heads_text (name_at names i) c.run next (began_behind_cr asks) (is_open asks) (run_of asks) (front (room_beside (s.room c.own) (name_at names i)) (waits_of table c.own i)) text h.looks.stands.run.line g.labelled g.headed.heads
        ∙ (ap (λ n. with_label n (began_behind_cr asks) (is_open asks) (run_of asks) (front (room_beside (s.room c.own) n) (waits_of table c.own i))) (h.names_are i h.below)
        ∙ ap by (sym (unlabelled_is s c asks h.looks.stands ∙ ap not g.labelled)))

pub text_is : (s : Setup) (table : Table) (c : State) (asks : List Asked) (names : List (List ℕ)) (k : Choice) (next : Run) (text : List ℕ) (after : List Waiting)
    → Turns s table c asks names k next text after → text ≡ text_given (given_of (s.room c.own) s.name (waits_of table c.own) asks k)
text_is s table c asks names Nobody next text after h = h.gives.text_is
text_is s table c asks names (Begins i) next text after h = begins_text s table c asks names i next text after h
text_is s table c asks names (GoesOn i) next text after h = on_text s table c asks names i next text after h

pub slots_are : (s : Setup) (table : Table) (c : State) (asks : List Asked) (names : List (List ℕ)) (k : Choice) (next : Run) (text : List ℕ) (after : List Waiting)
    → Turns s table c asks names k next text after → slots.SlotsStandFor s after (answered c.own (given_of (s.room c.own) s.name (waits_of table c.own) asks k) table)
slots_are s table c asks names Nobody next text after h = h.gives.stands
slots_are s table c asks names (Begins i) next text after h =
    subst (λ (n : List ℕ). slots.SlotsStandFor s after (fetched c.own i (room_beside (s.room c.own) n) table)) (h.names_are i h.below) h.gives.headed.stands
slots_are s table c asks names (GoesOn i) next text after h = elim h.gives [ inl g ↦ on g | inr g ↦ label g ]
  where
    at : Bool → Type 0
    at b = slots.SlotsStandFor s after (answered c.own (Some (cond b (headed (s.room c.own) (waits_of table c.own) (s.name i) (began_behind_cr asks) (is_open asks) (run_of asks) i) (gone_on (s.room c.own) (waits_of table c.own) (behind_label asks) i))) table)

    on : GivesOn s table c.own (s.room c.own) (name_at names i) c.run next (began_alone asks) (began_behind_cr asks) (chars_of (run_of asks)) i text after → slots.SlotsStandFor s after (answered c.own (Some (go_on (s.room c.own) s.name (waits_of table c.own) asks i)) table)
    on g = subst at (sym (unlabelled_is s c asks h.looks.stands ∙ ap not g.labelled)) g.stands

    label : GivesLabel s table c.own (s.room c.own) (name_at names i) c.run next (began_alone asks) (began_behind_cr asks) (chars_of (run_of asks)) i text after → slots.SlotsStandFor s after (answered c.own (Some (go_on (s.room c.own) s.name (waits_of table c.own) asks i)) table)
    label g =
        subst at (sym (unlabelled_is s c asks h.looks.stands ∙ ap not g.labelled))
        (subst (λ (n : List ℕ). slots.SlotsStandFor s after (fetched c.own i (room_beside (s.room c.own) n) table)) (h.names_are i h.below) g.headed.stands)

-- ---- what the composer stands for then
-- with an ask at which this was given
abbrev pub asked_more : (ℕ → List Chunk) → ℕ → List Asked → Option Answer → List Asked
asked_more w media asks g = record { media = media; waiting = λ i. has_chunk (w i); given = g } ∷ asks

abbrev pub state_then : State → Choice → Run → List (Option ℕ) → ℕ → State
state_then c k next moments media = remembered (record c { run = next; since = moments; asked = media + 1 }) (speaker_of k) media

source_is : (room : ℕ) (name : ℕ → List ℕ) (w : ℕ → List Chunk) (asks : List Asked) (i : ℕ) → (go_on room name w asks i).source ≡ i
source_is room name w asks i = go (is_unlabelled asks)
  where
    go : (b : Bool) → (cond b (headed room w (name i) (began_behind_cr asks) (is_open asks) (run_of asks) i) (gone_on room w (behind_label asks) i)).source ≡ i
    go true = refl
    go false = refl

leg_is : (room : ℕ) (name : ℕ → List ℕ) (w : ℕ → List Chunk) (asks : List Asked) (k : Choice) (i : ℕ) → is_leg i (speaker_of k) ≡ is_of i (given_of room name w asks k)
leg_is room name w asks Nobody i = refl
leg_is room name w asks (Begins s) i = refl
leg_is room name w asks (GoesOn s) i = ap (λ u. u == i) (sym (source_is room name w asks s))

-- since when each leg waits was noted
pub record Notes (c : State) (k : Choice) (media : ℕ) (moments : List (Option ℕ)) : Type 0 where
  pub legs : length moments ≡ length c.since
  pub noted_at : (i : ℕ) → i < length c.since → since_at moments i ≡ noted media (is_leg i (speaker_of k)) (is_set c.waits i) (since_at c.since i)

since_is : (s : Setup) (c : State) (asks : List Asked) (w : ℕ → List Chunk) (k : Choice) (media : ℕ) (moments : List (Option ℕ)) → Looks s c asks w → Notes c k media moments
    → (i : ℕ) → i < s.legs → (i ≡ c.own → ⊥) → since_at moments i ≡ since i (asked_more w media asks (given_of (s.room c.own) s.name w asks k))
since_is s c asks w k media moments h n i l o =
    n.noted_at i (let e = h.stands.legs in omega (arith, l, e))
    ∙ (λ r. cond (leg_is (s.room c.own) s.name w asks k i r) None (option_or (h.stands.waits_since i l o r) (cond (speaker_flag s c asks w i h l o r) (Some media) None)))

still_current : (s : Setup) (own : ℕ) (asks : List Asked) (w : ℕ → List Chunk) (media : ℕ) (o : Option Answer) (x : Option Current) → IsCurrent s own asks o x → IsCurrent s own (asked_more w media asks None) o x
still_current s own asks w media None None u = tt
still_current s own asks w media None (Some x) u = absurd u
still_current s own asks w media (Some g) None u = absurd u
still_current s own asks w media (Some g) (Some x) u = record { source = u.source; given = u.given; leg = u.leg; other = u.other }

now_current : (s : Setup) (own : ℕ) (asks : List Asked) (w : ℕ → List Chunk) (media : ℕ) (g : Answer) (i : ℕ) → g.source ≡ i → i < s.legs → (i ≡ own → ⊥)
    → IsSpeaker s own (asked_more w media asks (Some g)) g (record { speaker = i; given_at = media })
now_current s own asks w media g i e l o = record {
  source = e;
  given = ap (λ (b : Bool). cond b (Some media) (given_at i asks)) (eq-eqb g.source i e);
  leg = l;
  other = o;
}

-- what stands of the run then, where something was given
on_then : (s : Setup) (table : Table) (c : State) (asks : List Asked) (names : List (List ℕ)) (i : ℕ) (next : Run) (text : List ℕ) (after : List Waiting) → Turns s table c asks names (GoesOn i) next text after
    → let g = go_on (s.room c.own) s.name (waits_of table c.own) asks i in Then next g.begins (run_of asks) g.chunks (began_alone asks) (is_after_cr asks) (began_behind_cr asks) (is_open asks)
on_then s table c asks names i next text after h = elim h.gives [ inl g ↦ on g | inr g ↦ label g ]
  where
    after_by : Answer → Type 0
    after_by g = Then next g.begins (run_of asks) g.chunks (began_alone asks) (is_after_cr asks) (began_behind_cr asks) (is_open asks)

    at : Bool → Type 0
    at b = after_by (cond b (headed (s.room c.own) (waits_of table c.own) (s.name i) (began_behind_cr asks) (is_open asks) (run_of asks) i) (gone_on (s.room c.own) (waits_of table c.own) (behind_label asks) i))

    on : GivesOn s table c.own (s.room c.own) (name_at names i) c.run next (began_alone asks) (began_behind_cr asks) (chars_of (run_of asks)) i text after → after_by (go_on (s.room c.own) s.name (waits_of table c.own) asks i)
    on g =
        let st = h.looks.stands in
        subst at (sym (unlabelled_is s c asks st ∙ ap not g.labelled))
        (goes_then (name_at names i) c.run next (began_alone asks) (is_after_cr asks) (began_behind_cr asks) (is_open asks) (run_of asks) (front (s.room c.own) (waits_of table c.own i)) text
        st.run.utf8 (front_texts (s.room c.own) (waits_of table c.own i) (h.texts i)) st.run.line st.run.chunk st.run.begun g.goes)

    parts : is_unlabelled asks ≡ true → (has_chunk (run_of asks) ≡ true) × (began_alone asks ≡ false)
    parts e =
        let p = and_parts (has_chunk (run_of asks)) (not (began_alone asks) && length (seen_part asks) == 0) e in
        (p.0, not-true (began_alone asks) (and_parts (not (began_alone asks)) (length (seen_part asks) == 0) p.1).0)

    label : GivesLabel s table c.own (s.room c.own) (name_at names i) c.run next (began_alone asks) (began_behind_cr asks) (chars_of (run_of asks)) i text after → after_by (go_on (s.room c.own) s.name (waits_of table c.own) asks i)
    label g =
        let st = h.looks.stands in
        let q : is_unlabelled asks ≡ true = unlabelled_is s c asks st ∙ ap not g.labelled in
        let p = parts q in
        subst at (sym q)
        (subst (λ (n : List ℕ). after_by (headed (s.room c.own) (waits_of table c.own) n (began_behind_cr asks) (is_open asks) (run_of asks) i)) (h.names_are i h.below)
        (more_then (name_at names i) c.run next (began_alone asks) (is_after_cr asks) (began_behind_cr asks) (is_open asks) (run_of asks) (front (room_beside (s.room c.own) (name_at names i)) (waits_of table c.own i)) text
        st.run.utf8 (front_texts (room_beside (s.room c.own) (name_at names i)) (waits_of table c.own i) (h.texts i)) st.run.line st.run.chunk p.1 p.0 g.headed.heads))

begins_then : (s : Setup) (table : Table) (c : State) (asks : List Asked) (names : List (List ℕ)) (i : ℕ) (next : Run) (text : List ℕ) (after : List Waiting) → Turns s table c asks names (Begins i) next text after
    → Then next true (run_of asks) (front (room_beside (s.room c.own) (s.name i)) (waits_of table c.own i)) (began_alone asks) (is_after_cr asks) (began_behind_cr asks) (is_open asks)
begins_then s table c asks names i next text after h =
    let g = h.gives in
    let b = g.begun in
    subst (λ (n : List ℕ). Then next true (run_of asks) (front (room_beside (s.room c.own) n) (waits_of table c.own i)) (began_alone asks) (is_after_cr asks) (began_behind_cr asks) (is_open asks)) (h.names_are i h.below)
    (new_then (name_at names i) g.start next (began_alone asks) (is_after_cr asks) (began_behind_cr asks) (is_open asks) (run_of asks) (front (room_beside (s.room c.own) (name_at names i)) (waits_of table c.own i)) text
    (front_texts (room_beside (s.room c.own) (name_at names i)) (waits_of table c.own i) (h.texts i)) (b.is_open ∙ h.looks.stands.run.line) b.has_chunk g.headed.heads)

-- where this was given, of the leg i
spoken : (s : Setup) (c : State) (asks : List Asked) (w : ℕ → List Chunk) (media : ℕ) (g : Answer) (i : ℕ) (next : Run) (moments : List (Option ℕ)) → c.room ≡ s.room c.own → c.relabel ≡ s.relabel → g.source ≡ i → i < s.legs → (i ≡ c.own → ⊥) → length moments ≡ s.legs
    → ((j : ℕ) → j < s.legs → (j ≡ c.own → ⊥) → since_at moments j ≡ since j (asked_more w media asks (Some g)))
    → Then next g.begins (run_of asks) g.chunks (began_alone asks) (is_after_cr asks) (began_behind_cr asks) (is_open asks)
    → ComposerStandsFor s (remembered (record c { run = next; since = moments; asked = media + 1 }) (Some i) media) (asked_more w media asks (Some g))
spoken s c asks w media g i next moments room again source below other legs since_are t = record {
  legs = legs;
  current = now_current s c.own asks w media g i source below other;
  waits_since = since_are;
  run = t;
  asked = refl;
  relabel = again;
  room = room;
}

pub stands_then : (s : Setup) (table : Table) (c : State) (asks : List Asked) (names : List (List ℕ)) (k : Choice) (next : Run) (text : List ℕ) (after : List Waiting) (media : ℕ) (moments : List (Option ℕ))
    → Turns s table c asks names k next text after → Notes c k media moments
    → ComposerStandsFor s (state_then c k next moments media) (asked_more (waits_of table c.own) media asks (given_of (s.room c.own) s.name (waits_of table c.own) asks k))
stands_then s table c asks names Nobody next text after media moments h n =
    let st = h.looks.stands in
    let w = waits_of table c.own in
    record {
      legs = n.legs ∙ st.legs;
      current = still_current s c.own asks w media (latest asks) c.current st.current;
      waits_since = since_is s c asks w Nobody media moments h.looks n;
      run = subst (λ (q : Run). RunStands q (began_alone asks) (began_behind_cr asks) (run_of asks) (is_open asks)) (sym h.gives.run) st.run;
      asked = refl;
      relabel = st.relabel;
      room = st.room;
    }
stands_then s table c asks names (Begins i) next text after media moments h n =
    let w = waits_of table c.own in
    spoken s c asks w media _ i next moments h.looks.stands.room h.looks.stands.relabel refl h.below h.other (n.legs ∙ h.looks.stands.legs) (since_is s c asks w (Begins i) media moments h.looks n) (begins_then s table c asks names i next text after h)
stands_then s table c asks names (GoesOn i) next text after media moments h n =
    let w = waits_of table c.own in
    spoken s c asks w media _ i next moments h.looks.stands.room h.looks.stands.relabel (source_is (s.room c.own) s.name w asks i) h.below h.other (n.legs ∙ h.looks.stands.legs) (since_is s c asks w (GoesOn i) media moments h.looks n) (on_then s table c asks names i next text after h)

-- ---- what the calls of a turn tell
pub notes_of : (c : State) (k : Choice) (media : ℕ) (speaker : Option ℕ) (flags : List Bool) (old moments : List (Option ℕ)) → speaker ≡ speaker_of k → flags ≡ c.waits → old ≡ c.since
    → length moments ≡ length old → ((i : ℕ) → i < length old → since_at moments i ≡ noted media (is_leg i speaker) (is_set flags i) (since_at old i)) → Notes c k media moments
notes_of c k media speaker flags old moments e f o l n =
    let same = ap (λ (xs : List (Option ℕ)). length xs) o in
    record {
      legs = l ∙ same;
      noted_at = λ i b. n i (omega (arith, b, same)) ∙ (λ r. noted media (is_leg i (e r)) (is_set (f r) i) (since_at (o r) i));
    }

-- The composer (c), asked so, looked at the flags and chose k; this was given, and these are its state and the slots then.
pub record Told (s : Setup) (table : Table) (c : State) (asks : List Asked) (flags : List Bool) (due : Bool) (media : ℕ) (k : Choice) (next : Run) (text : List ℕ) (after : List Waiting) (moments : List (Option ℕ)) : Type 0 where
  pub given : is_some (speaker_of k) ≡ is_some (given_now s table c media due asks)
  pub text_is : text ≡ text_given (given_now s table c media due asks)
  pub stands : ComposerStandsFor s (state_then (record c { waits = flags }) k next moments media) (asked_now s table c media due asks)
  pub slots_stand : slots.SlotsStandFor s after (answered c.own (given_now s table c media due asks) table)

looks_of : (s : Setup) (table : Table) (c : State) (now : List Waiting) (names : List (List ℕ)) (asks : List Asked) (flags : List Bool) → IsAsked s table c now names asks → length flags ≡ length c.since
    → ((i : ℕ) → i < length c.since → is_set flags i ≡ waits_here c.own (waits_of table c.own) i) → Looks s (record c { waits = flags }) asks (waits_of table c.own)
looks_of s table c now names asks flags h l f =
    let st = h.stands in
    record {
      stands = record { legs = st.legs; current = st.current; waits_since = st.waits_since; run = st.run; asked = st.asked; relabel = st.relabel; room = st.room };
      legs = l ∙ st.legs;
      flags = λ i b. f i (omega (arith, b, l));
    }

pub told : (s : Setup) (table : Table) (c : State) (asks : List Asked) (flags : List Bool) (due : Bool) (media : ℕ) (k : Choice) (next : Run) (text : List ℕ) (after : List Waiting) (moments : List (Option ℕ)) (now : List Waiting) (names : List (List ℕ))
    → IsAsked s table c now names asks → length flags ≡ length c.since → ((i : ℕ) → i < length c.since → is_set flags i ≡ waits_here c.own (waits_of table c.own) i)
    → k ≡ choice (record c { waits = flags }) due media → IsBelow (length c.since) k → Gives s table c.own c.room names c.run next (began_alone asks) (began_behind_cr asks) (chars_of (run_of asks)) k text after → Notes (record c { waits = flags }) k media moments
    → Told s table c asks flags due media k next text after moments
told s table c asks flags due media k next text after moments now names h l f chosen below gives n =
    let d : State = record c { waits = flags } in
    let w = waits_of table c.own in
    let looks = looks_of s table c now names asks flags h l f in
    let is : given_of (s.room c.own) s.name w asks k ≡ given_now s table c media due asks = ap (given_of (s.room c.own) s.name w asks) chosen ∙ choice_is s d asks w due media looks in
    let turns : Turns s table d asks names k next text after = record {
      looks = looks;
      names_are = h.names;
      below = subst (λ (n : ℕ). IsBelow n k) h.stands.legs below;
      other = subst (IsOther c.own) (sym chosen) (choice_other s d asks w due media looks);
      texts = h.texts;
      gives =
          subst (λ (n : ℕ). Gives s table c.own n names c.run next (began_alone asks) (began_behind_cr asks) (chars_of (run_of asks)) k text after) h.stands.room gives;
    } in
    record {
      given = some_is (s.room c.own) s.name w asks k ∙ ap is_some is;
      text_is = text_is s table d asks names k next text after turns ∙ ap text_given is;
      stands = subst (λ (g : Option Answer). ComposerStandsFor s (state_then d k next moments media) (asked_more w media asks g)) is (stands_then s table d asks names k next text after media moments turns n);
      slots_stand = subst (λ (g : Option Answer). slots.SlotsStandFor s after (answered c.own g table)) is (slots_are s table d asks names k next text after turns);
    }
