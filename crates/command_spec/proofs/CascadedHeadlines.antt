-- What comes of a conference behind another mixer.
use Rattle.std.proofs.Common.{◌≡◌, ℕ, zero, suc, ◌+◌, ◌<◌, ◌≤◌, ◌^◌, Bool, true, false, cond, Option, Some, None, List, [], ◌∷◌, length, Result, Ok, Err, refl, ap, subst, sym, ◌∙◌, arith}
use Rattle.std.specs.Prelude.{All, flat_map, map, not, ◌&&◌, ◌==◌}
use Rattle.std.specs.List.{AllZip, concat}
use Rattle.std.proofs.lemmas.Bool.{true≢false, eq-eqb, eqb-true, and_parts}
use Rattle.std.proofs.lemmas.List.Elements.{All-nil, All-cons, All-head, All-tail}
use Rattle.rtt_base.specs.declared.text_packets.PayloadTypes.{PayloadTypes}
use Rattle.wire_spec.specs.Packets.{Arrival}
use Rattle.wire_spec.specs.Dump.{arrivals_within, dump}
use Rattle.wire_spec.specs.Dump as dumps
use Rattle.stream_spec.specs.Carries.{Groups}
use Rattle.stream_spec.specs.Hearing.{AreHeardTexts, heard}
use Rattle.stream_spec.specs.Still.{still, still_history}
use Rattle.stream_spec.proofs.ChunkTexts.{chunk_texts}
use Rattle.stream_spec.proofs.HeardTexts.{heard_texts}
use Rattle.stream_spec.proofs.Still.{come_still, lawful_still, texts_still}
use Rattle.stream_spec.proofs.Walks.{l1}
use Rattle.file_spec.specs.declared.conference_lines.Form.TheVariants.{Files}
use Rattle.file_spec.specs.declared.conference_lines.LegLine.{LegLine}
use Rattle.file_spec.specs.Conference.{Conference, conference_from, usual_types}
use Rattle.file_spec.specs.Lines as lines
use Rattle.file_spec.specs.Primaries.{primary_limit}
use Rattle.mixer_spec.specs.Setups.{leg_at, setup, ssrc_of}
use Rattle.mixer_spec.specs.Table.{Table}
use Rattle.mixer_spec.specs.Plain.{plain}
use Rattle.mixer_spec.specs.Arrives.{IsPlan}
use Rattle.mixer_spec.specs.Bridged.{IsPair, input_limit, leg_arrivals, leg_chunks}
use Rattle.mixer_spec.specs.Bridged as mixer
use Rattle.mixer_spec.specs.Pieces.{characters}
use Rattle.mixer_spec.proofs.Conferences.{accepted_law, plan_law}
use Rattle.mixer_spec.proofs.OfFiles.{leg_texts}
use Rattle.mixer_spec.proofs.Recordings.{recordings_law}
use Rattle.command_spec.specs.Splitting.{came_of, chunks_of}
use Rattle.command_spec.specs.Laws.{IsStream, mixed_in, split_of}
use Rattle.command_spec.proofs.Lively.{recordings_mixed}
use Rattle.command_spec.specs.Work.{Contents, Made, Steps, Reads}
use Rattle.command_spec.specs.Outcomes.{AllStored, Done, outcome_from}
use Rattle.command_spec.specs.Mixing.{input_at, makes, outs, views}
use Rattle.command_spec.specs.Bridges.{Bridge, IsHeard, setup_of}
use Rattle.command_spec.specs.Cascading.{cascades, cascades_read, has_other_types, is_on_trunk, mixes_over, mixes_splits, odd_line, reads_others, trunk_limit, trunk_of, unless_faulty, unless_leg_faulty, unless_odd}
use Rattle.command_spec.specs.Cascaded.{CascadesAreBridged, IsCascaded, IsHeardBehind, IsTextOf, heard_of, pieces_heard_of}
use Rattle.command_spec.proofs.BehindMixers.{characters_behind, headline_all_behind, headline_all_by_character, headline_behind, headline_by_character, uncut_behind}
use Rattle.command_spec.proofs.Headlines.{seen}
use Rattle.command_spec.proofs.Regrouped.{groups_say}
use Rattle.command_spec.proofs.Reached.{done_parts, found}
use Rattle.command_spec.proofs.Ssrcs.{ssrcs_fit}
use Rattle.command_spec.proofs.TrunkSizes.{input_fits}
use Rattle.command_spec.proofs.CascadeOutputs.{by_bool}
use Rattle.rtt_base.specs.declared.limits.TheConstants.{MOST_TEXT_OCTETS}

-- ---- what was read
-- the texts of the legs were there
record AreFound (held : Contents) (split : ℕ → List ℕ) (legs : List LegLine) (next : List (List ℕ) → Steps) (printed : List ℕ) (files : List Made) : Type 0 where
  inputs : List (List ℕ)
  lie : AllZip (IsTextOf held split) legs inputs
  last : ℕ
  then_ : outcome_from last held (next inputs) ≡ Done printed files

found_first : (held : Contents) (split : ℕ → List ℕ) (leg : LegLine) (legs : List LegLine) (octets : List ℕ) (next : List (List ℕ) → Steps) (printed : List ℕ) (files : List Made)
    → IsTextOf held split leg octets → AreFound held split legs (λ more. next (octets ∷ more)) printed files → AreFound held split (leg ∷ legs) next printed files
found_first held split leg legs octets next printed files is r = record { inputs = octets ∷ r.inputs; lie = (is, r.lie); last = r.last; then_ = r.then_ }

others_found : (held : Contents) (split : ℕ → List ℕ) (n : ℕ) (legs : List LegLine) (next : List (List ℕ) → Steps) (printed : List ℕ) (files : List Made)
    → outcome_from n held (reads_others split legs next) ≡ Done printed files → AreFound held split legs next printed files
others_found held split n [] next printed files e = record { inputs = []; lie = tt; last = n; then_ = e }
others_found held split n (leg ∷ legs) next printed files e =
    go (is_on_trunk leg) refl e
    (others_found held split n legs (λ more. next (split leg.ssrc ∷ more)) printed files)
    (λ octets. others_found held split (n + 1) legs (λ more. next (octets ∷ more)) printed files)
  where
    go : (b : Bool) → is_on_trunk leg ≡ b
        → outcome_from n held (cond b (reads_others split legs (λ more. next (split leg.ssrc ∷ more))) (Reads leg.input (λ octets. reads_others split legs (λ more. next (octets ∷ more))))) ≡ Done printed files
        → (outcome_from n held (reads_others split legs (λ more. next (split leg.ssrc ∷ more))) ≡ Done printed files → AreFound held split legs (λ more. next (split leg.ssrc ∷ more)) printed files)
        → ((octets : List ℕ) → outcome_from (n + 1) held (reads_others split legs (λ more. next (octets ∷ more))) ≡ Done printed files → AreFound held split legs (λ more. next (octets ∷ more)) printed files)
        → AreFound held split (leg ∷ legs) next printed files
    go true t e rest more =
        found_first held split leg legs (split leg.ssrc) next printed files (record { on_trunk = λ on. refl; read = λ off. absurd (true≢false (sym t ∙ off)) }) (rest e)
    go false t e rest more =
        let f = found n held leg.input (λ octets. reads_others split legs (λ more. next (octets ∷ more))) printed files e in
        found_first held split leg legs f.0 next printed files (record { on_trunk = λ on. absurd (true≢false (sym on ∙ t)); read = λ off. f.1 }) (more f.0 f.2)

not_faulty : (held : Contents) (m n : ℕ) (o : Option dumps.Fault) (steps : Steps) (printed : List ℕ) (files : List Made) → outcome_from m held (unless_faulty n o steps) ≡ Done printed files
    → (o ≡ None) × (outcome_from m held steps ≡ Done printed files)
not_faulty held m n None steps printed files e = (refl, e)
not_faulty held m n (Some fault) steps printed files e = absurd (cc e)

-- none of the recordings has a fault
abbrev AllWhole : ℕ → List (List ℕ) → Type 0
AllWhole limit inputs = All (λ octets. (dump limit octets).fault ≡ None) inputs

legs_whole : (held : Contents) (split : ℕ → List ℕ) (m limit n : ℕ) (legs : List LegLine) (inputs : List (List ℕ)) (steps : Steps) (printed : List ℕ) (files : List Made)
    → AllZip (IsTextOf held split) legs inputs → outcome_from m held (unless_leg_faulty limit n legs inputs steps) ≡ Done printed files
    → AllWhole limit inputs × (outcome_from m held steps ≡ Done printed files)
legs_whole held split m limit n [] [] steps printed files lie e = (All-nil (λ octets. (dump limit octets).fault ≡ None), e)
legs_whole held split m limit n [] (octets ∷ more) steps printed files lie e = absurd lie
legs_whole held split m limit n (leg ∷ legs) [] steps printed files lie e = absurd lie
legs_whole held split m limit n (leg ∷ legs) (octets ∷ more) steps printed files lie e =
    go (is_on_trunk leg) e (legs_whole held split m limit n legs more steps printed files lie.1) (legs_whole held split m limit (suc n) legs more steps printed files lie.1)
  where
    with_first : (dump limit octets).fault ≡ None → AllWhole limit more × (outcome_from m held steps ≡ Done printed files) → AllWhole limit (octets ∷ more) × (outcome_from m held steps ≡ Done printed files)
    with_first none r = (All-cons (λ octets. (dump limit octets).fault ≡ None) octets more none r.0, r.1)

    go : (b : Bool)
        → outcome_from m held (cond b (unless_faulty 1 (dump limit octets).fault (unless_leg_faulty limit n legs more steps)) (unless_faulty n (dump limit octets).fault (unless_leg_faulty limit (suc n) legs more steps))) ≡ Done printed files
        → (outcome_from m held (unless_leg_faulty limit n legs more steps) ≡ Done printed files → AllWhole limit more × (outcome_from m held steps ≡ Done printed files))
        → (outcome_from m held (unless_leg_faulty limit (suc n) legs more steps) ≡ Done printed files → AllWhole limit more × (outcome_from m held steps ≡ Done printed files))
        → AllWhole limit (octets ∷ more) × (outcome_from m held steps ≡ Done printed files)
    go true e same next = let f = not_faulty held m 1 (dump limit octets).fault (unless_leg_faulty limit n legs more steps) printed files e in with_first f.0 (same f.1)
    go false e same next = let f = not_faulty held m n (dump limit octets).fault (unless_leg_faulty limit (suc n) legs more steps) printed files e in with_first f.0 (next f.1)

-- ---- what is heard of a leg behind the other mixer
text_at : (held : Contents) (split : ℕ → List ℕ) (legs : List LegLine) (inputs : List (List ℕ)) (i : ℕ) (leg : LegLine) → AllZip (IsTextOf held split) legs inputs → leg_at legs i ≡ Some leg
    → IsTextOf held split leg (input_at inputs i)
text_at held split [] inputs i leg lie at = absurd (cc at)
text_at held split (l ∷ legs) [] i leg lie at = absurd lie
text_at held split (l ∷ legs) (o ∷ inputs) zero leg lie at = let same : l ≡ leg = cc at in subst (λ x. IsTextOf held split x o) same lie.0
text_at held split (l ∷ legs) (o ∷ inputs) (suc i) leg lie at = text_at held split legs inputs i leg lie.1 at

pub ssrc_fits : (legs : List LegLine) (i : ℕ) (leg : LegLine) → All (λ (l : LegLine). l.ssrc < 2 ^ 32) legs → leg_at legs i ≡ Some leg → leg.ssrc < 2 ^ 32
ssrc_fits [] i leg all at = absurd (cc at)
ssrc_fits (l ∷ legs) zero leg all at = let same : l ≡ leg = cc at in subst (λ (x : LegLine). x.ssrc < 2 ^ 32) same (All-head (λ (l : LegLine). l.ssrc < 2 ^ 32) l legs all)
ssrc_fits (l ∷ legs) (suc i) leg all at = ssrc_fits legs i leg (All-tail (λ (l : LegLine). l.ssrc < 2 ^ 32) l legs all) at

same_types : (a b : PayloadTypes) → a.t140 ≡ b.t140 → a.red ≡ b.red → a ≡ b
same_types a b t r = λ i. record { t140 = t i; red = r i }

not_other : (t b : Bool) → t ≡ true → (t && not b) ≡ false → b ≡ true
not_other true true on e = refl
not_other true false on e = absurd (true≢false e)
not_other false b on e = absurd (true≢false (sym on))

-- its types are the usual ones
types_are : (leg : LegLine) → is_on_trunk leg ≡ true → has_other_types leg ≡ false → leg.payload_types ≡ usual_types
types_are leg on same =
    let both = not_other (is_on_trunk leg) (leg.payload_types.t140 == usual_types.t140 && leg.payload_types.red == usual_types.red) on same in
    let each = and_parts (leg.payload_types.t140 == usual_types.t140) (leg.payload_types.red == usual_types.red) both in
    same_types leg.payload_types usual_types (eqb-true leg.payload_types.t140 usual_types.t140 each.0) (eqb-true leg.payload_types.red usual_types.red each.1)

-- a leg's texts may be as long as those of a block, at least
no_shorter : (long : Bool) → MOST_TEXT_OCTETS ≤ primary_limit long
no_shorter true = omega arith
no_shorter false = omega arith

behind_of : (held : Contents) (ssrc : ℕ) (octets : List ℕ) (b : Bridge) (i : ℕ) (leg : LegLine)
    → AllZip (IsTextOf held (split_of (trunk_of b.conference ssrc) octets)) b.conference.legs b.inputs → All (λ (l : LegLine). l.ssrc < 2 ^ 32) b.conference.legs
    → leg_at b.conference.legs i ≡ Some leg → is_on_trunk leg ≡ true → has_other_types leg ≡ false
    → length (split_of (trunk_of b.conference ssrc) octets leg.ssrc) ≤ input_limit b.conference
    → IsPlan b.conference.plan → ((j : ℕ) → IsPair (setup_of b) j i → IsHeard b j i)
    → IsHeardBehind (trunk_of b.conference ssrc) octets b i leg.ssrc
behind_of held ssrc octets b i leg lie fit at on same few plan heard_at = record {
  same = is_same;
  kept_of = λ h law come.
      groups_say (heard_of b i) (map (λ c. c.text) (chunks_of b.conference.wait past leg.ssrc)) is_same
      ∙ ap concat (chunk_texts b.conference.wait 0 (still past) leg.ssrc ∙ l1 b.conference.wait (still_history h) (lawful_still h law) (still past) (come_still h past come) leg.ssrc);
  headline_by_character = λ j pair h law come. headline_by_character (trunk_of b.conference ssrc) octets b j i leg.ssrc (heard_at j pair) plan h law come in_characters;
  headline_all_by_character = λ stay j pair h law come. headline_all_by_character (trunk_of b.conference ssrc) octets b j i leg.ssrc (heard_at j pair) plan stay h law come in_characters;
  uncut = is_uncut;
  headline = λ none j pair h law come. headline_behind (trunk_of b.conference ssrc) octets b j i leg.ssrc (heard_at j pair) plan h law come (in_blocks none);
  headline_all = λ none stay j pair h law come. headline_all_behind (trunk_of b.conference ssrc) octets b j i leg.ssrc (heard_at j pair) plan stay h law come (in_blocks none);
}
  where
    past : List Arrival
    past = came_of (trunk_of b.conference ssrc) octets

    text : List ℕ
    text = split_of (trunk_of b.conference ssrc) octets leg.ssrc

    is_stream : IsStream usual_types leg.ssrc
    is_stream = record { t140 = omega arith; red = omega arith; differ = λ e. true≢false (sym (eq-eqb 98 100 e)); ssrc = ssrc_fits b.conference.legs i leg fit at }

    heard_is : heard_of b i ≡ mixed_in (primary_limit leg.long) usual_types leg.ssrc (input_limit b.conference) b.conference.wait text
    heard_is =
        ap (λ o. heard b.conference.wait (still (leg_arrivals (input_limit b.conference) o (input_at b.inputs i))) (ssrc_of o)) at
        ∙ (ap (λ (p : PayloadTypes). heard b.conference.wait (still (arrivals_within (primary_limit leg.long) leg.ssrc p [] (dump (input_limit b.conference) (input_at b.inputs i)).items)) leg.ssrc) (types_are leg on same)
        ∙ ap (mixed_in (primary_limit leg.long) usual_types leg.ssrc (input_limit b.conference) b.conference.wait)
        ((text_at held (split_of (trunk_of b.conference ssrc) octets) b.conference.legs b.inputs i leg lie at).on_trunk on))

    is_same : Groups (heard_of b i) (map (λ c. c.text) (chunks_of b.conference.wait (came_of (trunk_of b.conference ssrc) octets) leg.ssrc)) []
    is_same = subst (λ ts. Groups ts (map (λ c. c.text) (chunks_of b.conference.wait (came_of (trunk_of b.conference ssrc) octets) leg.ssrc)) []) (sym heard_is)
        (recordings_mixed (trunk_of b.conference ssrc) octets leg.ssrc is_stream (primary_limit leg.long) (no_shorter leg.long) (input_limit b.conference) b.conference.wait few)

    is_recorded : Groups (heard_of b i) (heard b.conference.wait (still past) leg.ssrc) []
    is_recorded = subst (λ ts. Groups (heard_of b i) ts []) (chunk_texts b.conference.wait 0 (still past) leg.ssrc) is_same

    are_texts : AreHeardTexts (heard_of b i)
    are_texts =
        let arrived = mixer.came_of b.conference (input_at b.inputs) i in
        heard_texts b.conference.wait (still arrived) (ssrc_of (leg_at b.conference.legs i)) (texts_still arrived (leg_texts (input_limit b.conference) (leg_at b.conference.legs i) (input_at b.inputs i)))

    recorded_are_texts : AreHeardTexts (heard b.conference.wait (still past) leg.ssrc)
    recorded_are_texts = heard_texts b.conference.wait (still past) leg.ssrc (texts_still past (recordings_law (dump (trunk_limit b.conference) octets).items ssrc usual_types).0)

    in_characters : Groups (pieces_heard_of b i) (flat_map characters (heard b.conference.wait (still past) leg.ssrc)) []
    in_characters = characters_behind b i (heard b.conference.wait (still past) leg.ssrc) are_texts recorded_are_texts is_recorded

    is_uncut : b.conference.mtu ≡ None → pieces_heard_of b i ≡ heard_of b i
    is_uncut none = uncut_behind b i (heard b.conference.wait (still past) leg.ssrc) are_texts is_recorded none

    in_blocks : b.conference.mtu ≡ None → Groups (pieces_heard_of b i) (heard b.conference.wait (still past) leg.ssrc) []
    in_blocks none = subst (λ (ts : List (List ℕ)). Groups ts (heard b.conference.wait (still past) leg.ssrc) []) (sym (is_uncut none)) is_recorded

-- ---- the whole
-- where no line is odd, no leg behind the other mixer has other types
not_odd : (legs : List LegLine) (i : ℕ) (leg : LegLine) → odd_line legs ≡ None → leg_at legs i ≡ Some leg → has_other_types leg ≡ false
not_odd [] i leg none at = absurd (cc at)
not_odd (l ∷ legs) i leg none at =
    by_bool (λ b. has_other_types l ≡ b → cond b (Some l.line) (odd_line legs) ≡ None → has_other_types leg ≡ false) (has_other_types l)
    (λ t is e. absurd (cc e)) (λ f is e. go i is at (λ k. not_odd legs k leg e)) refl none
  where
    go : (i : ℕ) → has_other_types l ≡ false → leg_at (l ∷ legs) i ≡ Some leg → ((k : ℕ) → leg_at legs k ≡ Some leg → has_other_types leg ≡ false) → has_other_types leg ≡ false
    go zero is at more = let same : l ≡ leg = cc at in subst (λ x. has_other_types x ≡ false) same is
    go (suc k) is at more = more k at

pub cascaded : CascadesAreBridged
cascaded held after conference file ssrc printed files e stored =
    let f = found 0 held conference (λ octets. cascades_read file ssrc (conference_from Files octets)) printed files e in go f.0 f.1 (conference_from Files f.0) refl f.2
  where
    over : (described : List ℕ) → held conference ≡ Some described → (c : Conference) → conference_from Files described ≡ Ok c → odd_line c.legs ≡ None
        → (octets : List ℕ) → held file ≡ Some octets → (dump (trunk_limit c) octets).fault ≡ None → (inputs : List (List ℕ))
        → AllZip (IsTextOf held (split_of (trunk_of c ssrc) octets)) c.legs inputs → AllWhole (input_limit c) inputs → (m : ℕ) (o : Option Table)
        → plain (setup c) c.tick c.turns (leg_chunks c (input_at inputs)) ≡ o → outcome_from m held (makes c o) ≡ Done printed files → IsCascaded held after conference file ssrc printed
    over described there c read even octets h none inputs lie whole m None p e = absurd (cc e)
    over described there c read even octets h none inputs lie whole m (Some table) p e =
        let d = done_parts (views c table) printed (outs c table) files e in
        let b : Bridge = record { conference = c; inputs = inputs; table = table } in
        let is_seen = seen held after described printed b read p (sym d.0) (subst (λ (fs : List Made). AllStored fs held after) (sym d.1) stored) in
        record {
          bridge = b;
          octets = octets;
          cascaded = record { read = (described, there, read); lies = h; recorded = none; texts_lie = lie; whole = whole; over = p };
          seen = is_seen;
          behind = λ i leg at on. behind_of held ssrc octets b i leg lie (ssrcs_fit Files described c read).legs at on (not_odd c.legs i leg even at) (input_fits c ssrc octets leg.ssrc)
              (plan_law c (accepted_law Files described c read).0) (λ j pair. is_seen.heard j i pair);
        }

    behind_mixer : (described : List ℕ) → held conference ≡ Some described → (c : Conference) → conference_from Files described ≡ Ok c → odd_line c.legs ≡ None
        → outcome_from 1 held (cascades file ssrc c) ≡ Done printed files → IsCascaded held after conference file ssrc printed
    behind_mixer described there c read even e =
        let f = found 1 held file (mixes_splits c ssrc) printed files e in
        let split = split_of (trunk_of c ssrc) f.0 in
        let r = not_faulty held 2 1 (dump (trunk_limit c) f.0).fault (reads_others split c.legs (mixes_over c)) printed files f.2 in
        let g = others_found held split 2 c.legs (mixes_over c) printed files r.1 in
        let w = legs_whole held split g.last (input_limit c) 2 c.legs g.inputs (makes c (plain (setup c) c.tick c.turns (leg_chunks c (input_at g.inputs)))) printed files g.lie g.then_ in
        over described there c read even f.0 f.1 r.0 g.inputs g.lie w.0 g.last (plain (setup c) c.tick c.turns (leg_chunks c (input_at g.inputs))) refl w.1

    all_even : (described : List ℕ) → held conference ≡ Some described → (c : Conference) → conference_from Files described ≡ Ok c → (o : Option ℕ) → odd_line c.legs ≡ o
        → outcome_from 1 held (unless_odd o (cascades file ssrc c)) ≡ Done printed files → IsCascaded held after conference file ssrc printed
    all_even described there c read None even e = behind_mixer described there c read even e
    all_even described there c read (Some line) even e = absurd (cc e)

    go : (described : List ℕ) → held conference ≡ Some described → (r : Result Conference lines.Refusal) → conference_from Files described ≡ r
        → outcome_from 1 held (cascades_read file ssrc r) ≡ Done printed files → IsCascaded held after conference file ssrc printed
    go described there (Err refusal) r e = absurd (cc e)
    go described there (Ok c) r e = all_even described there c r (odd_line c.legs) refl e
