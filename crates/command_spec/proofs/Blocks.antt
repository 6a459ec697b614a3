-- Pieces one behind the other, of which none takes back what another leg typed.
use Rattle.std.proofs.Common.{◌≡◌, ℕ, Bool, true, false, cond, ◌⊎◌, inl, inr, Option, Some, None, List, [], ◌∷◌, ◌++◌, refl, ap, subst, sym, ◌∙◌, append_assoc, append-nil, encode_utf8_all}
use Rattle.std.specs.Prelude.{◌==◌, ◌&&◌, ◌||◌, flat_map}
use Rattle.std.specs.List.{list_any}
use Rattle.std.proofs.lemmas.Bool.{and_from, and_parts, eq-eqb}
use Rattle.std.proofs.lemmas.List.Folds.{list_any-append}
use Rattle.std.proofs.lemmas.Str.{encodes-append}
use lib.Utf8.{scalar, scalars}
use Rattle.view_spec.specs.Shown.{signs}
use Rattle.view_spec.specs.TextViews.{label_after}
use Rattle.view_spec.proofs.Erasing.{reach}
use Rattle.command_spec.specs.Named.{Piece, named, named_after, piece_text, prints}
use Rattle.command_spec.specs.Seen.{Words, typed_by, words, words_before, words_text}
use Rattle.command_spec.proofs.Walls.{closed_both}

-- What was sent since the last label, behind it; or since the last turn began, ahead of a label to come.
pub data Block : Type 0 where
  Behind : ℕ → List ℕ → Block
  Before : List ℕ → Block

abbrev pub piece : ℕ → List ℕ → Option Bool → List ℕ → Piece
piece leg ahead label behind = record { leg = leg; ahead = ahead; label = label; behind = behind }

abbrev pub IsClosed : List ℕ → Type 0
IsClosed cs = reach (signs cs) ≡ 0

-- the same leg goes on behind its label
pub record GoesOn (σ : Block) (p : Piece) (τ : Block) : Type 0 where
  pub leg : ℕ
  pub sent : List ℕ
  pub behind : List ℕ
  pub piece_is : p ≡ piece leg [] None behind
  pub from : σ ≡ Behind leg sent
  pub to : τ ≡ Behind leg (sent ++ behind)
  pub closed : IsClosed (sent ++ behind)

-- a turn begins, or goes on whose label is to come
pub record Ahead (σ : Block) (ahead : List ℕ) : Type 0 where
  pub before : List ℕ
  pub from : (before ≡ []) ⊎ (σ ≡ Before before)
  pub closed : IsClosed (before ++ ahead)
  pub unseen : list_any prints ahead ≡ false

-- its label is still to come
pub record Waits (σ : Block) (p : Piece) (τ : Block) : Type 0 where
  pub leg : ℕ
  pub ahead : List ℕ
  pub piece_is : p ≡ piece leg ahead None []
  pub is : Ahead σ ahead
  pub to : τ ≡ Before (is.before ++ ahead)

-- its label stands here
pub record Heads (σ : Block) (p : Piece) (τ : Block) : Type 0 where
  pub leg : ℕ
  pub ahead : List ℕ
  pub is_open : Bool
  pub behind : List ℕ
  pub piece_is : p ≡ piece leg ahead (Some is_open) behind
  pub is : Ahead σ ahead
  pub to : τ ≡ Behind leg behind
  pub closed : IsClosed behind

pub record Follows (σ : Block) (p : Piece) (τ : Block) : Type 0 where
  pub how : GoesOn σ p τ ⊎ (Waits σ p τ ⊎ Heads σ p τ)
  pub ahead_scalars : scalars p.ahead ≡ true
  pub behind_scalars : scalars p.behind ≡ true

abbrev pub Walk : Block → List Piece → Block → Type 0
Walk σ [] τ = σ ≡ τ
Walk σ (p ∷ ps) τ = (ρ : Block) × Follows σ p ρ × Walk ρ ps τ

pub walk_push : (σ : Block) (ps : List Piece) (ρ : Block) (p : Piece) (τ : Block) → Walk σ ps ρ → Follows ρ p τ → Walk σ (ps ++ p ∷ []) τ
walk_push σ [] ρ p τ w f = (τ, subst (λ (b : Block). Follows b p τ) (sym w) f, refl)
walk_push σ (q ∷ ps) ρ p τ w f = (w.0, w.1, walk_push w.0 ps ρ p τ w.2 f)

pub walk_split : (σ : Block) (ps qs : List Piece) (τ : Block) → Walk σ (ps ++ qs) τ → (ρ : Block) × Walk σ ps ρ × Walk ρ qs τ
walk_split σ [] qs τ w = (σ, refl, w)
walk_split σ (p ∷ ps) qs τ w = let r = walk_split w.0 ps qs τ w.2 in (r.0, (w.0, w.1, r.1), r.2)

-- ---- what each says of the leg that is named, and of what can be taken back
abbrev pub Fits : Option ℕ → Block → Type 0
Fits who (Behind leg sent) = who ≡ Some leg
Fits who (Before sent) = Unit {0}

abbrev pub Closed : Block → Type 0
Closed (Behind leg sent) = IsClosed sent
Closed (Before sent) = IsClosed sent

step_fits : (who : Option ℕ) (σ : Block) (p : Piece) (τ : Block) → Fits who σ → Follows σ p τ → Fits (named who p) τ
step_fits who σ p τ f s = elim s.how [
  | inl g ↦ subst (λ (q : Piece). Fits (named who q) τ) (sym g.piece_is) (subst (Fits who) (sym g.to) (let h : Fits who (Behind g.leg g.sent) = subst (Fits who) g.from f in h))
  | inr r ↦ elim r [
    | inl w ↦ subst (Fits (named who p)) (sym w.to) tt
    | inr h ↦ subst (λ (q : Piece). Fits (named who q) τ) (sym h.piece_is) (subst (Fits (Some h.leg)) (sym h.to) refl)
  ]
]

step_closed : (σ : Block) (p : Piece) (τ : Block) → Follows σ p τ → Closed τ
step_closed σ p τ s = elim s.how [
  | inl g ↦ subst Closed (sym g.to) g.closed
  | inr r ↦ elim r [
    | inl w ↦ subst Closed (sym w.to) w.is.closed
    | inr h ↦ subst Closed (sym h.to) h.closed
  ]
]

pub walk_fits : (who : Option ℕ) (σ : Block) (ps : List Piece) (τ : Block) → Fits who σ → Walk σ ps τ → Fits (named_after who ps) τ
walk_fits who σ [] τ f w = subst (Fits who) w f
walk_fits who σ (p ∷ ps) τ f w = walk_fits (named who p) w.0 ps τ (step_fits who σ p w.0 f w.1) w.2

pub walk_closed : (σ : Block) (ps : List Piece) (τ : Block) → Closed σ → Walk σ ps τ → Closed τ
walk_closed σ [] τ c w = subst Closed w c
walk_closed σ (p ∷ ps) τ c w = walk_closed w.0 ps τ (step_closed σ p w.0 w.1) w.2

-- ---- the words of such pieces
abbrev pub E : List ℕ → List ℕ
E cs = encode_utf8_all cs

-- words with a label
pub record HasLabel (name : ℕ → List ℕ) (w : Words) : Type 0 where
  pub leg : ℕ
  pub is_open : Bool
  pub label : w.label ≡ label_after is_open (name leg)
  pub typed_closed : IsClosed w.typed
  pub ahead_closed : IsClosed w.ahead
  pub unseen : list_any prints w.ahead ≡ false
  pub typed_scalars : scalars w.typed ≡ true
  pub ahead_scalars : scalars w.ahead ≡ true

abbrev pub AllLabelled : (ℕ → List ℕ) → List Words → Type 0
AllLabelled name [] = Unit {0}
AllLabelled name (w ∷ ws) = HasLabel name w × AllLabelled name ws

-- what the first words are, which have none, behind this block
abbrev pub IsFirst : Block → Words → Type 0
IsFirst (Behind leg sent) w = IsClosed (sent ++ w.typed) × IsClosed w.ahead
IsFirst (Before sent) w = (w.typed ≡ []) × IsClosed (sent ++ w.ahead)

pub record Cut (name : ℕ → List ℕ) (who : Option ℕ) (σ : Block) (ps : List Piece) : Type 0 where
  pub first : Words
  pub rest : List Words
  pub is : words name who ps ≡ first ∷ rest
  pub text : flat_map (piece_text name) ps ≡ E first.typed ++ (E first.ahead ++ flat_map words_text rest)
  pub label : first.label ≡ []
  pub unseen : list_any prints first.ahead ≡ false
  pub typed_scalars : scalars first.typed ≡ true
  pub ahead_scalars : scalars first.ahead ≡ true
  pub is_first : IsFirst σ first
  pub labelled : AllLabelled name rest

pub scalars_both : (xs ys : List ℕ) → scalars xs ≡ true → scalars ys ≡ true → scalars (xs ++ ys) ≡ true
scalars_both [] ys e f = f
scalars_both (x ∷ xs) ys e f =
    let p = and_parts (scalar x) (scalars xs) e in
    and_from (scalar x) (scalars (xs ++ ys)) p.0 (scalars_both xs ys p.1 f)

any_both : (xs ys : List ℕ) → list_any prints xs ≡ false → list_any prints ys ≡ false → list_any prints (xs ++ ys) ≡ false
any_both xs ys e f = list_any-append prints xs ys ∙ (ap (λ b. b || list_any prints ys) e ∙ f)

-- what was typed by the leg that is named
typed_own : (leg : ℕ) (ahead : List ℕ) (label : Option Bool) (behind : List ℕ) → typed_by (Some leg) (piece leg ahead label behind) ≡ behind
typed_own leg ahead label behind = ap (λ b. cond b behind []) (eq-eqb leg leg refl)

typed_none : (who : Option ℕ) (leg : ℕ) (ahead : List ℕ) → typed_by who (piece leg ahead None []) ≡ []
typed_none None leg ahead = refl
typed_none (Some l) leg ahead = go (leg == l) []
  where
    go : (b : Bool) (xs : List ℕ) → cond b xs xs ≡ xs
    go true xs = refl
    go false xs = refl

typed_text : (typed behind more rest : List ℕ) → typed ≡ behind → E behind ++ (E more ++ rest) ≡ E (typed ++ more) ++ rest
typed_text typed behind more rest e = sym (append_assoc (E behind) (E more) rest) ∙ ap (λ l. l ++ rest) (sym (encodes-append behind more) ∙ ap (λ l. E (l ++ more)) (sym e))

goes_cut : (name : ℕ → List ℕ) (leg : ℕ) (sent behind : List ℕ) (ps : List Piece) → scalars behind ≡ true → Cut name (Some leg) (Behind leg (sent ++ behind)) ps → Cut name (Some leg) (Behind leg sent) (piece leg [] None behind ∷ ps)
goes_cut name leg sent behind ps sc r =
    let p = piece leg [] None behind in
    let own = typed_own leg [] None behind in
    let w = r.first in
    record {
      first = record { label = []; leg = Some leg; typed = typed_by (Some leg) p ++ w.typed; ahead = w.ahead };
      rest = r.rest;
      is = ap (words_before name (Some leg) p) r.is;
      text = ap (λ l. E behind ++ l) r.text ∙ typed_text (typed_by (Some leg) p) behind w.typed (E w.ahead ++ flat_map words_text r.rest) own;
      label = refl;
      unseen = r.unseen;
      typed_scalars = ap (λ l. scalars (l ++ w.typed)) own ∙ scalars_both behind w.typed sc r.typed_scalars;
      ahead_scalars = r.ahead_scalars;
      is_first = (ap (λ l. reach (signs (sent ++ (l ++ w.typed)))) own ∙ (ap (λ l. reach (signs l)) (sym (append_assoc sent behind w.typed)) ∙ r.is_first.0), r.is_first.1);
      labelled = r.labelled;
    }

-- what goes ahead, behind this block
first_ahead : (σ : Block) (ahead more : List ℕ) → Closed σ → (a : Ahead σ ahead) → IsClosed ((a.before ++ ahead) ++ more) → (typed : List ℕ) → typed ≡ [] → (who : Option ℕ) → IsFirst σ (record { label = []; leg = who; typed = typed; ahead = ahead ++ more })
first_ahead σ ahead more c a e typed t who = elim a.from [ inl z ↦ go σ c z | inr q ↦ subst (λ (b : Block). IsFirst b w) (sym q) (t, ap (λ l. reach (signs l)) (sym (append_assoc a.before ahead more)) ∙ e) ]
  where
    w : Words
    w = record { label = []; leg = who; typed = typed; ahead = ahead ++ more }

    alone : a.before ≡ [] → IsClosed (ahead ++ more)
    alone z = ap (λ l. reach (signs ((l ++ ahead) ++ more))) (sym z) ∙ e

    go : (σ : Block) → Closed σ → a.before ≡ [] → IsFirst σ w
    go (Behind leg sent) c z = (ap (λ l. reach (signs l)) (ap (λ l. sent ++ l) t ∙ append-nil sent) ∙ c, alone z)
    go (Before sent) c z = (t, closed_both sent (ahead ++ more) c (alone z))

waits_cut : (name : ℕ → List ℕ) (who : Option ℕ) (leg : ℕ) (ahead : List ℕ) (σ : Block) (ps : List Piece) → scalars ahead ≡ true → Closed σ → (a : Ahead σ ahead) → Cut name who (Before (a.before ++ ahead)) ps → Cut name who σ (piece leg ahead None [] ∷ ps)
waits_cut name who leg ahead σ ps sc c a r =
    let p = piece leg ahead None [] in
    let w = r.first in
    let none : typed_by who p ++ w.typed ≡ [] = ap (λ l. l ++ w.typed) (typed_none who leg ahead) ∙ r.is_first.0 in
    let behind = flat_map words_text r.rest in
    record {
      first = record { label = []; leg = who; typed = typed_by who p ++ w.typed; ahead = ahead ++ w.ahead };
      rest = r.rest;
      is = ap (words_before name who p) r.is;
      text = ap (λ l. l ++ flat_map (piece_text name) ps) (append-nil (E ahead))
          ∙ (ap (λ l. E ahead ++ l) (r.text ∙ ap (λ l. E l ++ (E w.ahead ++ behind)) r.is_first.0)
          ∙ (typed_text ahead ahead w.ahead behind refl
          ∙ ap (λ l. E l ++ (E (ahead ++ w.ahead) ++ behind)) (sym none)));
      label = refl;
      unseen = any_both ahead w.ahead a.unseen r.unseen;
      typed_scalars = ap scalars none;
      ahead_scalars = scalars_both ahead w.ahead sc r.ahead_scalars;
      is_first = first_ahead σ ahead w.ahead c a r.is_first.1 (typed_by who p ++ w.typed) none who;
      labelled = r.labelled;
    }

heads_cut : (name : ℕ → List ℕ) (who : Option ℕ) (leg : ℕ) (ahead : List ℕ) (on : Bool) (behind : List ℕ) (σ : Block) (ps : List Piece) → scalars ahead ≡ true → scalars behind ≡ true → Closed σ → (a : Ahead σ ahead)
    → Cut name (Some leg) (Behind leg behind) ps → Cut name who σ (piece leg ahead (Some on) behind ∷ ps)
heads_cut name who leg ahead on behind σ ps sa sb c a r =
    let p = piece leg ahead (Some on) behind in
    let own = typed_own leg ahead (Some on) behind in
    let w = r.first in
    let l = label_after on (name leg) in
    let typed = typed_by (Some leg) p ++ w.typed in
    let after = flat_map words_text r.rest in
    record {
      first = record { label = []; leg = who; typed = []; ahead = ahead };
      rest = record { label = l; leg = Some leg; typed = typed; ahead = w.ahead } ∷ r.rest;
      is = ap (words_before name who p) r.is;
      text = append_assoc (E ahead) (l ++ E behind) (flat_map (piece_text name) ps)
          ∙ ap (λ x. E ahead ++ x) (append_assoc l (E behind) (flat_map (piece_text name) ps)
          ∙ (ap (λ x. l ++ (E behind ++ x)) r.text
          ∙ (ap (λ x. l ++ x) (typed_text (typed_by (Some leg) p) behind w.typed (E w.ahead ++ after) own ∙ sym (append_assoc (E typed) (E w.ahead) after))
          ∙ sym (append_assoc l (E typed ++ E w.ahead) after))));
      label = refl;
      unseen = a.unseen;
      typed_scalars = refl;
      ahead_scalars = sa;
      is_first = subst (λ (x : List ℕ). IsFirst σ (record { label = []; leg = who; typed = []; ahead = x })) (append-nil ahead)
          (first_ahead σ ahead [] c a (ap (λ x. reach (signs x)) (append-nil (a.before ++ ahead)) ∙ a.closed) [] refl who);
      labelled = (
        record {
          leg = leg;
          is_open = on;
          label = refl;
          typed_closed = ap (λ x. reach (signs (x ++ w.typed))) own ∙ r.is_first.0;
          ahead_closed = r.is_first.1;
          unseen = r.unseen;
          typed_scalars = ap (λ x. scalars (x ++ w.typed)) own ∙ scalars_both behind w.typed sb r.typed_scalars;
          ahead_scalars = r.ahead_scalars;
        },
        r.labelled,
      );
    }

no_words : (name : ℕ → List ℕ) (who : Option ℕ) (σ : Block) → Closed σ → Cut name who σ []
no_words name who σ c = record {
  first = record { label = []; leg = who; typed = []; ahead = [] };
  rest = [];
  is = refl;
  text = refl;
  label = refl;
  unseen = refl;
  typed_scalars = refl;
  ahead_scalars = refl;
  is_first = go σ c;
  labelled = tt;
}
  where
    go : (σ : Block) → Closed σ → IsFirst σ (record { label = []; leg = who; typed = []; ahead = [] })
    go (Behind leg sent) c = (ap (λ l. reach (signs l)) (append-nil sent) ∙ c, refl)
    go (Before sent) c = (refl, ap (λ l. reach (signs l)) (append-nil sent) ∙ c)

pub cut_words : (name : ℕ → List ℕ) (who : Option ℕ) (σ : Block) (ps : List Piece) (τ : Block) → Fits who σ → Closed σ → Walk σ ps τ → Cut name who σ ps
cut_words name who σ [] τ f c w = no_words name who σ c
cut_words name who σ (p ∷ ps) τ f c w = go w.1.how (cut_words name (named who p) w.0 ps τ (step_fits who σ p w.0 f w.1) (step_closed σ p w.0 w.1) w.2)
  where
    go : GoesOn σ p w.0 ⊎ (Waits σ p w.0 ⊎ Heads σ p w.0) → Cut name (named who p) w.0 ps → Cut name who σ (p ∷ ps)
    go (inl g) r =
        let same : who ≡ Some g.leg = subst (Fits who) g.from f in
        let sc = subst (λ (q : Piece). scalars q.behind ≡ true) g.piece_is w.1.behind_scalars in
        let named_same : named who p ≡ Some g.leg = ap (named who) g.piece_is ∙ same in
        let r1 = subst (λ (b : Block). Cut name (named who p) b ps) g.to r in
        let r2 = subst (λ (o : Option ℕ). Cut name o (Behind g.leg (g.sent ++ g.behind)) ps) named_same r1 in
        subst (λ (q : Piece). Cut name who σ (q ∷ ps)) (sym g.piece_is)
        (subst (λ (b : Block). Cut name who b (piece g.leg [] None g.behind ∷ ps)) (sym g.from)
        (subst (λ (o : Option ℕ). Cut name o (Behind g.leg g.sent) (piece g.leg [] None g.behind ∷ ps)) (sym same) (goes_cut name g.leg g.sent g.behind ps sc r2)))
    go (inr (inl h)) r =
        let sc = subst (λ (q : Piece). scalars q.ahead ≡ true) h.piece_is w.1.ahead_scalars in
        let r1 = subst (λ (b : Block). Cut name (named who p) b ps) h.to r in
        let r2 = subst (λ (q : Piece). Cut name (named who q) (Before (h.is.before ++ h.ahead)) ps) h.piece_is r1 in
        subst (λ (q : Piece). Cut name who σ (q ∷ ps)) (sym h.piece_is) (waits_cut name who h.leg h.ahead σ ps sc c h.is r2)
    go (inr (inr h)) r =
        let sa = subst (λ (q : Piece). scalars q.ahead ≡ true) h.piece_is w.1.ahead_scalars in
        let sb = subst (λ (q : Piece). scalars q.behind ≡ true) h.piece_is w.1.behind_scalars in
        let r1 = subst (λ (b : Block). Cut name (named who p) b ps) h.to r in
        let r2 = subst (λ (q : Piece). Cut name (named who q) (Behind h.leg h.behind) ps) h.piece_is r1 in
        subst (λ (q : Piece). Cut name who σ (q ∷ ps)) (sym h.piece_is) (heads_cut name who h.leg h.ahead h.is_open h.behind σ ps sa sb c h.is r2)
