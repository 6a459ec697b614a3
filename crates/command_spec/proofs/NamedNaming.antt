-- Each character that prints stands behind the label of the leg that typed it.
use Rattle.std.proofs.Common.{◌≡◌, ℕ, suc, ◌<◌, ◌≤◌, Bool, true, false, cond, ◌⊎◌, inl, inr, Option, Some, None, List, [], ◌∷◌, ◌++◌, length, refl, ap, subst, sym, ◌∙◌, arith, append_assoc, append-nil}
use Rattle.std.specs.Prelude.{◌==◌, ◌&&◌, ◌||◌, not, if◌then◌else◌, encode_utf8_all}
use Rattle.std.specs.List.{AllZip, list_any}
use Rattle.std.specs.Str.{chars}
use Rattle.std.proofs.lemmas.Bool.{and_from, and_parts, and_right, cases_Bool, eqb-false, eqb-true, not-true, true≢false}
use Rattle.std.proofs.lemmas.List.Elements.{filter-append}
use Rattle.std.proofs.lemmas.List.Folds.{list_any-append}
use Rattle.std.proofs.lemmas.Str.{chars-append, chars-encodes}
use lib.Utf8.{scalar, scalars}
use Rattle.view_spec.specs.Characters.{is_open_after}
use Rattle.view_spec.specs.Shown.{signs}
use Rattle.view_spec.specs.TextViews.{is_bracket, is_direction, label_after, without_directions}
use Rattle.view_spec.proofs.Erasing.{reach}
use Rattle.stream_spec.specs.Ready.{Chunk}
use Rattle.mixer_spec.specs.Chunks.{joined, has_chunk, front}
use Rattle.mixer_spec.specs.Rounds.{first_round}
use Rattle.mixer_spec.specs.Setups.{Setup}
use Rattle.mixer_spec.specs.Composed.{Answer, Asked, began_alone, began_behind_cr, begin_with, behind_label, chars_of, from_seen, go_on, gone_on, headed, is_after_cr, is_erased, is_labelled_again, is_open, is_seen, is_switch, is_unlabelled, labelled, latest, own_part, room_beside, run_of, seen_part, speak_on, waits_here, with_label, written, answer, answer_after}
use Rattle.mixer_spec.specs.Laws.{AreTexts, IsComposed, IsAnswered}
use Rattle.mixer_spec.specs.OneText.{StandsBeforeSeen, begins_seen, label_before}
use Rattle.mixer_spec.proofs.Rounds.{round_some}
use Rattle.mixer_spec.proofs.Labels.{stands_before_seen, unseen_plain, written_plain}
use Rattle.mixer_spec.proofs.Texts.{front_texts, joined_utf8, texts_left, texts_right, utf8_scalars, written_scalars}
use Rattle.command_spec.specs.Named.{Piece, IsPieceOf, IsNamed, AreNamed, AreAllNamed, answers, named, named_after, piece_text, prints}
use Rattle.command_spec.proofs.Blocks.{Ahead, Before, Behind, Block, Fits, Follows, Walk, piece, walk_fits, walk_push}
use Rattle.command_spec.proofs.Sent.{written_both, written_closed}
use Rattle.command_spec.proofs.Walls.{own_closed, own_none, unseen_closed}
use Rattle.mixer_spec.proofs.After.{joined_texts as texts_both}
use Rattle.mixer_spec.proofs.Plain.{joined_append}

-- ---- brackets, and what prints
no_print : (cr : Bool) (run : List ℕ) (c : ℕ) → is_seen cr run c ≡ false → prints c ≡ false
no_print cr run c e = elim (cases_Bool (prints c)) [
  | inl t ↦ absurd (true≢false (sym (ap (λ b. b || (c == 0x08 && is_erased (own_part cr run))) t) ∙ e))
  | inr f ↦ f
]

none_print : (cr : Bool) (run ahead : List ℕ) → from_seen cr run ahead ≡ [] → list_any prints ahead ≡ false
none_print cr run [] u = refl
none_print cr run (c ∷ ahead) u = go (is_seen cr run c) refl u (none_print cr (run ++ c ∷ []) ahead)
  where
    go : (b : Bool) → is_seen cr run c ≡ b → cond b (c ∷ ahead) (from_seen cr (run ++ c ∷ []) ahead) ≡ [] → (from_seen cr (run ++ c ∷ []) ahead ≡ [] → list_any prints ahead ≡ false) → (prints c || list_any prints ahead) ≡ false
    go true e v h = absurd (cc v)
    go false e v h = ap (λ b. b || list_any prints ahead) (no_print cr run c e) ∙ h v

plain_both : (ahead own typed : List ℕ) → list_any is_bracket ahead ≡ false → list_any is_bracket (ahead ++ written own typed) ≡ false
plain_both ahead own typed n = list_any-append is_bracket ahead (written own typed) ∙ (ap (λ b. b || list_any is_bracket (written own typed)) n ∙ written_plain own typed)

-- ---- characters of chunks
no_chars : chars_of [] ≡ []
no_chars = ap without_directions (chars-encodes [] refl)

chars_append : (cs ds : List Chunk) → AreTexts cs → chars_of (cs ++ ds) ≡ chars_of cs ++ chars_of ds
chars_append cs ds a =
    ap without_directions (ap chars (joined_append cs ds) ∙ chars-append (joined cs) (joined ds) (joined_utf8 cs a))
    ∙ filter-append (λ c. not (is_direction c)) (chars (joined cs)) (chars (joined ds))

-- what is seen behind characters of which nothing is
from_then : (cr : Bool) (run xs ys : List ℕ) → from_seen cr run xs ≡ [] → from_seen cr run (xs ++ ys) ≡ from_seen cr (run ++ xs) ys
from_then cr run [] ys e = ap (λ (zs : List ℕ). from_seen cr zs ys) (sym (append-nil run))
from_then cr run (c ∷ xs) ys e = go (is_seen cr run c) e
    (λ e. from_then cr (run ++ c ∷ []) xs ys e ∙ ap (λ (zs : List ℕ). from_seen cr zs ys) (append_assoc run (c ∷ []) xs))
  where
    go : (b : Bool) → cond b (c ∷ xs) (from_seen cr (run ++ c ∷ []) xs) ≡ [] → (from_seen cr (run ++ c ∷ []) xs ≡ [] → from_seen cr (run ++ c ∷ []) (xs ++ ys) ≡ from_seen cr (run ++ c ∷ xs) ys)
        → cond b (c ∷ xs ++ ys) (from_seen cr (run ++ c ∷ []) (xs ++ ys)) ≡ from_seen cr (run ++ c ∷ xs) ys
    go true e h = absurd (cc e)
    go false e h = h e

-- nothing is seen of both where nothing is seen of either
from_both : (cr : Bool) (run xs ys : List ℕ) → from_seen cr run xs ≡ [] → from_seen cr (run ++ xs) ys ≡ [] → from_seen cr run (xs ++ ys) ≡ []
from_both cr run xs ys e f = from_then cr run xs ys e ∙ f

-- where something is seen, all that follows is
from_more : (cr : Bool) (run xs ys : List ℕ) → (from_seen cr run xs ≡ [] → ⊥) → from_seen cr run (xs ++ ys) ≡ from_seen cr run xs ++ ys
from_more cr run [] ys n = absurd (n refl)
from_more cr run (c ∷ xs) ys n = go (is_seen cr run c) n (from_more cr (run ++ c ∷ []) xs ys)
  where
    go : (b : Bool) → (cond b (c ∷ xs) (from_seen cr (run ++ c ∷ []) xs) ≡ [] → ⊥) → ((from_seen cr (run ++ c ∷ []) xs ≡ [] → ⊥) → from_seen cr (run ++ c ∷ []) (xs ++ ys) ≡ from_seen cr (run ++ c ∷ []) xs ++ ys)
        → cond b (c ∷ xs ++ ys) (from_seen cr (run ++ c ∷ []) (xs ++ ys)) ≡ cond b (c ∷ xs) (from_seen cr (run ++ c ∷ []) xs) ++ ys
    go true n h = refl
    go false n h = h n

from_begin : (cr : Bool) (run xs : List ℕ) → begins_seen cr run xs ≡ true → from_seen cr run xs ≡ xs
from_begin cr run [] e = refl
from_begin cr run (c ∷ xs) e = ap (λ b. cond b (c ∷ xs) (from_seen cr (run ++ c ∷ []) xs)) e

some_length : (xs : List ℕ) → (xs ≡ [] → ⊥) → (length xs == 0) ≡ false
some_length [] n = absurd (n refl)
some_length (x ∷ xs) n = elim (cases_Bool (length (x ∷ xs) == 0)) [
  | inl t ↦ let v = eqb-true (length (x ∷ xs)) 0 t in absurd (omega arith)
  | inr f ↦ f
]

some_more : (xs ys : List ℕ) → (xs ≡ [] → ⊥) → xs ++ ys ≡ [] → ⊥
some_more [] ys n e = n refl
some_more (x ∷ xs) ys n e = cc e

none_length : (xs : List ℕ) → (length xs == 0) ≡ true → xs ≡ []
none_length [] e = refl
none_length (x ∷ xs) e = let v = eqb-true (length (x ∷ xs)) 0 e in absurd (omega arith)

-- ---- characters that can be encoded
chars_scalars : (cs : List Chunk) → AreTexts cs → scalars (chars_of cs) ≡ true
chars_scalars cs a = utf8_scalars cs (joined_utf8 cs a)

scalar_parts : (xs ys : List ℕ) → scalars (xs ++ ys) ≡ true → (scalars xs ≡ true) × (scalars ys ≡ true)
scalar_parts [] ys e = (refl, e)
scalar_parts (x ∷ xs) ys e =
    let p = and_parts (scalar x) (scalars (xs ++ ys)) e in
    let r = scalar_parts xs ys p.1 in
    (and_from (scalar x) (scalars xs) p.0 r.0, r.1)

-- ---- a text with its label, in parts
-- the text of these chunks behind those of the run, with its label
record Headed (name : ℕ → List ℕ) (u : ℕ) (cr on : Bool) (run cs : List Chunk) : Type 0 where
  ahead : List ℕ
  label : Option Bool
  typed : List ℕ
  text : with_label (name u) cr on run cs ≡ piece_text name (record { leg = u; ahead = ahead; label = label; behind = written [] typed })
  chars : chars_of cs ≡ ahead ++ typed
  plain : list_any is_bracket ahead ≡ false
  unseen : list_any prints ahead ≡ false
  from : from_seen cr (chars_of run) ahead ≡ []
  seen : from_seen cr (chars_of run) (chars_of cs) ≡ typed
  either : ((is_open : Bool) × (label ≡ Some is_open) × ((cs ≡ []) ⊎ (typed ≡ [] → ⊥))) ⊎ ((label ≡ None) × (typed ≡ []) × (has_chunk cs ≡ true))

with_label_parts : (name : ℕ → List ℕ) (u : ℕ) (cr on : Bool) (run cs : List Chunk) → Headed name u cr on run cs
with_label_parts name u cr on run [] = record {
  ahead = [];
  label = Some on;
  typed = [];
  text = sym (append-nil (label_after on (name u)));
  chars = no_chars;
  plain = refl;
  unseen = refl;
  from = refl;
  seen = ap (from_seen cr (chars_of run)) no_chars;
  either = inl (on, refl, inl refl);
}
with_label_parts name u cr on run (c ∷ cs) = go r.ahead r.rest r.parts r.unseen r.seen r.is
  where
    r : StandsBeforeSeen (name u) cr on (chars_of run) (chars_of (c ∷ cs))
    r = stands_before_seen (name u) cr on (chars_of run) (chars_of (c ∷ cs))

    go : (ahead rest : List ℕ) → chars_of (c ∷ cs) ≡ ahead ++ rest → from_seen cr (chars_of run) ahead ≡ [] → begins_seen cr (chars_of run ++ ahead) rest ≡ true
        → labelled (name u) cr on (chars_of run) (chars_of (c ∷ cs)) ≡ encode_utf8_all ahead ++ label_before (name u) (is_open_after on ahead) rest
        → Headed name u cr on run (c ∷ cs)
    go ahead [] p q s e = record {
      ahead = ahead;
      label = None;
      typed = [];
      text = e;
      chars = p;
      plain = unseen_plain cr (chars_of run) ahead q;
      unseen = none_print cr (chars_of run) ahead q;
      from = q;
      seen = ap (from_seen cr (chars_of run)) (p ∙ append-nil ahead) ∙ q;
      either = inr (refl, refl, refl);
    }
    go ahead (x ∷ rest) p q s e = record {
      ahead = ahead;
      label = Some (is_open_after on ahead);
      typed = x ∷ rest;
      text = e;
      chars = p;
      plain = unseen_plain cr (chars_of run) ahead q;
      unseen = none_print cr (chars_of run) ahead q;
      from = q;
      seen = ap (from_seen cr (chars_of run)) p ∙ (from_then cr (chars_of run) ahead (x ∷ rest) q ∙ from_begin cr (chars_of run ++ ahead) (x ∷ rest) s);
      either = inl (is_open_after on ahead, refl, inr (λ n. cc n));
    }

-- ---- pieces one behind the other
named_push : (who : Option ℕ) (ps : List Piece) (p : Piece) → AreNamed who ps → IsNamed (named_after who ps) p → AreNamed who (ps ++ p ∷ [])
named_push who [] p a n = (n, tt)
named_push who (q ∷ ps) p a n = (a.0, named_push (named who q) ps p a.1 n)

zip_push : (name : ℕ → List ℕ) (gs : List Answer) (ps : List Piece) (g : Answer) (p : Piece) → AllZip (IsPieceOf name) gs ps → IsPieceOf name g p → AllZip (IsPieceOf name) (gs ++ g ∷ []) (ps ++ p ∷ [])
zip_push name [] [] g p a n = (n, tt)
zip_push name [] (q ∷ ps) g p a n = absurd a
zip_push name (h ∷ gs) [] g p a n = absurd a
zip_push name (h ∷ gs) (q ∷ ps) g p a n = (a.0, zip_push name gs ps g p a.1 n)

-- What was sent since the last label, or ahead of one to come: all characters of the run of which none is seen, or what is sent
-- of those behind the label.
record IsBehind (asks : List Asked) (block : Block) : Type 0 where
  has_label : is_unlabelled asks ≡ false
  is : (g : Answer) → latest asks ≡ Some g → block ≡ Behind g.source (written [] (behind_label asks))

abbrev Stands : List Asked → Block → Type 0
Stands asks block = ((is_unlabelled asks ≡ true) × (block ≡ Before (chars_of (run_of asks)))) ⊎ IsBehind asks block

-- what holds after these asks
record State (s : Setup) (own : ℕ) (asks : List Asked) : Type 0 where
  pieces : List Piece
  all : AreAllNamed s asks pieces
  block : Block
  walk : Walk (Before []) pieces block
  stands : Stands asks block
  speaker : (g : Answer) → latest asks ≡ Some g → (g.source < s.legs) × (g.source ≡ own → ⊥)
  alone : has_chunk (run_of asks) ≡ false → began_alone asks ≡ true
  texts : AreTexts (run_of asks)

-- the label that stands last is the speaker's, unless it is to come
last_named : (s : Setup) (own : ℕ) (asks : List Asked) (t : State s own asks) (g : Answer) → latest asks ≡ Some g → is_unlabelled asks ≡ false → named_after None t.pieces ≡ Some g.source
last_named s own asks t g q un = elim t.stands [
  | inl a ↦ absurd (true≢false (sym a.0 ∙ un))
  | inr a ↦ subst (Fits (named_after None t.pieces)) (a.is g q) (walk_fits None (Before []) t.pieces t.block tt t.walk)
]

-- the ask after these with this answer
abbrev with_ask : ℕ → (ℕ → Bool) → Answer → List Asked → List Asked
with_ask m w g past = record { media = m; waiting = w; given = Some g } ∷ past

-- the state after a further answer, of which this is the piece
further : (s : Setup) (own m : ℕ) (w : ℕ → Bool) (past : List Asked) (g : Answer) (p : Piece) (t : State s own past) → IsPieceOf s.name g p → IsNamed (named_after None t.pieces) p
    → (b : Block) → Follows t.block p b → Stands (with_ask m w g past) b
    → g.source < s.legs → (g.source ≡ own → ⊥) → (has_chunk (run_of (with_ask m w g past)) ≡ false → began_alone (with_ask m w g past) ≡ true) → AreTexts (run_of (with_ask m w g past)) → State s own (with_ask m w g past)
further s own m w past g p t o n b f st l d al x = record {
  pieces = t.pieces ++ p ∷ [];
  all = record { of = zip_push s.name (answers past) t.pieces g p t.all.of o; named = named_push None t.pieces p t.all.named n };
  block = b;
  walk = walk_push (Before []) t.pieces t.block p b t.walk f;
  stands = st;
  speaker = λ k e. let same : g ≡ k = cc e in subst (λ (y : Answer). (y.source < s.legs) × (y.source ≡ own → ⊥)) same (l, d);
  alone = al;
  texts = x;
}

headed_of : (s : Setup) (room : ℕ) (waits : ℕ → List Chunk) (cr on : Bool) (run : List Chunk) (u : ℕ) (r : Headed s.name u cr on run (front (room_beside room (s.name u)) (waits u)))
    → IsPieceOf s.name (headed room waits (s.name u) cr on run u) (record { leg = u; ahead = r.ahead; label = r.label; behind = written [] r.typed })
headed_of s room waits cr on run u r = record {
  leg = refl;
  text = r.text;
  own = [];
  typed = r.typed;
  chars = r.chars;
  behind = refl;
  no_bracket = plain_both r.ahead [] r.typed r.plain;
}

headed_named : (name : ℕ → List ℕ) (u : ℕ) (cr on : Bool) (run cs : List Chunk) (who : Option ℕ) (r : Headed name u cr on run cs) → IsNamed who (record { leg = u; ahead = r.ahead; label = r.label; behind = written [] r.typed })
headed_named name u cr on run cs who r = record { unseen = r.unseen; names = elim r.either [ inl a ↦ inr (ap (λ (o : Option Bool). named who (record { leg = u; ahead = r.ahead; label = o; behind = written [] r.typed })) a.1) | inr a ↦ inl (ap (written []) a.1) ] }

-- what such a piece has behind the block: the characters of the run before it go ahead, if it goes on
abbrev headed_ahead : (name : ℕ → List ℕ) (u : ℕ) (cr on : Bool) (run cs : List Chunk) (σ : Block) (before : List ℕ) → (before ≡ []) ⊎ (σ ≡ Before before) → before ≡ chars_of run → from_seen cr [] before ≡ []
    → (r : Headed name u cr on run cs) → Ahead σ r.ahead
headed_ahead name u cr on run cs σ before f same none r = record {
  before = before;
  from = f;
  closed = own_closed cr (before ++ r.ahead) (unseen_closed cr [] (before ++ r.ahead) (ap (λ l. reach (signs l)) (own_none cr)) (from_both cr [] before r.ahead none (ap (λ (l : List ℕ). from_seen cr l r.ahead) same ∙ r.from)));
  unseen = r.unseen;
}

abbrev headed_piece : (name : ℕ → List ℕ) (u : ℕ) (cr on : Bool) (run cs : List Chunk) → Headed name u cr on run cs → Piece
headed_piece name u cr on run cs r = record { leg = u; ahead = r.ahead; label = r.label; behind = written [] r.typed }

headed_scalars : (name : ℕ → List ℕ) (u : ℕ) (cr on : Bool) (run cs : List Chunk) → AreTexts cs → (r : Headed name u cr on run cs) → (scalars r.ahead ≡ true) × (scalars (written [] r.typed) ≡ true)
headed_scalars name u cr on run cs a r =
    let p = scalar_parts r.ahead r.typed (ap scalars (sym r.chars) ∙ chars_scalars cs a) in
    (p.0, written_scalars [] r.typed p.1)

-- with its label
headed_labelled : (name : ℕ → List ℕ) (u : ℕ) (cr on : Bool) (run cs : List Chunk) (σ : Block) → AreTexts cs → (r : Headed name u cr on run cs) → Ahead σ r.ahead → (is_open : Bool) → r.label ≡ Some is_open
    → Follows σ (headed_piece name u cr on run cs r) (Behind u (written [] r.typed))
headed_labelled name u cr on run cs σ a r h is_open e = record {
  how = inr (inr (record {
    leg = u;
    ahead = r.ahead;
    is_open = is_open;
    behind = written [] r.typed;
    piece_is = ap (λ (o : Option Bool). piece u r.ahead o (written [] r.typed)) e;
    is = h;
    to = refl;
    closed = written_closed r.typed;
  }));
  ahead_scalars = (headed_scalars name u cr on run cs a r).0;
  behind_scalars = (headed_scalars name u cr on run cs a r).1;
}

-- with its label still to come
headed_waits : (name : ℕ → List ℕ) (u : ℕ) (cr on : Bool) (run cs : List Chunk) (σ : Block) → AreTexts cs → (r : Headed name u cr on run cs) → (h : Ahead σ r.ahead) → r.label ≡ None → r.typed ≡ []
    → Follows σ (headed_piece name u cr on run cs r) (Before (h.before ++ r.ahead))
headed_waits name u cr on run cs σ a r h e f = record {
  how = inr (inl (record {
    leg = u;
    ahead = r.ahead;
    piece_is = ap (λ (o : Option Bool). piece u r.ahead o (written [] r.typed)) e ∙ ap (λ (l : List ℕ). piece u r.ahead None (written [] l)) f;
    is = h;
    to = refl;
  }));
  ahead_scalars = (headed_scalars name u cr on run cs a r).0;
  behind_scalars = (headed_scalars name u cr on run cs a r).1;
}

-- all characters go ahead then
all_ahead : (name : ℕ → List ℕ) (u : ℕ) (cr on : Bool) (run cs : List Chunk) (r : Headed name u cr on run cs) → r.typed ≡ [] → chars_of cs ≡ r.ahead
all_ahead name u cr on run cs r f = r.chars ∙ (ap (λ l. r.ahead ++ l) f ∙ append-nil r.ahead)

-- of a run that begins
begun_behind : (cr : Bool) (cs : List Chunk) (typed : List ℕ) → from_seen cr [] (chars_of cs) ≡ typed → cond (not (has_chunk cs)) (chars_of cs) (from_seen cr [] (chars_of cs)) ≡ typed
begun_behind cr [] typed e = no_chars ∙ (sym (ap (from_seen cr []) no_chars) ∙ e)
begun_behind cr (c ∷ cs) typed e = e

begun_label : (cr : Bool) (cs : List Chunk) (typed : List ℕ) → (cs ≡ []) ⊎ (typed ≡ [] → ⊥) → from_seen cr [] (chars_of cs) ≡ typed → (has_chunk cs && (not (not (has_chunk cs)) && length (from_seen cr [] (chars_of cs)) == 0)) ≡ false
begun_label cr [] typed s e = refl
begun_label cr (c ∷ cs) typed (inl q) e = absurd (cc q)
begun_label cr (c ∷ cs) typed (inr n) e = ap (λ (l : List ℕ). length l == 0) e ∙ some_length typed n

begun_alone : (cs : List Chunk) → has_chunk cs ≡ false → not (has_chunk cs) ≡ true
begun_alone cs e = ap not e

-- a run begins
begun : (s : Setup) (own m : ℕ) (w : ℕ → Bool) (waits : ℕ → List Chunk) (past : List Asked) (u : ℕ) → u < s.legs → (u ≡ own → ⊥) → AreTexts (waits u) → State s own past
    → State s own (with_ask m w (headed (s.room own) waits (s.name u) (is_after_cr past) (is_open past) [] u) past)
begun s own m w waits past u b d a t = go (with_label_parts s.name u cr (is_open past) [] cs)
  where
    cr : Bool
    cr = is_after_cr past

    cs : List Chunk
    cs = front (room_beside (s.room own) (s.name u)) (waits u)

    texts : AreTexts cs
    texts = front_texts (room_beside (s.room own) (s.name u)) (waits u) a

    go : Headed s.name u cr (is_open past) [] cs → State s own (with_ask m w (headed (s.room own) waits (s.name u) cr (is_open past) [] u) past)
    go r =
        let g = headed (s.room own) waits (s.name u) cr (is_open past) [] u in
        let p = headed_piece s.name u cr (is_open past) [] cs r in
        let h = headed_ahead s.name u cr (is_open past) [] cs t.block [] (inl refl) (sym no_chars) refl r in
        let seen : from_seen cr [] (chars_of cs) ≡ r.typed = ap (λ (l : List ℕ). from_seen cr l (chars_of cs)) (sym no_chars) ∙ r.seen in
        let of = headed_of s (s.room own) waits cr (is_open past) [] u r in
        let named = headed_named s.name u cr (is_open past) [] cs (named_after None t.pieces) r in
        elim r.either [
          | inl i ↦ further s own m w past g p t of named (Behind u (written [] r.typed))
              (headed_labelled s.name u cr (is_open past) [] cs t.block texts r h i.0 i.1)
              (inr (record { has_label = begun_label cr cs r.typed i.2 seen; is = λ k e. let same : g ≡ k = cc e in ap (λ (y : Answer). Behind y.source (written [] r.typed)) same ∙ ap (λ l. Behind k.source (written [] l)) (sym (begun_behind cr cs r.typed seen)) }))
              b d (begun_alone cs) texts
          | inr i ↦ further s own m w past g p t of named (Before ([] ++ r.ahead))
              (headed_waits s.name u cr (is_open past) [] cs t.block texts r h i.0 i.1)
              (inl (unlabelled i.2 (seen ∙ i.1), ap Before (sym (all_ahead s.name u cr (is_open past) [] cs r i.1))))
              b d (begun_alone cs) texts
        ]
      where
        unlabelled : has_chunk cs ≡ true → from_seen cr [] (chars_of cs) ≡ [] → (has_chunk cs && (not (not (has_chunk cs)) && length (from_seen cr [] (chars_of cs)) == 0)) ≡ true
        unlabelled h f = rw h (rw f refl)

-- a run goes on whose label is to come
labelled_later : (s : Setup) (own m : ℕ) (w : ℕ → Bool) (waits : ℕ → List Chunk) (past : List Asked) (u : ℕ) → u < s.legs → (u ≡ own → ⊥) → AreTexts (waits u) → is_unlabelled past ≡ true → State s own past
    → State s own (with_ask m w (headed (s.room own) waits (s.name u) (began_behind_cr past) (is_open past) (run_of past) u) past)
labelled_later s own m w waits past u b d a un t = go (with_label_parts s.name u (began_behind_cr past) (is_open past) (run_of past) cs)
  where
    cs : List Chunk
    cs = front (room_beside (s.room own) (s.name u)) (waits u)

    texts : AreTexts cs
    texts = front_texts (room_beside (s.room own) (s.name u)) (waits u) a

    parts : (has_chunk (run_of past) ≡ true) × (not (began_alone past) ≡ true) × ((length (seen_part past) == 0) ≡ true)
    parts =
        let x = and_parts (has_chunk (run_of past)) (not (began_alone past) && length (seen_part past) == 0) un in
        let y = and_parts (not (began_alone past)) (length (seen_part past) == 0) x.1 in
        (x.0, y.0, y.1)

    none : from_seen (began_behind_cr past) [] (chars_of (run_of past)) ≡ []
    none = none_length (seen_part past) parts.2

    all_chars : chars_of (run_of past ++ cs) ≡ chars_of (run_of past) ++ chars_of cs
    all_chars = chars_append (run_of past) cs t.texts

    -- what is seen of the run with these
    seen : (typed : List ℕ) → from_seen (began_behind_cr past) (chars_of (run_of past)) (chars_of cs) ≡ typed → from_seen (began_behind_cr past) [] (chars_of (run_of past ++ cs)) ≡ typed
    seen typed f = ap (from_seen (began_behind_cr past) []) all_chars ∙ (from_then (began_behind_cr past) [] (chars_of (run_of past)) (chars_of cs) none ∙ f)

    has_more : (xs ys : List Chunk) → has_chunk xs ≡ true → has_chunk (xs ++ ys) ≡ true
    has_more [] ys e = absurd (true≢false (sym e))
    has_more (x ∷ xs) ys e = refl

    -- in the next state, where it is known whether the run begins
    lacks : Bool → Bool
    lacks begins =
        has_chunk (cond begins cs (run_of past ++ cs))
        && (not (cond begins (not (has_chunk cs)) (began_alone past))
        && length (from_seen (cond begins (is_after_cr past) (began_behind_cr past)) [] (chars_of (cond begins cs (run_of past ++ cs)))) == 0)

    behind : Bool → List ℕ
    behind begins = cond (cond begins (not (has_chunk cs)) (began_alone past)) (chars_of (cond begins cs (run_of past ++ cs)))
        (from_seen (cond begins (is_after_cr past) (began_behind_cr past)) [] (chars_of (cond begins cs (run_of past ++ cs))))

    begins : Bool
    begins = not (has_chunk (run_of past) && has_chunk cs)

    goes_on : has_chunk cs ≡ true → begins ≡ false
    goes_on h = ap (λ (c : Bool). not (c && has_chunk cs)) parts.0 ∙ ap not h

    is_alone : has_chunk cs ≡ false → begins ≡ true
    is_alone h = ap (λ (c : Bool). not (c && has_chunk cs)) parts.0 ∙ ap not h

    not_alone : began_alone past ≡ false
    not_alone = not-true (began_alone past) parts.1

    still : has_chunk cs ≡ true → from_seen (began_behind_cr past) (chars_of (run_of past)) (chars_of cs) ≡ [] → lacks begins ≡ true
    still h f =
        ap lacks (goes_on h)
        ∙ (ap (λ (c : Bool). c && (not (began_alone past) && length (from_seen (began_behind_cr past) [] (chars_of (run_of past ++ cs))) == 0)) (has_more (run_of past) cs parts.0)
        ∙ (ap (λ (c : Bool). c && length (from_seen (began_behind_cr past) [] (chars_of (run_of past ++ cs))) == 0) parts.1
        ∙ ap (λ (xs : List ℕ). length xs == 0) (seen [] f)))

    run_chars : has_chunk cs ≡ true → chars_of (cond begins cs (run_of past ++ cs)) ≡ chars_of (run_of past) ++ chars_of cs
    run_chars h = ap (λ (c : Bool). chars_of (cond c cs (run_of past ++ cs))) (goes_on h) ∙ all_chars

    -- where its label stands now
    empty : (xs : List Chunk) → (has_chunk xs ≡ false) → xs ≡ []
    empty [] e = refl
    empty (x ∷ xs) e = absurd (true≢false e)

    labels : (h : Bool) → has_chunk cs ≡ h → (typed : List ℕ) → (cs ≡ []) ⊎ (typed ≡ [] → ⊥) → from_seen (began_behind_cr past) (chars_of (run_of past)) (chars_of cs) ≡ typed → (lacks begins ≡ false) × (behind begins ≡ typed)
    labels false h typed n f =
        let z = empty cs h in
        let no : chars_of cs ≡ [] = ap chars_of z ∙ no_chars in
        let nil : [] ≡ typed = sym (ap (from_seen (began_behind_cr past) (chars_of (run_of past))) no) ∙ f in (
          ap lacks (is_alone h) ∙ ap (λ (c : Bool). c && (not (not (has_chunk cs)) && length (from_seen (is_after_cr past) [] (chars_of cs)) == 0)) h,
          ap behind (is_alone h) ∙ (ap (λ (c : Bool). cond (not c) (chars_of cs) (from_seen (is_after_cr past) [] (chars_of cs))) h ∙ (no ∙ nil)),
        )
    labels true h typed (inl z) f = absurd (true≢false (sym h ∙ ap has_chunk z))
    labels true h typed (inr n) f = (
      ap lacks (goes_on h)
          ∙ (ap (λ (xs : List ℕ). has_chunk (run_of past ++ cs) && (not (began_alone past) && length xs == 0)) (seen typed f)
          ∙ (ap (λ (c : Bool). has_chunk (run_of past ++ cs) && (not (began_alone past) && c)) (some_length typed n)
          ∙ and_right (has_chunk (run_of past ++ cs)) (not (began_alone past) && false) (and_right (not (began_alone past)) false refl))),
      ap behind (goes_on h) ∙ (ap (λ (c : Bool). cond c (chars_of (run_of past ++ cs)) (from_seen (began_behind_cr past) [] (chars_of (run_of past ++ cs)))) not_alone ∙ seen typed f),
    )

    alone : (b : Bool) → has_chunk (cond b cs (run_of past ++ cs)) ≡ false → cond b (not (has_chunk cs)) (began_alone past) ≡ true
    alone true e = ap not e
    alone false e = absurd (true≢false (sym (has_more (run_of past) cs parts.0) ∙ e))

    run_texts : (begins : Bool) → AreTexts (cond begins cs (run_of past ++ cs))
    run_texts true = texts
    run_texts false = texts_both (run_of past) cs t.texts texts

    block_is : t.block ≡ Before (chars_of (run_of past))
    block_is = elim t.stands [ inl i ↦ i.1 | inr i ↦ absurd (true≢false (sym un ∙ i.has_label)) ]

    go : Headed s.name u (began_behind_cr past) (is_open past) (run_of past) cs → State s own (with_ask m w (headed (s.room own) waits (s.name u) (began_behind_cr past) (is_open past) (run_of past) u) past)
    go r =
        let cr = began_behind_cr past in
        let g = headed (s.room own) waits (s.name u) cr (is_open past) (run_of past) u in
        let p = headed_piece s.name u cr (is_open past) (run_of past) cs r in
        let h = headed_ahead s.name u cr (is_open past) (run_of past) cs t.block (chars_of (run_of past)) (inr block_is) refl none r in
        let of = headed_of s (s.room own) waits cr (is_open past) (run_of past) u r in
        let named = headed_named s.name u cr (is_open past) (run_of past) cs (named_after None t.pieces) r in
        elim r.either [
          | inl i ↦
              let l = labels (has_chunk cs) refl r.typed i.2 r.seen in
              further s own m w past g p t of named (Behind u (written [] r.typed))
              (headed_labelled s.name u cr (is_open past) (run_of past) cs t.block texts r h i.0 i.1)
              (inr (record { has_label = l.0; is = λ k e. let same : g ≡ k = cc e in ap (λ (y : Answer). Behind y.source (written [] r.typed)) same ∙ ap (λ x. Behind k.source (written [] x)) (sym l.1) }))
              b d (alone begins) (run_texts begins)
          | inr i ↦ further s own m w past g p t of named (Before (chars_of (run_of past) ++ r.ahead))
              (headed_waits s.name u cr (is_open past) (run_of past) cs t.block texts r h i.0 i.1)
              (inl (still i.2 (r.seen ∙ i.1), ap Before (ap (λ x. chars_of (run_of past) ++ x) (sym (all_ahead s.name u cr (is_open past) (run_of past) cs r i.1)) ∙ sym (run_chars i.2))))
              b d (alone begins) (run_texts begins)
        ]

-- a run goes on behind its label
went_on : (s : Setup) (own m : ℕ) (w : ℕ → Bool) (waits : ℕ → List Chunk) (past : List Asked) (c : Answer) → latest past ≡ Some c → AreTexts (waits c.source) → is_unlabelled past ≡ false → State s own past
    → State s own (with_ask m w (gone_on (s.room own) waits (behind_label past) c.source) past)
went_on s own m w waits past c q a un t =
    let g = gone_on (s.room own) waits (behind_label past) c.source in
    let p : Piece = record { leg = c.source; ahead = []; label = None; behind = written (behind_label past) (chars_of cs) } in
    let l = labels (began_alone past) refl in
    further s own m w past g p t
    (record { leg = refl; text = refl; own = behind_label past; typed = chars_of cs; chars = refl; behind = refl; no_bracket = written_plain (behind_label past) (chars_of cs) })
    (record { unseen = refl; names = inr (last_named s own past t c q un) })
    (Behind c.source (written [] (behind_label past) ++ written (behind_label past) (chars_of cs)))
    (record {
      how = inl (record { leg = c.source; sent = written [] (behind_label past); behind = written (behind_label past) (chars_of cs); piece_is = refl; from = block_is; to = refl; closed = ap (λ x. reach (signs x)) (sym together) ∙ written_closed (behind_label past ++ chars_of cs) });
      ahead_scalars = refl;
      behind_scalars = written_scalars (behind_label past) (chars_of cs) (chars_scalars cs texts);
    })
    (inr (record { has_label = l.0; is = λ k e. let same : g ≡ k = cc e in ap (λ (y : Answer). Behind y.source (written [] (behind_label past) ++ written (behind_label past) (chars_of cs))) same ∙ ap (Behind k.source) (sym together ∙ ap (written []) (sym l.1)) }))
    (t.speaker c q).0 (t.speaker c q).1 alone
    (texts_both (run_of past) cs t.texts texts)
  where
    cs : List Chunk
    cs = front (s.room own) (waits c.source)

    texts : AreTexts cs
    texts = front_texts (s.room own) (waits c.source) a

    together : written [] (behind_label past ++ chars_of cs) ≡ written [] (behind_label past) ++ written (behind_label past) (chars_of cs)
    together = written_both [] (behind_label past) (chars_of cs)

    block_is : t.block ≡ Behind c.source (written [] (behind_label past))
    block_is = elim t.stands [ inl i ↦ absurd (true≢false (sym i.0 ∙ un)) | inr i ↦ i.is c q ]

    all_chars : chars_of (run_of past ++ cs) ≡ chars_of (run_of past) ++ chars_of cs
    all_chars = chars_append (run_of past) cs t.texts

    some : began_alone past ≡ false → seen_part past ≡ [] → ⊥
    some b n = go (has_chunk (run_of past)) refl
      where
        go : (h : Bool) → has_chunk (run_of past) ≡ h → ⊥
        go true h = true≢false (sym (ap (λ x. x && (not (began_alone past) && length (seen_part past) == 0)) h ∙ (ap (λ x. not x && length (seen_part past) == 0) b ∙ ap (λ (xs : List ℕ). length xs == 0) n)) ∙ un)
        go false h = true≢false (sym (t.alone h) ∙ b)

    labels : (b : Bool) → began_alone past ≡ b
        → ((has_chunk (run_of past ++ cs) && (not (began_alone past) && length (from_seen (began_behind_cr past) [] (chars_of (run_of past ++ cs))) == 0)) ≡ false)
        × (cond (began_alone past) (chars_of (run_of past ++ cs)) (from_seen (began_behind_cr past) [] (chars_of (run_of past ++ cs))) ≡ behind_label past ++ chars_of cs)
    labels true b = (
      ap (λ x. has_chunk (run_of past ++ cs) && (not x && length (from_seen (began_behind_cr past) [] (chars_of (run_of past ++ cs))) == 0)) b ∙ and_right (has_chunk (run_of past ++ cs)) false refl,
      ap (λ x. cond x (chars_of (run_of past ++ cs)) (from_seen (began_behind_cr past) [] (chars_of (run_of past ++ cs)))) b ∙ (all_chars ∙ ap (λ x. cond x (chars_of (run_of past)) (seen_part past) ++ chars_of cs) (sym b)),
    )
    labels false b =
        let more : from_seen (began_behind_cr past) [] (chars_of (run_of past ++ cs)) ≡ seen_part past ++ chars_of cs =
        ap (from_seen (began_behind_cr past) []) all_chars ∙ from_more (began_behind_cr past) [] (chars_of (run_of past)) (chars_of cs) (some b) in (
          ap (λ (xs : List ℕ). has_chunk (run_of past ++ cs) && (not (began_alone past) && length xs == 0)) more
              ∙ (ap (λ x. has_chunk (run_of past ++ cs) && (not (began_alone past) && x)) (some_length (seen_part past ++ chars_of cs) (some_more (seen_part past) (chars_of cs) (some b)))
              ∙ and_right (has_chunk (run_of past ++ cs)) (not (began_alone past) && false) (and_right (not (began_alone past)) false refl)),
          ap (λ x. cond x (chars_of (run_of past ++ cs)) (from_seen (began_behind_cr past) [] (chars_of (run_of past ++ cs)))) b ∙ (more ∙ ap (λ x. cond x (chars_of (run_of past)) (seen_part past) ++ chars_of cs) (sym b)),
        )

    alone : has_chunk (run_of past ++ cs) ≡ false → began_alone past ≡ true
    alone e = t.alone (none (run_of past) cs e)
      where
        none : (xs ys : List Chunk) → has_chunk (xs ++ ys) ≡ false → has_chunk xs ≡ false
        none [] ys e = refl
        none (x ∷ xs) ys e = e

-- ---- all asks
step : (s : Setup) (own m : ℕ) (w : ℕ → Bool) (due : Bool) (waits : ℕ → List Chunk) (past : List Asked) (g : Answer) → ((i : ℕ) → (i ≡ own → ⊥) → AreTexts (waits i)) → State s own past
    → answer (s.room own) s.legs s.name s.relabel own m due waits past ≡ Some g → State s own (with_ask m w g past)
step s own m w false waits past g a t e = absurd (cc e)
step s own m w true waits past g a t e = from (latest past) refl e
  where
    Then : Answer → Type 0
    Then g = State s own (with_ask m w g past)

    begins : (start : ℕ) (o : Option ℕ) → start ≤ s.legs → first_round (waits_here own waits) start s.legs ≡ o → begin_with (s.room own) s.name waits past o ≡ Some g → Then g
    begins start None l q e = absurd (cc e)
    begins start (Some u) l q e =
        let f = round_some (waits_here own waits) start s.legs u l q in
        let x = and_parts (not (u == own)) (has_chunk (waits u)) f.passes in
        let n = eqb-false u own (not-true (u == own) x.0) in
        let same : headed (s.room own) waits (s.name u) (is_after_cr past) (is_open past) [] u ≡ g = cc e in
        subst Then same (begun s own m w waits past u f.below n (a u n) t)

    goes : (b : Bool) (c : Answer) → is_unlabelled past ≡ b → latest past ≡ Some c → Then (cond b (headed (s.room own) waits (s.name c.source) (began_behind_cr past) (is_open past) (run_of past) c.source) (gone_on (s.room own) waits (behind_label past) c.source))
    goes true c un q = let sp = t.speaker c q in labelled_later s own m w waits past c.source sp.0 sp.1 (a c.source sp.1) un t
    goes false c un q = let sp = t.speaker c q in went_on s own m w waits past c q (a c.source sp.1) un t

    speaks : (b : Bool) (c : Answer) → latest past ≡ Some c → Then (cond b (headed (s.room own) waits (s.name c.source) (is_after_cr past) (is_open past) [] c.source) (go_on (s.room own) s.name waits past c.source))
    speaks true c q = let sp = t.speaker c q in begun s own m w waits past c.source sp.0 sp.1 (a c.source sp.1) t
    speaks false c q = goes (is_unlabelled past) c refl q

    rest : (b : Bool) (c : Answer) → latest past ≡ Some c → cond b (Some (speak_on (s.room own) s.name s.relabel m waits past c.source)) None ≡ Some g → Then g
    rest true c q e = let same : speak_on (s.room own) s.name s.relabel m waits past c.source ≡ g = cc e in subst Then same (speaks (is_labelled_again s.relabel m past c.source) c q)
    rest false c q e = absurd (cc e)

    either : (b : Bool) (c : Answer) → latest past ≡ Some c → cond b (begin_with (s.room own) s.name waits past (first_round (waits_here own waits) (suc c.source) s.legs)) (if has_chunk (waits c.source) then Some (speak_on (s.room own) s.name s.relabel m waits past c.source) else None) ≡ Some g → Then g
    either true c q e = begins (suc c.source) (first_round (waits_here own waits) (suc c.source) s.legs) (t.speaker c q).0 refl e
    either false c q e = rest (has_chunk (waits c.source)) c q e

    from : (o : Option Answer) → latest past ≡ o → answer_after (s.room own) s.legs s.name s.relabel own m waits past o ≡ Some g → Then g
    from None q e = begins 0 (first_round (waits_here own waits) 0 s.legs) (omega arith) refl e
    from (Some c) q e = either (is_switch s.legs own m waits past c.source) c q e

asked : (s : Setup) (own m : ℕ) (w : ℕ → Bool) (due : Bool) (waits : ℕ → List Chunk) (past : List Asked) (o : Option Answer) → ((i : ℕ) → (i ≡ own → ⊥) → AreTexts (waits i)) → State s own past
    → o ≡ answer (s.room own) s.legs s.name s.relabel own m due waits past → State s own (record { media = m; waiting = w; given = o } ∷ past)
asked s own m w due waits past None a t e = record {
  pieces = t.pieces;
  all = record { of = subst (λ (gs : List Answer). AllZip (IsPieceOf s.name) gs t.pieces) (sym (append-nil (answers past))) t.all.of; named = t.all.named };
  block = t.block;
  walk = t.walk;
  stands = same_stands t.stands;
  speaker = t.speaker;
  alone = t.alone;
  texts = t.texts;
}
  where
    same_stands : Stands past t.block → Stands (record { media = m; waiting = w; given = None } ∷ past) t.block
    same_stands (inl i) = inl (i.0, i.1)
    same_stands (inr i) = inr (record { has_label = i.has_label; is = i.is })
asked s own m w due waits past (Some g) a t e = step s own m w due waits past g a t (sym e)

all_asked : (s : Setup) (chunks : ℕ → List Chunk) (own : ℕ) (asks : List Asked) → ((i : ℕ) → AreTexts (chunks i)) → IsComposed s chunks own asks → State s own asks
all_asked s chunks own [] a c = record {
  pieces = [];
  all = record { of = tt; named = tt };
  block = Before [];
  walk = refl;
  stands = inr (record { has_label = refl; is = λ g e. absurd (cc e) });
  speaker = λ g e. absurd (cc e);
  alone = λ e. refl;
  texts = tt;
}
all_asked s chunks own (x ∷ past) a c =
    let r : IsAnswered s chunks own past x = c.0 in
    asked s own x.media x.waiting r.due r.waits past x.given
    (λ i n. let f = r.front i n in texts_left (r.waits i) f.0 (texts_right _ (r.waits i ++ f.0) (subst AreTexts (sym f.1) (a i))))
    (all_asked s chunks own past a c.1)
    r.answers

-- the pieces of all that was given: named, and none takes back what another leg typed
pub record Composes (s : Setup) (asks : List Asked) : Type 0 where
  pub pieces : List Piece
  pub all : AreAllNamed s asks pieces
  pub block : Block
  pub walk : Walk (Before []) pieces block

pub composed_pieces : (s : Setup) (chunks : ℕ → List Chunk) (own : ℕ) (asks : List Asked) → ((i : ℕ) → AreTexts (chunks i)) → IsComposed s chunks own asks → Composes s asks
composed_pieces s chunks own asks a c = let t = all_asked s chunks own asks a c in record { pieces = t.pieces; all = t.all; block = t.block; walk = t.walk }

pub composed_named : (s : Setup) (chunks : ℕ → List Chunk) (own : ℕ) (asks : List Asked) → ((i : ℕ) → AreTexts (chunks i)) → IsComposed s chunks own asks → (pieces : List Piece) × AreAllNamed s asks pieces
composed_named s chunks own asks a c = let t = all_asked s chunks own asks a c in (t.pieces, t.all)
