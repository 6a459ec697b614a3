-- What a terminal that is not aware shows is named.
use Rattle.std.proofs.Common.{◌≡◌, ℕ, ◌<◌, Bool, true, false, cond, ◌&&◌, inl, inr, Option, None, List, [], ◌∷◌, ◌++◌, refl, ap, subst, sym, ◌∙◌, append_assoc, append-nil, encode_utf8_all, IsUtf8}
use Rattle.std.specs.Prelude.{flat_map, map}
use Rattle.std.specs.Char.{encode_utf8}
use Rattle.std.specs.Str.{chars}
use Rattle.std.specs.List.{concat}
use Rattle.wire_spec.specs.Packets.{Arrival}
use Rattle.view_spec.specs.Shown.{Display, begins_with_lf, ends_with_cr, lines_of, shown, signs, stays, survivors, with_marker_between}
use Rattle.view_spec.proofs.Parts.{shown_parts}
use Rattle.view_spec.proofs.Signs.{signs-append}
use Rattle.stream_spec.specs.Lists.{In}
use Rattle.stream_spec.specs.History.{Come, Placed, placed}
use Rattle.stream_spec.specs.Hearing.{marker}
use Rattle.stream_spec.specs.Kept.{Item, Marker, texts}
use Rattle.stream_spec.specs.Ready.{Chunk}
use Rattle.mixer_spec.specs.Setups.{Setup}
use Rattle.mixer_spec.specs.Composed.{Asked}
use Rattle.mixer_spec.specs.Table.{Table}
use Rattle.mixer_spec.specs.Core.{Event, after}
use Rattle.mixer_spec.specs.Laws.{AllTexts, IsComposed, SendsGiven}
use Rattle.mixer_spec.specs.Headline.{Hop, IsHop, hears, told}
use Rattle.mixer_spec.specs.Bridged.{IsMixed, IsRunning, hop_to, told_at}
use Rattle.command_spec.specs.Stretches.{blocks_before, marked, runs}
use Rattle.command_spec.specs.Named.{Piece, named_after, piece_text}
use Rattle.command_spec.specs.Heard.{HearsNamed, IsNamedRun}
use Rattle.command_spec.specs.Seen.{AllTheirs, IsNamedThere, IsShownRun, NamesPrint, ShowsNamed, Words, parted, run_text, stand, words, words_stand, words_text}
use Rattle.command_spec.proofs.Blocks.{Before, Cut, Walk, cut_words, walk_closed, walk_fits, walk_split}
use Rattle.command_spec.proofs.Screens.{RunIs, run_is}
use Rattle.command_spec.proofs.Sending.{HearsApart, any_apart, apart_law, end_apart}

-- ---- cut at the markers
texts_before : (run : List Placed) (items : List Item) → concat (texts (blocks_before run items)) ≡ run_text run ++ concat (texts items)
texts_before [] items = refl
texts_before (x ∷ run) items = ap (λ l. x.text ++ l) (texts_before run items) ∙ sym (append_assoc x.text (run_text run) (concat (texts items)))

marker_is : encode_utf8 0xFFFD ≡ marker
unfolding encode_utf8
marker_is = refl

marked_shown : (rs : List (List Placed)) → ((run : List Placed) → In run rs → IsUtf8 (run_text run)) → shown (concat (texts (marked rs))) ≡ parted (map (λ (run : List Placed). shown (run_text run)) rs)
marked_shown [] u = refl
marked_shown (r ∷ []) u = ap shown (texts_before r [] ∙ append-nil (run_text r))
marked_shown (r ∷ q ∷ rs) u =
    ap shown (texts_before r (Marker ∷ marked (q ∷ rs)) ∙ ap (λ m. run_text r ++ (m ++ concat (texts (marked (q ∷ rs))))) (sym marker_is))
    ∙ (shown_parts (run_text r) (concat (texts (marked (q ∷ rs)))) (u r (inl refl))
    ∙ ap (with_marker_between (shown (run_text r))) (marked_shown (q ∷ rs) (λ run i. u run (inr i))))

-- ---- a run
concat_map : {X : Type 0} (f : X → List ℕ) (xs : List X) → concat (map f xs) ≡ flat_map f xs
concat_map f [] = refl
concat_map f (x ∷ xs) = ap (λ l. f x ++ l) (concat_map f xs)

shown_lines : (text : List ℕ) → (shown text).lines ≡ map encode_utf8_all (lines_of (stand (chars text)))
unfolding shown
shown_lines text = refl

record SeenRun (s : Setup) (asks : List Asked) (q : Hop) (h : HearsApart s asks q) (run : List Placed) (i : In run (runs (told q))) : Type 0 where
  utf8 : IsUtf8 (run_text run)
  shown : IsShownRun s.name (named_after None (h.named.heard run i).before) (h.named.heard run i).part (run_text run)

seen_run : (s : Setup) (asks : List Asked) (q : Hop) (h : HearsApart s asks q) → ((leg : ℕ) → IsUtf8 (s.name leg)) → NamesPrint s.name → (run : List Placed) (i : In run (runs (told q))) → SeenRun s asks q h run i
seen_run s asks q h u p run i =
    let r = h.named.heard run i in
    let who = named_after None r.before in
    let a = walk_split (Before []) r.before (r.part ++ r.behind) h.block (subst (λ (ps : List Piece). Walk (Before []) ps h.block) r.is h.walk) in
    let b = walk_split a.0 r.part r.behind h.block a.2 in
    let c : Cut s.name who a.0 r.part = cut_words s.name who a.0 r.part b.0 (walk_fits None (Before []) r.before a.0 tt a.1) (walk_closed (Before []) r.before a.0 refl a.1) b.1 in
    let text : run_text run ≡ encode_utf8_all c.first.typed ++ (encode_utf8_all c.first.ahead ++ flat_map words_text c.rest) = ap concat r.text ∙ (concat_map (piece_text s.name) r.part ∙ c.text) in
    let x : RunIs (c.first ∷ c.rest) (run_text run) = run_is s.name a.0 c.first c.rest (run_text run) u p text c.label c.unseen c.typed_scalars c.ahead_scalars c.is_first c.labelled in
    record {
      utf8 = x.utf8;
      shown = record {
        text_is = x.text_is ∙ ap (flat_map words_text) (sym c.is);
        lines = shown_lines (run_text run) ∙ ap (λ (cs : List ℕ). map encode_utf8_all (lines_of cs)) (x.stands ∙ ap (flat_map words_stand) (sym c.is));
        theirs = subst AllTheirs (sym c.is) x.theirs;
      };
    }

shows : (s : Setup) (asks : List Asked) (q : Hop) → ((leg : ℕ) → IsUtf8 (s.name leg)) → NamesPrint s.name → HearsApart s asks q → IsNamedThere s asks q
shows s asks q u p h = (
  h.named,
  record {
    parts = ap (λ (ts : List (List ℕ)). shown (concat ts)) h.named.text ∙ marked_shown (runs (told q)) (λ run i. (seen_run s asks q h u p run i).utf8);
    each = λ run i. (seen_run s asks q h u p run i).shown;
  },
)

-- ---- the laws
pub sent_law : (s : Setup) (chunks : ℕ → List Chunk) (table : Table) (j : ℕ) → ((leg : ℕ) → IsUtf8 (s.name leg)) → NamesPrint s.name → AllTexts chunks → IsComposed s chunks j (table.terminals j).asks → SendsGiven table j
    → ((x : Placed) → In x (placed (told_at s table j)) → x.source ≡ s.mixer)
    → (wait : ℕ) (came : List Arrival) → IsHop (hop_to (told_at s table j) s.mixer wait came)
    → IsNamedThere s (table.terminals j).asks (hop_to (told_at s table j) s.mixer wait came)
sent_law s chunks table j u p a c sends own wait came hop = shows s (table.terminals j).asks (hop_to (told_at s table j) s.mixer wait came) u p (apart_law s chunks table j a c sends own wait came hop)

pub end_law : (s : Setup) (chunks : ℕ → List Chunk) (tick turns : ℕ) (table : Table) → NamesPrint s.name → IsMixed s chunks tick turns table → (j : ℕ) → s.aware j ≡ false → j < s.legs
    → (wait : ℕ) (came : List Arrival) → Come (told_at s table j) came → IsNamedThere s (table.terminals j).asks (hop_to (told_at s table j) s.mixer wait came)
end_law s chunks tick turns table p m j u l wait came c = shows s (table.terminals j).asks (hop_to (told_at s table j) s.mixer wait came) (λ leg. (m.setup.names leg).1) p (end_apart s chunks tick turns table m j u l wait came c)

pub any_law : (s : Setup) (chunks : ℕ → List Chunk) (past : List Event) → NamesPrint s.name → IsRunning s chunks past → (j : ℕ) → s.aware j ≡ false → j < s.legs
    → (wait : ℕ) (came : List Arrival) → Come (told_at s (after s chunks past).table j) came → IsNamedThere s ((after s chunks past).table.terminals j).asks (hop_to (told_at s (after s chunks past).table j) s.mixer wait came)
any_law s chunks past p r j u l wait came c =
    let table = (after s chunks past).table in
    shows s (table.terminals j).asks (hop_to (told_at s table j) s.mixer wait came) (λ leg. (r.setup.names leg).1) p (any_apart s chunks past r j u l wait came c)

-- ---- a part of a text
end_stands : (xs ys : List ℕ) → (left : List ℕ) × (survivors (xs ++ ys) ≡ left ++ survivors ys)
end_stands [] ys = ([], refl)
end_stands (x ∷ xs) ys = let r = end_stands xs ys in go (stays x (xs ++ ys)) r.0 r.1
  where
    go : (b : Bool) (left : List ℕ) → survivors (xs ++ ys) ≡ left ++ survivors ys → (more : List ℕ) × (cond b (x ∷ survivors (xs ++ ys)) (survivors (xs ++ ys)) ≡ more ++ survivors ys)
    go true left e = (x ∷ left, ap (λ l. x ∷ l) e)
    go false left e = (left, e)

pub ends_law : (before part : List ℕ) → (ends_with_cr before && begins_with_lf part) ≡ false → (left : List ℕ) × (stand (before ++ part) ≡ left ++ stand part)
ends_law before part e = let r = end_stands (signs before) (signs part) in (r.0, ap survivors (signs-append before part e) ∙ r.1)
