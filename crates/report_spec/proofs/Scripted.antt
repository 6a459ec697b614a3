-- The text lines of a stream and a source are those of its script.
use Rattle.std.proofs.Common.{◌≡◌, ℕ, ◌≤◌, Bool, true, false, cond, List, [], ◌∷◌, ◌++◌, map, filter, flat_map, refl, ap, sym, ◌∙◌, subst, ◌==◌, ◌&&◌, ◌||◌, inl, inr, eq-eqb, append-nil}
use Rattle.std.specs.Prelude.{codes, decimal}
use Rattle.std.specs.List.{list_any, filter_map}
use Rattle.std.proofs.lemmas.Bool.{true≢false, or_parts as neither, eqb-true as same_is}
use Rattle.std.proofs.lemmas.List.Folds.{list_any-append}
use Rattle.std.proofs.lemmas.List.Elements.{filter-append}
use Rattle.wire_spec.specs.Packets.{Arrival, has_text}
use Rattle.wire_spec.specs.Dump.{Item, arrivals_after}
use Rattle.stream_spec.specs.Lists.{In}
use Rattle.stream_spec.specs.Numbering.{Numbered, Falling, numbered}
use Rattle.stream_spec.specs.Ready.{Chunk, chunks, ReadyRises}
use Rattle.stream_spec.proofs.ChunkTexts.{chunks_rise}
use Rattle.stream_spec.proofs.Falls.{items_law}
use Rattle.view_spec.specs.Views.{printed_line}
use Rattle.command_spec.specs.declared.requests.ReadRequest.{ReadRequest}
use Rattle.command_spec.specs.Firsts.{Firsts, is_kept, has_room, with_kept, with_other, with_name, with_names}
use Rattle.command_spec.specs.Reading.{usual_wait, records_of}
use Rattle.command_spec.specs.Streams.{AreGiven, sort_of, stream_of, source_in, text_at, streams, stream}
use Rattle.command_spec.specs.Transcripts.{escaped, chunk_line, transcript_view}
use Rattle.command_spec.proofs.ShownAsRead.{arrives_alike}
use Rattle.report_spec.specs.Numbers.{Lost, lost, late}
use Rattle.report_spec.specs.Times.{Said, Line, chunk_lines, source_lines, lost_line, late_line, number_lines, text_lines, arrivals_in, sources_in, all_lines, moment_of, in_order}
use Rattle.report_spec.specs.TimesLaws.{is_text_of, scripted_line, IsTold}
use Rattle.report_spec.proofs.Ordered.{AreFrom, Rises, fewer_ordered}

-- ---- the first 64 are all different
abbrev Apart : List ℕ → Type 0
Apart [] = Unit {0}
Apart (x ∷ xs) = (list_any (λ y. y == x) xs ≡ false) × Apart xs

swapped : (m n : ℕ) → (m == n) ≡ false → (n == m) ≡ false
swapped m n e = go (n == m) refl
  where
    go : (b : Bool) → (n == m) ≡ b → b ≡ false
    go false f = refl
    go true f = absurd (true≢false (sym (eq-eqb m n (sym (same_is n m f))) ∙ e))

apart_push : (xs : List ℕ) (n : ℕ) → Apart xs → list_any (λ y. y == n) xs ≡ false → Apart (xs ++ n ∷ [])
apart_push [] n a e = (refl, tt)
apart_push (x ∷ xs) n a e =
    let other = neither (x == n) (list_any (λ y. y == n) xs) e in
    (list_any-append (λ y. y == x) xs (n ∷ []) ∙ (ap (λ b. b || ((n == x) || false)) a.0 ∙ ap (λ b. b || false) (swapped x n other.0)), apart_push xs n a.1 other.1)

apart_one : (f : Firsts) (n : ℕ) → Apart f.kept → Apart (with_name f n).kept
apart_one f n a = go (is_kept f n) (has_room f) refl
  where
    go : (b c : Bool) → is_kept f n ≡ b → Apart (cond b f (cond c (with_kept f n) (with_other f))).kept
    go true c e = a
    go false true e = apart_push f.kept n a e
    go false false e = a

apart : (f : Firsts) (names : List ℕ) → Apart f.kept → Apart (with_names f names).kept
apart f [] a = a
apart f (n ∷ names) a = apart (with_name f n) names (apart_one f n a)

-- ---- what one of them alone gives
module _ {X : Type 0} (g : ℕ → List X) (x : ℕ) (none : (y : ℕ) → (y == x) ≡ false → g y ≡ []) where
  of_no_other : (xs : List ℕ) → list_any (λ y. y == x) xs ≡ false → flat_map g xs ≡ []
  of_no_other [] e = refl
  of_no_other (y ∷ ys) e =
      let other = neither (y == x) (list_any (λ z. z == x) ys) e in
      ap (λ l. l ++ flat_map g ys) (none y other.0) ∙ of_no_other ys other.1

  of_one : (xs : List ℕ) → Apart xs → In x xs → flat_map g xs ≡ g x
  of_one [] a i = absurd i
  of_one (y ∷ ys) a (inl e) = ap (λ (z : ℕ). g z ++ flat_map g ys) (sym e) ∙ (ap (λ l. g x ++ l) (of_no_other ys (ap (λ (z : ℕ). list_any (λ w. w == z) ys) e ∙ a.0)) ∙ append-nil (g x))
  of_one (y ∷ ys) a (inr i) = ap (λ l. l ++ flat_map g ys) (none y (differs (y == x) refl)) ∙ of_one ys a.1 i
    where
      there : (zs : List ℕ) → In x zs → list_any (λ w. w == y) zs ≡ false → (x == y) ≡ false
      there [] j e = absurd j
      there (z ∷ zs) (inl p) e = ap (λ (w : ℕ). w == y) p ∙ (neither (z == y) (list_any (λ w. w == y) zs) e).0
      there (z ∷ zs) (inr j) e = there zs j (neither (z == y) (list_any (λ w. w == y) zs) e).1

      differs : (b : Bool) → (y == x) ≡ b → (y == x) ≡ false
      differs b e = swapped x y (there ys i a.0)

filter_flat : {X Y : Type 0} (p : Y → Bool) (f : X → List Y) (xs : List X) → filter p (flat_map f xs) ≡ flat_map (λ x. filter p (f x)) xs
filter_flat p f [] = refl
filter_flat p f (x ∷ xs) = filter-append p (f x) (flat_map f xs) ∙ ap (λ l. filter p (f x) ++ l) (filter_flat p f xs)

-- ---- the lines of one source
module _ (r : ReadRequest) where
  no_text : (b : Bool) → (b && false) ≡ false
  no_text true = refl
  no_text false = refl

  lost_away : (y : ℕ) (ls : List Lost) → filter (is_text_of r) (map (lost_line y) ls) ≡ []
  lost_away y [] = refl
  lost_away y (l ∷ ls) = ap (λ b. cond b (lost_line y l ∷ filter (is_text_of r) (map (lost_line y) ls)) (filter (is_text_of r) (map (lost_line y) ls))) (no_text (y == r.ssrc)) ∙ lost_away y ls

  late_away : (y : ℕ) (es : List Numbered) → filter (is_text_of r) (map (late_line y) es) ≡ []
  late_away y [] = refl
  late_away y (e ∷ es) = ap (λ b. cond b (late_line y e ∷ filter (is_text_of r) (map (late_line y) es)) (filter (is_text_of r) (map (late_line y) es))) (no_text (y == r.ssrc)) ∙ late_away y es

  numbers_away : (y : ℕ) (past : List Numbered) → filter (is_text_of r) (number_lines y past) ≡ []
  numbers_away y past =
      filter-append (is_text_of r) (map (lost_line y) (lost usual_wait past)) (map (late_line y) (late usual_wait past))
      ∙ (ap (λ xs. xs ++ filter (is_text_of r) (map (late_line y) (late usual_wait past))) (lost_away y (lost usual_wait past)) ∙ late_away y (late usual_wait past))

  one_of_source : (l : Line) (rest : List Line) (t d : Bool) → is_text_of r l ≡ d → filter (is_text_of r) rest ≡ cond d rest [] → filter (is_text_of r) (cond t (l ∷ []) [] ++ rest) ≡ cond d (cond t (l ∷ []) [] ++ rest) []
  one_of_source l rest true true f h = ap (λ x. cond x (l ∷ filter (is_text_of r) rest) (filter (is_text_of r) rest)) f ∙ ap (λ xs. l ∷ xs) h
  one_of_source l rest true false f h = ap (λ x. cond x (l ∷ filter (is_text_of r) rest) (filter (is_text_of r) rest)) f ∙ h
  one_of_source l rest false true f h = h
  one_of_source l rest false false f h = h

  -- all of a source's lines are of it, or none is
  by_source : (y s : ℕ) (b : Bool) → ((y == r.ssrc) && (s == r.source)) ≡ b → (cs : List Chunk) → filter (is_text_of r) (flat_map (chunk_lines y s) cs) ≡ cond b (flat_map (chunk_lines y s) cs) []
  by_source y s true e [] = refl
  by_source y s false e [] = refl
  by_source y s b e (c ∷ cs) = one_of_source (record { at = c.ready; ssrc = y; told = Said s (escaped c.text) }) (flat_map (chunk_lines y s) cs) (has_text (escaped c.text)) b e (by_source y s b e cs)

  all_away : (f : ℕ → List Line) (ys : List ℕ) → ((y : ℕ) → filter (is_text_of r) (f y) ≡ []) → filter (is_text_of r) (flat_map f ys) ≡ []
  all_away f [] none = refl
  all_away f (y ∷ ys) none =
      filter-append (is_text_of r) (f y) (flat_map f ys)
      ∙ (ap (λ xs. xs ++ filter (is_text_of r) (flat_map f ys)) (none y) ∙ all_away f ys none)

  of_other_stream : (y : ℕ) (past : List Arrival) (named : List ℕ) → (y == r.ssrc) ≡ false → filter (is_text_of r) (text_lines y past named) ≡ []
  of_other_stream y past named e = all_away (source_lines y past) named (λ s. by_source y s false (ap (λ b. b && (s == r.source)) e) (chunks usual_wait 0 past s))

  of_stream : (past : List Arrival) (named : List ℕ) → Apart named → In r.source named → filter (is_text_of r) (text_lines r.ssrc past named) ≡ source_lines r.ssrc past r.source
  of_stream past named a i =
      filter_flat (is_text_of r) (source_lines r.ssrc past) named
      ∙ (of_one (λ s. filter (is_text_of r) (source_lines r.ssrc past s)) r.source other named a i
      ∙ by_source r.ssrc r.source true same (chunks usual_wait 0 past r.source))
    where
      same : ((r.ssrc == r.ssrc) && (r.source == r.source)) ≡ true
      same = ap (λ b. b && (r.source == r.source)) (eq-eqb r.ssrc r.ssrc refl) ∙ eq-eqb r.source r.source refl

      other : (s : ℕ) → (s == r.source) ≡ false → filter (is_text_of r) (source_lines r.ssrc past s) ≡ []
      other s e = by_source r.ssrc s false (ap (λ b. b && (s == r.source)) (eq-eqb r.ssrc r.ssrc refl) ∙ e) (chunks usual_wait 0 past s)

  of_recording : (items : List Item) → IsTold r items → filter (is_text_of r) (all_lines r.payload_types items) ≡ source_lines r.ssrc (arrivals_in r.payload_types items r.ssrc) r.source
  of_recording items t =
      let kept = (streams r.payload_types items).kept in
      let numbers = flat_map (λ y. number_lines y (numbered (arrivals_in r.payload_types items y))) kept in
      let texts = flat_map (λ y. text_lines y (arrivals_in r.payload_types items y) (sources_in r.payload_types items y)) kept in
      filter-append (is_text_of r) numbers texts
      ∙ (ap (λ xs. xs ++ filter (is_text_of r) texts) (all_away (λ y. number_lines y (numbered (arrivals_in r.payload_types items y))) kept (λ y. numbers_away y (numbered (arrivals_in r.payload_types items y))))
      ∙ (filter_flat (is_text_of r) (λ y. text_lines y (arrivals_in r.payload_types items y) (sources_in r.payload_types items y)) kept
      ∙ (of_one (λ y. filter (is_text_of r) (text_lines y (arrivals_in r.payload_types items y) (sources_in r.payload_types items y))) r.ssrc
      (λ y e. of_other_stream y (arrivals_in r.payload_types items y) (sources_in r.payload_types items y) e)
      kept
      (apart (record { kept = []; others = 0 }) (filter_map (λ item. stream_of r.payload_types (sort_of item)) items) tt)
      t.of_stream
      ∙ of_stream (arrivals_in r.payload_types items r.ssrc) (sources_in r.payload_types items r.ssrc)
      (apart (record { kept = []; others = 0 }) (filter_map (λ item. source_in (text_at r.ssrc r.payload_types item)) (stream r.payload_types r.ssrc items)) tt)
      t.of_source)))

-- ---- their order
from_ready : (y s n : ℕ) (cs : List Chunk) → ((c : Chunk) → In c cs → n ≤ c.ready) → AreFrom moment_of n (flat_map (chunk_lines y s) cs)
from_ready y s n [] f l i = absurd i
from_ready y s n (c ∷ cs) f l i = go (has_text (escaped c.text)) i (from_ready y s n cs (λ d k. f d (inr k)) l)
  where
    go : (b : Bool) → In l (cond b (record { at = c.ready; ssrc = y; told = Said s (escaped c.text) } ∷ []) [] ++ flat_map (chunk_lines y s) cs) → (In l (flat_map (chunk_lines y s) cs) → n ≤ moment_of l) → n ≤ moment_of l
    go true (inl e) rest = subst (λ (m : Line). n ≤ moment_of m) (sym e) (f c (inl refl))
    go true (inr j) rest = rest j
    go false j rest = rest j

lines_rise : (y s : ℕ) (cs : List Chunk) → ReadyRises cs → Rises moment_of (flat_map (chunk_lines y s) cs)
lines_rise y s [] r = tt
lines_rise y s (c ∷ cs) r = go (has_text (escaped c.text)) (lines_rise y s cs r.1)
  where
    go : (b : Bool) → Rises moment_of (flat_map (chunk_lines y s) cs) → Rises moment_of (cond b (record { at = c.ready; ssrc = y; told = Said s (escaped c.text) } ∷ []) [] ++ flat_map (chunk_lines y s) cs)
    go true rest = (from_ready y s c.ready cs r.0, rest)
    go false rest = rest

-- ---- what they say
as_line : (y s : ℕ) (c : Chunk) (rest : List Line) (more : List ℕ) → flat_map scripted_line rest ≡ more → (b : Bool) → has_text (escaped c.text) ≡ b
    → flat_map scripted_line (cond b (record { at = c.ready; ssrc = y; told = Said s (escaped c.text) } ∷ []) [] ++ rest) ≡ chunk_line c ++ more
as_line y s c rest more h true e = ap (λ xs. chunk_line c ++ xs) h
as_line y s c rest more h false e = h ∙ ap (λ b. cond b (printed_line (decimal c.ready ++ codes " " ++ escaped c.text)) [] ++ more) (sym e)

scripted : (y s : ℕ) (cs : List Chunk) → flat_map scripted_line (flat_map (chunk_lines y s) cs) ≡ flat_map chunk_line cs
scripted y s [] = refl
scripted y s (c ∷ cs) = as_line y s c (flat_map (chunk_lines y s) cs) (flat_map chunk_line cs) (scripted y s cs) (has_text (escaped c.text)) refl

pub are_scripts : (r : ReadRequest) (octets : List ℕ) → AreGiven r.payload_types → IsTold r (records_of octets)
    → flat_map scripted_line (filter (is_text_of r) (in_order (all_lines r.payload_types (records_of octets)))) ≡ transcript_view r octets
unfolding transcript_view in_order
are_scripts r octets given t =
    let items = records_of octets in
    let past = arrivals_after r.ssrc r.payload_types [] (stream r.payload_types r.ssrc items) in
    let falls : Falling (numbered past) = items_law (stream r.payload_types r.ssrc items) r.ssrc r.payload_types in
    let rise = lines_rise r.ssrc r.source (chunks usual_wait 0 past r.source) (chunks_rise usual_wait 0 past r.source falls) in
    ap (flat_map scripted_line) (fewer_ordered moment_of (is_text_of r) (all_lines r.payload_types items) (source_lines r.ssrc past r.source) (of_recording r items t) rise)
    ∙ (scripted r.ssrc r.source (chunks usual_wait 0 past r.source)
    ∙ ap (λ a. flat_map chunk_line (chunks usual_wait 0 a r.source)) (arrives_alike r.payload_types r.ssrc items given.0 given.1))
