-- Recordings in which the packets of each stream come in a row.
use Rattle.std.proofs.Common.{◌≡◌, ℕ, zero, suc, ◌+◌, ◌<◌, ◌≤◌, ◌^◌, List, [], ◌∷◌, ◌++◌, map, flat_map, length, take, get_or, refl, ap, sym, ◌∙◌, subst, arith, append-nil}
use Rattle.std.specs.Prelude.{All, IfSome, Option, Some}
use Rattle.std.specs.List.{sum}
use Rattle.std.proofs.lemmas.List.Sums.{sum_by-append}
use Rattle.std.proofs.lemmas.List.{map-append, length-map}
use Rattle.rtt_base.specs.declared.text_packets.PayloadTypes.{PayloadTypes}
use Rattle.wire_spec.specs.Packets.{Arrival}
use Rattle.wire_spec.specs.Dump.{Item, arrivals_after}
use Rattle.stream_spec.specs.Numbering.{numbered}
use Rattle.command_spec.specs.declared.requests.ReadRequest.{ReadRequest}
use Rattle.command_spec.specs.Firsts.{Firsts}
use Rattle.command_spec.specs.Streams.{sources, stream, stream_of, streams}
use Rattle.rtt_show.specs.declared.findings.Findings.{Findings}
use Rattle.rtt_show.specs.declared.groups.Group.{Group}
use Rattle.rtt_show.specs.declared.rows.Row.{Row}
use Rattle.rtt_show.specs.Groups.{GroupHolds}
use Rattle.rtt_show.specs.Records.{OfRecords}
use Rattle.rtt_show.specs.Rows.{IsRow, IsStraight, only}
use Rattle.rtt_show.proofs.Rowing.{no_numbers}
use Rattle.report_spec.specs.Times as times
use Rattle.report_spec.specs.Times.{all_lines, arrivals_in, in_order, moment_of, number_lines, source_lines, sources_in, text_lines}
use Rattle.report_spec.specs.Ordered.{ordered_by}
use Rattle.report_spec.proofs.Ordered.{ordered_made}
use Rattle.rtt_times.specs.declared.lines.Lines.{Lines}
use Rattle.rtt_times.specs.Lines.{AddsLines, Keeps, Line, Sorts, at_of, written}
use Rattle.rtt_times.specs.Found.{IsToldOf, all_numbers, all_texts, names}
use Rattle.rtt_times.specs.Rows.{AddsRow, AddsRows, AreRows, HasTexts, HaveTexts}
use Rattle.rtt_times.proofs.Telling.{its, long, made_more, names_at, take_more, take_over}
use Rattle.rtt_times.proofs.Writing.{adds_both, adds_none, adds_same}

-- ---- answers
pub some_is : {A : Type 0} (P : A → Type 0) (o : Option A) (x : A) → o ≡ Some x → IfSome o P → P x
some_is P o x e h = subst (λ p. IfSome p P) e h

-- ---- rows
rows_with : (gs : List Group) (rows : List Row) (g : Group) (row : Row) → AreRows gs rows → OfRecords g.records (IsRow row) → AreRows (gs ++ g ∷ []) (rows ++ row ∷ [])
rows_with [] [] g row a r = (r, tt)
rows_with [] (x ∷ rows) g row a r = absurd a
rows_with (h ∷ gs) [] g row a r = absurd a
rows_with (h ∷ gs) (x ∷ rows) g row a r = (a.0, rows_with gs rows g row a.1 r)

pub rows_more : (groups : List Group) (i : ℕ) (g : Group) (rows : List Row) (row : Row) → i < length groups → g ≡ get_or groups i g → AreRows (take i groups) rows → OfRecords g.records (IsRow row) → AreRows (take (i + 1) groups) (rows ++ row ∷ [])
rows_more groups i g rows row l e a r =
    subst (λ (gs : List Group). AreRows gs (rows ++ row ∷ [])) (sym (take_more groups i g l))
    (subst (λ (x : Group). AreRows (take i groups ++ x ∷ []) (rows ++ row ∷ [])) e (rows_with (take i groups) rows g row a r))

pub rows_end : (groups : List Group) (i : ℕ) (rows : List Row) → length groups ≤ i → AreRows (take i groups) rows → AreRows groups rows
rows_end groups i rows l a = subst (λ (gs : List Group). AreRows gs rows) (take_over groups i l) a

pub rows_each : (groups : List Group) (rows : List Row) → AreRows groups rows → length rows ≡ length groups
rows_each [] [] a = refl
rows_each [] (x ∷ rows) a = absurd a
rows_each (g ∷ groups) [] a = absurd a
rows_each (g ∷ groups) (x ∷ rows) a = ap suc (rows_each groups rows a.1)

pub row_at : (groups : List Group) (rows : List Row) (i : ℕ) (g : Group) (row : Row) → AreRows groups rows → i < length groups → OfRecords (get_or groups i g).records (IsRow (get_or rows i row))
row_at [] rows i g row a l = absurd (omega (arith, l))
row_at (h ∷ groups) [] i g row a l = absurd a
row_at (h ∷ groups) (x ∷ rows) zero g row a l = a.0
row_at (h ∷ groups) (x ∷ rows) (suc i) g row a l = row_at groups rows i g row a.1 (omega (arith, l))

-- ---- a stream
pub row_added : (r : ReadRequest) (row : Row) (arrivals : ℕ) (old new : Lines) (came : List Item) → r.source ≡ row.source → IsRow row came → arrivals ≡ row.packets → arrivals ≡ length (arrivals_after r.ssrc r.payload_types [] came)
    → AddsLines old (map written (source_lines r.ssrc (arrivals_after r.ssrc r.payload_types [] came) r.source)) new → HasTexts r.payload_types r.ssrc old new came
row_added r row arrivals old new came is i n m added = record {
  numbers = no_numbers r.ssrc (row.first + 65536) (numbered past) straight.numbers;
  others = ap (λ (f : Firsts). f.others) straight.sources ∙ alone came;
  texts = adds_same old new _ _ (ap (map written) (one came ∙ ap (λ (f : Firsts). text_lines r.ssrc past f.kept) (sym straight.sources))) added;
}
  where
    past : List Arrival
    past = arrivals_after r.ssrc r.payload_types [] came

    straight : IsStraight row r.ssrc r.payload_types came
    straight = i.straight r.ssrc r.payload_types (sym m ∙ (n ∙ i.packets))

    alone : (xs : List Item) → (only row.source xs).others ≡ 0
    alone [] = refl
    alone (x ∷ xs) = refl

    one : (xs : List Item) → source_lines r.ssrc (arrivals_after r.ssrc r.payload_types [] xs) r.source ≡ text_lines r.ssrc (arrivals_after r.ssrc r.payload_types [] xs) (only row.source xs).kept
    one [] = refl
    one (x ∷ xs) = ap (source_lines r.ssrc (arrivals_after r.ssrc r.payload_types [] (x ∷ xs))) is ∙ sym (append-nil (source_lines r.ssrc (arrivals_after r.ssrc r.payload_types [] (x ∷ xs)) row.source))

-- ---- all streams
abbrev pub RowsSoFar : PayloadTypes → List Group → ℕ → Lines → Lines → Type 0
RowsSoFar payload_types groups i old now = (items : List Item) → length items < 2 ^ 32 → All (GroupHolds (stream_of payload_types) items) groups → HaveTexts payload_types (take i (names groups)) old now items

pub rows_none : (payload_types : PayloadTypes) (groups : List Group) (l : Lines) → RowsSoFar payload_types groups 0 l l
rows_none payload_types groups l items few each = record { numbers = refl; others = refl; texts = adds_none l }

sum_more : (f : ℕ → ℕ) (xs : List ℕ) (i d : ℕ) → i < length xs → sum (map f (take (i + 1) xs)) ≡ sum (map f (take i xs)) + f (get_or xs i d)
sum_more f xs i d l =
    ap (λ (ys : List ℕ). sum (map f ys)) (take_more xs i d l)
    ∙ (ap sum (map-append f (take i xs) (get_or xs i d ∷ [])) ∙ omega (arith, sum_by-append (λ x. x) (map f (take i xs)) (f (get_or xs i d) ∷ [])))

pub rows_added : (payload_types : PayloadTypes) (groups : List Group) (i : ℕ) (g : Group) (old now new : Lines) → i < length groups → g ≡ get_or groups i g → AddsRow payload_types g now new → RowsSoFar payload_types groups i old now → RowsSoFar payload_types groups (i + 1) old new
rows_added payload_types groups i g old now new l e added h items few each =
    let so_far = h items few each in
    let holds : GroupHolds (stream_of payload_types) items g = subst (GroupHolds (stream_of payload_types) items) (sym e) (each i g l) in
    let at : g.name ≡ get_or (names groups) i g.name = ap (λ (x : Group). x.name) e ∙ sym (names_at payload_types groups items i g l) in
    let far = long payload_types groups items i l in
    let one : HasTexts payload_types g.name now new (stream payload_types g.name items) = its payload_types groups items g (HasTexts payload_types g.name now new) few holds added in
    let n : ℕ → List times.Line = λ ssrc. number_lines ssrc (numbered (arrivals_in payload_types items ssrc)) in
    let t : ℕ → List times.Line = λ ssrc. text_lines ssrc (arrivals_in payload_types items ssrc) (sources_in payload_types items ssrc) in
    let o : ℕ → ℕ = λ ssrc. (sources ssrc payload_types (stream payload_types ssrc items)).others in
    record {
      numbers = made_more n (names groups) i g.name far
          ∙ (ap (λ (ls : List Line). ls ++ map written (n (get_or (names groups) i g.name))) so_far.numbers ∙ (ap (λ (k : ℕ). map written (n k)) (sym at) ∙ ap (map written) one.numbers));
      others = sum_more o (names groups) i g.name far ∙ (ap (λ (k : ℕ). sum (map o (take i (names groups))) + o k) (sym at) ∙ omega (arith, so_far.others, one.others));
      texts = adds_same old new (all_texts payload_types items (take i (names groups)) ++ map written (t g.name)) (all_texts payload_types items (take (i + 1) (names groups)))
          (ap (λ (k : ℕ). all_texts payload_types items (take i (names groups)) ++ map written (t k)) at ∙ sym (made_more t (names groups) i g.name far))
          (adds_both old now new (all_texts payload_types items (take i (names groups))) (map written (t g.name)) so_far.texts one.texts);
    }

pub rows_all : (payload_types : PayloadTypes) (groups : List Group) (i : ℕ) (old now : Lines) → length groups ≤ i → RowsSoFar payload_types groups i old now → AddsRows payload_types groups old now
rows_all payload_types groups i old now l h items few each =
    let all : take i (names groups) ≡ names groups = take_over (names groups) i (omega (arith, l, length-map groups (λ (group : Group). group.name))) in
    subst (λ (ns : List ℕ). HaveTexts payload_types ns old now items) all (h items few each)

-- ---- a recording
pub rows_told : (found : Findings) (one two three : Lines) → Keeps one [] → AddsRows found.payload_types found.streams.groups.items one two → Sorts two three → IsToldOf found three 0
unfolding in_order
rows_told found one two three none added sorts items few w =
    let payload_types = found.payload_types in
    let groups = found.streams.groups.items in
    let kept = (streams payload_types items).kept in
    let is : names groups ≡ kept = ap (λ (f : Firsts). f.kept) w.streams.firsts in
    let r = added items few (λ k d l. w.streams.each k d l) in
    let all : Keeps two (all_texts payload_types items (names groups)) = r.texts [] none in
    let same : all_texts payload_types items (names groups) ≡ map written (all_lines payload_types items) =
    ap (λ (ls : List Line). ls ++ all_texts payload_types items (names groups)) (sym r.numbers)
    ∙ (ap (λ (ns : List ℕ). all_numbers payload_types items ns ++ all_texts payload_types items ns) is
    ∙ sym (map-append written (flat_map (λ ssrc. number_lines ssrc (numbered (arrivals_in payload_types items ssrc))) kept) (flat_map (λ ssrc. text_lines ssrc (arrivals_in payload_types items ssrc) (sources_in payload_types items ssrc)) kept))) in (
      subst (Keeps three) (ap (ordered_by at_of) same ∙ sym (ordered_made moment_of at_of written (λ l. refl) (all_lines payload_types items))) (sorts (all_texts payload_types items (names groups)) all),
      sym r.others ∙ ap (λ (ns : List ℕ). sum (map (λ ssrc. (sources ssrc payload_types (stream payload_types ssrc items)).others) ns)) is,
    )
