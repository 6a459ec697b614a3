-- What is told of all streams of a recording.
use Rattle.std.proofs.Common.{◌≡◌, ℕ, zero, suc, ◌+◌, ◌<◌, ◌≤◌, ◌^◌, List, [], ◌∷◌, ◌++◌, map, flat_map, length, take, get_or, refl, ap, sym, ◌∙◌, subst, arith, append-nil, append_assoc, inl, inr, ◌⊎◌}
use Rattle.std.specs.Prelude.{All, Option, None, Some, codes}
use Rattle.std.specs.List.{sum, AllByRecursion, filter_map}
use Rattle.std.proofs.lemmas.List.Elements.{All-head, All-tail}
use Rattle.std.proofs.lemmas.Grind.{flat_map-append}
use Rattle.std.proofs.lemmas.List.{map-append, length-map, get_or-map}
use Rattle.rtt_base.specs.declared.text_packets.PayloadTypes.{PayloadTypes}
use Rattle.wire_spec.specs.Dump.{Item, arrivals_after, sent_item}
use Rattle.stream_spec.specs.Lists.{In}
use Rattle.stream_spec.specs.Numbering.{numbered}
use Rattle.stream_spec.proofs.Lists.{in_append}
use Rattle.command_spec.specs.Firsts.{Firsts}
use Rattle.command_spec.specs.Streams.{sort_of, sources, stream, stream_of, streams}
use Rattle.command_spec.specs.Showing.{end_line, number_line}
use Rattle.rtpdump_io.specs.InMemory.{IsRecord}
use Rattle.rtpdump_io.specs.declared.items.DumpFault.{DumpFault}
use Rattle.rtt_show.specs.declared.first_sources.FirstSources.{FirstSources}
use Rattle.rtt_show.specs.declared.findings.Findings.{Findings}
use Rattle.rtt_show.specs.declared.groups.Group.{Group}
use Rattle.rtt_show.specs.Finds.{IsFound}
use Rattle.rtt_show.specs.Groups.{GroupHolds}
use Rattle.rtt_show.specs.Records.{OfRecords}
use Rattle.rtt_show.specs.Surveys.{firsts_of}
use Rattle.rtt_show.specs.Whole.{ends}
use Rattle.rtt_show.proofs.Firsts.{few}
use Rattle.rtt_show.proofs.Showing.{records_of}
use Rattle.report_spec.specs.Times as times
use Rattle.report_spec.specs.Times.{all_lines, arrivals_in, began_line, began_and_timed, day_of, in_order, line_text, moment_of, number_lines, other_sources, others_text, source_lines, sources_in, text_lines, time_text, timed, timed_view, told_text}
use Rattle.report_spec.specs.Ordered.{ordered_by}
use Rattle.report_spec.proofs.Ordered.{ordered_made}
use Rattle.rtt_times.specs.declared.lines.Lines.{Lines}
use Rattle.rtt_times.specs.Lines.{AddsLines, AreEarly, Keeps, Line, at_of, timed_line, timed_written, written}
use Rattle.rtt_times.specs.Found.{AddsTexts, AreNumbered, AreTexted, HasNumbersAdded, IsFoundOf, IsPrintedOf, IsStream, IsTimedFrom, IsToldOf, NamesSources, all_numbers, all_texts, began_and_written, names, sources_of, sum_others}
use Rattle.rtt_times.proofs.Early.{AreBy, after_by, in_flat, numbered_by, numbers_early, ordered_early, texts_early}
use Rattle.rtt_times.proofs.Writing.{adds_both, adds_none, adds_same}
use Rattle.stream_spec.proofs.Still.{in_map}
use Rattle.stream_spec.proofs.Plain.{sum_cons}

-- ---- lists
pub take_more : {X : Type 0} (xs : List X) (i : ℕ) (d : X) → i < length xs → take (i + 1) xs ≡ take i xs ++ get_or xs i d ∷ []
take_more [] i d l = absurd (omega (arith, l))
take_more (x ∷ xs) zero d l = refl
take_more (x ∷ xs) (suc i) d l =
    let shift : suc i + 1 ≡ suc (i + 1) = omega arith in
    ap (λ (n : ℕ). take n (x ∷ xs)) shift ∙ ap (λ ys. x ∷ ys) (take_more xs i d (omega (arith, l)))

pub take_over : {X : Type 0} (xs : List X) (n : ℕ) → length xs ≤ n → take n xs ≡ xs
take_over [] zero l = refl
take_over [] (suc n) l = refl
take_over (x ∷ xs) zero l = absurd (omega (arith, l))
take_over (x ∷ xs) (suc n) l = ap (λ ys. x ∷ ys) (take_over xs n (omega (arith, l)))

-- what is made of one more
pub made_more : (f : ℕ → List times.Line) (xs : List ℕ) (i d : ℕ) → i < length xs → map written (flat_map f (take (i + 1) xs)) ≡ map written (flat_map f (take i xs)) ++ map written (f (get_or xs i d))
made_more f xs i d l =
    ap (λ (ys : List ℕ). map written (flat_map f ys)) (take_more xs i d l)
    ∙ (ap (map written) (flat_map-append f (take i xs) (get_or xs i d ∷ []) ∙ ap (λ ys. flat_map f (take i xs) ++ ys) (append-nil (f (get_or xs i d))))
    ∙ map-append written (flat_map f (take i xs)) (f (get_or xs i d)))

-- ---- the sources of a stream
abbrev pub TextsSoFar : ℕ → PayloadTypes → List ℕ → ℕ → List ℕ → Lines → Lines → Type 0
TextsSoFar ssrc payload_types sources i octets old now = AddsTexts ssrc payload_types (take i sources) octets old now

pub texts_none : (ssrc : ℕ) (payload_types : PayloadTypes) (sources octets : List ℕ) (l : Lines) → TextsSoFar ssrc payload_types sources 0 octets l l
texts_none ssrc payload_types sources octets l records a = adds_none l

pub texts_more : (ssrc : ℕ) (payload_types : PayloadTypes) (sources octets : List ℕ) (i source : ℕ) (old now new : Lines) → i < length sources → source ≡ get_or sources i source → TextsSoFar ssrc payload_types sources i octets old now
    → OfRecords octets (λ came. AddsLines now (map written (source_lines ssrc (arrivals_after ssrc payload_types [] came) source)) new) → TextsSoFar ssrc payload_types sources (i + 1) octets old new
texts_more ssrc payload_types sources octets i source old now new l e h g records a =
    let f : ℕ → List times.Line = source_lines ssrc (arrivals_after ssrc payload_types [] (map sent_item records)) in
    adds_same old new (map written (flat_map f (take i sources)) ++ map written (f source)) (map written (flat_map f (take (i + 1) sources)))
    (ap (λ (s : ℕ). map written (flat_map f (take i sources)) ++ map written (f s)) e ∙ sym (made_more f sources i source l))
    (adds_both old now new (map written (flat_map f (take i sources))) (map written (f source)) (h records a) (g records a))

pub texts_end : (ssrc : ℕ) (payload_types : PayloadTypes) (sources octets : List ℕ) (i : ℕ) (old now : Lines) → length sources ≤ i → TextsSoFar ssrc payload_types sources i octets old now → AddsTexts ssrc payload_types sources octets old now
texts_end ssrc payload_types sources octets i old now l h records a =
    adds_same old now _ _ (ap (λ (ss : List ℕ). map written (text_lines ssrc (arrivals_after ssrc payload_types [] (map sent_item records)) ss)) (take_over sources i l)) (h records a)

-- ---- all streams
names_take : (groups : List Group) (i : ℕ) → names (take i groups) ≡ take i (names groups)
names_take [] zero = refl
names_take [] (suc i) = refl
names_take (g ∷ groups) zero = refl
names_take (g ∷ groups) (suc i) = ap (λ (ns : List ℕ). g.name ∷ ns) (names_take groups i)

module _ (payload_types : PayloadTypes) (groups : List Group) (items : List Item) where
  abbrev numbers_of : ℕ → List times.Line
  numbers_of ssrc = number_lines ssrc (numbered (arrivals_in payload_types items ssrc))

  abbrev texts_of : ℕ → List times.Line
  texts_of ssrc = text_lines ssrc (arrivals_in payload_types items ssrc) (sources_in payload_types items ssrc)

  pub names_at : (i : ℕ) (g : Group) → i < length groups → get_or (names groups) i g.name ≡ (get_or groups i g).name
  names_at i g l = get_or-map (λ (group : Group). group.name) groups i g g.name l

  pub long : (i : ℕ) → i < length groups → i < length (names groups)
  long i l = omega (arith, l, length-map groups (λ (group : Group). group.name))

  -- the records of a stream are those of the recording that name it
  pub its : (g : Group) (P : List Item → Type 0) → length items < 2 ^ 32 → GroupHolds (stream_of payload_types) items g → OfRecords g.records P → P (stream payload_types g.name items)
  its g P few h f = subst P h.are (f h.records (records_of (stream_of payload_types) items g few h))

-- the first of them were numbered
abbrev pub NumberedSoFar : PayloadTypes → List Group → ℕ → List FirstSources → Lines → Lines → Type 0
NumberedSoFar payload_types groups i named old now = (items : List Item) → length items < 2 ^ 32 → All (GroupHolds (stream_of payload_types) items) groups
    → AddsLines old (all_numbers payload_types items (take i (names groups))) now × (map firsts_of named ≡ sources_of payload_types items (take i (names groups)))

pub numbered_none : (payload_types : PayloadTypes) (groups : List Group) (l : Lines) → NumberedSoFar payload_types groups 0 [] l l
numbered_none payload_types groups l items few each = (adds_none l, refl)

pub numbered_more : (payload_types : PayloadTypes) (groups : List Group) (i : ℕ) (g : Group) (named : List FirstSources) (more : FirstSources) (old now new : Lines) → i < length groups → g ≡ get_or groups i g → HasNumbersAdded payload_types g now new → NamesSources payload_types g more
    → NumberedSoFar payload_types groups i named old now → NumberedSoFar payload_types groups (i + 1) (named ++ more ∷ []) old new
numbered_more payload_types groups i g named more old now new l e added names_it h items few each =
    let so_far = h items few each in
    let holds : GroupHolds (stream_of payload_types) items g = subst (GroupHolds (stream_of payload_types) items) (sym e) (each i g l) in
    let f : ℕ → List times.Line = λ ssrc. number_lines ssrc (numbered (arrivals_in payload_types items ssrc)) in
    let at : g.name ≡ get_or (names groups) i g.name = ap (λ (x : Group). x.name) e ∙ sym (names_at payload_types groups items i g l) in
    let one : AddsLines now (map written (f g.name)) new = its payload_types groups items g (λ came. AddsLines now (map written (number_lines g.name (numbered (arrivals_after g.name payload_types [] came)))) new) few holds added in
    let named_one : firsts_of more ≡ sources g.name payload_types (stream payload_types g.name items) = its payload_types groups items g (λ came. firsts_of more ≡ sources g.name payload_types came) few holds names_it in
    let s : ℕ → Firsts = λ ssrc. sources ssrc payload_types (stream payload_types ssrc items) in (
      adds_same old new (all_numbers payload_types items (take i (names groups)) ++ map written (f g.name)) (all_numbers payload_types items (take (i + 1) (names groups)))
          (ap (λ (n : ℕ). all_numbers payload_types items (take i (names groups)) ++ map written (f n)) at ∙ sym (made_more f (names groups) i g.name (long payload_types groups items i l)))
          (adds_both old now new (all_numbers payload_types items (take i (names groups))) (map written (f g.name)) so_far.0 one),
      map-append firsts_of named (more ∷ [])
          ∙ (ap (λ (xs : List Firsts). xs ++ firsts_of more ∷ []) so_far.1
          ∙ (ap (λ (x : Firsts). sources_of payload_types items (take i (names groups)) ++ x ∷ []) (named_one ∙ ap s at)
          ∙ (sym (map-append s (take i (names groups)) (get_or (names groups) i g.name ∷ []))
          ∙ ap (map s) (sym (take_more (names groups) i g.name (long payload_types groups items i l)))))),
    )

pub numbered_end : (payload_types : PayloadTypes) (groups : List Group) (i : ℕ) (named : List FirstSources) (old now : Lines) → length groups ≤ i → NumberedSoFar payload_types groups i named old now → AreNumbered payload_types groups named old now
numbered_end payload_types groups i named old now l h items few each =
    let all : take i (names groups) ≡ names groups = take_over (names groups) i (omega (arith, l, length-map groups (λ (group : Group). group.name))) in
    let r = h items few each in
    (adds_same old now _ _ (ap (all_numbers payload_types items) all) r.0, r.1 ∙ ap (sources_of payload_types items) all)

-- the texts of the first of them were added
abbrev pub TextedSoFar : PayloadTypes → List Group → ℕ → List FirstSources → Lines → Lines → Type 0
TextedSoFar payload_types groups i named old now = (items : List Item) → length items < 2 ^ 32 → All (GroupHolds (stream_of payload_types) items) groups → map firsts_of named ≡ sources_of payload_types items (names groups)
    → AddsLines old (all_texts payload_types items (take i (names groups))) now

pub texted_none : (payload_types : PayloadTypes) (groups : List Group) (named : List FirstSources) (l : Lines) → TextedSoFar payload_types groups 0 named l l
texted_none payload_types groups named l items few each e = adds_none l

pub texted_more : (payload_types : PayloadTypes) (groups : List Group) (i : ℕ) (g : Group) (named : List FirstSources) (its_named : FirstSources) (old now new : Lines) → i < length groups → i < length named → g ≡ get_or groups i g → its_named ≡ get_or named i its_named
    → AddsTexts g.name payload_types its_named.kept.items g.records now new → TextedSoFar payload_types groups i named old now → TextedSoFar payload_types groups (i + 1) named old new
texted_more payload_types groups i g named its_named old now new l m e en added h items few each named_is =
    let so_far = h items few each named_is in
    let holds : GroupHolds (stream_of payload_types) items g = subst (GroupHolds (stream_of payload_types) items) (sym e) (each i g l) in
    let f : ℕ → List times.Line = λ ssrc. text_lines ssrc (arrivals_in payload_types items ssrc) (sources_in payload_types items ssrc) in
    let s : ℕ → Firsts = λ ssrc. sources ssrc payload_types (stream payload_types ssrc items) in
    let at : g.name ≡ get_or (names groups) i g.name = ap (λ (x : Group). x.name) e ∙ sym (names_at payload_types groups items i g l) in
    let first : firsts_of its_named ≡ s g.name =
    ap firsts_of en ∙ (sym (get_or-map firsts_of named i its_named (firsts_of its_named) m)
    ∙ (ap (λ (xs : List Firsts). get_or xs i (firsts_of its_named)) named_is
    ∙ (get_or-map s (names groups) i g.name (firsts_of its_named) (long payload_types groups items i l) ∙ ap s (sym at)))) in
    let one : AddsLines now (map written (text_lines g.name (arrivals_in payload_types items g.name) its_named.kept.items)) new =
    its payload_types groups items g (λ came. AddsLines now (map written (text_lines g.name (arrivals_after g.name payload_types [] came) its_named.kept.items)) new) few holds added in
    let two : AddsLines now (map written (f g.name)) new = adds_same now new _ _ (ap (λ (x : Firsts). map written (text_lines g.name (arrivals_in payload_types items g.name) x.kept)) first) one in
    adds_same old new (all_texts payload_types items (take i (names groups)) ++ map written (f g.name)) (all_texts payload_types items (take (i + 1) (names groups)))
    (ap (λ (n : ℕ). all_texts payload_types items (take i (names groups)) ++ map written (f n)) at ∙ sym (made_more f (names groups) i g.name (long payload_types groups items i l)))
    (adds_both old now new (all_texts payload_types items (take i (names groups))) (map written (f g.name)) so_far two)

pub texted_end : (payload_types : PayloadTypes) (groups : List Group) (i : ℕ) (named : List FirstSources) (old now : Lines) → length groups ≤ i → TextedSoFar payload_types groups i named old now → AreTexted payload_types groups named old now
texted_end payload_types groups i named old now l h items few each e =
    adds_same old now _ _ (ap (all_texts payload_types items) (take_over (names groups) i (omega (arith, l, length-map groups (λ (group : Group). group.name))))) (h items few each e)

-- ---- a recording
sum_of : (named : List FirstSources) → sum_others named ≡ sum (map (λ (f : Firsts). f.others) (map firsts_of named))
sum_of [] = refl
sum_of (n ∷ named) = sum_cons n.others (map (λ (x : FirstSources). x.others) named) ∙ (ap (λ k. n.others + k) (sum_of named) ∙ sym (sum_cons n.others (map (λ (f : Firsts). f.others) (map firsts_of named))))

sum_made : (s : ℕ → Firsts) (xs : List ℕ) → sum (map (λ (f : Firsts). f.others) (map s xs)) ≡ sum (map (λ ssrc. (s ssrc).others) xs)
sum_made s [] = refl
sum_made s (x ∷ xs) = sum_cons (s x).others (map (λ (f : Firsts). f.others) (map s xs)) ∙ (ap (λ k. (s x).others + k) (sum_made s xs) ∙ sym (sum_cons (s x).others (map (λ ssrc. (s ssrc).others) xs)))

pub all_told : (found : Findings) (named : List FirstSources) (others : ℕ) (one two three four : Lines) → Keeps one [] → AreNumbered found.payload_types found.streams.groups.items named one two → AreTexted found.payload_types found.streams.groups.items named two three
    → ((lines : List Line) → Keeps three lines → Keeps four (ordered_by at_of lines)) → others ≡ sum_others named → IsToldOf found four others
unfolding in_order
all_told found named others one two three four none numbers texts sorts o items few w =
    let payload_types = found.payload_types in
    let groups = found.streams.groups.items in
    let kept = (streams payload_types items).kept in
    let is : names groups ≡ kept = ap (λ (f : Firsts). f.kept) w.streams.firsts in
    let each : All (GroupHolds (stream_of payload_types) items) groups = λ k d l. w.streams.each k d l in
    let n = numbers items few each in
    let t = texts items few each n.1 in
    let lines = all_numbers payload_types items (names groups) ++ all_texts payload_types items (names groups) in
    let all : Keeps three lines = adds_both one two three (all_numbers payload_types items (names groups)) (all_texts payload_types items (names groups)) n.0 t [] none in
    let same : lines ≡ map written (all_lines payload_types items) =
    ap (λ (ns : List ℕ). all_numbers payload_types items ns ++ all_texts payload_types items ns) is
    ∙ sym (map-append written (flat_map (λ ssrc. number_lines ssrc (numbered (arrivals_in payload_types items ssrc))) kept) (flat_map (λ ssrc. text_lines ssrc (arrivals_in payload_types items ssrc) (sources_in payload_types items ssrc)) kept)) in (
      subst (Keeps four) (ap (ordered_by at_of) same ∙ sym (ordered_made moment_of at_of written (λ l. refl) (all_lines payload_types items))) (sorts lines all),
      o ∙ (sum_of named ∙ (ap (λ (xs : List Firsts). sum (map (λ (f : Firsts). f.others) xs)) n.1
          ∙ (sum_made (λ ssrc. sources ssrc payload_types (stream payload_types ssrc items)) (names groups)
          ∙ ap (λ (ns : List ℕ). sum (map (λ ssrc. (sources ssrc payload_types (stream payload_types ssrc items)).others) ns)) is))),
    )

-- what is printed of the lines is that of the definition
timed_is : (start day : ℕ) (lines : List times.Line) → timed_written start day (map written lines) ≡ timed start day lines
unfolding line_text
timed_is start day [] = refl
timed_is start day (l ∷ lines) =
    let moment = start + l.at in
    let text = told_text l.ssrc l.told in
    ap (λ (xs : List ℕ). timed_line day moment (text ++ 0x0A ∷ []) ++ xs) (timed_is start (day_of moment) lines)
    ∙ (ap (λ (xs : List ℕ). (times.day_line day (day_of moment) ++ xs) ++ timed start (day_of moment) lines) (sym (append_assoc (time_text moment ++ 0x20 ∷ []) text (0x0A ∷ [])))
    ∙ refl)

timed_from : (start : Option ℕ) (lines : List times.Line) → began_and_written start (map written lines) ≡ began_and_timed start lines
timed_from None lines = refl
timed_from (Some start) lines = ap (λ (xs : List ℕ). began_line start ++ xs) (timed_is start (day_of start) lines)

pub printed_is : (found : Findings) (start : Option ℕ) (end : Option DumpFault) (lines : Lines) (others : ℕ) (one two three four : List ℕ) → IsToldOf found lines others → IsTimedFrom lines start [] one
    → two ≡ one ++ number_line (codes "-- other sources ") others → three ≡ two ++ number_line (codes "-- more ") found.streams.others → four ≡ three ++ end_line (ends end) → IsPrintedOf found start end four
unfolding others_text
printed_is found start end lines others one two three four told began a b c items few w =
    let t = told items few w in
    let all = in_order (all_lines found.payload_types items) in
    let text = began_and_timed start all in
    let first = number_line (codes "-- other sources ") in
    let second = number_line (codes "-- more ") in
    let last = end_line (ends end) in
    let one_is : one ≡ text = began (map written all) t.0 ∙ timed_from start all in
    let more : found.streams.others ≡ (streams found.payload_types items).others = ap (λ (f : Firsts). f.others) w.streams.firsts in
    c ∙ (ap (λ (xs : List ℕ). xs ++ last) (b ∙ (ap (λ (xs : List ℕ). xs ++ second found.streams.others) (a ∙ (ap (λ (xs : List ℕ). xs ++ first others) one_is ∙ ap (λ (n : ℕ). text ++ first n) t.1)) ∙ (ap (λ (n : ℕ). (text ++ first (other_sources found.payload_types items)) ++ second n) more
    ∙ append_assoc text (first (other_sources found.payload_types items)) (second (streams found.payload_types items).others)))))

-- ---- no line is of a late moment
early_items : (payload_types : PayloadTypes) (items : List Item) (g : Group) → GroupHolds (stream_of payload_types) items g → (item : Item) → In item (stream payload_types g.name items) → item.time ≤ 2 ^ 32
early_items payload_types items g h item i = by h.records h.each item (subst (In item) (sym h.are) i)
  where
    by : (rs : List (ℕ × List ℕ)) → AllByRecursion IsRecord rs → (x : Item) → In x (map sent_item rs) → x.time ≤ 2 ^ 32
    by [] a x j = absurd j
    by (r ∷ rs) a x (inl e) = subst (λ (y : Item). y.time ≤ 2 ^ 32) (sym e) (let m = a.0.moment in omega (arith, m))
    by (r ∷ rs) a x (inr j) = by rs a.1 x j

all_early : (found : Findings) (items : List Item) → IsFound found items → (ssrc : ℕ) → In ssrc (names found.streams.groups.items) → (item : Item) → In item (stream found.payload_types ssrc items) → item.time ≤ 2 ^ 32
all_early found items w ssrc i = go found.streams.groups.items (λ k d l. w.streams.each k d l) i
  where
    go : (gs : List Group) → All (GroupHolds (stream_of found.payload_types) items) gs → In ssrc (names gs) → (item : Item) → In item (stream found.payload_types ssrc items) → item.time ≤ 2 ^ 32
    go [] a j = absurd j
    go (g ∷ gs) a (inl e) = λ item k. early_items found.payload_types items g (All-head (GroupHolds (stream_of found.payload_types) items) g gs a) item (subst (λ (n : ℕ). In item (stream found.payload_types n items)) e k)
    go (g ∷ gs) a (inr j) = go gs (All-tail (GroupHolds (stream_of found.payload_types) items) g gs a) j

arrived_by : (found : Findings) (items : List Item) → IsFound found items → (ssrc : ℕ) → In ssrc (streams found.payload_types items).kept → AreBy (2 ^ 32) (arrivals_in found.payload_types items ssrc)
arrived_by found items w ssrc i =
    let named : names found.streams.groups.items ≡ (streams found.payload_types items).kept = ap (λ (x : Firsts). x.kept) w.streams.firsts in
    after_by (2 ^ 32) ssrc found.payload_types [] (stream found.payload_types ssrc items) (all_early found items w ssrc (subst (In ssrc) (sym named) i)) tt

pub lines_early : (found : Findings) (lines : Lines) (others : ℕ) → IsToldOf found lines others → IsFoundOf found → AreEarly lines
unfolding in_order
lines_early found lines others told f =
    let payload_types = found.payload_types in
    let items = f.0 in
    let w = f.2 in
    let kept = (streams payload_types items).kept in
    let all = all_lines payload_types items in
    let each : (l : times.Line) → In l all → l.at < 2 ^ 48 = λ l i.
    split l (in_append l (flat_map (λ ssrc. number_lines ssrc (numbered (arrivals_in payload_types items ssrc))) kept) (flat_map (λ ssrc. text_lines ssrc (arrivals_in payload_types items ssrc) (sources_in payload_types items ssrc)) kept) i) in (
      map written (in_order all),
      (told items f.1 w).0,
      subst (All (λ (line : Line). line.at < 2 ^ 48)) (sym (ordered_made moment_of at_of written (λ l. refl) all))
          (ordered_early (2 ^ 48) (map written all) (λ line i. let r = in_map written line all i in subst (λ (x : Line). x.at < 2 ^ 48) (sym r.2) (each r.0 r.1))),
    )
  where
    split : (l : times.Line) → In l (flat_map (λ ssrc. number_lines ssrc (numbered (arrivals_in found.payload_types f.0 ssrc))) (streams found.payload_types f.0).kept) ⊎ In l (flat_map (λ ssrc. text_lines ssrc (arrivals_in found.payload_types f.0 ssrc) (sources_in found.payload_types f.0 ssrc)) (streams found.payload_types f.0).kept) → l.at < 2 ^ 48
    split l (inl j) =
        let r = in_flat (λ ssrc. number_lines ssrc (numbered (arrivals_in found.payload_types f.0 ssrc))) l (streams found.payload_types f.0).kept j in
        let e = numbers_early (2 ^ 32) r.0 (numbered (arrivals_in found.payload_types f.0 r.0)) (numbered_by (2 ^ 32) (arrivals_in found.payload_types f.0 r.0) (arrived_by found f.0 f.2 r.0 r.1)) l r.2 in
        omega (arith, e)
    split l (inr j) =
        let r = in_flat (λ ssrc. text_lines ssrc (arrivals_in found.payload_types f.0 ssrc) (sources_in found.payload_types f.0 ssrc)) l (streams found.payload_types f.0).kept j in
        let e = texts_early (2 ^ 32) r.0 (arrivals_in found.payload_types f.0 r.0) (sources_in found.payload_types f.0 r.0) (arrived_by found f.0 f.2 r.0 r.1) l r.2 in
        omega (arith, e)

-- ---- the streams that were found
pub are_streams : (found : Findings) → IsFoundOf found → All IsStream found.streams.groups.items
are_streams found f k d low =
    let g = found.streams in
    let h = f.2.streams.each k d low in (
      (h.records, records_of (stream_of found.payload_types) f.0 (get_or g.groups.items k d) f.1 h),
      subst (λ (n : ℕ). n < 2 ^ 32) (get_or-map (λ (group : Group). group.name) g.groups.items k d d.name low) (f.2.streams.below k d.name (omega (arith, low, length-map g.groups.items (λ (group : Group). group.name)))),
    )

pub few_streams : (found : Findings) → IsFoundOf found → length found.streams.groups.items ≤ 64
few_streams found f =
    let kept = few (record { kept = []; others = 0 }) (filter_map (λ item. stream_of found.payload_types (sort_of item)) f.0) (omega arith) in
    omega (arith, kept, ap (λ (x : Firsts). length x.kept) f.2.streams.firsts, length-map found.streams.groups.items (λ (group : Group). group.name))
