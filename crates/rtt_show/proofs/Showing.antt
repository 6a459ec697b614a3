-- What is printed of a stream or a pair is its view.
use Rattle.std.proofs.Common.{◌≡◌, ℕ, zero, suc, ◌+◌, ◌*◌, ◌/◌, ◌%◌, ◌<◌, ◌≤◌, ◌^◌, Bool, true, false, cond, List, [], ◌∷◌, ◌++◌, length, map, filter, flat_map, drop, get_or, refl, ap, sym, ◌∙◌, subst, arith, append_assoc, append-nil}
use Rattle.std.specs.Prelude.{◌≢◌, All, AllPairs, Option, slice_index, slice_index_or, decimal, codes, ◌==◌, ◌&&◌, ◌||◌, nat_lt, nat_le, not, if◌then◌else◌}
use Rattle.std.specs.List.{filter_map, list_any}
use Rattle.std.proofs.lemmas.Bool.{lt-ltb}
use Rattle.std.proofs.lemmas.List.{length-map, get_or-map}
use Rattle.std.proofs.Math.ListN.{drop_of_length-le}
use Rattle.rtt_base.specs.declared.text_packets.PayloadTypes.{PayloadTypes}
use Rattle.rtt_base.specs.declared.limits.TheConstants.{MOST_SOURCES}
use Rattle.wire_spec.specs.Dump.{Item, sent_item}
use Rattle.receiver.specs.declared.source_texts.SourceText.{SourceText}
use Rattle.view_spec.specs.Shown.{shown}
use Rattle.view_spec.specs.declared.counts.Counts.{Counts}
use Rattle.view_spec.specs.Seen.{Reception, text_at, source_at, counts_at}
use Rattle.view_spec.specs.Views.{Source, source_view, counts_line}
use Rattle.command_spec.specs.Firsts.{Firsts}
use Rattle.command_spec.specs.Streams.{Sort, sort_of, is_name, naming, stream_of, pair_of, sources, source_in, is_dynamic, are_like_text, type_inside, may_be_red}
use Rattle.command_spec.specs.Streams as streams
use Rattle.command_spec.specs.Showing.{hearing, speaker, sources_seen, refusals, place_of, refusal_line, refusal_lines, refused_as, number_line, other_lines, how_many, least_time, greatest_time}
use Rattle.report_spec.specs.Showing.{numbers_of, title_of, stream_title, stream_view, pair_view, items_view}
use Rattle.report_spec.specs.Guesses.{has_payload, filled, is_accepted, accepted, are_mostly_text, may_be_plain, guess, guess_line}
use Rattle.report_spec.specs.Missed.{lost_count, late_count}
use Rattle.command_spec.specs.Reading.{usual_wait}
use Rattle.rtt_show.specs.declared.losses.Losses.{Losses}
use Rattle.rtt_show.specs.Missed.{IsMissed, IsMissedOf}
use Rattle.terminal.specs.declared.terminals.Terminal.{Terminal}
use Rattle.terminal.specs.Terminals.{texts_of, counts_of, IsTextOf, Heard}
use Rattle.terminal.specs.Views.{named}
use Rattle.rtt_show.specs.declared.surveys.Survey.{Survey}
use Rattle.rtt_show.specs.declared.signs.Signs.{Signs}
use Rattle.rtt_show.specs.declared.findings.Findings.{Findings}
use Rattle.rtt_show.specs.declared.groups.Group.{Group}
use Rattle.rtt_show.specs.declared.groups.Groups.{Groups}
use Rattle.rtt_show.specs.declared.views.Shape.{Shape}
use Rattle.rtt_show.specs.declared.views.Shape.TheVariants.{Stream, Pair}
use Rattle.rtpdump_io.specs.InMemory.{AreRecords}
use Rattle.rtt_show.specs.Records.{OfRecords}
use Rattle.rtt_show.specs.Groups.{GroupHolds, Grouped}
use Rattle.rtt_show.specs.Finds.{IsFound}
use Rattle.rtt_show.specs.Whole.{shape_limit, shape_view, IsGroupOf, AreShown, others_text}
use Rattle.rtt_show.specs.Signs.{AreSigns}
use Rattle.rtt_show.specs.Surveys.{IsSurvey, all_faults}
use Rattle.rtt_show.specs.Shown.{asked, settings_of, heard_text, pair_line}
use Rattle.rtt_show.specs.Finds.{one_if}
use Rattle.rtt_show.proofs.Surveying.{count_more}
use Rattle.rtt_show.proofs.Firsts.{apart, few}
use Rattle.view_spec.proofs.Counted.{filter_fits as length_filter_le}

-- ---- the sources that are named
pub sources_few : (payload_types : PayloadTypes) (ssrc : ℕ) (s : Survey) (came : List Item) → IsSurvey payload_types ssrc s came → length s.sources.kept.items ≤ MOST_SOURCES
sources_few payload_types ssrc s came i =
    subst (λ (f : Firsts). length f.kept ≤ MOST_SOURCES) (sym i.sources) (few (record { kept = []; others = 0 }) (filter_map (λ item. source_in (streams.text_at ssrc payload_types item)) came) (omega arith))

pub sources_differ : (payload_types : PayloadTypes) (ssrc : ℕ) (s : Survey) (came : List Item) → IsSurvey payload_types ssrc s came → AllPairs (λ a b. a ≢ b) s.sources.kept.items
sources_differ payload_types ssrc s came i =
    subst (λ (f : Firsts). AllPairs (λ a b. a ≢ b) f.kept) (sym i.sources) (apart (record { kept = []; others = 0 }) (filter_map (λ item. source_in (streams.text_at ssrc payload_types item)) came) (λ a b d low high. absurd (omega (arith, high))))

pub enough_texts : (ssrc : ℕ) (sources : List ℕ) (texts : List SourceText) → length texts ≡ length (asked ssrc sources) → length sources ≤ length texts
enough_texts ssrc [] texts e = omega arith
enough_texts ssrc (s ∷ sources) texts e = omega (arith, e)

-- ---- a stream
-- each text is what is heard of the source in its place
abbrev AreTexts : Reception → List Item → List ℕ → List SourceText → Type 0
AreTexts r came sources texts = (k : ℕ) (d : SourceText) → k < length sources → IsTextOf r came (slice_index sources k) (slice_index_or texts k d)

named_is : (r : Reception) (came : List Item) (sources : List ℕ) (texts : List SourceText) → length texts ≡ length sources → AreTexts r came sources texts → named (map decimal sources) texts ≡ sources_seen r sources came
named_is r came [] texts n f = refl
named_is r came (s ∷ sources) [] n f = absurd (omega (arith, n))
named_is r came (s ∷ sources) (t ∷ ts) n f =
    let here : t.text ≡ text_at r came s = (f 0 t (omega arith)).text in
    let rest = named_is r came sources ts (omega (arith, n)) (λ k d l. f (suc k) d (omega (arith, l))) in
    ap (λ (x : List ℕ). record { name = decimal s; display = shown x } ∷ named (map decimal sources) ts) here ∙ ap (λ (xs : List Source). source_at r came (speaker s) ∷ xs) rest

asked_is : (r : Reception) (came : List Item) (sources : List ℕ) (texts : List SourceText) → length texts ≡ length (asked r.ssrc sources) → AreTexts r came (asked r.ssrc sources) texts → named (map decimal sources) texts ≡ sources_seen r sources came
asked_is r came [] texts n f = refl
asked_is r came (s ∷ sources) texts n f = named_is r came (s ∷ sources) texts n f

refusals_are : (r : Reception) (came : List Item) (counts : List ℕ) → counts ≡ map (refused_as r came) all_faults → flat_map (λ fault. refusal_line fault (slice_index counts (place_of fault))) refusals ≡ refusal_lines r came
refusals_are r came counts e = ap (λ ns. flat_map (λ fault. refusal_line fault (slice_index ns (place_of fault))) refusals) e ∙ refl

pub stream_shown : (payload_types : PayloadTypes) (ssrc : ℕ) (s : Survey) (t : Terminal) (m : Losses) (came : List Item) → IsSurvey payload_types ssrc s came → Heard t (settings_of payload_types ssrc) (asked ssrc s.sources.kept.items) came → IsMissed payload_types ssrc m came
    → title_of ssrc s.from s.to m.lost m.late ++ heard_text s t ≡ stream_view payload_types ssrc came
unfolding stream_view stream_title
stream_shown payload_types ssrc s t m came i h missed =
    let r = hearing payload_types ssrc in
    let kept = s.sources.kept.items in
    ap (λ n. title_of ssrc n s.to m.lost m.late ++ heard_text s t) i.from
    ∙ (ap (λ n. title_of ssrc (streams_least came) n m.lost m.late ++ heard_text s t) i.to
    ∙ (ap (λ n. title_of ssrc (streams_least came) (greatest_time came) n m.late ++ heard_text s t) missed.lost
    ∙ (ap (λ n. title_of ssrc (streams_least came) (greatest_time came) (lost_count (numbers_of payload_types ssrc came)) n ++ heard_text s t) missed.late
    ∙ (ap (λ (xs : List Source). title came ++ (flat_map source_view xs ++ counts_line (counts_of t) ++ lines s ++ last s)) (asked_is r came kept (texts_of t) h.each h.texts)
    ∙ (ap (λ (n : Counts). title came ++ (flat_map source_view (sources_seen r kept came) ++ counts_line n ++ lines s ++ last s)) h.counts
    ∙ (ap (λ xs. title came ++ (flat_map source_view (sources_seen r kept came) ++ counts_line (counts_at r came) ++ xs ++ last s)) (refusals_are r came s.refused i.refused)
    ∙ ap (λ (f : Firsts). title came ++ (flat_map source_view (sources_seen r f.kept came) ++ counts_line (counts_at r came) ++ refusal_lines r came ++ number_line (codes "-- other sources ") f.others)) i.sources))))))
  where
    title : List Item → List ℕ
    title xs = title_of ssrc (least_time xs) (greatest_time xs) (lost_count (numbers_of payload_types ssrc xs)) (late_count usual_wait (numbers_of payload_types ssrc xs))

    streams_least : List Item → ℕ
    streams_least xs = least_time xs

    lines : Survey → List ℕ
    lines x = flat_map (λ fault. refusal_line fault (slice_index x.refused (place_of fault))) refusals

    last : Survey → List ℕ
    last x = number_line (codes "-- other sources ") x.sources.others

-- so many were used
pub used_is : (payload_types : PayloadTypes) (ssrc : ℕ) (s : Survey) (t : Terminal) (sources : List ℕ) (m : Losses) (came : List Item) → IsSurvey payload_types ssrc s came → Heard t (settings_of payload_types ssrc) sources came → IsMissedOf payload_types ssrc s.spread (counts_of t).used m came → IsMissed payload_types ssrc m came
used_is payload_types ssrc s t sources m came i h missed = missed i.spread (ap (λ (n : Counts). n.used) h.counts)

-- ---- a pair
-- one is not empty
any_filled : (p : Item → Bool) (came : List Item) → nat_lt 0 (length (filter p came)) ≡ list_any p came
any_filled p [] = refl
any_filled p (c ∷ came) = go (p c) (any_filled p came)
  where
    go : (b : Bool) → nat_lt 0 (length (filter p came)) ≡ list_any p came → nat_lt 0 (length (cond b (c ∷ filter p came) (filter p came))) ≡ (b || list_any p came)
    go true e = lt-ltb 0 (suc (length (filter p came))) (omega arith)
    go false e = e

pub accepted_more : (ssrc : ℕ) (payload_types : PayloadTypes) (old new : ℕ) (came : List Item) (item : Item) → old ≡ length (accepted ssrc payload_types came) → new ≡ old + one_if (is_accepted ssrc payload_types item) → new ≡ length (accepted ssrc payload_types (came ++ item ∷ []))
accepted_more ssrc payload_types old new came item e n = count_more (is_accepted ssrc payload_types) old new came item e n

pub mostly_is : (ssrc : ℕ) (payload_types : PayloadTypes) (came : List Item) (n k : ℕ) → n ≡ length (filled came) → k ≡ length (accepted ssrc payload_types came) → nat_le n (2 * k) ≡ are_mostly_text ssrc payload_types came
mostly_is ssrc payload_types came n k e f = ap (λ m. nat_le m (2 * k)) e ∙ ap (λ m. nat_le (length (filled came)) (2 * m)) f

pub guess_is : (ssrc pt : ℕ) (came : List Item) (signs : Signs) (red near text : Bool) → AreSigns signs came → is_dynamic pt ≡ true
    → red ≡ ((is_dynamic signs.inside && not (signs.inside == pt) && signs.redundant) && are_like_text ssrc (record { t140 = signs.inside; red = pt }) came)
    → near ≡ (nat_lt 0 signs.filled && are_like_text ssrc (record { t140 = pt; red = 0 }) came)
    → (signs.filled ≡ length (filled came) → text ≡ (near && are_mostly_text ssrc (record { t140 = pt; red = 0 }) came))
    → (if red then codes " red of " ++ decimal signs.inside else (if text then codes " text" else [])) ≡ guess_line ssrc pt came
guess_is ssrc pt came signs red near text s d r n m =
    let red_is : red ≡ may_be_red ssrc pt (type_inside came) came =
    r ∙ (ap (λ n. (is_dynamic n && not (n == pt) && signs.redundant) && are_like_text ssrc (record { t140 = n; red = pt }) came) s.inside
    ∙ ap (λ b. (is_dynamic (type_inside came) && not (type_inside came == pt) && b) && are_like_text ssrc (record { t140 = type_inside came; red = pt }) came) s.redundant) in
    let like = are_like_text ssrc (record { t140 = pt; red = 0 }) came in
    let mostly = are_mostly_text ssrc (record { t140 = pt; red = 0 }) came in
    let text_is : text ≡ may_be_plain ssrc pt came =
    m s.filled ∙ (ap (λ b. b && mostly) n ∙ (ap (λ k. (nat_lt 0 k && like) && mostly) s.filled ∙ ap (λ b. (b && like) && mostly) (any_filled has_payload came))) in
    ap (λ b. if b then codes " red of " ++ decimal signs.inside else (if text then codes " text" else [])) red_is
    ∙ (ap (λ b. if may_be_red ssrc pt (type_inside came) came then codes " red of " ++ decimal signs.inside else (if b then codes " text" else [])) text_is
    ∙ (ap (λ n. if may_be_red ssrc pt (type_inside came) came then codes " red of " ++ decimal n else (if may_be_plain ssrc pt came then codes " text" else [])) s.inside
    ∙ ap (λ b. if b then guess ssrc pt came else []) (sym d)))

-- ---- groups
-- a group's records, of a recording that is not too long
pub records_of : (of : Sort → Option ℕ) (items : List Item) (group : Group) → length items < 2 ^ 32 → (h : GroupHolds of items group) → AreRecords group.records h.records
records_of of items group few h = record {
  is = h.is;
  each = h.each;
  few = omega (arith, few, length_filter_le (λ item. is_name group.name (of (sort_of item))) items, ap (λ (xs : List Item). length xs) h.are, length-map h.records sent_item);
}

pub drop_at : {X : Type 0} (xs : List X) (i : ℕ) (d : X) → i < length xs → drop i xs ≡ get_or xs i d ∷ drop (i + 1) xs
drop_at [] i d l = absurd (omega (arith, l))
drop_at (x ∷ xs) zero d l = refl
drop_at (x ∷ xs) (suc i) d l = drop_at xs i d (omega (arith, l)) ∙ ap (λ (n : ℕ). get_or xs i d ∷ drop n (x ∷ xs)) one
  where
    one : suc (i + 1) ≡ suc i + 1
    one = omega arith

-- the views of these groups
abbrev pub group_views : Shape → (Sort → Option ℕ) → List Item → List Group → List ℕ
group_views shape of items groups = flat_map (λ name. shape_view shape name (naming of name items)) (map (λ group. group.name) groups)

-- one group more
pub groups_more : (shape : Shape) (of : Sort → Option ℕ) (items : List Item) (groups : List Group) (index : ℕ) (group : Group) (out new total : List ℕ) → index < length groups → group ≡ get_or groups index group → length items < 2 ^ 32 → All (GroupHolds of items) groups
    → OfRecords group.records (λ came. new ≡ out ++ shape_view shape group.name came) → out ++ group_views shape of items (drop index groups) ≡ total → new ++ group_views shape of items (drop (index + 1) groups) ≡ total
groups_more shape of items groups index group out new total low is few each shown so_far =
    let h : GroupHolds of items group = subst (GroupHolds of items) (sym is) (each index group low) in
    let now : new ≡ out ++ shape_view shape group.name (naming of group.name items) = shown h.records (records_of of items group few h) ∙ ap (λ xs. out ++ shape_view shape group.name xs) h.are in
    let rest = group_views shape of items (drop (index + 1) groups) in
    let next : drop index groups ≡ group ∷ drop (index + 1) groups = drop_at groups index group low ∙ ap (λ (g : Group). g ∷ drop (index + 1) groups) (sym is) in
    ap (λ xs. xs ++ rest) now
    ∙ (append_assoc out (shape_view shape group.name (naming of group.name items)) rest
    ∙ (ap (λ (gs : List Group). out ++ group_views shape of items gs) (sym next) ∙ so_far))

-- no group is left
pub groups_end : (shape : Shape) (of : Sort → Option ℕ) (items : List Item) (groups : List Group) (index : ℕ) (out total : List ℕ) → length groups ≤ index → out ++ group_views shape of items (drop index groups) ≡ total → out ≡ total
groups_end shape of items groups index out total over e = sym (ap (λ (gs : List Group). out ++ group_views shape of items gs) (drop_of_length-le groups over) ∙ append-nil out) ∙ e

-- ---- all
-- the groups have records and names that fit
pub ready : (shape : Shape) (of : Sort → Option ℕ) (g : Groups) (items : List Item) → length items < 2 ^ 32 → Grouped of (shape_limit shape) g items → All (IsGroupOf shape) g.groups.items
ready shape of g items few w k d low =
    let h = w.each k d low in
    ((h.records, records_of of items (get_or g.groups.items k d) few h), subst (λ n. n < shape_limit shape) (get_or-map (λ (group : Group). group.name) g.groups.items k d d.name low) (w.below k d.name (omega (arith, low, length-map g.groups.items (λ (group : Group). group.name)))))

others_are : (f : Findings) (items : List Item) → IsFound f items → others_text f ≡ other_lines f.payload_types items
unfolding other_lines
others_are f items w =
    let lines : ℕ → ℕ → ℕ → ℕ → ℕ → List ℕ = λ rtcp cut large no_rtp more.
    number_line (codes "-- rtcp ") rtcp ++ number_line (codes "-- cut ") cut ++ number_line (codes "-- large ") large ++ number_line (codes "-- no RTP ") no_rtp ++ number_line (codes "-- more ") more in
    ap (λ n. lines n f.cut f.large f.no_rtp (f.streams.others + f.pairs.others)) w.rtcp
    ∙ (ap (λ n. lines (how_many streams.Rtcp items) n f.large f.no_rtp (f.streams.others + f.pairs.others)) w.cut
    ∙ (ap (λ n. lines (how_many streams.Rtcp items) (how_many streams.Cut items) n f.no_rtp (f.streams.others + f.pairs.others)) w.large
    ∙ (ap (λ n. lines (how_many streams.Rtcp items) (how_many streams.Cut items) (how_many streams.Large items) n (f.streams.others + f.pairs.others)) w.no_rtp
    ∙ (ap (λ (x : Firsts). lines (how_many streams.Rtcp items) (how_many streams.Cut items) (how_many streams.Large items) (how_many streams.NoRtp items) (x.others + f.pairs.others)) w.streams.firsts
    ∙ ap (λ (x : Firsts). lines (how_many streams.Rtcp items) (how_many streams.Cut items) (how_many streams.Large items) (how_many streams.NoRtp items) ((streams.streams f.payload_types items).others + x.others)) w.pairs.firsts))))

pub all_shown : (f : Findings) (items : List Item) (end one two three four five : List ℕ) → IsFound f items → length items < 2 ^ 32 → one ≡ [] → AreShown (Stream f.payload_types) f.streams.groups.items one two → AreShown Pair f.pairs.groups.items two three → four ≡ three ++ others_text f → five ≡ four ++ end
    → five ≡ items_view f.payload_types items ++ end
unfolding items_view
all_shown f items end one two three four five w short a b c d e =
    let s = group_views (Stream f.payload_types) (stream_of f.payload_types) items f.streams.groups.items in
    let p = group_views Pair (pair_of f.payload_types) items f.pairs.groups.items in
    let s_is : s ≡ flat_map (λ ssrc. stream_view f.payload_types ssrc (streams.stream f.payload_types ssrc items)) (streams.streams f.payload_types items).kept = ap (λ (x : Firsts). flat_map (λ ssrc. stream_view f.payload_types ssrc (streams.stream f.payload_types ssrc items)) x.kept) w.streams.firsts in
    let p_is : p ≡ flat_map (λ pair. pair_view pair (streams.packets_of f.payload_types pair items)) (streams.pairs f.payload_types items).kept = ap (λ (x : Firsts). flat_map (λ pair. pair_view pair (streams.packets_of f.payload_types pair items)) x.kept) w.pairs.firsts in
    let two_is : two ≡ s = b (stream_of f.payload_types) items short w.streams.each ∙ ap (λ xs. xs ++ s) a in
    let three_is : three ≡ s ++ p = c (pair_of f.payload_types) items short w.pairs.each ∙ ap (λ xs. xs ++ p) two_is in
    let four_is : four ≡ (s ++ p) ++ other_lines f.payload_types items = d ∙ (ap (λ xs. xs ++ others_text f) three_is ∙ ap (λ xs. (s ++ p) ++ xs) (others_are f items w)) in
    e ∙ ap (λ xs. xs ++ end) (four_is ∙ (ap (λ xs. (xs ++ p) ++ other_lines f.payload_types items) s_is ∙ ap (λ xs. (flat_map (λ ssrc. stream_view f.payload_types ssrc (streams.stream f.payload_types ssrc items)) (streams.streams f.payload_types items).kept ++ xs) ++ other_lines f.payload_types items) p_is))

-- ---- parts of a view that are appended one after another
four_parts : (old a b c d : List ℕ) → (((old ++ a) ++ b) ++ c) ++ d ≡ old ++ (((a ++ b) ++ c) ++ d)
four_parts old a b c d = ap (λ x. (x ++ c) ++ d) (append_assoc old a b) ∙ (ap (λ x. x ++ d) (append_assoc old (a ++ b) c) ∙ append_assoc old ((a ++ b) ++ c) d)

pub heard_is : (s : Survey) (t : Terminal) (old one two three four sources : List ℕ) (texts : List SourceText) (counts : Counts) → sources ≡ s.sources.kept.items → texts ≡ texts_of t → counts ≡ counts_of t
    → one ≡ old ++ flat_map source_view (named (map decimal sources) texts) → two ≡ one ++ counts_line counts → three ≡ two ++ flat_map (λ fault. refusal_line fault (slice_index s.refused (place_of fault))) refusals → four ≡ three ++ number_line (codes "-- other sources ") s.sources.others
    → four ≡ old ++ heard_text s t
heard_is s t old one two three four sources texts counts e f g a b c d =
    let kept = s.sources.kept.items in
    let lines = flat_map (λ fault. refusal_line fault (slice_index s.refused (place_of fault))) refusals in
    let last = number_line (codes "-- other sources ") s.sources.others in
    let one_is : one ≡ old ++ flat_map source_view (named (map decimal kept) (texts_of t)) = a ∙ (ap (λ xs. old ++ flat_map source_view (named (map decimal xs) texts)) e ∙ ap (λ (xs : List SourceText). old ++ flat_map source_view (named (map decimal kept) xs)) f) in
    let two_is = b ∙ (ap (λ xs. xs ++ counts_line counts) one_is ∙ ap (λ (n : Counts). (old ++ flat_map source_view (named (map decimal kept) (texts_of t))) ++ counts_line n) g) in
    d ∙ (ap (λ xs. xs ++ last) (c ∙ ap (λ xs. xs ++ lines) two_is) ∙ four_parts old (flat_map source_view (named (map decimal kept) (texts_of t))) (counts_line (counts_of t)) lines last)

pub pair_shown : (name ssrc pt : ℕ) (came : List Item) → ssrc ≡ name / 128 → pt ≡ name % 128 → pair_line ssrc pt came ≡ pair_view name came
unfolding pair_view
pair_shown name ssrc pt came e f = ap (λ n. pair_line n pt came) e ∙ ap (λ n. pair_line (name / 128) n came) f
