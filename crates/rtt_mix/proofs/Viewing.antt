-- The view of each terminal is what is seen there.
use Rattle.std.proofs.Common.{◌≡◌, ℕ, zero, suc, ◌+◌, ◌*◌, ◌^◌, ◌<◌, ◌≤◌, Bool, true, false, cond, List, [], ◌∷◌, ◌++◌, length, map, get_or, None, refl, ap, sym, ◌∙◌, subst, append_assoc, arith}
use Rattle.std.specs.Prelude.{remove, flat_map}
use Rattle.std.specs.Global.{Vec}
use Rattle.std.specs.List.{concat, enumerate_from, sum_by}
use Rattle.std.proofs.lemmas.List.Sums.{sum_by-cons, sum_by-le, sum_by_push}
use Rattle.receiver.specs.declared.source_texts.SourceText.{SourceText}
use Rattle.view_spec.specs.declared.counts.Counts.{Counts}
use Rattle.std.proofs.lemmas.List.{take_all, append-nil}
use Rattle.std.proofs.lemmas.List.FromFn.{length-enumerate_from}
use Rattle.std.proofs.lemmas.Grind.{flat_map-append}
use Rattle.std.proofs.lemmas.List.Folds.{concat-append}
use Rattle.wire_spec.specs.Dump.{Item}
use Rattle.file_spec.specs.declared.conference_lines.LegLine.{LegLine}
use Rattle.file_spec.specs.Conference.{Conference}
use Rattle.mixer_spec.specs.Table.{Table}
use Rattle.view_spec.specs.Seen.{Speaker, aware_seen, unaware_seen}
use Rattle.command_spec.specs.Mixing.{records_to, reception_of, speaker_of, view_of, views}
use Rattle.mixer_spec.specs.Arrives.{came}
use Rattle.command_spec.specs.Sums.{counts_to, markers_to, sources_of, sums}
use Rattle.view_spec.specs.Markers.{markers_at}
use Rattle.view_spec.proofs.Counted.{markers_came, used_came}
use Rattle.terminal.specs.declared.settings.TerminalSettings.{TerminalSettings}
use Rattle.terminal.specs.declared.terminals.Terminal.{Terminal}
use Rattle.terminal.specs.declared.views.View.{View}
use Rattle.terminal.specs.Terminals.{counts_of, reception, texts_of, IsTextOf, Heard}
use Rattle.mixer_posts.proofs.LegLines.{legs_more}
use Rattle.rtt_mix.specs.declared.views.TerminalViews.{TerminalViews}
use Rattle.rtt_mix.specs.Shown.{AddsView}
use Rattle.rtt_mix.specs.Viewed.{AddsTerminalView, AddsCounts, AddsSeen, HasFew, IsSeenAs, IsSeenBetween, counts_from, first_legs, joined, markers_of, markers_from, markers_below, packets_below, summed, terminal_settings, used_below, view_from, views_below}

-- which element is meant makes no difference within
pub same_default : {X : Type 0} (xs : List X) (i : ℕ) (d e : X) → i < length xs → get_or xs i d ≡ get_or xs i e
same_default [] i d e l = absurd (omega arith)
same_default (x ∷ xs) zero d e l = refl
same_default (x ∷ xs) (suc i) d e l = same_default xs i d e (omega arith)

-- a leg of lines that are those of the conference, whatever stands where there is none
pub leg_read : (lines legs : List LegLine) (own : ℕ) (leg d : LegLine) → lines ≡ legs → own < length legs → get_or lines own leg ≡ get_or legs own d
leg_read lines legs own leg d is low = ap (λ (ls : List LegLine). get_or ls own leg) is ∙ same_default legs own leg d low

abbrev pub no_leg : LegLine
no_leg = record { line = 0; name = []; aware = false; ssrc = 0; input = []; output = []; payload_types = record { t140 = 0; red = 0 }; generations = 0; stay = record { from = 0; until = None }; follow = false; long = false }

-- speakers have the names and the SSRCs of their legs
names_are : (legs : List LegLine) → map (λ (s : Speaker). s.name) (map speaker_of legs) ≡ map (λ leg. leg.name) legs
names_are [] = refl
names_are (l ∷ ls) = ap (λ (xs : List (List ℕ)). l.name ∷ xs) (names_are ls)

ssrcs_are : (legs : List LegLine) → map (λ (s : Speaker). s.ssrc) (map speaker_of legs) ≡ map (λ leg. leg.ssrc) legs
ssrcs_are [] = refl
ssrcs_are (l ∷ ls) = ap (λ (xs : List ℕ). l.ssrc ∷ xs) (ssrcs_are ls)

-- pieces, and one behind them
pub piece_more : (old new : List (List ℕ)) (piece : List ℕ) → new ≡ old ++ piece ∷ [] → concat new ≡ concat old ++ piece
piece_more old new piece e = ap concat e ∙ (concat-append old (piece ∷ []) ∙ ap (λ (xs : List ℕ). concat old ++ xs) (append-nil piece))

-- ---- one terminal
pub aware_view : (c : Conference) (own : ℕ) (leg : LegLine) (records : List (ℕ × List ℕ)) (t : Terminal) (settings : TerminalSettings) (sources : List ℕ) (names : List (List ℕ)) (old new : List ℕ)
    → leg.aware ≡ true → settings ≡ terminal_settings c leg → sources ≡ map (λ l. l.ssrc) (remove c.legs own) → names ≡ map (λ l. l.name) (remove c.legs own) → Heard t settings sources (came c.plan own records)
    → ((q : TerminalSettings) (speakers : List Speaker) (items : List Item) → names ≡ map (λ s. s.name) speakers → Heard t q (map (λ s. s.ssrc) speakers) items → new ≡ old ++ aware_seen (reception q) leg.name speakers items)
    → new ≡ old ++ view_from c own leg records
aware_view c own leg records t settings sources names old new e f s n h g =
    let speakers = map speaker_of (remove c.legs own) in
    let items = came c.plan own records in
    let heard = subst (λ (xs : List ℕ). Heard t (terminal_settings c leg) xs items) (s ∙ sym (ssrcs_are (remove c.legs own))) (subst (λ (q : TerminalSettings). Heard t q sources items) f h) in
    g (terminal_settings c leg) speakers items (n ∙ sym (names_are (remove c.legs own))) heard
    ∙ ap (λ (b : Bool). old ++ cond b (aware_seen (reception (terminal_settings c leg)) leg.name speakers items) (unaware_seen (reception (terminal_settings c leg)) leg.name c.mixer.ssrc items)) (sym e)

pub unaware_view : (c : Conference) (own : ℕ) (leg : LegLine) (records : List (ℕ × List ℕ)) (t : Terminal) (settings : TerminalSettings) (old new : List ℕ)
    → leg.aware ≡ false → settings ≡ terminal_settings c leg → Heard t settings (c.mixer.ssrc ∷ []) (came c.plan own records)
    → ((q : TerminalSettings) (source : ℕ) (items : List Item) → Heard t q (source ∷ []) items → new ≡ old ++ unaware_seen (reception q) leg.name source items)
    → new ≡ old ++ view_from c own leg records
unaware_view c own leg records t settings old new e f h g =
    let items = came c.plan own records in
    g (terminal_settings c leg) c.mixer.ssrc items (subst (λ (q : TerminalSettings). Heard t q (c.mixer.ssrc ∷ []) items) f h)
    ∙ ap (λ (b : Bool). old ++ cond b (aware_seen (reception (terminal_settings c leg)) leg.name (map speaker_of (remove c.legs own)) items) (unaware_seen (reception (terminal_settings c leg)) leg.name c.mixer.ssrc items)) (sym e)

-- ---- the numbers of one terminal
module _ (t : Terminal) (q : TerminalSettings) (sources : List ℕ) (items : List Item) (heard : Heard t q sources items) where
  pub has_few : length sources ≤ 64 → (counts_of t).packets < 2 ^ 40 → HasFew t
  has_few l few =
      let counts = heard.counts in
      let used : (counts_of t).used ≤ (counts_of t).packets = subst (λ (n : Counts). n.used ≤ n.packets) (sym counts) (used_came (reception q) items) in
      let each : (k : ℕ) (d : SourceText) → k < length (texts_of t) → (get_or (texts_of t) k d).markers ≤ 1099511627775 = λ k d below.
      (let text = heard.texts k d (omega (arith, below, heard.each)) in
      omega (arith, few, text.markers, markers_came (reception q) items (get_or sources k 0), ap (λ (n : Counts). n.packets) counts)) in
      let all : markers_of t ≤ length (texts_of t) * 1099511627775 = sum_by-le (λ (text : SourceText). text.markers) 1099511627775 (texts_of t) each in
      record { packets = few; used = omega (arith, used, few); markers = omega (arith, all, heard.each, l) }

  pub markers_heard : markers_of t ≡ sum_by (markers_at (reception q) items) sources
  markers_heard = go sources (texts_of t) heard.each heard.texts
    where
      go : (ss : List ℕ) (ts : List SourceText) → length ts ≡ length ss → ((k : ℕ) (d : SourceText) → k < length ss → IsTextOf (reception q) items (get_or ss k 0) (get_or ts k d))
          → sum_by (λ text. text.markers) ts ≡ sum_by (markers_at (reception q) items) ss
      go [] [] n f = refl
      go [] (t ∷ ts) n f = absurd (omega (arith, n))
      go (s ∷ ss) [] n f = absurd (omega (arith, n))
      go (s ∷ ss) (t ∷ ts) n f =
          let here = (f 0 t (omega arith)).markers in
          let rest = go ss ts (omega (arith, n)) (λ k d l. f (suc k) d (omega (arith, l))) in
          omega (arith, here, rest, sum_by-cons (λ (text : SourceText). text.markers) t ts, sum_by-cons (markers_at (reception q) items) s ss)

-- what a view shows of a terminal is added, and then its numbers
pub seen_as : (c : Conference) (own : ℕ) (leg : LegLine) (records : List (ℕ × List ℕ)) (t : Terminal) (q : TerminalSettings) (sources : List ℕ) (view : View) (old shown new : TerminalViews)
    → q ≡ terminal_settings c leg → Heard t q sources (came c.plan own records) → AddsView t view old.views.items shown.views.items
    → shown.packets ≡ old.packets → shown.used ≡ old.used → shown.markers ≡ old.markers → AddsCounts t shown new → IsSeenAs c own leg sources view records old new
seen_as c own leg records t q sources view old shown new e h s packets used markers a = record {
  terminal = t;
  heard = subst (λ (r : TerminalSettings). Heard t r sources (came c.plan own records)) e h;
  shown = s.shown;
  is_shown = s.is_shown;
  views = ap (λ (v : Vec (List ℕ)). concat v.items) a.views ∙ s.added;
  packets = omega (arith, a.packets, packets);
  used = omega (arith, a.used, used);
  markers = omega (arith, a.markers, markers);
}

-- the same of a leg with this line
pub at_leg : {c : Conference} {own : ℕ} {l m : LegLine} {sources : List ℕ} {view : View} {records : List (ℕ × List ℕ)} {old new : TerminalViews} → l ≡ m → IsSeenAs c own m sources view records old new → IsSeenAs c own l sources view records old new
at_leg {c} {own} {l} {m} {sources} {view} {records} {old} {new} e s = subst (λ (x : LegLine). IsSeenAs c own x sources view records old new) (sym e) s

-- all that a terminal adds, where its view is that of the leg
pub adds : (c : Conference) (own : ℕ) (leg : LegLine) (records : List (ℕ × List ℕ)) (sources : List ℕ) (view : View) (old new : TerminalViews)
    → sources ≡ sources_of c own leg → (s : IsSeenAs c own leg sources view records old new) → s.shown ≡ view_from c own leg records → AddsTerminalView c own leg records old new
adds c own leg records sources view old new listed s is =
    let items = came c.plan own records in
    let counts : counts_of s.terminal ≡ counts_from c own leg records = s.heard.counts in
    let marker_count : markers_of s.terminal ≡ markers_from c own leg records =
    markers_heard s.terminal (terminal_settings c leg) sources items s.heard ∙ ap (λ (xs : List ℕ). sum_by (markers_at (reception_of c leg) items) xs) listed in
    record {
      views = s.views ∙ ap (λ (xs : List ℕ). joined old ++ xs) is;
      packets = omega (arith, s.packets, ap (λ (n : Counts). n.packets) counts);
      used = omega (arith, s.used, ap (λ (n : Counts). n.used) counts);
      markers = omega (arith, s.markers, marker_count);
    }

-- ---- all of them
-- a number of one more
sum_more : (c : Conference) (f : ℕ × LegLine → ℕ) (k : ℕ) (d : LegLine) → k < length c.legs → sum_by f (first_legs c (k + 1)) ≡ sum_by f (first_legs c k) + f (k, get_or c.legs k d)
sum_more c f k d l = ap (sum_by f) (legs_more c k d l) ∙ sum_by_push f (first_legs c k) (k, get_or c.legs k d)

-- at no terminal
pub seen_none : (c : Conference) (table : Table) (k : ℕ) (seen : TerminalViews) → seen.views.items ≡ [] → seen.packets ≡ 0 → seen.used ≡ 0 → seen.markers ≡ 0 → IsSeenBetween c table k k seen
seen_none c table k seen views packets used markers = record {
  views = ap (λ (xs : List (List ℕ)). views_below c table k ++ concat xs) views ∙ append-nil (views_below c table k);
  packets = omega (arith, packets);
  used = omega (arith, used);
  markers = omega (arith, markers);
}

-- at one terminal more
pub seen_more : (c : Conference) (table : Table) (from k : ℕ) (d : LegLine) (old new : TerminalViews) → k < length c.legs → IsSeenBetween c table from k old
    → AddsTerminalView c k (get_or c.legs k d) (records_to c table k (get_or c.legs k d)) old new → IsSeenBetween c table from (k + 1) new
seen_more c table from k d old new l s a =
    let leg = get_or c.legs k d in
    let view : ℕ × LegLine → List ℕ = λ x. view_of c table x.0 x.1 in
    let front : List ℕ = views_below c table from in
    record {
      views = ap (λ (xs : List ℕ). front ++ xs) a.views ∙ (sym (append_assoc front (joined old) (view_of c table k leg)) ∙ (ap (λ (xs : List ℕ). xs ++ view_of c table k leg) s.views
          ∙ sym (ap (flat_map view) (legs_more c k d l)
          ∙ (flat_map-append view (first_legs c k) ((k, leg) ∷ []) ∙ ap (λ (xs : List ℕ). flat_map view (first_legs c k) ++ xs) (append-nil (view (k, leg)))))));
      packets = omega (arith, a.packets, s.packets, sum_more c (λ x. (counts_to c table x.0 x.1).packets) k d l);
      used = omega (arith, a.used, s.used, sum_more c (λ x. (counts_to c table x.0 x.1).used) k d l);
      markers = omega (arith, a.markers, s.markers, sum_more c (λ x. markers_to c table x.0 x.1) k d l);
    }

-- at the terminals of one part more
pub seen_both : (c : Conference) (table : Table) (from middle to : ℕ) (old part new : TerminalViews) → IsSeenBetween c table from middle old → IsSeenBetween c table middle to part → AddsSeen part old new → IsSeenBetween c table from to new
seen_both c table from middle to old part new s p a =
    let front : List ℕ = views_below c table from in
    record {
      views = ap (λ (xs : List ℕ). front ++ xs) a.views ∙ (sym (append_assoc front (joined old) (joined part)) ∙ (ap (λ (xs : List ℕ). xs ++ joined part) s.views ∙ p.views));
      packets = omega (arith, a.packets, s.packets, p.packets);
      used = omega (arith, a.used, s.used, p.used);
      markers = omega (arith, a.markers, s.markers, p.markers);
    }

all_legs : (c : Conference) (k : ℕ) → length c.legs ≤ k → first_legs c k ≡ enumerate_from 0 c.legs
all_legs c k l = take_all k (enumerate_from 0 c.legs) (omega (arith, length-enumerate_from 0 c.legs, l))

pub views_all : (c : Conference) (table : Table) (k : ℕ) (seen : TerminalViews) → length c.legs ≤ k → IsSeenBetween c table 0 k seen → joined seen ≡ views c table
views_all c table k seen l s = s.views ∙ ap (flat_map (λ x. view_of c table x.0 x.1)) (all_legs c k l)

without : (a b d : ℕ) → a ≡ 0 → a + b ≡ d → b ≡ d
without a b d e f = omega arith

pub sums_all : (c : Conference) (table : Table) (k : ℕ) (seen : TerminalViews) → length c.legs ≤ k → IsSeenBetween c table 0 k seen → summed seen ≡ sums c table
sums_all c table k seen l s =
    let whole : (f : ℕ × LegLine → ℕ) → sum_by f (first_legs c k) ≡ sum_by f (enumerate_from 0 c.legs) = λ f. ap (sum_by f) (all_legs c k l) in
    let no_packets : packets_below c table 0 ≡ 0 = refl in
    let none_used : used_below c table 0 ≡ 0 = refl in
    let no_markers : markers_below c table 0 ≡ 0 = refl in
    let packets : seen.packets ≡ sum_by (λ x. (counts_to c table x.0 x.1).packets) (enumerate_from 0 c.legs) = without (packets_below c table 0) seen.packets (packets_below c table k) no_packets s.packets ∙ whole (λ x. (counts_to c table x.0 x.1).packets) in
    let used : seen.used ≡ sum_by (λ x. (counts_to c table x.0 x.1).used) (enumerate_from 0 c.legs) = without (used_below c table 0) seen.used (used_below c table k) none_used s.used ∙ whole (λ x. (counts_to c table x.0 x.1).used) in
    let markers : seen.markers ≡ sum_by (λ x. markers_to c table x.0 x.1) (enumerate_from 0 c.legs) = without (markers_below c table 0) seen.markers (markers_below c table k) no_markers s.markers ∙ whole (λ x. markers_to c table x.0 x.1) in
    cc (packets, used, markers)
