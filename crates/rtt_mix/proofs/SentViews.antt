-- The view of an aware terminal that hears all as it was sent.
use Rattle.std.proofs.Common.{◌≡◌, ℕ, zero, suc, ◌+◌, ◌<◌, ◌≤◌, List, [], ◌∷◌, ◌++◌, length, map, drop, get_or, cond, Bool, true, refl, ap, sym, ◌∙◌, append_assoc, append-nil, arith}
use Rattle.std.specs.Prelude.{Option, Some, None, Result, Ok, Err, IfOk, IfSome, flat_map, remove}
use Rattle.std.specs.List.{concat, sum_by}
use Rattle.std.proofs.lemmas.List.{drop_all}
use Rattle.std.proofs.lemmas.List.Sums.{sum_by-cons}
use Rattle.wire_spec.specs.Dump.{Item}
use Rattle.stream_spec.specs.Own.{Sent}
use Rattle.view_spec.specs.Shown.{shown}
use Rattle.view_spec.specs.Views.{Source, aware_view, source_view}
use Rattle.view_spec.specs.Seen.{Reception, aware_seen, source_at, unaware_seen}
use Rattle.view_spec.specs.Markers.{markers_at}
use Rattle.view_spec.specs.declared.counts.Counts.{Counts}
use Rattle.file_spec.specs.declared.conference_lines.LegLine.{LegLine}
use Rattle.file_spec.specs.Conference.{Conference}
use Rattle.mixer_spec.specs.Arrives.{came}
use Rattle.command_spec.specs.Mixing.{reception_of, speaker_of}
use Rattle.command_spec.specs.Sums.{sources_of}
use Rattle.sent_log.specs.States.{said}
use Rattle.terminal.specs.Terminals.{all_used}
use Rattle.playback.specs.Whole.{IsHeardAsSent}
use Rattle.rtt_mix.specs.declared.views.TerminalViews.{TerminalViews}
use Rattle.rtt_mix.specs.Shown.{lines_of}
use Rattle.rtt_mix.specs.SentViews.{IsSeenAsSent, said_of}
use Rattle.rtt_mix.specs.Viewed.{AddsTerminalView, AddsUsed, counts_from, joined, markers_from, view_from}

-- what an answer tells of what it has gives more
pub if_ok_some : {X E : Type 0} {P Q : X → Type 0} (r : Result (Option X) E) → IfOk r (λ o. IfSome o P) → ((x : X) → P x → Q x) → IfOk r (λ o. IfSome o Q)
if_ok_some (Ok (Some x)) p f = f x p
if_ok_some (Ok None) p f = tt
if_ok_some (Err e) p f = tt

-- what the sources from the one with this number on show: what it shows, and what those behind it show
abbrev pub from_on : List (List ℕ) → List ℕ → List Sent → ℕ → List ℕ
from_on names sources past k = flat_map source_view (said_of (drop k names) (drop k sources) past)

said_at : (names : List (List ℕ)) (sources : List ℕ) (past : List Sent) (k : ℕ) (d : List ℕ) (e : ℕ) → length names ≡ length sources → k < length sources
    → from_on names sources past k ≡ lines_of (get_or names k d) (said (get_or sources k e) past) ++ from_on names sources past (suc k)
said_at [] [] past k d e n l = absurd (omega arith)
said_at [] (s ∷ ss) past k d e n l = absurd (omega (arith, n))
said_at (name ∷ names) [] past k d e n l = absurd (omega arith)
said_at (name ∷ names) (s ∷ ss) past zero d e n l = refl
said_at (name ∷ names) (s ∷ ss) past (suc k) d e n l = said_at names ss past k d e (omega (arith, n)) (omega arith)

-- one more
pub said_step : (names : List (List ℕ)) (sources : List ℕ) (past : List Sent) (k : ℕ) (d : List ℕ) (e : ℕ) (name : List ℕ) (source : ℕ) (text all old new : List ℕ) → length names ≡ length sources → k < length sources
    → name ≡ get_or names k d → source ≡ get_or sources k e → text ≡ said source past → new ≡ old ++ lines_of name text → old ++ from_on names sources past k ≡ all
    → new ++ from_on names sources past (k + 1) ≡ all
said_step names sources past k d e name source text all old new n l a b t grown before =
    let after : suc k ≡ k + 1 = omega arith in
    let here : lines_of name text ≡ lines_of (get_or names k d) (said (get_or sources k e) past) =
    ap (λ (x : List ℕ). lines_of name x) (t ∙ ap (λ (s : ℕ). said s past) b) ∙ ap (λ (x : List ℕ). lines_of x (said (get_or sources k e) past)) a in
    let rest : lines_of name text ++ from_on names sources past (k + 1) ≡ from_on names sources past k =
    ap (λ (xs : List ℕ). xs ++ from_on names sources past (k + 1)) here
    ∙ (ap (λ (m : ℕ). lines_of (get_or names k d) (said (get_or sources k e) past) ++ from_on names sources past m) (sym after)
    ∙ sym (said_at names sources past k d e n l)) in
    ap (λ (xs : List ℕ). xs ++ from_on names sources past (k + 1)) grown
    ∙ (append_assoc old (lines_of name text) (from_on names sources past (k + 1))
    ∙ (ap (λ (xs : List ℕ). old ++ xs) rest ∙ before))

-- behind the last
pub said_end : (names : List (List ℕ)) (sources : List ℕ) (past : List Sent) (k : ℕ) (all new : List ℕ) → length names ≡ length sources → length sources ≤ k → new ++ from_on names sources past k ≡ all → new ≡ all
said_end names sources past k all new n l before =
    let none : from_on names sources past k ≡ [] = ap (λ (xs : List (List ℕ)). flat_map source_view (said_of xs (drop k sources) past)) (drop_all k names (omega (arith, n, l))) in
    sym (append-nil new) ∙ (ap (λ (xs : List ℕ). new ++ xs) (sym none) ∙ before)

-- ---- what the view is by definition
module _ (r : Reception) (past : List Sent) (items : List Item) (h : IsHeardAsSent r past items) where
  sources_are : (legs : List LegLine) → said_of (map (λ l. l.name) legs) (map (λ l. l.ssrc) legs) past ≡ map (source_at r items) (map speaker_of legs)
  sources_are [] = refl
  sources_are (l ∷ ls) =
      ap (λ (text : List ℕ). let x : Source = record { name = l.name; display = shown text } in x ∷ said_of (map (λ m. m.name) ls) (map (λ m. m.ssrc) ls) past) (sym (h.texts l.ssrc))
      ∙ ap (λ (xs : List Source). source_at r items (speaker_of l) ∷ xs) (sources_are ls)

  no_markers : (sources : List ℕ) → sum_by (markers_at r items) sources ≡ 0
  no_markers [] = refl
  no_markers (s ∷ ss) = sum_by-cons (markers_at r items) s ss ∙ omega (arith, h.markers s, no_markers ss)

-- the view and its numbers were added
pub sent_adds : (c : Conference) (own packets : ℕ) (leg : LegLine) (records : List (ℕ × List ℕ)) (sources : List ℕ) (names : List (List ℕ)) (past : List Sent) (pieces : List (List ℕ)) (old new : TerminalViews)
    → leg.aware ≡ true → sources ≡ map (λ l. l.ssrc) (remove c.legs own) → names ≡ map (λ l. l.name) (remove c.legs own) → packets ≡ length past
    → IsSeenAsSent c own leg sources names past records (concat pieces) → AddsUsed pieces packets old new → AddsTerminalView c own leg records old new
sent_adds c own packets leg records sources names past pieces old new aware ss ns n s a =
    let r = reception_of c leg in
    let items = came c.plan own records in
    let others = remove c.legs own in
    let counts : counts_from c own leg records ≡ all_used packets = s.heard.counts ∙ ap (λ (k : ℕ). all_used k) (sym n) in
    let listed : said_of names sources past ≡ map (source_at r items) (map speaker_of others) =
    ap (λ (xs : List (List ℕ)). said_of xs sources past) ns ∙ (ap (λ (xs : List ℕ). said_of (map (λ (l : LegLine). l.name) others) xs past) ss ∙ sources_are r past items s.heard others) in
    let view : concat pieces ≡ view_from c own leg records =
    s.view_is
    ∙ (ap (λ (xs : List Source). aware_view leg.name xs (all_used (length past))) listed
    ∙ (ap (λ (k : Counts). aware_view leg.name (map (source_at r items) (map speaker_of others)) k) (sym s.heard.counts)
    ∙ ap (λ (b : Bool). cond b (aware_seen r leg.name (map speaker_of others) items) (unaware_seen r leg.name c.mixer.ssrc items)) (sym aware))) in
    record {
      views = a.views ∙ ap (λ (xs : List ℕ). joined old ++ xs) view;
      packets = omega (arith, a.packets, ap (λ (k : Counts). k.packets) counts);
      used = omega (arith, a.used, ap (λ (k : Counts). k.used) counts);
      markers = omega (arith, a.markers, no_markers r past items s.heard (sources_of c own leg));
    }
