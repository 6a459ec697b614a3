-- What the terminals show is what is seen of the packets that they heard.
use Rattle.std.proofs.Common.{◌≡◌, ℕ, zero, suc, ◌+◌, ◌<◌, ◌≤◌, Bool, true, false, cond, Some, None, List, [], ◌∷◌, ◌++◌, length, map, take, get_or, refl, ap, sym, ◌∙◌, subst, arith}
use Rattle.std.specs.Prelude.{remove, flat_map, slice_get}
use Rattle.std.specs.List.{enumerate_from}
use Rattle.std.proofs.lemmas.List.{take_all, append-nil}
use Rattle.std.proofs.lemmas.List.FromFn.{length-enumerate_from}
use Rattle.std.proofs.lemmas.Grind.{flat_map-append}
use Rattle.wire_spec.specs.Dump.{Item}
use Rattle.file_spec.specs.declared.conference_lines.LegLine.{LegLine}
use Rattle.file_spec.specs.Conference.{Conference}
use Rattle.mixer_spec.specs.Setups.{leg_at}
use Rattle.view_spec.specs.Seen.{Speaker, aware_seen, unaware_seen}
use Rattle.command_spec.specs.Mixing.{speaker_of}
use Rattle.mixer_posts.proofs.LegLines.{legs_more}
use Rattle.terminal.specs.declared.settings.TerminalSettings.{TerminalSettings}
use Rattle.terminal.specs.declared.terminals.Terminal.{Terminal}
use Rattle.terminal.specs.Terminals.{Heard, reception}
use Rattle.file_spec.specs.Speakers.{names_of, ssrcs_of}
use Rattle.rtt_live.specs.Speakers.{terminal_settings}
use Rattle.live_spec.specs.Served.{came_at_once, live_view}
use Rattle.rtt_live.specs.Listeners.{AppendsView, AreViewsOf, HasHeard, Listening}

pub read_leg : (legs : List LegLine) (j : ℕ) (d leg : LegLine) → leg_at legs j ≡ Some leg → get_or legs j d ≡ leg
read_leg [] j d leg at = absurd (cc at)
read_leg (x ∷ legs) zero d leg at = cc at
read_leg (x ∷ legs) (suc j) d leg at = read_leg legs j d leg at

-- a line that is read by its number is that of the leg
pub shown_leg : (lines legs : List LegLine) (own : ℕ) (shown leg : LegLine) → shown ≡ get_or lines own shown → lines ≡ legs → leg_at legs own ≡ Some leg → shown ≡ leg
shown_leg lines legs own shown leg is are at = is ∙ (ap (λ (ls : List LegLine). get_or ls own shown) are ∙ read_leg legs own shown leg at)

pub found_leg : (legs : List LegLine) (j : ℕ) (d : LegLine) → j < length legs → leg_at legs j ≡ Some (get_or legs j d)
found_leg [] j d l = absurd (omega arith)
found_leg (x ∷ legs) zero d l = refl
found_leg (x ∷ legs) (suc j) d l = found_leg legs j d (omega arith)

-- speakers have the names and the SSRCs of their legs
names_are : (legs : List LegLine) → map (λ (s : Speaker). s.name) (map speaker_of legs) ≡ names_of legs
names_are [] = refl
names_are (l ∷ ls) = ap (λ (xs : List (List ℕ)). l.name ∷ xs) (names_are ls)

ssrcs_are : (legs : List LegLine) → map (λ (s : Speaker). s.ssrc) (map speaker_of legs) ≡ ssrcs_of legs
ssrcs_are [] = refl
ssrcs_are (l ∷ ls) = ap (λ (xs : List ℕ). l.ssrc ∷ xs) (ssrcs_are ls)

-- ---- one terminal
module _ (c : Conference) (own : ℕ) (leg : LegLine) (given : List (List ℕ)) (t : Terminal) (settings : TerminalSettings) (old new : List ℕ) where
  pub aware_shown : (sources : List ℕ) (names : List (List ℕ)) → leg.aware ≡ true → settings ≡ terminal_settings c leg → sources ≡ ssrcs_of (remove c.legs own) → names ≡ names_of (remove c.legs own)
      → Heard t settings sources (came_at_once given)
      → ((q : TerminalSettings) (speakers : List Speaker) (items : List Item) → names ≡ map (λ s. s.name) speakers → Heard t q (map (λ s. s.ssrc) speakers) items → new ≡ old ++ aware_seen (reception q) leg.name speakers items)
      → new ≡ old ++ live_view c own leg given
  aware_shown sources names e f s n h g =
      let speakers = map speaker_of (remove c.legs own) in
      let items = came_at_once given in
      let heard = subst (λ (xs : List ℕ). Heard t (terminal_settings c leg) xs items) (s ∙ sym (ssrcs_are (remove c.legs own))) (subst (λ (q : TerminalSettings). Heard t q sources items) f h) in
      g (terminal_settings c leg) speakers items (n ∙ sym (names_are (remove c.legs own))) heard
      ∙ ap (λ (b : Bool). old ++ cond b (aware_seen (reception (terminal_settings c leg)) leg.name speakers items) (unaware_seen (reception (terminal_settings c leg)) leg.name c.mixer.ssrc items)) (sym e)

  pub unaware_shown : leg.aware ≡ false → settings ≡ terminal_settings c leg → Heard t settings (c.mixer.ssrc ∷ []) (came_at_once given)
      → ((q : TerminalSettings) (source : ℕ) (items : List Item) → Heard t q (source ∷ []) items → new ≡ old ++ unaware_seen (reception q) leg.name source items)
      → new ≡ old ++ live_view c own leg given
  unaware_shown e f h g =
      let items = came_at_once given in
      g (terminal_settings c leg) c.mixer.ssrc items (subst (λ (q : TerminalSettings). Heard t q (c.mixer.ssrc ∷ []) items) f h)
      ∙ ap (λ (b : Bool). old ++ cond b (aware_seen (reception (terminal_settings c leg)) leg.name (map speaker_of (remove c.legs own)) items) (unaware_seen (reception (terminal_settings c leg)) leg.name c.mixer.ssrc items)) (sym e)

-- what is appended to nothing and then behind others is appended to them
pub adds_view : (c : Conference) (j : ℕ) (l : Listening) (none view old new octets : List ℕ) → none ≡ [] → AppendsView c j l none view → octets ≡ view → new ≡ old ++ octets → AppendsView c j l old new
adds_view c j l none view old new octets empty appends same is = λ leg given at heard.
    is ∙ ap (λ (xs : List ℕ). old ++ xs) (same ∙ (appends leg given at heard ∙ ap (λ (xs : List ℕ). xs ++ live_view c j leg given) empty))

-- ---- all terminals
-- what the first k terminals show, where these were given to each
abbrev pub views_below : Conference → (ℕ → List (List ℕ)) → ℕ → List ℕ
views_below c given k = flat_map (λ x. live_view c x.0 x.1 (given x.0)) (take k (enumerate_from 0 c.legs))

-- this is what the first k of these terminals show of whatever each was given
abbrev pub AreFirst : Conference → List Listening → ℕ → List ℕ → Type 0
AreFirst c listeners k views = (given : ℕ → List (List ℕ)) → ((j : ℕ) (l : Listening) → slice_get listeners j ≡ Some l → HasHeard l (given j)) → views ≡ views_below c given k

pub first_more : (c : Conference) (listeners : List Listening) (k : ℕ) (d : LegLine) (l : Listening) (old new : List ℕ) → k < length c.legs → slice_get listeners k ≡ Some l
    → AreFirst c listeners k old → AppendsView c k l old new → AreFirst c listeners (k + 1) new
first_more c listeners k d l old new low at first appends = λ given heard.
    let leg = get_or c.legs k d in
    let view : ℕ × LegLine → List ℕ = λ x. live_view c x.0 x.1 (given x.0) in
    let below = take k (enumerate_from 0 c.legs) in
    appends leg (given k) (found_leg c.legs k d low) (heard k l at)
    ∙ (ap (λ (xs : List ℕ). xs ++ live_view c k leg (given k)) (first given heard)
    ∙ sym (ap (flat_map view) (legs_more c k d low) ∙ (flat_map-append view below ((k, leg) ∷ []) ∙ ap (λ (xs : List ℕ). flat_map view below ++ xs) (append-nil (view (k, leg))))))

pub first_all : (c : Conference) (listeners : List Listening) (k : ℕ) (views : List ℕ) → length c.legs ≤ k → AreFirst c listeners k views → AreViewsOf c listeners views
first_all c listeners k views low first = λ given heard.
    first given heard ∙ ap (flat_map (λ x. live_view c x.0 x.1 (given x.0))) (take_all k (enumerate_from 0 c.legs) (omega (arith, length-enumerate_from 0 c.legs, low)))

-- ---- lists
-- stands for a leg where none is looked at
abbrev pub no_leg : LegLine
no_leg = record { line = 0; name = []; aware = false; ssrc = 0; input = []; output = []; payload_types = record { t140 = 0; red = 0 }; generations = 0; stay = record { from = 0; until = None }; follow = false; long = false }
