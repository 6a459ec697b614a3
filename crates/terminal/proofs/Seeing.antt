-- What is printed of a terminal is what is seen of what came to it.
use Rattle.std.proofs.Common.{◌≡◌, ℕ, suc, ◌<◌, List, [], ◌∷◌, ◌++◌, refl, ap, ◌∙◌, arith, length}
use Rattle.std.specs.Prelude.{map, slice_index, slice_index_or}
use Rattle.wire_spec.specs.Dump.{Item}
use Rattle.receiver.specs.declared.source_texts.SourceText.{SourceText}
use Rattle.view_spec.specs.declared.counts.Counts.{Counts}
use Rattle.view_spec.specs.Shown.{shown}
use Rattle.view_spec.specs.Views.{Source, text_view, aware_view, unaware_view}
use Rattle.view_spec.specs.Seen.{Reception, Speaker, text_at, display_at, source_at, text_seen, aware_seen, unaware_seen}
use Rattle.terminal.specs.declared.settings.TerminalSettings.{TerminalSettings}
use Rattle.terminal.specs.declared.terminals.Terminal.{Terminal}
use Rattle.terminal.specs.Terminals.{reception, texts_of, counts_of, IsTextOf, Heard}
use Rattle.terminal.specs.declared.views.View.{View}
use Rattle.terminal.specs.declared.views.View.TheVariants.{Text, Unaware, Aware}
use Rattle.terminal.specs.Told.{AppendsSeen}
use Rattle.terminal.specs.Views.{first_text, named, view_of, text_view_of, unaware_view_of, aware_view_of}

-- each text is what is heard of the source in its place
abbrev AreTexts : Reception → List Item → List ℕ → List SourceText → Type 0
AreTexts r came sources texts = (k : ℕ) (d : SourceText) → k < length sources → IsTextOf r came (slice_index sources k) (slice_index_or texts k d)

first_is : (r : Reception) (came : List Item) (source : ℕ) (texts : List SourceText) → length texts ≡ 1 → AreTexts r came (source ∷ []) texts → first_text texts ≡ text_at r came source
first_is r came source [] n f = absurd (omega (arith, n))
first_is r came source (t ∷ ts) n f = (f 0 t (omega arith)).text

named_is : (r : Reception) (came : List Item) (speakers : List Speaker) (texts : List SourceText) → length texts ≡ length (map (λ s. s.ssrc) speakers) → AreTexts r came (map (λ s. s.ssrc) speakers) texts
    → named (map (λ s. s.name) speakers) texts ≡ map (source_at r came) speakers
named_is r came [] texts n f = refl
named_is r came (s ∷ speakers) [] n f = absurd (omega (arith, n))
named_is r came (s ∷ speakers) (t ∷ ts) n f =
    let here : t.text ≡ text_at r came s.ssrc = (f 0 t (omega arith)).text in
    let rest = named_is r came speakers ts (omega (arith, n)) (λ k d l. f (suc k) d (omega (arith, l))) in
    ap (λ (x : List ℕ). record { name = s.name; display = shown x } ∷ named (map (λ z. z.name) speakers) ts) here ∙ ap (λ (xs : List Source). source_at r came s ∷ xs) rest

pub text_is_seen : (t : Terminal) (c : TerminalSettings) (source : ℕ) (came : List Item) → Heard t c (source ∷ []) came → text_view_of t ≡ text_seen (reception c) source came
text_is_seen t c source came h =
    ap (λ (x : List ℕ). text_view (shown x) (counts_of t)) (first_is (reception c) came source (texts_of t) h.each h.texts)
    ∙ ap (λ (n : Counts). text_view (display_at (reception c) came source) n) h.counts

pub unaware_is_seen : (t : Terminal) (name : List ℕ) (c : TerminalSettings) (source : ℕ) (came : List Item) → Heard t c (source ∷ []) came → unaware_view_of name t ≡ unaware_seen (reception c) name source came
unaware_is_seen t name c source came h =
    ap (λ (x : List ℕ). unaware_view name (shown x) (counts_of t)) (first_is (reception c) came source (texts_of t) h.each h.texts)
    ∙ ap (λ (n : Counts). unaware_view name (display_at (reception c) came source) n) h.counts

pub aware_is_seen : (t : Terminal) (name : List ℕ) (names : List (List ℕ)) (c : TerminalSettings) (speakers : List Speaker) (came : List Item) → names ≡ map (λ s. s.name) speakers → Heard t c (map (λ s. s.ssrc) speakers) came
    → aware_view_of name names t ≡ aware_seen (reception c) name speakers came
aware_is_seen t name names c speakers came e h =
    ap (λ (ns : List (List ℕ)). aware_view name (named ns (texts_of t)) (counts_of t)) e
    ∙ (ap (λ (xs : List Source). aware_view name xs (counts_of t)) (named_is (reception c) came speakers (texts_of t) h.each h.texts)
    ∙ ap (λ (n : Counts). aware_view name (map (source_at (reception c) came) speakers) n) h.counts)

pub view_is_seen : (t : Terminal) (view : View) (old new : List ℕ) → new ≡ old ++ view_of view t → AppendsSeen t view old new
view_is_seen t Text old new e = λ q source came h. e ∙ ap (λ v. old ++ v) (text_is_seen t q source came h)
view_is_seen t (Unaware name) old new e = λ q source came h. e ∙ ap (λ v. old ++ v) (unaware_is_seen t name.now q source came h)
view_is_seen t (Aware name names) old new e = λ q speakers came n h. e ∙ ap (λ v. old ++ v) (aware_is_seen t name.now names.now q speakers came n h)
