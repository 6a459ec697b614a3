-- The entries of a batch, one after the other, in a recording.
use Rattle.std.proofs.Common.{◌≡◌, ℕ, Option, List, [], ◌∷◌, ◌++◌, refl, sym, ap, ◌∙◌, subst}
use Rattle.std.specs.Prelude.{map}
use Rattle.std.proofs.lemmas.List.{append-nil, map-append}
use Rattle.rtt_io.specs.declared.sinks.Sink as sinks
use Rattle.live_spec.specs.Recorded.{Entry, Parts, noted, nothing_noted}
use Rattle.recorded_links.specs.declared.rule.NotedEntry.{NotedEntry}
use Rattle.recorded_links.specs.Standing.{Keeping, NotesMore, RecorderStandsFor, StaysAll}
use Rattle.recorded_links.specs.Rule.{noted_of}
use Rattle.recorded_links.specs.Written.{HasTaken, NotesAll, all_noted, entry_of}

pub noted_behind : (start : ℕ) (ps : Parts) (xs ys : List Entry) → all_noted start ps (xs ++ ys) ≡ all_noted start (all_noted start ps xs) ys
noted_behind start ps [] ys = refl
noted_behind start ps (x ∷ xs) ys = noted_behind start (noted start ps x) xs ys

-- what was noted, as it is written
pub back : (es : List Entry) → map entry_of (map noted_of es) ≡ es
back [] = refl
back (e ∷ es) = ap (λ l. e ∷ l) (back es)

module _ {F : Type 0} (g : sinks.Ghosts F) where
  -- whatever were its files, they are now those from which the rest leads to where all lead
  abbrev pub Reaches : (before after : List ℕ → Option (List ℕ)) → (old new : Keeping F) → (all rest : List Entry) → Type 0
  Reaches before after old new all rest = (ps : Parts) → RecorderStandsFor g before old ps
      → (now : Parts) × RecorderStandsFor g after new now × (all_noted old.start now rest ≡ all_noted old.start ps all)

  pub reaches_first : (contents : List ℕ → Option (List ℕ)) (k : Keeping F) (all rest : List Entry) → rest ≡ all → Reaches contents contents k k all rest
  reaches_first contents k all rest same ps stands = (ps, stands, ap (all_noted k.start ps) same)

  pub reaches_next : (before mid after : List ℕ → Option (List ℕ)) (old k new : Keeping F) (all rest more : List Entry) (e : Entry)
      → k.start ≡ old.start → rest ≡ e ∷ more → NotesMore g mid after k new e → Reaches before mid old k all rest → Reaches before after old new all more
  reaches_next before mid after old k new all rest more e same is notes reaches ps stands =
      let r = reaches ps stands in
      let n : RecorderStandsFor g after new (noted old.start r.0 e) = subst (λ s. RecorderStandsFor g after new (noted s r.0 e)) same (notes r.0 r.1) in
      (noted old.start r.0 e, n, ap (all_noted old.start r.0) (sym is) ∙ r.2)

  pub reaches_all : (before after : List ℕ → Option (List ℕ)) (old new : Keeping F) (all rest : List Entry) → rest ≡ [] → Reaches before after old new all rest → NotesAll g before after old new all
  reaches_all before after old new all rest none reaches ps stands =
      let r = reaches ps stands in
      subst (λ p. RecorderStandsFor g after new p) (sym (ap (all_noted old.start r.0) none) ∙ r.2) r.1

  -- what was taken away, and this batch behind it
  pub has_more : (before after : List ℕ → Option (List ℕ)) (old new : Keeping F) (taken more : List NotedEntry) (es : List Entry)
      → new.start ≡ old.start → more ≡ taken ++ map noted_of es → NotesAll g before after old new es → HasTaken g before old taken → HasTaken g after new more
  has_more before after old new taken more es same is notes has =
      let start = old.start in
      let behind : all_noted start (all_noted start nothing_noted (map entry_of taken)) es ≡ all_noted new.start nothing_noted (map entry_of more) =
      sym (noted_behind start nothing_noted (map entry_of taken) es)
      ∙ (ap (λ l. all_noted start nothing_noted (map entry_of taken ++ l)) (sym (back es))
      ∙ (ap (all_noted start nothing_noted) (sym (map-append entry_of taken (map noted_of es)) ∙ ap (map entry_of) (sym is))
      ∙ ap (λ s. all_noted s nothing_noted (map entry_of more)) (sym same))) in
      subst (λ p. RecorderStandsFor g after new p) behind (notes _ has)

  -- nothing was taken away
  pub has_same : (before after : List ℕ → Option (List ℕ)) (old new : Keeping F) (taken more : List NotedEntry)
      → new.start ≡ old.start → more ≡ taken → StaysAll g before after old new → HasTaken g before old taken → HasTaken g after new more
  has_same before after old new taken more still is stays has =
      subst (λ p. RecorderStandsFor g after new p) (ap (λ s. all_noted s nothing_noted (map entry_of taken)) (sym still) ∙ ap (λ l. all_noted new.start nothing_noted (map entry_of l)) (sym is)) (stays _ has)

  -- what was taken away last, where nothing is in hand
  pub has_last : (before after : List ℕ → Option (List ℕ)) (old new : Keeping F) (taken all hand : List NotedEntry) (es : List Entry)
      → new.start ≡ old.start → all ≡ (taken ++ map noted_of es) ++ hand → hand ≡ [] → NotesAll g before after old new es → HasTaken g before old taken → HasTaken g after new all
  has_last before after old new taken all hand es same is rests notes has =
      has_more before after old new taken all es same
      (is ∙ (ap (λ l. (taken ++ map noted_of es) ++ l) rests ∙ append-nil (taken ++ map noted_of es))) notes has

  -- nothing was left
  pub has_all : (contents : List ℕ → Option (List ℕ)) (k : Keeping F) (taken all hand : List NotedEntry) → all ≡ (taken ++ []) ++ hand → hand ≡ [] → HasTaken g contents k taken → HasTaken g contents k all
  has_all contents k taken all hand is rests has =
      let same : taken ≡ all = sym (is ∙ (ap (λ l. (taken ++ []) ++ l) rests ∙ (append-nil (taken ++ []) ∙ append-nil taken))) in
      subst (λ l. HasTaken g contents k l) same has
