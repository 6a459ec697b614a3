use Rattle.std.proofs.Common.{◌≡◌, ℕ, List, [], ◌∷◌, ◌++◌, Result, Ok, Err, IfOk, ap, ap₂, ◌∙◌, append_assoc}
use Rattle.std.specs.Prelude.{codes, string_bytes}
use Rattle.recorded_links.specs.Begun.{names_of}
use Rattle.recorded_links.specs.Calls.{Named, leg_port}
use Rattle.recorded_links.specs.Names.{stem_of}
use Rattle.recorded_links.specs.declared.names.Way.{Way}
use Rattle.recorded_links.specs.declared.names.Way.TheVariants.{In, Out}
use Rattle.recorded_links.specs.Recordings.{last_of}
use Rattle.recorded_links.proofs.Stems.{last_behind}
use Rattle.recorded_links.proofs.call_recordings.CallRecording.with_leg.Goals as goal

abbrev row : ℕ → Way → List ℕ → ℕ → Named
row port way stem start = (port, way, stem, start)

same_row : (p q : ℕ) (w : Way) (s t : List ℕ) (a b : ℕ) → p ≡ q → s ≡ t → a ≡ b → row p w s a ≡ row q w t b
same_row p q w s t a b e f h = λ i. (e i, w, f i, h i)

-- of what came, and of what went
module _ {X E : Type 0} where
  both_more : (names : X → List Named) (old more : List Named) (port p : ℕ) (came went s t : List ℕ) (start begun : ℕ)
      → more ≡ old ++ row port In came start ∷ [] → port ≡ p → came ≡ s → went ≡ t → begun ≡ start
      → (r : Result X E) → IfOk r (λ c. names c ≡ more ++ row port Out went begun ∷ [])
      → IfOk r (λ c. names c ≡ old ++ (row p In s start ∷ row p Out t start ∷ []))
  both_more names old more port p came went s t start begun is at first next same (Ok c) n =
      n ∙ (ap (λ l. l ++ row port Out went begun ∷ []) is
      ∙ (append_assoc old (row port In came start ∷ []) (row port Out went begun ∷ [])
      ∙ ap₂ (λ (x y : Named). old ++ (x ∷ y ∷ [])) (same_row port p In came s start start at first (λ i. start)) (same_row port p Out went t begun start at next same)))
  both_more names old more port p came went s t start begun is at first next same (Err e) n = tt

-- each stem goes on to a point
to_point : (prefix name stem : List ℕ) (w : Way) → stem ≡ stem_of prefix name w → last_of stem ≡ 46
to_point prefix name stem In is = ap last_of is ∙ last_behind ((prefix ++ codes ".") ++ name) (codes "in.") 46
to_point prefix name stem Out is = ap last_of is ∙ last_behind ((prefix ++ codes ".") ++ name) (codes "out.") 46

pub with_track-requires-after_bounds : goal.with_track-requires-after_bounds
with_track-requires-after_bounds g c κs within = to_point c.args.prefix.now c.as_str.result.now (string_bytes c.in-Ok.came) In c.in-Ok.ensures

pub with_track-requires-2-after_bounds : goal.with_track-requires-2-after_bounds
with_track-requires-2-after_bounds g c κs within = to_point c.args.prefix.now c.as_str-2.result.now (string_bytes c.in-Ok-stem_of.went) Out c.in-Ok-stem_of.ensures

pub returns-clause-names : goal.returns-clause-names
returns-clause-names g c =
    let leg = c.args.leg.now in
    let prefix = c.args.prefix.now in
    both_more (λ x. names_of x) (names_of c.args.self) (names_of c.in_ok-more.more) c.port_of-port.result (leg_port leg) (string_bytes c.in-Ok.came) (string_bytes c.in-Ok-stem_of.went)
    (stem_of prefix leg.name In) (stem_of prefix leg.name Out) c.args.self.start c.in_ok-more.more.start c.in_ok-more.ensures.names c.port_of-port.ensures
    (c.in-Ok.ensures ∙ ap (λ n. stem_of prefix n In) c.as_str.ensures) (c.in-Ok-stem_of.ensures ∙ ap (λ n. stem_of prefix n Out) c.as_str-2.ensures) c.in_ok-more.ensures.start
    c.with_track-2.result c.with_track-2.ensures.names
