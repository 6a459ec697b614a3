-- The lines of a conference, one by one, and their SSRCs.
use Rattle.std.proofs.Common.{◌≡◌, ℕ, ◌+◌, ◌<◌, List, [], ◌∷◌, ◌++◌, length, map, take, get_or, ap, sym, ◌∙◌, add-one, arith}
use Rattle.std.specs.Prelude.{AllPairs, remove, ◌≢◌}
use Rattle.std.specs.List.{enumerate_from}
use Rattle.std.proofs.Math.Seq.{take-suc}
use Rattle.std.proofs.lemmas.List.{get_or-map, length-map}
use Rattle.std.proofs.lemmas.List.Quantifiers.{all_pairs_remove}
use Rattle.std.proofs.lemmas.List.FromFn.{length-enumerate_from, get_or-enumerate_from}
use Rattle.file_spec.specs.declared.conference_lines.LegLine.{LegLine}
use Rattle.file_spec.specs.Conference.{Conference}
use Rattle.file_spec.specs.Kept.{Differ}

-- the first lines with their numbers, and one more
pub legs_more : (c : Conference) (k : ℕ) (d : LegLine) → k < length c.legs → take (k + 1) (enumerate_from 0 c.legs) ≡ take k (enumerate_from 0 c.legs) ++ (k, get_or c.legs k d) ∷ []
legs_more c k d l =
    let all = enumerate_from 0 c.legs in
    let size = length-enumerate_from 0 c.legs in
    let zeroed : 0 + k ≡ k = omega arith in
    let it : get_or all k (0, d) ≡ (k, get_or c.legs k d) = get_or-enumerate_from 0 c.legs k (0, d) l ∙ ap (λ (n : ℕ). (n, get_or c.legs k d)) zeroed in
    ap (λ (n : ℕ). take n all) (add-one k) ∙ (take-suc all k (0, d) (omega (arith, size, l)) ∙ ap (λ (x : ℕ × LegLine). take k all ++ x ∷ []) it)

-- the SSRCs of legs that differ do
pub all_ssrcs_differ : (legs : List LegLine) → AllPairs (λ a b. Differ a b) legs → AllPairs (λ a b. a ≢ b) (map (λ leg. leg.ssrc) legs)
all_ssrcs_differ [] q i j d low high = absurd (omega arith)
all_ssrcs_differ (x ∷ xs) q i j d low high =
    let size = length-map (x ∷ xs) (λ (leg : LegLine). leg.ssrc) in
    λ same. (q i j x low (omega (arith, size))).ssrcs (sym (get_or-map (λ (leg : LegLine). leg.ssrc) (x ∷ xs) i x d (omega (arith, size))) ∙ (same ∙ get_or-map (λ (leg : LegLine). leg.ssrc) (x ∷ xs) j x d (omega (arith, size))))

-- so do those of the other legs
pub ssrcs_differ : (legs : List LegLine) (own : ℕ) → own < length legs → AllPairs (λ a b. Differ a b) legs → AllPairs (λ a b. a ≢ b) (map (λ leg. leg.ssrc) (remove legs own))
ssrcs_differ legs own l h = all_ssrcs_differ (remove legs own) (all_pairs_remove (λ a b. Differ a b) legs own l h)
