-- One packet more of a pair.
use Rattle.std.proofs.Common.{◌≡◌, ℕ, ◌+◌, ◌==◌, Bool, true, false, List, [], ◌∷◌, ◌++◌, length, refl, ap, sym, ◌∙◌, arith, length-append}
use Rattle.std.specs.Prelude.{◌||◌, if◌then◌else◌}
use Rattle.std.specs.List.{list_any}
use Rattle.std.proofs.lemmas.List.Folds.{list_any-append}
use Rattle.std.proofs.Math.Bool.{or-false}
use Rattle.std.proofs.lemmas.Bool.Decides.{Decides-eqb}
use Rattle.wire_spec.specs.Packets.{has_text}
use Rattle.wire_spec.specs.Dump.{Item}
use Rattle.command_spec.specs.Streams.{payload_of, first_type, has_redundant, type_inside}
use Rattle.rtt_show.specs.declared.signs.Signs.{Signs}
use Rattle.rtt_show.specs.Signs.{AreSigns, SignsMore}
use Rattle.rtt_show.specs.Finds.{one_if}
use Rattle.report_spec.specs.Guesses.{has_payload}
use Rattle.rtt_show.proofs.Surveying.{count_more}

any_more : {X : Type 0} (p : X → Bool) (xs : List X) (x : X) → list_any p (xs ++ x ∷ []) ≡ (list_any p xs || p x)
any_more p xs x = list_any-append p xs (x ∷ []) ∙ ap (λ b. list_any p xs || b) (or-false (p x))

inside_more : (n inside : ℕ) (came : List Item) (item : Item) → n ≡ length came → inside ≡ type_inside came → (if n == 0 then first_type (payload_of item) else inside) ≡ type_inside (came ++ item ∷ [])
inside_more n inside [] item e i = ap (λ (k : ℕ). if k == 0 then first_type (payload_of item) else inside) e
inside_more n inside (c ∷ came) item e i = ap (λ (k : ℕ). if k == 0 then first_type (payload_of item) else inside) e ∙ (ap (λ b. if b then first_type (payload_of item) else inside) (not_none (length (c ∷ came) == 0) refl) ∙ i)
  where
    not_none : (b : Bool) → (length (c ∷ came) == 0) ≡ b → b ≡ false
    not_none true z = absurd (omega (arith, (Decides-eqb (length (c ∷ came)) 0).0 z))
    not_none false z = refl

pub signs_more : (old new : Signs) (payload : List ℕ) (came : List Item) (item : Item) → AreSigns old came → SignsMore old payload new → new.packets ≡ old.packets + 1 → payload ≡ payload_of item → AreSigns new (came ++ item ∷ [])
signs_more old new payload came item s m n e = record {
  packets = n ∙ (ap (λ k. k + 1) s.packets ∙ sym (length-append came (item ∷ [])));
  inside = m.inside ∙ (ap (λ p. if old.packets == 0 then first_type p else old.inside) e ∙ inside_more old.packets old.inside came item s.packets s.inside);
  redundant = m.redundant ∙ (ap (λ p. old.redundant || has_redundant p) e ∙ (ap (λ b. b || has_redundant (payload_of item)) s.redundant ∙ sym (any_more (λ x. has_redundant (payload_of x)) came item)));
  filled = count_more has_payload old.filled new.filled came item s.filled (m.filled ∙ ap (λ p. old.filled + one_if (has_text p)) e);
}
