-- The chunks of the packets that are ready by a moment are the chunks that are ready by then, and the first of all.
use Rattle.std.proofs.Common.{◌≡◌, ℕ, ◌<◌, ◌≤◌, Bool, Option, Some, None, List, [], ◌∷◌, ◌++◌, refl, ap, sym, ◌∙◌, inl, inr, arith, map, append-nil, append_assoc, subst}
use Rattle.std.specs.Prelude.{filter}
use Rattle.std.proofs.lemmas.Bool.{le-leb, lt-leb}
use Rattle.std.proofs.lemmas.List.Elements.{filter-append}
use Rattle.stream_spec.specs.Lists.{In}
use Rattle.stream_spec.specs.Numbering.{Numbered, RisingNumbers, has_number}
use Rattle.stream_spec.specs.Hearing.{is_packet_of, piece}
use Rattle.stream_spec.specs.Ready.{Chunk, chunk, chunks_over}
use Rattle.stream_spec.specs.ChunksBy.{stamped, chunks_by, chunks_added, texts_added}
use Rattle.stream_spec.specs.Fronts.{is_ready_by}
use Rattle.stream_spec.proofs.ByNumber.{by_more}
use Rattle.stream_spec.proofs.Lists.{in_filter}
use Rattle.stream_spec.proofs.Rising.{rising_below}

pub rising_stamped : (wait : ℕ) (past us : List Numbered) → RisingNumbers us → RisingNumbers (map (stamped wait past) us)
rising_stamped wait past [] r = tt
rising_stamped wait past (u ∷ us) r = ((λ y i. let f = back us y i in let l = r.0 f.0 f.1 in omega (arith, f.2)), rising_stamped wait past us r.1)
  where
    back : (vs : List Numbered) (y : Numbered) → In y (map (stamped wait past) vs) → (v : Numbered) × In v vs × (v.number ≡ y.number)
    back [] y i = absurd i
    back (v ∷ vs) y (inl e) = (v, inl refl, sym (ap (λ (w : Numbered). w.number) e))
    back (v ∷ vs) y (inr i) = let f = back vs y i in (f.0, inr f.1, f.2)

-- ---- chunks by a moment
module _ (t place s : ℕ) where
  abbrev by_then : List Chunk → List Chunk
  by_then cs = filter (is_ready_by t) cs

  early : (n : ℕ) (ts : List (List ℕ)) → n ≤ t → by_then (map (chunk place n) ts) ≡ map (chunk place n) ts
  early n [] l = refl
  early n (x ∷ ts) l = rw (le-leb n t l) (ap (λ cs. chunk place n x ∷ cs) (early n ts l))

  late : (n : ℕ) (ts : List (List ℕ)) → t < n → by_then (map (chunk place n) ts) ≡ []
  late n [] l = refl
  late n (x ∷ ts) l = rw (lt-leb n t l) (late n ts l)

  over_early : (present : ℕ → Bool) (first : ℕ) (prev : Option Numbered) (us : List Numbered) → ((u : Numbered) → In u us → u.time ≤ t)
      → by_then (chunks_over (λ u. u.time) place present first prev us) ≡ chunks_over (λ u. u.time) place present first prev us
  over_early present first prev [] f = refl
  over_early present first prev (u ∷ us) f =
      filter-append (is_ready_by t) (map (chunk place u.time) (piece present first prev u)) (chunks_over (λ v. v.time) place present first (Some u) us)
      ∙ (ap (λ cs. cs ++ by_then (chunks_over (λ v. v.time) place present first (Some u) us)) (early u.time (piece present first prev u) (f u (inl refl)))
      ∙ ap (λ cs. map (chunk place u.time) (piece present first prev u) ++ cs) (over_early present first (Some u) us (λ v i. f v (inr i))))

  pub by_early : (us : List Numbered) → ((u : Numbered) → In u us → u.time ≤ t) → by_then (chunks_by place us s) ≡ chunks_by place us s
  by_early [] f = refl
  by_early (u ∷ us) f = over_early (has_number (u ∷ us)) u.number None (filter (is_packet_of s) (u ∷ us)) (λ v i. f v (in_filter (is_packet_of s) v (u ∷ us) i).0)

  pub by_late : (vs us : List Numbered) → RisingNumbers (us ++ vs) → ((v : Numbered) → In v vs → t < v.time) → by_then (chunks_by place (us ++ vs) s) ≡ by_then (chunks_by place us s)
  by_late [] us r f = ap (λ ws. by_then (chunks_by place ws s)) (append-nil us)
  by_late (v ∷ vs) us r f =
      let one : (us ++ v ∷ []) ++ vs ≡ us ++ v ∷ vs = append_assoc us (v ∷ []) vs in
      ap (λ ws. by_then (chunks_by place ws s)) (sym one)
      ∙ (by_late vs (us ++ v ∷ []) (subst RisingNumbers (sym one) r) (λ w i. f w (inr i))
      ∙ (ap by_then (by_more place us v s (rising_below us v vs r))
      ∙ (filter-append (is_ready_by t) (chunks_by place us s) (chunks_added place us v s)
      ∙ (ap (λ cs. by_then (chunks_by place us s) ++ cs) (late v.time (texts_added us v s) (f v (inl refl))) ∙ append-nil (by_then (chunks_by place us s))))))

-- the chunks of the first packets are the first chunks
pub by_front : (place s : ℕ) (vs us : List Numbered) → RisingNumbers (us ++ vs) → (rest : List Chunk) × (chunks_by place (us ++ vs) s ≡ chunks_by place us s ++ rest)
by_front place s [] us r = ([], ap (λ ws. chunks_by place ws s) (append-nil us) ∙ sym (append-nil (chunks_by place us s)))
by_front place s (v ∷ vs) us r =
    let one : (us ++ v ∷ []) ++ vs ≡ us ++ v ∷ vs = append_assoc us (v ∷ []) vs in
    let f = by_front place s vs (us ++ v ∷ []) (subst RisingNumbers (sym one) r) in (
      chunks_added place us v s ++ f.0,
      ap (λ ws. chunks_by place ws s) (sym one) ∙ (f.1
          ∙ (ap (λ cs. cs ++ f.0) (by_more place us v s (rising_below us v vs r)) ∙ append_assoc (chunks_by place us s) (chunks_added place us v s) f.0)),
    )
