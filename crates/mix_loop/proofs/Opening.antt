-- Ports that are made, one for each inlet.
use Rattle.std.proofs.Common.{◌≡◌, ◌≤◌, ◌+◌, ℕ, Some, List, [], ◌∷◌, ◌++◌, length, inl, inr, ap, sym, subst, ◌∙◌, append_assoc}
use Rattle.std.specs.Prelude.{map, slice_get}
use Rattle.std.specs.Global.{Vec}
use Rattle.std.specs.Vec.{vec_len, vec_capacity}
use Rattle.std.proofs.lemmas.List.{append-nil, map-append}
use Rattle.file_spec.specs.declared.conference_lines.LegLine.{LegLine}
use Rattle.workers.proofs.Matching.{Fits, fits_first, fits_next, fits_none}
use Rattle.mix_loop.specs.declared.ports.Port.{Port}
use Rattle.mix_loop.specs.Ports.{EachNew, IsNew}
use Rattle.mix_loop.proofs.Lists.{get_push}

module _ {I F : Type 0} where
  abbrev pub inlet_in : Port I F → I
  inlet_in p = p.inlet

  pub each_none : (legs : List LegLine) (ps : List (Port I F)) → ps ≡ [] → EachNew legs ps
  each_none legs ps none j p e = absurd (cc (ap (λ (l : List (Port I F)). slice_get l j) (sym none) ∙ e))

  pub each_more : (legs : List LegLine) (ps qs : List (Port I F)) (leg : LegLine) (i : I) (p : Port I F) → EachNew legs ps → slice_get legs (length ps) ≡ Some leg → IsNew i leg.stay p → qs ≡ ps ++ p ∷ [] → EachNew legs qs
  each_more legs ps qs leg i p each at new is j q e = elim (get_push ps p q j (ap (λ (l : List (Port I F)). slice_get l j) (sym is) ∙ e)) [
    | inl old ↦ each j q old
    | inr r ↦
        let here : IsNew p.inlet leg.stay p = subst (λ (x : I). IsNew x leg.stay p) (sym new.is) new in
        (leg, ap (slice_get legs) r.0 ∙ at, subst (λ (x : Port I F). IsNew x.inlet leg.stay x) r.1 here)
  ]

-- ---- whatever has inlets
module _ {I P : Type 0} (inlet_of : P → I) where
  -- the next inlet of all has one
  are_more : (all rest rest' : List I) (ps qs : List P) (i : I) (p : P) → map inlet_of ps ++ rest ≡ all → rest ≡ i ∷ rest' → inlet_of p ≡ i → qs ≡ ps ++ p ∷ [] → map inlet_of qs ++ rest' ≡ all
  are_more all rest rest' ps qs i p are next is new =
      ap (λ l. map inlet_of l ++ rest') new
      ∙ (ap (λ l. l ++ rest') (map-append inlet_of ps (p ∷ []))
      ∙ (append_assoc (map inlet_of ps) (inlet_of p ∷ []) rest'
      ∙ (ap (λ x. map inlet_of ps ++ x ∷ rest') is ∙ (ap (λ l. map inlet_of ps ++ l) (sym next) ∙ are))))

  are_all : (all rest : List I) (ps : List P) → map inlet_of ps ++ rest ≡ all → rest ≡ [] → map inlet_of ps ≡ all
  are_all all rest ps are none = sym (append-nil (map inlet_of ps)) ∙ (ap (λ l. map inlet_of ps ++ l) (sym none) ∙ are)

  -- the inlets of the first of all are in ports, and there is room for the others
  pub record Opens (all rest : List I) (left : ℕ) (ports : Vec P) : Type 0 where
    pub are : map inlet_of ports.items ++ rest ≡ all
    pub fits : Fits rest left ports

  pub opens_first : (from : Vec I) (rest : List I) (left : ℕ) (ports : Vec P) → rest ≡ from.items → left ≡ vec_len from → ports.items ≡ [] → vec_len from ≤ vec_capacity ports → Opens from.items rest left ports
  opens_first from rest left ports same len none room = record { are = ap (λ l. map inlet_of l ++ rest) none ∙ same; fits = fits_first from rest left ports same len none room }

  pub opens_next : (all rest rest' : List I) (left left' : ℕ) (i : I) (p : P) (ports ports' : Vec P) → Opens all rest left ports → (rest ≡ i ∷ rest') × (left' + 1 ≡ left) → inlet_of p ≡ i → ports'.items ≡ ports.items ++ p ∷ [] → vec_len ports' ≡ vec_len ports + 1 → vec_capacity ports' ≡ vec_capacity ports → Opens all rest' left' ports'
  opens_next all rest rest' left left' i p ports ports' o next is items len capacity = record {
    are = are_more all rest rest' ports.items ports'.items i p o.are next.0 is items;
    fits = fits_next rest rest' left left' i ports ports' o.fits next len capacity;
  }

  pub opens_all : (all rest : List I) (left : ℕ) (ports : Vec P) → Opens all rest left ports → left ≡ 0 → map inlet_of ports.items ≡ all
  opens_all all rest left ports o none = are_all all rest ports.items o.are (fits_none rest left ports o.fits none)

  -- the inlet of the next of all is there
  pub inlets_more : (all rest rest' : List P) (is js : List I) (p : P) (i : I) → is ++ map inlet_of rest ≡ map inlet_of all → rest ≡ p ∷ rest' → i ≡ inlet_of p → js ≡ is ++ i ∷ [] → js ++ map inlet_of rest' ≡ map inlet_of all
  inlets_more all rest rest' is js p i are next same new =
      ap (λ l. l ++ map inlet_of rest') new
      ∙ (append_assoc is (i ∷ []) (map inlet_of rest')
      ∙ (ap (λ x. is ++ x ∷ map inlet_of rest') same ∙ (ap (λ l. is ++ map inlet_of l) (sym next) ∙ are)))

  pub inlets_all : (all rest : List P) (is : List I) → is ++ map inlet_of rest ≡ map inlet_of all → rest ≡ [] → is ≡ map inlet_of all
  inlets_all all rest is are none = sym (append-nil is) ∙ (ap (λ l. is ++ map inlet_of l) (sym none) ∙ are)
