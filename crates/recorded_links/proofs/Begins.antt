-- One recording more is begun.
use Rattle.std.proofs.Common.{◌≡◌, ◌≢◌, ◌<◌, ◌⊎◌, inl, inr, ℕ, ◌+◌, Bool, false, Option, Some, None, List, [], ◌∷◌, ◌++◌, length, length-append, refl, sym, ap, ◌∙◌, subst, arith}
use Rattle.std.specs.Prelude.{All, IfSome, map, option_map, slice_get}
use Rattle.std.proofs.lemmas.List.{length-map}
use Rattle.std.proofs.lemmas.List.Elements.{All-push, All-weaker}
use Rattle.std.proofs.lemmas.Option.{slice_get_within, slice_get-map}
use Rattle.rtt_io.specs.declared.sinks.Sink as sinks
use Rattle.recorded_links.specs.declared.calls.CallTrack.{CallTrack}
use Rattle.recorded_links.specs.declared.noter_places.NoterPlace.{NoterPlace}
use Rattle.recorded_links.specs.declared.noters.Noter.{Noter}
use Rattle.recorded_links.specs.declared.rule.NotedEntry.{NotedEntry}
use Rattle.recorded_links.specs.Calls.{IsEndOf, WaitsOn}
use Rattle.recorded_links.specs.Kept.{IsPlaceIn}
use Rattle.recorded_links.specs.Names.{numbered}
use Rattle.recorded_links.specs.Recordings.{AllHave, AreThere, HaveOwnNames, StemsDiffer, last_of}
use Rattle.recorded_links.specs.Standing.{Keeping}
use Rattle.recorded_links.specs.Written.{HasTaken}
use Rattle.recorded_links.proofs.Others.{stands_still}
use Rattle.recorded_links.proofs.Stems.{stems_differ}
use Rattle.recorded_links.proofs.Wholes.{front_or_last, map_last}

-- ---- places
module _ {R : Type 0} where
  shelf_more : (rs : List CallTrack) (r : CallTrack) (number : ℕ) → number < length rs → (o : Option (Noter R)) → IfSome o (λ n. WaitsOn rs number n.pass)
      → IfSome o (λ n. WaitsOn (rs ++ r ∷ []) number n.pass)
  shelf_more rs r number low None w = tt
  shelf_more rs r number low (Some n) w = λ a g. elim (front_or_last rs r number a g) [ inl f ↦ w a f | inr l ↦ let is = l.0 in absurd (omega (arith, is, low)) ]

  place_more : (rs : List CallTrack) (r : CallTrack) (p : NoterPlace R) → p.number < length rs → IsPlaceIn rs p → IsPlaceIn (rs ++ r ∷ []) p
  place_more rs r p low i = record {
    at = λ a g. elim (front_or_last rs r p.number a g) [ inl f ↦ i.at a f | inr l ↦ let is = l.0 in absurd (omega (arith, is, low)) ];
    shelf = shelf_more rs r p.number low p.noter i.shelf;
  }

  shelf_new : (rs : List CallTrack) (r : CallTrack) (number : ℕ) → number ≡ length rs → (o : Option (Noter R)) → IfSome o (λ n. IsEndOf r.shelf n.pass)
      → IfSome o (λ n. WaitsOn (rs ++ r ∷ []) number n.pass)
  shelf_new rs r number is None w = tt
  shelf_new rs r number is (Some n) w = λ a g. elim (front_or_last rs r number a g) [
    | inl f ↦ let low = slice_get_within rs number a f in absurd (omega (arith, is, low))
    | inr l ↦ subst (λ (x : CallTrack). IsEndOf x.shelf n.pass) (sym l.1) w
  ]

  place_new : (rs : List CallTrack) (r : CallTrack) (p : NoterPlace R) → p.number ≡ length rs → r.port ≡ p.port → r.way ≡ p.way → IfSome p.noter (λ n. IsEndOf r.shelf n.pass)
      → IsPlaceIn (rs ++ r ∷ []) p
  place_new rs r p is port way shelf = record {
    at = λ a g. elim (front_or_last rs r p.number a g) [
      | inl f ↦ let low = slice_get_within rs p.number a f in absurd (omega (arith, is, low))
      | inr l ↦ (ap (λ (x : CallTrack). x.port) l.1 ∙ port, ap (λ (x : CallTrack). x.way) l.1 ∙ way)
    ];
    shelf = shelf_new rs r p.number is p.noter shelf;
  }

  -- one more at the end
  pub all_placed : {T : Type 0} (f : T → CallTrack) (ts : List T) (t : T) (ps : List (NoterPlace R)) (p : NoterPlace R)
      → All (λ q. (q.given ≡ false) × (q.number < length ts)) ps → All (IsPlaceIn (map f ts)) ps
      → p.number ≡ length ts → (f t).port ≡ p.port → (f t).way ≡ p.way → IfSome p.noter (λ n. IsEndOf (f t).shelf n.pass)
      → All (IsPlaceIn (map f (ts ++ t ∷ []))) (ps ++ p ∷ [])
  all_placed f ts t ps p fresh placed is port way shelf =
      subst (λ rs. All (IsPlaceIn rs) (ps ++ p ∷ [])) (sym (map_last f (ts ++ t ∷ []) ts t refl))
      (All-push (IsPlaceIn (map f ts ++ f t ∷ [])) ps p
      (λ k d l. place_more (map f ts) (f t) _ (let low = (fresh k d l).1 in omega (arith, length-map ts f, low)) (placed k d l))
      (place_new (map f ts) (f t) p (is ∙ sym (length-map ts f)) port way shelf))

  pub all_fresh : {T : Type 0} (ts : List T) (t : T) (ps : List (NoterPlace R)) (p : NoterPlace R)
      → All (λ q. (q.given ≡ false) × (q.number < length ts)) ps → p.number ≡ length ts → p.given ≡ false
      → All (λ q. (q.given ≡ false) × (q.number < length (ts ++ t ∷ []))) (ps ++ p ∷ [])
  all_fresh ts t ps p fresh is given =
      All-push (λ q. (q.given ≡ false) × (q.number < length (ts ++ t ∷ []))) ps p
      (λ k d l. ((fresh k d l).0, let low = (fresh k d l).1 in omega (arith, length-append ts (t ∷ []), low)))
      (given, omega (arith, length-append ts (t ∷ []), is))

-- ---- names
other_stem : (before : List ℕ → Option (List ℕ)) (r a : CallTrack) → before (numbered r.stem 1) ≡ None → before (numbered a.stem 1) ≢ None → r.stem ≢ a.stem
other_stem before r a free taken same = taken (ap (λ s. before (numbered s 1)) (sym same) ∙ free)

-- those of one more differ from those that were there
differs : (before : List ℕ → Option (List ℕ)) (rs : List CallTrack) (r : CallTrack) → before (numbered r.stem 1) ≡ None → last_of r.stem ≡ 46 → AreThere before rs
    → (j : ℕ) (a : CallTrack) → slice_get rs j ≡ Some a → StemsDiffer r.stem a.stem
differs before rs r free point there j a e = let h = there j a e in stems_differ r.stem a.stem point h.1 (other_stem before r a free h.0)

own_more : (before : List ℕ → Option (List ℕ)) (rs : List CallTrack) (r : CallTrack) → before (numbered r.stem 1) ≡ None → last_of r.stem ≡ 46 → AreThere before rs
    → HaveOwnNames rs → HaveOwnNames (rs ++ r ∷ [])
own_more before rs r free point there own i j a b ea eb other = elim (front_or_last rs r i a ea) [
  | inl f ↦ elim (front_or_last rs r j b eb) [
    | inl h ↦ own i j a b f h other
    | inr l ↦ λ k n same. differs before rs r free point there i a f n k (ap (λ (x : CallTrack). numbered x.stem n) (sym l.1) ∙ sym same)
  ]
  | inr m ↦ elim (front_or_last rs r j b eb) [
    | inl h ↦ λ k n same. differs before rs r free point there j b h k n (ap (λ (x : CallTrack). numbered x.stem k) (sym m.1) ∙ same)
    | inr l ↦ absurd (other (m.0 ∙ sym l.0))
  ]
]

there_more : (before after : List ℕ → Option (List ℕ)) (rs : List CallTrack) (r : CallTrack) → before (numbered r.stem 1) ≡ None → last_of r.stem ≡ 46 → after (numbered r.stem 1) ≢ None
    → ((n : List ℕ) → ((k : ℕ) → n ≢ numbered r.stem k) → after n ≡ before n) → AreThere before rs → AreThere after (rs ++ r ∷ [])
there_more before after rs r free point made others there j a e = elim (front_or_last rs r j a e) [
  | inl f ↦ ((λ none. (there j a f).0 (sym (others (numbered a.stem 1) (λ k same. differs before rs r free point there j a f k 1 (sym same))) ∙ none)), (there j a f).1)
  | inr l ↦ ((λ none. made (ap (λ (x : CallTrack). after (numbered x.stem 1)) (sym l.1) ∙ none)), ap (λ (x : CallTrack). last_of x.stem) l.1 ∙ point)
]

pub all_own : {T : Type 0} (f : T → CallTrack) (ts : List T) (t : T) (before : List ℕ → Option (List ℕ)) → before (numbered (f t).stem 1) ≡ None → last_of (f t).stem ≡ 46
    → AreThere before (map f ts) → HaveOwnNames (map f ts) → HaveOwnNames (map f (ts ++ t ∷ []))
all_own f ts t before free point there own = subst HaveOwnNames (sym (map_last f (ts ++ t ∷ []) ts t refl)) (own_more before (map f ts) (f t) free point there own)

pub all_there : {T : Type 0} (f : T → CallTrack) (ts : List T) (t : T) (before after : List ℕ → Option (List ℕ)) → before (numbered (f t).stem 1) ≡ None → last_of (f t).stem ≡ 46
    → after (numbered (f t).stem 1) ≢ None → ((n : List ℕ) → ((k : ℕ) → n ≢ numbered (f t).stem k) → after n ≡ before n)
    → AreThere before (map f ts) → AreThere after (map f (ts ++ t ∷ []))
all_there f ts t before after free point made others there =
    subst (AreThere after) (sym (map_last f (ts ++ t ∷ []) ts t refl)) (there_more before after (map f ts) (f t) free point made others there)

-- ---- what is written
module _ {F T : Type 0} (g : sinks.Ghosts F) (f : T → CallTrack) (recorder : T → Keeping F) (taken : T → List NotedEntry) where
  pub all_have : (stem_is : (x : T) → (f x).stem ≡ (recorder x).stem) (ts : List T) (t : T) (before after : List ℕ → Option (List ℕ)) → before (numbered (f t).stem 1) ≡ None → last_of (f t).stem ≡ 46
      → ((n : List ℕ) → ((k : ℕ) → n ≢ numbered (f t).stem k) → after n ≡ before n)
      → AreThere before (map f ts) → HasTaken g after (recorder t) (taken t) → AllHave g before ts recorder taken → AllHave g after (ts ++ t ∷ []) recorder taken
  all_have stem_is ts t before after free point others there last have j x e = elim (front_or_last ts t j x e) [
    | inl h ↦ stands_still g before after (recorder x) _
        (λ n. others (numbered (recorder x).stem n) (λ k same. differs before (map f ts) (f t) free point there j (f x) (slice_get-map f ts j ∙ ap (option_map f) h) k n
        (sym same ∙ ap (λ s. numbered s n) (sym (stem_is x)))))
        (have j x h)
    | inr l ↦ subst (λ y. HasTaken g after (recorder y) (taken y)) (sym l.1) last
  ]
