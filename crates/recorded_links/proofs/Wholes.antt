-- One recording after the other ends.
use Rattle.std.proofs.Common.{◌≡◌, ◌≢◌, ◌⊎◌, inl, inr, ℕ, zero, suc, ◌<◌, Option, Some, None, List, [], ◌∷◌, ◌++◌, length, refl, sym, ap, ◌∙◌, subst, arith}
use Rattle.std.specs.Prelude.{All, Contains, IfSome, map, option_map, slice_get}
use Rattle.std.specs.Option.{option_to_list}
use Rattle.std.proofs.lemmas.List.{append-nil, map-append, length-map}
use Rattle.std.proofs.lemmas.List.Elements.{All-pop, Contains-append_left, Contains-push}
use Rattle.std.proofs.lemmas.Option.{slice_get_within, slice_get-map}
use Rattle.rtt_io.specs.declared.sinks.Sink as sinks
use Rattle.recorded_links.specs.declared.calls.CallTrack.{CallTrack}
use Rattle.recorded_links.specs.declared.noter_places.NoterPlace.{NoterPlace}
use Rattle.recorded_links.specs.declared.noters.Noter.{Noter}
use Rattle.recorded_links.specs.declared.rule.NotedEntry.{NotedEntry}
use Rattle.recorded_links.specs.Calls.{IsEndOf, WaitsOn}
use Rattle.recorded_links.specs.Ended.{HoldsAll}
use Rattle.recorded_links.specs.Kept.{AreWhole, HasWhole, HasWholeIn, IsPlaceIn}
use Rattle.recorded_links.specs.Names.{numbered}
use Rattle.recorded_links.specs.Recordings.{AllHave, HaveOwnNames, TouchesThese}
use Rattle.recorded_links.specs.Standing.{Keeping}
use Rattle.recorded_links.specs.Shelves.{noted}
use Rattle.recorded_links.specs.Written.{HasTaken}
use Rattle.recorded_links.proofs.Others.{same_from, stands_still}

-- ---- lists with one more
pub at_front : {X : Type 0} (xs ys : List X) (j : ℕ) (x : X) → slice_get xs j ≡ Some x → slice_get (xs ++ ys) j ≡ Some x
at_front [] ys j x e = absurd (cc e)
at_front (z ∷ xs) ys zero x e = e
at_front (z ∷ xs) ys (suc j) x e = at_front xs ys j x e

pub at_last : {X : Type 0} (xs : List X) (y : X) → slice_get (xs ++ y ∷ []) (length xs) ≡ Some y
at_last [] y = refl
at_last (x ∷ xs) y = at_last xs y

pub front_or_last : {X : Type 0} (xs : List X) (y : X) (j : ℕ) (x : X) → slice_get (xs ++ y ∷ []) j ≡ Some x → (slice_get xs j ≡ Some x) ⊎ ((j ≡ length xs) × (x ≡ y))
front_or_last [] y zero x e = inr (refl, cc e)
front_or_last [] y (suc j) x e = absurd (cc e)
front_or_last (z ∷ xs) y zero x e = inl e
front_or_last (z ∷ xs) y (suc j) x e = elim (front_or_last xs y j x e) [ inl f ↦ inl f | inr l ↦ inr (ap suc l.0, l.1) ]

pub map_last : {X Y : Type 0} (f : X → Y) (xs ts : List X) (t : X) → xs ≡ ts ++ t ∷ [] → map f xs ≡ map f ts ++ f t ∷ []
map_last f xs ts t is = ap (map f) is ∙ map-append f ts (t ∷ [])

-- the others' names, where all have their own
pub front_names : (rs : List CallTrack) (r : CallTrack) → HaveOwnNames (rs ++ r ∷ []) → HaveOwnNames rs
front_names rs r own i j a b ea eb other = own i j a b (at_front rs (r ∷ []) i a ea) (at_front rs (r ∷ []) j b eb) other

last_name : (rs : List CallTrack) (r : CallTrack) → HaveOwnNames (rs ++ r ∷ []) → (i : ℕ) (a : CallTrack) → slice_get rs i ≡ Some a → (k l : ℕ) → numbered r.stem k ≢ numbered a.stem l
last_name rs r own i a ea k l same =
    let low = slice_get_within rs i a ea in
    own (length rs) i r a (at_last rs r) (at_front rs (r ∷ []) i a ea) (λ e. omega (arith, low, e)) k l same

front_name : (rs : List CallTrack) (r : CallTrack) → HaveOwnNames (rs ++ r ∷ []) → (i : ℕ) (a : CallTrack) → slice_get rs i ≡ Some a → (k l : ℕ) → numbered a.stem k ≢ numbered r.stem l
front_name rs r own i a ea k l same = last_name rs r own i a ea l k (sym same)

module _ {R : Type 0} where
  -- ---- places
  fewer : (rs : List CallTrack) (r : CallTrack) (number : ℕ) (o : Option (Noter R)) → IfSome o (λ n. WaitsOn (rs ++ r ∷ []) number n.pass)
      → IfSome o (λ n. WaitsOn rs number n.pass)
  fewer rs r number None w = tt
  fewer rs r number (Some n) w = λ a g. w a (at_front rs (r ∷ []) number a g)

  pub front_places : (rs : List CallTrack) (r : CallTrack) (p : NoterPlace R) → IsPlaceIn (rs ++ r ∷ []) p → IsPlaceIn rs p
  front_places rs r p i = record {
    at = λ a g. i.at a (at_front rs (r ∷ []) p.number a g);
    shelf = fewer rs r p.number p.noter i.shelf;
  }

  -- the shelf of the last one is that of who notes
  last_shelf : (rs : List CallTrack) (r : CallTrack) (number : ℕ) (o : Option (Noter R)) → number ≡ length rs → IfSome o (λ n. WaitsOn (rs ++ r ∷ []) number n.pass)
      → IfSome o (λ n. IsEndOf r.shelf n.pass)
  last_shelf rs r number None is w = tt
  last_shelf rs r number (Some n) is w = w r (ap (slice_get (rs ++ r ∷ [])) is ∙ at_last rs r)

  pub last_place : (rs : List CallTrack) (r : CallTrack) (number : ℕ) (place : Option (NoterPlace R)) → number ≡ length rs → IfSome place (IsPlaceIn (rs ++ r ∷ []))
      → IfSome place (λ p. p.number ≡ number → IfSome p.noter (λ n. IsEndOf r.shelf n.pass))
  last_place rs r number None is i = tt
  last_place rs r number (Some p) is i = λ same. last_shelf rs r p.number p.noter (same ∙ is) i.shelf

  -- ---- what is whole
  in_front : (ps qs : List (NoterPlace R)) (number : ℕ) (Q : List NotedEntry → Type 0) → HasWholeIn ps number Q → HasWholeIn (ps ++ qs) number Q
  in_front ps qs number Q h = (h.0, h.1, Contains-append_left ps qs h.0 h.2, h.3, h.4, h.5, h.6)

  at_end : (ps : List (NoterPlace R)) (place : Option (NoterPlace R)) (number : ℕ) (Q Q' : List NotedEntry → Type 0) → ((es : List NotedEntry) → Q es → Q' es) → HasWhole place number Q
      → HasWholeIn (ps ++ option_to_list place) number Q'
  at_end ps place number Q Q' f h =
      (h.0, h.1, subst (λ o. Contains (ps ++ option_to_list o) h.0) (sym h.2) (Contains-push ps h.0), h.3, h.4, h.5, f (noted h.1.pass) h.6)

  -- the last one ended, and then all before it
  pub whole_all : (all rs : List CallTrack) (r : CallTrack) (places ps : List (NoterPlace R)) (place : Option (NoterPlace R)) (number : ℕ) (mid after : List ℕ → Option (List ℕ))
      → all ≡ rs ++ r ∷ [] → places ≡ ps ++ option_to_list place → number ≡ length rs → HaveOwnNames all
      → HasWhole place number (HoldsAll r.stem r.start mid) → TouchesThese rs mid after → AreWhole rs ps after
      → AreWhole all places after
  whole_all all rs r places ps place number mid after is had many own last others whole j a e =
      subst (λ l. HasWholeIn l j (HoldsAll a.stem a.start after)) (sym had)
      (elim (front_or_last rs r j a (ap (λ l. slice_get l j) (sym is) ∙ e)) [
        | inl f ↦ in_front ps (option_to_list place) j (HoldsAll a.stem a.start after) (whole j a f)
        | inr l ↦ subst (λ (x : ℕ × CallTrack). HasWholeIn (ps ++ option_to_list place) x.0 (HoldsAll x.1.stem x.1.start after)) (λ i. (sym (l.0 ∙ sym many) i, sym l.1 i))
            (at_end ps place number (HoldsAll r.stem r.start mid) (HoldsAll r.stem r.start after)
            (λ es under. same_from r.stem mid after 1 _ (λ n. others (numbered r.stem n) (λ i b g k. last_name rs r (subst HaveOwnNames is own) i b g n k)) under) last)
      ])

-- ---- what is still written
module _ {F T : Type 0} (g : sinks.Ghosts F) (record_of : T → CallTrack) (recorder : T → Keeping F) (taken : T → List NotedEntry) where
  -- of those before the last one it is, once that ended
  pub front_have : (before mid : List ℕ → Option (List ℕ)) (all ts : List T) (t : T) (stem_is : (x : T) → (record_of x).stem ≡ (recorder x).stem)
      → all ≡ ts ++ t ∷ [] → HaveOwnNames (map record_of all)
      → ((n : List ℕ) → ((k : ℕ) → n ≢ numbered (recorder t).stem k) → mid n ≡ before n)
      → AllHave g before all recorder taken → AllHave g mid ts recorder taken
  front_have before mid all ts t stem_is is own others have j x e =
      let names = subst HaveOwnNames (map_last record_of all ts t is) own in
      stands_still g before mid (recorder x) _
      (λ n. others (numbered (recorder x).stem n) (λ k same. front_name (map record_of ts) (record_of t) names j (record_of x) (slice_get-map record_of ts j ∙ ap (option_map record_of) e) n k
      (ap (λ s. numbered s n) (stem_is x) ∙ (same ∙ ap (λ s. numbered s k) (sym (stem_is t))))))
      (have j x (ap (λ l. slice_get l j) is ∙ at_front ts (t ∷ []) j x e))

  pub last_has : (before : List ℕ → Option (List ℕ)) (all ts : List T) (t : T) → all ≡ ts ++ t ∷ [] → AllHave g before all recorder taken → HasTaken g before (recorder t) (taken t)
  last_has before all ts t is have = have (length ts) t (ap (λ l. slice_get l (length ts)) is ∙ at_last ts t)

-- names that no recording has
pub touches_all : (all rs : List CallTrack) (r : CallTrack) (before mid after : List ℕ → Option (List ℕ)) → all ≡ rs ++ r ∷ []
    → ((n : List ℕ) → ((k : ℕ) → n ≢ numbered r.stem k) → mid n ≡ before n) → TouchesThese rs mid after → TouchesThese all before after
touches_all all rs r before mid after is last front n not =
    front n (λ j a e k. not j a (ap (λ l. slice_get l j) is ∙ at_front rs (r ∷ []) j a e) k)
    ∙ last n (λ k. not (length rs) r (ap (λ l. slice_get l (length rs)) is ∙ at_last rs r) k)

pub touches_last : (all rs : List CallTrack) (r : CallTrack) (before after : List ℕ → Option (List ℕ)) → all ≡ rs ++ r ∷ []
    → ((n : List ℕ) → ((k : ℕ) → n ≢ numbered r.stem k) → after n ≡ before n) → TouchesThese all before after
touches_last all rs r before after is last = touches_all all rs r before after after is last (λ n not. refl)
