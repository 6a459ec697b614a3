-- What is written of one recording changes nothing of the others.
use Rattle.std.proofs.Common.{◌≡◌, ◌≢◌, ◌⊎◌, inl, inr, ℕ, zero, suc, Option, Some, None, List, [], ◌∷◌, ◌<◌, length, length-set, set, refl, sym, ap, ◌∙◌, subst, arith, IsSome}
use Rattle.std.specs.Prelude.{◌+◌, map, option_map, slice_get}
use Rattle.std.proofs.lemmas.Option.{slice_get-map, slice_get_cases, slice_get_within}
use Rattle.rtt_io.specs.declared.sinks.Sink as sinks
use Rattle.live_spec.specs.Recorded.{Parts, part_written}
use Rattle.recorded_links.specs.declared.calls.CallTrack.{CallTrack}
use Rattle.recorded_links.specs.declared.names.Way.{Way}
use Rattle.recorded_links.specs.declared.passes.Shelf.{Shelf}
use Rattle.recorded_links.specs.declared.rule.NotedEntry.{NotedEntry}
use Rattle.recorded_links.specs.Calls.{call_track}
use Rattle.recorded_links.specs.Names.{numbered}
use Rattle.recorded_links.specs.Files.{AreFrom}
use Rattle.recorded_links.specs.Standing.{Keeping, RecorderStandsFor, by_file}
use Rattle.recorded_links.specs.Written.{HasTaken, HasTakenStill}
use Rattle.recorded_links.specs.Recordings.{AllHaveStill, AreApart, HaveOwnNames, SameNames}
use Rattle.stream_spec.proofs.Plain.{get_at as is_there}

-- ---- one of a list is changed
get_set : {X : Type 0} (xs : List X) (i : ℕ) (o : X) (j : ℕ) (x : X) → slice_get (set xs i o) j ≡ Some x → ((j ≡ i) × (x ≡ o)) ⊎ ((j ≢ i) × (slice_get xs j ≡ Some x))
get_set [] zero o j x e = absurd (cc e)
get_set [] (suc i) o j x e = absurd (cc e)
get_set (y ∷ xs) zero o zero x e = inl (refl, cc e)
get_set (y ∷ xs) zero o (suc j) x e = inr ((λ q. omega (arith, q)), e)
get_set (y ∷ xs) (suc i) o zero x e = inr ((λ q. omega (arith, q)), e)
get_set (y ∷ xs) (suc i) o (suc j) x e = elim (get_set xs i o j x e) [
  | inl p ↦ inl (ap suc p.0, p.1)
  | inr p ↦ inr ((λ q. p.0 (omega (arith, q))), p.1)
]

-- ---- names that stay
pub same_from : (stem : List ℕ) (old new : List ℕ → Option (List ℕ)) (k : ℕ) (fs : List (List ℕ)) → ((n : ℕ) → new (numbered stem n) ≡ old (numbered stem n)) → AreFrom stem old k fs → AreFrom stem new k fs
same_from stem old new k [] same under = tt
same_from stem old new k (f ∷ fs) same under = (same k ∙ under.0, same_from stem old new (k + 1) fs same under.1)

module _ {F : Type 0} (g : sinks.Ghosts F) where
  same_file : (old new : List ℕ → Option (List ℕ)) (k : Keeping F) (file : Option F) (ps : Parts) → ((n : ℕ) → new (numbered k.stem n) ≡ old (numbered k.stem n)) → by_file g old k file ps → by_file g new k file ps
  same_file old new k None ps same s = tt
  same_file old new k (Some file) ps same s = record {
    tells = s.tells;
    number = s.number;
    place = s.place;
    over = same_from k.stem old new 1 (map (part_written k.start) ps.over) same s.over;
    took = s.took;
    there = subst (λ (o : Option (List ℕ)). IsSome o) (sym (same k.number)) s.there;
  }

  -- what lies under its names is all that it stands on
  pub stands_still : (old new : List ℕ → Option (List ℕ)) (k : Keeping F) (ps : Parts) → ((n : ℕ) → new (numbered k.stem n) ≡ old (numbered k.stem n)) → RecorderStandsFor g old k ps → RecorderStandsFor g new k ps
  stands_still old new k ps same s = same_file old new k k.file ps same s

pub same_recording : {port port' : ℕ} {way way' : Way} {stem stem' : List ℕ} {start start' : ℕ} {shelf shelf' : Shelf}
    → (port' ≡ port) × ((way' ≡ way) × (shelf' ≡ shelf)) → (stem' ≡ stem) × (start' ≡ start)
    → call_track port' way' stem' start' shelf' ≡ call_track port way stem start shelf
same_recording a b = λ i. call_track (a.0 i) (a.1.0 i) (b.0 i) (b.1 i) (a.1.1 i)

map_set : {X Y : Type 0} (f : X → Y) (xs : List X) (i : ℕ) (o t : X) → slice_get xs i ≡ Some t → f o ≡ f t → map f (set xs i o) ≡ map f xs
map_set f [] zero o t e same = refl
map_set f [] (suc i) o t e same = refl
map_set f (x ∷ xs) zero o t e same = let is : t ≡ x = cc e in ap (λ a. a ∷ map f xs) (same ∙ ap f is)
map_set f (x ∷ xs) (suc i) o t e same = ap (λ l. f x ∷ l) (map_set f xs i o t e same)

-- what has its own names, where these are its names
pub apart_of : {F T : Type 0} (record_of : T → CallTrack) (recorder : T → Keeping F) (stem_is : (x : T) → (record_of x).stem ≡ (recorder x).stem) (rs : List CallTrack) (ts : List T)
    → map record_of ts ≡ rs → HaveOwnNames rs → AreApart ts recorder
apart_of record_of recorder stem_is rs ts are own i j t u et eu other k l same =
    let there : (n : ℕ) (x : _) → slice_get ts n ≡ Some x → slice_get rs n ≡ Some (record_of x) =
    λ n x e. ap (λ a. slice_get a n) (sym are) ∙ (slice_get-map record_of ts n ∙ ap (option_map record_of) e) in
    own i j (record_of t) (record_of u) (there i t et) (there j u eu) other k l
    (ap (λ s. numbered s k) (stem_is t) ∙ (same ∙ ap (λ s. numbered s l) (sym (stem_is u))))

module _ {F T : Type 0} (g : sinks.Ghosts F) (tells : Type 0) (record_of : T → CallTrack) (recorder : T → Keeping F) (taken : T → List NotedEntry) where
  -- some were written
  pub record Written (before after : List ℕ → Option (List ℕ)) (old new : List T) : Type 0 where
    pub names : SameNames old new recorder
    pub same : map record_of new ≡ map record_of old
    pub have : tells → AllHaveStill g before after old new recorder taken

  pub none_written : (contents : List ℕ → Option (List ℕ)) (ts : List T) → Written contents contents ts ts
  none_written contents ts = record {
    names = record {
      many = refl;
      stems = λ j t u et eu. ap (λ (x : T). (recorder x).stem) (cc (et, eu));
      starts = λ j t u et eu. ap (λ (x : T). (recorder x).start) (cc (et, eu));
    };
    same = refl;
    have = λ t apart have. have;
  }

  there : (old new : List T) → SameNames old new recorder → (j : ℕ) (t : T) → slice_get new j ≡ Some t → (o : T) × (slice_get old j ≡ Some o)
  there old new same j t e = let low = slice_get_within new j t e in let many = same.many in is_there old j (omega (arith, low, many))

  -- apart they stay
  apart_still : (old new : List T) → SameNames old new recorder → AreApart old recorder → AreApart new recorder
  apart_still old new same apart i j t u et eu other k l e =
      let a = there old new same i t et in
      let b = there old new same j u eu in
      apart i j a.0 b.0 a.1 b.1 other k l
      (ap (λ (s : List ℕ). numbered s k) (sym (same.stems i a.0 t a.1 et)) ∙ (e ∙ ap (λ (s : List ℕ). numbered s l) (same.stems j b.0 u b.1 eu)))

  -- one more was
  pub one_written : (before mid after : List ℕ → Option (List ℕ)) (old ts : List T) (i : ℕ) (t o : T)
      → slice_get ts i ≡ Some t → record_of o ≡ record_of t → (recorder o).stem ≡ (recorder t).stem → (recorder o).start ≡ (recorder t).start
      → (tells → (n : List ℕ) → ((k : ℕ) → n ≢ numbered (recorder t).stem k) → after n ≡ mid n)
      → (tells → HasTakenStill g mid after (recorder t) (recorder o) (taken t) (taken o))
      → Written before mid old ts → Written before after old (set ts i o)
  one_written before mid after old ts i t o et recorded stem start others still w = record {
    names = record {
      many = length-set ts i o ∙ w.names.many;
      stems = λ j a b ea eb. elim (get_set ts i o j b eb) [
        | inl p ↦ ap (λ (x : T). (recorder x).stem) p.1 ∙ (stem ∙ w.names.stems j a t ea (ap (slice_get ts) p.0 ∙ et))
        | inr p ↦ w.names.stems j a b ea p.1
      ];
      starts = λ j a b ea eb. elim (get_set ts i o j b eb) [
        | inl p ↦ ap (λ (x : T). (recorder x).start) p.1 ∙ (start ∙ w.names.starts j a t ea (ap (slice_get ts) p.0 ∙ et))
        | inr p ↦ w.names.starts j a b ea p.1
      ];
    };
    same = map_set record_of ts i o t et recorded ∙ w.same;
    have = λ told apart have j b eb. elim (get_set ts i o j b eb) [
      | inl p ↦ subst (λ (x : T). HasTaken g after (recorder x) (taken x)) (sym p.1) (still told (w.have told apart have i t et))
      | inr p ↦ stands_still g mid after (recorder b) _ (λ n. others told (numbered (recorder b).stem n) (λ k. apart_still old ts w.names apart j i b t p.1 et p.0 n k)) (w.have told apart have j b p.1)
    ];
  }
