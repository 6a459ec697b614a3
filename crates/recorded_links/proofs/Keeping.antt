-- What is known of who notes stays known, as links are opened and handed back.
use Rattle.std.proofs.Common.{◌≡◌, ◌≢◌, ◌⊎◌, inl, inr, ℕ, zero, suc, ◌+◌, ◌<◌, arith, Bool, true, false, true≢false, Option, Some, None, List, [], ◌∷◌, ◌++◌, refl, sym, ap, ◌∙◌, subst}
use Rattle.std.proofs.Props.{props}
use Rattle.std.specs.Prelude.{All, Contains, IfSome, length, map, slice_get}
use Rattle.std.specs.List.{AllZip}
use Rattle.std.specs.Prelude.{Vec}
use Rattle.std.specs.Vec.{with_items}
use Rattle.std.proofs.lemmas.List.{with_items_is}
use Rattle.std.proofs.lemmas.List.Elements.{All-nil, All-weaker, All-cons, All-head, All-tail, All-contains}
use Rattle.std.proofs.Math.Logic.{∥∥₁_elim}
use Rattle.std.proofs.lemmas.Option.{slice_get_within}
use Rattle.stream_spec.specs.Links.{Takes}
use Rattle.link_io.specs.Given.{packets}
use Rattle.recorded_links.specs.declared.calls.CallTrack.{CallTrack}
use Rattle.recorded_links.specs.declared.names.Way.{Way}
use Rattle.recorded_links.specs.declared.names.Way.TheVariants.{In, Out}
use Rattle.recorded_links.specs.declared.noter_places.NoterPlace.{NoterPlace}
use Rattle.recorded_links.specs.declared.noters.Noter.{Noter}
use Rattle.recorded_links.specs.Calls.{WaitsOn}
use Rattle.recorded_links.specs.Coming.{AreGiven, takes_noted}
use Rattle.recorded_links.specs.Ended.{AreRecorded, HoldsAll, IsUnopened}
use Rattle.recorded_links.specs.Kept.{AreWhole, IsGivenOut, IsHadBack, IsKept, IsPlaceIn}
use Rattle.recorded_links.specs.Shelves.{noted}

-- ---- lists
-- what holds of each holds of what each became
pub all_became : {X : Type 0} (P Q : X → Type 0) (R : X → X → Type 0) → ((p q : X) → R p q → P p → Q q) → (ps qs : List X) → AllZip R ps qs → All P ps → All Q qs
all_became P Q R f [] [] z a = All-nil Q
all_became P Q R f [] (q ∷ qs) z a = absurd z
all_became P Q R f (p ∷ ps) [] z a = absurd z
all_became P Q R f (p ∷ ps) (q ∷ qs) z a = All-cons Q q qs (f p q z.0 (All-head P p ps a)) (all_became P Q R f ps qs z.1 (All-tail P p ps a))

-- one more at the end
pub get_snoc : {X : Type 0} (xs : List X) (y : X) (j : ℕ) (x : X) → slice_get (xs ++ y ∷ []) j ≡ Some x → (slice_get xs j ≡ Some x) ⊎ (x ≡ y)
get_snoc [] y zero x e = inr (cc e)
get_snoc [] y (suc j) x e = absurd (cc e)
get_snoc (z ∷ xs) y zero x e = inl e
get_snoc (z ∷ xs) y (suc j) x e = get_snoc xs y j x e

is_it : (b : Bool) → (b ≡ true) ⊎ (b ≡ false)
is_it true = inl refl
is_it false = inr refl

ways_apart : (w : Way) → w ≡ In → w ≡ Out → ⊥
ways_apart In a b = cc b
ways_apart Out a b = cc a

-- ---- the place of a recording
module _ {R : Type 0} where
  pub place_given : (rs : List CallTrack) (port : ℕ) (p q : NoterPlace R) → IsGivenOut port p q → IsPlaceIn rs p → IsPlaceIn rs q
  place_given rs port p q (inl e) i = subst (λ x. IsPlaceIn rs x) (sym e.0) i
  place_given rs port p q (inr e) i = record {
    at = λ r g. let a = i.at r (ap (slice_get rs) (sym e.0.0) ∙ g) in (a.0 ∙ sym e.0.1.0, a.1 ∙ sym e.0.1.1);
    shelf = subst (λ o. IfSome o (λ n. WaitsOn rs q.number n.pass)) (sym e.1.1.1) tt;
  }

  of_number : (rs : List CallTrack) (number : ℕ) (o : Option (Noter R)) → IfSome o (λ n. n.number ≡ number) → IfSome o (λ n. WaitsOn rs n.number n.pass)
      → IfSome o (λ n. WaitsOn rs number n.pass)
  of_number rs number None is w = tt
  of_number rs number (Some n) is w = subst (λ k. WaitsOn rs k n.pass) is w

  pub place_back : (rs : List CallTrack) (port : ℕ) (way : Way) (noter : Option (Noter R)) → IfSome noter (λ n. WaitsOn rs n.number n.pass)
      → (p q : NoterPlace R) → IsHadBack port way noter p q → IsPlaceIn rs p → IsPlaceIn rs q
  place_back rs port way noter known p q (inl e) i = subst (λ x. IsPlaceIn rs x) (sym e.0) i
  place_back rs port way noter known p q (inr e) i = record {
    at = λ r g. let a = i.at r (ap (slice_get rs) (sym e.0.0) ∙ g) in (a.0 ∙ sym e.0.1.0, a.1 ∙ sym e.0.1.1);
    shelf = elim e.1.1.1.1.1 [
      | inl none ↦ subst (λ o. IfSome o (λ n. WaitsOn rs q.number n.pass)) (sym none) tt
      | inr same ↦ of_number rs q.number q.noter q.of (subst (λ o. IfSome o (λ n. WaitsOn rs n.number n.pass)) (sym same) known)
    ];
  }

  -- ---- what is stored
  -- no place changed, nor what is stored of it
  pub kept_still : (ends : Type 0) (opened opened' : ℕ → Bool) (before : ℕ) (leads leads' : List (ℕ × List ℕ)) (taken taken' : ℕ → Takes) (given given' : ℕ → List (ℕ × List ℕ)) (p : NoterPlace R)
      → (p.given ≡ false → IsUnopened before p.port leads → IsUnopened before p.port leads')
      → (opened p.port ≡ true → opened' p.port ≡ true)
      → (p.given ≡ true → p.way ≡ In → taken' p.port ≡ taken p.port) → (p.given ≡ true → p.way ≡ Out → given' p.port ≡ given p.port)
      → IsKept ends opened before leads taken given p → IsKept ends opened' before leads' taken' given' p
  kept_still ends opened opened' before leads leads' taken taken' given given' p unopened stays came went k = record {
    unopened = λ g. unopened g (k.unopened g);
    was_opened = λ g. stays (k.was_opened g);
    tell = k.tell;
    came = λ g w. subst (λ t. IfSome p.noter (λ n. n.over ≡ false → noted n.pass ≡ takes_noted t)) (sym (came g w)) (k.came g w);
    went = λ g w. subst (λ t. IfSome p.noter (λ n. n.over ≡ false → AreGiven (noted n.pass) t)) (sym (went g w)) (k.went g w);
  }

  -- a link was opened
  pub kept_given : (ends : Type 0) (opened opened' : ℕ → Bool) (before : ℕ) (leads leads' : List (ℕ × List ℕ)) (taken taken' : ℕ → Takes) (given given' : ℕ → List (ℕ × List ℕ)) (port : ℕ) (to : List ℕ)
      → ends → opened' port ≡ true → ((x : ℕ) → opened x ≡ true → opened' x ≡ true) → leads' ≡ leads ++ (port, to) ∷ []
      → ((x : ℕ) → taken' x ≡ taken x) → ((x : ℕ) → given' x ≡ given x)
      → (p q : NoterPlace R) → IsGivenOut port p q
      → IsKept ends opened before leads taken given p → IsKept ends opened' before leads' taken' given' q
  kept_given ends opened opened' before leads leads' taken taken' given given' port to told opens stays more same_taken same_given p q (inl e) k =
      subst (λ x. IsKept ends opened' before leads' taken' given' x) (sym e.0)
      (kept_still ends opened opened' before leads leads' taken taken' given given' p
      (λ g free i a is. elim (get_snoc leads (port, to) (before + i) (p.port, a) (ap (λ l. slice_get l (before + i)) (sym more) ∙ is)) [
        | inl there ↦ free i a there
        | inr last ↦ e.1 g (ap (λ x. x.0) last)
      ])
      (stays p.port) (λ g w. same_taken p.port) (λ g w. same_given p.port) k)
  kept_given ends opened opened' before leads leads' taken taken' given given' port to told opens stays more same_taken same_given p q (inr e) k = record {
    unopened = λ g. absurd (true≢false (sym e.1.1.0 ∙ g));
    was_opened = λ g. ap opened' (e.0.1.0 ∙ e.1.0) ∙ opens;
    tell = λ g. ∣ told ∣₁;
    came = λ g w. subst (λ o. IfSome o (λ n. n.over ≡ false → noted n.pass ≡ takes_noted (taken' q.port))) (sym e.1.1.1) tt;
    went = λ g w. subst (λ o. IfSome o (λ n. n.over ≡ false → AreGiven (noted n.pass) (given' q.port))) (sym e.1.1.1) tt;
  }

  came_told : (ends : Type 0) (o : Option (Noter R)) (ts : Takes) → ∥ ends ∥₁ → (ends → IfSome o (λ n. n.over ≡ false → noted n.pass ≡ takes_noted ts))
      → IfSome o (λ n. n.over ≡ false → noted n.pass ≡ takes_noted ts)
  came_told ends None ts t f = tt
  came_told ends (Some n) ts t f = λ over. ∥∥₁_elim t (Prim.hlevel props) (λ e. f e over)

  went_told : (ends : Type 0) (o : Option (Noter R)) (gs : List (ℕ × List ℕ)) → ∥ ends ∥₁ → (ends → IfSome o (λ n. n.over ≡ false → AreGiven (noted n.pass) gs))
      → IfSome o (λ n. n.over ≡ false → AreGiven (noted n.pass) gs)
  went_told ends None gs t f = tt
  went_told ends (Some n) gs t f = λ over. ∥∥₁_elim t (Prim.hlevel props) (λ e. f e over)

  -- an inbound end was handed back
  pub kept_in : (ends : Type 0) (opened opened' : ℕ → Bool) (before : ℕ) (leads leads' : List (ℕ × List ℕ)) (taken taken' : ℕ → Takes) (given given' : ℕ → List (ℕ × List ℕ)) (port : ℕ) (noter : Option (Noter R)) (ts : Takes)
      → ((x : ℕ) → opened' x ≡ opened x) → leads' ≡ leads → ((x : ℕ) → x ≢ port → taken' x ≡ taken x) → (opened port ≡ true → taken' port ≡ ts)
      → ((x : ℕ) → given' x ≡ given x) → (ends → IfSome noter (λ n. n.over ≡ false → noted n.pass ≡ takes_noted ts))
      → (p q : NoterPlace R) → IsHadBack port In noter p q
      → IsKept ends opened before leads taken given p → IsKept ends opened' before leads' taken' given' q
  kept_in ends opened opened' before leads leads' taken taken' given given' port noter ts same_opened same_leads other stored same_given is p q (inl e) k =
      subst (λ x. IsKept ends opened' before leads' taken' given' x) (sym e.0)
      (kept_still ends opened opened' before leads leads' taken taken' given given' p
      (λ g free. subst (IsUnopened before p.port) (sym same_leads) free) (λ o. same_opened p.port ∙ o)
      (λ g w. other p.port (λ at. e.1 g at w)) (λ g w. same_given p.port) k)
  kept_in ends opened opened' before leads leads' taken taken' given given' port noter ts same_opened same_leads other stored same_given is p q (inr e) k =
      let was = k.was_opened e.1.1.1.0 in
      let at : q.port ≡ port = e.0.1.0 ∙ e.1.0 in
      let now : taken' q.port ≡ ts = ap taken' at ∙ stored (ap opened (sym e.1.0) ∙ was) in record {
        unopened = λ g. absurd (true≢false (sym e.1.1.1.1.0 ∙ g));
        was_opened = λ g. same_opened q.port ∙ (ap opened e.0.1.0 ∙ was);
        tell = λ g. k.tell e.1.1.1.0;
        came = λ g w. subst (λ t. IfSome q.noter (λ n. n.over ≡ false → noted n.pass ≡ takes_noted t)) (sym now) (elim e.1.1.1.1.1 [
          | inl none ↦ subst (λ o. IfSome o (λ n. n.over ≡ false → noted n.pass ≡ takes_noted ts)) (sym none) tt
          | inr same ↦ subst (λ o. IfSome o (λ n. n.over ≡ false → noted n.pass ≡ takes_noted ts)) (sym same) (came_told ends noter ts (k.tell e.1.1.1.0) is)
        ]);
        went = λ g w. absurd (ways_apart q.way (e.0.1.1 ∙ e.1.1.0) w);
      }

  -- an outbound end was
  pub kept_out : (ends : Type 0) (opened opened' : ℕ → Bool) (before : ℕ) (leads leads' : List (ℕ × List ℕ)) (taken taken' : ℕ → Takes) (given given' : ℕ → List (ℕ × List ℕ)) (port : ℕ) (noter : Option (Noter R)) (gs : List (ℕ × List ℕ))
      → ((x : ℕ) → opened' x ≡ opened x) → leads' ≡ leads → ((x : ℕ) → x ≢ port → given' x ≡ given x) → (opened port ≡ true → given' port ≡ gs)
      → ((x : ℕ) → taken' x ≡ taken x) → (ends → IfSome noter (λ n. n.over ≡ false → AreGiven (noted n.pass) gs))
      → (p q : NoterPlace R) → IsHadBack port Out noter p q
      → IsKept ends opened before leads taken given p → IsKept ends opened' before leads' taken' given' q
  kept_out ends opened opened' before leads leads' taken taken' given given' port noter gs same_opened same_leads other stored same_taken is p q (inl e) k =
      subst (λ x. IsKept ends opened' before leads' taken' given' x) (sym e.0)
      (kept_still ends opened opened' before leads leads' taken taken' given given' p
      (λ g free. subst (IsUnopened before p.port) (sym same_leads) free) (λ o. same_opened p.port ∙ o)
      (λ g w. same_taken p.port) (λ g w. other p.port (λ at. e.1 g at w)) k)
  kept_out ends opened opened' before leads leads' taken taken' given given' port noter gs same_opened same_leads other stored same_taken is p q (inr e) k =
      let was = k.was_opened e.1.1.1.0 in
      let at : q.port ≡ port = e.0.1.0 ∙ e.1.0 in
      let now : given' q.port ≡ gs = ap given' at ∙ stored (ap opened (sym e.1.0) ∙ was) in record {
        unopened = λ g. absurd (true≢false (sym e.1.1.1.1.0 ∙ g));
        was_opened = λ g. same_opened q.port ∙ (ap opened e.0.1.0 ∙ was);
        tell = λ g. k.tell e.1.1.1.0;
        came = λ g w. absurd (ways_apart q.way w (e.0.1.1 ∙ e.1.1.0));
        went = λ g w. subst (λ t. IfSome q.noter (λ n. n.over ≡ false → AreGiven (noted n.pass) t)) (sym now) (elim e.1.1.1.1.1 [
          | inl none ↦ subst (λ o. IfSome o (λ n. n.over ≡ false → AreGiven (noted n.pass) gs)) (sym none) tt
          | inr same ↦ subst (λ o. IfSome o (λ n. n.over ≡ false → AreGiven (noted n.pass) gs)) (sym same) (went_told ends noter gs (k.tell e.1.1.1.0) is)
        ]);
      }

  -- ---- at the end
  pub are_recorded : (rs : List CallTrack) (ends : Type 0) (opened : ℕ → Bool) (before : ℕ) (leads : List (ℕ × List ℕ)) (taken : ℕ → Takes) (given : ℕ → List (ℕ × List ℕ)) (contents : List ℕ → Option (List ℕ)) (places : List (NoterPlace R))
      → All (IsPlaceIn rs) places → All (IsKept ends opened before leads taken given) places → AreWhole rs places contents
      → AreRecorded rs before leads taken given contents
  are_recorded rs ends opened before leads taken given contents places placed kept whole = record {
    came = λ j r e o w.
        let h = whole j r e in
        let p = h.0 in
        let n = h.1 in
        let in' = h.2 in
        let at = (All-contains (IsPlaceIn rs) places p placed in').at r (ap (slice_get rs) h.3 ∙ e) in
        let k = All-contains (IsKept ends opened before leads taken given) places p kept in' in
        elim (is_it p.given) [
          | inl g ↦ let is : noted n.pass ≡ takes_noted (taken p.port) = subst (λ o. IfSome o (λ n. n.over ≡ false → noted n.pass ≡ takes_noted (taken p.port))) h.4 (k.came g (sym at.1 ∙ w)) h.5 in
              subst (HoldsAll r.stem r.start contents) (is ∙ ap (λ x. takes_noted (taken x)) (sym at.0)) h.6
          | inr shut ↦ absurd (k.unopened shut o.0 o.1 (o.2 ∙ ap (λ x. Some (x, o.1)) at.0))
        ];
    went = λ j r e o w.
        let h = whole j r e in
        let p = h.0 in
        let n = h.1 in
        let in' = h.2 in
        let at = (All-contains (IsPlaceIn rs) places p placed in').at r (ap (slice_get rs) h.3 ∙ e) in
        let k = All-contains (IsKept ends opened before leads taken given) places p kept in' in
        elim (is_it p.given) [
          | inl g ↦ let is : AreGiven (noted n.pass) (given p.port) = subst (λ o. IfSome o (λ n. n.over ≡ false → AreGiven (noted n.pass) (given p.port))) h.4 (k.went g (sym at.1 ∙ w)) h.5 in
              (noted n.pass, subst (λ x. AreGiven (noted n.pass) (given x)) (sym at.0) is, h.6)
          | inr shut ↦ absurd (k.unopened shut o.0 o.1 (o.2 ∙ ap (λ x. Some (x, o.1)) at.0))
        ];
  }

  -- ---- at the begin
  pub fresh_came : (o : Option (Noter R)) (ts : Takes) → ts ≡ [] → IfSome o (λ n. noted n.pass ≡ []) → IfSome o (λ n. n.over ≡ false → noted n.pass ≡ takes_noted ts)
  fresh_came None ts is f = tt
  fresh_came (Some n) ts is f = λ over. f ∙ ap takes_noted (sym is)

  pub fresh_went : (o : Option (Noter R)) (gs : List (ℕ × List ℕ)) → gs ≡ [] → IfSome o (λ n. noted n.pass ≡ []) → IfSome o (λ n. n.over ≡ false → AreGiven (noted n.pass) gs)
  fresh_went None gs is f = tt
  fresh_went (Some n) gs is f = λ over. ap (map (λ e. e.octets)) f ∙ ap packets (sym is)

-- what holds of each in a Vec that was lent as a slice
pub all_moved : {X Z : Type 0} (P Q : X → Type 0) (R : X → X → Type 0) → ((p q : X) → R p q → P p → Q q) → (v : Vec X Z) (lent new : List X)
    → lent ≡ v.items → length new ≡ v.len → AllZip R lent new → All P v.items → All Q (with_items v new).items
all_moved P Q R f v lent new is many z a =
    subst (λ l. All Q l) (sym (with_items_is v new many)) (all_became P Q R f lent new z (subst (λ l. All P l) (sym is) a))

-- nothing that is stored changed
pub all_still : {R : Type 0} (ends : Type 0) (opened opened' : ℕ → Bool) (before : ℕ) (leads leads' : List (ℕ × List ℕ)) (taken taken' : ℕ → Takes) (given given' : ℕ → List (ℕ × List ℕ)) (ps : List (NoterPlace R))
    → ((x : ℕ) → opened' x ≡ opened x) → leads' ≡ leads → ((x : ℕ) → taken' x ≡ taken x) → ((x : ℕ) → given' x ≡ given x)
    → All (IsKept ends opened before leads taken given) ps → All (IsKept ends opened' before leads' taken' given') ps
all_still ends opened opened' before leads leads' taken taken' given given' ps same_opened same_leads same_taken same_given =
    All-weaker (IsKept ends opened before leads taken given) (IsKept ends opened' before leads' taken' given')
    (λ p. kept_still ends opened opened' before leads leads' taken taken' given given' p (λ g free. subst (IsUnopened before p.port) (sym same_leads) free) (λ o. same_opened p.port ∙ o) (λ g w. same_taken p.port) (λ g w. same_given p.port)) ps

-- no link was opened yet
pub none_opened : {R : Type 0} (ends : Type 0) (opened : ℕ → Bool) (before : ℕ) (leads : List (ℕ × List ℕ)) (taken : ℕ → Takes) (given : ℕ → List (ℕ × List ℕ)) (many : ℕ) (ps : List (NoterPlace R))
    → before ≡ length leads → All (λ p. (p.given ≡ false) × (p.number < many)) ps → All (IsKept ends opened before leads taken given) ps
none_opened ends opened before leads taken given many ps is fresh =
    All-weaker (λ p. (p.given ≡ false) × (p.number < many)) (IsKept ends opened before leads taken given)
    (λ p f. record {
      unopened = λ g k to e. let low = slice_get_within leads (before + k) (p.port, to) e in omega (arith, low, is);
      was_opened = λ g. absurd (true≢false (sym g ∙ f.0));
      tell = λ g. absurd (true≢false (sym g ∙ f.0));
      came = λ g w. absurd (true≢false (sym g ∙ f.0));
      went = λ g w. absurd (true≢false (sym g ∙ f.0));
    }) ps fresh
