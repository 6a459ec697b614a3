-- An ask at which no other leg waits.
use Rattle.std.proofs.Common.{◌≡◌, ℕ, zero, suc, ◌+◌, ◌-◌, ◌<◌, ◌≤◌, Bool, true, false, cond, not, ◌&&◌, Option, Some, None, List, ◌∷◌, refl, ap, subst, sym, ◌∙◌, arith}
use Rattle.std.specs.Prelude.{◌==◌}
use Rattle.std.specs.Option.{option_or}
use Rattle.std.proofs.lemmas.Bool.{ne_eqb, and_left, and_right}
use Rattle.stream_spec.specs.Ready.{Chunk}
use Rattle.mixer_spec.specs.Chunks.{has_chunk}
use Rattle.mixer_spec.specs.Rounds.{first_from, first_round}
use Rattle.mixer_spec.specs.Setups.{Setup}
use Rattle.mixer_spec.specs.Table.{Table}
use Rattle.mixer_spec.specs.Composed.{Answer, Asked, latest, run_of, since, is_switch, begin_with, answer_after, waits_here}
use Rattle.unaware_view.specs.declared.composers.Current.{Current}
use Rattle.unaware_view.specs.States.{State}
use Rattle.unaware_view.specs.Standing.{IsCurrent, NoneWaits, ComposerStandsFor, asked_now, given_now, waiting}
use Rattle.mixer_spec.proofs.Finish.{none_below}

-- ---- nobody is found
none_from : (p : ℕ → Bool) (n low count : ℕ) → low + count ≤ n → ((i : ℕ) → i < n → p i ≡ false) → first_from p low count ≡ None
none_from p n low zero l f = refl
none_from p n low (suc count) l f = rw (f low (omega arith)) (none_from p n (suc low) count (omega arith) f)

none_round : (p : ℕ → Bool) (start n : ℕ) → start ≤ n → ((i : ℕ) → i < n → p i ≡ false) → first_round p start n ≡ None
none_round p start n l f =
    ap (λ (o : Option ℕ). option_or o (first_from p 0 start)) (none_from p n start (n - start) (omega arith) f)
    ∙ none_from p n 0 start (omega arith) f

-- ---- nothing is given
none_after : (room legs : ℕ) (name : ℕ → List ℕ) (relabel : Option ℕ) (own now : ℕ) (waits : ℕ → List Chunk) (asks : List Asked) (s : Setup) (o : Option Answer) (c : Option Current) → s.legs ≡ legs
    → ((i : ℕ) → i < legs → waits_here own waits i ≡ false) → IsCurrent s own asks o c → answer_after room legs name relabel own now waits asks o ≡ None
none_after room legs name relabel own now waits asks s None c e f u = ap (λ (o : Option ℕ). begin_with room name waits asks o) (none_round (waits_here own waits) 0 legs (omega arith) f)
none_after room legs name relabel own now waits asks s (Some g) None e f u = absurd u
none_after room legs name relabel own now waits asks s (Some g) (Some x) e f u =
    let here : g.source < legs = let l = u.leg in let q = u.source in omega (arith, l, q, e) in
    let other : g.source ≡ own → ⊥ = λ q. u.other (sym u.source ∙ q) in
    let silent : has_chunk (waits g.source) ≡ false = sym (ap (λ (b : Bool). not b && has_chunk (waits g.source)) (ne_eqb g.source own other)) ∙ f g.source here in
    let none = none_below (λ s. not (s == g.source) && waits_here own waits s) legs (λ i l. and_right (not (i == g.source)) (waits_here own waits i) (f i l)) in
    let stays : is_switch legs own now waits asks g.source ≡ false = and_right (has_chunk (run_of asks)) _ (and_left _ _ none) in
    rw (stays, silent) refl

pub none_given : (s : Setup) (table : Table) (c : State) (media : ℕ) (due : Bool) (asks : List Asked) → ComposerStandsFor s c asks → NoneWaits s table c → given_now s table c media due asks ≡ None
none_given s table c media false asks h f = refl
none_given s table c media true asks h f = none_after (s.room c.own) s.legs s.name s.relabel c.own media (waiting table c) asks s (latest asks) c.current refl f h.current

-- ---- the composer behind it
or_none : (o : Option ℕ) → option_or o None ≡ o
or_none None = refl
or_none (Some n) = refl

current_then : (s : Setup) (own : ℕ) (a : Asked) (asks : List Asked) (o : Option Answer) (x : Option Current) → a.given ≡ None → IsCurrent s own asks o x → IsCurrent s own (a ∷ asks) o x
current_then s own a asks None None e u = tt
current_then s own a asks None (Some x) e u = absurd u
current_then s own a asks (Some g) None e u = absurd u
current_then s own a asks (Some g) (Some x) e u = record { source = u.source; given = rw e u.given; leg = u.leg; other = u.other }

pub passed : (s : Setup) (table : Table) (c : State) (media : ℕ) (due : Bool) (asks : List Asked) → ComposerStandsFor s c asks → NoneWaits s table c
    → ComposerStandsFor s (record c { asked = media + 1 }) (asked_now s table c media due asks)
passed s table c media due asks h f =
    let none = none_given s table c media due asks h f in
    let then : Asked = record { media = media; waiting = λ i. has_chunk (waiting table c i); given = None } in
    subst (λ (o : Option Answer). ComposerStandsFor s (record c { asked = media + 1 }) (record { media = media; waiting = λ i. has_chunk (waiting table c i); given = o } ∷ asks)) (sym none) (record {
      legs = h.legs;
      current = current_then s c.own then asks (latest asks) c.current refl h.current;
      waits_since = λ i l o.
          let silent : has_chunk (waiting table c i) ≡ false = sym (ap (λ (b : Bool). not b && has_chunk (waiting table c i)) (ne_eqb i c.own o)) ∙ f i l in
          h.waits_since i l o ∙ sym (ap (λ (b : Bool). option_or (since i asks) (cond b (Some media) None)) silent ∙ or_none (since i asks));
      run = h.run;
      asked = refl;
      relabel = h.relabel;
      room = h.room;
    })
