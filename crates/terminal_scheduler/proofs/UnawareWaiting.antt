-- What waits at a terminal that is not aware, and what is still to be repeated there.
use Rattle.std.proofs.Common.{◌≡◌, ℕ, ◌<◌, Bool, true, false, not, ◌&&◌, ◌||◌, List, [], ◌∷◌, refl, ap, sym, ◌∙◌}
use Rattle.std.specs.Prelude.{◌==◌}
use Rattle.std.proofs.lemmas.Bool.{ne_eqb}
use Rattle.stream_spec.specs.Own.{Sent, sent_of, has_text_in}
use Rattle.mixer_spec.specs.Chunks.{has_chunk}
use Rattle.mixer_spec.specs.Rounds.{all_below}
use Rattle.mixer_spec.specs.Composed.{waits_here}
use Rattle.mixer_spec.specs.Setups.{Setup}
use Rattle.mixer_spec.specs.Table.{Terminal, sents, sent_from, has_work, is_quiet}
pub use Rattle.terminal_scheduler.proofs.Below.{fails_at, all_more}
use Rattle.terminal_scheduler.specs.UnawareStanding.{AreBy, UnawareStandsFor, none_here}
use Rattle.terminal_scheduler.specs.UnawareStates.{UnawareState}
pub use Rattle.stream_spec.proofs.Plain.{no_text}
use Rattle.std.proofs.Math.Bool.{or-false as or_none}
use Rattle.mixer_spec.proofs.Plain.{all_same}

-- nothing was sent of another source
pub none_of : (source x : ℕ) (es : List Sent) → AreBy source es → (x ≡ source → ⊥) → sent_of x es ≡ []
none_of source x [] h n = refl
none_of source x (e ∷ es) h n = rw (ne_eqb e.source x (λ q. n (sym q ∙ h.0))) (none_of source x es h.1 n)

-- work of another leg is what waits of it
pub work_is : (s : Setup) (j : ℕ) (o : UnawareState) (d : Terminal) (i : ℕ) → UnawareStandsFor s j o d → i < s.legs → has_work s j d i ≡ has_chunk (d.waits i)
work_is s j o d i h l =
    ap (λ (es : List Sent). has_chunk (d.waits i) || has_text_in (s.generations j) es) (none_of s.mixer (s.ssrc i) (sents d.past) h.by_mixer (h.setup.mixer_differs i l))
    ∙ (ap (λ (b : Bool). has_chunk (d.waits i) || b) (no_text (s.generations j)) ∙ or_none (has_chunk (d.waits i)))

pub quiet_is : (s : Setup) (j : ℕ) (o : UnawareState) (d : Terminal) → UnawareStandsFor s j o d
    → is_quiet s j d ≡ (not (has_text_in (s.generations j) (sent_from s.mixer d)) && all_below (none_here j d) s.legs)
quiet_is s j o d h =
    ap (λ (b : Bool). not (has_text_in (s.generations j) (sent_from s.mixer d)) && b)
    (all_same (λ i. (i == j) || not (has_work s j d i)) (none_here j d) s.legs (λ i l. ap (λ (b : Bool). (i == j) || not b) (work_is s j o d i h l)))

-- nothing waits of a leg of which nothing is here
pub none_false : (own : ℕ) (d : Terminal) (i : ℕ) → none_here own d i ≡ true → waits_here own d.waits i ≡ false
none_false own d i e = go (i == own) (has_chunk (d.waits i)) e
  where
    go : (a b : Bool) → (a || not b) ≡ true → (not a && b) ≡ false
    go true b q = refl
    go false true q = cc
    go false false q = refl
