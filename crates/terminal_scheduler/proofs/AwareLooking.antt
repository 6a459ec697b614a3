-- Whether a leg is due.
use Rattle.std.proofs.Common.{◌≡◌, ℕ, ◌<◌, Bool, true, false, not, ◌&&◌, ◌||◌, refl, ap, sym, ◌∙◌}
use Rattle.std.specs.Prelude.{◌==◌, nat_lt, slice_index}
use Rattle.std.proofs.lemmas.Bool.{eq-eqb, ne_eqb}
use Rattle.stream_spec.specs.Own.{has_text_in}
use Rattle.mixer_spec.specs.Setups.{Setup}
use Rattle.mixer_spec.specs.Table.{Terminal, has_work, is_due, is_spaced, last_media, sent_from}
use Rattle.terminal_scheduler.specs.AwareStates.{AwareState}
use Rattle.terminal_scheduler.specs.AwareStanding.{AwareStandsFor}
use Rattle.terminal_scheduler.proofs.Repeating.{still_left}

-- text of the leg is still to be repeated
pub repeats_here : (s : Setup) (j i : ℕ) (o : AwareState) (d : Terminal) → AwareStandsFor s j o d → i < s.legs → nat_lt 0 (slice_index o.left i) ≡ has_text_in (s.generations j) (sent_from (s.ssrc i) d)
repeats_here s j i o d h l = ap (λ (n : ℕ). nat_lt 0 n) (h.left i l) ∙ sym (still_left (s.generations j) (sent_from (s.ssrc i) d))

pub or_first : (b a x : Bool) → b ≡ true → b ≡ a → b ≡ (a || x)
or_first b a x t e = t ∙ ap (λ (y : Bool). y || x) (sym t ∙ e)

pub or_second : (b a r x : Bool) → b ≡ false → b ≡ a → r ≡ x → r ≡ (a || x)
or_second b a r x f e g = g ∙ ap (λ (y : Bool). y || x) (sym f ∙ e)

-- another leg, which is spaced
pub due_by_work : (s : Setup) (j t i : ℕ) (d : Terminal) (work spaced : Bool) → (i ≡ j → ⊥) → spaced ≡ true → spaced ≡ is_spaced s.spacing t (last_media (sent_from (s.ssrc i) d))
    → work ≡ has_work s j d i → work ≡ is_due s j t d i
due_by_work s j t i d work spaced n y e w = go (i == j) (has_work s j d i) (is_spaced s.spacing t (last_media (sent_from (s.ssrc i) d))) (ne_eqb i j n) (sym e ∙ y) w
  where
    go : (o h p : Bool) → o ≡ false → p ≡ true → work ≡ h → work ≡ (not o && (h && p))
    go true h p f y e = cc f
    go false true p f y e = e ∙ sym y
    go false false p f y e = e

pub not_due_own : (s : Setup) (j t i : ℕ) (d : Terminal) → i ≡ j → false ≡ is_due s j t d i
not_due_own s j t i d e = ap (λ (o : Bool). not o && (has_work s j d i && is_spaced s.spacing t (last_media (sent_from (s.ssrc i) d)))) (sym (eq-eqb i j e))

pub not_due_yet : (s : Setup) (j t i : ℕ) (d : Terminal) → false ≡ is_spaced s.spacing t (last_media (sent_from (s.ssrc i) d)) → false ≡ is_due s j t d i
not_due_yet s j t i d e = go (i == j) (has_work s j d i) (is_spaced s.spacing t (last_media (sent_from (s.ssrc i) d))) e
  where
    go : (o h p : Bool) → false ≡ p → false ≡ (not o && (h && p))
    go true h p e = refl
    go false true p e = e
    go false false p e = refl
