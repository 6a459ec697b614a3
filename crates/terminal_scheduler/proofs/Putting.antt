-- What a turn sends, by what was sent before and after it.
use Rattle.std.proofs.Common.{◌≡◌, ℕ, suc, Bool, Some, None, List, [], ◌∷◌, length, refl, arith}
use Rattle.std.proofs.lemmas.Bool.{eq-eqb, ne_eqb}
use Rattle.mixer_spec.specs.Table.{TurnEntry}
use Rattle.terminal_scheduler.specs.Turns.{Puts, new_entry, number_of}

-- nothing was sent
pub puts_none : (aware : Bool) (t : ℕ) (past : List TurnEntry) (text : List ℕ) → Puts aware t (new_entry past past) None text
puts_none aware t [] text = refl
puts_none aware t (e ∷ past) text = rw (ne_eqb (length past) (suc (length past)) (λ q. omega (arith, q))) refl

-- one entry was
pub puts_one : (aware : Bool) (t : ℕ) (e : TurnEntry) (past : List TurnEntry) (text : List ℕ) → text ≡ e.sent.text → e.sent.media ≡ t
    → Puts aware t (new_entry past (e ∷ past)) (Some (number_of aware e)) text
puts_one aware t e past text w m = rw (eq-eqb (length past) (length past) refl) (refl, w, m)
