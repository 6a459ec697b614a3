-- One packet of text more.
use Rattle.std.proofs.Common.{◌≡◌, ℕ, ◌+◌, ◌≤◌, true, false, List, [], ◌∷◌, ap, sym, ◌∙◌, arith}
use Rattle.std.specs.Prelude.{◌==◌, max, if◌then◌else◌}
use Rattle.std.proofs.lemmas.Bool.{eq-eqb, ne_eqb}
use Rattle.stream_spec.specs.Numbering.{Numbered, nearest, number_after, first_number, greatest}
use Rattle.rtt_show.specs.declared.spreads.Spread.{Spread}
use Rattle.rtt_show.specs.Spreads.{IsSpread, IsNarrow, SpreadsBy}

-- whether none came before
none_came : (s : Spread) → IsSpread s [] → (s.packets == 0) ≡ true
none_came s i = eq-eqb s.packets 0 i.packets

some_came : (s : Spread) (x : Numbered) (past : List Numbered) → IsSpread s (x ∷ past) → (s.packets == 0) ≡ false
some_came s x past i = ne_eqb s.packets 0 (λ e. omega (arith, e, i.packets))

number_is : (old : Spread) (seq : ℕ) (past : List Numbered) → IsSpread old past → (if old.packets == 0 then seq + 65536 else nearest old.top seq) ≡ number_after past seq
number_is old seq [] i = ap (λ b. if b then seq + 65536 else nearest old.top seq) (none_came old i)
number_is old seq (x ∷ past) i = ap (λ b. if b then seq + 65536 else nearest old.top seq) (some_came old x past i) ∙ ap (λ n. nearest n seq) i.top

first_is : (old : Spread) (number : ℕ) (past : List Numbered) (e : Numbered) → IsSpread old past → e.number ≡ number → (if old.packets == 0 then number else old.first) ≡ first_number e.number past
first_is old number [] e i same = ap (λ b. if b then number else old.first) (none_came old i) ∙ sym same
first_is old number (x ∷ past) e i same = ap (λ b. if b then number else old.first) (some_came old x past i) ∙ i.first

pub spread_by : (old new : Spread) (seq number : ℕ) → number ≡ (if old.packets == 0 then seq + 65536 else nearest old.top seq) → new.packets ≡ old.packets + 1 → new.first ≡ (if old.packets == 0 then number else old.first) → new.top ≡ max old.top number
    → SpreadsBy old seq number new
spread_by old new seq number n p f t = record {
  is = λ past i. n ∙ number_is old seq past i;
  more = λ past e i same. record {
    packets = omega (arith, p, i.packets);
    first = f ∙ first_is old number past e i same;
    top = t ∙ (ap (λ k. max k number) i.top ∙ ap (max (greatest past)) (sym same));
  };
}

pub narrow_by : (n : ℕ) (old new : Spread) (number : ℕ) → new.packets ≡ old.packets + 1 → new.top ≡ max old.top number → number ≤ max old.top 98304 + 32767 → IsNarrow n old → IsNarrow (n + 1) new
narrow_by n old new number p t near i = record { packets = omega (arith, p, i.packets); top = omega (arith, t, near, i.top) }
