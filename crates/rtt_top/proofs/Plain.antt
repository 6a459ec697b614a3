-- Of another command than those that need no thread nothing is answered, unless memory ran out.
use Rattle.std.proofs.Common.{◌≡◌, ℕ, Bool, false, true≢false, Option, Some, None, refl, ap, sym, ◌∙◌}
use Rattle.std.specs.Prelude.{IfSome, is_some}
use Rattle.rtt_words.specs.Words.{Command}
use Rattle.rtt_top.specs.Runs.{is_plain}

pub is_other : (words : Option Command) (c : Command) (some : Bool) → some ≡ is_plain (Some c) → words ≡ Some c → is_plain words ≡ false → some ≡ false
is_other words c some s is other = s ∙ (ap is_plain (sym is) ∙ other)

pub none_of : (r : Option ℕ) → is_some r ≡ false → r ≡ None
none_of None n = refl
none_of (Some status) n = absurd (true≢false n)

pub only_none : (r : Option ℕ) → r ≡ None → IfSome r (λ status. status ≡ 70)
only_none None n = tt
only_none (Some status) n = absurd (cc n)

pub words_are_plain : (words : Option Command) → words ≡ None → is_plain words ≡ false → ⊥
words_are_plain words none other = true≢false (sym (ap is_plain none) ∙ other)
