-- Three blocks whose offsets are small.
use Rattle.std.proofs.Common.{◌≡◌, List, [], ◌∷◌, ◌++◌, All, subst, sym, ap, ◌∙◌}
use Rattle.std.proofs.lemmas.List.Elements.{All-from_recursion}
use Rattle.rtt_base.specs.declared.blocks.TextBlock.{TextBlock}
use Rattle.rtp_text.specs.Writing.{HasOffset}

pub three_blocks : (none one two three : List TextBlock) (a b c : TextBlock) → none ≡ [] → one ≡ none ++ a ∷ [] → two ≡ one ++ b ∷ [] → three ≡ two ++ c ∷ [] → HasOffset a → HasOffset b → HasOffset c → All HasOffset three
three_blocks none one two three a b c e p q r h k l =
    let all : three ≡ a ∷ b ∷ c ∷ [] = r ∙ ap (λ (bs : List TextBlock). bs ++ c ∷ []) (q ∙ ap (λ (bs : List TextBlock). bs ++ b ∷ []) (p ∙ ap (λ (bs : List TextBlock). bs ++ a ∷ []) e)) in
    subst (All HasOffset) (sym all) (All-from_recursion HasOffset (a ∷ b ∷ c ∷ []) (h, (k, (l, tt))))
