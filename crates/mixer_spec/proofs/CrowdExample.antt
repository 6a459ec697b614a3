-- Seventeen legs at sixteen places, by computing: the last one comes when the first has gone.
use Rattle.std.proofs.Common.{◌≡◌, ℕ, List, [], ◌∷◌, refl}
use Rattle.std.specs.Prelude.{codes}
use Rattle.stream_spec.specs.Ready.{Chunk}
use Rattle.mixer_spec.specs.Setups.{Setup}
use Rattle.mixer_spec.specs.Plain.{plain}
use Rattle.mixer_spec.proofs.CallExample.{relieved, typed_last, sent_to, moments, hears}

-- the first stays until 4000, and the last from 5000 until 9000
abbrev seventeen : Setup
seventeen = relieved 16 16 4000 5000 9000

abbrev typed : ℕ → List Chunk
typed = typed_last 16 6000

to_second : moments (sent_to 1 (plain seventeen 200 40 typed)) ≡ 6000 ∷ 6400 ∷ 6800 ∷ []
to_second = refl

second_hears : hears seventeen [] 1 16 (plain seventeen 200 40 typed) ≡ codes "x" ∷ []
second_hears = refl

sixteenth_hears : hears seventeen [] 15 16 (plain seventeen 200 40 typed) ≡ codes "x" ∷ []
sixteenth_hears = refl

none_to_first : sent_to 0 (plain seventeen 200 40 typed) ≡ []
none_to_first = refl
