-- Keep-alives, by computing: what an idle terminal sends is heard as it came, and is nothing to a mixer.
use Rattle.std.proofs.Common.{◌≡◌, ℕ, true, List, [], ◌∷◌, refl}
use Rattle.wire_spec.specs.Packets.{Arrival}
use Rattle.stream_spec.specs.Hearing.{heard}
use Rattle.stream_spec.specs.Ready.{chunk, chunks}
use Rattle.stream_spec.specs.Still.{still, still_text}
use Rattle.stream_spec.proofs.Examples.{at, block, red}

-- U+FEFF
abbrev pub keep_alive : List ℕ
keep_alive = 0xEF ∷ 0xBB ∷ 0xBF ∷ []

-- three of them, 900 ms apart
abbrev pub idle : List Arrival
idle = at 1800 (red true 2 1800 (block 16383 [] ∷ block 900 keep_alive ∷ []) keep_alive)
    ∷ at 900 (red true 1 900 (block 16383 [] ∷ block 900 keep_alive ∷ []) keep_alive)
    ∷ at 0 (red true 0 0 (block 16383 [] ∷ block 16383 [] ∷ []) keep_alive) ∷ []

as_they_came : heard 1000 idle 1001 ≡ keep_alive ∷ keep_alive ∷ keep_alive ∷ []
as_they_came = refl

to_a_mixer : chunks 1000 1 (still idle) 1001 ≡ []
to_a_mixer = refl

-- a letter of a packet that was lost is heard once the gap is given up; a text that has more than U+FEFF is as it was
with_a_letter : chunks 1000 1 (still (at 1800 (red true 2 1800 (block 16383 [] ∷ block 900 (65 ∷ []) ∷ []) keep_alive) ∷ at 0 (red true 0 0 (block 16383 [] ∷ block 16383 [] ∷ []) keep_alive) ∷ [])) 1001 ≡ chunk 1 2800 (65 ∷ []) ∷ []
with_a_letter = refl

several : still_text (0xEF ∷ 0xBB ∷ 0xBF ∷ 0xEF ∷ 0xBB ∷ 0xBF ∷ []) ≡ []
several = refl

not_alone : still_text (0xEF ∷ 0xBB ∷ 0xBF ∷ 65 ∷ []) ≡ 0xEF ∷ 0xBB ∷ 0xBF ∷ 65 ∷ []
not_alone = refl
