-- Wrong ways of mixing, which the examples tell from the right one: a leg that leaves before its text is repeated, one that
-- comes before its stay begins, and room that is counted at each terminal for itself.
use Rattle.std.proofs.Common.{◌≡◌, ℕ, zero, suc, ◌+◌, ◌*◌, Bool, true, false, cond, Option, Some, None, List, [], ◌∷◌, ◌++◌, refl}
use Rattle.std.specs.Prelude.{codes, not, replicate, ◌==◌, ◌&&◌, ◌||◌, nat_le, if◌then◌else◌}
use Rattle.std.specs.Str.{chars}
use Rattle.std.specs.Char.{encode_utf8}
use Rattle.view_spec.specs.Characters.{class_of}
use Rattle.view_spec.specs.Ends.{ends_line, ends_sentence}
use Rattle.view_spec.specs.TextViews.{label, label_after}
use Rattle.stream_spec.specs.Ready.{Chunk, chunk}
use Rattle.mixer_spec.specs.Chunks.{has_chunk}
use Rattle.mixer_spec.specs.Rounds.{all_below, set_at}
use Rattle.mixer_spec.specs.Setups.{Setup, in_stay}
use Rattle.mixer_spec.specs.Table.{Table, empty, is_fit, is_seated, is_given, given, turned, freed, stopped}
use Rattle.mixer_spec.specs.Plain.{Desk, offers_below, comes_below, goes_below, before_turn, is_over}
use Rattle.mixer_spec.proofs.CallExample.{two, said, break, sent_to, moments, hears}
use Rattle.mixer_spec.proofs.StayExample.{mixed, ann_goes, bob_comes}

-- as `plain` does with this in place of `before_turn`
abbrev mixed_from : (Setup → ℕ → Desk → Desk) → Setup → ℕ → ℕ → Desk → Option Table
mixed_from before s zero k d = let v = before s (k * 100) d in if is_over s v then Some v.table else None
mixed_from before s (suc n) k d =
    let v = before s (k * 100) d in
    elim (is_over s v) as (λ b. Option Table) [
      | true ↦ Some v.table
      | false ↦ mixed_from before s n (suc k) (record { left = v.left; table = turned s (k * 100) v.table })
    ]

abbrev mixed_by : (Setup → ℕ → Desk → Desk) → Setup → ℕ → (ℕ → List Chunk) → Option Table
mixed_by before s turns chunks = mixed_from before s turns 0 (record { left = λ i. in_stay s i (chunks i); table = empty })

-- with the right one it is `plain`
same_until : mixed_by before_turn ann_goes 40 said ≡ mixed ann_goes 40 said
same_until = refl

-- ---- a leg leaves where its text waits nowhere, though it is still to be repeated
abbrev waits_nowhere : Setup → ℕ → Table → Bool
waits_nowhere s i table = all_below (λ j. not (has_chunk ((table.terminals j).waits i) || has_chunk ((table.terminals i).waits j))) s.legs

abbrev leaves_early : Setup → ℕ → ℕ → Table → Table
leaves_early s i t table = if not (table.seats.listens i) && waits_nowhere s i table then freed i table else table

abbrev left_early : Setup → ℕ → List Chunk → Table → ℕ → Table
left_early s i [] table t = leaves_early s i t table
left_early s i (c ∷ cs) table t = table

abbrev goes_early : Setup → ℕ → ℕ → Desk → Desk
goes_early s t zero d = d
goes_early s t (suc n) d = let v = goes_early s t n d in record { left = v.left; table = left_early s n (v.left n) (stopped s n t v.table) t }

abbrev early_leaving : Setup → ℕ → Desk → Desk
early_leaving s t d = offers_below s t s.legs (comes_below s t s.legs (goes_early s t s.legs d))

-- What Ann typed last is not repeated, and mixing is never over: her text is still due at Bob, and she has no place there.
gone_early : mixed_by early_leaving ann_goes 40 said ≡ None
gone_early = refl

-- ---- a leg comes where a place is free, whenever its stay begins
abbrev comes_early : Setup → ℕ → ℕ → Desk → Desk
comes_early s t n d = comes_below (record s { from = λ i. 0 }) t n d

abbrev early_coming : Setup → ℕ → Desk → Desk
early_coming s t d = offers_below s t s.legs (comes_early s t s.legs (goes_below s t s.legs d))

-- Bob hears what was typed before he was there.
came_early : hears bob_comes [] 1 0 (mixed_by early_coming bob_comes 40 said) ≡ codes "H" ∷ codes "e" ∷ (codes "y" ++ break) ∷ []
came_early = refl

-- ---- a chunk is taken where each terminal that is given it has room for itself
abbrev room_each : Setup → ℕ → Chunk → Table → Bool
room_each s i c table = is_seated table.seats i && all_below (λ j. not (is_given table.seats i j) || is_fit ((table.terminals j).waits i ++ c ∷ [])) s.legs

abbrev offers_each : Setup → ℕ → ℕ → Table → List Chunk → Desk → Desk
offers_each s i t table [] d = record { left = set_at d.left i []; table = table }
offers_each s i t table (c ∷ cs) d =
    elim (nat_le c.ready t && room_each s i c table) as (λ b. Desk) [
      | true ↦ offers_each s i t (given i c table) cs d
      | false ↦ record { left = set_at d.left i (c ∷ cs); table = table }
    ]

abbrev each_below : Setup → ℕ → ℕ → Desk → Desk
each_below s t zero d = d
each_below s t (suc n) d = let v = each_below s t n d in offers_each s n t v.table (v.left n) v

abbrev room_at_each : Setup → ℕ → Desk → Desk
room_at_each s t d = each_below s t s.legs (comes_below s t s.legs (goes_below s t s.legs d))

-- Bob and Ann are at aware terminals. Cy is not aware, and stays until 100: there Bob speaks, and what Ann typed waits
-- behind him. At 100 she types one letter more than the 512 that wait.
abbrev cy_goes : Setup
cy_goes = record two { legs = 3; ssrc = λ j. 1001 + j; aware = λ j. not (j == 2); until = λ i. cond (i == 2) (Some 100) None }

abbrev many : ℕ → List Chunk
many i = cond (i == 0) (chunk 0 0 (codes "hm") ∷ []) (cond (i == 1) (replicate 512 (chunk 1 0 (codes "x")) ++ chunk 1 100 (codes "y") ∷ []) [])

-- The span of Ann is full until Cy is given it, though nothing waits at Bob, who is listening.
span_held : moments (sent_to 0 (mixed cy_goes 60 many)) ≡ 0 ∷ 300 ∷ 600 ∷ 2100 ∷ 2400 ∷ 2700 ∷ []
unfolding ends_line ends_sentence label label_after encode_utf8 class_of chars
span_held = refl

span_each : moments (sent_to 0 (mixed_by room_at_each cy_goes 60 many)) ≡ 0 ∷ 300 ∷ 600 ∷ 900 ∷ []
unfolding ends_line ends_sentence label label_after encode_utf8 class_of chars
span_each = refl
