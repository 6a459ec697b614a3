-- How much is typed in a generated conference.
use Rattle.std.proofs.Common.{◌≡◌, ◌<◌, ◌≤◌, ◌*◌, ◌^◌, ℕ, List, length, get_or, ap, sym, subst, ◌∙◌, arith}
use Rattle.std.specs.Prelude.{All, None}
use Rattle.std.specs.List.{sum_by}
use Rattle.std.proofs.lemmas.List.Concat.{length-flat_map}
use Rattle.std.proofs.lemmas.List.Elements.{All-weaker}
use Rattle.std.proofs.lemmas.List.Sums.{sum_by-le}
use Rattle.file_spec.specs.Script.{ScriptLine}
use Rattle.command_spec.specs.Generated.{Generated, generated}
use Rattle.command_spec.specs.Scripts.{Sending, full_line, text_of_lines}
use Rattle.command_spec.proofs.Generating.{IsMade, IsSaid, generated_is}
use Rattle.rtt_make.specs.declared.conferences.Made.{Made}
use Rattle.rtt_make.proofs.NeverFull.{never_full}
use Rattle.rtt_make.specs.Mades.{made_of, IsGenerated}

pub is_made : (m : Made) → IsGenerated m → IsMade (made_of m)
is_made m h = subst (λ g. IsMade g) (sym h.1) (generated_is h.0)

pub few_scripts : (g : Generated) → IsMade g → length g.scripts ≤ 16
few_scripts g h = let a = h.few in let b = h.each_script in omega arith

pub few_lines : (g : Generated) → IsMade g → sum_by length g.scripts < 2 ^ 64
few_lines g h =
    let most = sum_by-le length 40 g.scripts (All-weaker (λ (s : List ScriptLine). length s ≡ 40) (λ s. length s ≤ 40) (λ s e. omega (arith, e)) g.scripts h.forty) in
    let few = few_scripts g h in
    omega (arith, most, few)

octets : (s : List ScriptLine) → length s ≡ 40 → All (IsSaid 0 41000) s → length (text_of_lines s) ≤ 600
octets s forty said =
    let most = sum_by-le (λ (l : ScriptLine). length l.text) 15 s (All-weaker (IsSaid 0 41000) (λ (l : ScriptLine). length l.text ≤ 15) (λ l h. h.typed.short) s said) in
    let whole = length-flat_map (λ (l : ScriptLine). l.text) s in
    omega (arith, most, whole)

pub few_octets : (g : Generated) → IsMade g → sum_by (λ s. length (text_of_lines s)) g.scripts < 2 ^ 64
few_octets g h =
    let each : All (λ (s : List ScriptLine). length (text_of_lines s) ≤ 600) g.scripts = λ k d within. octets (get_or g.scripts k d) (h.forty k d within) (h.said k d within) in
    let most = sum_by-le (λ (s : List ScriptLine). length (text_of_lines s)) 600 g.scripts each in
    let few = few_scripts g h in
    omega (arith, most, few)

-- what holds of each script holds of the one at an index
pub script_at : (P : List ScriptLine → Type 0) (all seen : List (List ScriptLine)) (leg : ℕ) (script : List ScriptLine) → seen ≡ all → script ≡ get_or seen leg script
    → leg < length all → All P all → P script
script_at P all seen leg script same is within h =
    subst P (ap (λ (l : List (List ScriptLine)). get_or l leg script) (sym same) ∙ sym is) (h leg script within)

-- no line of it is full, whatever sends it
pub never_full_line : (s : Sending) (script : List ScriptLine) → All (IsSaid 0 41000) script → length script ≡ 40 → full_line s script ≡ None
never_full_line s script said forty =
    never_full s script (All-weaker (IsSaid 0 41000) (λ (l : ScriptLine). length l.text ≤ 15) (λ l h. h.typed.short) script said) (omega (arith, forty))
