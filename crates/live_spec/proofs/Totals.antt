-- What the mixer took of each leg covers what it gave of it.
use Rattle.std.proofs.Common.{◌≡◌, ℕ, ◌+◌, ◌≤◌, List, [], ◌∷◌, ◌++◌, length, refl, ap, sym, ◌∙◌, arith}
use Rattle.std.specs.List.{concat}
use Rattle.std.proofs.lemmas.List.{length-append}
use Rattle.std.proofs.lemmas.List.Folds.{concat-append}
use Rattle.stream_spec.specs.Carries.{Groups, texts_by}
use Rattle.stream_spec.specs.Ready.{Chunk}
use Rattle.file_spec.specs.Conference.{Conference}
use Rattle.mixer_spec.specs.Bridged.{told_at, waiting_texts}
use Rattle.mixer_spec.specs.Chunks.{octets, texts_of}
use Rattle.mixer_spec.specs.Setups.{setup}
use Rattle.mixer_spec.specs.Table.{Table, chunks_taken}
use Rattle.stream_spec.specs.Links.{Takes}
use Rattle.live_spec.specs.Served.{End, chunks_live, heard_live}
use Rattle.live_spec.proofs.HeardLive.{live_heard}
use Rattle.live_spec.specs.HeadLive.{HeadLive, IsToldLive}
use Rattle.live_spec.specs.Watched.{CoversTold, octets_told}
use Rattle.mixer_spec.proofs.Plain.{octets_append as octets_both}

nothing_before : (a b : ℕ) → a ≡ b → a ≡ 0 + b
nothing_before a b e = omega (arith, e)

-- ---- sizes
abbrev size : List (List ℕ) → ℕ
size ts = length (concat ts)

size_both : (xs ys : List (List ℕ)) → size (xs ++ ys) ≡ size xs + size ys
size_both xs ys = ap length (concat-append xs ys) ∙ length-append (concat xs) (concat ys)

octets_are : (cs : List Chunk) → octets cs ≡ size (texts_of cs)
octets_are [] = refl
octets_are (c ∷ cs) = ap (λ n. length c.text + n) (octets_are cs) ∙ sym (length-append c.text (concat (texts_of cs)))

-- ---- groups
one_group : (all group more text texts rest with_it : ℕ) → all ≡ group + more → text ≡ group → more ≡ texts + rest → with_it ≡ text + texts → all ≡ with_it + rest
one_group all group more text texts rest with_it a b c d = omega (arith, a, b, c, d)

-- what entries carry, and what is left, are all texts
groups_size : (es texts rest : List (List ℕ)) → Groups es texts rest → size texts ≡ size es + size rest
groups_size [] texts rest g = nothing_before (size texts) (size rest) (ap size g)
groups_size (e ∷ es) texts rest g =
    one_group (size texts) (size g.0) (size g.1) (length e) (size es) (size rest) (size (e ∷ es))
    (ap size g.2 ∙ size_both g.0 g.1) (ap length g.3) (groups_size es g.1 rest g.5) (length-append e (concat es))

-- ---- the whole
covers : (told taken behind rest waits heard : ℕ) → heard ≡ told + rest → heard ≡ taken + behind → rest ≡ waits + behind → told ≤ taken
covers told taken behind rest waits heard a b c = omega (arith, a, b, c)

told_is_covered : (c : Conference) (takes : ℕ → Takes) (table : Table) (end : End) (j i : ℕ) → IsToldLive c takes table end j i
    → octets_told (told_at (setup c) table j) ((setup c).ssrc i) ≤ octets (chunks_taken (table.taken i))
told_is_covered c takes table end j i t =
    let heard = heard_live c takes i in
    let taken = chunks_taken (table.taken i) in
    let behind = t.left.0 in
    let waits = waiting_texts table j i in
    let texts = texts_by ((setup c).ssrc i) (told_at (setup c) table j).entries in
    let all : size heard ≡ octets taken + octets behind =
    ap size (sym (live_heard c takes i))
    ∙ (sym (octets_are (chunks_live c takes i)) ∙ (ap octets (sym t.left.1) ∙ octets_both taken behind)) in
    let rest : size t.rest ≡ size waits + octets behind = ap size t.left.2 ∙ (size_both waits (texts_of behind) ∙ ap (λ n. size waits + n) (sym (octets_are behind))) in
    covers (size texts) (octets taken) (octets behind) (size t.rest) (size waits) (size heard) (groups_size texts heard t.rest t.front) all rest

pub covers_told : (c : Conference) (takes : ℕ → Takes) (given : ℕ → List (List ℕ)) (end : End) (printed : List ℕ) (h : HeadLive c takes given end printed) → CoversTold c h.served.table
covers_told c takes given end printed h = λ j i p. told_is_covered c takes h.served.table end j i (h.told j i p)
