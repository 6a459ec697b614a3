-- An entry more in a batch.
use Rattle.std.proofs.Common.{◌≡◌, ◌≤◌, ℕ, ◌+◌, List, [], ◌∷◌, ◌++◌, length, ap, ap₂, ◌∙◌, arith, drop}
use Rattle.std.proofs.lemmas.List.{take-append-le, drop-append-le, take_all, length-drop}
use Rattle.live_spec.specs.Recorded.{Entry}
use Rattle.recorded_links.specs.declared.notes.Note.{Note}
use Rattle.recorded_links.specs.Notes.{entries_in, octets_of}
use Rattle.recorded_links.specs.Places.{entry}

pub octets_more : (ns : List Note) (n : Note) → octets_of (ns ++ n ∷ []) ≡ octets_of ns + n.len
octets_more [] n = omega arith
octets_more (m ∷ ns) n = let more = octets_more ns n in omega (arith, more)

pub entries_more : (ns : List Note) (n : Note) (octets more : List ℕ) → octets_of ns ≡ length octets → n.len ≡ length more
    → entries_in (ns ++ n ∷ []) (octets ++ more) ≡ entries_in ns octets ++ entry n.at more ∷ []
entries_more [] n [] more whole long = ap (λ l. entry n.at l ∷ []) (take_all n.len more (omega (arith, long)))
entries_more [] n (x ∷ octets) more whole long = absurd (omega (arith, whole))
entries_more (m ∷ ns) n octets more whole long =
    let low : m.len ≤ length octets = omega (arith, whole) in
    let rest : octets_of ns ≡ length (drop m.len octets) = omega (arith, whole, length-drop m.len octets) in
    ap₂ (λ (f : List ℕ) (l : List Entry). entry m.at f ∷ l) (take-append-le m.len octets more low)
    (ap (entries_in (ns ++ n ∷ [])) (drop-append-le m.len octets more low) ∙ entries_more ns n (drop m.len octets) more rest long)
