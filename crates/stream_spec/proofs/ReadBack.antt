-- The packets of an own history tell it.
use Rattle.std.proofs.Common.{◌≡◌, ℕ, ◌+◌, ◌%◌, ◌^◌, ◌<◌, ◌≤◌, inl, inr, List, [], ◌∷◌, length, refl, ap, ◌∙◌, arith}
use Rattle.std.specs.Prelude.{map}
use Rattle.stream_spec.specs.Lists.{In}
use Rattle.stream_spec.specs.History.{History, Entry, Placed, Lawful, placed_at, placed_after, placed}
use Rattle.stream_spec.specs.Own.{Own, own_packet, media_of, entries_of, first_seq, first_ssrc, history_of}
use Rattle.stream_spec.proofs.Places.{place_from}
use Rattle.stream_spec.proofs.OwnPackets.{own_is_packet}

pub media_is : (base m n : ℕ) → m ≤ n → n < m + 2 ^ 32 → media_of base m ((base + n) % 2 ^ 32) ≡ n
media_is base m n l u = omega arith

pub entries_back : (g : ℕ) (h : History) → Lawful h → Own g h → (before es : List Entry) (m : ℕ) → ((x : Placed) → In x (placed_after before es) → In x (placed h))
    → ((x : Placed) → In x (placed_after before es) → (m ≤ x.media) × (x.media < m + 2 ^ 32)) → entries_of h.base m (map (own_packet h) (placed_after before es)) ≡ es
entries_back g h law own before [] m f n = refl
entries_back g h law own before (e ∷ es) m f n =
    let x : Placed = placed_at before e in
    let i = f x (inl refl) in
    let near = n x (inl refl) in
    let media = media_is h.base m e.media near.0 near.1 in
    let is = own_is_packet g h x law own i in
    let rest = entries_back g h law own (e ∷ before) es e.media (λ y j. f y (inr j)) (λ y j.
    let k = f y (inr j) in
    let p = place_from (e ∷ before) es y j in
    let o = law.orders x y i k (omega arith) in
    let s = law.spans y x k i in (omega arith, omega arith)) in
    rw (media, is.count, is.oldest, rest) refl

-- a history that begins below 65536 and whose entries are read back is read back
pub history_read : (h : History) → 0 < length h.entries → h.first < 65536 → entries_of h.base 0 (map (own_packet h) (placed h)) ≡ h.entries → history_of (map (own_packet h) (placed h)) h.base ≡ h
history_read h some small back = go h.entries refl
  where
    of : ℕ → ℕ → List Entry → History
    of ssrc first es = record { ssrc = ssrc; first = first; base = h.base; entries = es }

    go : (es : List Entry) → h.entries ≡ es → history_of (map (own_packet h) (placed h)) h.base ≡ h
    go [] e = absurd (omega (arith, some, ap length e))
    go (f ∷ es) e =
        let ssrc : first_ssrc (map (own_packet h) (placed h)) ≡ h.ssrc = ap (λ xs. first_ssrc (map (own_packet h) (placed_after [] xs))) e in
        let seq : first_seq (map (own_packet h) (placed h)) ≡ (h.first + 0) % 65536 = ap (λ xs. first_seq (map (own_packet h) (placed_after [] xs))) e in
        let first : first_seq (map (own_packet h) (placed h)) ≡ h.first = omega (arith, seq, small) in
        ap (λ n. of n (first_seq (map (own_packet h) (placed h))) (entries_of h.base 0 (map (own_packet h) (placed h)))) ssrc
        ∙ (ap (λ n. of h.ssrc n (entries_of h.base 0 (map (own_packet h) (placed h)))) first ∙ ap (of h.ssrc h.first) back)

pub history_back : (g : ℕ) (h : History) → Lawful h → Own g h → 0 < length h.entries → h.first < 65536 → ((x : Placed) → In x (placed h) → x.media < 2 ^ 32)
    → history_of (map (own_packet h) (placed h)) h.base ≡ h
history_back g h law own some small near =
    history_read h some small (entries_back g h law own [] h.entries 0 (λ x i. i) (λ x i. let n = near x i in (omega arith, omega arith)))
