-- A listener who comes later, and a marker before it came, by computing: which marker is whose.
use Rattle.std.proofs.Common.{◌≡◌, ◌<◌, ◌+◌, ℕ, Bool, true, cond, Option, Some, None, List, [], ◌∷◌, ◌++◌, length, refl, subst, sym, arith, inl, inr}
use Rattle.std.specs.Prelude.{codes, map, take, drop, nat_lt, ◌==◌, ◌&&◌}
use Rattle.std.proofs.lemmas.Bool.{and_parts, ltb-true}
use Rattle.stream_spec.specs.Lists.{In}
use Rattle.stream_spec.specs.Hearing.{marker}
use Rattle.stream_spec.specs.History.{History, Placed, nowhere, placed}
use Rattle.stream_spec.specs.Kept.{Item, Marker, Block, texts}
use Rattle.stream_spec.specs.Ready.{Chunk, chunks}
use Rattle.stream_spec.specs.Own.{Sent, sent_history, own_packet}
use Rattle.mixer_spec.specs.Setups.{Setup, stream, in_stay}
use Rattle.mixer_spec.specs.Table.{Table, packets}
use Rattle.mixer_spec.specs.Plain.{plain}
use Rattle.mixer_spec.specs.Arrives.{arrivals}
use Rattle.mixer_spec.specs.Laws.{PartsAt}
use Rattle.mixer_spec.specs.Headline.{Cut, Hop, IsNotSent, hears, told, told_by}
use Rattle.mixer_spec.specs.Bridged.{before_shared, hop_to, shared_texts, told_by_packets}
use Rattle.mixer_spec.proofs.CallExample.{two, losing}

-- ---- the first hop: Ann sends A to E, 300 ms apart, and F to J from 6000 on, with two redundant generations
abbrev sent : ℕ → List ℕ → Sent
sent media text = record { source = 1001; media = media; text = text }

abbrev own : History
own = sent_history (record { ssrc = 1001; first = 0; base = 0; generations = 2 })
    (sent 7800 [] ∷ sent 7500 [] ∷ sent 7200 (codes "J") ∷ sent 6900 (codes "I") ∷ sent 6600 (codes "H") ∷ sent 6300 (codes "G") ∷ sent 6000 (codes "F")
    ∷ sent 1800 [] ∷ sent 1500 [] ∷ sent 1200 (codes "E") ∷ sent 900 (codes "D") ∷ sent 600 (codes "C") ∷ sent 300 (codes "B") ∷ sent 0 (codes "A") ∷ [])

-- her packets 1 to 3 and 8 to 10 are lost: with them B and G, which no other packet carries
abbrev from_ann : Hop
from_ann = record {
  sent = own;
  wait = 1000;
  came = arrivals (losing (1 ∷ 2 ∷ 3 ∷ 8 ∷ 9 ∷ 10 ∷ []) 0) 0 (map (λ x. record { time = x.media; packet = own_packet own x }) (placed own));
  source = 1001;
}

first_tells : texts (told from_ann) ≡ codes "A" ∷ marker ∷ codes "C" ∷ codes "D" ∷ codes "E" ∷ codes "F" ∷ marker ∷ codes "H" ∷ codes "I" ∷ codes "J" ∷ []
first_tells = refl

-- ---- the second hop: Bob comes at 5000, and nothing is lost on his way
abbrev bob_later : Setup
bob_later = record two { from = λ i. cond (i == 0) 0 5000 }

abbrev from_legs : ℕ → List Chunk
from_legs i = cond (i == 0) (chunks 1000 0 from_ann.came 1001) []

abbrev mixed : Option Table
mixed = plain bob_later 100 120 (λ i. in_stay bob_later i (from_legs i))

abbrev to_bob : Option Table → Hop
to_bob None = from_ann
to_bob (Some t) = hop_to (told_by_packets bob_later 1 (t.terminals 1).past) 1001 1000 (arrivals [] 1 (packets (stream bob_later 1) (t.terminals 1).past))

-- A to E stand before what he shares, and the first marker with them
abbrev before_bob : Option Table → ℕ
before_bob None = 99
before_bob (Some t) = before_shared bob_later t 1 0 (from_legs 0)

five_before : before_bob mixed ≡ 5
five_before = refl

abbrev bob_shares : Option Table → List (List ℕ)
bob_shares None = []
bob_shares (Some t) = shared_texts t 1 0

shared_from_f : bob_shares mixed ≡ codes "F" ∷ marker ∷ codes "H" ∷ codes "I" ∷ codes "J" ∷ []
shared_from_f = refl

-- what Ann's hop tells, cut at what he shares; all of that is sent on
abbrev cut : Cut
cut = record { before = take 5 (told from_ann); sent = drop 5 (told from_ann); waiting = []; behind = [] }

both_tell : texts (told_by cut.sent (to_bob mixed)) ≡ codes "F" ∷ marker ∷ codes "H" ∷ codes "I" ∷ codes "J" ∷ []
both_tell = refl

bob_hears : hears (to_bob mixed) ≡ codes "F" ∷ (marker ++ codes "HIJ") ∷ []
bob_hears = refl

-- ---- which marker is whose
-- Ann's entry with this number, counted from 0
abbrev entry : ℕ → Placed
entry n = elim (drop n (placed own)) [ [] ↦ nowhere | x ∷ xs ↦ x ]

b_and_g : (entry 1).text ++ (entry 8).text ≡ codes "BG"
b_and_g = refl

-- the blocks among these stand below the place k, or above it
abbrev are_below : ℕ → List Item → Bool
are_below k [] = true
are_below k (Marker ∷ xs) = are_below k xs
are_below k (Block y ∷ xs) = nat_lt y.place k && are_below k xs

abbrev are_above : ℕ → List Item → Bool
are_above k [] = true
are_above k (Marker ∷ xs) = are_above k xs
are_above k (Block y ∷ xs) = nat_lt k y.place && are_above k xs

same : (x y : Placed) → Block x ≡ Block y → y ≡ x
same x y e = cc e

below : (k : ℕ) (xs : List Item) → are_below k xs ≡ true → (x : Placed) → In (Block x) xs → x.place < k
below k [] b x i = absurd i
below k (Marker ∷ xs) b x (inl e) = absurd (cc e)
below k (Marker ∷ xs) b x (inr i) = below k xs b x i
below k (Block y ∷ xs) b x (inl e) = subst (λ (z : Placed). z.place < k) (same x y e) (ltb-true y.place k (and_parts (nat_lt y.place k) (are_below k xs) b).0)
below k (Block y ∷ xs) b x (inr i) = below k xs (and_parts (nat_lt y.place k) (are_below k xs) b).1 x i

above : (k : ℕ) (xs : List Item) → are_above k xs ≡ true → (x : Placed) → In (Block x) xs → k < x.place
above k [] b x i = absurd i
above k (Marker ∷ xs) b x (inl e) = absurd (cc e)
above k (Marker ∷ xs) b x (inr i) = above k xs b x i
above k (Block y ∷ xs) b x (inl e) = subst (λ (z : Placed). k < z.place) (same x y e) (ltb-true k y.place (and_parts (nat_lt k y.place) (are_above k xs) b).0)
above k (Block y ∷ xs) b x (inr i) = above k xs (and_parts (nat_lt k y.place) (are_above k xs) b).1 x i

-- the item with this number, which is a marker, parts the others at the entry k
abbrev parts_at : (number : ℕ) (items : List Item) (k : Placed) → items ≡ take number items ++ Marker ∷ drop (number + 1) items → are_below k.place (take number items) ≡ true → are_above k.place (drop (number + 1) items) ≡ true → PartsAt k items
parts_at number items k e b a = (take number items, drop (number + 1) items, e, below k.place (take number items) b, above k.place (drop (number + 1) items) a)

-- Ann's hop has a marker for each: for B the item with number 1, for G the one with number 6.
abbrev first_at_b : PartsAt (entry 1) (told from_ann)
first_at_b = parts_at 1 (told from_ann) (entry 1) refl refl refl

first_at_g : PartsAt (entry 8) (told from_ann)
first_at_g = parts_at 6 (told from_ann) (entry 8) refl refl refl

-- The marker for B stands before what Bob shares, so it is not sent on.
number_of_b : length first_at_b.0 ≡ 1
number_of_b = refl

b_not_sent : IsNotSent cut (length first_at_b.0)
b_not_sent = let five : length cut.before ≡ 5 = refl in inl (omega (arith, five, number_of_b))

-- That for G is sent on, and stands behind both hops.
abbrev from_f : List Item
from_f = Block (entry 7) ∷ Marker ∷ Block (entry 9) ∷ Block (entry 10) ∷ Block (entry 11) ∷ []

sent_is : cut.sent ≡ from_f
sent_is = refl

both_are : told_by cut.sent (to_bob mixed) ≡ from_f
both_are = refl

g_in_between : PartsAt (entry 8) from_f
g_in_between = parts_at 1 from_f (entry 8) refl refl refl

sent_at_g : PartsAt (entry 8) cut.sent
sent_at_g = subst (PartsAt (entry 8)) (sym sent_is) g_in_between

both_at_g : PartsAt (entry 8) (told_by cut.sent (to_bob mixed))
both_at_g = subst (PartsAt (entry 8)) (sym both_are) g_in_between
