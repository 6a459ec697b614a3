-- Where nothing is left to be repeated, each text was repeated; and the longest front of whole characters.
use Rattle.std.proofs.Common.{◌≡◌, ℕ, zero, suc, ◌-◌, ◌<◌, ◌≤◌, Bool, true, false, cond, inl, inr, Some, List, [], ◌∷◌, length, take, refl, ap, subst, sym, ◌∙◌, arith}
use Rattle.std.specs.Prelude.{◌==◌, ◌||◌, min, nat_lt, nat_le, slice_index, IsUtf8}
use Rattle.std.specs.Str.{IsCharBoundary}
use Rattle.std.proofs.lemmas.Str.{IsCharBoundary-from_take}
use Rattle.std.proofs.lemmas.List.{get_or_past}
use Rattle.std.proofs.lemmas.Bool.{cases_lt, false≢true}
use Rattle.std.proofs.lemmas.Bool.Decides.{nat_tests}
use Rattle.wire_spec.specs.Packets.{has_text}
use Rattle.stream_spec.specs.Lists.{In}
use Rattle.stream_spec.specs.History.{Placed, placed}
use Rattle.stream_spec.specs.Own.{Sent, Stream, Closed, sent_of, nth, has_text_in, entry_after, sent_history, own_packet, packet_after}
use Rattle.stream_spec.specs.Typed.{is_end, last_end}
use Rattle.stream_spec.proofs.Lists.{in_right}
use Rattle.stream_spec.proofs.Grows.{placed_grown, split}
use Rattle.stream_spec.proofs.Sent.{the_last, sent_count, length_sent, was_sent, last_packet, nth_in, text_in}

-- an entry stands so far behind the last one of its source
pub record Behind (c : Stream) (past : List Sent) (x : Placed) : Type 0 where
  pub one : Sent
  pub is : nth (length (sent_of x.source past) - suc x.index) (sent_of x.source past) ≡ Some one
  pub text : x.text ≡ one.text
  pub within : x.index < length (sent_of x.source past)

one_further : (c : Stream) (past : List Sent) (e : Sent) (x : Placed) → Behind c past x → Behind c (e ∷ past) x
one_further c past e x r = let a = go (e.source == x.source) in record { one = a.0; is = a.1; text = a.2; within = a.3 }
  where
    go : (b : Bool) → (one : Sent) × (nth (length (cond b (e ∷ sent_of x.source past) (sent_of x.source past)) - suc x.index) (cond b (e ∷ sent_of x.source past) (sent_of x.source past)) ≡ Some one) × (x.text ≡ one.text) × (x.index < length (cond b (e ∷ sent_of x.source past) (sent_of x.source past)))
    go true =
        let w = r.within in
        let k : suc (length (sent_of x.source past)) - suc x.index ≡ suc (length (sent_of x.source past) - suc x.index) = omega arith in
        (r.one, ap (λ n. nth n (e ∷ sent_of x.source past)) k ∙ r.is, r.text, omega arith)
    go false = (r.one, r.is, r.text, r.within)

the_last_one : (c : Stream) (past : List Sent) (e : Sent) → Behind c (e ∷ past) (the_last c past e)
the_last_one c past e =
    let same : (e.source == e.source) ≡ true = grind (arith, nat_tests) in
    let zs : sent_of e.source (e ∷ past) ≡ e ∷ sent_of e.source past = rw same refl in
    let n = sent_count c.generations e.source past in
    let k : length (sent_of e.source (e ∷ past)) - suc (the_last c past e).index ≡ 0 = omega (arith, ap (λ (ys : List Sent). length ys) zs, n) in
    record {
      one = e;
      is = ap (λ m. nth m (sent_of e.source (e ∷ past))) k ∙ ap (nth 0) zs;
      text = refl;
      within = omega (arith, ap (λ (ys : List Sent). length ys) zs, n);
    }

pub behind : (c : Stream) (past : List Sent) (x : Placed) → In x (placed (sent_history c past)) → Behind c past x
behind c [] x i = absurd i
behind c (e ∷ past) x i = elim (split (sent_history c past) (entry_after c.generations past e) x i) [
  | inl j ↦ one_further c past e x (behind c past x j)
  | inr q ↦ subst (Behind c (e ∷ past)) (sym q) (the_last_one c past e)
]

-- where no source has text left to be repeated
pub sent_closed : (c : Stream) (past : List Sent) → ((z : Sent) → In z past → has_text_in c.generations (sent_of z.source past) ≡ false) → Closed c.generations (sent_history c past)
sent_closed c past none = λ x i h.
    let r = behind c past x i in
    let w = was_sent c past x i in
    let quiet : has_text_in c.generations (sent_of x.source past) ≡ false = ap (λ s. has_text_in c.generations (sent_of s past)) w.source ∙ none w.sent_one w.is_in in
    let n = sent_count c.generations x.source past in
    elim (cases_lt (length (sent_of x.source past) - suc x.index) c.generations) [
      | inl lt ↦ absurd (false≢true (sym quiet ∙ text_in c.generations (sent_of x.source past) r.one (nth_in (length (sent_of x.source past) - suc x.index) c.generations (sent_of x.source past) r.one r.is lt) (ap has_text (sym r.text) ∙ h)))
      | inr ge ↦ omega (arith, n, r.within)
    ]

-- ---- the packet of the last entry
pub record IsLast (c : Stream) (past : List Sent) (e : Sent) (x : Placed) : Type 0 where
  pub is_in : In x (placed (sent_history c (e ∷ past)))
  pub place : x.place ≡ length past
  pub packet : own_packet (sent_history c (e ∷ past)) x ≡ packet_after c past e

pub last_is : (c : Stream) (past : List Sent) (e : Sent) → IsLast c past e (the_last c past e)
last_is c past e = record {
  is_in = subst (λ (xs : List Placed). In (the_last c past e) xs) (sym (placed_grown (sent_history c past) (entry_after c.generations past e))) (in_right (the_last c past e) (placed (sent_history c past)) (the_last c past e ∷ []) (inl refl));
  place = length_sent c.generations past;
  packet = last_packet c past e;
}

-- ---- the longest front
after_end : (octets : List ℕ) (k n : ℕ) → is_end octets k ≡ true → k ≤ n → k ≤ last_end octets n
after_end octets k zero e l = omega arith
after_end octets k (suc n) e l = elim (cases_lt k (suc n)) [ inl lt ↦ go (is_end octets (suc n)) (after_end octets k n e (omega arith)) | inr ge ↦ (let q : k ≡ suc n = omega arith in let t : is_end octets (suc n) ≡ true = ap (is_end octets) (sym q) ∙ e in rw t (omega arith)) ]
  where
    go : (b : Bool) → k ≤ last_end octets n → k ≤ cond b (suc n) (last_end octets n)
    go true m = omega arith
    go false m = m

pub ends_there : (octets : List ℕ) (k : ℕ) → IsCharBoundary octets k → is_end octets k ≡ true
ends_there octets k b = elim (cases_lt k (length octets)) [
  | inl lt ↦ lead (slice_index octets k) (b.1 lt)
  | inr ge ↦ let z : slice_index octets k ≡ 0 = get_or_past octets k 0 ge in grind (arith, nat_tests)
]
  where
    lead : (octet : ℕ) → (128 ≤ octet → 192 ≤ octet) → (nat_lt octet 128 || nat_le 192 octet) ≡ true
    lead octet f = elim (cases_lt octet 128) [ inl lt ↦ grind (arith, nat_tests) | inr ge ↦ (let h = f ge in grind (arith, nat_tests)) ]

pub longest : (n : ℕ) (octets : List ℕ) (k : ℕ) → IsUtf8 octets → k ≤ n → k ≤ length octets → IsUtf8 (take k octets) → k ≤ last_end octets (min n (length octets))
longest n octets k u l m t = after_end octets k (min n (length octets)) (ends_there octets k (IsCharBoundary-from_take octets k u m t)) (omega arith)
