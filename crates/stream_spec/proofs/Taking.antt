-- A receiver that takes the used packets one by one.
use Rattle.std.proofs.Common.{◌≡◌, ℕ, zero, suc, ◌+◌, ◌-◌, ◌<◌, ◌≤◌, Bool, true, false, cond, not, length, inl, inr, Option, Some, None, List, [], ◌∷◌, ◌++◌, refl, ap, sym, ◌∙◌, arith, append_assoc}
use Rattle.std.specs.Prelude.{◌&&◌, ◌||◌, ◌==◌, filter, nat_lt, nat_le, if◌then◌else◌}
use Rattle.std.proofs.lemmas.Bool.{cases_lt, cases_order, true≢false, eq-eqb, eqb-true, ne_eqb, leb-true, and_parts, lt-ltb, le-ltb, le-leb, lt-leb, false_from_ne_true}
use Rattle.std.proofs.lemmas.List.{append-nil}
use Rattle.std.proofs.lemmas.List.Elements.{filter-append}
use Rattle.wire_spec.specs.Packets.{Arrival}
use Rattle.stream_spec.specs.Numbering.{Numbered, RisingNumbers, numbered, number_it, used, in_time, by_number, is_given_up, first_number, has_number}
use Rattle.stream_spec.specs.Lists.{In}
use Rattle.stream_spec.specs.Hearing.{IsLastOf, heard, heard_of, last_of, adds_marker, adds_texts, heard_by, marker, missing, missing_between, piece, heard_over, is_packet_of}
use Rattle.stream_spec.proofs.GivingUp.{has_in, one}
use Rattle.stream_spec.proofs.Lists.{HeadedBy, headed_with, in_right, in_append, in_filter}

-- ---- a count in place of the missing numbers
abbrev pub inside : ℕ → ℕ → List Numbered → ℕ
inside lo n [] = 0
inside lo n (u ∷ us) = one (nat_le lo u.number && nat_lt u.number (lo + n)) + inside lo n us

inside_none : (lo : ℕ) (us : List Numbered) → inside lo 0 us ≡ 0
inside_none lo [] = refl
inside_none lo (u ∷ us) = elim (cases_lt u.number lo) [
  | inl lt ↦ rw (lt-leb lo u.number lt, inside_none lo us) refl
  | inr ge ↦ rw (le-leb lo u.number ge, le-ltb u.number (lo + 0) (omega arith), inside_none lo us) refl
]

inside_more : (lo n : ℕ) (us : List Numbered) → RisingNumbers us → inside lo (suc n) us ≡ one (has_number us (lo + n)) + inside lo n us
inside_more lo n [] r = refl
inside_more lo n (u ∷ us) r =
    let ih = inside_more lo n us r.1 in
    elim (cases_order u.number (lo + n)) [
      | inl e ↦ let gone : has_number us (lo + n) ≡ false = false_from_ne_true (has_number us (lo + n)) (λ t. let q = has_in (lo + n) us t in let l = r.0 q.0 q.1 in true≢false (absurd (omega (arith, q.2)))) in
          let none : one (has_number us (lo + n)) ≡ 0 = ap one gone in
          rw (eq-eqb u.number (lo + n) e, le-leb lo u.number (omega arith), lt-ltb u.number (lo + suc n) (omega arith), le-ltb u.number (lo + n) (omega arith)) (omega (arith, ih, none))
      | inr (inl lt) ↦ rw (ne_eqb u.number (lo + n) (omega arith), lt-ltb u.number (lo + suc n) (omega arith), lt-ltb u.number (lo + n) lt) (omega (arith, ih))
      | inr (inr gt) ↦ rw (ne_eqb u.number (lo + n) (omega arith), le-ltb u.number (lo + suc n) (omega arith), le-ltb u.number (lo + n) (omega arith)) (omega (arith, ih))
    ]

pub missing_count : (lo n : ℕ) (us : List Numbered) → RisingNumbers us → missing (has_number us) lo n + inside lo n us ≡ n
missing_count lo zero us r = rw (inside_none lo us) refl
missing_count lo (suc n) us r =
    let ih = missing_count lo n us r in
    let more = inside_more lo n us r in
    sum (has_number us (lo + n)) more ih
  where
    sum : (b : Bool) → inside lo (suc n) us ≡ one b + inside lo n us → missing (has_number us) lo n + inside lo n us ≡ n → (if b then 0 else 1) + missing (has_number us) lo n + inside lo (suc n) us ≡ suc n
    sum true m h = omega arith
    sum false m h = omega arith

-- ---- one more packet
missing_same : (f g : ℕ → Bool) (lo n : ℕ) → ((k : ℕ) → k < lo + n → f k ≡ g k) → missing f lo n ≡ missing g lo n
missing_same f g lo zero e = refl
missing_same f g lo (suc n) e = rw (e (lo + n) (omega arith), missing_same f g lo n (λ k l. e k (omega arith))) refl

between_same : (f g : ℕ → Bool) (m n b : ℕ) → n ≤ b → ((k : ℕ) → k < b → f k ≡ g k) → missing_between f m n ≡ missing_between g m n
between_same f g m n b l e = elim (cases_lt m n) [
  | inl lt ↦ missing_same f g (m + 1) (n - (m + 1)) (λ k q. e k (omega arith))
  | inr ge ↦ let z : n - (m + 1) ≡ 0 = omega arith in rw z refl
]

pub piece_same : (f g : ℕ → Bool) (first : ℕ) (prev : Option Numbered) (x : Numbered) (b : ℕ) → x.number ≤ b → ((k : ℕ) → k < b → f k ≡ g k) → piece f first prev x ≡ piece g first prev x
piece_same f g first None x b l e = rw (between_same f g first x.number b l e) refl
piece_same f g first (Some a) x b l e = rw (between_same f g a.number x.number b l e) refl

heard_same : (f g : ℕ → Bool) (first : ℕ) (prev : Option Numbered) (us : List Numbered) (b : ℕ) → ((u : Numbered) → In u us → u.number ≤ b) → ((k : ℕ) → k < b → f k ≡ g k) → heard_over f first prev us ≡ heard_over g first prev us
heard_same f g first prev [] b l e = refl
heard_same f g first prev (u ∷ us) b l e = rw (piece_same f g first prev u b (l u (inl refl)) e, heard_same f g first (Some u) us b (λ v i. l v (inr i)) e) refl

heard_last : (f : ℕ → Bool) (first : ℕ) (prev : Option Numbered) (us : List Numbered) (b : Numbered) → heard_over f first prev (us ++ b ∷ []) ≡ heard_over f first prev us ++ piece f first (last_of prev us) b
heard_last f first prev [] b = append-nil (piece f first prev b)
heard_last f first prev (u ∷ us) b = ap (λ ts. piece f first prev u ++ ts) (heard_last f first (Some u) us b) ∙ sym (append_assoc (piece f first prev u) (heard_over f first (Some u) us) (piece f first (last_of (Some u) us) b))

pub has_more : (us : List Numbered) (b : Numbered) (k : ℕ) → k < b.number → has_number (us ++ b ∷ []) k ≡ has_number us k
has_more [] b k l = rw (ne_eqb b.number k (omega arith)) refl
has_more (u ∷ us) b k l = ap (λ t. (u.number == k) || t) (has_more us b k l)

-- taking b, of the source, adds its piece, by what came before it alone; taking another's packet adds nothing
pub heard_more : (first s : ℕ) (us : List Numbered) (b : Numbered) → ((u : Numbered) → In u us → u.number < b.number)
    → heard_of first s (us ++ b ∷ []) ≡ heard_of first s us ++ (if b.packet.source == s then piece (has_number us) first (last_of None (filter (is_packet_of s) us)) b else [])
heard_more first s us b above =
    rw (filter-append (is_packet_of s) us (b ∷ [])) (go (b.packet.source == s))
  where
    f : ℕ → Bool
    f = has_number (us ++ b ∷ [])

    same : heard_over (has_number (us ++ b ∷ [])) first None (filter (is_packet_of s) us) ≡ heard_of first s us
    same = heard_same (has_number (us ++ b ∷ [])) (has_number us) first None (filter (is_packet_of s) us) b.number
        (λ u i. let l = above u (in_filter (is_packet_of s) u us i).0 in omega arith) (λ k l. has_more us b k l)

    go : (t : Bool) → heard_over (has_number (us ++ b ∷ [])) first None (filter (is_packet_of s) us ++ (if t then b ∷ [] else [])) ≡ heard_of first s us ++ (if t then piece (has_number us) first (last_of None (filter (is_packet_of s) us)) b else [])
    go true = heard_last (has_number (us ++ b ∷ [])) first None (filter (is_packet_of s) us) b
        ∙ (ap (λ ts. ts ++ piece (has_number (us ++ b ∷ [])) first (last_of None (filter (is_packet_of s) us)) b) same
        ∙ ap (λ ts. heard_of first s us ++ ts) (piece_same (has_number (us ++ b ∷ [])) (has_number us) first (last_of None (filter (is_packet_of s) us)) b b.number (omega arith) (λ k l. has_more us b k l)))
    go false = ap (heard_over (has_number (us ++ b ∷ [])) first None) (append-nil (filter (is_packet_of s) us)) ∙ (same ∙ sym (append-nil (heard_of first s us)))

-- what b adds behind packets of lower numbers
pub heard_by_more : (us : List Numbered) (b : Numbered) (s : ℕ) → ((u : Numbered) → In u us → u.number < b.number)
    → heard_by (us ++ b ∷ []) s ≡ heard_by us s ++ (if b.packet.source == s then (if adds_marker us b then marker ∷ [] else []) ++ adds_texts us b else [])
heard_by_more [] b s above = go (b.packet.source == s)
  where
    z : b.number - (b.number + 1) ≡ 0
    z = omega arith

    same : (f g : ℕ → Bool) → piece f b.number None b ≡ piece g b.number None b
    same f g = rw z refl

    go : (t : Bool) → heard_over (has_number (b ∷ [])) b.number None (cond t (b ∷ []) []) ≡ (if t then piece (has_number []) b.number None b else [])
    go true = append-nil (piece (has_number (b ∷ [])) b.number None b) ∙ same (has_number (b ∷ [])) (has_number [])
    go false = refl
heard_by_more (u ∷ us) b s above =
    heard_more u.number s (u ∷ us) b above ∙ ap (λ ts. heard_of u.number s (u ∷ us) ++ ts) (go (b.packet.source == s) refl)
  where
    go : (t : Bool) → (b.packet.source == s) ≡ t
        → (if t then piece (has_number (u ∷ us)) u.number (last_of None (filter (is_packet_of s) (u ∷ us))) b else [])
        ≡ (if t then (if adds_marker (u ∷ us) b then marker ∷ [] else []) ++ adds_texts (u ∷ us) b else [])
    go true e = ap (λ n. piece (has_number (u ∷ us)) u.number (last_of None (filter (is_packet_of n) (u ∷ us))) b) (sym (eqb-true b.packet.source s e))
    go false e = refl

-- ---- the used packets of arrivals begin with the first
abbrev pub Headed : ℕ → List Numbered → Type 0
Headed n us = HeadedBy (λ u. u.number) n us

pub used_headed : (wait : ℕ) (e : Numbered) (past : List Numbered) → Headed (first_number 0 (e ∷ past)) (used wait (e ∷ past))
used_headed wait e [] = rw (le-leb e.number e.number (omega arith)) refl
used_headed wait e (f ∷ past) = go (in_time wait e (f ∷ past)) refl (used_headed wait f past)
  where
    ahead : in_time wait e (f ∷ past) ≡ true → first_number 0 (f ∷ past) ≤ e.number
    ahead t = leb-true (first_number e.number (f ∷ past)) e.number (and_parts (nat_le (first_number e.number (f ∷ past)) e.number) (not (has_number (f ∷ past) e.number) && not (is_given_up wait (f ∷ past) e.time e.number)) t).0

    go : (t : Bool) → in_time wait e (f ∷ past) ≡ t → Headed (first_number 0 (f ∷ past)) (used wait (f ∷ past))
        → Headed (first_number 0 (f ∷ past)) (cond t (by_number e (used wait (f ∷ past))) (used wait (f ∷ past)))
    go true q h = headed_with (λ u. u.number) (first_number 0 (f ∷ past)) e (used wait (f ∷ past)) h (ahead q)
    go false q h = h

by_first : (n s : ℕ) (us : List Numbered) → Headed n us → heard_of n s us ≡ heard_by us s
by_first n s [] h = absurd h
by_first n s (u ∷ us) h = ap (λ m. heard_of m s (u ∷ us)) (sym h)

pub heard_used : (wait : ℕ) (a : List Arrival) (s : ℕ) → heard wait a s ≡ heard_by (used wait (numbered a)) s
heard_used wait [] s = refl
heard_used wait (a ∷ past) s = by_first (first_number 0 (numbered (a ∷ past))) s (used wait (numbered (a ∷ past))) (used_headed wait (number_it (numbered past) a) (numbered past))

-- ---- what a receiver counts in place of a list of packets
inside_append : (lo n : ℕ) (xs ys : List Numbered) → inside lo n (xs ++ ys) ≡ inside lo n xs + inside lo n ys
inside_append lo n [] ys = omega arith
inside_append lo n (x ∷ xs) ys = omega (arith, inside_append lo n xs ys)

inside_below : (lo n : ℕ) (xs : List Numbered) → ((u : Numbered) → In u xs → u.number < lo) → inside lo n xs ≡ 0
inside_below lo n [] f = refl
inside_below lo n (x ∷ xs) f = let r = inside_below lo n xs (λ u i. f u (inr i)) in rw (lt-leb lo x.number (f x (inl refl))) (omega (arith, r))

inside_all : (lo n : ℕ) (xs : List Numbered) → ((u : Numbered) → In u xs → (lo ≤ u.number) × (u.number < lo + n)) → inside lo n xs ≡ length xs
inside_all lo n [] f = refl
inside_all lo n (x ∷ xs) f =
    let h = f x (inl refl) in
    let r = inside_all lo n xs (λ u i. f u (inr i)) in
    rw (le-leb lo x.number h.0, lt-ltb x.number (lo + n) h.1) (omega (arith, r))

-- the parts of a rising list
rising_parts : (xs : List Numbered) (a : Numbered) (ys : List Numbered) → RisingNumbers (xs ++ a ∷ ys)
    → ((u : Numbered) → In u xs → u.number < a.number) × ((u : Numbered) → In u ys → a.number < u.number)
rising_parts [] a ys r = ((λ u i. absurd i), r.0)
rising_parts (x ∷ xs) a ys r =
    let q = rising_parts xs a ys r.1 in
    let l = r.0 a (in_right a xs (a ∷ ys) (inl refl)) in
    ((λ u i. elim i [ inl e ↦ omega (arith, ap (λ (z : Numbered). z.number) e) | inr j ↦ q.0 u j ]), q.1)

-- what is missing between a and b, where b comes behind all, is what the packets behind a leave
pub missing_after : (xs : List Numbered) (a : Numbered) (ys : List Numbered) (b : ℕ) → RisingNumbers (xs ++ a ∷ ys) → ((u : Numbered) → In u (xs ++ a ∷ ys) → u.number < b)
    → missing_between (has_number (xs ++ a ∷ ys)) a.number b + length ys + suc a.number ≡ b
missing_after xs a ys b r above =
    let lo : ℕ = a.number + 1 in
    let n : ℕ = b - lo in
    let parts = rising_parts xs a ys r in
    let below = above a (in_right a xs (a ∷ ys) (inl refl)) in
    let c = missing_count lo n (xs ++ a ∷ ys) r in
    let front = inside_below lo n xs (λ u i. let l = parts.0 u i in omega arith) in
    let here : inside lo n (a ∷ ys) ≡ inside lo n ys = rw (lt-leb lo a.number (omega arith)) (omega arith) in
    let back = inside_all lo n ys (λ u i. let l = parts.1 u i in let h = above u (in_right u xs (a ∷ ys) (inr i)) in (omega arith, omega arith)) in
    omega (arith, c, front, here, back, inside_append lo n xs (a ∷ ys))

-- ---- the last packet of a source among these
none_left : (s : ℕ) (us : List Numbered) → ((u : Numbered) → In u us → u.packet.source ≡ s → ⊥) → filter (is_packet_of s) us ≡ []
none_left s [] f = refl
none_left s (u ∷ us) f = rw (ne_eqb u.packet.source s (f u (inl refl))) (none_left s us (λ v i. f v (inr i)))

pub last_end_of : (prev : Option Numbered) (xs : List Numbered) (a : Numbered) → last_of prev (xs ++ a ∷ []) ≡ Some a
last_end_of prev [] a = refl
last_end_of prev (x ∷ xs) a = last_end_of (Some x) xs a

pub last_is : (s : ℕ) (us : List Numbered) (a : Numbered) → IsLastOf s us a → last_of None (filter (is_packet_of s) us) ≡ Some a
last_is s us a l =
    let tail : filter (is_packet_of s) (a ∷ l.back) ≡ a ∷ [] = rw (eq-eqb a.packet.source s l.source, none_left s l.back l.others) refl in
    ap (λ vs. last_of None (filter (is_packet_of s) vs)) l.is
    ∙ (ap (last_of None) (filter-append (is_packet_of s) l.front (a ∷ l.back) ∙ ap (λ vs. filter (is_packet_of s) l.front ++ vs) tail) ∙ last_end_of None (filter (is_packet_of s) l.front) a)

pub none_is : (s : ℕ) (us : List Numbered) → ((u : Numbered) → In u us → u.packet.source ≡ s → ⊥) → last_of None (filter (is_packet_of s) us) ≡ None
none_is s us f = ap (last_of None) (none_left s us f)

-- one more packet, of another source or of this one
abbrev pub last_stays : (s : ℕ) (us : List Numbered) (a b : Numbered) → (b.packet.source ≡ s → ⊥) → IsLastOf s us a → IsLastOf s (us ++ b ∷ []) a
last_stays s us a b other l = record {
  front = l.front;
  back = l.back ++ b ∷ [];
  is = ap (λ vs. vs ++ b ∷ []) l.is ∙ append_assoc l.front (a ∷ l.back) (b ∷ []);
  source = l.source;
  others = λ u i q. elim (in_append u l.back (b ∷ []) i) [ inl j ↦ l.others u j q | inr (inl e) ↦ other (sym (ap (λ (z : Numbered). z.packet.source) e) ∙ q) | inr (inr j) ↦ absurd j ];
}

abbrev pub last_now : (s : ℕ) (us : List Numbered) (b : Numbered) → b.packet.source ≡ s → IsLastOf s (us ++ b ∷ []) b
last_now s us b q = record { front = us; back = []; is = refl; source = q; others = λ u i e. absurd i }
