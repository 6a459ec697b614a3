-- What is typed and sent: the texts sent and what waits are all that was typed, and what is sent may be sent.
use Rattle.std.proofs.Common.{◌≡◌, ℕ, zero, suc, ◌+◌, ◌^◌, ◌<◌, ◌≤◌, Bool, true, false, cond, inl, inr, List, [], ◌∷◌, ◌++◌, length, take, drop, append_assoc, refl, ap, subst, sym, ◌∙◌, arith}
use Rattle.std.specs.Prelude.{◌==◌, ◌||◌, ◌&&◌, min, nat_lt, nat_le, slice_index, IsUtf8}
use Rattle.std.specs.Str.{IsCharBoundary}
use Rattle.std.proofs.lemmas.Str.{IsUtf8-nil, IsUtf8-append, IsUtf8-take, IsUtf8-drop, IsCharBoundary-start}
use Rattle.std.proofs.lemmas.Bool.Decides.{nat_tests}
use Rattle.wire_spec.specs.Packets.{has_text}
use Rattle.stream_spec.specs.Lists.{In}
use Rattle.stream_spec.specs.Own.{Sent, Stream, sent_of, has_text_in, Sendable}
use Rattle.stream_spec.specs.Typed.{Event, Text, Ask, Turned, sents, carried, typed, is_end, last_end, whole_front, has_passed, media_at, entry_at, longest_step, left, entries, waiting, due_at, last_ask, IsScript}
use Rattle.rtt_base.specs.declared.limits.TheConstants.{MOST_TEXT_OCTETS}
use Rattle.stream_spec.proofs.Sent.{text_in}

-- ---- fronts
dropped : (xs ys : List ℕ) → drop (length xs) (xs ++ ys) ≡ ys
dropped [] ys = refl
dropped (x ∷ xs) ys = dropped xs ys

-- a front and what follows it
pub cut : (k : ℕ) (xs : List ℕ) → xs ≡ take k xs ++ drop (length (take k xs)) xs
cut zero xs = refl
cut (suc k) [] = refl
cut (suc k) (x ∷ xs) = ap (λ ys. x ∷ ys) (cut k xs)

pub length_of_front : (k : ℕ) (xs : List ℕ) → k ≤ length xs → length (take k xs) ≡ k
length_of_front zero xs l = refl
length_of_front (suc k) [] l = absurd (omega arith)
length_of_front (suc k) (x ∷ xs) l = let r = length_of_front k xs (omega arith) in omega arith

pub last_end_le : (octets : List ℕ) (n : ℕ) → last_end octets n ≤ n
last_end_le octets zero = omega arith
last_end_le octets (suc n) = go (is_end octets (suc n)) (last_end_le octets n)
  where
    go : (b : Bool) → last_end octets n ≤ n → cond b (suc n) (last_end octets n) ≤ suc n
    go true l = omega arith
    go false l = omega arith

lead : (octet : ℕ) → (nat_lt octet 128 || nat_le 192 octet) ≡ true → 128 ≤ octet → 192 ≤ octet
lead octet e l = grind (arith, nat_tests)

ends : (octets : List ℕ) (n : ℕ) → IsUtf8 octets → n ≤ length octets → IsCharBoundary octets (last_end octets n)
ends octets zero u l = IsCharBoundary-start octets u
ends octets (suc n) u l = go (is_end octets (suc n)) refl (ends octets n u (omega arith))
  where
    go : (b : Bool) → is_end octets (suc n) ≡ b → IsCharBoundary octets (last_end octets n) → IsCharBoundary octets (cond b (suc n) (last_end octets n))
    go true e r = (l, λ lt big. lead (slice_index octets (suc n)) e big)
    go false e r = r

pub record Fits (n : ℕ) (octets : List ℕ) : Type 0 where
  pub front_is : IsUtf8 (whole_front n octets)
  pub rest_is : IsUtf8 (drop (length (whole_front n octets)) octets)
  pub short : length (whole_front n octets) ≤ n

pub front_fits : (n : ℕ) (octets : List ℕ) → IsUtf8 octets → Fits n octets
front_fits n octets u =
    let k = min n (length octets) in
    let b = last_end_le octets k in
    let within : k ≤ length octets = omega arith in
    let len : length (whole_front n octets) ≡ last_end octets k = length_of_front (last_end octets k) octets (omega arith) in
    let at_end = ends octets k u within in
    record {
      front_is = IsUtf8-take octets (last_end octets k) u at_end;
      rest_is = subst (λ (m : ℕ). IsUtf8 (drop m octets)) (sym len) (IsUtf8-drop octets (last_end octets k) u at_end);
      short = omega arith;
    }

-- ---- what waits
text_left : (es : List Turned) (octets text w : List ℕ) → octets ≡ carried es ++ w → left es (octets ++ text) ≡ w ++ text
text_left es octets text w r =
    ap (λ (xs : List ℕ). drop (length (carried es)) (xs ++ text)) r ∙ (ap (drop (length (carried es))) (append_assoc (carried es) w text) ∙ dropped (carried es) (w ++ text))

more_left : (es : List Turned) (e : Turned) (octets w rest : List ℕ) → octets ≡ carried es ++ w → w ≡ e.sent.text ++ rest → left (e ∷ es) octets ≡ rest
more_left es e octets w rest r q =
    ap (drop (length (carried es ++ e.sent.text))) (r ∙ (ap (λ (xs : List ℕ). carried es ++ xs) q ∙ sym (append_assoc (carried es) e.sent.text rest))) ∙ dropped (carried es ++ e.sent.text) rest

-- an entry stands at an ask, or none does
asked : (P : List Turned → Type 0) (b : Bool) (e : Turned) (es : List Turned) → (b ≡ true → P (e ∷ es)) → P es → P (cond b (e ∷ es) es)
asked P true e es f g = f refl
asked P false e es f g = g

-- what was sent and what waits are what was typed
pub typed_is : (c : Stream) (i : ℕ) (past : List Event) → typed past ≡ carried (entries c i past) ++ waiting c i past
typed_is c i [] = refl
typed_is c i (Text text ∷ past) =
    let es = entries c i past in
    let r = typed_is c i past in
    ap (λ (xs : List ℕ). xs ++ text) r ∙ (append_assoc (carried es) (waiting c i past) text ∙ ap (λ (xs : List ℕ). carried es ++ xs) (sym (text_left es (typed past) text (waiting c i past) r)))
typed_is c i (Ask t ∷ past) = asked (λ es. typed past ≡ carried es ++ left es (typed past)) (due_at c i past t) (entry_at c (entries c i past) (waiting c i past) t) (entries c i past) (λ d. one (typed_is c i past)) (typed_is c i past)
  where
    one : typed past ≡ carried (entries c i past) ++ waiting c i past → typed past ≡ carried (entry_at c (entries c i past) (waiting c i past) t ∷ entries c i past) ++ left (entry_at c (entries c i past) (waiting c i past) t ∷ entries c i past) (typed past)
    one r =
        let es = entries c i past in
        let w = waiting c i past in
        let e = entry_at c es w t in
        let q : w ≡ e.sent.text ++ drop (length e.sent.text) w = cut (last_end w (min MOST_TEXT_OCTETS (length w))) w in
        r
        ∙ (ap (λ (xs : List ℕ). carried es ++ xs) q
        ∙ (sym (append_assoc (carried es) e.sent.text (drop (length e.sent.text) w))
        ∙ ap (λ (xs : List ℕ). (carried es ++ e.sent.text) ++ xs) (sym (more_left es e (typed past) w (drop (length e.sent.text) w) r q))))

pub waits_more : (c : Stream) (i : ℕ) (past : List Event) (text : List ℕ) → waiting c i (Text text ∷ past) ≡ waiting c i past ++ text
waits_more c i past text = text_left (entries c i past) (typed past) text (waiting c i past) (typed_is c i past)

pub waits_less : (c : Stream) (i : ℕ) (past : List Event) (t : ℕ) → due_at c i past t ≡ true
    → waiting c i (Ask t ∷ past) ≡ drop (length (whole_front MOST_TEXT_OCTETS (waiting c i past))) (waiting c i past)
waits_less c i past t d =
    let es = entries c i past in
    let w = waiting c i past in
    ap (λ b. left (cond b (entry_at c es w t ∷ es) es) (typed past)) d
    ∙ more_left es (entry_at c es w t) (typed past) w (drop (length (whole_front MOST_TEXT_OCTETS w)) w) (typed_is c i past) (cut (last_end w (min MOST_TEXT_OCTETS (length w))) w)

pub waits_same : (c : Stream) (i : ℕ) (past : List Event) (t : ℕ) → due_at c i past t ≡ false → waiting c i (Ask t ∷ past) ≡ waiting c i past
waits_same c i past t d = ap (λ b. left (cond b (entry_at c (entries c i past) (waiting c i past) t ∷ entries c i past) (entries c i past)) (typed past)) d

pub entries_more : (c : Stream) (i : ℕ) (past : List Event) (t : ℕ) → due_at c i past t ≡ true
    → entries c i (Ask t ∷ past) ≡ entry_at c (entries c i past) (waiting c i past) t ∷ entries c i past
entries_more c i past t d = ap (λ b. cond b (entry_at c (entries c i past) (waiting c i past) t ∷ entries c i past) (entries c i past)) d

pub entries_same : (c : Stream) (i : ℕ) (past : List Event) (t : ℕ) → due_at c i past t ≡ false → entries c i (Ask t ∷ past) ≡ entries c i past
entries_same c i past t d = ap (λ b. cond b (entry_at c (entries c i past) (waiting c i past) t ∷ entries c i past) (entries c i past)) d

pub waits_utf8 : (c : Stream) (i : ℕ) (past : List Event) → IsScript past → IsUtf8 (waiting c i past)
waits_utf8 c i [] s = IsUtf8-nil
waits_utf8 c i (Text text ∷ past) s = subst IsUtf8 (sym (waits_more c i past text)) (IsUtf8-append (waiting c i past) text (waits_utf8 c i past s.1) s.0)
waits_utf8 c i (Ask t ∷ past) s = go (due_at c i past t) refl (waits_utf8 c i past s.2)
  where
    go : (b : Bool) → due_at c i past t ≡ b → IsUtf8 (waiting c i past) → IsUtf8 (waiting c i (Ask t ∷ past))
    go true d u = let f = front_fits MOST_TEXT_OCTETS (waiting c i past) u in subst IsUtf8 (sym (waits_less c i past t d)) f.rest_is
    go false d u = subst IsUtf8 (sym (waits_same c i past t d)) u

-- ---- what is sent may be sent
-- where text is still to be repeated, the media time is at most the longest step after the last one
abbrev pub Near : ℕ → ℕ → List Turned → Type 0
Near g media [] = Unit {0}
Near g media (f ∷ es) = has_text_in g (sents (f ∷ es)) ≡ true → media ≤ f.sent.media + longest_step g

abbrev pub Pauses : ℕ → List Turned → Type 0
Pauses g [] = Unit {0}
Pauses g (e ∷ es) = Near g e.sent.media es × Pauses g es

pub record Paced (c : Stream) (last : ℕ) (es : List Turned) : Type 0 where
  pub early : (e : Turned) → In e es → (e.sent.media ≤ e.at) × (e.at ≤ last)
  pub own : sent_of c.ssrc (sents es) ≡ sents es
  pub sendable : Sendable c (sents es)
  pub pauses : Pauses c.generations es

paced_later : (c : Stream) (m t : ℕ) (es : List Turned) → m ≤ t → Paced c m es → Paced c t es
paced_later c m t es l p = record { early = λ e j. let r = p.early e j in (r.0, omega (arith, r.1)); own = p.own; sendable = p.sendable; pauses = p.pauses }

pub take_more : (k g : ℕ) (zs : List Sent) (z : Sent) → k ≤ g → In z (take k zs) → In z (take g zs)
take_more zero g zs z l i = absurd i
take_more (suc k) g [] z l i = absurd i
take_more (suc k) zero (y ∷ zs) z l i = absurd (omega arith)
take_more (suc k) (suc g) (y ∷ zs) z l (inl q) = inl q
take_more (suc k) (suc g) (y ∷ zs) z l (inr i) = inr (take_more k g zs z (omega arith) i)

-- how far so many steps go
abbrev pub steps : ℕ → ℕ → ℕ
steps zero step = 0
steps (suc k) step = step + steps k step

-- each of the last k with text lies at most k steps before
within_steps : (g k media : ℕ) (es : List Turned) → k ≤ g → Near g media es → Pauses g es → (x : Sent) → In x (take k (sents es)) → has_text x.text ≡ true → media ≤ x.media + steps k (longest_step g)
within_steps g zero media es l n p x i h = absurd i
within_steps g (suc k) media [] l n p x i h = absurd i
within_steps g (suc k) media (f ∷ es) l n p x i h =
    let near = n (text_in g (f.sent ∷ sents es) x (take_more (suc k) g (f.sent ∷ sents es) x l i) h) in
    elim i [
      | inl q ↦ omega (arith, near, ap (λ (z : Sent). z.media) q)
      | inr j ↦ let r = within_steps g k f.sent.media es (omega arith) p.0 p.1 x j h in omega (arith, near, r)
    ]

pub fits_offset : (g : ℕ) → g ≤ 3 → steps g (longest_step g) ≤ 16383
fits_offset zero l = omega arith
fits_offset (suc zero) l = omega arith
fits_offset (suc (suc zero)) l = omega arith
fits_offset (suc (suc (suc zero))) l = omega arith
fits_offset (suc (suc (suc (suc g)))) l = absurd (omega arith)

media_near : (g t : ℕ) (es : List Turned) → Near g (media_at g es t) es
media_near g t [] = tt
media_near g t (f ∷ es) = λ h. rw h (omega arith)

near_texts : (g t : ℕ) (es : List Turned) → g ≤ 3 → Pauses g es → (x : Sent) → In x (take g (sents es)) → has_text x.text ≡ true → media_at g es t ≤ x.media + 16383
near_texts g t es l p x i h = let r = within_steps g g (media_at g es t) es (omega arith) (media_near g t es) p x i h in omega (arith, fits_offset g l)

some_step : (g : ℕ) → 0 < longest_step g
some_step g = go (nat_le g 2)
  where
    go : (b : Bool) → 0 < cond b 8000 5000
    go true = omega arith
    go false = omega arith

media_between : (g t : ℕ) (f : Turned) (es : List Turned) → f.sent.media < t → (f.sent.media < media_at g (f ∷ es) t) × (media_at g (f ∷ es) t ≤ t)
media_between g t f es l = go (has_text_in g (sents (f ∷ es))) (some_step g)
  where
    go : (b : Bool) → 0 < longest_step g → (f.sent.media < cond b (min t (f.sent.media + longest_step g)) t) × (cond b (min t (f.sent.media + longest_step g)) t ≤ t)
    go true s = (omega arith, omega arith)
    go false s = (omega arith, omega arith)

-- the media time at t is later than each before it
later_media : (c : Stream) (i t m : ℕ) (es : List Turned) → 1 ≤ i → m ≤ t → has_passed i es t ≡ true → Paced c m es
    → (media_at c.generations es t ≤ t) × ((x : Sent) → In x (sents es) → x.media < media_at c.generations es t)
later_media c i t m [] o l d p = (omega arith, λ x j. absurd j)
later_media c i t m (f ∷ es) o l d p =
    let a = p.early f (inl refl) in
    let passed : f.at + i ≤ t = grind (arith, nat_tests) in
    let b = media_between c.generations t f es (omega (arith, a.0)) in
    (b.1, λ x j. elim j [ inl q ↦ omega (arith, ap (λ (z : Sent). z.media) q, b.0) | inr k ↦ let r = p.sendable.0.later x k in omega (arith, r.0, b.0) ])

paced_more : (c : Stream) (i t m : ℕ) (es : List Turned) (w : List ℕ) → c.generations ≤ 3 → 1 ≤ i → m ≤ t → t < 2 ^ 31 → IsUtf8 w → has_passed i es t ≡ true → Paced c m es
    → Paced c t (entry_at c es w t ∷ es)
paced_more c i t m es w most o l top u d p =
    let n = later_media c i t m es o l d p in
    let f = front_fits MOST_TEXT_OCTETS w u in
    record {
      early = λ e j. elim j [ inl q ↦ (omega (arith, n.0, ap (λ (z : Turned). z.sent.media) q, ap (λ (z : Turned). z.at) q), omega (arith, ap (λ (z : Turned). z.at) q)) | inr k ↦ let r = p.early e k in (r.0, omega (arith, r.1)) ];
      own = own;
      sendable = (
        record {
          later = λ x j. let a = n.1 x j in (a, omega (arith, n.0));
          near = λ x j h. near_texts c.generations t es most p.pauses x (subst (λ (zs : List Sent). In x (take c.generations zs)) p.own j) h;
          text = (f.short, f.front_is);
        },
        p.sendable,
      );
      pauses = (media_near c.generations t es, p.pauses);
    }
  where
    own : sent_of c.ssrc (sents (entry_at c es w t ∷ es)) ≡ sents (entry_at c es w t ∷ es)
    own = let same : (c.ssrc == c.ssrc) ≡ true = grind (arith, nat_tests) in ap (λ b. cond b ((entry_at c es w t).sent ∷ sent_of c.ssrc (sents es)) (sent_of c.ssrc (sents es))) same ∙ ap (λ zs. (entry_at c es w t).sent ∷ zs) p.own

pub and_second : (a b : Bool) → (a && b) ≡ true → b ≡ true
and_second true b h = h
and_second false b h = cc h

pub paced : (c : Stream) (i : ℕ) (past : List Event) → c.generations ≤ 3 → 1 ≤ i → IsScript past → Paced c (last_ask past) (entries c i past)
paced c i [] most o s = record { early = λ e j. absurd j; own = refl; sendable = tt; pauses = tt }
paced c i (Text text ∷ past) most o s = paced c i past most o s.1
paced c i (Ask t ∷ past) most o s =
    asked (Paced c t) (due_at c i past t) (entry_at c (entries c i past) (waiting c i past) t) (entries c i past)
    (λ d. paced_more c i t (last_ask past) (entries c i past) (waiting c i past) most o s.0 s.1 (waits_utf8 c i past s.2) (and_second (has_text (waiting c i past) || has_text_in c.generations (sents (entries c i past))) (has_passed i (entries c i past) t) d) (paced c i past most o s.2))
    (paced_later c (last_ask past) t (entries c i past) s.0 (paced c i past most o s.2))
