-- Lines that are kept.
use Rattle.std.proofs.Common.{◌≡◌, ℕ, zero, suc, ◌+◌, ◌<◌, ◌≤◌, Bool, true, false, cond, not, List, [], ◌∷◌, ◌++◌, map, filter, length, take, drop, get_or, refl, ap, sym, ◌∙◌, subst, arith, append-nil, append_assoc, length-append, inl, inr, ◌⊎◌, ◌==◌, nat_lt}
use Rattle.std.specs.Prelude.{All, ◌^◌, ◌&&◌, if◌then◌else◌}
use Rattle.std.specs.List.Sorted.{IsNonDecreasingBy, IsPermutation, IsStableByKey}
use Rattle.std.specs.declared.cmp.Ordering.TheVariants.{Less, Equal, Greater}
use Rattle.std.specs.Ordering.{is_lt, nat_cmp}
use Rattle.std.proofs.Math.Seq.{drop-append_seam, take-length}
use Rattle.std.proofs.lemmas.Bool.{cases_lt, ne_eqb, eq-eqb, lt-ltb, le-ltb}
use Rattle.std.proofs.lemmas.List.{map-append, length-map, get_or-map, take-append-le}
use Rattle.std.proofs.lemmas.List.Elements.{All-push, All-weaker, All-head, All-tail}
use Rattle.std.proofs.lemmas.List.Sorted.{All-permutation}
use Rattle.wire_spec.specs.Packets.{has_text}
use Rattle.view_spec.specs.Views.{printed_line}
use Rattle.stream_spec.specs.Ready.{Chunk}
use Rattle.command_spec.specs.declared.requests.ReadRequest.{ReadRequest}
use Rattle.command_spec.specs.Transcripts.{escaped}
use Rattle.report_spec.specs.Ordered.{given_by, ordered_by}
use Rattle.report_spec.proofs.Ordered.{Rises, AreFrom, is_ordered, ordered_made}
use Rattle.report_spec.specs.Times as times
use Rattle.report_spec.specs.Times.{day_of}
use Rattle.rtt_times.specs.declared.lines.Span.{Span}
use Rattle.rtt_times.specs.declared.lines.Lines.{Lines}
use Rattle.rtt_times.specs.Lines.{AddsLines, AddsText, AreEarly, Keeps, KeepsFrom, LiesIn, Line, Sorts, at_of, chunk_written, line_in, name_before, said_line, line_with, timed_line, timed_written, written}
use Rattle.rtt_times.proofs.Writing.{adds_same}

-- ---- one more
lie_still : (octets more : List ℕ) (spans : List Span) → All (LiesIn octets) spans → All (LiesIn (octets ++ more)) spans
lie_still octets more spans a = All-weaker (LiesIn octets) (LiesIn (octets ++ more)) (λ s l. (l.0, omega (arith, l.1, length-append octets more))) spans a

same_line : (octets more : List ℕ) (s : Span) → LiesIn octets s → line_in (octets ++ more) s ≡ line_in octets s
same_line octets more s l = ap (λ (xs : List ℕ). record { at = s.at; text = drop s.from xs }) (take-append-le s.to octets more l.1)

same_lines : (octets more : List ℕ) (spans : List Span) → All (LiesIn octets) spans → map (line_in (octets ++ more)) spans ≡ map (line_in octets) spans
same_lines octets more [] a = refl
same_lines octets more (s ∷ spans) a =
    ap (λ (l : Line). l ∷ map (line_in (octets ++ more)) spans) (same_line octets more s (All-head (LiesIn octets) s spans a))
    ∙ ap (λ (ls : List Line). line_in octets s ∷ ls) (same_lines octets more spans (All-tail (LiesIn octets) s spans a))

-- octets alone
pub more_octets : (old new : Lines) (more : List ℕ) → new.octets ≡ old.octets ++ more → new.spans ≡ old.spans → (lines : List Line) → Keeps old lines → Keeps new lines
more_octets old new more o s lines k = record {
  lie = subst (λ (xs : List ℕ). All (LiesIn xs) new.spans.items) (sym o) (subst (λ v. All (LiesIn (old.octets ++ more)) v.items) (sym s) (lie_still old.octets more old.spans.items k.lie));
  are = ap (λ (xs : List ℕ). map (line_in xs) new.spans.items) o ∙ (ap (λ v. map (line_in (old.octets ++ more)) v.items) s ∙ (same_lines old.octets more old.spans.items k.lie ∙ k.are));
}

-- a line that was appended
pub kept : (old mid new : Lines) (at : ℕ) (text : List ℕ) → mid.spans ≡ old.spans → mid.octets ≡ old.octets ++ text → KeepsFrom at (length old.octets) mid new → AddsLines old (record { at = at; text = text } ∷ []) new
kept old mid new at text s o f lines k =
    let m : Keeps mid lines = more_octets old mid text o s lines k in
    let span : Span = record { at = at; from = length old.octets; to = length mid.octets } in
    let octets : new.octets ≡ old.octets ++ text = f.octets ∙ o in
    let long : length mid.octets ≡ length old.octets + length text = ap length o ∙ length-append old.octets text in
    let last : line_in (old.octets ++ text) span ≡ record { at = at; text = text } =
    ap (λ (n : ℕ). record { at = at; text = drop (length old.octets) (take n (old.octets ++ text)) }) (ap length o)
    ∙ (ap (λ (xs : List ℕ). record { at = at; text = drop (length old.octets) xs }) (take-length (old.octets ++ text))
    ∙ ap (λ (xs : List ℕ). record { at = at; text = xs }) (drop-append_seam old.octets text)) in
    record {
      lie = subst (λ (xs : List ℕ). All (LiesIn xs) new.spans.items) (sym f.octets)
          (subst (λ (ss : List Span). All (LiesIn mid.octets) ss) (sym f.spans) (All-push (LiesIn mid.octets) mid.spans.items span m.lie (omega (arith, long), omega arith)));
      are = ap (λ (xs : List ℕ). map (line_in xs) new.spans.items) f.octets
          ∙ (ap (λ (ss : List Span). map (line_in mid.octets) ss) f.spans
          ∙ (map-append (line_in mid.octets) mid.spans.items (span ∷ [])
          ∙ (ap (λ (ls : List Line). ls ++ line_in mid.octets span ∷ []) m.are
          ∙ (ap (λ (xs : List ℕ). lines ++ line_in xs span ∷ []) o
          ∙ ap (λ (l : Line). lines ++ l ∷ []) last))));
    }

-- ---- a text
none_said : (name : List ℕ) (xs : List ℕ) → length xs ≡ 0 → line_with name xs ≡ []
none_said name [] e = refl
none_said name (x ∷ xs) e = absurd (omega (arith, e))

some_said : (name : List ℕ) (xs : List ℕ) → 0 < length xs → line_with name xs ≡ (name ++ xs) ++ 0x0A ∷ []
some_said name [] l = absurd (omega (arith, l))
some_said name (x ∷ xs) l = refl

pub said_nothing : (old name text new : List ℕ) → new ≡ take (length old) ((old ++ name) ++ escaped text) → length ((old ++ name) ++ escaped text) ≡ length (old ++ name) → new ≡ old ++ said_line name text
said_nothing old name text new e n =
    let empty : length (escaped text) ≡ 0 = omega (arith, n, length-append (old ++ name) (escaped text)) in
    e ∙ (ap (take (length old)) (append_assoc old name (escaped text)) ∙ (take-append-le (length old) old (name ++ escaped text) (omega arith) ∙ (take-length old
    ∙ (sym (append-nil old) ∙ ap (λ (xs : List ℕ). old ++ xs) (sym (none_said name (escaped text) empty))))))

pub said_something : (old name text new : List ℕ) → new ≡ ((old ++ name) ++ escaped text) ++ 0x0A ∷ [] → (length ((old ++ name) ++ escaped text) ≡ length (old ++ name) → ⊥) → new ≡ old ++ said_line name text
said_something old name text new e n =
    let some : 0 < length (escaped text) = positive (escaped text) (λ z. n (length-append (old ++ name) (escaped text) ∙ omega (arith, z))) in
    e ∙ (ap (λ (xs : List ℕ). xs ++ 0x0A ∷ []) (append_assoc old name (escaped text))
    ∙ (append_assoc old (name ++ escaped text) (0x0A ∷ [])
    ∙ ap (λ (xs : List ℕ). old ++ xs) (sym (some_said name (escaped text) some))))
  where
    positive : (xs : List ℕ) → (length xs ≡ 0 → ⊥) → 0 < length xs
    positive [] f = absurd (f refl)
    positive (x ∷ xs) f = omega arith

-- the lines of a text, by what is left of it
abbrev lines_by : ReadRequest → Chunk → List ℕ → List Line
lines_by r c ys = map written (if has_text ys then record { at = c.ready; ssrc = r.ssrc; told = times.Said r.source ys } ∷ [] else [])

no_lines : (r : ReadRequest) (c : Chunk) (xs : List ℕ) → escaped c.text ≡ xs → length xs ≡ 0 → chunk_written r c ≡ []
no_lines r c [] e z = ap (lines_by r c) e
no_lines r c (x ∷ xs) e z = absurd (omega (arith, z))

one_line : (r : ReadRequest) (c : Chunk) (name xs : List ℕ) → name ≡ name_before r → escaped c.text ≡ xs → 0 < length xs → chunk_written r c ≡ record { at = c.ready; text = line_with name xs } ∷ []
one_line r c name [] n e l = absurd (omega (arith, l))
one_line r c name (x ∷ xs) n e l = ap (lines_by r c) e ∙ ap (λ (ns : List ℕ). record { at = c.ready; text = printed_line (ns ++ (x ∷ xs)) } ∷ []) (sym n)

pub text_nothing : (name : List ℕ) (c : Chunk) (old new : Lines) → new.octets ≡ old.octets ++ said_line name c.text → new.spans ≡ old.spans → length new.octets ≡ length old.octets → AddsText name c old new
text_nothing name c old new o s n r e lines k =
    let long : length (said_line name c.text) ≡ 0 = omega (arith, ap length o, n, length-append old.octets (said_line name c.text)) in
    let none : length (escaped c.text) ≡ 0 = nothing (escaped c.text) long in
    subst (Keeps new) (sym (append-nil lines) ∙ ap (λ (ls : List Line). lines ++ ls) (sym (no_lines r c (escaped c.text) refl none))) (more_octets old new (said_line name c.text) o s lines k)
  where
    nothing : (xs : List ℕ) → length (line_with name xs) ≡ 0 → length xs ≡ 0
    nothing [] z = refl
    nothing (x ∷ xs) z = absurd (omega (arith, z, length-append (name ++ (x ∷ xs)) (0x0A ∷ [])))

pub text_added : (name : List ℕ) (c : Chunk) (old mid new : Lines) → mid.octets ≡ old.octets ++ said_line name c.text → mid.spans ≡ old.spans → (length mid.octets ≡ length old.octets → ⊥) → KeepsFrom c.ready (length old.octets) mid new → AddsText name c old new
text_added name c old mid new o s n f r e =
    let some : 0 < length (escaped c.text) = something (escaped c.text) refl in
    adds_same old new (record { at = c.ready; text = said_line name c.text } ∷ []) (chunk_written r c) (sym (one_line r c name (escaped c.text) e refl some)) (kept old mid new c.ready (said_line name c.text) s o f)
  where
    something : (xs : List ℕ) → escaped c.text ≡ xs → 0 < length xs
    something [] q = absurd (n (omega (arith, ap length o, length-append old.octets (said_line name c.text), ap (λ (ys : List ℕ). length (line_with name ys)) q)))
    something (x ∷ xs) q = omega arith

-- ---- their order
abbrev pub span_at : Span → ℕ
span_at s = s.at

from_first : (x : Span) (xs : List Span) → IsNonDecreasingBy span_at (x ∷ xs) → AreFrom span_at x.at xs
from_first x [] h y i = absurd i
from_first x (z ∷ zs) h y (inl e) = subst (λ (w : Span). x.at ≤ w.at) (sym e) (h 0 1 x (omega arith) (omega arith))
from_first x (z ∷ zs) h y (inr i) = from_first x zs (λ a b d le lt. skip a b d le lt) y i
  where
    skip : (a b : ℕ) (d : Span) → a ≤ b → b < length (x ∷ zs) → span_at (get_or (x ∷ zs) a d) ≤ span_at (get_or (x ∷ zs) b d)
    skip zero zero d le lt = omega arith
    skip zero (suc b) d le lt = h 0 (suc (suc b)) d (omega arith) (omega (arith, lt))
    skip (suc a) zero d le lt = absurd (omega (arith, le))
    skip (suc a) (suc b) d le lt = h (suc (suc a)) (suc (suc b)) d (omega (arith, le)) (omega (arith, lt))

rises_of : (xs : List Span) → IsNonDecreasingBy span_at xs → Rises span_at xs
rises_of [] h = tt
rises_of (x ∷ xs) h = (from_first x xs h, rises_of xs (λ a b d le lt. h (suc a) (suc b) d (omega (arith, le)) (omega (arith, lt))))

filter_same : (p q : Span → Bool) → ((s : Span) → p s ≡ q s) → (xs : List Span) → filter p xs ≡ filter q xs
filter_same p q e [] = refl
filter_same p q e (x ∷ xs) = ap (λ b. cond b (x ∷ filter p xs) (filter p xs)) (e x) ∙ ap (λ ys. cond (q x) (x ∷ ys) ys) (filter_same p q e xs)

lt_is : (a b : ℕ) → is_lt (nat_cmp a b) ≡ nat_lt a b
lt_is a b = go (nat_lt a b) (a == b)
  where
    go : (p q : Bool) → is_lt (cond p Less (cond q Equal Greater)) ≡ p
    go true q = refl
    go false true = refl
    go false false = refl

-- what ties with a span of this moment has it
tie_is : (k : ℕ) (s : Span) → (not (is_lt (nat_cmp k s.at)) && not (is_lt (nat_cmp s.at k))) ≡ (s.at == k)
tie_is k s = go (cases_lt k s.at) (cases_lt s.at k)
  where
    both : (a b : Bool) → nat_lt k s.at ≡ a → nat_lt s.at k ≡ b → (not (is_lt (nat_cmp k s.at)) && not (is_lt (nat_cmp s.at k))) ≡ (not a && not b)
    both a b e f = ap (λ x. not x && not (is_lt (nat_cmp s.at k))) (lt_is k s.at ∙ e) ∙ ap (λ x. not a && not x) (lt_is s.at k ∙ f)

    go : (k < s.at) ⊎ (s.at ≤ k) → (s.at < k) ⊎ (k ≤ s.at) → (not (is_lt (nat_cmp k s.at)) && not (is_lt (nat_cmp s.at k))) ≡ (s.at == k)
    go (inl l) w = both true false (lt-ltb k s.at l) (le-ltb s.at k (omega (arith, l))) ∙ sym (ne_eqb s.at k (λ e. omega (arith, l, e)))
    go (inr l) (inl m) = both false true (le-ltb k s.at l) (lt-ltb s.at k m) ∙ sym (ne_eqb s.at k (λ e. omega (arith, m, e)))
    go (inr l) (inr m) = both false false (le-ltb k s.at l) (le-ltb s.at k m) ∙ sym (eq-eqb s.at k (omega (arith, l, m)))

pub stable_given : (xs ys : List Span) → IsStableByKey span_at nat_cmp xs ys → (k : ℕ) → given_by span_at k ys ≡ given_by span_at k xs
stable_given xs ys stable k =
    let t : Span → Bool = λ s. not (is_lt (nat_cmp k s.at)) && not (is_lt (nat_cmp s.at k)) in
    let q : Span → Bool = λ s. s.at == k in
    sym (filter_same t q (tie_is k) ys) ∙ (stable (record { at = k; from = 0; to = 0 }) ∙ filter_same t q (tie_is k) xs)

pub sorted : (old new : Lines) → new.octets ≡ old.octets → IsPermutation old.spans.items new.spans.items → IsNonDecreasingBy span_at new.spans.items → ((k : ℕ) → given_by span_at k new.spans.items ≡ given_by span_at k old.spans.items) → Sorts old new
sorted old new o p n g lines k =
    let is : new.spans.items ≡ ordered_by span_at old.spans.items = is_ordered span_at old.spans.items new.spans.items (rises_of new.spans.items n) g in
    record {
      lie = subst (λ (xs : List ℕ). All (LiesIn xs) new.spans.items) (sym o) (All-permutation (LiesIn old.octets) old.spans.items new.spans.items p k.lie);
      are = ap (λ (xs : List ℕ). map (line_in xs) new.spans.items) o
          ∙ (ap (map (line_in old.octets)) is
          ∙ (ordered_made span_at at_of (line_in old.octets) (λ s. refl) old.spans.items
          ∙ ap (ordered_by at_of) k.are));
    }

-- ---- their times
-- what stands at a place does not depend on what is given where nothing does
pub place_is : {X : Type 0} (xs ys : List X) (i : ℕ) (d : X) → xs ≡ ys → i < length xs → get_or xs i d ≡ get_or ys i (get_or xs i d)
place_is xs ys i d e l = at xs i l ∙ ap (λ zs. get_or zs i (get_or xs i d)) e
  where
    at : (zs : List _) (k : ℕ) → k < length zs → get_or zs k d ≡ get_or zs k (get_or xs i d)
    at [] k m = absurd (omega (arith, m))
    at (z ∷ zs) zero m = refl
    at (z ∷ zs) (suc k) m = at zs k (omega (arith, m))

pub early_at : (l : Lines) → AreEarly l → (i : ℕ) (s : Span) → i < length l.spans.items → s ≡ get_or l.spans.items i s → s.at < 2 ^ 48
early_at l e i s low is =
    let d : Line = line_in l.octets s in
    let long : i < length (map (line_in l.octets) l.spans.items) = omega (arith, low, length-map l.spans.items (line_in l.octets)) in
    let all : All (λ (line : Line). line.at < 2 ^ 48) (map (line_in l.octets) l.spans.items) = subst (All (λ (line : Line). line.at < 2 ^ 48)) (sym e.1.are) e.2 in
    subst (λ (x : Span). x.at < 2 ^ 48) (sym is) (subst (λ (line : Line). line.at < 2 ^ 48) (get_or-map (line_in l.octets) l.spans.items i s d low) (all i d long))

drop_map : (f : Span → Line) (xs : List Span) (i : ℕ) (s : Span) → i < length xs → s ≡ get_or xs i s → drop i (map f xs) ≡ f s ∷ drop (i + 1) (map f xs)
drop_map f [] i s l e = absurd (omega (arith, l))
drop_map f (x ∷ xs) zero s l e = ap (λ (y : Span). f y ∷ map f xs) (sym e)
drop_map f (x ∷ xs) (suc i) s l e =
    let shift : suc i + 1 ≡ suc (i + 1) = omega arith in
    drop_map f xs i s (omega (arith, l)) e ∙ ap (λ (n : ℕ). f s ∷ drop n (map f (x ∷ xs))) (sym shift)

pub timed_more : (l : Lines) (start day i : ℕ) (s : Span) (out new total : List ℕ) (lines : List Line) → Keeps l lines → i < length l.spans.items → s ≡ get_or l.spans.items i s
    → new ≡ out ++ timed_line day (start + s.at) (drop s.from (take s.to l.octets)) → out ++ timed_written start day (drop i lines) ≡ total → new ++ timed_written start (day_of (start + s.at)) (drop (i + 1) lines) ≡ total
timed_more l start day i s out new total lines k low is n h =
    let rest = timed_written start (day_of (start + s.at)) (drop (i + 1) lines) in
    let parts : drop i lines ≡ line_in l.octets s ∷ drop (i + 1) lines =
    ap (drop i) (sym k.are) ∙ (drop_map (line_in l.octets) l.spans.items i s low is ∙ ap (λ (ls : List Line). line_in l.octets s ∷ drop (i + 1) ls) k.are) in
    ap (λ xs. xs ++ rest) n
    ∙ (append_assoc out (timed_line day (start + s.at) (drop s.from (take s.to l.octets))) rest
    ∙ (ap (λ (ls : List Line). out ++ timed_written start day ls) (sym parts) ∙ h))

pub timed_end : (l : Lines) (start day i : ℕ) (out total : List ℕ) (lines : List Line) → Keeps l lines → length l.spans.items ≤ i → out ++ timed_written start day (drop i lines) ≡ total → out ≡ total
timed_end l start day i out total lines k over h =
    let long : length lines ≤ i = omega (arith, over, ap length k.are, length-map l.spans.items (line_in l.octets)) in
    sym (append-nil out) ∙ (ap (λ (ls : List Line). out ++ timed_written start day ls) (sym (none lines i long)) ∙ h)
  where
    none : (xs : List Line) (n : ℕ) → length xs ≤ n → drop n xs ≡ []
    none [] zero m = refl
    none [] (suc n) m = refl
    none (x ∷ xs) zero m = absurd (omega (arith, m))
    none (x ∷ xs) (suc n) m = none xs n (omega (arith, m))
