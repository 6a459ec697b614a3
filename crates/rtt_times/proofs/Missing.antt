-- Which numbers are lost, and which came late, among those that are used.
use Rattle.std.proofs.Common.{◌≡◌, ℕ, zero, suc, ◌+◌, ◌-◌, ◌<◌, ◌≤◌, Bool, true, false, cond, not, List, [], ◌∷◌, ◌++◌, map, filter, length, take, drop, get_or, refl, ap, sym, ◌∙◌, subst, arith, append-nil, append_assoc, inl, inr, ◌⊎◌, ◌==◌, nat_lt}
use Rattle.std.specs.Prelude.{reverse, ◌||◌}
use Rattle.std.specs.List.{list_any}
use Rattle.std.specs.List.Sorted.{IsNonDecreasing, IsNonDecreasingBy, IsPermutation}
use Rattle.std.proofs.lemmas.Bool.{cases_lt, ne_eqb, eq-eqb, true≢false}
use Rattle.std.proofs.lemmas.List.{map-append, length-map, reverse-append}
use Rattle.std.proofs.lemmas.List.Elements.{filter-append}
use Rattle.std.proofs.lemmas.List.Sorted.{IsNonDecreasingBy-drop, list_any-IsPermutation}
use Rattle.std.proofs.lemmas.List.Folds.{list_any-append}
use Rattle.stream_spec.specs.Lists.{In, RisingBy}
use Rattle.stream_spec.specs.Numbering.{Numbered, RisingNumbers, by_number, has_number, in_time, used}
use Rattle.stream_spec.specs.Ready.{ready_of}
use Rattle.stream_spec.proofs.Rising.{used_rises, length_by_number}
use Rattle.command_spec.specs.Reading.{usual_wait}
use Rattle.command_spec.proofs.SentBack.{map_twice}
use Rattle.reorder_buffer.specs.declared.answers.Due.{Due}
use Rattle.reorder_buffer.specs.Stories.{dues_of, due_at}
use Rattle.report_spec.specs.Numbers.{Lost, Row, is_late, late, lost, lost_among, lost_before, lost_from, missing, with_number}
use Rattle.report_spec.specs.Times as times
use Rattle.report_spec.specs.Times.{late_line, lost_line, number_lines}
use Rattle.rtt_times.specs.declared.stream_packets.TimedPacket.{TimedPacket}
use Rattle.rtt_times.specs.declared.stream_packets.StreamPackets.{StreamPackets}
use Rattle.rtt_times.specs.declared.lines.Lines.{Lines}
use Rattle.rtt_times.specs.Heard.{HasNumbers, came_in, came_of, due_in}
use Rattle.rtt_times.specs.Lines.{AddsLines, Line, written}
use Rattle.rtt_show.proofs.Showing.{drop_at}
use Rattle.rtt_times.proofs.Writing.{adds_both, adds_none, adds_same}
use Rattle.rtt_times.specs.Numbers.{AddsBefore, AddsMissing, AddsNumbers, AreAbove, AreLateNumbers, IsLate, IsPart, came_line, due_number, gap_lines, has_due, has_one, late_among, late_lines, row_lines}
use Rattle.stream_spec.proofs.Plain.{used_fits as used_few}

-- ---- rows
-- where two tell the same of the numbers, the same are missing
missing_same : (f g : ℕ → Bool) (low k : ℕ) → ((n : ℕ) → low ≤ n → n < low + k → f n ≡ g n) → missing f low k ≡ missing g low k
missing_same f g low zero e = refl
missing_same f g low (suc k) e =
    let rest = missing_same f g (suc low) k (λ n a b. e n (omega (arith, a)) (omega (arith, b))) in
    ap (λ b. cond b (missing f (suc low) k) (with_number low (missing f (suc low) k))) (e low (omega arith) (omega arith))
    ∙ ap (λ rows. cond (g low) rows (with_number low rows)) rest

-- rows begin from here on
abbrev AreFrom : ℕ → List Row → Type 0
AreFrom low [] = Unit {0}
AreFrom low (row ∷ rows) = low ≤ row.0

from_with : (low : ℕ) (rows : List Row) → AreFrom low (with_number low rows)
from_with low [] = omega arith
from_with low (row ∷ rows) = go (row.0 == suc low)
  where
    go : (b : Bool) → AreFrom low (cond b ((low, row.1) ∷ rows) ((low, low) ∷ row ∷ rows))
    go true = omega arith
    go false = omega arith

from_less : (low high : ℕ) (rows : List Row) → low ≤ high → AreFrom high rows → AreFrom low rows
from_less low high [] l a = tt
from_less low high (row ∷ rows) l a = omega (arith, l, a)

from_missing : (f : ℕ → Bool) (low k : ℕ) → AreFrom low (missing f low k)
from_missing f low zero = tt
from_missing f low (suc k) = go (f low) (from_missing f (suc low) k)
  where
    go : (b : Bool) → AreFrom (suc low) (missing f (suc low) k) → AreFrom low (cond b (missing f (suc low) k) (with_number low (missing f (suc low) k)))
    go true rest = from_less low (suc low) (missing f (suc low) k) (omega arith) rest
    go false rest = from_with low (missing f (suc low) k)

-- none of these came: one row
all_missing : (f : ℕ → Bool) (low k : ℕ) → ((n : ℕ) → low ≤ n → n < low + suc k → f n ≡ false) → missing f low (suc k) ≡ (low, low + k) ∷ []
all_missing f low zero e =
    let last : low ≡ low + zero = omega arith in
    ap (λ b. cond b [] ((low, low) ∷ [])) (e low (omega arith) (omega arith)) ∙ ap (λ (n : ℕ). (low, n) ∷ []) last
all_missing f low (suc k) e =
    let rest = all_missing f (suc low) k (λ n a b. e n (omega (arith, a)) (omega (arith, b))) in
    let next : suc low + k ≡ low + suc k = omega arith in
    ap (λ b. cond b (missing f (suc low) (suc k)) (with_number low (missing f (suc low) (suc k)))) (e low (omega arith) (omega arith))
    ∙ (ap (with_number low) rest
    ∙ (ap (λ b. cond b ((low, suc low + k) ∷ []) ((low, low) ∷ (suc low, suc low + k) ∷ [])) (eq-eqb (suc low) (suc low) refl)
    ∙ ap (λ (n : ℕ). (low, n) ∷ []) next))

-- a number that came stands between
with_apart : (low : ℕ) (rows : List Row) → AreFrom (suc (suc low)) rows → with_number low rows ≡ (low, low) ∷ rows
with_apart low [] a = refl
with_apart low (row ∷ rows) a = ap (λ b. cond b ((low, row.1) ∷ rows) ((low, low) ∷ row ∷ rows)) (ne_eqb row.0 (suc low) (λ e. omega (arith, a, e)))

-- none of those before one that came did
pub split_missing : (f : ℕ → Bool) (low k m : ℕ) → ((n : ℕ) → low ≤ n → n < low + k → f n ≡ false) → f (low + k) ≡ true → missing f low (k + suc m) ≡ missing f low k ++ missing f (suc (low + k)) m
split_missing f low zero m e t =
    let at : low ≡ low + zero = omega arith in
    let more : zero + suc m ≡ suc m = omega arith in
    let here : f low ≡ true = ap f at ∙ t in
    ap (missing f low) more ∙ (ap (λ b. cond b (missing f (suc low) m) (with_number low (missing f (suc low) m))) here ∙ ap (λ (n : ℕ). missing f (suc n) m) at)
split_missing f low (suc k) m e t =
    let at : suc low + k ≡ low + suc k = omega arith in
    let more : suc k + suc m ≡ suc (k + suc m) = omega arith in
    let rest = split_missing f (suc low) k m (λ n a b. e n (omega (arith, a)) (omega (arith, b))) (ap f at ∙ t) in
    let here : f low ≡ false = e low (omega arith) (omega arith) in
    let behind = missing f (suc (low + suc k)) m in
    let shift : missing f (suc (suc low + k)) m ≡ behind = ap (λ (n : ℕ). missing f (suc n) m) at in
    ap (missing f low) more
    ∙ (ap (λ b. cond b (missing f (suc low) (k + suc m)) (with_number low (missing f (suc low) (k + suc m)))) here
    ∙ (ap (with_number low) (rest ∙ ap (λ rows. missing f (suc low) k ++ rows) shift)
    ∙ (grown k (λ n a b. e n (omega (arith, a)) (omega (arith, b))) (from_less (suc (suc low)) (suc (low + suc k)) behind (omega arith) (from_missing f (suc (low + suc k)) m))
    ∙ ap (λ b. cond b (missing f (suc low) k) (with_number low (missing f (suc low) k)) ++ behind) (sym here))))
  where
    grown : (j : ℕ) → ((n : ℕ) → suc low ≤ n → n < suc low + j → f n ≡ false) → AreFrom (suc (suc low)) (missing f (suc (low + suc k)) m)
        → with_number low (missing f (suc low) j ++ missing f (suc (low + suc k)) m) ≡ with_number low (missing f (suc low) j) ++ missing f (suc (low + suc k)) m
    grown zero none a = with_apart low (missing f (suc (low + suc k)) m) a
    grown (suc j) none a =
        let one = all_missing f (suc low) j none in
        ap (λ rows. with_number low (rows ++ missing f (suc (low + suc k)) m)) one
        ∙ (ap (λ b. cond b ((low, suc low + j) ∷ missing f (suc (low + suc k)) m) ((low, low) ∷ (suc low, suc low + j) ∷ missing f (suc (low + suc k)) m)) (eq-eqb (suc low) (suc low) refl)
        ∙ (ap (λ b. cond b ((low, suc low + j) ∷ []) ((low, low) ∷ (suc low, suc low + j) ∷ []) ++ missing f (suc (low + suc k)) m) (sym (eq-eqb (suc low) (suc low) refl))
        ∙ ap (λ rows. with_number low rows ++ missing f (suc (low + suc k)) m) (sym one)))

-- ---- among numbers that never fall
none_has : (n : ℕ) → has_one n [] ≡ false
none_has n = refl

-- a number is among these, which begin with it
has_first : (n : ℕ) (xs : List ℕ) → has_one n (n ∷ xs) ≡ true
has_first n xs = ap (λ b. b || has_one n xs) (eq-eqb n n refl)

has_other : (n x : ℕ) (xs : List ℕ) → (n ≡ x → ⊥) → has_one n (x ∷ xs) ≡ has_one n xs
has_other n x xs d = ap (λ b. b || has_one n xs) (ne_eqb x n (λ e. d (sym e)))

above_none : (n : ℕ) (xs : List ℕ) → ((k d : ℕ) → k < length xs → n < get_or xs k d) → has_one n xs ≡ false
above_none n [] a = refl
above_none n (x ∷ xs) a =
    has_other n x xs (λ e. let b = a 0 0 (omega arith) in omega (arith, e, b)) ∙ above_none n xs (λ k d l. a (suc k) d (omega (arith, l)))

-- the rows from here on, once the first of what came is behind
pub rows_past : (low high x : ℕ) (xs : List ℕ) → IsNonDecreasing (x ∷ xs) → low ≤ x → x < high
    → missing (λ n. has_one n (x ∷ xs)) low (high - low) ≡ missing (λ n. has_one n []) low (x - low) ++ missing (λ n. has_one n xs) (x + 1) (high - (x + 1))
rows_past low high x xs up a b =
    let k = x - low in
    let m = high - (x + 1) in
    let whole : high - low ≡ k + suc m = omega (arith, a, b) in
    let at : low + k ≡ x = omega (arith, a) in
    let next : suc (low + k) ≡ x + 1 = omega (arith, a) in
    let f : ℕ → Bool = λ n. has_one n (x ∷ xs) in
    let before : (n : ℕ) → low ≤ n → n < low + k → f n ≡ false = λ n l g. has_other n x xs (λ e. omega (arith, e, g, at)) ∙ above_none n xs (λ j d i. let u = up 0 (suc j) d (omega arith) (omega (arith, i)) in omega (arith, u, g, at)) in
    ap (missing f low) whole
    ∙ (split_missing f low k m before (ap f at ∙ has_first x xs)
    ∙ (ap (λ rows. rows ++ missing f (suc (low + k)) m) (missing_same f (λ n. has_one n []) low k before)
    ∙ (ap (λ (n : ℕ). missing (λ i. has_one i []) low k ++ missing f n m) next
    ∙ ap (λ rows. missing (λ i. has_one i []) low k ++ rows) (missing_same f (λ n. has_one n xs) (x + 1) m (λ n l g. has_other n x xs (λ e. omega (arith, e, l)))))))

-- one that is none of the numbers counts for nothing
pub rows_same : (low high x : ℕ) (xs : List ℕ) → (low ≤ x → x < high → ⊥) → missing (λ n. has_one n (x ∷ xs)) low (high - low) ≡ missing (λ n. has_one n xs) low (high - low)
rows_same low high x xs o = missing_same (λ n. has_one n (x ∷ xs)) (λ n. has_one n xs) low (high - low) (λ n l g. has_other n x xs (λ e. o (omega (arith, e, l)) (omega (arith, e, l, g))))

-- where all are missing there is one row
pub one_row : (low high : ℕ) → low < high → missing (λ n. has_one n []) low (high - low) ≡ (low, high - 1) ∷ []
one_row low high l =
    let k = high - low - 1 in
    let whole : high - low ≡ suc k = omega (arith, l) in
    let last : low + k ≡ high - 1 = omega (arith, l) in
    ap (missing (λ n. has_one n []) low) whole ∙ (all_missing (λ n. has_one n []) low k (λ n a b. refl) ∙ ap (λ (n : ℕ). (low, n) ∷ []) last)

pub no_row : (f : ℕ → Bool) (low high : ℕ) → high ≤ low → missing f low (high - low) ≡ []
no_row f low high l =
    let none : high - low ≡ 0 = omega (arith, l) in
    ap (missing f low) none

-- a part that has the same numbers between the two
pub part_rows : (low high : ℕ) (all part : List ℕ) → IsPart low high all part → missing (λ n. has_one n part) low (high - low) ≡ missing (λ n. has_one n all) low (high - low)
part_rows low high all part p = missing_same (λ n. has_one n part) (λ n. has_one n all) low (high - low) (λ n l g. p n l (omega (arith, l, g)))

-- ---- what is used
rising_map : {X Y : Type 0} (f : Y → ℕ) (g : X → Y) (xs : List X) → RisingBy (λ x. f (g x)) xs → RisingBy f (map g xs)
rising_map f g [] r = tt
rising_map f g (x ∷ xs) r = ((λ y i. above xs y i (λ z j. r.0 z j)), rising_map f g xs r.1)
  where
    above : (zs : List _) (y : _) → In y (map g zs) → ((z : _) → In z zs → f (g x) < f (g z)) → f (g x) < f y
    above [] y i h = absurd i
    above (z ∷ zs) y (inl e) h = subst (λ w. f (g x) < f w) (sym e) (h z (inl refl))
    above (z ∷ zs) y (inr i) h = above zs y i (λ w j. h w (inr j))

in_get : {X : Type 0} (xs : List X) (k : ℕ) (d : X) → k < length xs → In (get_or xs k d) xs
in_get [] k d l = absurd (omega (arith, l))
in_get (x ∷ xs) zero d l = inl refl
in_get (x ∷ xs) (suc k) d l = inr (in_get xs k d (omega (arith, l)))

rising_never_falls : {X : Type 0} (f : X → ℕ) (xs : List X) → RisingBy f xs → IsNonDecreasingBy f xs
rising_never_falls f [] r i j d le lt = absurd (omega (arith, lt))
rising_never_falls f (x ∷ xs) r zero zero d le lt = omega arith
rising_never_falls f (x ∷ xs) r zero (suc j) d le lt = let h = r.0 (get_or xs j d) (in_get xs j d (omega (arith, lt))) in omega (arith, h)
rising_never_falls f (x ∷ xs) r (suc i) zero d le lt = absurd (omega (arith, le))
rising_never_falls f (x ∷ xs) r (suc i) (suc j) d le lt = rising_never_falls f xs r.1 i j d (omega (arith, le)) (omega (arith, lt))

rising_next : {X : Type 0} (f : X → ℕ) (xs : List X) → RisingBy f xs → (k : ℕ) (d : X) → k + 1 < length xs → f (get_or xs k d) < f (get_or xs (k + 1) d)
rising_next f [] r k d l = absurd (omega (arith, l))
rising_next f (x ∷ []) r k d l = absurd (omega (arith, l))
rising_next f (x ∷ y ∷ ys) r zero d l = r.0 y (inl refl)
rising_next f (x ∷ y ∷ ys) r (suc k) d l =
    let shift : suc k + 1 ≡ suc (k + 1) = omega arith in
    subst (λ (n : ℕ). f (get_or (x ∷ y ∷ ys) (suc k) d) < f (get_or (x ∷ y ∷ ys) n d)) (sym shift) (rising_next f (y ∷ ys) r.1 k d (omega (arith, l)))

dues_rising : (past : List Numbered) → RisingBy due_number (map due_in (dues_of usual_wait past))
dues_rising past = subst (RisingBy due_number) (sym (map_twice due_in (due_at usual_wait past) (used usual_wait past))) (rising_map due_number (λ u. due_in (due_at usual_wait past u)) (used usual_wait past) (used_rises usual_wait past))

pub dues_never_fall : (h : StreamPackets) (past : List Numbered) → HasNumbers h past → IsNonDecreasingBy due_number h.used.items
dues_never_fall h past n = subst (IsNonDecreasingBy due_number) (sym n.used) (rising_never_falls due_number (map due_in (dues_of usual_wait past)) (dues_rising past))

pub dues_above : (h : StreamPackets) (past : List Numbered) → HasNumbers h past → AreAbove h.used.items
dues_above h past n = subst AreAbove (sym n.used) (rising_next due_number (map due_in (dues_of usual_wait past)) (dues_rising past))

-- ---- what came late
has_dues : (wait : ℕ) (past us : List Numbered) (n : ℕ) → has_due n (map due_in (map (due_at wait past) us)) ≡ has_number us n
has_dues wait past [] n = refl
has_dues wait past (u ∷ us) n = ap (λ b. (u.number == n) || b) (has_dues wait past us n)

late_in : (heard : List Due) (us past : List Numbered) → ((n : ℕ) → has_due n heard ≡ has_number us n) → late_among heard (came_in past) ≡ map came_of (reverse (filter (is_late us) past))
late_in heard us [] e = refl
late_in heard us (p ∷ past) e =
    filter-append (λ c. not (has_due c.number heard)) (came_in past) (came_of p ∷ [])
    ∙ (ap (λ cs. cs ++ late_among heard (came_of p ∷ [])) (late_in heard us past e)
    ∙ (ap (λ b. map came_of (reverse (filter (is_late us) past)) ++ cond (not b) (came_of p ∷ []) []) (e p.number) ∙ go (is_late us p)))
  where
    go : (b : Bool) → map came_of (reverse (filter (is_late us) past)) ++ cond b (came_of p ∷ []) [] ≡ map came_of (reverse (cond b (p ∷ filter (is_late us) past) (filter (is_late us) past)))
    go true = sym (map-append came_of (reverse (filter (is_late us) past)) (p ∷ [])) ∙ ap (map came_of) (sym (reverse-append (p ∷ []) (filter (is_late us) past)))
    go false = append-nil (map came_of (reverse (filter (is_late us) past)))

pub late_is : (h : StreamPackets) (found : List TimedPacket) → found ≡ late_among h.used.items h.came.items → IsLate h found
late_is h found e past n =
    e ∙ (ap (λ (ds : List Due). late_among ds h.came.items) n.used
    ∙ (ap (late_among (map due_in (dues_of usual_wait past))) n.came
    ∙ late_in (map due_in (dues_of usual_wait past)) (used usual_wait past) past (has_dues usual_wait past (used usual_wait past))))

-- where all that came is used, nothing came late
has_put : (e : Numbered) (us : List Numbered) (n : ℕ) → has_number (by_number e us) n ≡ ((e.number == n) || has_number us n)
has_put e [] n = refl
has_put e (u ∷ us) n = go (nat_lt e.number u.number) (has_put e us n)
  where
    swap : (a b c : Bool) → (a || (b || c)) ≡ (b || (a || c))
    swap true true c = refl
    swap true false c = refl
    swap false b c = refl

    go : (b : Bool) → has_number (by_number e us) n ≡ ((e.number == n) || has_number us n) → has_number (cond b (e ∷ u ∷ us) (u ∷ by_number e us)) n ≡ ((e.number == n) || ((u.number == n) || has_number us n))
    go true h = refl
    go false h = ap (λ c. (u.number == n) || c) h ∙ swap (u.number == n) (e.number == n) (has_number us n)

none_late : (wait : ℕ) (past : List Numbered) → length (used wait past) ≡ length past → (more : List Numbered) → ((n : ℕ) → has_number (used wait past) n ≡ true → has_number more n ≡ true) → filter (is_late more) past ≡ []
none_late wait [] l more h = refl
none_late wait (e ∷ past) l more h = go (none_late wait past) (in_time wait e past) refl l
  where
    go : (length (used wait past) ≡ length past → (some : List Numbered) → ((n : ℕ) → has_number (used wait past) n ≡ true → has_number some n ≡ true) → filter (is_late some) past ≡ [])
        → (b : Bool) → in_time wait e past ≡ b → length (cond b (by_number e (used wait past)) (used wait past)) ≡ suc (length past) → filter (is_late more) (e ∷ past) ≡ []
    go rest true t k =
        let us = used wait past in
        let same : used wait (e ∷ past) ≡ by_number e us = ap (λ b. cond b (by_number e us) us) t in
        let has : (n : ℕ) → ((e.number == n) || has_number us n) ≡ true → has_number more n ≡ true = λ n q. h n (ap (λ (xs : List Numbered). has_number xs n) same ∙ (has_put e us n ∙ q)) in
        ap (λ b. cond (not b) (e ∷ filter (is_late more) past) (filter (is_late more) past)) (has e.number (ap (λ b. b || has_number us e.number) (eq-eqb e.number e.number refl)))
        ∙ rest (omega (arith, k, length_by_number e us)) more (λ n q. has n (right (e.number == n) (has_number us n) q))
      where
        right : (a b : Bool) → b ≡ true → (a || b) ≡ true
        right true b q = refl
        right false b q = q
    go rest false t k = absurd (let f = used_few wait past in omega (arith, k, f))

pub nothing_late : (h : StreamPackets) → length h.came.items ≡ length h.used.items → IsLate h []
nothing_late h l past n =
    let us = used usual_wait past in
    let long : length us ≡ length past = lengths past us (sym (ap length n.used) ∙ (sym l ∙ ap length n.came)) in
    ap (λ (es : List Numbered). map came_of (reverse es)) (sym (none_late usual_wait past long us (λ k q. q)))
  where
    came_long : (es : List Numbered) → length (came_in es) ≡ length es
    came_long [] = refl
    came_long (e ∷ es) = let r = came_long es in one (came_in es) (came_of e) ∙ ap suc r
      where
        one : (cs : List TimedPacket) (c : TimedPacket) → length (cs ++ c ∷ []) ≡ suc (length cs)
        one [] c = refl
        one (x ∷ cs) c = ap suc (one cs c)

    lengths : (es us : List Numbered) → length (map due_in (map (due_at usual_wait past) us)) ≡ length (came_in es) → length us ≡ length es
    lengths es us q = sym (length-map us (due_at usual_wait past)) ∙ (sym (length-map (map (due_at usual_wait past) us) due_in) ∙ (q ∙ came_long es))

-- ---- all rows
-- among those that came, and are no used ones, are those that came late
any_reverse : {X : Type 0} (p : X → Bool) (xs : List X) → list_any p (reverse xs) ≡ list_any p xs
any_reverse p [] = refl
any_reverse p (x ∷ xs) = ap (list_any p) (reverse-append (x ∷ []) xs) ∙ (list_any-append p (reverse xs) (x ∷ []) ∙ (ap (λ b. b || (p x || false)) (any_reverse p xs) ∙ swap (list_any p xs) (p x)))
  where
    swap : (a b : Bool) → (a || (b || false)) ≡ (b || a)
    swap true true = refl
    swap true false = refl
    swap false true = refl
    swap false false = refl

late_or_used : (us past : List Numbered) (n : ℕ) → has_number us n ≡ false → has_number (filter (is_late us) past) n ≡ has_number past n
late_or_used us [] n e = refl
late_or_used us (p ∷ past) n e = go (p.number == n) refl (late_or_used us past n e)
  where
    away : (b : Bool) → has_number (cond b (p ∷ filter (is_late us) past) (filter (is_late us) past)) n ≡ (cond b ((p.number == n) || has_number (filter (is_late us) past) n) (has_number (filter (is_late us) past) n))
    away true = refl
    away false = refl

    off : (b : Bool) → (p.number == n) ≡ false → cond b ((p.number == n) || has_number (filter (is_late us) past) n) (has_number (filter (is_late us) past) n) ≡ has_number (filter (is_late us) past) n
    off true q = ap (λ c. c || has_number (filter (is_late us) past) n) q
    off false q = refl

    go : (b : Bool) → (p.number == n) ≡ b → has_number (filter (is_late us) past) n ≡ has_number past n → has_number (filter (is_late us) (p ∷ past)) n ≡ ((p.number == n) || has_number past n)
    go true q h =
        let same : p.number ≡ n = same_of p.number n q in
        let unused : is_late us p ≡ true = ap not (ap (has_number us) same ∙ e) in
        away (is_late us p) ∙ (ap (λ c. cond c ((p.number == n) || has_number (filter (is_late us) past) n) (has_number (filter (is_late us) past) n)) unused ∙ (ap (λ c. c || has_number (filter (is_late us) past) n) q ∙ sym (ap (λ c. c || has_number past n) q)))
      where
        same_of : (a b : ℕ) → (a == b) ≡ true → a ≡ b
        same_of a b q = by (cases_lt a b) (cases_lt b a)
          where
            by : (a < b) ⊎ (b ≤ a) → (b < a) ⊎ (a ≤ b) → a ≡ b
            by (inl l) w = absurd (true≢false (sym q ∙ ne_eqb a b (λ z. omega (arith, z, l))))
            by (inr l) (inl m) = absurd (true≢false (sym q ∙ ne_eqb a b (λ z. omega (arith, z, m))))
            by (inr l) (inr m) = omega (arith, l, m)
    go false q h = away (is_late us p) ∙ (off (is_late us p) q ∙ (h ∙ sym (ap (λ c. c || has_number past n) q)))

below_rest : (n : ℕ) (v : Numbered) (vs : List Numbered) → RisingNumbers (v ∷ vs) → n < v.number → has_number (v ∷ vs) n ≡ false
below_rest n v [] r l = ap (λ b. b || false) (ne_eqb v.number n (λ e. omega (arith, e, l)))
below_rest n v (w ∷ vs) r l =
    ap (λ b. b || has_number (w ∷ vs) n) (ne_eqb v.number n (λ e. omega (arith, e, l)))
    ∙ below_rest n w vs r.1 (let h = r.0 w (inl refl) in omega (arith, l, h))

late_has : (past : List Numbered) (n : ℕ) → has_number (used usual_wait past) n ≡ false → has_number (late usual_wait past) n ≡ has_number past n
late_has past n e = any_reverse (λ x. x.number == n) (filter (is_late (used usual_wait past)) past) ∙ late_or_used (used usual_wait past) past n e

gaps_from : (ssrc : ℕ) (came : List ℕ) (past : List Numbered) → ((n : ℕ) → has_one n came ≡ has_number (late usual_wait past) n) → (u : Numbered) (us : List Numbered) → RisingNumbers (u ∷ us)
    → ((n : ℕ) → u.number < n → has_number (used usual_wait past) n ≡ has_number us n)
    → gap_lines ssrc came (map due_in (map (due_at usual_wait past) (u ∷ us))) ≡ map (λ l. written (lost_line ssrc l)) (lost_from usual_wait past u.number us)
gaps_from ssrc came past e u [] r f = refl
gaps_from ssrc came past e u (v ∷ vs) r f =
    let low = suc u.number in
    let k = v.number - suc u.number in
    let at = ready_of usual_wait past v in
    let above : u.number < v.number = r.0 v (inl refl) in
    let rows : missing (λ n. has_one n came) low k ≡ missing (has_number past) low k =
    missing_same (λ n. has_one n came) (has_number past) low k (λ n a b.
    e n ∙ late_has past n (f n (omega (arith, a)) ∙ below_rest n v vs r.1 (omega (arith, a, b, above)))) in
    let on : (n : ℕ) → v.number < n → has_number (used usual_wait past) n ≡ has_number vs n = λ n l. f n (omega (arith, l, above)) ∙ ap (λ b. b || has_number vs n) (ne_eqb v.number n (λ q. omega (arith, q, l))) in
    ap (λ rs. row_lines at ssrc rs ++ gap_lines ssrc came (map due_in (map (due_at usual_wait past) (v ∷ vs)))) rows
    ∙ (ap (λ ls. row_lines at ssrc (missing (has_number past) low k) ++ ls) (gaps_from ssrc came past e v vs r.1 on)
    ∙ (ap (λ ls. ls ++ map (λ l. written (lost_line ssrc l)) (lost_from usual_wait past v.number vs)) (sym (map_twice (λ (l : Lost). written (lost_line ssrc l)) (λ (row : Row). record { row = row; at = at }) (missing (has_number past) low k)))
    ∙ sym (map-append (λ (l : Lost). written (lost_line ssrc l)) (lost_before usual_wait past u.number v) (lost_from usual_wait past v.number vs))))

gaps_among : (ssrc : ℕ) (came : List ℕ) (past us : List Numbered) → ((n : ℕ) → has_one n came ≡ has_number (late usual_wait past) n) → used usual_wait past ≡ us → RisingNumbers us
    → gap_lines ssrc came (map due_in (map (due_at usual_wait past) us)) ≡ map (λ l. written (lost_line ssrc l)) (lost_among usual_wait past us)
gaps_among ssrc came past [] e s r = refl
gaps_among ssrc came past (u ∷ us) e s r =
    gaps_from ssrc came past e u us r (λ n l. ap (λ (vs : List Numbered). has_number vs n) s ∙ ap (λ b. b || has_number us n) (ne_eqb u.number n (λ q. omega (arith, q, l))))

gaps_are : (ssrc : ℕ) (came : List ℕ) (h : StreamPackets) (past : List Numbered) → HasNumbers h past → ((n : ℕ) → has_one n came ≡ has_number (late usual_wait past) n) → gap_lines ssrc came h.used.items ≡ map (λ l. written (lost_line ssrc l)) (lost usual_wait past)
gaps_are ssrc came h past n e =
    ap (gap_lines ssrc came) n.used
    ∙ gaps_among ssrc came past (used usual_wait past) e refl (used_rises usual_wait past)

late_lines_are : (ssrc : ℕ) (es : List Numbered) → late_lines ssrc (map came_of es) ≡ map (λ e. written (late_line ssrc e)) es
late_lines_are ssrc [] = refl
late_lines_are ssrc (e ∷ es) = ap (λ (ls : List Line). written (late_line ssrc e) ∷ ls) (late_lines_are ssrc es)

came_any : (es : List Numbered) (n : ℕ) → list_any (λ c. c.number == n) (map came_of es) ≡ has_number es n
came_any [] n = refl
came_any (e ∷ es) n = ap (λ b. (e.number == n) || b) (came_any es n)

-- the lines of what was lost, and then of what came late
pub numbers_added : (ssrc : ℕ) (h : StreamPackets) (found : List TimedPacket) (numbers : List ℕ) (one two three : Lines) → IsLate h found → AreLateNumbers found numbers → AddsLines one (gap_lines ssrc numbers h.used.items) two → AddsLines two (late_lines ssrc found) three → AddsNumbers ssrc h one three
numbers_added ssrc h found numbers one two three l a gaps lates past n =
    let es = late usual_wait past in
    let is : found ≡ map came_of es = l past n in
    let same : (k : ℕ) → has_one k numbers ≡ has_number es k = λ k. a.same k ∙ (ap (λ (cs : List TimedPacket). list_any (λ c. c.number == k) cs) is ∙ came_any es k) in
    let whole : gap_lines ssrc numbers h.used.items ++ late_lines ssrc found ≡ map written (number_lines ssrc past) =
    ap (λ ls. ls ++ late_lines ssrc found) (gaps_are ssrc numbers h past n same)
    ∙ (ap (λ ls. map (λ x. written (lost_line ssrc x)) (lost usual_wait past) ++ ls) (ap (late_lines ssrc) is ∙ late_lines_are ssrc es)
    ∙ (ap (λ ls. ls ++ map (λ e. written (late_line ssrc e)) es) (sym (map_twice written (lost_line ssrc) (lost usual_wait past)))
    ∙ (ap (λ ls. map written (map (lost_line ssrc) (lost usual_wait past)) ++ ls) (sym (map_twice written (late_line ssrc) es))
    ∙ sym (map-append written (map (lost_line ssrc) (lost usual_wait past)) (map (late_line ssrc) es))))) in
    adds_same one three (gap_lines ssrc numbers h.used.items ++ late_lines ssrc found) (map written (number_lines ssrc past)) whole (adds_both one two three (gap_lines ssrc numbers h.used.items) (late_lines ssrc found) gaps lates)

-- ---- steps of loops
pub drop_over : {X : Type 0} (xs : List X) (n : ℕ) → length xs ≤ n → drop n xs ≡ []
drop_over [] zero l = refl
drop_over [] (suc n) l = refl
drop_over (x ∷ xs) zero l = absurd (omega (arith, l))
drop_over (x ∷ xs) (suc n) l = drop_over xs n (omega (arith, l))

pub unused_more : (used : List Due) (came : List TimedPacket) (i : ℕ) (one : TimedPacket) (late new : List TimedPacket) → i < length came → one ≡ get_or came i one → new ≡ late ++ late_among used (one ∷ []) → late ++ late_among used (drop i came) ≡ late_among used came
    → new ++ late_among used (drop (i + 1) came) ≡ late_among used came
unused_more used came i one late new l e n h =
    let rest = late_among used (drop (i + 1) came) in
    let parts : drop i came ≡ (one ∷ []) ++ drop (i + 1) came = drop_at came i one l ∙ ap (λ (c : TimedPacket). c ∷ drop (i + 1) came) (sym e) in
    ap (λ xs. xs ++ rest) n
    ∙ (append_assoc late (late_among used (one ∷ [])) rest
    ∙ (ap (λ xs. late ++ xs) (sym (filter-append (λ c. not (has_due c.number used)) (one ∷ []) (drop (i + 1) came)))
    ∙ (ap (λ xs. late ++ late_among used xs) (sym parts) ∙ h)))

pub unused_end : (used : List Due) (came : List TimedPacket) (i : ℕ) (late : List TimedPacket) → length came ≤ i → late ++ late_among used (drop i came) ≡ late_among used came → late ≡ late_among used came
unused_end used came i late l h = sym (append-nil late) ∙ (ap (λ xs. late ++ late_among used xs) (sym (drop_over came i l)) ∙ h)

-- what is added so far, and what is still missing
abbrev pub RowsSoFar : ℕ → ℕ → ℕ → ℕ → List ℕ → List ℕ → ℕ → Lines → Lines → Type 0
RowsSoFar at ssrc low high all left from old now =
    (rows : List Row) × AddsLines old (row_lines at ssrc rows) now × (missing (λ n. has_one n all) low (high - low) ≡ rows ++ missing (λ n. has_one n left) from (high - from))

pub rows_none : (at ssrc low high : ℕ) (all : List ℕ) (l : Lines) → RowsSoFar at ssrc low high all all low l l
rows_none at ssrc low high all l = ([], adds_none l, refl)

rows_both : (at ssrc : ℕ) (xs ys : List Row) (one two three : Lines) → AddsLines one (row_lines at ssrc xs) two → AddsLines two (row_lines at ssrc ys) three → AddsLines one (row_lines at ssrc (xs ++ ys)) three
rows_both at ssrc xs ys one two three f g =
    adds_same one three _ _ (sym (map-append (λ (row : Row). written (lost_line ssrc (record { row = row; at = at }))) xs ys)) (adds_both one two three (row_lines at ssrc xs) (row_lines at ssrc ys) f g)

never_falls_on : (xs : List ℕ) (i : ℕ) → IsNonDecreasing xs → IsNonDecreasing (drop i xs)
never_falls_on xs i h = IsNonDecreasingBy-drop (λ (n : ℕ). n) i xs h

pub rows_more : (at ssrc low high : ℕ) (all : List ℕ) (i from number next : ℕ) (old now new : Lines) → IsNonDecreasing all → i < length all → number ≡ get_or all i number → AddsBefore at ssrc from number high now new next
    → RowsSoFar at ssrc low high all (drop i all) from old now → RowsSoFar at ssrc low high all (drop (i + 1) all) next old new
rows_more at ssrc low high all i from number next old now new up l e adds h =
    let parts : drop i all ≡ number ∷ drop (i + 1) all = drop_at all i number l ∙ ap (λ (n : ℕ). n ∷ drop (i + 1) all) (sym e) in
    let a = adds (drop (i + 1) all) (subst IsNonDecreasing parts (never_falls_on all i up)) in (
      h.0 ++ a.0,
      rows_both at ssrc h.0 a.0 old now new h.1 a.1,
      h.2 ∙ (ap (λ xs. h.0 ++ missing (λ n. has_one n xs) from (high - from)) parts
          ∙ (ap (λ rows. h.0 ++ rows) a.2 ∙ sym (append_assoc h.0 a.0 (missing (λ n. has_one n (drop (i + 1) all)) next (high - next))))),
    )

pub rows_end : (at ssrc low high : ℕ) (all : List ℕ) (i from : ℕ) (old now new : Lines) → length all ≤ i → RowsSoFar at ssrc low high all (drop i all) from old now → AddsMissing at ssrc [] from high now new → AddsMissing at ssrc all low high old new
rows_end at ssrc low high all i from old now new l h last =
    adds_same old new _ _ (ap (row_lines at ssrc) (sym (h.2 ∙ ap (λ xs. h.0 ++ missing (λ n. has_one n xs) from (high - from)) (drop_over all i l))))
    (rows_both at ssrc h.0 (missing (λ n. has_one n []) from (high - from)) old now new h.1 last)

-- a number that stands in the way
pub before_in : (at ssrc low number high : ℕ) (old new : Lines) → low ≤ number → number < high → AddsMissing at ssrc [] low number old new → AddsBefore at ssrc low number high old new (number + 1)
before_in at ssrc low number high old new a b adds rest up = (missing (λ n. has_one n []) low (number - low), adds, rows_past low high number rest up a b)

pub before_out : (at ssrc low number high : ℕ) (l : Lines) → (low ≤ number → number < high → ⊥) → AddsBefore at ssrc low number high l l low
before_out at ssrc low number high l o rest up = ([], adds_none l, rows_same low high number rest o)

-- the row of what is between
pub row_added : (at ssrc low high : ℕ) (old new : Lines) → low < high → AddsLines old (written (record { at = at; ssrc = ssrc; told = times.LostRow (low, high - 1) }) ∷ []) new → AddsMissing at ssrc [] low high old new
row_added at ssrc low high old new l f = adds_same old new _ _ (ap (row_lines at ssrc) (sym (one_row low high l))) f

pub no_row_added : (at ssrc low high : ℕ) (all : List ℕ) (l : Lines) → high ≤ low → AddsMissing at ssrc all low high l l
no_row_added at ssrc low high all l o = adds_same l l _ _ (ap (row_lines at ssrc) (sym (no_row (λ n. has_one n all) low high o))) (adds_none l)

pub part_added : (at ssrc low high : ℕ) (all part : List ℕ) (old new : Lines) → IsPart low high all part → AddsMissing at ssrc part low high old new → AddsMissing at ssrc all low high old new
part_added at ssrc low high all part old new p f = adds_same old new _ _ (ap (row_lines at ssrc) (part_rows low high all part p)) f

-- all gaps
abbrev pub GapsSoFar : ℕ → List ℕ → List Due → List Due → Lines → Lines → Type 0
GapsSoFar ssrc late all left old now = (lines : List Line) × AddsLines old lines now × (gap_lines ssrc late all ≡ lines ++ gap_lines ssrc late left)

pub gaps_none : (ssrc : ℕ) (late : List ℕ) (all : List Due) (l : Lines) → GapsSoFar ssrc late all all l l
gaps_none ssrc late all l = ([], adds_none l, refl)

pub gaps_more : (ssrc : ℕ) (late : List ℕ) (all : List Due) (i : ℕ) (d e : Due) (old now new : Lines) → i + 1 < length all → d ≡ get_or all i d → e ≡ get_or all (i + 1) e → AddsMissing e.ready ssrc late (suc d.number) e.number now new
    → GapsSoFar ssrc late all (drop i all) old now → GapsSoFar ssrc late all (drop (i + 1) all) old new
gaps_more ssrc late all i d e old now new l one two adds h =
    let rows = row_lines e.ready ssrc (missing (λ n. has_one n late) (suc d.number) (e.number - suc d.number)) in
    let first : drop (i + 1) all ≡ e ∷ drop (i + 1 + 1) all = drop_at all (i + 1) e l ∙ ap (λ (x : Due). x ∷ drop (i + 1 + 1) all) (sym two) in
    let parts : drop i all ≡ d ∷ e ∷ drop (i + 1 + 1) all = drop_at all i d (omega (arith, l)) ∙ (ap (λ (x : Due). x ∷ drop (i + 1) all) (sym one) ∙ ap (λ xs. d ∷ xs) first) in (
      h.0 ++ rows,
      adds_both old now new h.0 rows h.1 adds,
      h.2 ∙ (ap (λ xs. h.0 ++ gap_lines ssrc late xs) parts ∙ (sym (append_assoc h.0 rows (gap_lines ssrc late (e ∷ drop (i + 1 + 1) all))) ∙ ap (λ xs. (h.0 ++ rows) ++ gap_lines ssrc late xs) (sym first))),
    )

pub gaps_end : (ssrc : ℕ) (late : List ℕ) (all : List Due) (i : ℕ) (old now : Lines) → length all ≤ i + 1 → GapsSoFar ssrc late all (drop i all) old now → AddsLines old (gap_lines ssrc late all) now
gaps_end ssrc late all i old now l h = adds_same old now _ _ (sym (h.2 ∙ (ap (λ ls. h.0 ++ ls) (none all i l) ∙ append-nil h.0))) h.1
  where
    none : (xs : List Due) (k : ℕ) → length xs ≤ k + 1 → gap_lines ssrc late (drop k xs) ≡ []
    none [] zero m = refl
    none [] (suc k) m = refl
    none (x ∷ []) zero m = refl
    none (x ∷ y ∷ xs) zero m = absurd (omega (arith, m))
    none (x ∷ xs) (suc k) m = none xs k (omega (arith, m))

-- what came late
abbrev pub LateSoFar : ℕ → List TimedPacket → List TimedPacket → Lines → Lines → Type 0
LateSoFar ssrc all left old now = (lines : List Line) × AddsLines old lines now × (late_lines ssrc all ≡ lines ++ late_lines ssrc left)

pub late_none : (ssrc : ℕ) (all : List TimedPacket) (l : Lines) → LateSoFar ssrc all all l l
late_none ssrc all l = ([], adds_none l, refl)

pub late_more : (ssrc : ℕ) (all : List TimedPacket) (i : ℕ) (one : TimedPacket) (old now new : Lines) → i < length all → one ≡ get_or all i one → AddsLines now (came_line ssrc one ∷ []) new → LateSoFar ssrc all (drop i all) old now → LateSoFar ssrc all (drop (i + 1) all) old new
late_more ssrc all i one old now new l e adds h =
    let parts : drop i all ≡ one ∷ drop (i + 1) all = drop_at all i one l ∙ ap (λ (c : TimedPacket). c ∷ drop (i + 1) all) (sym e) in (
      h.0 ++ came_line ssrc one ∷ [],
      adds_both old now new h.0 (came_line ssrc one ∷ []) h.1 adds,
      h.2 ∙ (ap (λ xs. h.0 ++ late_lines ssrc xs) parts ∙ sym (append_assoc h.0 (came_line ssrc one ∷ []) (late_lines ssrc (drop (i + 1) all)))),
    )

pub late_end : (ssrc : ℕ) (all : List TimedPacket) (i : ℕ) (old now : Lines) → length all ≤ i → LateSoFar ssrc all (drop i all) old now → AddsLines old (late_lines ssrc all) now
late_end ssrc all i old now l h = adds_same old now _ _ (sym (h.2 ∙ (ap (λ xs. h.0 ++ late_lines ssrc xs) (drop_over all i l) ∙ append-nil h.0))) h.1

-- ---- looking for numbers
none_due : (used : List Due) (n : ℕ) → ((k : ℕ) (d : Due) → k < length used → due_number (get_or used k d) ≡ n → ⊥) → has_due n used ≡ false
none_due [] n f = refl
none_due (u ∷ used) n f =
    ap (λ b. b || has_due n used) (ne_eqb u.number n (λ e. f 0 u (omega arith) e))
    ∙ none_due used n (λ k d l e. f (suc k) d (omega (arith, l)) e)

some_due : (used : List Due) (n place : ℕ) (d : Due) → place < length used → due_number (get_or used place d) ≡ n → has_due n used ≡ true
some_due [] n place d l e = absurd (omega (arith, l))
some_due (u ∷ used) n zero d l e = ap (λ b. b || has_due n used) (eq-eqb u.number n e)
some_due (u ∷ used) n (suc place) d l e = ap (λ b. (u.number == n) || b) (some_due used n place d (omega (arith, l)) e) ∙ either (u.number == n)
  where
    either : (b : Bool) → (b || true) ≡ true
    either true = refl
    either false = refl

same_at : (xs : List Due) (i : ℕ) (a b : Due) → i < length xs → get_or xs i a ≡ get_or xs i b
same_at [] i a b p = absurd (omega (arith, p))
same_at (y ∷ ys) zero a b p = refl
same_at (y ∷ ys) (suc i) a b p = same_at ys i a b (omega (arith, p))

-- where numbers never fall, and those before this place are less, and those from it on are not
pub found_there : (used : List Due) (n place : ℕ) (x : Due) → IsNonDecreasingBy due_number used → place < length used → x ≡ get_or used place x → ((k : ℕ) (d : Due) → k < place → due_number (get_or used k d) < n)
    → ((k : ℕ) (d : Due) → place ≤ k → k < length used → n ≤ due_number (get_or used k d)) → (x.number == n) ≡ has_due n used
found_there used n place x up l is below above = go (cases_lt x.number n) (cases_lt n x.number)
  where
    at : x.number ≡ due_number (get_or used place x)
    at = ap due_number is

    go : (x.number < n) ⊎ (n ≤ x.number) → (n < x.number) ⊎ (x.number ≤ n) → (x.number == n) ≡ has_due n used
    go (inl m) w = absurd (let a = above place x (omega arith) l in omega (arith, a, m, at))
    go (inr m) (inl o) =
        ne_eqb x.number n (λ e. omega (arith, e, o))
        ∙ sym (none_due used n (λ k d j e. by k d j e (cases_lt k place)))
      where
        by : (k : ℕ) (d : Due) → k < length used → due_number (get_or used k d) ≡ n → (k < place) ⊎ (place ≤ k) → ⊥
        by k d j e (inl q) = let b = below k d q in omega (arith, b, e)
        by k d j e (inr q) = let u = up place k d q j in omega (arith, u, e, o, at, ap due_number (same_at used place x d l))
    go (inr m) (inr o) =
        let same : x.number ≡ n = omega (arith, m, o) in
        eq-eqb x.number n same ∙ sym (some_due used n place x l (sym at ∙ same))

pub found_nowhere : (used : List Due) (n place : ℕ) → length used ≤ place → ((k : ℕ) (d : Due) → k < place → due_number (get_or used k d) < n) → false ≡ has_due n used
found_nowhere used n place l below = sym (none_due used n (λ k d j e. let b = below k d (omega (arith, j, l)) in omega (arith, b, e)))

-- what stands before, or behind, counts for nothing
has_behind : (n i : ℕ) (xs : List ℕ) → ((k d : ℕ) → k < i → k < length xs → get_or xs k d ≡ n → ⊥) → has_one n (drop i xs) ≡ has_one n xs
has_behind n zero xs f = refl
has_behind n (suc i) [] f = refl
has_behind n (suc i) (x ∷ xs) f = has_behind n i xs (λ k d l m e. f (suc k) d (omega (arith, l)) (omega (arith, m)) e) ∙ sym (has_other n x xs (λ e. f 0 x (omega arith) (omega arith) (sym e)))

has_front : (n i : ℕ) (xs : List ℕ) → ((k d : ℕ) → i ≤ k → k < length xs → get_or xs k d ≡ n → ⊥) → has_one n (take i xs) ≡ has_one n xs
has_front n zero [] f = refl
has_front n zero (x ∷ xs) f = sym (has_other n x xs (λ e. f 0 x (omega arith) (omega arith) (sym e)) ∙ sym (has_front n zero xs (λ k d l m e. f (suc k) d (omega arith) (omega (arith, m)) e)) ∙ nothing xs)
  where
    nothing : (ys : List ℕ) → has_one n (take 0 ys) ≡ false
    nothing [] = refl
    nothing (y ∷ ys) = refl
has_front n (suc i) [] f = refl
has_front n (suc i) (x ∷ xs) f = ap (λ b. (x == n) || b) (has_front n i xs (λ k d l m e. f (suc k) d (omega (arith, l)) (omega (arith, m)) e))

pub is_part : (low high : ℕ) (all : List ℕ) (from count : ℕ) → ((k d : ℕ) → k < from → k < length all → get_or all k d < low) → ((k d : ℕ) → count ≤ k → k < length (drop from all) → high ≤ get_or (drop from all) k d) → IsPart low high all (take count (drop from all))
is_part low high all from count below above n l h =
    has_front n count (drop from all) (λ k d m j e. let a = above k d m j in omega (arith, a, e, h))
    ∙ has_behind n from all (λ k d m j e. let b = below k d m j in omega (arith, b, e, l))

-- the numbers of those that came late
list_any_map : (late : List TimedPacket) (n : ℕ) → has_one n (map (λ (c : TimedPacket). c.number) late) ≡ list_any (λ c. c.number == n) late
list_any_map [] n = refl
list_any_map (c ∷ late) n = ap (λ b. (c.number == n) || b) (list_any_map late n)

pub late_numbers : (late : List TimedPacket) (found numbers : List ℕ) → found ≡ map (λ c. c.number) late → IsPermutation found numbers → IsNonDecreasing numbers → AreLateNumbers late numbers
late_numbers late found numbers e p up = record {
  same = λ n. sym (list_any-IsPermutation (λ x. x == n) found numbers p) ∙ (ap (λ xs. has_one n xs) e ∙ list_any_map late n);
  rise = up;
}
