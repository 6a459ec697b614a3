-- The kept blocks repeat what was sent.
use Rattle.std.proofs.Common.{◌≡◌, ℕ, zero, suc, ◌+◌, ◌-◌, ◌%◌, ◌^◌, ◌<◌, ◌≤◌, Bool, true, false, cond, Option, None, Some, List, [], ◌∷◌, ◌++◌, length, take, drop, set, get_or, refl, ap, subst, sym, ◌∙◌, arith}
use Rattle.std.specs.Prelude.{min, max, not, slice_get, ◌==◌, ◌||◌}
use Rattle.std.specs.List.{list_any}
use Rattle.std.proofs.lemmas.Bool.Decides.{nat_tests}
use Rattle.rtt_base.specs.declared.blocks.TextBlock.{TextBlock}
use Rattle.rtt_base.specs.Timestamps.{ahead}
use Rattle.wire_spec.specs.Packets.{has_text}
use Rattle.stream_spec.specs.Own.{Sent, nth, repeat_of, repeats, has_text_in}
use Rattle.stream_spec.proofs.Sent.{nth_in}
use Rattle.packetizer.specs.Kept.{in_turn, block_kept, blocks_kept}
use Rattle.packetizer.specs.declared.slots.KeptBlock.{KeptBlock}
use Rattle.packetizer.specs.WindowStanding.{kept_of, kept_last, WindowStandsFor, MayFollow}
use Rattle.wire_spec.proofs.Plain.{or_swap}

-- ---- whether one has text
-- a text that is not empty
pub text_is : (text : List ℕ) → not (length text == 0) ≡ has_text text
text_is [] = refl
text_is (x ∷ xs) = grind (arith, nat_tests)

abbrev has_one : Option Sent → Bool
has_one None = false
has_one (Some e) = has_text e.text

-- the last g + 1 are the one before the last g and these
text_before : (g : ℕ) (past : List Sent) → (has_one (nth g past) || has_text_in g past) ≡ has_text_in (suc g) past
text_before zero [] = refl
text_before (suc g) [] = refl
text_before zero (e ∷ past) = go (has_text e.text)
  where
    go : (b : Bool) → (b || false) ≡ (b || false)
    go b = refl
text_before (suc g) (e ∷ past) = or_swap (has_one (nth g past)) (has_text e.text) (has_text_in g past) ∙ ap (λ b. has_text e.text || b) (text_before g past)

abbrev pub is_text : KeptBlock → Bool
is_text b = not (length b.text == 0)

one_is : (base : ℕ) (o : Option Sent) → is_text (kept_of base o) ≡ has_one o
one_is base None = refl
one_is base (Some e) = text_is e.text

any_kept : (g base : ℕ) (past : List Sent) → list_any is_text (kept_last g base past) ≡ has_text_in g past
any_kept zero base past = refl
any_kept (suc g) base past = rw (one_is base (nth g past), any_kept g base past) (text_before g past)

or_assoc : (a b c : Bool) → ((a || b) || c) ≡ (a || (b || c))
or_assoc true b c = refl
or_assoc false b c = refl

or_comm : (a b : Bool) → (a || b) ≡ (b || a)
or_comm true true = refl
or_comm true false = refl
or_comm false true = refl
or_comm false false = refl

any_both : (xs ys : List KeptBlock) → list_any is_text (xs ++ ys) ≡ (list_any is_text xs || list_any is_text ys)
any_both [] ys = refl
any_both (x ∷ xs) ys = ap (λ b. is_text x || b) (any_both xs ys) ∙ sym (or_assoc (is_text x) (list_any is_text xs) (list_any is_text ys))

any_split : (n : ℕ) (xs : List KeptBlock) → (list_any is_text (take n xs) || list_any is_text (drop n xs)) ≡ list_any is_text xs
any_split zero xs = refl
any_split (suc n) [] = refl
any_split (suc n) (x ∷ xs) = or_assoc (is_text x) (list_any is_text (take n xs)) (list_any is_text (drop n xs)) ∙ ap (λ b. is_text x || b) (any_split n xs)

pub any_in_turn : (n : ℕ) (xs : List KeptBlock) → list_any is_text xs ≡ list_any is_text (in_turn n xs)
any_in_turn n xs = sym (any_both (drop n xs) (take n xs) ∙ (or_comm (list_any is_text (drop n xs)) (list_any is_text (take n xs)) ∙ any_split n xs))

pub due_is : (g base : ℕ) (kept : List KeptBlock) (past : List Sent) → WindowStandsFor g base kept past → list_any is_text kept ≡ has_text_in g past
due_is g base kept past s = ap (λ (bs : List KeptBlock). list_any is_text bs) s.last ∙ any_kept g base past

-- one of the last g, or the last one, has text
pub last_or_more : (g : ℕ) (past : List Sent) → (has_text_in g past || has_text_in 1 past) ≡ has_text_in (max 1 g) past
last_or_more zero past = refl
last_or_more (suc g) past = let m : max 1 (suc g) ≡ suc g = omega arith in rw m (go past)
  where
    again : (a b : Bool) → ((a || b) || (a || false)) ≡ (a || b)
    again true b = refl
    again false true = refl
    again false false = refl

    go : (zs : List Sent) → (has_text_in (suc g) zs || has_text_in 1 zs) ≡ has_text_in (suc g) zs
    go [] = refl
    go (z ∷ zs) = again (has_text z.text) (has_text_in g zs)

-- ---- the blocks
-- timestamps that lie less than half the circle apart
distance_is : (base m n : ℕ) → n ≤ m → m < n + 2 ^ 31 → ahead ((base + m) % 2 ^ 32) ((base + n) % 2 ^ 32) ≡ m - n
distance_is base m n a b = omega arith

block_is : (base media : ℕ) (e : Sent) → e.media < media → media < e.media + 2 ^ 31 → (has_text e.text ≡ true → media ≤ e.media + 16383)
    → block_kept ((base + media) % 2 ^ 32) (kept_of base (Some e)) ≡ repeat_of media (Some e)
block_is base media e after before near =
    let d = distance_is base media e.media (omega arith) before in
    ap (λ o. let b : TextBlock = record { offset = o; text = e.text } in b) (ap (min 16383) d ∙ go (has_text e.text) near)
  where
    go : (b : Bool) → (b ≡ true → media ≤ e.media + 16383) → min 16383 (media - e.media) ≡ cond b (media - e.media) (min 16383 (media - e.media))
    go true f = let n = f refl in omega arith
    go false f = refl

repeats_last : (g n base media : ℕ) (past : List Sent) → g ≤ n → MayFollow n media past
    → blocks_kept ((base + media) % 2 ^ 32) (kept_last g base past) ≡ repeats g media past
repeats_last zero n base media past l f = refl
repeats_last (suc g) n base media past l f =
    rw (repeats_last g n base media past (omega arith) f) (ap (λ b. b ∷ repeats g media past) (one (nth g past) refl))
  where
    one : (o : Option Sent) → nth g past ≡ o → block_kept ((base + media) % 2 ^ 32) (kept_of base o) ≡ repeat_of media o
    one None q = refl
    one (Some e) q = let i = nth_in g n past e q (omega arith) in let d = f.later e i in block_is base media e d.0 d.1 (f.near e i)

-- a window repeats what was sent
pub repeats_are : (g base media timestamp : ℕ) (kept : List KeptBlock) (past : List Sent) → WindowStandsFor g base kept past → timestamp ≡ (base + media) % 2 ^ 32 → MayFollow g media past
    → blocks_kept timestamp kept ≡ repeats g media past
repeats_are g base media timestamp kept past s e f = rw (s.last, e) (repeats_last g g base media past (omega arith) f)

-- ---- a block more
abbrev pub shifted : List KeptBlock → KeptBlock → List KeptBlock
shifted [] b = []
shifted (x ∷ xs) b = xs ++ b ∷ []

pushed : (g base : ℕ) (past : List Sent) (e : Sent) → kept_last g base past ++ kept_of base (Some e) ∷ [] ≡ kept_last (suc g) base (e ∷ past)
pushed zero base past e = refl
pushed (suc g) base past e = ap (λ (bs : List KeptBlock). kept_of base (nth g past) ∷ bs) (pushed g base past e)

shifted_last : (g base : ℕ) (past : List Sent) (e : Sent) → shifted (kept_last g base past) (kept_of base (Some e)) ≡ kept_last g base (e ∷ past)
shifted_last zero base past e = refl
shifted_last (suc g) base past e = pushed g base past e

pub kept_more : (g base : ℕ) (past : List Sent) (e : Sent) (timestamp : ℕ) (text : List ℕ) (old new : List KeptBlock) → WindowStandsFor g base old past
    → timestamp ≡ (base + e.media) % 2 ^ 32 → text ≡ e.text → new ≡ shifted old (record { sent = true; timestamp = timestamp; text = text }) → WindowStandsFor g base new (e ∷ past)
kept_more g base past e timestamp text old new s q t n = record { last = n ∙ rw (s.last, q, t) (shifted_last g base past e) }

-- ---- places that are written over in turn
three : (xs : List KeptBlock) → length xs ≡ 3 → (a : KeptBlock) × (b : KeptBlock) × (c : KeptBlock) × (xs ≡ a ∷ b ∷ c ∷ [])
three [] e = absurd (omega arith)
three (a ∷ []) e = absurd (omega arith)
three (a ∷ b ∷ []) e = absurd (omega arith)
three (a ∷ b ∷ c ∷ []) e = (a, b, c, refl)
three (a ∷ b ∷ c ∷ d ∷ xs) e = absurd (omega arith)

abbrev next_of : ℕ → ℕ → ℕ
next_of g n = cond (n + 1 == g) 0 (n + 1)

-- what holds at each place of one, two and three
each_place : (P : ℕ → ℕ → Type 0) → P 1 0 → P 2 0 → P 2 1 → P 3 0 → P 3 1 → P 3 2 → (g n : ℕ) → g ≤ 3 → n < g → P g n
each_place P a b c d e f zero n l m = absurd (omega arith)
each_place P a b c d e f (suc zero) zero l m = a
each_place P a b c d e f (suc zero) (suc n) l m = absurd (omega arith)
each_place P a b c d e f (suc (suc zero)) zero l m = b
each_place P a b c d e f (suc (suc zero)) (suc zero) l m = c
each_place P a b c d e f (suc (suc zero)) (suc (suc n)) l m = absurd (omega arith)
each_place P a b c d e f (suc (suc (suc zero))) zero l m = d
each_place P a b c d e f (suc (suc (suc zero))) (suc zero) l m = e
each_place P a b c d e f (suc (suc (suc zero))) (suc (suc zero)) l m = f
each_place P a b c d e f (suc (suc (suc zero))) (suc (suc (suc n))) l m = absurd (omega arith)
each_place P a b c d e f (suc (suc (suc (suc g)))) n l m = absurd (omega arith)

over_three : (g n : ℕ) (a b c x : KeptBlock) → g ≤ 3 → n < g → in_turn (next_of g n) (take g (set (a ∷ b ∷ c ∷ []) n x)) ≡ shifted (in_turn n (take g (a ∷ b ∷ c ∷ []))) x
over_three g n a b c x = each_place (λ g n. in_turn (next_of g n) (take g (set (a ∷ b ∷ c ∷ []) n x)) ≡ shifted (in_turn n (take g (a ∷ b ∷ c ∷ []))) x) refl refl refl refl refl refl g n

-- a block is written over the oldest one
pub written_over : (g n : ℕ) (places : List KeptBlock) (x : KeptBlock) → length places ≡ 3 → g ≤ 3 → n < g → in_turn (next_of g n) (take g (set places n x)) ≡ shifted (in_turn n (take g places)) x
written_over g n places x e l m = let t = three places e in subst (λ (ps : List KeptBlock). in_turn (next_of g n) (take g (set ps n x)) ≡ shifted (in_turn n (take g ps)) x) (sym t.3) (over_three g n t.0 t.1 t.2 x l m)

pub next_is : (g n m : ℕ) → (n + 1 ≡ g → m ≡ 0) → ((n + 1 ≡ g → ⊥) → m ≡ n + 1) → m ≡ next_of g n
next_is g n m f h = go (n + 1 == g) refl
  where
    go : (b : Bool) → (n + 1 == g) ≡ b → m ≡ cond b 0 (n + 1)
    go true e = f (let q : n + 1 ≡ g = grind (arith, nat_tests) in q)
    go false e = h (λ q. let no : ⊥ = grind (arith, nat_tests) in no)

turn_size : (g n timestamp : ℕ) (a b c : KeptBlock) → g ≤ 3 → n < max 1 g → length (blocks_kept timestamp (in_turn n (take g (a ∷ b ∷ c ∷ [])))) ≡ g
turn_size zero zero timestamp a b c l m = refl
turn_size zero (suc n) timestamp a b c l m = absurd (omega arith)
turn_size (suc g) n timestamp a b c l m =
    each_place (λ g n. length (blocks_kept timestamp (in_turn n (take g (a ∷ b ∷ c ∷ [])))) ≡ g) refl refl refl refl refl refl (suc g) n l (omega arith)

-- a window has as many blocks as generations
pub blocks_size : (g n timestamp : ℕ) (places : List KeptBlock) → length places ≡ 3 → g ≤ 3 → n < max 1 g → length (blocks_kept timestamp (in_turn n (take g places))) ≡ g
blocks_size g n timestamp places e l m = let t = three places e in subst (λ (ps : List KeptBlock). length (blocks_kept timestamp (in_turn n (take g ps))) ≡ g) (sym t.3) (turn_size g n timestamp t.0 t.1 t.2 l m)

turn_at : (g n p i timestamp : ℕ) (a b c d : KeptBlock) → g ≤ 3 → n < g → p < g → (n + p < g → i ≡ n + p) → (g ≤ n + p → i ≡ n + p - g)
    → slice_get (blocks_kept timestamp (in_turn n (take g (a ∷ b ∷ c ∷ [])))) p ≡ Some (block_kept timestamp (get_or (a ∷ b ∷ c ∷ []) i d))
turn_at zero n p i timestamp a b c d l m q f h = absurd (omega arith)
turn_at (suc zero) zero zero i timestamp a b c d l m q f h = let e : i ≡ 0 = f (omega arith) in rw e refl
turn_at (suc zero) zero (suc p) i timestamp a b c d l m q f h = absurd (omega arith)
turn_at (suc zero) (suc n) p i timestamp a b c d l m q f h = absurd (omega arith)
turn_at (suc (suc zero)) zero zero i timestamp a b c d l m q f h = let e : i ≡ 0 = f (omega arith) in rw e refl
turn_at (suc (suc zero)) zero (suc zero) i timestamp a b c d l m q f h = let e : i ≡ 1 = f (omega arith) in rw e refl
turn_at (suc (suc zero)) zero (suc (suc p)) i timestamp a b c d l m q f h = absurd (omega arith)
turn_at (suc (suc zero)) (suc zero) zero i timestamp a b c d l m q f h = let e : i ≡ 1 = f (omega arith) in rw e refl
turn_at (suc (suc zero)) (suc zero) (suc zero) i timestamp a b c d l m q f h = let e : i ≡ 0 = h (omega arith) in rw e refl
turn_at (suc (suc zero)) (suc zero) (suc (suc p)) i timestamp a b c d l m q f h = absurd (omega arith)
turn_at (suc (suc zero)) (suc (suc n)) p i timestamp a b c d l m q f h = absurd (omega arith)
turn_at (suc (suc (suc zero))) zero zero i timestamp a b c d l m q f h = let e : i ≡ 0 = f (omega arith) in rw e refl
turn_at (suc (suc (suc zero))) zero (suc zero) i timestamp a b c d l m q f h = let e : i ≡ 1 = f (omega arith) in rw e refl
turn_at (suc (suc (suc zero))) zero (suc (suc zero)) i timestamp a b c d l m q f h = let e : i ≡ 2 = f (omega arith) in rw e refl
turn_at (suc (suc (suc zero))) (suc zero) zero i timestamp a b c d l m q f h = let e : i ≡ 1 = f (omega arith) in rw e refl
turn_at (suc (suc (suc zero))) (suc zero) (suc zero) i timestamp a b c d l m q f h = let e : i ≡ 2 = f (omega arith) in rw e refl
turn_at (suc (suc (suc zero))) (suc zero) (suc (suc zero)) i timestamp a b c d l m q f h = let e : i ≡ 0 = h (omega arith) in rw e refl
turn_at (suc (suc (suc zero))) (suc (suc zero)) zero i timestamp a b c d l m q f h = let e : i ≡ 2 = f (omega arith) in rw e refl
turn_at (suc (suc (suc zero))) (suc (suc zero)) (suc zero) i timestamp a b c d l m q f h = let e : i ≡ 0 = h (omega arith) in rw e refl
turn_at (suc (suc (suc zero))) (suc (suc zero)) (suc (suc zero)) i timestamp a b c d l m q f h = let e : i ≡ 1 = h (omega arith) in rw e refl
turn_at (suc (suc (suc zero))) (suc (suc (suc n))) p i timestamp a b c d l m q f h = absurd (omega arith)
turn_at (suc (suc (suc zero))) n (suc (suc (suc p))) i timestamp a b c d l m q f h = absurd (omega arith)
turn_at (suc (suc (suc (suc g)))) n p i timestamp a b c d l m q f h = absurd (omega arith)

-- the block at a place counted from the oldest
pub block_at : (g n p i timestamp : ℕ) (places : List KeptBlock) (d : KeptBlock) → length places ≡ 3 → g ≤ 3 → n < g → p < g → (n + p < g → i ≡ n + p) → (g ≤ n + p → i ≡ n + p - g)
    → slice_get (blocks_kept timestamp (in_turn n (take g places))) p ≡ Some (block_kept timestamp (get_or places i d))
block_at g n p i timestamp places d e l m q f h = let t = three places e in subst (λ (ps : List KeptBlock). slice_get (blocks_kept timestamp (in_turn n (take g ps))) p ≡ Some (block_kept timestamp (get_or ps i d))) (sym t.3) (turn_at g n p i timestamp t.0 t.1 t.2 d l m q f h)

-- ---- a new window
empty_is : (base : ℕ) (b : KeptBlock) → b.sent ≡ false → b.timestamp ≡ 0 → b.text ≡ [] → b ≡ kept_of base None
empty_is base b s t x = same b.sent b.timestamp b.text s t x
  where
    same : (s : Bool) (t : ℕ) (x : List ℕ) → s ≡ false → t ≡ 0 → x ≡ [] → (let b : KeptBlock = record { sent = s; timestamp = t; text = x } in b) ≡ record { sent = false; timestamp = 0; text = [] }
    same s t x e f h = rw (e, f, h) refl

abbrev Fresh : KeptBlock → Type 0
Fresh b = (b.sent ≡ false) × ((b.timestamp ≡ 0) × (b.text ≡ []))

pub fresh : (g base : ℕ) (a b c : KeptBlock) → g ≤ 3 → Fresh a → Fresh b → Fresh c → in_turn 0 (take g (a ∷ b ∷ c ∷ [])) ≡ kept_last g base []
fresh g base a b c l x y z = rw (empty_is base a x.0 x.1.0 x.1.1, empty_is base b y.0 y.1.0 y.1.1, empty_is base c z.0 z.1.0 z.1.1) (go g l)
  where
    go : (g : ℕ) → g ≤ 3 → in_turn 0 (take g (kept_of base None ∷ kept_of base None ∷ kept_of base None ∷ [])) ≡ kept_last g base []
    go zero l = refl
    go (suc zero) l = refl
    go (suc (suc zero)) l = refl
    go (suc (suc (suc zero))) l = refl
    go (suc (suc (suc (suc g)))) l = absurd (omega arith)
