-- Each step at a board keeps its rule.
use Rattle.std.proofs.Common.{◌≡◌, ◌≢◌, ℕ, ◌+◌, ◌<◌, ◌≤◌, true, false, true≢false, List, [], ◌∷◌, ◌++◌, length, fold, set, refl, sym, ap, ◌∙◌, subst, ⊎_elim, arith, append_assoc, append-nil, length-append}
use Rattle.std.proofs.lemmas.List.Sums.{sum_by-append}
use Rattle.std.specs.Prelude.{Result, Ok, Err, IsOk, MatchResult}
use mathlib.Core.Option.{some}
use mathlib.Core.List.{IsPrefix}
use lib.ListN.{get_elem?}
use Rattle.crossbeam_utils.specs.Register.{Admits, Turns, TurnsAt, Forks, Merges}
use Rattle.atomic_table.proofs.Lists.{at_set, at_snoc}
use Rattle.rtt_base.specs.declared.records.Chunk.{Chunk}
use Rattle.live_board.specs.declared.pages.Page.{Page}
use Rattle.live_board.specs.declared.pages.Publish.{Publish}
use Rattle.live_board.specs.declared.rule.EndView.{EndView}
use Rattle.live_board.specs.Sheets.{IsSheetOf, added_all}
use Rattle.logbook.specs.Pages.{Named}
use Rattle.live_board.specs.Histories.{changes_of, ended_in, EndsOnce, entry_of, head_of, octets_of}
use Rattle.live_board.specs.Pages.{IsFurther, IsGood, IsNext, published}
use Rattle.live_board.specs.Rule.{IsKept, Knows, Sees, book_in, nobody, view_of}
use Rattle.live_board.specs.Ends.{CanShow, HasShown, IsLaid, IsReading, IsWriting}
use Rattle.live_board.specs.Views.{board_of, reading_of, writing_of}
use Rattle.live_board.specs.declared.histories.BoardEntry.{BoardEntry}
use Rattle.live_board.proofs.Fronts.{changes_more, clash, ended_more, over_is, prefix_more, prefix_self, prefix_shorter}
use Rattle.live_board.proofs.Sheeting.{all_more}

-- a page after the next publishing is good
pub next_good : (x : Page) (p : Publish) → IsGood x → IsNext x p → IsGood (published x p)
next_good x p good next =
    let all : changes_of p.seen.log ≡ changes_of x.seen.log ++ p.fresh.chunks.items = ap changes_of next.log ∙ changes_more x.seen.log (entry_of p.fresh) in
    let fits : octets_of (changes_of x.seen.log ++ p.fresh.chunks.items) < 18446744073709551616 = subst (λ (l : List Chunk). octets_of l < 18446744073709551616) all next.fits in
    let shows = all_more (length x.sheet) (changes_of x.seen.log) p.fresh.chunks.items x.sheet good.shows fits in
    record {
      count = next.count;
      ended = next.ended;
      once = next.once;
      shows = subst (λ (t : ℕ × List Chunk). IsSheetOf t.0 t.1 (added_all x.sheet p.fresh.chunks.items)) (λ i. (sym shows.wide i, sym all i)) shows;
    }

pub next_further : (x : Page) (p : Publish) → IsGood x → IsNext x p → IsFurther x (published x p)
next_further x p good next =
    let all : changes_of p.seen.log ≡ changes_of x.seen.log ++ p.fresh.chunks.items = ap changes_of next.log ∙ changes_more x.seen.log (entry_of p.fresh) in
    let fits : octets_of (changes_of x.seen.log ++ p.fresh.chunks.items) < 18446744073709551616 = subst (λ (l : List Chunk). octets_of l < 18446744073709551616) all next.fits in
    let shows = all_more (length x.sheet) (changes_of x.seen.log) p.fresh.chunks.items x.sheet good.shows fits in
    record { book = next.book; wide = shows.wide; front = prefix_more x.seen.log p.seen.log (entry_of p.fresh) next.log }

pub further_self : (x : Page) → IsFurther x x
further_self x = record { book = refl; wide = refl; front = prefix_self x.seen.log }

-- what is known of a page is known of a further one
later : (x y : Page) (v : EndView) → Knows x v → IsFurther x y → Knows y v
later x y v k f = record { book = k.book ∙ sym f.book; wide = k.wide ∙ sym f.wide }

known : (y : Page) → Knows y (view_of y)
known y = record { book = refl; wide = refl }

-- the page becomes a further one, or stays
pub sees : (x y : Page) (seat : ℕ) (v : EndView) → (IsGood x → IsGood y) → IsFurther x y → TurnsAt IsKept seat v x y Sees
sees x y seat v good further views h at = (
  view_of y,
  (
    good h.0,
    λ j u e k. ⊎_elim (λ (t : (j ≡ seat) × (view_of y ≡ u)). subst (λ (z : EndView). Knows y z) t.1 (known y)) (λ (t : (j ≢ seat) × (get_elem? views j ≡ some u)). later x y u (h.1 j u t.1 k) further)
        (at_set views seat j (view_of y) u e),
  ),
  (refl, good h.0, λ k. later x y v (h.1 seat v at k) further),
)

pub looks : (seat : ℕ) (v : EndView) → Turns IsKept seat v (λ x. x) Sees
looks seat v x = sees x x seat v (λ g. g) (further_self x)

pub admits : Admits IsKept nobody
admits x views h = (h.0, λ j u e k. ⊎_elim (λ (t : get_elem? views j ≡ some u). h.1 j u t k) (λ (t : nobody ≡ u). clash _ u.known k (ap (λ (w : EndView). w.known) (sym t))) (at_snoc views nobody u j e))

set_same : (x : Page) (views : List EndView) (seat : ℕ) (v : EndView) → IsKept x views → (v.known ≡ true → Knows x v) → IsKept x (set views seat v)
set_same x views seat v h mine = (h.0, λ j u e k. ⊎_elim (λ (t : (j ≡ seat) × (v ≡ u)). subst (λ (z : EndView). z.known ≡ true → Knows x z) t.1 mine k) (λ (t : (j ≢ seat) × (get_elem? views j ≡ some u)). h.1 j u t.1 k) (at_set views seat j v u e))

pub forks : (seat : ℕ) (v : EndView) → Forks IsKept seat v v v
forks seat v x views h at =
    let mine : v.known ≡ true → Knows x v = h.1 seat v at in
    let kept = set_same x views seat v h mine in
    (h.0, λ j u e k. ⊎_elim (λ (t : get_elem? (set views seat v) j ≡ some u). kept.1 j u t k) (λ (t : v ≡ u). subst (λ (z : EndView). z.known ≡ true → Knows x z) t mine k) (at_snoc (set views seat v) v u j e))

pub merges : (seat : ℕ) (v : EndView) (other : ℕ) (w : EndView) → Merges IsKept seat v other w w nobody
merges seat v other w x views h at apart there =
    let mine : w.known ≡ true → Knows x w = ⊎_elim (λ (t : (other ≡ seat) × (w ≡ w)). absurd (apart t.0)) (λ (t : (other ≢ seat) × (get_elem? views other ≡ some w)). h.1 other w t.1) (at_set views seat other w w there) in
    set_same x (set views seat w) other nobody (set_same x views seat w h mine) (λ k. clash _ false k refl)

-- the first page, which only its writer has
pub starts : (x : Page) → IsGood x → IsKept x (nobody ∷ [])
starts x good = admits x [] (good, λ j u e k. absurd (none_there j u e))
  where
    none_there : (j : ℕ) (u : EndView) → get_elem? [] j ≡ some u → ⊥
    none_there j u e = cc e

-- ---- what an end is after a step
-- of two pages of one board the one with the greater count is further
pub go_further : (x y : Page) (both : List BoardEntry) → IsGood x → IsGood y → y.seen.book ≡ x.seen.book → length y.sheet ≡ length x.sheet → IsPrefix x.seen.log both → IsPrefix y.seen.log both
    → x.count ≤ y.count → IsFurther x y
go_further x y both gx gy book wide p q le = record {
  book = book;
  wide = wide;
  front = let a = gx.count in let b = gy.count in prefix_shorter x.seen.log y.seen.log both p q (omega (arith, a, b, le));
}

-- a reader that took a page, and then keeps one that is further than its own
pub now_reading : (v w : EndView) (x y z : Page) → IsReading v x → Sees v y y w → IsGood z → IsFurther x z → IsReading w z
now_reading v w x y z is saw good further =
    let k = saw.2 is.known in
    record {
      known = ap (λ (u : EndView). u.known) saw.0;
      board = record {
        book = ap book_in saw.0 ∙ (sym k.book ∙ (is.board.book ∙ sym further.book));
        wide = ap (λ (u : EndView). u.legs) saw.0 ∙ (sym k.wide ∙ (is.board.wide ∙ sym further.wide));
      };
      good = good;
    }

-- a reader that keeps a page that is further than its own
pub still_reading : (v : EndView) (x z : Page) → IsReading v x → IsGood z → IsFurther x z → IsReading v z
still_reading v x z is good further = record {
  known = is.known;
  board = record { book = is.board.book ∙ sym further.book; wide = is.board.wide ∙ sym further.wide };
  good = good;
}

pub same_board : (x y : Page) → IsFurther x y → board_of y ≡ board_of x
same_board x y f i = record { history = f.book i; legs = f.wide i }

-- what was seen and has ended is all
pub reads_on : (x y : Page) → IsFurther x y → IsGood y → ended_in x.seen.log ≡ true → reading_of y ≡ reading_of x
reads_on x y f good ended =
    let log : y.seen.log ≡ x.seen.log = over_is x.seen.log y.seen.log f.front good.once ended in
    λ i. record { board = same_board x y f i; legs = f.wide i; seen = changes_of (log i); ended = ended_in (log i) }

-- what is published next of a page, where all its octets are counted
pub is_next : (x : Page) (p : Publish) (octets : ℕ) → IsGood x → ended_in x.seen.log ≡ false → p.seen.book ≡ x.seen.book → p.seen.log ≡ x.seen.log ++ entry_of p.fresh ∷ [] → EndsOnce p.seen.log
    → p.count ≡ x.count + 1 → p.ended ≡ p.fresh.ends → octets ≡ octets_of (changes_of x.seen.log ++ p.fresh.chunks.items) → octets < 18446744073709551616 → IsNext x p
is_next x p octets good going book log once count ended counted few = record {
  book = book;
  log = log;
  once = once;
  count = let l = ap length log in let m = length-append x.seen.log (entry_of p.fresh ∷ []) in let n = good.count in omega (arith, count, l, m, n);
  ended = ended ∙ (sym (ended_more x.seen.log (entry_of p.fresh) going) ∙ sym (ap ended_in log));
  fits = let all = ap octets_of (ap changes_of log ∙ changes_more x.seen.log (entry_of p.fresh)) in omega (arith, all, counted, few);
}

-- and what the writer is then
pub next_writing : (x : Page) (p : Publish) → IsGood x → IsNext x p → ended_in x.seen.log ≡ false
    → writing_of (published x p) [] ≡ record { board = board_of x; legs = length x.sheet; published = changes_of x.seen.log ++ p.fresh.chunks.items; pending = []; ended = p.fresh.ends }
next_writing x p good next going =
    let f = next_further x p good next in
    let all : changes_of p.seen.log ≡ changes_of x.seen.log ++ p.fresh.chunks.items = ap changes_of next.log ∙ changes_more x.seen.log (entry_of p.fresh) in
    let end : ended_in p.seen.log ≡ p.fresh.ends = ap ended_in next.log ∙ ended_more x.seen.log (entry_of p.fresh) going in
    λ i. record { board = same_board x (published x p) f i; legs = f.wide i; published = all i; pending = []; ended = end i }

-- one change more is counted
pub counted_more : (published pending : List Chunk) (c : Chunk) (octets : ℕ) → octets ≡ octets_of (published ++ pending) → octets + length c.text ≡ octets_of (published ++ (pending ++ c ∷ []))
counted_more published pending c octets is =
    let moved : (published ++ pending) ++ c ∷ [] ≡ published ++ (pending ++ c ∷ []) = append_assoc published pending (c ∷ []) in
    let more = sum_by-append (λ (x : Chunk). length x.text) (published ++ pending) (c ∷ []) in
    let all = ap octets_of moved in
    omega (arith, is, more, all)

-- what waits may be shown
pub shows : (seat : ℕ) (v : EndView) (x : Page) (waits : List Publish) (next : Page) → CanShow x waits → next ≡ fold published x waits → TurnsAt IsKept seat v x next Sees
shows seat v x waits next can is =
    let p : Publish = can.one.0 in
    let only : next ≡ published x p = is ∙ ap (λ (l : List Publish). fold published x l) can.one.1 in
    subst (λ (y : Page). TurnsAt IsKept seat v x y Sees) (sym only)
    (sees x (published x p) seat v (λ good. next_good x p good can.one.2) (next_further x p can.good can.one.2))

-- what waited is shown, since it can be absorbed
pub has_shown : {E : Type 0} (v w : EndView) (x y : Page) (waits left : List Publish) (r : Result (Unit {0}) E) → IsOk r
    → MatchResult r (λ _. (y ≡ fold published x waits) × (left ≡ [])) (λ _. (y ≡ x) × (left ≡ waits)) → MatchResult r (λ _. Sees v x y w) (λ _. w ≡ v)
    → HasShown x waits y left
has_shown v w x y waits left (Ok u) ok values rule = record { good = rule.1; all = λ p only. values.0 ∙ ap (λ (l : List Publish). fold published x l) only; none = values.1 }
has_shown v w x y waits left (Err e) ok values rule = absurd (true≢false (sym ok))

-- then the writer knows the board of what is shown
pub view_shown : {E : Type 0} (v w : EndView) (x y : Page) (r : Result (Unit {0}) E) → IsOk r → MatchResult r (λ _. Sees v x y w) (λ _. w ≡ v) → w ≡ view_of y
view_shown v w x y (Ok u) ok rule = rule.0
view_shown v w x y (Err e) ok rule = absurd (true≢false (sym ok))

-- what is published next waits, and may be shown
pub share_can : (x x' : Page) (waits : List Publish) (p : Publish) → x' ≡ x → waits ≡ p ∷ [] → IsGood x → IsNext x p → CanShow x' waits
share_can x x' waits p same one good next = subst (λ (y : Page). CanShow y waits) (sym same) record { good = good; one = (p, one, next) }

-- the writer when it was shown
pub share_after : (x x' y : Page) (waits left : List Publish) (p : Publish) (word : Named) (pending : List Chunk) (octets : ℕ) → x' ≡ x → waits ≡ p ∷ [] → IsNext x p → HasShown x' waits y left
    → word ≡ head_of x.seen.book → pending ≡ [] → octets ≡ octets_of (changes_of x.seen.log ++ p.fresh.chunks.items) → IsWriting y left word pending octets
share_after x x' y waits left p word pending octets same one next shown word_is none counted =
    let is : y ≡ published x p = shown.all p one ∙ ap (λ (z : Page). published z p) same in
    let all : changes_of y.seen.log ≡ changes_of x.seen.log ++ p.fresh.chunks.items = ap (λ (z : Page). changes_of z.seen.log) is ∙ (ap changes_of next.log ∙ changes_more x.seen.log (entry_of p.fresh)) in
    let whole : changes_of y.seen.log ++ pending ≡ changes_of x.seen.log ++ p.fresh.chunks.items = ap (λ l. changes_of y.seen.log ++ l) none ∙ (append-nil (changes_of y.seen.log) ∙ all) in
    record {
      good = shown.good;
      none = shown.none;
      word_is = word_is ∙ ap head_of (sym next.book ∙ sym (ap (λ (z : Page). z.seen.book) is));
      counted = counted ∙ ap octets_of (sym whole);
    }

-- and what contracts see of it
pub share_view : (x x' y : Page) (waits left : List Publish) (p : Publish) (pending : List Chunk) → x' ≡ x → waits ≡ p ∷ [] → IsGood x → IsNext x p → ended_in x.seen.log ≡ false → HasShown x' waits y left → pending ≡ []
    → writing_of y pending ≡ record { board = board_of x; legs = length x.sheet; published = changes_of x.seen.log ++ p.fresh.chunks.items; pending = []; ended = p.fresh.ends }
share_view x x' y waits left p pending same one good next going shown none =
    let is : y ≡ published x p = shown.all p one ∙ ap (λ (z : Page). published z p) same in
    (λ i. writing_of (is i) (none i)) ∙ next_writing x p good next going

-- ---- a new board
-- where nothing was published a first time
pub laid : (x x' y : Page) (waits left : List Publish) (p : Publish) (v : EndView) (word : Named) → x' ≡ x → waits ≡ p ∷ [] → x.seen.log ≡ [] → word ≡ head_of x.seen.book → IsNext x p → p.fresh.chunks.items ≡ []
    → p.fresh.ends ≡ false → HasShown x' waits y left → v ≡ view_of y → IsLaid y left v word
laid x x' y waits left p v word same one blank word_is next none going shown knows =
    let is : y ≡ published x p = shown.all p one ∙ ap (λ (z : Page). published z p) same in
    let before : changes_of x.seen.log ++ p.fresh.chunks.items ≡ [] = ap (λ (l : List BoardEntry). changes_of l ++ p.fresh.chunks.items) blank ∙ none in
    record {
      writing = share_after x x' y waits left p word [] 0 same one next shown word_is refl (sym (ap octets_of before));
      knows = knows;
      nothing = ap (λ (z : Page). changes_of z.seen.log) is ∙ (ap changes_of next.log ∙ (changes_more x.seen.log (entry_of p.fresh) ∙ before));
      going = ap (λ (z : Page). ended_in z.seen.log) is ∙ (ap ended_in next.log ∙ (ended_more x.seen.log (entry_of p.fresh) (ap ended_in blank) ∙ going));
    }

-- it has as many legs as before
pub laid_wide : (x x' y : Page) (waits left : List Publish) (p : Publish) → x' ≡ x → waits ≡ p ∷ [] → IsGood x → IsNext x p → HasShown x' waits y left → length y.sheet ≡ length x.sheet
laid_wide x x' y waits left p same one good next shown =
    ap (λ (z : Page). length z.sheet) (shown.all p one ∙ ap (λ (z : Page). published z p) same) ∙ (next_further x p good next).wide
