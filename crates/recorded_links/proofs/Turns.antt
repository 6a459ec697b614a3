-- Each move keeps the rule of a shelf.
use Rattle.std.proofs.Common.{◌≡◌, ◌≢◌, ◌≤◌, ◌<◌, ℕ, zero, suc, true, false, true≢false, List, [], ◌∷◌, ◌++◌, length, set, sym, refl, ap, ◌∙◌, subst, ⊎_elim, append_assoc, arith}
use Rattle.std.specs.Prelude.{drop, map}
use Rattle.std.proofs.lemmas.List.{append-nil, map-append}
use mathlib.Core.Option.{some, some-ne-none}
use lib.ListN.{get_elem?}
use Rattle.live_spec.specs.Recorded.{Entry}
use Rattle.crossbeam_queue.specs.Fifo.{Pushes, Pops, Forks, Merges, Learns}
use Rattle.crossbeam_queue.proofs.Lists.{at_set, at_snoc}
use Rattle.recorded_links.specs.declared.batches.Batch.{Batch}
use Rattle.recorded_links.specs.declared.rule.NotedEntry.{NotedEntry}
use Rattle.recorded_links.specs.declared.rule.ShelfHistory.{ShelfHistory}
use Rattle.recorded_links.specs.Notes.{entries_in}
use Rattle.recorded_links.specs.Rule.{Fits, ShelfHolds, all_entries, entries_of, known, laid, noted_of}
use Rattle.recorded_links.specs.Shelves.{BeginsWith}

-- ---- views by number
at_end : (l : List ShelfHistory) (a b : ShelfHistory) (j : ℕ) → get_elem? l j ≢ some b → get_elem? (l ++ a ∷ []) j ≡ some b → j ≡ length l
at_end [] a b zero n e = refl
at_end [] a b (suc j) n e = absurd (some-ne-none b (sym e))
at_end (x ∷ xs) a b zero n e = absurd (n e)
at_end (x ∷ xs) a b (suc j) n e = ap suc (at_end xs a b j n e)

abbrev All : (ℕ → ShelfHistory → Type 0) → List ShelfHistory → Type 0
All F views = (port : ℕ) (v : ShelfHistory) → get_elem? views port ≡ some v → F port v

all_set : (F : ℕ → ShelfHistory → Type 0) (views : List ShelfHistory) (port : ℕ) (w : ShelfHistory) → F port w → ((j : ℕ) (u : ShelfHistory) → j ≢ port → get_elem? views j ≡ some u → F j u) → All F (set views port w)
all_set F views port w mine others j u e = ⊎_elim (λ (x : (j ≡ port) × (w ≡ u)). subst (λ (y : ℕ × ShelfHistory). F y.0 y.1) (λ i. (sym x.0 i, x.1 i)) mine)
    (λ (x : (j ≢ port) × (get_elem? views j ≡ some u)). others j u x.0 x.1) (at_set views port j w u e)

-- ---- lists
no_item : (items : List Batch) (n : ℕ) → length items < n → n ≡ 1 → items ≡ []
no_item [] n low one = refl
no_item (b ∷ items) n low one = absurd (omega arith)

only_item : (b : Batch) (items : List Batch) → length (b ∷ items) ≤ 1 → items ≡ []
only_item b [] few = refl
only_item b (c ∷ items) few = absurd (omega arith)

behind : (front more : List NotedEntry) → drop (length front) (front ++ more) ≡ more
behind [] more = refl
behind (x ∷ front) more = behind front more

-- ---- batches
-- an entry more in the batch that is in hand
pub goes_on : (hand : List NotedEntry) (old new : Batch) (e : Entry) → hand ≡ entries_of old → entries_in new.notes.items new.octets ≡ entries_in old.notes.items old.octets ++ e ∷ [] → entries_of new ≡ hand ++ noted_of e ∷ []
goes_on hand old new e is more = ap (map noted_of) more ∙ (map-append noted_of (entries_in old.notes.items old.octets) (e ∷ []) ∙ ap (λ l. l ++ noted_of e ∷ []) (sym is))

-- no entry more
pub goes_back : (hand : List NotedEntry) (old new : Batch) → hand ≡ entries_of old → entries_in new.notes.items new.octets ≡ entries_in old.notes.items old.octets → entries_of new ≡ hand ++ []
goes_back hand old new is same = ap (map noted_of) same ∙ (sym is ∙ sym (append-nil hand))

-- is what is noted
pub adds : (hand : List NotedEntry) (new : Batch) (e : Entry) → entries_of new ≡ hand ++ noted_of e ∷ [] → drop (length hand) (entries_of new) ≡ noted_of e ∷ []
adds hand new e is = ap (drop (length hand)) is ∙ behind hand (noted_of e ∷ [])

-- ---- moves
pub begins : ShelfHolds [] (known true true [] [] [] ∷ [])
begins = (0, 0, [], [], [], refl, all_set (Fits 0 0 [] [] []) (known true true [] [] [] ∷ []) 0 (known true true [] [] []) ((λ _. (refl, refl, refl)), λ _. (refl, refl)) (λ j u other e. absurd (other (at_end [] _ u j (λ x. some-ne-none u (sym x)) e))), omega arith)

pub lays : (n port : ℕ) (v : ShelfHistory) (b : Batch) → n ≡ 1 → v.notes ≡ true → BeginsWith v.hand b → Pushes ShelfHolds n port v b (λ w. w ≡ laid v b)
lays n port v b places may goes items views room h at =
    let w = laid v b in
    let mine = (h.6 port v at).0 may in
    let more = drop (length v.hand) (entries_of b) in
    let noted = h.2 ++ more in
    let none : items ≡ [] = no_item items n room places in
    let is_more : entries_of b ≡ v.hand ++ more = goes.1 ∙ ap (λ l. v.hand ++ l) (sym (ap (drop (length v.hand)) goes.1 ∙ behind v.hand goes.0)) in
    let was : h.2 ≡ h.4 ++ v.hand = h.5 ∙ ap (λ l. h.4 ++ l) (ap (λ l. all_entries l ++ h.3) none ∙ sym mine.2) in
    let is : noted ≡ h.4 ++ (all_entries (items ++ b ∷ []) ++ []) =
    ap (λ l. l ++ more) was ∙ (append_assoc h.4 v.hand more ∙ (ap (λ l. h.4 ++ l) (sym is_more ∙ (sym (append-nil (entries_of b)) ∙ sym (append-nil (entries_of b ++ []))))
    ∙ ap (λ l. h.4 ++ (all_entries (l ++ b ∷ []) ++ [])) (sym none))) in (
      w,
      (
        h.0,
        h.1,
        noted,
        [],
        h.4,
        is,
        all_set (Fits h.0 h.1 noted [] h.4) views port w ((λ _. (mine.0, ap (λ l. l ++ more) mine.1, refl)), (h.6 port v at).1)
            (λ j u other e. ((λ p. absurd (other (((h.6 j u e).0 p).0 ∙ sym mine.0))), (h.6 j u e).1)),
        subst (λ l. length (l ++ b ∷ []) ≤ 1) (sym none) (omega arith),
      ),
      refl,
    )

pub lifts : (port : ℕ) (v : ShelfHistory) → v.notes ≡ true → Pops ShelfHolds port v (λ b w. w ≡ known v.notes v.takes v.noted (entries_of b ++ v.hand) v.taken)
lifts port v may b items views h at =
    let w = known v.notes v.takes v.noted (entries_of b ++ v.hand) v.taken in
    let mine = (h.6 port v at).0 may in
    let hand = entries_of b ++ h.3 in
    let none : items ≡ [] = only_item b items h.7 in
    let is : h.2 ≡ h.4 ++ (all_entries items ++ hand) =
    h.5 ∙ ap (λ l. h.4 ++ l) (ap (λ l. (entries_of b ++ all_entries l) ++ h.3) none ∙ (ap (λ l. l ++ h.3) (append-nil (entries_of b)) ∙ ap (λ l. all_entries l ++ hand) (sym none))) in (
      w,
      (
        h.0,
        h.1,
        h.2,
        hand,
        h.4,
        is,
        all_set (Fits h.0 h.1 h.2 hand h.4) views port w ((λ _. (mine.0, mine.1, ap (λ l. entries_of b ++ l) mine.2)), (h.6 port v at).1)
            (λ j u other e. ((λ p. absurd (other (((h.6 j u e).0 p).0 ∙ sym mine.0))), (h.6 j u e).1)),
        subst (λ l. length l ≤ 1) (sym none) (omega arith),
      ),
      refl,
    )

-- what is taken away goes behind what was
goes_behind : (taken front rest hand : List NotedEntry) → taken ++ ((front ++ rest) ++ hand) ≡ (taken ++ front) ++ (rest ++ hand)
goes_behind taken front rest hand = ap (λ l. taken ++ l) (append_assoc front rest hand) ∙ sym (append_assoc taken front (rest ++ hand))

takes_with : (port : ℕ) (v : ShelfHistory) (b : Batch) (items : List Batch) (views : List ShelfHistory) → v.takes ≡ true → (h : ShelfHolds (b ∷ items) views) → get_elem? views port ≡ some v
    → ShelfHolds items (set views port (known v.notes v.takes v.noted v.hand (v.taken ++ entries_of b)))
takes_with port v b items views may h at =
    let w = known v.notes v.takes v.noted v.hand (v.taken ++ entries_of b) in
    let mine = (h.6 port v at).1 may in
    let taken = h.4 ++ entries_of b in
    let none : items ≡ [] = only_item b items h.7 in (
      h.0,
      h.1,
      h.2,
      h.3,
      taken,
      h.5 ∙ goes_behind h.4 (entries_of b) (all_entries items) h.3,
      all_set (Fits h.0 h.1 h.2 h.3 taken) views port w ((h.6 port v at).0, λ _. (mine.0, ap (λ l. l ++ entries_of b) mine.1))
          (λ j u other e. ((h.6 j u e).0, λ p. absurd (other (((h.6 j u e).1 p).0 ∙ sym mine.0)))),
      subst (λ l. length l ≤ 1) (sym none) (omega arith),
    )

pub takes : (port : ℕ) (v : ShelfHistory) → v.takes ≡ true → Pops ShelfHolds port v (λ b w. w ≡ known v.notes v.takes v.noted v.hand (v.taken ++ entries_of b))
takes port v may b items views h at = (known v.notes v.takes v.noted v.hand (v.taken ++ entries_of b), takes_with port v b items views may h at, refl)

pub takes_last : (port : ℕ) (v : ShelfHistory) → v.notes ≡ true → v.takes ≡ true
    → Pops ShelfHolds port v (λ b w. (w ≡ known v.notes v.takes v.noted v.hand (v.taken ++ entries_of b)) × (v.noted ≡ (v.taken ++ entries_of b) ++ v.hand))
takes_last port v notes may b items views h at =
    let mine = h.6 port v at in
    let none : items ≡ [] = only_item b items h.7 in
    let is : v.noted ≡ (v.taken ++ entries_of b) ++ v.hand =
    (mine.0 notes).1 ∙ (h.5 ∙ (goes_behind h.4 (entries_of b) (all_entries items) h.3 ∙ (ap (λ l. (h.4 ++ entries_of b) ++ (all_entries l ++ h.3)) none
    ∙ (ap (λ l. (l ++ entries_of b) ++ h.3) (sym (mine.1 may).1) ∙ ap (λ l. (v.taken ++ entries_of b) ++ l) (sym (mine.0 notes).2))))) in
    (known v.notes v.takes v.noted v.hand (v.taken ++ entries_of b), takes_with port v b items views may h at, (refl, is))

pub forks : (port : ℕ) (v : ShelfHistory) → v.notes ≡ true → v.takes ≡ true → Forks ShelfHolds port v (known true false v.noted v.hand []) (known false true [] [] v.taken)
forks port v a b items views h at =
    let l = known true false v.noted v.hand [] in
    let r = known false true [] [] v.taken in
    let mine = h.6 port v at in
    let vs : List ShelfHistory = set views port l in
    let Old : ℕ → ShelfHistory → Type 0 = λ j u. (u.notes ≡ true → (j ≡ h.0) × (u.noted ≡ h.2) × (u.hand ≡ h.3)) × (u.takes ≢ true) in
    let old : All Old vs = all_set Old views port l ((λ _. mine.0 a), λ p. true≢false (sym p)) (λ j u other e. ((h.6 j u e).0, λ p. other (((h.6 j u e).1 p).0 ∙ sym (mine.1 b).0))) in (
      h.0,
      length vs,
      h.2,
      h.3,
      h.4,
      h.5,
      (λ j u e. ⊎_elim (λ x. ((old j u x).0, λ p. absurd ((old j u x).1 p)))
          (λ (is : r ≡ u). ((λ p. absurd (true≢false (sym (ap (λ (y : ShelfHistory). y.notes) is ∙ p)))), λ p. (at_end vs r u j (λ x. (old j u x).1 p) e, ap (λ (y : ShelfHistory). y.taken) (sym is) ∙ (mine.1 b).1))) (at_snoc vs r u j e)),
      h.7,
    )

pub merges : (port : ℕ) (v : ShelfHistory) (other : ℕ) (u : ShelfHistory) → v.notes ≡ true → u.takes ≡ true → Merges ShelfHolds port v other u (known true true v.noted v.hand u.taken) (known false false [] [] [])
merges port v other u a b items views h at two at' =
    let both = known true true v.noted v.hand u.taken in
    let mine = h.6 port v at in
    let vs : List ShelfHistory = set views port both in
    let was : get_elem? views other ≡ some u = ⊎_elim (λ x. absurd (two x.0)) (λ x. x.1) (at_set views port other both u at') in
    let theirs = (h.6 other u was).1 b in
    let Now : ℕ → ShelfHistory → Type 0 = λ j y. j ≢ other → Fits h.0 port h.2 h.3 h.4 j y in
    let now : All Now vs = all_set Now views port both (λ _. ((λ _. mine.0 a), λ _. (refl, theirs.1))) (λ j y _ e apart. ((h.6 j y e).0, λ p. absurd (apart (((h.6 j y e).1 p).0 ∙ sym theirs.0)))) in
    (h.0, port, h.2, h.3, h.4, h.5, all_set (Fits h.0 port h.2 h.3 h.4) vs other (known false false [] [] []) ((λ p. absurd (true≢false (sym p))), λ p. absurd (true≢false (sym p))) (λ j y apart e. now j y e apart), h.7)

-- ---- lessons
pub tells_noter : (port : ℕ) (v : ShelfHistory) → v.notes ≡ true → Learns ShelfHolds port v (λ items. (taken : List NotedEntry) × (v.noted ≡ taken ++ (all_entries items ++ v.hand)))
tells_noter port v may items views h at = let mine = (h.6 port v at).0 may in (h.4, mine.1 ∙ (h.5 ∙ ap (λ l. h.4 ++ (all_entries items ++ l)) (sym mine.2)))

pub tells_writer : (port : ℕ) (v : ShelfHistory) → v.takes ≡ true → Learns ShelfHolds port v (λ items. (noted : List NotedEntry) × (hand : List NotedEntry) × (noted ≡ v.taken ++ (all_entries items ++ hand)))
tells_writer port v may items views h at = (h.2, h.3, h.5 ∙ ap (λ l. l ++ (all_entries items ++ h.3)) (sym ((h.6 port v at).1 may).1))

pub tells_both : (port : ℕ) (v : ShelfHistory) → v.notes ≡ true → v.takes ≡ true → Learns ShelfHolds port v (λ items. v.noted ≡ v.taken ++ (all_entries items ++ v.hand))
tells_both port v notes may items views h at =
    let mine = (h.6 port v at).0 notes in
    mine.1 ∙ (h.5 ∙ (ap (λ l. l ++ (all_entries items ++ h.3)) (sym ((h.6 port v at).1 may).1) ∙ ap (λ l. v.taken ++ (all_entries items ++ l)) (sym mine.2)))
