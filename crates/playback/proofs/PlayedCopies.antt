-- Copies that are heard one after another.
use Rattle.std.proofs.Common.{◌≡◌, ℕ, zero, suc, ◌+◌, ◌*◌, ◌<◌, ◌≤◌, Bool, true, false, cond, inl, inr, List, [], ◌∷◌, ◌++◌, length, map, take, drop, get_or, refl, ap, sym, ◌∙◌, subst, arith, add-one, length-append}
use Rattle.std.specs.Prelude.{flat_map, slice_index, ◌||◌, ◌==◌}
use Rattle.std.specs.List.{AllByRecursion, list_any}
use Rattle.std.specs.List.Sorted.{IsNonDecreasing}
use Rattle.std.proofs.Math.Seq.{take-suc}
use Rattle.std.proofs.lemmas.List.{map-append, length-map}
use Rattle.std.proofs.lemmas.Grind.{flat_map-append}
use Rattle.std.proofs.lemmas.Bool.{eq-eqb, true≢false}
use Rattle.file_spec.specs.declared.conference_lines.PlanLine.{PlanLine}
use Rattle.file_spec.specs.declared.conference_lines.What.{What}
use Rattle.wire_spec.specs.Dump.{Item, Whole, record_written, sent_item}
use Rattle.mixer_spec.specs.Arrives.{Copy, all_copies, among, arrives, copies, doubles, in_order, is_sooner, lines_of, loses, delay, one_at}
use Rattle.mixer_spec.specs.Arrives.{came, item_of}
use Rattle.playback.specs.declared.copies.Arrival.{Arrival}
use Rattle.playback.specs.Arriving.{copy_of, copies_of}
use Rattle.playback.specs.Unplanned.{IsUnplanned}
use Rattle.terminal.specs.declared.settings.TerminalSettings.{TerminalSettings}
use Rattle.terminal.specs.declared.terminals.Terminal.{Terminal}
use Rattle.terminal.specs.Terminals.{Listens}
use Rattle.playback.specs.declared.indexes.RecordIndex.{RecordIndex}
use Rattle.rtpdump_io.specs.InMemory.{IsRecord}
use Rattle.playback.specs.Written.{AreRecords}
use Rattle.playback.specs.Finds.{Finds}
use Rattle.rtpdump_io.proofs.Fronts.{Splits}
use Rattle.playback.proofs.PlayedUnplanned.{as_written}

-- ---- the record of a copy
pub record At (k : ℕ) (all : List (ℕ × List ℕ)) : Type 0 where
  pub it : ℕ × List ℕ
  pub later : List (ℕ × List ℕ)
  pub stands : drop k all ≡ it ∷ later
  pub fits : IsRecord it
  pub one : one_at k all ≡ it ∷ []

at : (k : ℕ) (all : List (ℕ × List ℕ)) → k < length all → AllByRecursion IsRecord all → At k all
at k [] l a = absurd (omega arith)
at zero (r ∷ rs) l a = record { it = r; later = rs; stands = refl; fits = a.0; one = refl }
at (suc k) (r ∷ rs) l a = let h = at k rs (omega arith) a.1 in record { it = h.it; later = h.later; stands = h.stands; fits = h.fits; one = h.one }

-- what stands at the place of a copy is its record
pub record Standing (found : RecordIndex) (octets : List ℕ) (all : List (ℕ × List ℕ)) (copy : Copy) : Type 0 where
  pub it : ℕ × List ℕ
  pub more : List ℕ
  pub fits : IsRecord it
  pub stands : drop (slice_index found.places.items copy.index) octets ≡ record_written it ++ more
  pub item : item_of all copy ≡ sent_item (copy.at, it.1) ∷ []

pub standing : (found : RecordIndex) (octets : List ℕ) (all : List (ℕ × List ℕ)) (copy : Copy) → AreRecords octets all → Finds found octets all → copy.index < length found.places.items → Standing found octets all copy
standing found octets all copy a f l =
    let below : copy.index < length all = omega (arith, f.places.each, l) in
    let h = at copy.index all below a.each in
    record {
      it = h.it;
      more = flat_map record_written h.later;
      fits = h.fits;
      stands = f.places.there copy.index below ∙ ap (flat_map record_written) h.stands;
      item = ap (map (λ r. record { time = copy.at; what = Whole r.1 })) h.one;
    }

-- one copy is heard
pub heard_copy : (t n : Terminal) (found : RecordIndex) (octets rest : List ℕ) (copy : Copy) (packet : List ℕ) (moment : ℕ) (behind : List ℕ) → rest ≡ drop (slice_index found.places.items copy.index) octets → copy.index < length found.places.items → Splits rest moment packet behind
    → ((c : TerminalSettings) (sources : List ℕ) (heard : List Item) → Listens t c sources heard → Listens n c sources (heard ++ sent_item (copy.at, packet) ∷ []))
    → (c : TerminalSettings) (sources : List ℕ) (heard : List Item) (all : List (ℕ × List ℕ)) → AreRecords octets all → Finds found octets all → Listens t c sources heard → Listens n c sources (heard ++ item_of all copy)
heard_copy t n found octets rest copy packet moment behind e l f g c sources heard all a finds li =
    let s = standing found octets all copy a finds l in
    let is = f s.it s.more s.fits (e ∙ s.stands) in
    subst (λ (x : List Item). Listens n c sources (heard ++ x)) (ap (λ (x : List ℕ). sent_item (copy.at, x) ∷ []) is.packet ∙ sym s.item) (g c sources heard li)

-- there is no copy without a record
pub no_copy : (found : RecordIndex) (octets rest : List ℕ) (copy : Copy) → rest ≡ drop (slice_index found.places.items copy.index) octets → copy.index < length found.places.items → ((r : ℕ × List ℕ) (more : List ℕ) → IsRecord r → rest ≡ record_written r ++ more → ⊥)
    → (all : List (ℕ × List ℕ)) → AreRecords octets all → Finds found octets all → ⊥
no_copy found octets rest copy e l f all a finds = let s = standing found octets all copy a finds l in f s.it s.more s.fits (e ∙ s.stands)

-- one copy more
pub copies_more : (all : List (ℕ × List ℕ)) (copies : List Arrival) (k : ℕ) (d : Arrival) → k < length copies
    → flat_map (item_of all) (copies_of (take (k + 1) copies)) ≡ flat_map (item_of all) (copies_of (take k copies)) ++ item_of all (copy_of (get_or copies k d))
copies_more all copies k d l =
    ap (λ (n : ℕ). flat_map (item_of all) (copies_of (take n copies))) (add-one k)
    ∙ (ap (λ (xs : List Arrival). flat_map (item_of all) (copies_of xs)) (take-suc copies k d l)
    ∙ (ap (flat_map (item_of all)) (map-append copy_of (take k copies) (get_or copies k d ∷ []))
    ∙ (flat_map-append (item_of all) (copies_of (take k copies)) (copy_of (get_or copies k d) ∷ []) ∙ ap (λ (is : List Item). flat_map (item_of all) (copies_of (take k copies)) ++ is) (nil (item_of all (copy_of (get_or copies k d)))))))
  where
    nil : (is : List Item) → is ++ [] ≡ is
    nil [] = refl
    nil (i ∷ is) = ap (λ (js : List Item). i ∷ js) (nil is)

-- ---- at most two copies of each packet come
two_at_most : (lines : List What) (k sent : ℕ) → length (copies lines k sent) ≤ 2
two_at_most lines k sent = go (list_any loses lines) (list_any doubles lines)
  where
    go : (t u : Bool) → length (cond t [] (let c : Copy = record { at = sent + delay lines; index = k } in cond u (c ∷ c ∷ []) (c ∷ []))) ≤ 2
    go true u = omega arith
    go false true = omega arith
    go false false = omega arith

all_few : (plan : List PlanLine) (t k : ℕ) (sent : List ℕ) → length (all_copies plan t k sent) ≤ 2 * length sent
all_few plan t k [] = omega arith
all_few plan t k (s ∷ later) = omega (arith, length-append (copies (lines_of plan t k) k s) (all_copies plan t (suc k) later), two_at_most (lines_of plan t k) k s, all_few plan t (suc k) later)

among_length : (c : Copy) (ds : List Copy) → length (among c ds) ≡ suc (length ds)
among_length c [] = refl
among_length c (d ∷ ds) = go (is_sooner d c) (among_length c ds)
  where
    go : (t : Bool) → length (among c ds) ≡ suc (length ds) → length (cond t (d ∷ among c ds) (c ∷ d ∷ ds)) ≡ suc (suc (length ds))
    go true e = omega (arith, e)
    go false e = refl

order_length : (cs : List Copy) → length (in_order cs) ≡ length cs
order_length [] = refl
order_length (c ∷ cs) = omega (arith, among_length c (in_order cs), order_length cs)

pub few_copies : (plan : List PlanLine) (t : ℕ) (sent : List ℕ) (xs : List Arrival) → copies_of xs ≡ arrives plan t sent → length xs ≤ 2 * length sent
few_copies plan t sent xs e = omega (arith, length-map xs copy_of, ap (λ (cs : List Copy). length cs) e, order_length (all_copies plan t 0 sent), all_few plan t 0 sent)

-- ---- a terminal of which the plan does not speak
pub unspoken : (plan : List PlanLine) (t : ℕ) → list_any (λ l. l.terminal == t) plan ≡ false → IsUnplanned plan t
unspoken [] t n l i = absurd i
unspoken (p ∷ plan) t n l (inl e) = λ same. true≢false (sym (ap (λ (b : Bool). b || list_any (λ m. m.terminal == t) plan) (eq-eqb p.terminal t (sym (ap (λ (m : PlanLine). m.terminal) e) ∙ same))) ∙ n)
unspoken (p ∷ plan) t n l (inr i) = unspoken plan t (rest (p.terminal == t) n) l i
  where
    rest : (b : Bool) → (b || list_any (λ m. m.terminal == t) plan) ≡ false → list_any (λ m. m.terminal == t) plan ≡ false
    rest true e = absurd (true≢false e)
    rest false e = e

-- it hears the records as they stand
pub heard_as_written : (plan : List PlanLine) (t : ℕ) (n : Terminal) (c : TerminalSettings) (sources : List ℕ) (all : List (ℕ × List ℕ)) → list_any (λ l. l.terminal == t) plan ≡ false → IsNonDecreasing (map (λ r. r.0) all)
    → Listens n c sources (map sent_item all) → Listens n c sources (came plan t all)
heard_as_written plan t n c sources all u h li = subst (Listens n c sources) (sym (as_written plan t all (unspoken plan t u) h)) li
