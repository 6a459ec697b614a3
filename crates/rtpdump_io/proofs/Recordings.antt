-- the opening and the records of a recording, part by part
use Rattle.std.proofs.Common.{◌≡◌, ◌∙◌, ℕ, zero, suc, ◌+◌, ◌-◌, ◌<◌, ◌≤◌, ◌&&◌, Bool, true, false, cond, nat_eq, nat_lt, List, [], ◌∷◌, ◌++◌, length, take, drop, refl, sym, ap, arith, Option, Some, None, Result, Ok, Err, IfOk, length-append, length-drop, length-take}
use Rattle.std.specs.Prelude.{codes}
use Rattle.std.specs.List.{starts_with}
use Rattle.std.proofs.lemmas.Bool.{le-ltb, lt-ltb, ne_eqb, ltb-false}
use Rattle.std.proofs.Math.Seq.{drop-append_seam, drop-append-add, take-append-add}
use Rattle.wire_spec.specs.declared.faults.DumpKind.{DumpKind}
use Rattle.wire_spec.specs.declared.faults.DumpKind.TheVariants.{NotDump, BadLength, EndsInside, TooLong, TooLarge}
use Rattle.wire_spec.specs.Dump as dumps
use Rattle.wire_spec.specs.Dump.{Item, What, Place, Fault, Step, End, Broken, Next, past_line, past_head, after_line, opening, what_of, size_of, packet_size_of, time_of, item_of, record_fault, step_or, dump_step, Recording, records_by, records, dump_from, dump}
use Rattle.rtpdump_io.specs.Input.{Passes}
use Rattle.rtpdump_io.specs.Structures.{IsHead}
use Rattle.rtpdump_io.specs.Reading.{broken, item_at, Gives, is_last, coming}
use Rattle.rtpdump_io.specs.declared.readers.Stage.{Stage}
use Rattle.rtpdump_io.specs.declared.readers.Stage.TheVariants.{Opening, Records}
use Rattle.rtpdump_io.specs.Found.{opened_as, found_as, came_as, kind_of, kept_of, wanted_of}
use Rattle.rtpdump_io.specs.declared.items.DumpItem.{DumpItem}
use Rattle.rtpdump_io.specs.declared.items.DumpItem.TheVariants as answer
use Rattle.rtt_base.specs.declared.limits.TheConstants.{MOST_PACKET_OCTETS}
use Rattle.wire_spec.specs.declared.limits.TheConstants.{LAST_RECORD_MOMENT}
use Rattle.wire_spec.proofs.Records.{unrolled}

-- ---- the opening

pub no_opening : (u : List ℕ) → starts_with nat_eq u (codes "#!rtpplay1.0 ") ≡ false → opening u ≡ Err (record { byte = 0; kind = NotDump })
unfolding opening
no_opening u h = rw h refl

line_of : (u v : List ℕ) → u ≡ codes "#!rtpplay1.0 " ++ v → opening u ≡ after_line u (past_line 115 v)
unfolding opening
line_of u v e = rw e refl

pub no_line : (u v : List ℕ) → u ≡ codes "#!rtpplay1.0 " ++ v → past_line 115 v ≡ None → opening u ≡ Err (record { byte = 0; kind = NotDump })
no_line u v e h = line_of u v e ∙ ap (after_line u) h

head_of : (u v w : List ℕ) (number : ℕ) → u ≡ codes "#!rtpplay1.0 " ++ v → past_line 115 v ≡ Some w → length v ≡ number + length w → opening u ≡ past_head (13 + number) w
head_of u v w number e h n =
    let all : length u - length w ≡ 13 + number = rw e (omega (arith, n)) in
    line_of u v e ∙ ap (after_line u) h ∙ ap (λ (byte : ℕ). past_head byte w) all

pub no_head : (u v w : List ℕ) (number : ℕ) → u ≡ codes "#!rtpplay1.0 " ++ v → past_line 115 v ≡ Some w → length v ≡ number + length w → length w < 16 → opening u ≡ Err (record { byte = 13 + number; kind = EndsInside })
no_head u v w number e h n short = head_of u v w number e h n ∙ rw (lt-ltb (length w) 16 short) refl

pub opens : (u v w x : List ℕ) (number : ℕ) → u ≡ codes "#!rtpplay1.0 " ++ v → past_line 115 v ≡ Some w → length v ≡ number + length w → Passes 16 w x → opening u ≡ Ok (record { byte = 13 + number + 16; rest = x })
opens u v w x number e h n p = head_of u v w number e h n ∙ rw (le-ltb (length w) 16 p.enough, p.rest) refl

-- the octets of the line, the head and those behind them are all
pub opens_all : (u v w x : List ℕ) (number : ℕ) → u ≡ codes "#!rtpplay1.0 " ++ v → length v ≡ number + length w → Passes 16 w x → 13 + number + 16 + length x ≡ length u
opens_all u v w x number e n p = rw (e, p.rest) (simp length-drop (omega (arith, n, p.enough)))

pub head_begins : (u v w : List ℕ) (number : ℕ) → u ≡ codes "#!rtpplay1.0 " ++ v → past_line 115 v ≡ Some w → length v ≡ number + length w → IsHead u (13 + number)
head_begins u v w number e h n = record { behind = w; line = rw e h; all = rw e (omega (arith, n)) }

-- ---- one record

pub at_end : (limit byte : ℕ) (u : List ℕ) → u ≡ [] → dump_step limit (record { byte = byte; rest = u }) ≡ End
unfolding dump_step
at_end limit byte u e = rw e refl

pub too_short : (limit byte : ℕ) (u : List ℕ) → 0 < length u → length u < 8 → dump_step limit (record { byte = byte; rest = u }) ≡ Broken (record { byte = byte; kind = EndsInside })
unfolding dump_step
too_short limit byte u some few = rw (ne_eqb (length u) 0 (omega arith), lt-ltb (length u) 8 few) refl

headed : (limit byte : ℕ) (u : List ℕ) → 8 ≤ length u → dump_step limit (record { byte = byte; rest = u }) ≡ step_or (record { byte = byte; rest = u }) (record_fault limit (record { byte = byte; rest = u }))
unfolding dump_step
headed limit byte u h = rw (ne_eqb (length u) 0 (omega arith), le-ltb (length u) 8 h) refl

-- the head alone tells the sizes and the time
record Tells (u h : List ℕ) : Type 0 where
  size : size_of u ≡ size_of h
  packet_size : packet_size_of u ≡ packet_size_of h
  time : time_of u ≡ time_of h

told : (h v : List ℕ) → length h ≡ 8 → Tells (h ++ v) h
told (a ∷ b ∷ c ∷ d ∷ e ∷ f ∷ g ∷ i ∷ []) v n = record { size = refl; packet_size = refl; time = refl }
told [] v n = absurd (omega (arith, n))
told (a ∷ []) v n = absurd (omega (arith, n))
told (a ∷ b ∷ []) v n = absurd (omega (arith, n))
told (a ∷ b ∷ c ∷ []) v n = absurd (omega (arith, n))
told (a ∷ b ∷ c ∷ d ∷ []) v n = absurd (omega (arith, n))
told (a ∷ b ∷ c ∷ d ∷ e ∷ []) v n = absurd (omega (arith, n))
told (a ∷ b ∷ c ∷ d ∷ e ∷ f ∷ []) v n = absurd (omega (arith, n))
told (a ∷ b ∷ c ∷ d ∷ e ∷ f ∷ g ∷ []) v n = absurd (omega (arith, n))
told (a ∷ b ∷ c ∷ d ∷ e ∷ f ∷ g ∷ i ∷ j ∷ h) v n = absurd (omega (arith, n))

-- the tests of a record, over its head and what follows it
module _ (limit byte : ℕ) (u h v : List ℕ) (cut : u ≡ h ++ v) (eight : length h ≡ 8) where
  long_enough : 8 ≤ length u
  long_enough = rw cut (omega (arith, length-append h v))

  begins : dump_step limit (record { byte = byte; rest = u }) ≡ step_or (record { byte = byte; rest = u }) (record_fault limit (record { byte = byte; rest = u }))
  begins = headed limit byte u long_enough

  size_is : size_of u ≡ size_of h
  size_is = rw cut ((told h v eight).size)

  packet_is : packet_size_of u ≡ packet_size_of h
  packet_is = rw cut ((told h v eight).packet_size)

  time_is : time_of u ≡ time_of h
  time_is = rw cut ((told h v eight).time)

  all_is : length u ≡ 8 + length v
  all_is = rw cut (length-append h v ∙ omega arith)

  faulty : (kind : DumpKind) → record_fault limit (record { byte = byte; rest = u }) ≡ Some kind → dump_step limit (record { byte = byte; rest = u }) ≡ Broken (record { byte = byte; kind = kind })
  faulty kind e = begins ∙ ap (step_or (record { byte = byte; rest = u })) e

  pub bad_length : size_of h < 8 → dump_step limit (record { byte = byte; rest = u }) ≡ Broken (record { byte = byte; kind = BadLength })
  bad_length small = faulty BadLength (rw (lt-ltb (size_of u) 8 (rw size_is small)) refl)

  pub too_large : 8 ≤ size_of h → limit < byte + size_of h → dump_step limit (record { byte = byte; rest = u }) ≡ Broken (record { byte = byte; kind = TooLarge })
  too_large a b = faulty TooLarge (rw (le-ltb (size_of u) 8 (rw size_is a), lt-ltb limit (byte + size_of u) (rw size_is b)) refl)

  pub ends_inside : 8 ≤ size_of h → byte + size_of h ≤ limit → length v < size_of h - 8 → dump_step limit (record { byte = byte; rest = u }) ≡ Broken (record { byte = byte; kind = EndsInside })
  ends_inside a b c = faulty EndsInside (rw (le-ltb (size_of u) 8 (rw size_is a), le-ltb limit (byte + size_of u) (rw size_is b), lt-ltb (length u) (size_of u) (rw (size_is, all_is) (omega arith))) refl)

  pub too_long : (w : List ℕ) → 8 ≤ size_of h → byte + size_of h ≤ limit → Passes (size_of h - 8) v w → LAST_RECORD_MOMENT < time_of h → dump_step limit (record { byte = byte; rest = u }) ≡ Broken (record { byte = byte; kind = TooLong })
  too_long w a b p d = faulty TooLong (rw (le-ltb (size_of u) 8 (rw size_is a), le-ltb limit (byte + size_of u) (rw size_is b), le-ltb (length u) (size_of u) (rw (size_is, all_is) (omega (arith, p.enough))), lt-ltb LAST_RECORD_MOMENT (time_of u) (rw time_is d)) refl)

  sound : (w : List ℕ) → 8 ≤ size_of h → byte + size_of h ≤ limit → Passes (size_of h - 8) v w → time_of h ≤ LAST_RECORD_MOMENT → record_fault limit (record { byte = byte; rest = u }) ≡ None
  sound w a b p d = rw (le-ltb (size_of u) 8 (rw size_is a), le-ltb limit (byte + size_of u) (rw size_is b), le-ltb (length u) (size_of u) (rw (size_is, all_is) (omega (arith, p.enough))), le-ltb LAST_RECORD_MOMENT (time_of u) (rw time_is d)) refl

take_take : (p k : ℕ) (v : List ℕ) → p ≤ k → take p (take k v) ≡ take p v
take_take zero k v h = refl
take_take (suc p) zero v h = absurd (omega arith)
take_take (suc p) (suc k) [] h = refl
take_take (suc p) (suc k) (x ∷ v) h = ap (λ (l : List ℕ). x ∷ l) (take_take p k v (omega arith))

-- what an answer says of a record is what the definition says of it
kinds : (with_rtcp : Bool) (p k at : ℕ) (v out : List ℕ) (place : Place) → out ≡ take (kept_of (wanted_of with_rtcp p k) k) v → k ≤ length v → found_as (Ok (kind_of p k at)) out place ≡ Next (item_at at (what_of p (take k v))) place
kinds with_rtcp p k at v out place kept within =
    let size : length (take k v) ≡ k = simp length-take (omega arith) in
    rw size (by_size (nat_eq p 0) kept)
  where
    go : (b2 b3 : Bool) → nat_lt k p ≡ b2 → out ≡ take (cond b2 0 (cond b3 0 p)) v →
        found_as (Ok (cond b2 (answer.Cut at) (cond b3 (answer.Large at) (answer.Packet at)))) out place
        ≡ Next (item_at at (cond b2 dumps.Cut (cond b3 dumps.Large (dumps.Whole (take p (take k v)))))) place
    go true b3 e o = refl
    go false true e o = refl
    go false false e o =
        let same : out ≡ take p (take k v) = o ∙ sym (take_take p k v (ltb-false k p e)) in
        ap (λ (octets : List ℕ). Next (item_at at (dumps.Whole octets)) place) same

    by_size : (b1 : Bool) → out ≡ take (kept_of (cond (b1 && with_rtcp) k p) k) v →
        found_as (Ok (cond b1 (answer.Rtcp at) (cond (nat_lt k p) (answer.Cut at) (cond (nat_lt MOST_PACKET_OCTETS p) (answer.Large at) (answer.Packet at))))) out place
        ≡ Next (item_at at (cond b1 dumps.Rtcp (cond (nat_lt k p) dumps.Cut (cond (nat_lt MOST_PACKET_OCTETS p) dumps.Large (dumps.Whole (take p (take k v))))))) place
    by_size true o = refl
    by_size false o = go (nat_lt k p) (nat_lt MOST_PACKET_OCTETS p) refl o

module _ (limit byte : ℕ) (u h v : List ℕ) (cut : u ≡ h ++ v) (eight : length h ≡ 8) where
  through : (k : ℕ) → size_of h ≡ 8 + k → size_of u ≡ length h + k
  through k e = size_is limit byte u h v cut eight ∙ e ∙ ap (λ (n : ℕ). n + k) (sym eight)

  pub body_is : (k : ℕ) → size_of h ≡ 8 + k → drop 8 (take (size_of u) u) ≡ take k v
  body_is k e =
      ap (drop 8) (ap (λ (n : ℕ). take n u) (through k e) ∙ ap (take (length h + k)) cut ∙ take-append-add h v k)
      ∙ ap (λ (n : ℕ). drop n (h ++ take k v)) (sym eight) ∙ drop-append_seam h (take k v)

  rest_is : (k : ℕ) → size_of h ≡ 8 + k → drop (size_of u) u ≡ drop k v
  rest_is k e = ap (λ (n : ℕ). drop n u) (through k e) ∙ ap (drop (length h + k)) cut ∙ drop-append-add h v k

  pub a_record : (with_rtcp : Bool) (w out : List ℕ) → 8 ≤ size_of h → byte + size_of h ≤ limit → Passes (size_of h - 8) v w → time_of h ≤ LAST_RECORD_MOMENT → out ≡ take (kept_of (wanted_of with_rtcp (packet_size_of h) (size_of h - 8)) (size_of h - 8)) v →
      dump_step limit (record { byte = byte; rest = u }) ≡ found_as (Ok (kind_of (packet_size_of h) (size_of h - 8) (time_of h))) out (record { byte = byte + size_of h; rest = w })
  a_record with_rtcp w out a b p d kept =
      let k : ℕ = size_of h - 8 in
      let e : size_of h ≡ 8 + k = omega arith in
      let of_parts : ℕ → ℕ → List ℕ → ℕ → List ℕ → Step = λ time packet body size rest. Next (item_at time (what_of packet body)) (record { byte = byte + size; rest = rest }) in
      begins limit byte u h v cut eight
      ∙ ap (step_or (record { byte = byte; rest = u })) (sound limit byte u h v cut eight w a b p d)
      ∙ ap (λ (n : ℕ). of_parts n (packet_size_of u) (drop 8 (take (size_of u) u)) (size_of u) (drop (size_of u) u)) (time_is limit byte u h v cut eight)
      ∙ ap (λ (n : ℕ). of_parts (time_of h) n (drop 8 (take (size_of u) u)) (size_of u) (drop (size_of u) u)) (packet_is limit byte u h v cut eight)
      ∙ ap (λ (l : List ℕ). of_parts (time_of h) (packet_size_of h) l (size_of u) (drop (size_of u) u)) (body_is k e)
      ∙ ap (λ (n : ℕ). of_parts (time_of h) (packet_size_of h) (take k v) n (drop (size_of u) u)) (size_is limit byte u h v cut eight)
      ∙ ap (λ (l : List ℕ). of_parts (time_of h) (packet_size_of h) (take k v) (size_of h) l) (rest_is k e ∙ sym p.rest)
      ∙ sym (kinds with_rtcp (packet_size_of h) k (time_of h) v out (record { byte = byte + size_of h; rest = w }) kept p.enough)

-- ---- all records

unfoldable pub Shrinks : Place → Step → Type 0
Shrinks p End = Unit {0}
Shrinks p (Broken fault) = Unit {0}
Shrinks p (Next item q) = suc (length q.rest) ≤ length p.rest

parts : (b1 b2 b3 b4 : Bool) → cond b1 (Some BadLength) (cond b2 (Some TooLarge) (cond b3 (Some EndsInside) (cond b4 (Some TooLong) None))) ≡ None → (b1 ≡ false) × (b3 ≡ false)
parts true b2 b3 b4 e = absurd (cc)
parts false true b3 b4 e = absurd (cc)
parts false false true b4 e = absurd (cc)
parts false false false b4 e = (refl, refl)

pub shrinks : (limit : ℕ) (p : Place) → Shrinks p (dump_step limit p)
unfolding dump_step Shrinks
shrinks limit p = outer (nat_eq (length p.rest) 0) (nat_lt (length p.rest) 8) (inner (record_fault limit p) refl)
  where
    outer : (b1 b2 : Bool) → Shrinks p (step_or p (record_fault limit p)) → Shrinks p (cond b1 End (cond b2 (step_or p (Some EndsInside)) (step_or p (record_fault limit p))))
    outer true b2 s = tt
    outer false true s = tt
    outer false false s = s

    inner : (o : Option DumpKind) → record_fault limit p ≡ o → Shrinks p (step_or p o)
    inner (Some kind) e = tt
    inner None e =
        let two = parts (nat_lt (size_of p.rest) 8) (nat_lt limit (p.byte + size_of p.rest)) (nat_lt (length p.rest) (size_of p.rest)) (nat_lt LAST_RECORD_MOMENT (time_of p.rest)) e in
        let large = ltb-false (size_of p.rest) 8 two.0 in
        let within = ltb-false (length p.rest) (size_of p.rest) two.1 in
        simp length-drop (omega (arith, large, within))

-- what is read step by step: so, with this many steps left, and so of one step
pub record Folds {X : Type 0} (limit : ℕ) (within : ℕ → Place → X) (by : (Place → X) → Place → Step → X) : Type 0 where
  pub none : (p : Place) (more : Place → X) → within zero p ≡ by more p End
  pub some : (n : ℕ) (p : Place) → within (suc n) p ≡ by (within n) p (dump_step limit p)
  pub broken : (f g : Place → X) (p : Place) (fault : Fault) → by f p (Broken fault) ≡ by g p (Broken fault)
  pub next : (f g : Place → X) (p : Place) (item : Item) (q : Place) → f q ≡ g q → by f p (Next item q) ≡ by g p (Next item q)

at_its_end : (limit : ℕ) (p : Place) → length p.rest ≡ 0 → dump_step limit p ≡ End
unfolding dump_step
at_its_end limit p e = rw e refl

module _ {X : Type 0} (limit : ℕ) (within : ℕ → Place → X) (by : (Place → X) → Place → Step → X) (folds : Folds limit within by) where
  by_end : (m : ℕ) (p : Place) → length p.rest ≡ 0 → within (suc m) p ≡ within zero p
  by_end m p e = folds.some m p ∙ (ap (by (within m) p) (at_its_end limit p e) ∙ sym (folds.none p (within m)))

  -- two readings that agree behind a step agree before it
  by_step : (f g : Place → X) (p : Place) → ((q : Place) → length q.rest < length p.rest → f q ≡ g q) → by f p (dump_step limit p) ≡ by g p (dump_step limit p)
  unfolding Shrinks
  by_step f g p same = go (dump_step limit p) (shrinks limit p)
    where
      go : (s : Step) → Shrinks p s → by f p s ≡ by g p s
      go End h = sym (folds.none p f) ∙ folds.none p g
      go (Broken fault) h = folds.broken f g p fault
      go (Next item q) h = folds.next f g p item q (same q (omega (arith, h)))

  -- so many steps as there are octets are enough
  enough : (n m : ℕ) (p : Place) → length p.rest ≤ n → length p.rest ≤ m → within n p ≡ within m p
  enough zero zero p a b = refl
  enough zero (suc m) p a b = sym (by_end m p (omega arith))
  enough (suc n) zero p a b = by_end n p (omega arith)
  enough (suc n) (suc m) p a b = go (enough n m)
    where
      go : ((q : Place) → length q.rest ≤ n → length q.rest ≤ m → within n q ≡ within m q) → within (suc n) p ≡ within (suc m) p
      go same = folds.some n p ∙ (by_step (within n) (within m) p (λ q less. same q (omega (arith, less)) (omega (arith, less))) ∙ sym (folds.some m p))

  -- what comes from a place on is the first and what comes behind it
  pub unrolls : (p : Place) → within (length p.rest) p ≡ by (λ q. within (length q.rest) q) p (dump_step limit p)
  unrolls p =
      enough (length p.rest) (suc (length p.rest)) p (omega arith) (omega arith)
      ∙ (folds.some (length p.rest) p
      ∙ by_step (within (length p.rest)) (λ q. within (length q.rest) q) p (λ q less. enough (length p.rest) (length q.rest) q (omega (arith, less)) (omega arith)))

-- what comes after a step that an answer stands for
came : (limit : ℕ) (r : Result DumpItem DumpKind) (out : List ℕ) (q : Place) → records_by (records limit) (found_as r out q) ≡ came_as r out q.byte (records limit q)
came limit (Ok (answer.Packet at)) out q = refl
came limit (Ok (answer.Rtcp at)) out q = refl
came limit (Ok (answer.Cut at)) out q = refl
came limit (Ok (answer.Large at)) out q = refl
came limit (Ok answer.End) out q = refl
came limit (Err kind) out q = refl

pub from_records : (limit : ℕ) (p q : Place) (r : Result DumpItem DumpKind) (out : List ℕ) → dump_step limit p ≡ found_as r out q → records limit p ≡ came_as r out q.byte (records limit q)
from_records limit p q r out e = unrolled limit p ∙ ap (records_by (records limit)) e ∙ came limit r out q

pub from_opening : (limit : ℕ) (octets : List ℕ) (p : Place) → opening octets ≡ Ok p → dump limit octets ≡ records limit p
unfolding dump
from_opening limit octets p e = ap (dump_from limit) e

pub no_records : (limit : ℕ) (octets : List ℕ) (byte : ℕ) (kind : DumpKind) → opening octets ≡ Err (record { byte = byte; kind = kind }) → dump limit octets ≡ broken byte kind
unfolding dump
no_records limit octets byte kind e = ap (dump_from limit) e

-- ---- what a call read, and what that says

pub nothing_left : (limit byte number : ℕ) (u buf v : List ℕ) → u ≡ take number buf ++ v → length buf ≡ 8 → (number < length buf → v ≡ []) → number ≡ 0 → dump_step limit (record { byte = byte; rest = u }) ≡ End
nothing_left limit byte number u buf v given eight ended none =
    let v_is : v ≡ [] = ended (omega (arith, eight, none)) in
    at_end limit byte u (given ∙ rw (none, v_is) refl)

pub few_left : (limit byte number : ℕ) (u buf v : List ℕ) → u ≡ take number buf ++ v → length buf ≡ 8 → (number < length buf → v ≡ []) → (number ≡ 0 → ⊥) → number < 8 → dump_step limit (record { byte = byte; rest = u }) ≡ Broken (record { byte = byte; kind = EndsInside })
few_left limit byte number u buf v given eight ended some few =
    let v_is : v ≡ [] = ended (omega (arith, eight, few)) in
    let size : length u ≡ number = ap length given ∙ rw v_is (simp (length-append, length-take) (omega (arith, eight, few))) in
    too_short limit byte u (omega (arith, size, some)) (omega (arith, size, few))

take_all : (n : ℕ) (l : List ℕ) → length l ≤ n → take n l ≡ l
take_all zero [] h = refl
take_all zero (x ∷ l) h = absurd (omega arith)
take_all (suc n) [] h = refl
take_all (suc n) (x ∷ l) h = ap (λ (rest : List ℕ). x ∷ rest) (take_all n l (omega arith))

pub all_there : (number : ℕ) (u buf v : List ℕ) → u ≡ take number buf ++ v → length buf ≡ 8 → 8 ≤ number → u ≡ buf ++ v
all_there number u buf v given eight all = given ∙ ap (λ (l : List ℕ). l ++ v) (take_all number buf (omega (arith, eight, all)))

module _ (limit byte size packet time : ℕ) (u h v : List ℕ) (cut : u ≡ h ++ v) (eight : length h ≡ 8) (size_told : size ≡ size_of h) (packet_told : packet ≡ packet_size_of h) (time_told : time ≡ time_of h) where
  pub found_bad_length : size < 8 → dump_step limit (record { byte = byte; rest = u }) ≡ Broken (record { byte = byte; kind = BadLength })
  found_bad_length = rw size_told (bad_length limit byte u h v cut eight)

  pub found_too_large : 8 ≤ size → limit < byte + size → dump_step limit (record { byte = byte; rest = u }) ≡ Broken (record { byte = byte; kind = TooLarge })
  found_too_large = rw size_told (too_large limit byte u h v cut eight)

  pub found_end : 8 ≤ size → byte + size ≤ limit → length v < size - 8 → dump_step limit (record { byte = byte; rest = u }) ≡ Broken (record { byte = byte; kind = EndsInside })
  found_end = rw size_told (ends_inside limit byte u h v cut eight)

  pub found_too_long : (w : List ℕ) → 8 ≤ size → byte + size ≤ limit → Passes (size - 8) v w → LAST_RECORD_MOMENT < time → dump_step limit (record { byte = byte; rest = u }) ≡ Broken (record { byte = byte; kind = TooLong })
  found_too_long w = rw (size_told, time_told) (too_long limit byte u h v cut eight w)

  pub found_record : (with_rtcp : Bool) (w out : List ℕ) → 8 ≤ size → byte + size ≤ limit → Passes (size - 8) v w → time ≤ LAST_RECORD_MOMENT → out ≡ take (kept_of (wanted_of with_rtcp packet (size - 8)) (size - 8)) v → (item : DumpItem) → item ≡ kind_of packet (size - 8) time →
      dump_step limit (record { byte = byte; rest = u }) ≡ found_as (Ok item) out (record { byte = byte + size; rest = w })
  found_record with_rtcp w out a b p d kept item is = rw is (go a b p d kept)
    where
      go : 8 ≤ size → byte + size ≤ limit → Passes (size - 8) v w → time ≤ LAST_RECORD_MOMENT → out ≡ take (kept_of (wanted_of with_rtcp packet (size - 8)) (size - 8)) v → dump_step limit (record { byte = byte; rest = u }) ≡ found_as (Ok (kind_of packet (size - 8) time)) out (record { byte = byte + size; rest = w })
      go = rw (size_told, packet_told, time_told) (a_record limit byte u h v cut eight with_rtcp w out)

-- the octets of a record and those behind it are all
pub record_all : (byte size : ℕ) (u h v w : List ℕ) → u ≡ h ++ v → length h ≡ 8 → 8 ≤ size → Passes (size - 8) v w → byte + size + length w ≡ byte + length u
record_all byte size u h v w cut eight a p = rw (cut, p.rest) (simp (length-append, length-drop) (omega (arith, eight, p.enough)))

pub nothing_all : (byte number : ℕ) (u buf v : List ℕ) → u ≡ take number buf ++ v → number ≡ 0 → byte + length v ≡ byte + length u
nothing_all byte number u buf v given none = rw (given, none) refl

-- ---- what a call answers

pub came_of : {E : Type 0} (limit : ℕ) (p q : Place) (out : List ℕ) (old new : Recording) (r : Result (Result DumpItem DumpKind) E) → IfOk r (λ found. dump_step limit p ≡ found_as found out q) → old ≡ records limit p → new ≡ records limit q → IfOk r (λ found. old ≡ came_as found out q.byte new)
came_of limit p q out old new (Ok found) e a b = a ∙ from_records limit p q found out e ∙ ap (came_as found out q.byte) (sym b)
came_of limit p q out old new (Err failed) e a b = tt

pub gives_item : (item : DumpItem) (out : List ℕ) (byte : ℕ) (old new : Recording) → (item ≡ answer.End → ⊥) → old ≡ came_as (Ok item) out byte new → Gives (Ok item) out old new
gives_item (answer.Packet at) out byte old new other e = e
gives_item (answer.Rtcp at) out byte old new other e = e
gives_item (answer.Cut at) out byte old new other e = e
gives_item (answer.Large at) out byte old new other e = e
gives_item answer.End out byte old new other e = e

pub not_last : (item : DumpItem) → (item ≡ answer.End → ⊥) → false ≡ is_last (Ok item)
not_last (answer.Packet at) other = refl
not_last (answer.Rtcp at) other = refl
not_last (answer.Cut at) other = refl
not_last (answer.Large at) other = refl
not_last answer.End other = absurd (other refl)

pub at_records : (stage : Stage) (limit other byte : ℕ) (octets : List ℕ) → stage ≡ Records → limit ≡ other → coming stage limit byte octets ≡ records other (record { byte = byte; rest = octets })
at_records stage limit other byte octets e l = rw (e, l) refl

pub opening_broken : (stage : Stage) (limit offset : ℕ) (octets : List ℕ) (found : Result (Unit {0}) DumpKind) (p : Place) (kind : DumpKind) → stage ≡ Opening → opening octets ≡ opened_as found p → found ≡ Err kind → coming stage limit offset octets ≡ broken p.byte kind
opening_broken stage limit offset octets found p kind e opened is = rw e (no_records limit octets p.byte kind (opened ∙ ap (λ (f : Result (Unit {0}) DumpKind). opened_as f p) is))

pub opening_done : (stage : Stage) (limit other offset : ℕ) (octets : List ℕ) (found : Result (Unit {0}) DumpKind) (p : Place) (u : Unit {0}) → stage ≡ Opening → opening octets ≡ opened_as found p → found ≡ Ok u → other ≡ limit → coming stage limit offset octets ≡ records other p
opening_done stage limit other offset octets found p u e opened is l = rw (e, l) (from_opening limit octets p (opened ∙ ap (λ (f : Result (Unit {0}) DumpKind). opened_as f p) is))
