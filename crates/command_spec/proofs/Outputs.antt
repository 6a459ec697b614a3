-- Which outputs `mix` and `attend` have, also where nothing is known of what lies in its inputs.
use Rattle.std.proofs.Common.{◌≡◌, ℕ, zero, suc, ◌+◌, ◌*◌, ◌≤◌, Bool, true, false, cond, Option, Some, None, Ok, List, [], ◌∷◌, ◌++◌, length, refl, ap, subst, sym, ◌∙◌, arith}
use Rattle.std.specs.Prelude.{map, not, ◌&&◌, ◌||◌, ◌==◌, nat_lt, unwrap_or, IsSome, if◌then◌else◌}
use Rattle.std.specs.List.{enumerate_from}
use Rattle.wire_spec.specs.Packets.{Arrival}
use Rattle.wire_spec.specs.Dump.{opening, dump, dump_written, arrivals_within, usual_limit}
use Rattle.wire_spec.specs.Dump as dumps
use Rattle.wire_spec.proofs.Recordings.{read_back}
use Rattle.file_spec.specs.declared.conference_lines.Form.TheVariants.{Files}
use Rattle.file_spec.specs.declared.conference_lines.LegLine.{LegLine}
use Rattle.file_spec.specs.Conference.{Conference, conference_from}
use Rattle.file_spec.specs.Primaries.{primary_limit}
use Rattle.stream_spec.specs.Ready.{Chunk, chunks}
use Rattle.mixer_spec.specs.Chunks.{has_chunk}
use Rattle.mixer_spec.specs.Rounds.{all_below, set_at}
use Rattle.mixer_spec.specs.Setups.{Setup, setup, in_stay, leg_at, ssrc_of}
use Rattle.mixer_spec.specs.Table.{Table, Terminal, empty, is_quiet, is_idle, has_work, stopped, turned}
use Rattle.mixer_spec.specs.Plain.{Desk, left_over, table_after, offers, offers_below, goes_below, comes_below, before_turn, is_over, plain_from, plain}
use Rattle.stream_spec.specs.Still.{still}
use Rattle.mixer_spec.specs.Bridged.{cutting_of, input_limit, leg_arrivals, leg_chunks}
use Rattle.mixer_spec.specs.Pieces.{chunks_cut}
use Rattle.mixer_spec.proofs.Kept.{entered_same, stopped_same, gone_same}
use Rattle.command_spec.specs.declared.faults.Refusal.TheVariants.{AtByte}
use Rattle.command_spec.specs.Work.{Contents, Made, Steps, Reads, Refuses, Makes, Serves, IsOutput, IsNth, and_prints}
use Rattle.command_spec.specs.Attending.{attending, attends, attends_read, named, says_of}
use Rattle.command_spec.specs.Inputs.{inputs_under, octets_under}
use Rattle.command_spec.proofs.SameFiles.{HaveFilesOf, same_files, there}
use Rattle.command_spec.proofs.Naming.{files_told}
use Rattle.command_spec.proofs.Reached.{counted_makes}
use Rattle.command_spec.specs.Mixing.{out_of, views, outs, makes, input_at, unless_one_broken, counted, counts_lines, mixes, mixes_counted, reads_inputs, mixes_read, mixing}
use Rattle.mixer_spec.specs.declared.limits.TheConstants.{MOST_INPUT_OF_MANY}
use Rattle.stream_spec.proofs.Plain.{no_text}

-- ---- where no leg says anything, mixing is over at once
-- nobody has anything to offer, and nothing was sent or waits
record IsBlank (d : Desk) : Type 0 where
  left : (i : ℕ) → d.left i ≡ []
  terminals : d.table.terminals ≡ empty.terminals

set_nothing : (left : ℕ → List Chunk) (i k : ℕ) → left k ≡ [] → set_at left i [] k ≡ []
set_nothing left i k e = go (k == i)
  where
    go : (b : Bool) → cond b [] (left k) ≡ []
    go true = refl
    go false = e

offers_blank : (s : Setup) (t i : ℕ) (d : Desk) → IsBlank d → IsBlank (offers s t i d)
offers_blank s t i d b = record {
  left = λ k. ap (λ cs. set_at d.left i (left_over s i t d.table cs) k) (b.left i) ∙ set_nothing d.left i k (b.left k);
  terminals = ap (λ cs. (table_after s i t d.table cs).terminals) (b.left i) ∙ b.terminals;
}

all_offer : (s : Setup) (t n : ℕ) (d : Desk) → IsBlank d → IsBlank (offers_below s t n d)
all_offer s t zero d b = b
all_offer s t (suc n) d b = offers_blank s t n (offers_below s t n d) (all_offer s t n d b)

all_go : (s : Setup) (t n : ℕ) (d : Desk) → IsBlank d → IsBlank (goes_below s t n d)
all_go s t zero d b = b
all_go s t (suc n) d b =
    let v = goes_below s t n d in
    let r = all_go s t n d b in
    record { left = r.left; terminals = (gone_same s n (v.left n) (stopped s n t v.table)).terminals ∙ ((stopped_same s n t v.table).terminals ∙ r.terminals) }

all_come : (s : Setup) (t n : ℕ) (d : Desk) → IsBlank d → IsBlank (comes_below s t n d)
all_come s t zero d b = b
all_come s t (suc n) d b =
    let v = comes_below s t n d in
    let r = all_come s t n d b in
    record { left = r.left; terminals = (entered_same s n t v.table).terminals ∙ r.terminals }

blank_before : (s : Setup) (t : ℕ) (d : Desk) → IsBlank d → IsBlank (before_turn s t d)
blank_before s t d b = all_offer s t s.legs (comes_below s t s.legs (goes_below s t s.legs d)) (all_come s t s.legs (goes_below s t s.legs d) (all_go s t s.legs d b))

all_true : (p : ℕ → Bool) (n : ℕ) → ((i : ℕ) → p i ≡ true) → all_below p n ≡ true
all_true p zero f = refl
all_true p (suc n) f = ap (λ b. b && all_below p n) (f n) ∙ all_true p n f

nobody : Terminal
nobody = record { past = []; asks = []; waits = λ i. [] }

no_work : (s : Setup) (j i : ℕ) → ((i == j) || not (has_work s j (empty.terminals j) i)) ≡ true
no_work s j i = ap (λ b. (i == j) || not b) (no_text (s.generations j)) ∙ go (i == j)
  where
    go : (b : Bool) → (b || true) ≡ true
    go true = refl
    go false = refl

quiet : (s : Setup) (j : ℕ) → is_quiet s j (empty.terminals j) ≡ true
quiet s j = ap (λ b. not b && all_below (λ i. (i == j) || not (has_work s j (empty.terminals j) i)) s.legs) (no_text (s.generations j)) ∙ all_true (λ i. (i == j) || not (has_work s j (empty.terminals j) i)) s.legs (no_work s j)

blank_over : (s : Setup) (d : Desk) → IsBlank d → is_over s d ≡ true
blank_over s d b =
    ap (λ x. x && is_idle s d.table) (all_true (λ i. not (has_chunk (d.left i))) s.legs (λ i. ap (λ cs. not (has_chunk cs)) (b.left i)))
    ∙ all_true (λ j. is_quiet s j (d.table.terminals j)) s.legs (λ j. ap (λ (ts : ℕ → Terminal). is_quiet s j (ts j)) b.terminals ∙ quiet s j)

at_once : (s : Setup) (tick n k : ℕ) (d : Desk) → IsBlank d → (t : Table) × (plain_from s tick n k d ≡ Some t)
at_once s tick zero k d b = let v = before_turn s (k * tick) d in (v.table, go (is_over s v) (blank_over s v (blank_before s (k * tick) d b)))
  where
    go : (x : Bool) → x ≡ true → (if x then Some (before_turn s (k * tick) d).table else None) ≡ Some (before_turn s (k * tick) d).table
    go true e = refl
    go false e = cc e
at_once s tick (suc n) k d b =
    let v = before_turn s (k * tick) d in
    (v.table, ap (λ x. elim x as (λ b. Option Table) [ true ↦ Some v.table | false ↦ plain_from s tick n (suc k) (record { left = v.left; table = turned s (k * tick) v.table }) ]) (blank_over s v (blank_before s (k * tick) d b)))

-- ---- inputs without a packet
none_arrive : (c : Conference) (o : Option LegLine) (octets : List ℕ) → (dump (input_limit c) octets).items ≡ [] → leg_arrivals (input_limit c) o octets ≡ []
none_arrive c None octets e = refl
none_arrive c (Some l) octets e = ap (arrivals_within (primary_limit l.long) l.ssrc l.payload_types []) e

none_heard : (c : Conference) (inputs : ℕ → List ℕ) (i : ℕ) → (dump (input_limit c) (inputs i)).items ≡ [] → leg_chunks c inputs i ≡ []
none_heard c inputs i e = ap (λ (a : List Arrival). in_stay (setup c) i (chunks_cut (cutting_of c) (chunks c.wait i (still a) (ssrc_of (leg_at c.legs i))))) (none_arrive c (leg_at c.legs i) (inputs i) e)

limit_is : (c : Conference) → 44 ≤ input_limit c
limit_is c = go (nat_lt 16 (length c.legs))
  where
    go : (b : Bool) → 44 ≤ cond b MOST_INPUT_OF_MANY usual_limit
    go true = omega arith
    go false = omega arith

pub empty_read : (c : Conference) → dump (input_limit c) (dump_written []) ≡ record { items = []; fault = None }
empty_read c = let l = limit_is c in read_back (input_limit c) [] tt (omega (arith, l))

nothing_read : (limit : ℕ) → (dump limit []).items ≡ []
unfolding dump opening
nothing_read limit = refl

-- for each leg the octets that f says
abbrev pub each : (LegLine → List ℕ) → List LegLine → List (List ℕ)
each f legs = map f legs

unfoldable pub silent : LegLine → List ℕ
silent leg = dump_written []

silent_at : (c : Conference) (legs : List LegLine) (i : ℕ) → (dump (input_limit c) (input_at (each silent legs) i)).items ≡ []
unfolding silent
silent_at c [] i = nothing_read (input_limit c)
silent_at c (l ∷ legs) zero = ap (λ (r : dumps.Recording). r.items) (empty_read c)
silent_at c (l ∷ legs) (suc i) = silent_at c legs i

silent_whole : (c : Conference) (n : ℕ) (legs : List LegLine) (steps : Steps) → unless_one_broken (input_limit c) n (each silent legs) steps ≡ steps
unfolding silent
silent_whole c n [] steps = refl
silent_whole c n (l ∷ legs) steps =
    ap (λ (o : Option dumps.Fault). elim o as (λ x. Steps) [ None ↦ unless_one_broken (input_limit c) (suc n) (each silent legs) steps | Some fault ↦ Refuses n (AtByte fault.byte fault.kind) ]) (ap (λ (r : dumps.Recording). r.fault) (empty_read c))
    ∙ silent_whole c (suc n) legs steps

-- where nobody says anything, mixing is over
pub silent_table : (c : Conference) (legs : List LegLine) → (t : Table) × (plain (setup c) c.tick c.turns (leg_chunks c (input_at (each silent legs))) ≡ Some t)
silent_table c legs =
    let blank : IsBlank (record { left = leg_chunks c (input_at (each silent legs)); table = empty }) =
    record { left = λ i. none_heard c (input_at (each silent legs)) i (silent_at c legs i); terminals = refl } in
    at_once (setup c) c.tick c.turns 0 (record { left = leg_chunks c (input_at (each silent legs)); table = empty }) blank

-- what is made then
silence : (c : Conference) (legs : List LegLine) → (t : Table) × (mixes c (each silent legs) ≡ Makes (views c t) (outs c t))
silence c legs =
    let r = silent_table c legs in
    (r.0, silent_whole c 1 legs (makes c (plain (setup c) c.tick c.turns (leg_chunks c (input_at (each silent legs))))) ∙ ap (makes c) r.1)

-- ---- the outputs of what is made
pub nth_out : (c : Conference) (t : Table) (k : ℕ) (legs : List LegLine) (n : ℕ) (leg : LegLine) → leg_at legs n ≡ Some leg → IsNth (map (λ x. out_of c t x.0 x.1) (enumerate_from k legs)) n leg.output
nth_out c t k [] n leg e = absurd (cc e)
nth_out c t k (l ∷ legs) zero leg e = let same : l ≡ leg = cc e in ap (λ (x : LegLine). x.output) (sym same)
nth_out c t k (l ∷ legs) (suc n) leg e = nth_out c t (k + 1) legs n leg e

-- what it comes to is made, and then these are the outputs, or it is refused
abbrev AreOuts : Conference → Steps → Type 0
AreOuts c (Makes printed files) = (t : Table) × (files ≡ outs c t)
AreOuts c (Refuses n refusal) = Unit {0}
AreOuts c (Reads name next) = ⊥
AreOuts c (Serves other) = ⊥

outs_made : (c : Conference) (o : Option Table) → AreOuts c (makes c o)
outs_made c None = tt
outs_made c (Some t) = (t, refl)

outs_unless : (c : Conference) (limit n : ℕ) (inputs : List (List ℕ)) (steps : Steps) → AreOuts c steps → AreOuts c (unless_one_broken limit n inputs steps)
outs_unless c limit n [] steps a = a
outs_unless c limit n (octets ∷ more) steps a = go (dump limit octets).fault (outs_unless c limit (suc n) more steps a)
  where
    go : (o : Option dumps.Fault) → AreOuts c (unless_one_broken limit (suc n) more steps)
        → AreOuts c (elim o as (λ x. Steps) [ None ↦ unless_one_broken limit (suc n) more steps | Some fault ↦ Refuses n (AtByte fault.byte fault.kind) ])
    go None r = r
    go (Some fault) r = tt

outs_printed : (c : Conference) (more : List ℕ) (steps : Steps) → AreOuts c steps → AreOuts c (and_prints more steps)
outs_printed c more (Makes printed files) a = a
outs_printed c more (Refuses n refusal) a = tt
outs_printed c more (Reads name next) a = absurd a
outs_printed c more (Serves other) a = absurd a

are_outs : (c : Conference) (inputs : List (List ℕ)) → AreOuts c (mixes_counted c inputs)
are_outs c inputs = go c.service.counts
  where
    plainly : AreOuts c (mixes c inputs)
    plainly = outs_unless c (input_limit c) 1 inputs (makes c (plain (setup c) c.tick c.turns (leg_chunks c (input_at inputs)))) (outs_made c (plain (setup c) c.tick c.turns (leg_chunks c (input_at inputs))))

    go : (b : Bool) → AreOuts c (if b then and_prints (counts_lines c inputs) (mixes c inputs) else mixes c inputs)
    go true = outs_printed c (counts_lines c inputs) (mixes c inputs) plainly
    go false = plainly

-- ---- along the inputs
along : (Told : Type 0) (held : Contents) (f : LegLine → List ℕ) (legs : List LegLine) (next : List (List ℕ) → Steps) (n : ℕ) (file : List ℕ)
    → (Told → (k : ℕ) (leg : LegLine) → leg_at legs k ≡ Some leg → held leg.input ≡ Some (f leg)) → IsOutput Told held (next (each f legs)) n file → IsOutput Told held (reads_inputs legs next) n file
along Told held f [] next n file lie o = o
along Told held f (l ∷ legs) next n file lie o =
    (f l, λ told. lie told 0 l refl, along Told held f legs (λ more. next (f l ∷ more)) n file (λ told k. lie told (suc k)) o)

is_made : (Told : Type 0) (held : Contents) (steps : Steps) (printed : List ℕ) (files : List Made) (n : ℕ) (file : List ℕ) → steps ≡ Makes printed files → IsNth files n file → IsOutput Told held steps n file
is_made Told held steps printed files n file e i = subst (λ (x : Steps). IsOutput Told held x n file) (sym e) i

-- what lies under the input of a leg
abbrev under : Contents → LegLine → List ℕ
under held leg = octets_under held leg.input

pub is_under : (o : Option (List ℕ)) → IsSome o → o ≡ Some (unwrap_or o [])
is_under None e = cc e
is_under (Some octets) e = refl

-- the conference that the inputs decide is mixed over them
abbrev pub mixes_as : (List (List ℕ) → Conference) → List (List ℕ) → Steps
mixes_as becomes inputs = mixes_counted (becomes inputs) inputs

-- Whatever the world tells, the output of each leg is one of what mixes over its inputs a conference of legs that have its files,
-- which these inputs may decide.
pub mixed_output : (Told : Type 0) (held : Contents) (c : Conference) (becomes : List (List ℕ) → Conference) → ((inputs : List (List ℕ)) → HaveFilesOf c.legs (becomes inputs).legs)
    → (Told → (k : ℕ) (leg : LegLine) → leg_at c.legs k ≡ Some leg → IsSome (held leg.input))
    → (Told → (printed : List ℕ) × (files : List Made) × (mixes (becomes (inputs_under held c.legs)) (inputs_under held c.legs) ≡ Makes printed files))
    → (n : ℕ) (leg : LegLine) → leg_at c.legs n ≡ Some leg → IsOutput Told held (reads_inputs c.legs (mixes_as becomes)) n leg.output
mixed_output Told held c becomes same all makes_it n leg at =
    go (mixes_counted (becomes (inputs_under held c.legs)) (inputs_under held c.legs)) refl (are_outs (becomes (inputs_under held c.legs)) (inputs_under held c.legs))
  where
    -- it is made of any inputs of which something is made
    made : (inputs : List (List ℕ)) (t : Table) → IsNth (outs (becomes inputs) t) n leg.output
    made inputs t =
        let l = there c.legs (becomes inputs).legs (same inputs) n leg at in
        subst (λ name. IsNth (outs (becomes inputs) t) n name) l.2.output (nth_out (becomes inputs) t 0 (becomes inputs).legs n l.0 l.1)

    go : (steps : Steps) → mixes_as becomes (inputs_under held c.legs) ≡ steps → AreOuts (becomes (inputs_under held c.legs)) steps → IsOutput Told held (reads_inputs c.legs (mixes_as becomes)) n leg.output
    go (Makes printed files) e a =
        along Told held (under held) c.legs (mixes_as becomes) n leg.output (λ told k l q. is_under (held l.input) (all told k l q))
        (is_made Told held (mixes_as becomes (inputs_under held c.legs)) printed files n leg.output e (subst (λ fs. IsNth fs n leg.output) (sym a.1) (made (inputs_under held c.legs) a.0)))
    go (Refuses m refusal) e a =
        let inputs = each silent c.legs in
        let q = silence (becomes inputs) c.legs in
        along Told held silent c.legs (mixes_as becomes) n leg.output (λ told k l q. let r = makes_it told in absurd (cc (sym e ∙ counted_makes (becomes (inputs_under held c.legs)) (inputs_under held c.legs) r.0 r.1 r.2)))
        (is_made Told held (mixes_as becomes inputs) (views (becomes inputs) q.0 ++ counted (becomes inputs) inputs) (outs (becomes inputs) q.0) n leg.output (counted_makes (becomes inputs) inputs (views (becomes inputs) q.0) (outs (becomes inputs) q.0) q.1) (made inputs q.0))
    go (Reads name next) e a = absurd a
    go (Serves other) e a = absurd a

-- The output of each leg is one of `mix`.
pub is_output : (Told : Type 0) (held : Contents) (file octets : List ℕ) (c : Conference) → (Told → held file ≡ Some octets) → conference_from Files octets ≡ Ok c
    → (Told → (k : ℕ) (leg : LegLine) → leg_at c.legs k ≡ Some leg → IsSome (held leg.input))
    → (Told → (printed : List ℕ) × (files : List Made) × (mixes c (inputs_under held c.legs) ≡ Makes printed files))
    → (n : ℕ) (leg : LegLine) → leg_at c.legs n ≡ Some leg → IsOutput Told held (mixing file) n leg.output
is_output Told held file octets c lies read all makes_it n leg at =
    (octets, lies, subst (λ r. IsOutput Told held (mixes_read r) n leg.output) (sym read) (mixed_output Told held c (λ inputs. c) (λ inputs. same_files c.legs) all makes_it n leg at))

-- The output of each leg is one of `attend`.
pub attended_output : (Told : Type 0) (held : Contents) (file octets : List ℕ) (c : Conference) → (Told → held file ≡ Some octets) → conference_from Files octets ≡ Ok c
    → (Told → (k : ℕ) (leg : LegLine) → leg_at c.legs k ≡ Some leg → IsSome (held leg.input))
    → (Told → (printed : List ℕ) × (files : List Made) × (mixes (named c (inputs_under held c.legs)) (inputs_under held c.legs) ≡ Makes printed files))
    → (n : ℕ) (leg : LegLine) → leg_at c.legs n ≡ Some leg → IsOutput Told held (attending file) n leg.output
attended_output Told held file octets c lies read all makes_it n leg at = (
  octets,
  lies,
  subst (λ r. IsOutput Told held (attends_read r) n leg.output) (sym read)
      (mixed_output Told held c (named c) (λ inputs. files_told c.wait (says_of c inputs) (length c.legs) c.legs) all makes_it n leg at),
)
