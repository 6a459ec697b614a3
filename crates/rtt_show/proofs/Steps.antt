-- A step of a loop over records: the first of those that are left is taken.
use Rattle.std.proofs.Common.{ℕ, ◌+◌, ◌<◌, ◌≤◌, ◌^◌, List, [], ◌∷◌, ◌++◌, length, arith}
use Rattle.wire_spec.specs.Dump.{Item, sent_item}
use Rattle.rtpdump_io.specs.InMemory.{HasRecords}
use Rattle.rtpdump_io.proofs.Fronts.{Front, Left, Splits, front_more, left_less, some_left}

-- what holds behind this record, by what held before it
pub record Step (rest : List ℕ) (at : ℕ) (packet behind : List ℕ) : Type 1 where
  pub some : (m : ℕ) → Left rest m → m + 1 < 2 ^ 32
  pub less : (m n : ℕ) → n ≤ m + 1 → Left rest m → Left behind n
  pub more : (P Q : List Item → Type 0) → ((came : List Item) → P came → Q (came ++ sent_item (at, packet) ∷ [])) → (all : List (ℕ × List ℕ)) → Front P rest all → Front Q behind all

pub step_of : (rest : List ℕ) (at : ℕ) (packet behind : List ℕ) → Splits rest at packet behind → length behind + 8 ≤ length rest → Step rest at packet behind
step_of rest at packet behind f l = record {
  some = λ m. some_left rest at packet behind m f l;
  less = λ m n. left_less rest at packet behind m n f l;
  more = λ P Q g all. front_more P Q rest at packet behind all f l g;
}

-- before the first step
pub all_left : (records : List ℕ) → HasRecords records → Left records 0
all_left records h = record { back = h.0; left = h.1; few = omega (arith, h.1.few) }

-- what a count of records that is not at its end is called with
pub some_few : (P : ℕ → Type 0) {rest : List ℕ} {at : ℕ} {packet behind : List ℕ} → Step rest at packet behind → (n : ℕ) × Left rest n × P n → (n : ℕ) × (n < 2 ^ 32) × P n
some_few P s i = (i.0, omega (arith, s.some i.0 i.1), i.2)
