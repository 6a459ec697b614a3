-- All sources together.
use Rattle.std.proofs.Common.{◌≡◌, ℕ, ◌+◌, ◌<◌, ◌≤◌, inl, inr, Bool, true, false, Some, List, [], ◌∷◌, ◌++◌, length, set, refl, ap, subst, sym, ◌∙◌, arith}
use Rattle.std.specs.Prelude.{slice_get, not, ◌&&◌, ◌==◌, if◌then◌else◌}
use Rattle.std.proofs.lemmas.Bool.{cases_eq}
use Rattle.std.proofs.lemmas.List.{length-set}
use Rattle.std.proofs.lemmas.Option.{slice_get_within}
use Rattle.stream_spec.specs.Ready.{Chunk}
use Rattle.mixer_spec.specs.Rounds.{set_at}
use Rattle.mixer_spec.proofs.Lists.{set_same, set_other, get_set_other}
use Rattle.mixer_spec.specs.Setups.{Setup}
use Rattle.mixer_spec.specs.Chunks.{behind}
use Rattle.mixer_spec.specs.Table.{Seats, Taken, Terminal, Table, is_given, give, given}
use Rattle.mixer_places.specs.Lanes.{Waiting}
use Rattle.mixer_places.specs.Words.{all_listen, listening, take_front, fetched, NoneWaits}
use Rattle.mixer_places.specs.SlotStanding.{SlotHolds, SourceStands, SlotsStandFor}
use Rattle.mixer_places.proofs.Lists.{get_set_same}
use Rattle.mixer_places.proofs.Holding.{part_same}
use Rattle.stream_spec.proofs.Typing.{and_second as right_of}
use Rattle.stream_spec.proofs.Plain.{get_push}

pub holds_same : (w : Waiting) (taken us : List Taken) (listens ms : ℕ → Bool) (waits vs : ℕ → List Chunk) → SlotHolds w taken listens waits → us ≡ taken → ((j : ℕ) → ms j ≡ listens j) → ((j : ℕ) → vs j ≡ waits j) → SlotHolds w us ms vs
holds_same w taken us listens ms waits vs h e f g = record {
  gone = h.gone;
  kept = h.kept;
  all = e ∙ h.all;
  chunks = h.chunks;
  parts = λ j p k. part_same j (listens j) (ms j) (waits j) (vs j) h.kept p (f j) (g j) (h.parts j p k);
}

-- the tables say the same of the source k
pub record IsAlike (old new : Table) (k : ℕ) : Type 0 where
  pub taken : new.taken k ≡ old.taken k
  pub listens : (j : ℕ) → is_given new.seats k j ≡ is_given old.seats k j
  pub waits : (j : ℕ) → (new.terminals j).waits k ≡ (old.terminals j).waits k

pub source_same : (s : Setup) (k : ℕ) (w : Waiting) (old new : Table) → SourceStands s k w old → IsAlike old new k → SourceStands s k w new
source_same s k w old new h a = record {
  terminals = h.terminals;
  holds = holds_same w (old.taken k) (new.taken k) (is_given old.seats k) (is_given new.seats k) (λ j. (old.terminals j).waits k) (λ j. (new.terminals j).waits k) h.holds a.taken a.listens a.waits;
}

-- Slots that stand for a table stand for each that says the same of what waits, was taken and listens.
pub stands_same : (s : Setup) (slots : List Waiting) (old new : Table) → SlotsStandFor s slots old → ((i : ℕ) → new.taken i ≡ old.taken i) → ((j : ℕ) → new.seats.listens j ≡ old.seats.listens j) → ((j i : ℕ) → (new.terminals j).waits i ≡ (old.terminals j).waits i)
    → SlotsStandFor s slots new
stands_same s slots old new h e f g = record {
  legs = h.legs;
  sources = λ i w k. source_same s i w old new (h.sources i w k) (record {
    taken = e i;
    listens = λ j. ap (λ (b : Bool). not (j == i) && b) (f j);
    waits = λ j. g j i;
  });
}

-- what is known of the source of a lane
pub source_of : (s : Setup) (slots : List Waiting) (table : Table) → SlotsStandFor s slots table → (i : ℕ) (w : Waiting) → slice_get slots i ≡ Some w → SourceStands s i w table
source_of s slots table h i w g = h.sources i w g

-- one source changes
stands_set : (s : Setup) (slots : List Waiting) (old new : Table) (i : ℕ) (w : Waiting) → SlotsStandFor s slots old → SourceStands s i w new → ((k : ℕ) → (k ≡ i → ⊥) → IsAlike old new k) → SlotsStandFor s (set slots i w) new
stands_set s slots old new i w h n a = record {
  legs = length-set slots i w ∙ h.legs;
  sources = λ k v g. elim (cases_eq k i) [
    | inl e ↦
        let at : slice_get (set slots i w) i ≡ Some v = ap (λ (x : ℕ). slice_get (set slots i w) x) (sym e) ∙ g in
        subst (λ (x : ℕ). SourceStands s x v new) (sym e) (subst (λ (x : Waiting). SourceStands s i x new) (sym (get_set_same slots i w v at)) n)
    | inr m ↦ source_same s k v old new (h.sources k v (sym (get_set_other slots i k w m) ∙ g)) (a k m)
  ];
}

-- ---- a chunk
pub given_waits : (b : Bool) (i : ℕ) (c : Chunk) (d : Terminal) → (if b then give i c d else d).waits i ≡ (if b then d.waits i ++ c ∷ [] else d.waits i)
given_waits true i c d = set_same d.waits i (d.waits i ++ c ∷ []) i refl
given_waits false i c d = refl

pub given_others : (b : Bool) (i k : ℕ) (c : Chunk) (d : Terminal) → (k ≡ i → ⊥) → (if b then give i c d else d).waits k ≡ d.waits k
given_others true i k c d n = set_other d.waits i (d.waits i ++ c ∷ []) k n
given_others false i k c d n = refl

pub stands_given : (s : Setup) (slots : List Waiting) (table : Table) (i : ℕ) (w v : Waiting) (c : Chunk) → SlotsStandFor s slots table → slice_get slots i ≡ Some w → length v.parts ≡ length w.parts
    → ((taken : List Taken) (listens : ℕ → Bool) (waits : ℕ → List Chunk) → SlotHolds w taken listens waits → SlotHolds v (taken ++ record { chunk = c; given = listens } ∷ []) listens (λ j. if listens j then waits j ++ c ∷ [] else waits j))
    → SlotsStandFor s (set slots i v) (given i c table)
stands_given s slots table i w v c h g l f =
    let k = h.sources i w g in
    stands_set s slots table (given i c table) i v h (record {
      terminals = l ∙ k.terminals;
      holds = holds_same v (table.taken i ++ record { chunk = c; given = is_given table.seats i } ∷ []) ((given i c table).taken i) (is_given table.seats i) (is_given table.seats i)
          (λ j. if is_given table.seats i j then (table.terminals j).waits i ++ c ∷ [] else (table.terminals j).waits i) (λ j. ((given i c table).terminals j).waits i)
          (f (table.taken i) (is_given table.seats i) (λ j. (table.terminals j).waits i) k.holds)
          (set_same table.taken i (table.taken i ++ record { chunk = c; given = is_given table.seats i } ∷ []) i refl) (λ j. refl)
          (λ j. given_waits (is_given table.seats i j) i c (table.terminals j));
    }) (λ x n. record {
      taken = set_other table.taken i (table.taken i ++ record { chunk = c; given = is_given table.seats i } ∷ []) x n;
      listens = λ j. refl;
      waits = λ j. given_others (is_given table.seats i j) i x c (table.terminals j) n;
    })

-- ---- a terminal takes
pub stands_fetched : (s : Setup) (slots : List Waiting) (table : Table) (j i room : ℕ) (w v : Waiting) → SlotsStandFor s slots table → slice_get slots i ≡ Some w → length v.parts ≡ length w.parts
    → ((taken : List Taken) (listens : ℕ → Bool) (waits : ℕ → List Chunk) → SlotHolds w taken listens waits → SlotHolds v taken listens (set_at waits j (behind room (waits j))))
    → SlotsStandFor s (set slots i v) (fetched j i room table)
stands_fetched s slots table j i room w v h g l f =
    let k = h.sources i w g in
    let waits : ℕ → List Chunk = λ x. (table.terminals x).waits i in
    let new : Terminal = take_front i room (table.terminals j) in
    stands_set s slots table (fetched j i room table) i v h (record {
      terminals = l ∙ k.terminals;
      holds = holds_same v (table.taken i) (table.taken i) (is_given table.seats i) (is_given table.seats i) (set_at waits j (behind room (waits j))) (λ x. ((fetched j i room table).terminals x).waits i)
          (f (table.taken i) (is_given table.seats i) waits k.holds) refl (λ x. refl)
          (λ x. elim (cases_eq x j) [
            | inl e ↦ ap (λ (d : Terminal). d.waits i) (set_same table.terminals j new x e) ∙ (set_same (table.terminals j).waits i (behind room (waits j)) i refl ∙ sym (set_same waits j (behind room (waits j)) x e))
            | inr n ↦ ap (λ (d : Terminal). d.waits i) (set_other table.terminals j new x n) ∙ sym (set_other waits j (behind room (waits j)) x n)
          ]);
    }) (λ y m. record {
      taken = refl;
      listens = λ x. refl;
      waits = λ x. elim (cases_eq x j) [
        | inl e ↦ ap (λ (d : Terminal). d.waits y) (set_same table.terminals j new x e) ∙ (set_other (table.terminals j).waits i (behind room (waits j)) y m ∙ ap (λ (z : ℕ). (table.terminals z).waits y) (sym e))
        | inr n ↦ ap (λ (d : Terminal). d.waits y) (set_other table.terminals j new x n)
      ];
    })

-- ---- a terminal listens
pub record Heard (j : ℕ) (on : Bool) (w v : Waiting) : Type 0 where
  pub parts : length v.parts ≡ length w.parts
  pub holds : (taken : List Taken) (listens : ℕ → Bool) (waits : ℕ → List Chunk) → SlotHolds w taken listens waits → SlotHolds v taken (set_at listens j on) (if on then set_at waits j [] else waits)

-- the first n lanes were told
pub record Told (j : ℕ) (on : Bool) (n : ℕ) (old new : List Waiting) : Type 0 where
  pub legs : length new ≡ length old
  pub first : (k : ℕ) (v : Waiting) → k < n → slice_get new k ≡ Some v → (w : Waiting) × (slice_get old k ≡ Some w) × Heard j (not (j == k) && on) w v
  pub left : (k : ℕ) (v : Waiting) → n ≤ k → slice_get new k ≡ Some v → slice_get old k ≡ Some v

pub told_none : (j : ℕ) (on : Bool) (old : List Waiting) → Told j on 0 old old
told_none j on old = record {
  legs = refl;
  first = λ k v l g. absurd (omega arith);
  left = λ k v l g. g;
}

pub told_more : (j : ℕ) (on : Bool) (n : ℕ) (old new : List Waiting) → Told j on n old new → (w v : Waiting) → slice_get new n ≡ Some w → Heard j (not (j == n) && on) w v → Told j on (n + 1) old (set new n v)
told_more j on n old new h w v g d = record {
  legs = length-set new n v ∙ h.legs;
  first = λ k x l e. elim (cases_eq k n) [
    | inl q ↦
        let at : slice_get (set new n v) n ≡ Some x = ap (λ (i : ℕ). slice_get (set new n v) i) (sym q) ∙ e in
        let is : x ≡ v = get_set_same new n v x at in
        (w, ap (λ (i : ℕ). slice_get old i) q ∙ h.left n w (omega arith) g, subst (λ (i : ℕ). Heard j (not (j == i) && on) w x) (sym q) (subst (λ (y : Waiting). Heard j (not (j == n) && on) w y) (sym is) d))
    | inr m ↦ h.first k x (omega (arith, l, m)) (sym (get_set_other new n k v m) ∙ e)
  ];
  left = λ k x l e. h.left k x (omega arith) (sym (get_set_other new n k v (λ q. omega (arith, q, l))) ∙ e);
}

pub hears_same : (j i x : ℕ) (on : Bool) (seats : Seats) → set_at (is_given seats i) j (not (j == i) && on) x ≡ (not (x == i) && set_at seats.listens j on x)
hears_same j i x on seats = elim (cases_eq x j) [
  | inl e ↦ set_same (is_given seats i) j (not (j == i) && on) x e ∙ (ap (λ (y : ℕ). not (y == i) && on) (sym e) ∙ ap (λ (b : Bool). not (x == i) && b) (sym (set_same seats.listens j on x e)))
  | inr n ↦ set_other (is_given seats i) j (not (j == i) && on) x n ∙ ap (λ (b : Bool). not (x == i) && b) (sym (set_other seats.listens j on x n))
]

pub waits_same : (j : ℕ) (on : Bool) (waits : ℕ → List Chunk) (x : ℕ) → (on ≡ true → waits j ≡ []) → waits x ≡ (if on then set_at waits j [] else waits) x
waits_same j true waits x f = elim (cases_eq x j) [
  | inl e ↦ ap waits e ∙ (f refl ∙ sym (set_same waits j [] x e))
  | inr n ↦ sym (set_other waits j [] x n)
]
waits_same j false waits x f = refl

pub stands_told : (s : Setup) (old new : List Waiting) (table : Table) (j : ℕ) (on : Bool) → SlotsStandFor s old table → Told j on (length old) old new → (on ≡ true → NoneWaits s j table) → SlotsStandFor s new (listening j on table)
stands_told s old new table j on h t none = record {
  legs = t.legs ∙ h.legs;
  sources = λ i v g.
      let l : i < length old = omega (arith, slice_get_within new i v g, t.legs) in
      let d = t.first i v l g in
      let k = h.sources i d.0 d.1 in
      let b = not (j == i) && on in
      let waits : ℕ → List Chunk = λ x. (table.terminals x).waits i in
      record {
        terminals = d.2.parts ∙ k.terminals;
        holds = holds_same v (table.taken i) (table.taken i) (set_at (is_given table.seats i) j b) (is_given (listening j on table).seats i) (if b then set_at waits j [] else waits) waits
            (d.2.holds (table.taken i) (is_given table.seats i) waits k.holds) refl
            (λ x. sym (hears_same j i x on table.seats))
            (λ x. waits_same j b waits x (λ e. none (right_of (not (j == i)) on e) i (omega (arith, l, h.legs))));
      };
}

-- ---- the start
pub record Starts (legs k : ℕ) (w : Waiting) : Type 0 where
  pub parts : length w.parts ≡ legs
  pub holds : SlotHolds w [] (is_given all_listen.seats k) (λ j. [])

pub stands_new : (s : Setup) (slots : List Waiting) (legs : ℕ) → s.legs ≡ legs → length slots ≡ legs → ((k : ℕ) (w : Waiting) → slice_get slots k ≡ Some w → Starts legs k w) → SlotsStandFor s slots all_listen
stands_new s slots legs e l f = record {
  legs = l ∙ sym e;
  sources = λ k w g. record { terminals = (f k w g).parts ∙ sym e; holds = (f k w g).holds };
}

pub starts_more : (legs : ℕ) (xs : List Waiting) (y : Waiting) → ((k : ℕ) (w : Waiting) → slice_get xs k ≡ Some w → Starts legs k w) → Starts legs (length xs) y → (k : ℕ) (w : Waiting) → slice_get (xs ++ y ∷ []) k ≡ Some w → Starts legs k w
starts_more legs xs y f n k w e = elim (get_push xs y k w e) [
  | inl g ↦ f k w g
  | inr p ↦ subst (λ (i : ℕ). Starts legs i w) (sym p.0) (subst (λ (v : Waiting). Starts legs (length xs) v) (sym p.1) n)
]
