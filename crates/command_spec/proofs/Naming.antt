-- A conference with the names and the leavings that its inputs tell keeps what a conference keeps.
use Rattle.std.proofs.Common.{◌≡◌, ℕ, zero, suc, ◌+◌, ◌<◌, ◌≤◌, Bool, true, false, cond, Option, Some, None, List, [], ◌∷◌, length, get_or, inl, inr, refl, ap, subst, sym, ◌∙◌, arith}
use Rattle.std.specs.Prelude.{◌⊎◌, ◌≢◌, ◌&&◌, min, not, nat_lt, nat_le, bytes_eq, filter, All, IsTrue}
use Rattle.std.specs.List.{list_any}
use Rattle.std.specs.Option.{ForSome}
use Rattle.std.proofs.lemmas.Bool.{true≢false, and_parts, ltb-true, lt-ltb, leb-true}
use Rattle.std.proofs.lemmas.List.Folds.{list_any_at}
use Rattle.std.proofs.lemmas.List.Sums.{length-filter}
use Rattle.std.proofs.lemmas.Slice.Eq.{bytes_eq-Decides}
use Rattle.file_spec.specs.declared.limits.TheConstants.{LAST_MOMENT, MOST_GENERATIONS}
use Rattle.file_spec.specs.declared.conference_lines.LegLine.{LegLine}
use Rattle.file_spec.specs.declared.conference_lines.Stay.{Stay}
use Rattle.file_spec.specs.Conference.{Conference, change_leg, is_name, port}
use Rattle.file_spec.specs.Stays.{IsStay, NeverCrowd, is_before_end, stays_at}
use Rattle.file_spec.specs.Kept.{AreLegs, AreTwoTypes, Differ, IsConference, IsLeg}
use Rattle.command_spec.proofs.SameFiles.{HasFilesOf, HaveFilesOf, changed_files, same_files}
use Rattle.command_spec.specs.Attending.{Said, as_name, is_free, left_so, named_by, named_so, sooner, told_legs, told_so, until_then}
use Rattle.file_spec.proofs.KeptLines.{length-change as length_changed}

-- ---- a leg that is changed
-- the leg i is as it was, or it is the one that was changed
IsChanged : (LegLine → LegLine) → ℕ → List LegLine → ℕ → LegLine → Type 0
IsChanged change k ls i d =
    (get_or (change_leg change k ls) i d ≡ get_or ls i d) ⊎ ((i ≡ k) × (get_or (change_leg change k ls) i d ≡ change (get_or ls i d)))

at_changed : (change : LegLine → LegLine) (k : ℕ) (ls : List LegLine) (i : ℕ) (d : LegLine) → IsChanged change k ls i d
unfolding IsChanged
at_changed change k [] i d = inl refl
at_changed change zero (l ∷ ls) zero d = inr (refl, refl)
at_changed change zero (l ∷ ls) (suc i) d = inl refl
at_changed change (suc k) (l ∷ ls) zero d = inl refl
at_changed change (suc k) (l ∷ ls) (suc i) d = elim (at_changed change k ls i d) [ inl same ↦ inl same | inr p ↦ inr (ap suc p.0, p.1) ]

-- ---- a name
-- no leg has a name that is free
free_at : (ls : List LegLine) (name : List ℕ) → is_free ls name ≡ true → (i : ℕ) (d : LegLine) → i < length ls → (get_or ls i d).name ≢ name
free_at ls name free i d within same =
    true≢false (sym (list_any_at (λ (leg : LegLine). bytes_eq leg.name name) ls i d within ((bytes_eq-Decides (get_or ls i d).name name).1 same)) ∙ not-true (list_any (λ (leg : LegLine). bytes_eq leg.name name) ls) free)
  where
    not-true : (b : Bool) → not b ≡ true → b ≡ false
    not-true true e = absurd (true≢false (sym e))
    not-true false e = refl

-- what becomes of a leg's name
NewName : List LegLine → LegLine → LegLine → Type 0
NewName ls old new = (new.name ≡ old.name) ⊎ (IsTrue (is_name new.name) × (is_free ls new.name ≡ true))

-- what a leg that is told so keeps
record Keeps (ls : List LegLine) (old new : LegLine) : Type 0 where
  name : NewName ls old new
  same : record new { name = old.name; stay = old.stay } ≡ old
  shorter : (t : ℕ) → stays_at t new.stay ≡ true → stays_at t old.stay ≡ true
  stay : IsStay old.stay → IsStay new.stay

named_keeps : (ls : List LegLine) (name : Option (List ℕ)) (leg : LegLine) → Keeps ls leg (named_so ls name leg)
unfolding NewName
named_keeps ls None leg = record { name = inl refl; same = refl; shorter = λ t e. e; stay = λ s. s }
named_keeps ls (Some text) leg = go (is_name (as_name text)) (is_free ls (as_name text)) refl refl
  where
    go : (a b : Bool) → is_name (as_name text) ≡ a → is_free ls (as_name text) ≡ b → Keeps ls leg (cond (a && b) (record leg { name = as_name text }) leg)
    go false b e f = record { name = inl refl; same = refl; shorter = λ t e. e; stay = λ s. s }
    go true false e f = record { name = inl refl; same = refl; shorter = λ t e. e; stay = λ s. s }
    go true true e f = record { name = inr (e, f); same = refl; shorter = λ t e. e; stay = λ s. s }

-- ---- a leaving
before_sooner : (t : ℕ) (until : Option ℕ) (end : ℕ) → is_before_end t (sooner until end) ≡ true → is_before_end t until ≡ true
before_sooner t None end e = refl
before_sooner t (Some until) end e = let b = ltb-true t (min until end) e in lt-ltb t until (omega (arith, b))

sooner_stay : (stay : Stay) (end : ℕ) → stay.from < end → end ≤ LAST_MOMENT → IsStay stay → IsStay (record stay { until = sooner stay.until end })
sooner_stay stay end after last s = go stay.until s.until s.some
  where
    go : (o : Option ℕ) → ForSome o (λ end. end ≤ LAST_MOMENT) → ForSome o (λ end. stay.from < end) → IsStay (record { from = stay.from; until = sooner o end })
    go None a b = record {
      from = s.from;
      until = λ x e. subst (λ n. n ≤ LAST_MOMENT) (the_same end x e) last;
      some = λ x e. subst (λ n. stay.from < n) (the_same end x e) after;
    }
      where
        the_same : (a b : ℕ) → Some a ≡ Some b → a ≡ b
        the_same a b e = cc e
    go (Some until) a b = record {
      from = s.from;
      until = λ x e. subst (λ n. n ≤ LAST_MOMENT) (the_same (min until end) x e) (let h = a until refl in omega (arith, h, last));
      some = λ x e. subst (λ n. stay.from < n) (the_same (min until end) x e) (let h = b until refl in omega (arith, h, after));
    }
      where
        the_same : (a b : ℕ) → Some a ≡ Some b → a ≡ b
        the_same a b e = cc e

record Shortens (old new : Stay) : Type 0 where
  shorter : (t : ℕ) → stays_at t new ≡ true → stays_at t old ≡ true
  stay : IsStay old → IsStay new

then_shortens : (end : ℕ) (stay : Stay) → Shortens stay (until_then end stay)
then_shortens end stay = go (nat_lt stay.from end) (nat_le end LAST_MOMENT) refl refl
  where
    go : (a b : Bool) → nat_lt stay.from end ≡ a → nat_le end LAST_MOMENT ≡ b → Shortens stay (cond (a && b) (record stay { until = sooner stay.until end }) stay)
    go false b e f = record { shorter = λ t e. e; stay = λ s. s }
    go true false e f = record { shorter = λ t e. e; stay = λ s. s }
    go true true e f = record {
      shorter = λ t q. let p = and_parts (nat_le stay.from t) (is_before_end t (sooner stay.until end)) q in rw p.0 (before_sooner t stay.until end p.1);
      stay = λ s. sooner_stay stay end (ltb-true stay.from end e) (leb-true end LAST_MOMENT f) s;
    }

told_keeps : (wait : ℕ) (said : Said) (ls : List LegLine) (leg : LegLine) → Keeps ls leg (told_so wait said ls leg)
unfolding NewName
told_keeps wait said ls leg = go said.left
  where
    k : Keeps ls leg (named_so ls said.name leg)
    k = named_keeps ls said.name leg

    go : (left : Option ℕ) → Keeps ls leg (left_so wait left (named_so ls said.name leg))
    go None = k
    go (Some at) =
        let s = then_shortens (at + wait + 1) (named_so ls said.name leg).stay in
        record { name = k.name; same = k.same; shorter = λ t e. k.shorter t (s.shorter t e); stay = λ i. s.stay (k.stay i) }

-- ---- the legs
same_ssrc : (ls : List LegLine) (old new : LegLine) → Keeps ls old new → new.ssrc ≡ old.ssrc
same_ssrc ls old new k = ap (λ (l : LegLine). l.ssrc) k.same

same_input : (ls : List LegLine) (old new : LegLine) → Keeps ls old new → new.input ≡ old.input
same_input ls old new k = ap (λ (l : LegLine). l.input) k.same

same_output : (ls : List LegLine) (old new : LegLine) → Keeps ls old new → new.output ≡ old.output
same_output ls old new k = ap (λ (l : LegLine). l.output) k.same

leg_keeps : (ls : List LegLine) (old new : LegLine) → Keeps ls old new → IsLeg old → IsLeg new
unfolding NewName
leg_keeps ls old new k leg = record {
  name = elim k.name [ inl same ↦ subst (λ n. IsTrue (is_name n)) (sym same) leg.name | inr p ↦ p.0 ];
  types = subst (λ (l : LegLine). AreTwoTypes l.payload_types) (sym k.same) leg.types;
  generations = subst (λ (l : LegLine). l.generations ≤ MOST_GENERATIONS) (sym k.same) leg.generations;
  stay = k.stay leg.stay;
}

-- two legs that are told apart by their names, the one or the other of which was told so
module _ (ls : List LegLine) (a b new : LegLine) (differ : Differ a b) where
  first_told : Keeps ls a new → (is_free ls new.name ≡ true → b.name ≢ new.name) → Differ new b
  unfolding NewName
  first_told k free = record {
    names = elim k.name [ inl same ↦ (λ e. differ.names (sym same ∙ e)) | inr p ↦ (λ e. free p.1 (sym e)) ];
    ssrcs = λ e. differ.ssrcs (sym (same_ssrc ls a new k) ∙ e);
    outputs = λ e. differ.outputs (sym (same_output ls a new k) ∙ e);
  }

  second_told : Keeps ls b new → (is_free ls new.name ≡ true → a.name ≢ new.name) → Differ a new
  unfolding NewName
  second_told k free = record {
    names = elim k.name [ inl same ↦ (λ e. differ.names (e ∙ same)) | inr p ↦ (λ e. free p.1 e) ];
    ssrcs = λ e. differ.ssrcs (e ∙ same_ssrc ls b new k);
    outputs = λ e. differ.outputs (e ∙ same_output ls b new k);
  }

module _ (wait : ℕ) (said : Said) (k : ℕ) (ls : List LegLine) where
  abbrev change : LegLine → LegLine
  change = told_so wait said ls

  shorter_than : (i : ℕ) → i < length (change_leg change k ls) → i < length ls
  shorter_than i h = subst (λ n. i < n) (length_changed change k ls) h

  keeps_at : (i : ℕ) (d : LegLine) → i < length ls → IsLeg (get_or ls i d) → IsLeg (get_or (change_leg change k ls) i d)
  unfolding IsChanged
  keeps_at i d h leg = elim (at_changed change k ls i d) [
    | inl same ↦ subst IsLeg (sym same) leg
    | inr p ↦ subst IsLeg (sym p.1) (leg_keeps ls (get_or ls i d) (change (get_or ls i d)) (told_keeps wait said ls (get_or ls i d)) leg)
  ]

  differ_at : (i j : ℕ) (d : LegLine) → i < j → j < length ls → Differ (get_or ls i d) (get_or ls j d) → Differ (get_or (change_leg change k ls) i d) (get_or (change_leg change k ls) j d)
  unfolding IsChanged
  differ_at i j d l h differ =
      let a = get_or ls i d in
      let b = get_or ls j d in
      elim (at_changed change k ls i d) [
        | inl same ↦ elim (at_changed change k ls j d) [
          | inl also ↦ subst (λ x. Differ x (get_or (change_leg change k ls) j d)) (sym same) (subst (λ y. Differ a y) (sym also) differ)
          | inr q ↦ subst (λ x. Differ x (get_or (change_leg change k ls) j d)) (sym same) (subst (λ y. Differ a y) (sym q.1)
              (second_told ls a b (change b) differ (told_keeps wait said ls b) (λ free. free_at ls (change b).name free i d (omega arith))))
        ]
        | inr p ↦ elim (at_changed change k ls j d) [
          | inl also ↦ subst (λ x. Differ x (get_or (change_leg change k ls) j d)) (sym p.1) (subst (λ y. Differ (change a) y) (sym also)
              (first_told ls a b (change a) differ (told_keeps wait said ls a) (λ free. free_at ls (change a).name free j d h)))
          | inr q ↦ (let i_is = p.0 in let j_is = q.0 in absurd (omega arith))
        ]
      ]

  legs_keep : AreLegs ls → AreLegs (change_leg change k ls)
  legs_keep legs = record {
    most = let m = legs.most in omega (arith, length_changed change k ls);
    each = λ i d h. keeps_at i d (shorter_than i h) (legs.each i d (shorter_than i h));
    differ = λ i j d l h. differ_at i j d l (shorter_than j h) (legs.differ i j d l (shorter_than j h));
  }

  -- what holds of each leg, and of one that is told so where it held before
  each_keeps : (P : LegLine → Type 0) → ((old new : LegLine) → Keeps ls old new → P old → P new) → All P ls → All P (change_leg change k ls)
  unfolding IsChanged
  each_keeps P keeps all i d h = elim (at_changed change k ls i d) [
    | inl same ↦ subst P (sym same) (all i d (shorter_than i h))
    | inr p ↦ subst P (sym p.1) (keeps (get_or ls i d) (change (get_or ls i d)) (told_keeps wait said ls (get_or ls i d)) (all i d (shorter_than i h)))
  ]

  -- what holds of the SSRC of each leg, and of its input
  ssrcs_keep : (P : ℕ → Type 0) → All (λ leg. P leg.ssrc) ls → All (λ leg. P leg.ssrc) (change_leg change k ls)
  ssrcs_keep P all = each_keeps (λ leg. P leg.ssrc) (λ old new keeps. subst P (sym (same_ssrc ls old new keeps))) all

  inputs_keep : (P : List ℕ → Type 0) → All (λ leg. P leg.input) ls → All (λ leg. P leg.input) (change_leg change k ls)
  inputs_keep P all = each_keeps (λ leg. P leg.input) (λ old new keeps. subst P (sym (same_input ls old new keeps))) all

-- at no moment more legs stay than before
fewer : (change : LegLine → LegLine) (p : LegLine → Bool) → ((l : LegLine) → p (change l) ≡ true → p l ≡ true)
    → (k : ℕ) (ls : List LegLine) → length (filter p (change_leg change k ls)) ≤ length (filter p ls)
fewer change p less k [] = omega arith
fewer change p less zero (l ∷ ls) = go (p (change l)) (p l) (less l)
  where
    go : (a b : Bool) → (a ≡ true → b ≡ true) → length (cond a (change l ∷ filter p ls) (filter p ls)) ≤ length (cond b (l ∷ filter p ls) (filter p ls))
    go false false f = omega arith
    go false true f = omega arith
    go true false f = absurd (true≢false (sym (f refl)))
    go true true f = omega arith
fewer change p less (suc k) (l ∷ ls) = go (p l) (fewer change p less k ls)
  where
    go : (b : Bool) → length (filter p (change_leg change k ls)) ≤ length (filter p ls) → length (cond b (l ∷ filter p (change_leg change k ls)) (filter p (change_leg change k ls))) ≤ length (cond b (l ∷ filter p ls) (filter p ls))
    go false m = m
    go true m = omega arith

room_kept : (wait : ℕ) (said : Said) (k : ℕ) (all ls : List LegLine) → NeverCrowd ls → NeverCrowd (change_leg (told_so wait said all) k ls)
room_kept wait said k all ls room t =
    let p : LegLine → Bool = λ leg. stays_at t leg.stay in
    let change = told_so wait said all in
    let less = fewer change p (λ l e. (told_keeps wait said all l).shorter t e) k ls in
    let before = room t in
    omega (arith, length-filter p (change_leg change k ls), length-filter p ls)

-- ---- all legs that are told
record KeepAll (n : ℕ) (ls : List LegLine) (mixer : ℕ) : Type 0 where
  pub length_is : length ls ≡ n
  pub legs : AreLegs ls
  pub room : NeverCrowd ls
  pub differs : All (λ leg. leg.ssrc ≢ mixer) ls

all_keep : (wait : ℕ) (says : ℕ → Said) (k n mixer : ℕ) (ls : List LegLine) → KeepAll n ls mixer → KeepAll n (told_legs wait says k ls) mixer
all_keep wait says zero n mixer ls keep = keep
all_keep wait says (suc k) n mixer ls keep =
    let before = all_keep wait says k n mixer ls keep in
    let legs = told_legs wait says k ls in
    record {
      length_is = length_changed (told_so wait (says k) legs) k legs ∙ before.length_is;
      legs = legs_keep wait (says k) k legs before.legs;
      room = room_kept wait (says k) k legs legs before.room;
      differs = ssrcs_keep wait (says k) k legs (λ ssrc. ssrc ≢ mixer) before.differs;
    }

inputs_told : (P : List ℕ → Type 0) (wait : ℕ) (says : ℕ → Said) (k : ℕ) (ls : List LegLine) → All (λ leg. P leg.input) ls → All (λ leg. P leg.input) (told_legs wait says k ls)
inputs_told P wait says zero ls all = all
inputs_told P wait says (suc k) ls all = inputs_keep wait (says k) k (told_legs wait says k ls) P (inputs_told P wait says k ls all)

pub named_conference : (says : ℕ → Said) (c : Conference) → IsConference c → IsConference (named_by says c)
named_conference says c keeps =
    let all = all_keep c.wait says (length c.legs) (length c.legs) c.mixer.ssrc c.legs (record { length_is = refl; legs = keeps.legs; room = keeps.room; differs = keeps.mixer.differs }) in
    record {
      two = let two = keeps.two in omega (arith, all.length_is);
      legs = all.legs;
      room = all.room;
      tick = keeps.tick;
      spacing = keeps.spacing;
      wait = keeps.wait;
      turns = keeps.turns;
      relabel = keeps.relabel;
      mtu = keeps.mtu;
      mixer = record { seq = keeps.mixer.seq; differs = all.differs };
      plan = record {
        most = keeps.plan.most;
        terminals = λ i d h. let t = keeps.plan.terminals i d h in omega (arith, all.length_is);
        delays = keeps.plan.delays;
        differ = keeps.plan.differ;
      };
      service = record {
        gone = keeps.service.gone;
        operator = λ o e. let was = keeps.service.operator o e in record {
          at = was.at;
          word = was.word;
          differs = inputs_told (λ input. port input ≢ Some o.port) c.wait says (length c.legs) c.legs was.differs;
        };
        recorded = keeps.service.recorded;
      };
    }

-- ---- what a conference is told
-- it is named so by all that says the same of its legs
pub same_told : (wait : ℕ) (a b : ℕ → Said) (k : ℕ) (ls : List LegLine) → ((i : ℕ) → i < k → a i ≡ b i) → told_legs wait a k ls ≡ told_legs wait b k ls
same_told wait a b zero ls same = refl
same_told wait a b (suc k) ls same =
    let rest = same_told wait a b k ls (λ i less. same i (omega arith)) in
    ap (λ (now : List LegLine). change_leg (told_so wait (a k) now) k now) rest
    ∙ ap (λ (said : Said). change_leg (told_so wait said (told_legs wait b k ls)) k (told_legs wait b k ls)) (same k (omega arith))

pub same_named : (a b : ℕ → Said) (c : Conference) → ((i : ℕ) → i < length c.legs → a i ≡ b i) → named_by a c ≡ named_by b c
same_named a b c same = ap (λ (legs : List LegLine). record c { legs = legs }) (same_told c.wait a b (length c.legs) c.legs same)

pub length_told : (wait : ℕ) (says : ℕ → Said) (k : ℕ) (ls : List LegLine) → length (told_legs wait says k ls) ≡ length ls
length_told wait says zero ls = refl
length_told wait says (suc k) ls = length_changed (told_so wait (says k) (told_legs wait says k ls)) k (told_legs wait says k ls) ∙ length_told wait says k ls

-- what holds of the SSRC of each leg still does
pub ssrcs_told : (P : ℕ → Type 0) (wait : ℕ) (says : ℕ → Said) (k : ℕ) (ls : List LegLine) → All (λ leg. P leg.ssrc) ls → All (λ leg. P leg.ssrc) (told_legs wait says k ls)
ssrcs_told P wait says zero ls all = all
ssrcs_told P wait says (suc k) ls all = ssrcs_keep wait (says k) k (told_legs wait says k ls) P (ssrcs_told P wait says k ls all)

-- ---- what stays of a leg
told_files : (wait : ℕ) (said : Said) (ls : List LegLine) (leg : LegLine) → HasFilesOf leg (told_so wait said ls leg)
told_files wait said ls leg =
    let k = told_keeps wait said ls leg in record { input = ap (λ (l : LegLine). l.input) k.same; output = ap (λ (l : LegLine). l.output) k.same }

pub files_told : (wait : ℕ) (says : ℕ → Said) (k : ℕ) (ls : List LegLine) → HaveFilesOf ls (told_legs wait says k ls)
files_told wait says zero ls = same_files ls
files_told wait says (suc k) ls =
    let now = told_legs wait says k ls in changed_files (told_so wait (says k) now) (told_files wait (says k) now) k ls now (files_told wait says k ls)
