-- The files of a recording, entry by entry.
use Rattle.std.proofs.Common.{◌≡◌, ℕ, ◌+◌, ◌≤◌, Bool, true, false, cond, List, [], ◌∷◌, ◌++◌, length, refl, ap, sym, ◌∙◌, arith, append_assoc, length-append}
use Rattle.std.specs.Prelude.{reverse}
use Rattle.std.specs.List.{flat_map, AllByRecursion}
use Rattle.std.proofs.lemmas.Bool.{and_parts, leb-true}
use Rattle.std.proofs.lemmas.List.{append-nil, reverse-append}
use Rattle.std.proofs.lemmas.Grind.{flat_map-append}
use Rattle.wire_spec.specs.declared.limits.TheConstants.{MOST_RECORDING_OCTETS}
use Rattle.live_spec.specs.Recorded.{Entry, Part, Parts, head_written, record_in, part_written, has_room, all_parts, with_entry, begun_with, noted, recorded}
use Rattle.live_spec.specs.Laws.{IsShort, IsEarly, IsWhole}
use Rattle.live_spec.proofs.Heads.{started}
use Rattle.live_spec.proofs.Reading.{record_size, head_size, file_read}
use Rattle.command_spec.proofs.SentBack.{all_push}

-- ---- lists
pub all_map : {X : Type 0} (P Q : X → Type 0) (f : (x : X) → P x → Q x) (xs : List X) → AllByRecursion P xs → AllByRecursion Q xs
all_map P Q f [] a = tt
all_map P Q f (x ∷ xs) a = (f x a.0, all_map P Q f xs a.1)

-- ---- one file

-- one entry more is one record more
pub written_more : (start : ℕ) (p : Part) (e : Entry) → part_written start (with_entry p e) ≡ part_written start p ++ record_in p.begins e
written_more start p e =
    let f = record_in p.begins in
    ap (λ (xs : List ℕ). head_written (start + p.begins) ++ xs) (flat_map-append f p.entries (e ∷ []) ∙ ap (λ (xs : List ℕ). flat_map f p.entries ++ xs) (append-nil (f e)))
    ∙ sym (append_assoc (head_written (start + p.begins)) (flat_map f p.entries) (f e))

pub grown : (start : ℕ) (p : Part) (e : Entry) → length (part_written start (with_entry p e)) ≡ length (part_written start p) + (8 + length e.octets)
grown start p e = ap length (written_more start p e) ∙ omega (arith, length-append (part_written start p) (record_in p.begins e), record_size p.begins e)

pub begun_size : (start : ℕ) (e : Entry) → length (part_written start (begun_with e)) ≡ 52 + length e.octets
begun_size start e = head_size start (begun_with e) ∙ omega (arith, ap length (append-nil (record_in e.at e)), record_size e.at e)

pub record IsGood (start : ℕ) (p : Part) : Type 0 where
  pub short : AllByRecursion IsShort p.entries
  pub early : AllByRecursion (IsEarly p.begins) p.entries
  pub small : length (part_written start p) ≤ MOST_RECORDING_OCTETS

-- what room says
pub record HasRoom (start : ℕ) (p : Part) (e : Entry) : Type 0 where
  pub small : length (part_written start p) + (8 + length e.octets) ≤ MOST_RECORDING_OCTETS
  pub early : IsEarly p.begins e

pub room_is : (start : ℕ) (p : Part) (e : Entry) → has_room start p e ≡ true → HasRoom start p e
room_is start p e h =
    let parts = and_parts _ _ h in
    record { small = leb-true _ _ parts.0; early = leb-true _ _ parts.1 }

pub good_more : (start : ℕ) (p : Part) (e : Entry) → IsGood start p → IsShort e → HasRoom start p e → IsGood start (with_entry p e)
good_more start p e g short room = record {
  short = all_push IsShort p.entries e g.short short;
  early = all_push (IsEarly p.begins) p.entries e g.early room.early;
  small = omega (arith, grown start p e, room.small);
}

pub good_begun : (start : ℕ) (e : Entry) → IsShort e → IsGood start (begun_with e)
good_begun start e short = record {
  short = (short, tt);
  early = (omega arith, tt);
  small = omega (arith, begun_size start e, short);
}

-- ---- all files

-- one entry more, in the last file or in the next one
abbrev pub noted_by : Bool → Parts → Entry → Parts
noted_by b ps e = cond b (record { over = ps.over; last = with_entry ps.last e }) (record { over = ps.over ++ ps.last ∷ []; last = begun_with e })

pub record AreGood (start : ℕ) (ps : Parts) : Type 0 where
  pub over : AllByRecursion (IsGood start) ps.over
  pub last : IsGood start ps.last

pub noted_good : (start : ℕ) (ps : Parts) (e : Entry) → AreGood start ps → IsShort e → AreGood start (noted start ps e)
noted_good start ps e g short = go (has_room start ps.last e) refl
  where
    go : (b : Bool) → has_room start ps.last e ≡ b → AreGood start (noted_by b ps e)
    go true h = record { over = g.over; last = good_more start ps.last e g.last short (room_is start ps.last e h) }
    go false h = record { over = all_push (IsGood start) ps.over ps.last g.over g.last; last = good_begun start e short }

pub recorded_good : (start : ℕ) (past : List Entry) → AllByRecursion IsShort past → AreGood start (recorded start past)
recorded_good start [] a = record { over = tt; last = record { short = tt; early = tt; small = omega arith } }
recorded_good start (e ∷ past) a = noted_good start (recorded start past) e (recorded_good start past a.1) a.0

pub is_whole : (start : ℕ) (p : Part) → IsGood start p → IsWhole start p
is_whole start p g = record {
  small = g.small;
  early = g.early;
  read = file_read start p g.short g.early g.small;
  begins_at = λ small. started (start + p.begins) (flat_map (record_in p.begins) p.entries) small;
}

pub files_good : (start : ℕ) (past : List Entry) → AllByRecursion IsShort past → AllByRecursion (IsGood start) (all_parts (recorded start past))
files_good start past a =
    let g = recorded_good start past a in
    all_push (IsGood start) (recorded start past).over (recorded start past).last g.over g.last

pub files_whole : (start : ℕ) (past : List Entry) → AllByRecursion IsShort past → AllByRecursion (IsWhole start) (all_parts (recorded start past))
files_whole start past a = all_map (IsGood start) (IsWhole start) (is_whole start) (all_parts (recorded start past)) (files_good start past a)

-- ---- nothing is lost

abbrev entries_of : List Part → List Entry
entries_of ps = flat_map (λ (p : Part). p.entries) ps

entries_push : (ps : List Part) (p : Part) → entries_of (ps ++ p ∷ []) ≡ entries_of ps ++ p.entries
entries_push ps p = flat_map-append (λ (q : Part). q.entries) ps (p ∷ []) ∙ ap (λ (es : List Entry). entries_of ps ++ es) (append-nil p.entries)

entries_noted : (start : ℕ) (ps : Parts) (e : Entry) → entries_of (all_parts (noted start ps e)) ≡ entries_of (all_parts ps) ++ e ∷ []
entries_noted start ps e = go (has_room start ps.last e)
  where
    go : (b : Bool) → entries_of (all_parts (noted_by b ps e)) ≡ entries_of (all_parts ps) ++ e ∷ []
    go true =
        entries_push ps.over (with_entry ps.last e)
        ∙ sym (append_assoc (entries_of ps.over) ps.last.entries (e ∷ []))
        ∙ ap (λ (es : List Entry). es ++ e ∷ []) (sym (entries_push ps.over ps.last))
    go false = entries_push (ps.over ++ ps.last ∷ []) (begun_with e)

pub all_there : (start : ℕ) (past : List Entry) → entries_of (all_parts (recorded start past)) ≡ reverse past
all_there start [] = refl
all_there start (e ∷ past) =
    entries_noted start (recorded start past) e ∙ ap (λ (es : List Entry). es ++ e ∷ []) (all_there start past) ∙ sym (reverse-append (e ∷ []) past)
