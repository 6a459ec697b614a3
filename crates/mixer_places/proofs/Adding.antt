-- A chunk comes behind the others.
use Rattle.std.proofs.Common.{◌≡◌, ℕ, Bool, true, false, List, [], ◌∷◌, ◌++◌, length, append-nil, append_assoc, refl, ap, sym, ◌∙◌}
use Rattle.std.specs.Prelude.{if◌then◌else◌}
use Rattle.std.proofs.lemmas.Bool.{true≢false}
use Rattle.std.proofs.lemmas.List.{map-append}
use Rattle.stream_spec.specs.Ready.{Chunk}
use Rattle.mixer_spec.specs.Chunks.{joined}
use Rattle.mixer_spec.specs.Table.{Taken, chunks_taken}
use Rattle.mixer_places.specs.declared.parts.Part.{Part}
use Rattle.mixer_places.specs.Rings.{pushed}
use Rattle.mixer_places.specs.Lanes.{Waiting}
use Rattle.mixer_places.specs.SlotStanding.{kept_of, IsPart, SlotHolds}
use Rattle.mixer_places.proofs.Sizes.{same_chunks, joined_taken}
use Rattle.mixer_spec.proofs.Parts.{given_last}
use Rattle.mixer_spec.proofs.Shares.{chunks_append as taken_append}

part_added : (j : ℕ) (l : Bool) (ws : List Chunk) (kept : List Taken) (p : Part) (x : Taken) → IsPart j l ws kept p → x.given j ≡ l
    → IsPart j l (if l then ws ++ x.chunk ∷ [] else ws) (kept ++ x ∷ []) p
part_added j true ws kept p x h g =
    let none : h.behind ≡ [] = h.goes_on refl in
    let all : kept ≡ h.before ++ h.part = h.whole ∙ ap (λ (ys : List Taken). h.before ++ ys) (ap (λ (ys : List Taken). h.part ++ ys) none ∙ append-nil h.part) in
    record {
      before = h.before;
      part = h.part ++ x ∷ [];
      behind = [];
      whole = ap (λ (ys : List Taken). ys ++ x ∷ []) all ∙ (append_assoc h.before h.part (x ∷ []) ∙ ap (λ (ys : List Taken). h.before ++ ys) (sym (append-nil (h.part ++ x ∷ []))));
      waits = taken_append h.part (x ∷ []) ∙ ap (λ (cs : List Chunk). cs ++ x.chunk ∷ []) h.waits;
      all_given = given_last true j h.part x h.all_given g;
      none_behind = tt;
      from = h.from;
      to = h.to;
      goes_on = λ e. refl;
    }
part_added j false ws kept p x h g = record {
  before = h.before;
  part = h.part;
  behind = h.behind ++ x ∷ [];
  whole = ap (λ (ys : List Taken). ys ++ x ∷ []) h.whole ∙ (append_assoc h.before (h.part ++ h.behind) (x ∷ []) ∙ ap (λ (ys : List Taken). h.before ++ ys) (append_assoc h.part h.behind (x ∷ [])));
  waits = h.waits;
  all_given = h.all_given;
  none_behind = given_last false j h.behind x h.none_behind g;
  from = h.from;
  to = h.to;
  goes_on = λ e. absurd (true≢false (sym e));
}

pub added : (w : Waiting) (taken : List Taken) (listens : ℕ → Bool) (waits : ℕ → List Chunk) → SlotHolds w taken listens waits → (c : Chunk) (text : List ℕ) → c.text ≡ text
    → SlotHolds (record { chunks = pushed text w.chunks; parts = w.parts }) (taken ++ record { chunk = c; given = listens } ∷ []) listens (λ j. if listens j then waits j ++ c ∷ [] else waits j)
added w taken listens waits h c text e =
    let x : Taken = record { chunk = c; given = listens } in
    record {
      gone = h.gone;
      kept = h.kept ++ x ∷ [];
      all = ap (λ (xs : List Taken). xs ++ x ∷ []) h.all ∙ append_assoc h.gone h.kept (x ∷ []);
      chunks = ap (pushed text) h.chunks ∙ (ap (λ (l : List ℕ). pushed l (kept_of h.kept)) (sym e)
          ∙ same_chunks (pushed c.text (kept_of h.kept)) (kept_of (h.kept ++ x ∷ []))
          (ap (λ (l : List ℕ). joined (chunks_taken h.kept) ++ l) (sym (append-nil c.text)) ∙ sym (joined_taken h.kept (x ∷ [])))
          (sym (map-append (λ (y : Taken). length y.chunk.text) h.kept (x ∷ []))));
      parts = λ j p g. part_added j (listens j) (waits j) h.kept p x (h.parts j p g) refl;
    }
