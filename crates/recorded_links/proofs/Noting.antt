-- An entry more in a recording.
use Rattle.std.proofs.Common.{◌≡◌, ◌≢◌, ◌<◌, ◌^◌, ℕ, ◌+◌, ◌-◌, Bool, true, false, Option, Some, IsSome, List, [], ◌∷◌, ◌++◌, length, map, take, refl, sym, ap, ◌∙◌, subst, arith, length-append, append_assoc}
use Rattle.std.proofs.lemmas.List.{append-nil, map-append, length-map}
use Rattle.std.proofs.Math.Seq.{take-append-add, take-append_seam as whole}
use Rattle.rtt_io.specs.declared.sinks.Sink as sinks
use Rattle.live_spec.specs.Recorded.{Parts, noted, nothing_noted, has_room, head_written, part_written, record_in, entry_written, with_entry, begun_with}
use Rattle.live_spec.proofs.Growing.{written_more, noted_by}
use Rattle.recorded_links.specs.declared.places.FilePosition.{FilePosition}
use Rattle.recorded_links.specs.Names.{numbered}
use Rattle.recorded_links.specs.Places.{IsPlaceOf, IsAfter, IsBegun, TellsRoom, entry}
use Rattle.recorded_links.specs.Files.{AreUnder, files_written}
use Rattle.recorded_links.specs.Standing.{Keeping, IsWriting, RecorderStandsFor, StillHolds, by_file, with_more, with_next}
use Rattle.recorded_links.proofs.Under.{apart, kept, kept_both, more}
use Rattle.wire_spec.proofs.Plain.{front_of_more as longer}

-- the files that are over
abbrev over_written : ℕ → Parts → List (List ℕ)
over_written start ps = map (part_written start) ps.over

files_are : (start : ℕ) (ps : Parts) → files_written start ps ≡ over_written start ps ++ part_written start ps.last ∷ []
files_are start ps = map-append (part_written start) ps.over (ps.last ∷ [])

over_few : (start : ℕ) (ps : Parts) → length (over_written start ps) ≡ length ps.over
over_few start ps = length-map ps.over (part_written start)

-- ---- what lies there

-- of the last file this is there, and a front of what was pending, or of what was to come behind it
pub left_behind : (stem : List ℕ) (start : ℕ) (before after : List ℕ → Option (List ℕ)) (number : ℕ) (ps : Parts) (took pending behind : List ℕ) (n : ℕ)
    → number ≡ length ps.over + 1 → number < 2 ^ 64
    → took ++ pending ≡ part_written start ps.last
    → AreUnder stem before (over_written start ps)
    → ((m : List ℕ) → m ≢ numbered stem number → after m ≡ before m)
    → after (numbered stem number) ≡ Some (took ++ take n (pending ++ behind))
    → StillHolds stem start after (length pending) ps behind
left_behind stem start before after number ps took pending behind n is small all under others there =
    let fs = over_written start ps in
    let w = part_written start ps.last in
    let few : length fs ≡ length ps.over = over_few start ps in
    let others_kept : AreUnder stem after fs = kept stem before after number 1 fs (omega (arith, few, is)) small others under in
    let at : number ≡ 1 + length fs = omega (arith, few, is) in
    let long : length w ≡ length took + length pending = sym (ap length all) ∙ length-append took pending in
    let front : took ++ take n (pending ++ behind) ≡ take (length took + n) (w ++ behind) =
    sym (take-append-add took (pending ++ behind) n)
    ∙ ap (take (length took + n)) (sym (append_assoc took pending behind) ∙ ap (λ (l : List ℕ). l ++ behind) all) in
    record {
      octets = length took + n;
      few = omega (arith, long);
      under = more stem after number 1 fs (take (length took + n) (w ++ behind)) at others_kept (there ∙ ap Some front);
    }

-- all files lie there
pub all_under : (stem : List ℕ) (start : ℕ) (before after : List ℕ → Option (List ℕ)) (number : ℕ) (ps : Parts)
    → number ≡ length ps.over + 1 → number < 2 ^ 64
    → AreUnder stem before (over_written start ps)
    → ((m : List ℕ) → m ≢ numbered stem number → after m ≡ before m)
    → after (numbered stem number) ≡ Some (part_written start ps.last)
    → AreUnder stem after (files_written start ps)
all_under stem start before after number ps is small under others there =
    let fs = over_written start ps in
    let few : length fs ≡ length ps.over = over_few start ps in
    let others_kept : AreUnder stem after fs = kept stem before after number 1 fs (omega (arith, few, is)) small others under in
    let at : number ≡ 1 + length fs = omega (arith, few, is) in
    subst (λ all. AreUnder stem after all) (sym (files_are start ps)) (more stem after number 1 fs (part_written start ps.last) at others_kept there)

-- then nothing is missing
pub holds_all : (stem : List ℕ) (start : ℕ) (contents : List ℕ → Option (List ℕ)) (missing : ℕ) (ps : Parts) (behind : List ℕ)
    → AreUnder stem contents (files_written start ps) → StillHolds stem start contents missing ps behind
holds_all stem start contents missing ps behind under =
    let w = part_written start ps.last in
    record {
      octets = length w;
      few = omega arith;
      under = subst (λ f. AreUnder stem contents (over_written start ps ++ f ∷ [])) (sym (whole w behind))
          (subst (λ all. AreUnder stem contents all) (files_are start ps) under);
    }

-- ---- what it stands for

module _ {F : Type 0} (g : sinks.Ghosts F) where
  pub is_writing : (contents : List ℕ → Option (List ℕ)) (k : Keeping F) (file : F) (ps : Parts) → k.file ≡ Some file → RecorderStandsFor g contents k ps → IsWriting g contents k file ps
  is_writing contents k file ps is s = subst (λ (o : Option F). by_file g contents k o ps) is s

  -- nothing is pending
  abbrev pub emptied : Keeping F → Keeping F
  emptied k = record { stem = k.stem; start = k.start; number = k.number; place = k.place; file = k.file; pending = [] }

  -- what was pending is in the file
  pub flushed : (contents : List ℕ → Option (List ℕ)) (k : Keeping F) (file written : F) (ps : Parts)
      → (g.tells → g.took written ≡ g.took file ++ k.pending) → IsWriting g contents k file ps → IsWriting g contents (emptied k) written ps
  flushed contents k file written ps took w = record {
    tells = w.tells;
    number = w.number;
    place = w.place;
    over = w.over;
    took = append-nil (g.took written) ∙ (took w.tells ∙ w.took);
    there = w.there;
  }

  -- all of it is
  took_all : (contents : List ℕ → Option (List ℕ)) (k : Keeping F) (file : F) (ps : Parts) → k.pending ≡ [] → IsWriting g contents k file ps → g.took file ≡ part_written k.start ps.last
  took_all contents k file ps empty w = sym (append-nil (g.took file)) ∙ (ap (λ (p : List ℕ). g.took file ++ p) (sym empty) ∙ w.took)

begun_is : (start at : ℕ) (octets : List ℕ) → head_written (start + at) ++ entry_written 0 octets ≡ part_written start (begun_with (entry at octets))
begun_is start at octets =
    let now : 0 ≡ at - at = omega arith in
    ap (λ (t : ℕ). head_written (start + at) ++ entry_written t octets) now
    ∙ ap (λ (r : List ℕ). head_written (start + at) ++ r) (sym (append-nil (entry_written (at - at) octets)))

-- ---- what a recording stands for, call by call

module _ {F : Type 0} (g : sinks.Ghosts F) where
  -- the first file was begun
  pub begun : (contents : List ℕ → Option (List ℕ)) (k : Keeping F) (file : F)
      → g.tells → k.number ≡ 1 → IsBegun 0 k.place → k.pending ≡ [] → g.took file ≡ head_written k.start → IsSome (contents (numbered k.stem k.number))
      → IsWriting g contents k file nothing_noted
  begun contents k file tells number place empty took there = record {
    tells = tells;
    number = number;
    place = place k.start;
    over = tt;
    took = ap (λ (p : List ℕ). g.took file ++ p) empty ∙ (append-nil (g.took file) ∙ (took ∙ (ap head_written (omega arith) ∙ sym (append-nil (head_written (k.start + 0))))));
    there = there;
  }

  -- its last file was handed back
  pub handed_back : (before after : List ℕ → Option (List ℕ)) (k : Keeping F) (file : F) (ps : Parts)
      → k.number < 2 ^ 64 → k.pending ≡ [] → g.name file ≡ numbered k.stem k.number
      → (IsSome (before (g.name file)) → after (g.name file) ≡ Some (g.took file))
      → ((n : List ℕ) → n ≢ g.name file → after n ≡ before n)
      → IsWriting g before k file ps → AreUnder k.stem after (files_written k.start ps)
  handed_back before after k file ps small empty named stored others w =
      all_under k.stem k.start before after k.number ps w.number small w.over
      (λ m apart. others m (λ same. apart (same ∙ named)))
      (ap after (sym named) ∙ (stored (subst (λ n. IsSome (before n)) (sym named) w.there) ∙ ap Some (took_all g before k file ps empty w)))

  -- a record more is pending
  pub added : (contents : List ℕ → Option (List ℕ)) (old new : Keeping F) (file grown : F) (ps : Parts) (at moment : ℕ) (octets : List ℕ)
      → new.stem ≡ old.stem → new.start ≡ old.start → new.number ≡ old.number → IsAfter old.place octets new.place
      → moment ≡ at - old.place.begins
      → (g.tells → g.took grown ++ new.pending ≡ g.took file ++ old.pending ++ entry_written moment octets)
      → IsWriting g contents old file ps → IsWriting g contents new grown (with_more ps (entry at octets))
  added contents old new file grown ps at moment octets stem start number after when took w =
      let begins : moment ≡ at - ps.last.begins = when ∙ ap (λ b. at - b) w.place.begins in
      record {
        tells = w.tells;
        number = number ∙ w.number;
        place = subst (λ s. IsPlaceOf s (with_entry ps.last (entry at octets)) new.place) (sym start) (after old.start at ps.last w.place);
        over = subst (λ s. AreUnder s contents (map (part_written new.start) ps.over)) (sym stem) (subst (λ s. AreUnder old.stem contents (map (part_written s) ps.over)) (sym start) w.over);
        took = took w.tells ∙ (ap (λ l. l ++ entry_written moment octets) w.took
            ∙ (ap (λ m. part_written old.start ps.last ++ entry_written m octets) begins
            ∙ (sym (written_more old.start ps.last (entry at octets)) ∙ ap (λ s. part_written s (with_entry ps.last (entry at octets))) (sym start))));
        there = subst (λ n. IsSome (contents n)) (ap (λ s. numbered s old.number) (sym stem) ∙ ap (λ n. numbered new.stem n) (sym number)) w.there;
      }

  -- its last file broke off, in what was pending or behind it
  pub broke_off : (before after : List ℕ → Option (List ℕ)) (k : Keeping F) (file : F) (ps : Parts) (behind : List ℕ)
      → k.number < 2 ^ 64 → g.name file ≡ numbered k.stem k.number
      → (IsSome (before (g.name file)) → (n : ℕ) × (after (g.name file) ≡ Some (g.took file ++ take n (k.pending ++ behind))))
      → ((n : List ℕ) → n ≢ g.name file → after n ≡ before n)
      → IsWriting g before k file ps → StillHolds k.stem k.start after (length k.pending) ps behind
  broke_off before after k file ps behind small named left others w =
      let l = left (subst (λ n. IsSome (before n)) (sym named) w.there) in
      left_behind k.stem k.start before after k.number ps (g.took file) k.pending behind l.0 w.number small w.took w.over
      (λ m apart. others m (λ same. apart (same ∙ named)))
      (ap after (sym named) ∙ l.1)

  -- the last file lies there, whatever becomes of the next one
  pub next_under : (before after : List ℕ → Option (List ℕ)) (k : Keeping F) (file : F) (ps : Parts) (number : ℕ)
      → number ≡ k.number + 1 → number < 2 ^ 64 → k.pending ≡ [] → g.name file ≡ numbered k.stem k.number
      → (IsSome (before (g.name file)) → g.name file ≢ numbered k.stem number → after (g.name file) ≡ Some (g.took file))
      → ((n : List ℕ) → n ≢ g.name file → n ≢ numbered k.stem number → after n ≡ before n)
      → IsWriting g before k file ps → AreUnder k.stem after (files_written k.start ps)
  next_under before after k file ps number is small empty named stored others w =
      let other : numbered k.stem k.number ≢ numbered k.stem number = apart k.stem k.number number (omega (arith, is, small)) small (λ same. omega (arith, is, same)) in
      let few : length (over_written k.start ps) ≡ length ps.over = over_few k.start ps in
      let over_kept : AreUnder k.stem after (over_written k.start ps) =
      kept_both k.stem before after k.number number 1 (over_written k.start ps) (omega (arith, few, w.number)) (omega (arith, is)) small
      (λ n a b. others n (λ same. a (same ∙ named)) b) w.over in
      let there : after (numbered k.stem k.number) ≡ Some (part_written k.start ps.last) =
      ap after (sym named) ∙ (stored (subst (λ n. IsSome (before n)) (sym named) w.there) (λ same. other (sym named ∙ same)) ∙ ap Some (took_all g before k file ps empty w)) in
      subst (λ all. AreUnder k.stem after all) (sym (files_are k.start ps)) (more k.stem after k.number 1 (over_written k.start ps) (part_written k.start ps.last) (omega (arith, few, w.number)) over_kept there)

  -- and it was begun
  pub goes_on : (before after : List ℕ → Option (List ℕ)) (old new : Keeping F) (file next : F) (ps : Parts) (at : ℕ) (octets : List ℕ) (place : FilePosition)
      → new.stem ≡ old.stem → new.start ≡ old.start → new.number ≡ old.number + 1 → IsBegun at place → IsAfter place octets new.place
      → new.number < 2 ^ 64 → old.pending ≡ [] → g.name file ≡ numbered old.stem old.number
      → (IsSome (before (g.name file)) → g.name file ≢ numbered old.stem new.number → after (g.name file) ≡ Some (g.took file))
      → ((n : List ℕ) → n ≢ g.name file → n ≢ numbered old.stem new.number → after n ≡ before n)
      → g.took next ≡ head_written (old.start + at) → new.pending ≡ entry_written 0 octets
      → IsSome (after (numbered old.stem new.number))
      → IsWriting g before old file ps → IsWriting g after new next (with_next ps (entry at octets))
  goes_on before after old new file next ps at octets place stem start number begins behind small empty named stored others took pending there w =
      let under = next_under before after old file ps new.number number small empty named stored others w in
      record {
        tells = w.tells;
        number = omega (arith, number, w.number, length-append ps.over (ps.last ∷ []));
        place = behind new.start at (record { begins = at; entries = [] }) (begins new.start);
        over = subst (λ s. AreUnder s after (files_written new.start ps)) (sym stem) (subst (λ s. AreUnder old.stem after (files_written s ps)) (sym start) under);
        took = ap (λ (t : List ℕ). t ++ new.pending) took ∙ (ap (λ (p : List ℕ). head_written (old.start + at) ++ p) pending
            ∙ (begun_is old.start at octets ∙ ap (λ s. part_written s (begun_with (entry at octets))) (sym start)));
        there = subst (λ s. IsSome (after (numbered s new.number))) (sym stem) there;
      }

  -- an entry more was noted, in the last file
  pub noted_more : (before after : List ℕ → Option (List ℕ)) (now old new : Keeping F) (file grown : F) (told : Bool) (at moment : ℕ) (octets : List ℕ)
      → old ≡ now → old.file ≡ Some file → TellsRoom old.place at octets told → told ≡ true → after ≡ before
      → new.stem ≡ old.stem → new.start ≡ old.start → new.number ≡ old.number → IsAfter old.place octets new.place
      → moment ≡ at - old.place.begins
      → (g.tells → g.took grown ++ new.pending ≡ g.took file ++ old.pending ++ entry_written moment octets)
      → (ps : Parts) → RecorderStandsFor g before now ps → IsWriting g after new grown (noted now.start ps (entry at octets))
  noted_more before after now old new file grown told at moment octets view is tells room same stem start number behind when took ps stands =
      let w = is_writing g before old file ps is (subst (λ (k : Keeping F). RecorderStandsFor g before k ps) (sym view) stands) in
      let fits : has_room old.start ps.last (entry at octets) ≡ true = sym (tells old.start ps.last w.place) ∙ room in
      let is_more : noted now.start ps (entry at octets) ≡ with_more ps (entry at octets) =
      ap (λ (k : Keeping F). noted k.start ps (entry at octets)) (sym view) ∙ ap (λ b. noted_by b ps (entry at octets)) fits in
      subst (λ n. IsWriting g after new grown n) (sym is_more)
      (subst (λ c. IsWriting g c new grown (with_more ps (entry at octets))) (sym same) (added before old new file grown ps at moment octets stem start number behind when took w))

  -- in the next one, behind a file in which all that was pending was written
  pub noted_next : (before mid after : List ℕ → Option (List ℕ)) (now old new : Keeping F) (file written next : F) (told : Bool) (at : ℕ) (octets : List ℕ) (place : FilePosition)
      → old ≡ now → old.file ≡ Some file → TellsRoom old.place at octets told → told ≡ false → mid ≡ before
      → (g.tells → g.took written ≡ g.took file ++ old.pending)
      → new.stem ≡ old.stem → new.start ≡ old.start → new.number ≡ old.number + 1 → IsBegun at place → IsAfter place octets new.place
      → new.number < 2 ^ 64 → g.name written ≡ numbered old.stem old.number
      → (IsSome (mid (g.name written)) → g.name written ≢ numbered old.stem new.number → after (g.name written) ≡ Some (g.took written))
      → ((n : List ℕ) → n ≢ g.name written → n ≢ numbered old.stem new.number → after n ≡ mid n)
      → g.took next ≡ head_written (old.start + at) → new.pending ≡ entry_written 0 octets
      → IsSome (after (numbered old.stem new.number))
      → (ps : Parts) → RecorderStandsFor g before now ps → IsWriting g after new next (noted now.start ps (entry at octets))
  noted_next before mid after now old new file written next told at octets place view is tells room same wrote stem start number begins behind small named stored others took pending there ps stands =
      let w = is_writing g before old file ps is (subst (λ (k : Keeping F). RecorderStandsFor g before k ps) (sym view) stands) in
      let full : has_room old.start ps.last (entry at octets) ≡ false = sym (tells old.start ps.last w.place) ∙ room in
      let is_next : noted now.start ps (entry at octets) ≡ with_next ps (entry at octets) =
      ap (λ (k : Keeping F). noted k.start ps (entry at octets)) (sym view) ∙ ap (λ b. noted_by b ps (entry at octets)) full in
      let v : IsWriting g mid (emptied g old) written ps = subst (λ c. IsWriting g c (emptied g old) written ps) (sym same) (flushed g before old file written ps wrote w) in
      subst (λ n. IsWriting g after new next n) (sym is_next)
      (goes_on mid after (emptied g old) new written next ps at octets place stem start number begins behind small refl named stored others took pending there v)

  -- nothing more is pending
  pub stays_all : (before after : List ℕ → Option (List ℕ)) (now old new : Keeping F) (file written : F)
      → old ≡ now → old.file ≡ Some file → after ≡ before → new ≡ record { stem = old.stem; start = old.start; number = old.number; place = old.place; file = Some written; pending = [] }
      → (g.tells → g.took written ≡ g.took file ++ old.pending)
      → (ps : Parts) → RecorderStandsFor g before now ps → RecorderStandsFor g after new ps
  stays_all before after now old new file written view is same so wrote ps stands =
      let w = is_writing g before old file ps is (subst (λ (k : Keeping F). RecorderStandsFor g before k ps) (sym view) stands) in
      let v = flushed g before old file written ps wrote w in
      subst (λ (k : Keeping F). RecorderStandsFor g after k ps) (sym so)
      (subst (λ c. RecorderStandsFor g c (record { stem = old.stem; start = old.start; number = old.number; place = old.place; file = Some written; pending = [] }) ps) (sym same)
      (record { tells = v.tells; number = v.number; place = v.place; over = v.over; took = v.took; there = v.there }))

  -- ---- where it ended

  -- in what was pending, or in what was to come behind it
  pub left_more : (before after : List ℕ → Option (List ℕ)) (now old : Keeping F) (file : F) (at moment : ℕ) (octets : List ℕ)
      → old ≡ now → old.file ≡ Some file → old.number < 2 ^ 64 → g.name file ≡ numbered old.stem old.number
      → moment ≡ at - old.place.begins
      → (g.tells → IsSome (before (g.name file)) → (n : ℕ) × (after (g.name file) ≡ Some (g.took file ++ take n (old.pending ++ entry_written moment octets))))
      → ((n : List ℕ) → n ≢ g.name file → after n ≡ before n)
      → (ps : Parts) → RecorderStandsFor g before now ps → StillHolds now.stem now.start after (length now.pending) ps (record_in ps.last.begins (entry at octets))
  left_more before after now old file at moment octets view is small named when left others ps stands =
      let w = is_writing g before old file ps is (subst (λ (k : Keeping F). RecorderStandsFor g before k ps) (sym view) stands) in
      let begins : moment ≡ at - ps.last.begins = when ∙ ap (λ b. at - b) w.place.begins in
      subst (λ (k : Keeping F). StillHolds k.stem k.start after (length k.pending) ps (record_in ps.last.begins (entry at octets))) view
      (subst (λ m. StillHolds old.stem old.start after (length old.pending) ps (entry_written m octets)) begins
      (broke_off before after old file ps (entry_written moment octets) small named (left w.tells) others w))

  -- in what was pending
  pub left_pending : (before after : List ℕ → Option (List ℕ)) (now old : Keeping F) (file : F) (behind : Parts → List ℕ)
      → old ≡ now → old.file ≡ Some file → old.number < 2 ^ 64 → g.name file ≡ numbered old.stem old.number
      → (g.tells → IsSome (before (g.name file)) → (n : ℕ) × (after (g.name file) ≡ Some (g.took file ++ take n old.pending)))
      → ((n : List ℕ) → n ≢ g.name file → after n ≡ before n)
      → (ps : Parts) → RecorderStandsFor g before now ps → StillHolds now.stem now.start after (length now.pending) ps (behind ps)
  left_pending before after now old file behind view is small named left others ps stands =
      let w = is_writing g before old file ps is (subst (λ (k : Keeping F). RecorderStandsFor g before k ps) (sym view) stands) in
      subst (λ (k : Keeping F). StillHolds k.stem k.start after (length k.pending) ps (behind ps)) view
      (broke_off before after old file ps (behind ps) small named
      (λ there. let l = left w.tells there in
      let m = longer l.0 old.pending (behind ps) in
      (m.0, l.1 ∙ ap (λ (f : List ℕ). Some (g.took file ++ f)) m.1)) others w)

  -- behind all of it
  pub left_done : (before mid after : List ℕ → Option (List ℕ)) (now old : Keeping F) (file written : F) (behind : Parts → List ℕ)
      → old ≡ now → old.file ≡ Some file → old.number < 2 ^ 64 → mid ≡ before
      → (g.tells → g.took written ≡ g.took file ++ old.pending) → g.name written ≡ numbered old.stem old.number
      → (IsSome (mid (g.name written)) → after (g.name written) ≡ Some (g.took written))
      → ((n : List ℕ) → n ≢ g.name written → after n ≡ mid n)
      → (ps : Parts) → RecorderStandsFor g before now ps → StillHolds now.stem now.start after (length now.pending) ps (behind ps)
  left_done before mid after now old file written behind view is small same wrote named stored others ps stands =
      let w = is_writing g before old file ps is (subst (λ (k : Keeping F). RecorderStandsFor g before k ps) (sym view) stands) in
      let v : IsWriting g mid (emptied g old) written ps = subst (λ c. IsWriting g c (emptied g old) written ps) (sym same) (flushed g before old file written ps wrote w) in
      subst (λ (k : Keeping F). StillHolds k.stem k.start after (length k.pending) ps (behind ps)) view
      (holds_all old.stem old.start after (length old.pending) ps (behind ps) (handed_back mid after (emptied g old) written ps small refl named stored others v))

  -- the same, where it is all that is known
  pub all_lies : (before mid after : List ℕ → Option (List ℕ)) (now old : Keeping F) (file written : F)
      → old ≡ now → old.file ≡ Some file → old.number < 2 ^ 64 → mid ≡ before
      → (g.tells → g.took written ≡ g.took file ++ old.pending) → g.name written ≡ numbered old.stem old.number
      → (IsSome (mid (g.name written)) → after (g.name written) ≡ Some (g.took written))
      → ((n : List ℕ) → n ≢ g.name written → after n ≡ mid n)
      → (ps : Parts) → RecorderStandsFor g before now ps → AreUnder now.stem after (files_written now.start ps)
  all_lies before mid after now old file written view is small same wrote named stored others ps stands =
      let w = is_writing g before old file ps is (subst (λ (k : Keeping F). RecorderStandsFor g before k ps) (sym view) stands) in
      let v : IsWriting g mid (emptied g old) written ps = subst (λ c. IsWriting g c (emptied g old) written ps) (sym same) (flushed g before old file written ps wrote w) in
      subst (λ (k : Keeping F). AreUnder k.stem after (files_written k.start ps)) view
      (handed_back mid after (emptied g old) written ps small refl named stored others v)

  -- and before the next file
  pub left_next : (before mid after : List ℕ → Option (List ℕ)) (now old : Keeping F) (file written : F) (number : ℕ) (behind : Parts → List ℕ)
      → old ≡ now → old.file ≡ Some file → number ≡ old.number + 1 → number < 2 ^ 64 → mid ≡ before
      → (g.tells → g.took written ≡ g.took file ++ old.pending) → g.name written ≡ numbered old.stem old.number
      → (IsSome (mid (g.name written)) → g.name written ≢ numbered old.stem number → after (g.name written) ≡ Some (g.took written))
      → ((n : List ℕ) → n ≢ g.name written → n ≢ numbered old.stem number → after n ≡ mid n)
      → (ps : Parts) → RecorderStandsFor g before now ps → StillHolds now.stem now.start after (length now.pending) ps (behind ps)
  left_next before mid after now old file written number behind view is next small same wrote named stored others ps stands =
      let w = is_writing g before old file ps is (subst (λ (k : Keeping F). RecorderStandsFor g before k ps) (sym view) stands) in
      let v : IsWriting g mid (emptied g old) written ps = subst (λ c. IsWriting g c (emptied g old) written ps) (sym same) (flushed g before old file written ps wrote w) in
      subst (λ (k : Keeping F). StillHolds k.stem k.start after (length k.pending) ps (behind ps)) view
      (holds_all old.stem old.start after (length old.pending) ps (behind ps) (next_under mid after (emptied g old) written ps number next small refl named stored others v))

  -- ---- names of others

  -- one name of its own
  pub touches : (before after : List ℕ → Option (List ℕ)) (now old : Keeping F) (name : List ℕ)
      → old ≡ now → name ≡ numbered old.stem old.number
      → ((n : List ℕ) → n ≢ name → after n ≡ before n)
      → (n : List ℕ) → ((k : ℕ) → n ≢ numbered now.stem k) → after n ≡ before n
  touches before after now old name view named others n other =
      others n (λ same. other old.number (same ∙ (named ∙ ap (λ (k : Keeping F). numbered k.stem old.number) view)))

  -- two of them
  pub touches_both : (before mid after : List ℕ → Option (List ℕ)) (now old : Keeping F) (name : List ℕ) (number : ℕ)
      → old ≡ now → mid ≡ before → name ≡ numbered old.stem old.number
      → ((n : List ℕ) → n ≢ name → n ≢ numbered old.stem number → after n ≡ mid n)
      → (n : List ℕ) → ((k : ℕ) → n ≢ numbered now.stem k) → after n ≡ before n
  touches_both before mid after now old name number view same named others n other =
      others n (λ e. other old.number (e ∙ (named ∙ ap (λ (k : Keeping F). numbered k.stem old.number) view))) (λ e. other number (e ∙ ap (λ (k : Keeping F). numbered k.stem number) view))
      ∙ ap (λ (c : List ℕ → Option (List ℕ)). c n) same
