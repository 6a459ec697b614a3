-- A recording whose records are taken one after another.
use Rattle.std.proofs.Common.{◌≡◌, ℕ, ◌+◌, ◌≤◌, Bool, true, false, cond, List, [], ◌∷◌, ◌++◌, length, refl, ap, sym, ◌∙◌, arith, append_assoc, append-nil}
use Rattle.std.specs.Prelude.{None, Some, not, ◌&&◌}
use Rattle.std.proofs.lemmas.Bool.{true≢false}
use Rattle.wire_spec.specs.declared.faults.DumpKind.{DumpKind}
use Rattle.wire_spec.specs.declared.faults.DumpKind.TheVariants as kinds
use Rattle.wire_spec.specs.Dump.{Item, Recording, with_item}
use Rattle.rtpdump_io.specs.declared.readers.DumpReader.{DumpReader}
use Rattle.rtpdump_io.specs.Reading.{Breaks, broken, nothing, is_of_source, is_ended, most_answers, source_of, to_come}
use Rattle.rtt_show.specs.declared.findings.Findings.{Findings}
use Rattle.rtpdump_io.specs.declared.items.DumpFault.{DumpFault}
use Rattle.rtpdump_io.specs.declared.items.RecordingFault.TheVariants.{Dump}
use Rattle.command_spec.specs.Showing.{is_no_recording, if_no_recording}
use Rattle.rtt_show.specs.Finds.{IsFound, IsSmall}
use Rattle.rtt_show.specs.Gathers.{Gathered, RecordingIsRefused}
use Rattle.rtt_show.specs.Whole.{ends}

-- these records came, and of the recording the rest is still to come, where this tells it
pub record Going {S : Type 0} (tells : Type 0) (left : S → List ℕ) (faults : S → ℕ) (name : S → List ℕ) (before : DumpReader S) (old : Findings) (now : DumpReader S) (new : Findings) : Type 0 where
  pub items : List Item
  pub not_ended : is_ended now ≡ false
  pub payload_types : new.payload_types ≡ old.payload_types
  pub is_found : IsFound new items
  pub small : IsSmall (length items) new
  pub few : length items + most_answers now ≤ 4194306
  pub never_falls : faults (source_of before) ≤ faults (source_of now)
  pub same_name : name (source_of now) ≡ name (source_of before)
  pub is : tells → to_come left before ≡ record { items = items ++ (to_come left now).items; fault = (to_come left now).fault }

pub one_more : (tells : Type 0) (before now next : Recording) (items : List Item) (item : Item) → (tells → before ≡ record { items = items ++ now.items; fault = now.fault }) → (tells → now ≡ with_item item next)
    → tells → before ≡ record { items = (items ++ item ∷ []) ++ next.items; fault = next.fault }
one_more tells before now next items item h e t =
    h t ∙ (ap (λ (r : Recording). record { items = items ++ r.items; fault = r.fault }) (e t) ∙ ap (λ (xs : List Item). record { items = xs; fault = next.fault }) (sym (append_assoc items (item ∷ []) next.items)))

-- a fault ends the rest
broken_is : (kind : DumpKind) (byte : ℕ) (now : Recording) → is_of_source kind ≡ false → Breaks kind byte now → now ≡ broken byte kind
broken_is kinds.Read byte now n b = absurd (true≢false n)
broken_is kinds.NotDump byte now n b = b
broken_is kinds.BadLength byte now n b = b
broken_is kinds.EndsInside byte now n b = b
broken_is kinds.TooLong byte now n b = b
broken_is kinds.TooLarge byte now n b = b

both_not : (a b : Bool) → (not a && not b) ≡ true → (a ≡ false) × (b ≡ false)
both_not true b e = absurd (true≢false (sym e))
both_not false true e = absurd (true≢false (sym e))
both_not false false e = (refl, refl)

not_both : (a b : Bool) → (not a && not b) ≡ false → a ≡ false → b ≡ true
not_both true b e n = absurd (true≢false n)
not_both false true e n = refl
not_both false false e n = absurd (true≢false e)

module _ {S : Type 0} (tells : Type 0) (left : S → List ℕ) (faults : S → ℕ) (name : S → List ℕ) where
  pub gathered_whole : (before now : DumpReader S) (old new : Findings) → Going tells left faults name before old now new → (tells → to_come left now ≡ nothing) → Gathered tells (to_come left before) new None
  gathered_whole before now old new i e = record {
    items = i.items;
    is_found = i.is_found;
    small = i.small;
    few = omega (arith, i.few);
    is = λ t. i.is t ∙ (ap (λ (r : Recording). record { items = i.items ++ r.items; fault = r.fault }) (e t) ∙ ap (λ (xs : List Item). record { items = xs; fault = None }) (append-nil i.items));
    accepted = refl;
  }

  pub gathered_front : (before now : DumpReader S) (old new : Findings) (fault : DumpFault) → Going tells left faults name before old now new → (not (is_of_source fault.kind) && not (is_no_recording fault.kind)) ≡ true → (tells → Breaks fault.kind fault.offset (to_come left now))
      → Gathered tells (to_come left before) new (Some fault)
  gathered_front before now old new fault i k b =
      let two = both_not (is_of_source fault.kind) (is_no_recording fault.kind) k in
      record {
        items = i.items;
        is_found = i.is_found;
        small = i.small;
        few = omega (arith, i.few);
        is = λ t. i.is t ∙ (ap (λ (r : Recording). record { items = i.items ++ r.items; fault = r.fault }) (broken_is fault.kind fault.offset (to_come left now) two.0 (b t)) ∙ ap (λ (xs : List Item). record { items = xs; fault = ends (Some fault) }) (append-nil i.items));
        accepted = ap (λ c. cond c (ends (Some fault)) None) two.1;
      }

  pub refused_there : (before now : DumpReader S) (old new : Findings) (fault : DumpFault) → Going tells left faults name before old now new → (not (is_of_source fault.kind) && not (is_no_recording fault.kind)) ≡ false → (tells → Breaks fault.kind fault.offset (to_come left now))
      → tells → RecordingIsRefused (to_come left before) (Dump fault)
  refused_there before now old new fault i k b t n =
      ap (λ (r : Recording). if_no_recording r.fault) (i.is t ∙ ap (λ (r : Recording). record { items = i.items ++ r.items; fault = r.fault }) (broken_is fault.kind fault.offset (to_come left now) n (b t)))
      ∙ ap (λ c. cond c (ends (Some fault)) None) (not_both (is_of_source fault.kind) (is_no_recording fault.kind) k n)
