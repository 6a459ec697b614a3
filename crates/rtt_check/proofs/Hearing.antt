-- A recording in which the packets of a leg are looked for.
use Rattle.std.proofs.Common.{◌≡◌, ◌≤◌, ℕ, Bool, true, false, ◌||◌, List, [], ◌∷◌, ◌++◌, Option, Some, None, refl, ap, sym, ◌∙◌}
use Rattle.std.specs.List.{list_any}
use Rattle.wire_spec.specs.Dump.{Item}
use Rattle.file_spec.specs.declared.conference_lines.LegLine.{LegLine}
use Rattle.rtpdump_io.specs.declared.readers.DumpReader.{DumpReader}
use Rattle.rtpdump_io.proofs.Records.{ReadSome}
use Rattle.report_spec.specs.declared.streams.Stream.{Stream}
use Rattle.report_spec.specs.Inputs.{first_stream, is_of_leg, or_later, stream_of}
use Rattle.std.proofs.Math.Bool.{or-false as or_none}

or_right : (a b c : Bool) → (a || (b || c)) ≡ ((a || b) || c)
or_right true b c = refl
or_right false b c = refl

pub any_push : (p : Item → Bool) (items : List Item) (item : Item) → list_any p (items ++ item ∷ []) ≡ (list_any p items || p item)
any_push p [] item = or_none (p item)
any_push p (first ∷ more) item = ap (λ b. p first || b) (any_push p more item) ∙ or_right (p first) (list_any p more) (p item)

later_right : (a b c : Option Stream) → or_later a (or_later b c) ≡ or_later (or_later a b) c
later_right None b c = refl
later_right (Some s) b c = refl

later_none : (a : Option Stream) → or_later a None ≡ a
later_none None = refl
later_none (Some s) = refl

pub first_push : (items : List Item) (item : Item) → first_stream (items ++ item ∷ []) ≡ or_later (first_stream items) (stream_of item.what)
first_push [] item = later_none (stream_of item.what)
first_push (first ∷ more) item =
    ap (or_later (stream_of first.what)) (first_push more item) ∙ later_right (stream_of first.what) (first_stream more) (stream_of item.what)

-- what holds of the reader and of what was heard between two records
pub record Going {S : Type 0} (tells : Type 0) (left : S → List ℕ) (faults : S → ℕ) (name : S → List ℕ) (leg : LegLine) (before now : DumpReader S) (heard : Bool) (first : Option Stream) : Type 0 where
  pub items : List Item
  pub read : ReadSome tells left faults name before now items
  pub heard_is : heard ≡ list_any (is_of_leg leg) items
  pub first_is : first ≡ first_stream items
