-- A recording whose records are listed one after another.
use Rattle.std.proofs.Common.{◌≡◌, ◌≤◌, ℕ, List, [], ◌∷◌, ◌++◌, ap, sym, ◌∙◌, length, flat_map, append_assoc, append-nil}
use Rattle.std.proofs.lemmas.Grind.{flat_map-append}
use Rattle.rtt_base.specs.declared.text_packets.PayloadTypes.{PayloadTypes}
use Rattle.wire_spec.specs.Dump.{Item}
use Rattle.rtpdump_io.specs.declared.readers.DumpReader.{DumpReader}
use Rattle.rtpdump_io.proofs.Records.{ReadSome}
use Rattle.command_spec.specs.Listing.{record_line}

-- one more record
pub one_listed : (payload_types : PayloadTypes) (old out new : List ℕ) (items : List Item) (item : Item) → out ≡ old ++ flat_map (record_line payload_types) items → new ≡ out ++ record_line payload_types item
    → new ≡ old ++ flat_map (record_line payload_types) (items ++ item ∷ [])
one_listed payload_types old out new items item so line =
    line
    ∙ (ap (λ (o : List ℕ). o ++ record_line payload_types item) so
    ∙ (append_assoc old (flat_map (record_line payload_types) items) (record_line payload_types item)
    ∙ ap (λ (o : List ℕ). old ++ o) (ap (λ (o : List ℕ). flat_map (record_line payload_types) items ++ o) (sym (append-nil (record_line payload_types item))) ∙ sym (flat_map-append (record_line payload_types) items (item ∷ [])))))

-- what holds of the reader and the lines between two records
pub record Going {S : Type 0} (tells : Type 0) (left : S → List ℕ) (faults : S → ℕ) (name : S → List ℕ) (payload_types : PayloadTypes) (before : DumpReader S) (old : List ℕ) (now : DumpReader S) (new : List ℕ) (records : ℕ) (kept : PayloadTypes) : Type 0 where
  pub items : List Item
  pub read : ReadSome tells left faults name before now items
  pub same_payload_types : kept ≡ payload_types
  pub records_are : records ≡ length items
  pub few : records ≤ 4194306
  pub lines : new ≡ old ++ flat_map (record_line payload_types) items
