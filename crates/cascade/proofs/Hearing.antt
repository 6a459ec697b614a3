-- A divider that is told of the records of a recording, one after another.
use Rattle.std.proofs.Common.{ℕ, ◌≤◌, List, [], ◌∷◌, ◌++◌, length, sym, subst}
use Rattle.wire_spec.specs.Dump.{Item, arrivals_after}
use Rattle.reorder_buffer.specs.States.{arrival_count}
use Rattle.rtpdump_io.specs.declared.readers.DumpReader.{DumpReader}
use Rattle.rtpdump_io.proofs.Records.{ReadSome}
use Rattle.cascade.specs.declared.dividers.Demux.{Demux}
use Rattle.cascade.specs.Dividers.{IsListening, Listens}
use Rattle.cascade.specs.Splits.{TakesItem, TakesItems}
use Rattle.wire_spec.proofs.Plain.{arrivals_more as after_more}

-- one record more
pub takes_more : (l m n : Demux) (items : List Item) (item : Item) → TakesItems l m items → TakesItem m n item → TakesItems l n (items ++ item ∷ [])
takes_more l m n items item h one t sources past is =
    subst (Listens n t sources) (sym (after_more t.ssrc t.payload_types past items item)) (one t sources (arrivals_after t.ssrc t.payload_types past items) (h t sources past is))

-- what holds of the reader and the divider between two records
pub record Going {S : Type 0} (tells : Type 0) (left : S → List ℕ) (faults : S → ℕ) (name : S → List ℕ) (before : DumpReader S) (l : Demux) (now : DumpReader S) (m : Demux) : Type 0 where
  pub items : List Item
  pub read : ReadSome tells left faults name before now items
  pub listens : IsListening m
  pub few : arrival_count m.buffer ≤ length items
  pub hears : TakesItems l m items
