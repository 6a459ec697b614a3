-- What a leg gave (profile).
use Rattle.std.specs.Prelude.{◌≡◌, ℕ, Bool, true, false, Option, None, Some, List, [], ◌∷◌, ◌++◌, IsUtf8}
use Rattle.wire_spec.specs.Packets.{has_text}
use Rattle.stream_spec.specs.Ready.{Chunk}
use Rattle.mix_loop.specs.declared.items.Item.{Item}
use Rattle.mix_loop.specs.declared.items.Item.TheVariants as item
use Rattle.mix_loop.specs.declared.items.TextsEnd.{TextsEnd}
use Rattle.mix_loop.specs.declared.items.TextsEnd.TheVariants.{Open, AtEnd, AtFault}

-- these chunks, oldest first, and how they ended
pub record Gave (F : Type 0) : Type 0 where
  pub chunks : List Chunk
  pub ended : TextsEnd F

-- a chunk has a text
pub record IsSaid (c : Chunk) : Type 0 where
  pub text : has_text c.text ≡ true
  pub utf8 : IsUtf8 c.text

-- a chunk of the leg with this number has a text
pub record IsOf (leg : ℕ) (c : Chunk) : Type 0 where
  pub source : c.source ≡ leg
  pub text : has_text c.text ≡ true
  pub utf8 : IsUtf8 c.text

module _ {F : Type 0} where
  abbrev pub nothing : Gave F
  nothing = record { chunks = []; ended = Open }

  -- with one more answer, beside which this chunk was handed out
  abbrev pub gave_more : Item F → Chunk → Gave F → Gave F
  gave_more item.Chunk c g = record { chunks = g.chunks ++ c ∷ []; ended = g.ended }
  gave_more item.Later c g = g
  gave_more item.End c g = record { chunks = g.chunks; ended = AtEnd }
  gave_more (item.Fault fault) c g = record { chunks = g.chunks; ended = AtFault fault }

  -- whatever was given from some inlet on, this is one more answer
  abbrev pub Gives : {I : Type 0} → (I → I → Gave F → Type 0) → I → I → Item F → Chunk → Type 0
  Gives {I} stands old new item c = (first : I) (gave : Gave F) → stands first old gave
      → stands first new (gave_more item c gave)

  -- more may come behind this answer
  abbrev pub goes_on : Item F → Bool
  goes_on item.Chunk = true
  goes_on item.Later = true
  goes_on _ = false

  abbrev pub is_chunk : Item F → Bool
  is_chunk item.Chunk = true
  is_chunk _ = false

  abbrev pub ended_by : Item F → TextsEnd F
  ended_by item.Chunk = Open
  ended_by item.Later = Open
  ended_by item.End = AtEnd
  ended_by (item.Fault fault) = AtFault fault

  abbrev pub is_open : TextsEnd F → Bool
  is_open Open = true
  is_open AtEnd = false
  is_open (AtFault fault) = false

  abbrev pub is_fault : TextsEnd F → Bool
  is_fault Open = false
  is_fault AtEnd = false
  is_fault (AtFault fault) = true

  abbrev pub fault_in : TextsEnd F → Option F
  fault_in Open = None
  fault_in AtEnd = None
  fault_in (AtFault fault) = Some fault
