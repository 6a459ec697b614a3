-- What a leg gave, by its answers.
use Rattle.std.specs.Prelude.{◌≡◌, Bool, true, false, List, [], ◌∷◌}
use Rattle.stream_spec.specs.Ready.{Chunk, chunk_of}
use Rattle.mix_loop.specs.declared.answers.Answer.{Answer}
use Rattle.mix_loop.specs.declared.items.Item.{Item}
use Rattle.mix_loop.specs.declared.items.Item.TheVariants as item
use Rattle.mix_loop.specs.Items.{Gave, gave_more, goes_on, nothing}

module _ {F : Type 0} where
  -- nothing is there yet
  abbrev pub is_later : Item F → Bool
  is_later item.Later = true
  is_later _ = false

  -- the text that lies beside an answer
  abbrev pub said_in : Answer F → Chunk
  said_in a = chunk_of a.chunk.value

  abbrev pub gave_from : Gave F → List (Answer F) → Gave F
  gave_from g [] = g
  gave_from g (a ∷ rest) = gave_from (gave_more a.item (said_in a) g) rest

  -- what was given by these answers, oldest first
  abbrev pub gave_of : List (Answer F) → Gave F
  gave_of answers = gave_from nothing answers

  -- nothing comes behind an answer that is the last
  abbrev pub EndsOnce : List (Answer F) → Type 0
  EndsOnce [] = Unit {0}
  EndsOnce (a ∷ rest) = (goes_on a.item ≡ false → rest ≡ []) × EndsOnce rest

module _ {I F : Type 0} where
  -- whatever was given from some inlet on, this is one more answer
  abbrev pub GivesAnswer : (I → I → Gave F → Type 0) → I → I → Answer F → Type 0
  GivesAnswer stands old new a = (first : I) (gave : Gave F) → stands first old gave
      → stands first new (gave_more a.item (said_in a) gave)

  -- from the first inlet to the second it gave these answers
  pub record GaveAs (stands : I → I → Gave F → Type 0) (first now : I) (answers : List (Answer F)) : Type 0 where
    pub gives : stands first now (gave_of answers)
    pub once : EndsOnce answers
