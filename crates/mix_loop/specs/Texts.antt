-- What is always known of the text beside an answer.
use Rattle.std.specs.Prelude.{◌≡◌, true}
use Rattle.std.specs.Str.{is_utf8}
use Rattle.wire_spec.specs.Packets.{has_text}
use Rattle.stream_spec.specs.Ready.{Chunk}
use Rattle.mix_loop.specs.declared.items.Item.{Item}
use Rattle.mix_loop.specs.declared.items.Item.TheVariants as item

-- beside the answer that a text was given, it is not empty and is UTF-8
abbrev pub HasText : {F : Type 0} → Item F → Chunk → Type 0
HasText x c = x ≡ item.Chunk → (has_text c.text ≡ true) × (is_utf8 c.text ≡ true)
