-- What is always known of the text beside what a leg gave.
use Rattle.std.specs.Prelude.{◌≡◌, true}
use Rattle.std.specs.Str.{is_utf8}
use Rattle.wire_spec.specs.Packets.{has_text}
use Rattle.stream_spec.specs.Ready.{Chunk}
use Rattle.live_leg.specs.declared.kinds.ItemKind.{ItemKind}
use Rattle.live_leg.specs.declared.kinds.ItemKind.TheVariants as kind

-- where it is a text, it is not empty and is UTF-8
abbrev pub HasText : {F : Type 0} → ItemKind F → Chunk → Type 0
HasText k c = k ≡ kind.Text → (has_text c.text ≡ true) × (is_utf8 c.text ≡ true)
