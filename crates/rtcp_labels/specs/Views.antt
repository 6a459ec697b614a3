-- What the code's types say in the definitions' words.
use Rattle.std.specs.Prelude.{◌≡◌, ℕ, ◌+◌, ◌≤◌, List, length, slice_index}
use Rattle.wire_spec.specs.Rtcp as rtcp
use Rattle.rtcp_labels.specs.declared.bodies.Body.{Body}
use Rattle.rtcp_labels.specs.declared.chunks.SdesItem.{SdesItem}

abbrev pub body_view : Body → rtcp.Body
body_view b = record { count = b.count; kind = b.kind; octets = b.octets.now; rest = b.rest.now }

abbrev pub item_view : SdesItem → rtcp.Item
item_view i = record { kind = i.kind; text = i.text.now }

-- an item stands in front of these octets, with its type and length before its text
pub record FitsIn (octets : List ℕ) (i : SdesItem) : Type 0 where
  pub size : length i.text.now ≡ slice_index octets 1
  pub small : length i.text.now ≤ 255
  pub there : 2 + length i.text.now ≤ length octets
