-- What a leg gives, by what came (profile).
use Rattle.std.specs.Prelude.{◌≡◌, ℕ, ◌+◌, Bool, true, false, Option, None, Some, List, [], ◌∷◌, ◌++◌, map, if◌then◌else◌}
use Rattle.stream_spec.specs.Ready.{Chunk, chunk, chunk_of}
use Rattle.stream_spec.specs.Links.{Came, Datagram, Large, Quiet, Closed, Takes}
use Rattle.live_spec.specs.Told.{Hearing, ready_by}
use Rattle.live_leg.specs.declared.items.LegItem.{LegItem}
use Rattle.live_leg.specs.declared.kinds.ItemKind.{ItemKind}
use Rattle.live_leg.specs.declared.kinds.ItemKind.TheVariants as kind

-- A text that is heard, with the moment from which it may be mixed; that all which is ready by then was given; the same, and that
-- nothing had come when it was asked last; that it is closed and all was given; that nothing more comes, for this reason.
pub data Item (F : Type 0) : Type 0 where
  Text : ℕ → List ℕ → Item F
  Seen : Item F
  Silent : Item F
  End : Item F
  Fault : F → Item F

-- beside which this chunk lies
abbrev pub item_with : {F : Type 0} → ItemKind F → Chunk → Item F
item_with kind.Text c = Text c.ready c.text
item_with kind.Seen c = Seen
item_with kind.Silent c = Silent
item_with kind.End c = End
item_with (kind.Fault f) c = Fault f

-- what is given, where this was answered
abbrev pub items_with : {F : Type 0} → Option (ItemKind F) → Chunk → List (Item F)
items_with None c = []
items_with (Some k) c = item_with k c ∷ []

abbrev pub item_of : {F : Type 0} → LegItem F → Item F
item_of x = item_with x.kind (chunk_of x.chunk.value)

abbrev pub items_of : {F : Type 0} → List (LegItem F) → List (Item F)
items_of xs = map item_of xs

-- its texts, of the leg with this number
abbrev pub text_in : {F : Type 0} → ℕ → Item F → List Chunk
text_in leg (Text ready octets) = chunk leg ready octets ∷ []
text_in leg _ = []

abbrev pub texts_in : {F : Type 0} → ℕ → List (Item F) → List Chunk
texts_in leg [] = []
texts_in leg (x ∷ xs) = text_in leg x ++ texts_in leg xs

-- it says that all was given
abbrev pub is_signal : {F : Type 0} → Item F → Bool
is_signal (Text ready octets) = false
is_signal Seen = true
is_signal Silent = true
is_signal End = true
is_signal (Fault f) = false

-- how often it said so: once for each take
abbrev pub signals_in : {F : Type 0} → List (Item F) → ℕ
signals_in [] = 0
signals_in (x ∷ xs) = (if is_signal x then 1 else 0) + signals_in xs

-- the first of the reasons why nothing more comes
abbrev pub fault_in : {F : Type 0} → List (Item F) → Option F
fault_in [] = None
fault_in (Text ready octets ∷ xs) = fault_in xs
fault_in (Seen ∷ xs) = fault_in xs
fault_in (Silent ∷ xs) = fault_in xs
fault_in (End ∷ xs) = fault_in xs
fault_in (Fault f ∷ xs) = Some f

abbrev pub is_text : {F : Type 0} → Item F → Bool
is_text (Text ready octets) = true
is_text _ = false

-- each is a text
abbrev pub AreTexts : {F : Type 0} → List (Item F) → Type 0
AreTexts [] = Unit {0}
AreTexts (x ∷ xs) = (is_text x ≡ true) × AreTexts xs

-- what it says behind the texts that are ready by what came
abbrev pub signal_of : {F : Type 0} → Came → Item F
signal_of (Datagram octets) = Seen
signal_of Large = Seen
signal_of Quiet = Silent
signal_of Closed = End

-- Take by take, newest first: what it gave before, then texts, and that this was all. The texts are those that are ready by these
-- takes, but for keep-alives.
abbrev pub AreItems : {F : Type 0} → Hearing → Takes → List (Item F) → Type 0
AreItems h [] items = items ≡ []
AreItems {F} h (t ∷ past) items =
    (before : List (Item F)) × (news : List (Item F)) × (items ≡ before ++ (news ++ signal_of t.came ∷ []))
    × AreItems h past before × AreTexts news × (texts_in h.leg items ≡ ready_by h (t ∷ past))
