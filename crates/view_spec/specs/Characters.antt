-- The classes of characters (T.140; which characters are silent is this profile's choice).
-- A character is its code. The characters of a text in UTF-8 are std's `chars`.
use Rattle.std.specs.Prelude.{ℕ, Bool, true, false, ◌||◌, ◌&&◌, nat_lt, nat_le, ◌==◌, if◌then◌else◌, List, [], ◌∷◌}
use Rattle.view_spec.specs.declared.classes.CharClass.{CharClass}
use Rattle.view_spec.specs.declared.classes.CharClass.TheVariants.{Erase, Bell, NewLine, Silent, Marker, Print}

-- LF, CR, U+2028 and U+2029
abbrev pub is_new_line : ℕ → Bool
is_new_line c = c == 0x0A || c == 0x0D || c == 0x2028 || c == 0x2029

-- the control characters of both sets, DEL, and the byte order mark
abbrev pub is_silent : ℕ → Bool
is_silent c = nat_lt c 0x20 || (nat_le 0x7F c && nat_le c 0x9F) || c == 0xFEFF

unfoldable pub class_of : ℕ → CharClass
class_of c =
    if c == 0x08 then Erase else (
    if c == 0x07 then Bell else (
    if is_new_line c then NewLine else (
    if is_silent c then Silent else (
    if c == 0xFFFD then Marker else Print))))

abbrev pub is_erasure : CharClass → Bool
is_erasure Erase = true
is_erasure _ = false

abbrev pub is_bell : CharClass → Bool
is_bell Bell = true
is_bell _ = false

-- what an erasure can take back
abbrev pub is_erasable : CharClass → Bool
is_erasable NewLine = true
is_erasable Print = true
is_erasable _ = false

-- U+FFFD
abbrev pub is_marker : CharClass → Bool
is_marker Marker = true
is_marker _ = false

-- what is shown as it is
abbrev pub is_print : CharClass → Bool
is_print Marker = true
is_print Print = true
is_print _ = false

-- ---- an open line
-- A line is open where, bells and silent characters passed over, there is a last character and it is no new line; `was` says
-- whether one was open before this character.
abbrev pub opens : CharClass → Bool → Bool
opens NewLine was = false
opens Bell was = was
opens Silent was = was
opens _ was = true

abbrev pub is_open_after : Bool → List ℕ → Bool
is_open_after was [] = was
is_open_after was (c ∷ cs) = is_open_after (opens (class_of c) was) cs
