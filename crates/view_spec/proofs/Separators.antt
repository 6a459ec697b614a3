-- The octets of U+2028.
use Rattle.std.proofs.Common.{◌≡◌, [], ◌∷◌, refl}
use Rattle.std.specs.Char.{encode_utf8}

pub line_separator : encode_utf8 0x2028 ≡ 0xE2 ∷ 0x80 ∷ 0xA8 ∷ []
unfolding encode_utf8
line_separator = refl
