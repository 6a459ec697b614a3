-- What optional slices refer to (profile).
use Rattle.std.specs.Prelude.{ℕ, Option, None, Some, if◌then◌else◌, List}
use Rattle.std.specs.Option.{option_map}
use Rattle.std.specs.Str.{is_utf8}
use denote.Ref.{Bor}

abbrev pub octets_of : Option (Bor (List ℕ)) → Option (List ℕ)
octets_of slice = option_map (λ s. s.now) slice

-- the octets, if they are UTF-8
abbrev pub text_in : List ℕ → Option (List ℕ)
text_in octets = if is_utf8 octets then Some octets else None
