-- How the entries of a source carry texts: each entry with text is a group of whole texts, in order (profile).
use Rattle.std.specs.Prelude.{◌≡◌, ℕ, ◌≤◌, ◌==◌, List, [], ◌∷◌, ◌++◌, length, ◌&&◌, if◌then◌else◌}
use Rattle.std.specs.List.{concat}
use Rattle.wire_spec.specs.Packets.{has_text}
use Rattle.stream_spec.specs.History.{History, Entry}
use Rattle.rtt_base.specs.declared.limits.TheConstants.{MOST_TEXT_OCTETS}

-- the texts of the source's entries that have text
abbrev pub texts_by : ℕ → List Entry → List (List ℕ)
texts_by s [] = []
texts_by s (e ∷ es) = (if (e.source == s) && has_text e.text then e.text ∷ [] else []) ++ texts_by s es

-- Each of the entries' texts joins a group of at most 1023 octets of these texts; the groups follow one another from
-- the first text on, and `rest` is left.
abbrev pub Groups : List (List ℕ) → List (List ℕ) → List (List ℕ) → Type 0
Groups [] texts rest = texts ≡ rest
Groups (e ∷ es) texts rest =
    (group : List (List ℕ)) × (more : List (List ℕ)) × (texts ≡ group ++ more) × (e ≡ concat group) × (length e ≤ MOST_TEXT_OCTETS) × Groups es more rest

-- the entries of s carry the texts up to `rest`
abbrev pub CarriesFront : History → ℕ → List (List ℕ) → List (List ℕ) → Type 0
CarriesFront h s texts rest = Groups (texts_by s h.entries) texts rest

-- the entries of s carry all the texts
abbrev pub Carries : History → ℕ → List (List ℕ) → Type 0
Carries h s texts = CarriesFront h s texts []
