-- What clap's model makes of words that are not empty and do not begin with `-`, for a command with positional arguments alone.
use Rattle.std.proofs.Common.{◌≡◌, ◌∙◌, ℕ, Bool, true, false, not, List, [], ◌∷◌, Option, Some, None, refl, sym, ap, ap₂, ◌&&◌, true≢false}
use Rattle.std.specs.Prelude.{fold, find, ◌==◌, is_some, if◌then◌else◌}
use Rattle.std.specs.Str.{bytes_eq}
use Rattle.std.specs.List.{list_all}
use Rattle.std.specs.Option.{option_map_or}
use Rattle.rtt_words.specs.Words.{is_word}
use Rattle.clap.specs.Lexer.{long_of, short_of}
use Rattle.clap.specs.Walk.{Held, Rule, Row, Text, Walk, idle, value, arg_by_index, is_multiple, next_position, nothing_held, positional_held, rows_after, settled, finished, to_positional, walked}
use Rattle.clap.specs.Simple.{App, Shape, entered}
use Rattle.clap.specs.Kinds.{Kinds, or_else}
use Rattle.clap.specs.Faults.{built_fault, check_fault, defaults_fault, entered_fault, settle_fault, step_fault, turn_fault, walk_fault}
use Rattle.std.proofs.lemmas.Bool.{not-true as is_off, and_parts as both}

-- ---- a word

is_no_flag : (word : Text) → is_word word ≡ true → (bytes_eq word (45 ∷ 45 ∷ []) ≡ false) × (long_of word ≡ None) × (short_of word ≡ None)
is_no_flag [] e = absurd (true≢false (sym e))
is_no_flag (x ∷ xs) e = let off = is_off (x == 45) e in (rw off refl, rw off refl, rw off refl)

-- ---- a turn of the walk

-- between two words, where nothing but the words before was met
abbrev pub standing : Held → ℕ → Walk
standing h p = record { held = h; waiting = idle; position = p; is_trailing = false; stopped = None }

turn_is : (s : Shape) (h : Held) (p : ℕ) (word : Text) → is_word word ≡ true → turn_fault s [] (standing h p) word ≡ step_fault s p h value
turn_is s h p word e = let no = is_no_flag word e in rw (no.0, no.1, no.2) refl

walked_is : (c : List Rule) (h : Held) (p : ℕ) (word : Text) → is_word word ≡ true → walked c [] (standing h p) word ≡ to_positional c (arg_by_index c p) word (standing h p) h
unfolding walked
walked_is c h p word e = let no = is_no_flag word e in rw (no.0, no.1, no.2) refl

-- ---- the walk over all words

-- the argument takes one word
abbrev pub is_single : Rule → Bool
is_single a = not (is_multiple a) && not a.trailing_var_arg

-- what is held after the word, and the place of the next
abbrev pub after_word : Option Rule → List Rule → Text → Held → ℕ → Held × ℕ
after_word None c word h p = (h, p)
after_word (Some a) c word h p = (positional_held c a word h, next_position a p)

abbrev pub IsSingle : Option Rule → Type 0
IsSingle None = Unit {0}
IsSingle (Some a) = is_single a ≡ true

placed_is : (c : List Rule) (found : Option Rule) → IsSingle found → (h : Held) (p : ℕ) (word : Text)
    → to_positional c found word (standing h p) h ≡ standing (after_word found c word h p).0 (after_word found c word h p).1
placed_is c None single h p word = refl
placed_is c (Some a) single h p word =
    let parts = both _ _ single in
    let one = is_off (is_multiple a) parts.0 in
    let last = is_off a.trailing_var_arg parts.1 in
    rw (one, last) refl

-- what is held after the words, and the place of the next
unfoldable pub placed : List Rule → List Text → Held → ℕ → Held × ℕ
placed c [] h p = (h, p)
placed c (word ∷ rest) h p =
    let q = after_word (arg_by_index c p) c word h p in placed c rest q.0 q.1

-- why the words are too many
unfoldable pub place_fault : Shape → List Text → Held → ℕ → Kinds
place_fault s [] h p = []
place_fault s (word ∷ rest) h p =
    let q = after_word (arg_by_index s.rules p) s.rules word h p in or_else (step_fault s p h value) (place_fault s rest q.0 q.1)

module _ (c : List Rule) (single : (p : ℕ) → IsSingle (arg_by_index c p)) where
  pub one_walked : (h : Held) (p : ℕ) (word : Text) → is_word word ≡ true
      → walked c [] (standing h p) word ≡ standing (after_word (arg_by_index c p) c word h p).0 (after_word (arg_by_index c p) c word h p).1
  one_walked h p word e = walked_is c h p word e ∙ placed_is c (arg_by_index c p) (single p) h p word

  pub walk_is : (words : List Text) → list_all is_word words ≡ true → (h : Held) (p : ℕ)
      → fold (walked c []) (standing h p) words ≡ standing (placed c words h p).0 (placed c words h p).1
  unfolding placed
  walk_is [] e h p = refl
  walk_is (word ∷ rest) e h p =
      let parts = both _ _ e in
      let q = after_word (arg_by_index c p) c word h p in
      ap (λ (w : Walk). fold (walked c []) w rest) (one_walked h p word parts.0) ∙ walk_is rest parts.1 q.0 q.1

module _ (s : Shape) (single : (p : ℕ) → IsSingle (arg_by_index s.rules p)) where
  pub walk_fault_is : (words : List Text) → list_all is_word words ≡ true → (h : Held) (p : ℕ) → walk_fault s [] (standing h p) words ≡ place_fault s words h p
  unfolding walk_fault place_fault
  walk_fault_is [] e h p = refl
  walk_fault_is (word ∷ rest) e h p =
      let parts = both _ _ e in
      let q = after_word (arg_by_index s.rules p) s.rules word h p in
      ap₂ (λ (k : Kinds) (w : Walk). or_else k (walk_fault s [] w rest)) (turn_is s h p word parts.0) (one_walked s.rules single h p word parts.0)
      ∙ ap (or_else (step_fault s p h value)) (walk_fault_is rest parts.1 q.0 q.1)

-- ---- a level of the parse

pub find_single : (c : List Rule) → list_all is_single c ≡ true → (f : Rule → Bool) → IsSingle (find f c)
find_single [] e f = tt
find_single (a ∷ rest) e f = let parts = both _ _ e in go (f a) parts.0 (find_single rest parts.1 f)
  where
    go : (b : Bool) → is_single a ≡ true → IsSingle (find f rest) → IsSingle (if b then Some a else find f rest)
    go true here there = here
    go false here there = there

-- what is held when the words end
abbrev pub held_after : Shape → List Text → Held
held_after s words = (placed s.rules words nothing_held 1).0

abbrev pub rows_given : Shape → List Text → List Row
rows_given s words = finished s.rules (held_after s words)

-- why a command without subcommands refuses the words
abbrev pub fault_given : Shape → List Text → Kinds
fault_given s words =
    or_else (place_fault s words nothing_held 1) (or_else (settle_fault s.rules s.args_override_self (held_after s words))
    (or_else (defaults_fault (settled s.rules (held_after s words)).rows s.rules) (check_fault s (rows_given s words) false)))

abbrev pub leaf : Shape → App
leaf s = record { top = s; subs = [] }

pub fault_is : (s : Shape) → list_all is_single s.rules ≡ true → (words : List Text) → list_all is_word words ≡ true → built_fault (leaf s) nothing_held words ≡ fault_given s words
fault_is s single words e =
    let found : (p : ℕ) → IsSingle (arg_by_index s.rules p) = λ p. find_single s.rules single (λ a. option_map_or (λ k. k == p) a.index false) in
    ap₂ (λ (k : Kinds) (w : Walk).
    or_else k (or_else (entered_fault (leaf s) w.stopped) (or_else (settle_fault s.rules s.args_override_self w.held)
    (or_else (defaults_fault (settled s.rules w.held).rows s.rules) (check_fault s (finished s.rules w.held) (is_some (entered (leaf s) w.stopped)))))))
    (walk_fault_is s found words e nothing_held 1) (walk_is s.rules found words e nothing_held 1)

pub rows_are : (s : Shape) → list_all is_single s.rules ≡ true → (words : List Text) → list_all is_word words ≡ true → rows_after s.rules [] words ≡ rows_given s words
rows_are s single words e =
    let found : (p : ℕ) → IsSingle (arg_by_index s.rules p) = λ p. find_single s.rules single (λ a. option_map_or (λ k. k == p) a.index false) in
    ap (λ (w : Walk). finished s.rules w.held) (walk_is s.rules found words e nothing_held 1)
