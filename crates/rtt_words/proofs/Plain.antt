-- What follows where a word is empty or begins with `-`.
use Rattle.std.proofs.Common.{List, [], ◌∷◌, ℕ, ◌≡◌, ◌∙◌, ◌&&◌, ◌⊎◌, inl, inr, Bool, true, false, true≢false, refl, sym, ap, map, Option, Some, None, length, String, Global, string_bytes, take, drop, ◌-◌, ◌≤◌, arith}
use Rattle.std.specs.Prelude.{if◌then◌else◌, ◌==◌, not, nat_le, nat_lt, codes, option_and_then}
use Rattle.std.specs.List.{list_all}
use Rattle.std.specs.Option.{option_map}
use Rattle.std.specs.Str.Parse.{digits_value}
use Rattle.std.proofs.lemmas.Bool.Decides.{Decides-eqb}
use Rattle.std.specs.Str.{bytes_eq}
use Rattle.std.proofs.lemmas.List.{take_rest}
use Rattle.rtt_base.specs.declared.text_packets.PayloadTypes.{PayloadTypes}
use Rattle.file_spec.specs.Numbers.{is_number, number, most_ssrc, payload_type}
use Rattle.command_spec.specs.Usual.{usual_payload_types}
use Rattle.rtt_words.specs.Help.{topic}
use Rattle.rtt_words.specs.Words.{Read, ListRecords, Send, Cascade, Live, Watch, Relay, Channel, ChannelWords, Show, Times, Script, Check, Help, Command, before_conference, to_check, cascade_words, channel_words, command, help_words, if_different, is_word, list_of, list_words, make_words, Make, mix_words, Mix, Attend, payload_type_pair, read_of, read_words, send_of, send_words, version_words}
use Rattle.std.proofs.Math.Bool.{and-false as and_false}

abbrev Text : Type 0
Text = List ℕ

pub list_all-map : {X Y : Type 0} (f : X → Y) (p : Y → Bool) (xs : List X) → list_all (λ x. p (f x)) xs ≡ list_all p (map f xs)
list_all-map f p [] = refl
list_all-map f p (x ∷ xs) = ap (λ b. p (f x) && b) (list_all-map f p xs)

-- ---- such a word is no number

hidden : (a b : Bool) → (a && (b && false)) ≡ false
hidden true true = refl
hidden true false = refl
hidden false b = refl

is_hyphen : (x : ℕ) (b : Bool) → x == 45 ≡ b → not b ≡ false → x ≡ 45
is_hyphen x true same e = (Decides-eqb x 45).0 same
is_hyphen x false same e = absurd (true≢false e)

no_number : (word : Text) → is_word word ≡ false → is_number word ≡ false
no_number [] e = refl
no_number (x ∷ xs) e = ap (λ y. is_number (y ∷ xs)) (is_hyphen x _ refl e) ∙ hidden (nat_lt 0 (length (45 ∷ xs))) (nat_le (length (45 ∷ xs)) 10)

number_off : (most : ℕ) (word : Text) → is_word word ≡ false → number most word ≡ None
number_off most word e = ap (λ (b : Bool). if b && nat_le (digits_value 10 word) most then Some (digits_value 10 word) else None) (no_number word e)

payload_type_off : (word : Text) → is_word word ≡ false → payload_type word ≡ None
payload_type_off word e = ap (option_and_then (λ (n : ℕ). if nat_lt n 96 then None else Some n)) (number_off 127 word e)

-- ---- none of two or more

one_off : (a b : Bool) → (a && b) ≡ false → (a ≡ false) ⊎ (b ≡ false)
one_off true b e = inr e
one_off false b e = inl refl

types_off : (t140 red : Text) → (is_word t140 ≡ false) ⊎ (is_word red ≡ false) → payload_type_pair t140 red ≡ None
types_off t140 red (inl e) =
    ap (λ (o : Option ℕ). option_and_then if_different (option_and_then (λ (t : ℕ). option_and_then (λ (r : ℕ). Some (record { t140 = t; red = r })) (payload_type red)) o)) (payload_type_off t140 e)
types_off t140 red (inr e) =
    ap (λ (o : Option ℕ). option_and_then if_different (option_and_then (λ (t : ℕ). option_and_then (λ (r : ℕ). Some (record { t140 = t; red = r })) o) (payload_type t140))) (payload_type_off red e)
    ∙ go (payload_type t140)
  where
    go : (o : Option ℕ) → option_and_then if_different (option_and_then (λ (t : ℕ). option_and_then (λ (r : ℕ). Some (record { t140 = t; red = r })) None) o) ≡ None
    go None = refl
    go (Some t) = refl

read_of_off : (file ssrc source : Text) (types : Option PayloadTypes) → (is_word ssrc ≡ false) ⊎ (is_word source ≡ false) → read_of file (number most_ssrc ssrc) (number most_ssrc source) types ≡ None
read_of_off file ssrc source types (inl e) = ap (λ o. read_of file o (number most_ssrc source) types) (number_off most_ssrc ssrc e)
read_of_off file ssrc source types (inr e) = ap (λ o. read_of file (number most_ssrc ssrc) o types) (number_off most_ssrc source e) ∙ go (number most_ssrc ssrc)
  where
    go : (o : Option ℕ) → read_of file o None types ≡ None
    go None = refl
    go (Some s) = refl

pub no_types : (file : Text) (ssrc source : Option ℕ) → read_of file ssrc source None ≡ None
no_types file None source = refl
no_types file (Some s) None = refl
no_types file (Some s) (Some t) = refl

send_of_off : (script out ssrc seq timestamp : Text) → (is_word ssrc ≡ false) ⊎ ((is_word seq ≡ false) ⊎ (is_word timestamp ≡ false))
    → send_of script out (number most_ssrc ssrc) (number 65535 seq) (number 4294967295 timestamp) ≡ None
send_of_off script out ssrc seq timestamp (inl e) = ap (λ o. send_of script out o (number 65535 seq) (number 4294967295 timestamp)) (number_off most_ssrc ssrc e)
send_of_off script out ssrc seq timestamp (inr (inl e)) =
    ap (λ o. send_of script out (number most_ssrc ssrc) o (number 4294967295 timestamp)) (number_off 65535 seq e) ∙ go (number most_ssrc ssrc)
  where
    go : (o : Option ℕ) → send_of script out o None (number 4294967295 timestamp) ≡ None
    go None = refl
    go (Some s) = refl
send_of_off script out ssrc seq timestamp (inr (inr e)) =
    ap (λ o. send_of script out (number most_ssrc ssrc) (number 65535 seq) o) (number_off 4294967295 timestamp e) ∙ go (number most_ssrc ssrc) (number 65535 seq)
  where
    go : (o q : Option ℕ) → send_of script out o q None ≡ None
    go None q = refl
    go (Some s) None = refl
    go (Some s) (Some q) = refl

-- ---- where one of the words is empty or begins with `-`, the words stand in no row

-- the answer under a test that fails, or with no answer under it
under : {A : Type 0} (b : Bool) (answer : Option A) → (b ≡ false) ⊎ (answer ≡ None) → (if b then answer else None) ≡ None
under true answer (inl e) = absurd (true≢false e)
under true answer (inr e) = e
under false answer h = refl

-- which of the words it is
off_first : (a : Text) (rest : List Text) → list_all is_word (a ∷ rest) ≡ false → (is_word a ≡ false) ⊎ (list_all is_word rest ≡ false)
off_first a rest e = one_off (is_word a) (list_all is_word rest) e

off_last : (a : Text) → list_all is_word (a ∷ []) ≡ false → is_word a ≡ false
off_last a e = elim (off_first a [] e) [ inl h ↦ h | inr h ↦ absurd (true≢false h) ]

off_two : (a b : Text) → list_all is_word (a ∷ b ∷ []) ≡ false → (is_word a ≡ false) ⊎ (is_word b ≡ false)
off_two a b e = elim (off_first a (b ∷ []) e) [ inl h ↦ inl h | inr h ↦ inr (off_last b h) ]

read_off : (words : List Text) → list_all is_word words ≡ false → read_words words ≡ None
read_off (a ∷ b ∷ []) e =
    under (is_word a) (read_of a (number most_ssrc b) (number most_ssrc b) (Some usual_payload_types))
    (elim (off_two a b e) [ inl h ↦ inl h | inr h ↦ inr (read_of_off a b b (Some usual_payload_types) (inl h)) ])
read_off (a ∷ b ∷ c ∷ []) e =
    under (is_word a) (read_of a (number most_ssrc b) (number most_ssrc c) (Some usual_payload_types))
    (elim (off_first a (b ∷ c ∷ []) e) [ inl h ↦ inl h | inr h ↦ inr (read_of_off a b c (Some usual_payload_types) (off_two b c h)) ])
read_off (a ∷ b ∷ c ∷ d ∷ f ∷ []) e =
    under (is_word a) (read_of a (number most_ssrc b) (number most_ssrc c) (payload_type_pair d f))
    (elim (off_first a (b ∷ c ∷ d ∷ f ∷ []) e) [ inl h ↦ inl h | inr h ↦ inr (numbers h) ])
  where
    none : payload_type_pair d f ≡ None → read_of a (number most_ssrc b) (number most_ssrc c) (payload_type_pair d f) ≡ None
    none h = ap (read_of a (number most_ssrc b) (number most_ssrc c)) h ∙ no_types a (number most_ssrc b) (number most_ssrc c)

    numbers : list_all is_word (b ∷ c ∷ d ∷ f ∷ []) ≡ false → read_of a (number most_ssrc b) (number most_ssrc c) (payload_type_pair d f) ≡ None
    numbers h = elim (off_first b (c ∷ d ∷ f ∷ []) h) [
      | inl i ↦ read_of_off a b c (payload_type_pair d f) (inl i)
      | inr i ↦ elim (off_first c (d ∷ f ∷ []) i) [
        | inl j ↦ read_of_off a b c (payload_type_pair d f) (inr j)
        | inr j ↦ none (types_off d f (off_two d f j))
      ]
    ]
read_off _ e = refl

list_off : (words : List Text) → list_all is_word words ≡ false → list_words words ≡ None
list_off (a ∷ []) e = under (is_word a) (list_of a (Some usual_payload_types)) (inl (off_last a e))
list_off (a ∷ b ∷ c ∷ []) e =
    under (is_word a) (list_of a (payload_type_pair b c))
    (elim (off_first a (b ∷ c ∷ []) e) [ inl h ↦ inl h | inr h ↦ inr (ap (list_of a) (types_off b c (off_two b c h))) ])
list_off _ e = refl

send_off : (words : List Text) → list_all is_word words ≡ false → send_words words ≡ None
send_off (a ∷ b ∷ c ∷ d ∷ f ∷ []) e =
    under (is_word a && is_word b) (send_of a b (number most_ssrc c) (number 65535 d) (number 4294967295 f))
    (elim (off_first a (b ∷ c ∷ d ∷ f ∷ []) e) [
      | inl h ↦ inl (ap (λ t. t && is_word b) h)
      | inr h ↦ elim (off_first b (c ∷ d ∷ f ∷ []) h) [
        | inl i ↦ inl (ap (λ t. is_word a && t) i ∙ and_false (is_word a))
        | inr i ↦ inr (send_of_off a b c d f (elim (off_first c (d ∷ f ∷ []) i) [ inl j ↦ inl j | inr j ↦ inr (off_two d f j) ]))
      ]
    ])
send_off _ e = refl

mix_off : (words : List Text) → list_all is_word words ≡ false → mix_words words ≡ None
mix_off (a ∷ []) e = under (is_word a) (Some (record { conference = a })) (inl (off_last a e))
mix_off _ e = refl

make_off : (words : List Text) → list_all is_word words ≡ false → make_words words ≡ None
make_off (a ∷ []) e =
    ap (λ (o : Option ℕ). option_map (λ k. Make (record { number = k })) (option_and_then (λ (n : ℕ). if nat_lt n 1 then None else Some n) o))
    (number_off 1000 a (off_last a e))
make_off _ e = refl

channel_off : (words : List Text) → list_all is_word words ≡ false → channel_words words ≡ None
channel_off (a ∷ b ∷ c ∷ []) e =
    under (is_word a && is_word c) (option_map channelled (number most_ssrc b))
    (elim (off_first a (b ∷ c ∷ []) e) [
      | inl h ↦ inl (ap (λ t. t && is_word c) h)
      | inr h ↦ elim (off_two b c h) [
        | inl i ↦ inr (ap (option_map channelled) (number_off most_ssrc b i))
        | inr i ↦ inl (ap (λ t. is_word a && t) i ∙ and_false (is_word a))
      ]
    ])
  where
    channelled : ℕ → ChannelWords
    channelled s = record { file = a; ssrc = s; out = c }
channel_off _ e = refl

help_off : (words : List Text) → list_all is_word words ≡ false → help_words words ≡ None
help_off [] e = absurd (true≢false e)
help_off (a ∷ []) e = under (is_word a) (option_map Help (topic a)) (inl (off_last a e))
help_off _ e = refl

version_off : (words : List Text) → list_all is_word words ≡ false → version_words words ≡ None
version_off [] e = absurd (true≢false e)
version_off (a ∷ rest) e = refl

choice : (b : Bool) (x y : Option Command) → x ≡ None → y ≡ None → (if b then x else y) ≡ None
choice true x y p q = p
choice false x y p q = q

pub command_off : (name : Text) (words : List Text) → list_all is_word words ≡ false → command (name ∷ words) ≡ None
command_off name words e =
    choice (bytes_eq name (codes "read")) (option_map Read (read_words words)) _ (ap (option_map Read) (read_off words e))
    (choice (bytes_eq name (codes "list")) (option_map ListRecords (list_words words)) _ (ap (option_map ListRecords) (list_off words e))
    (choice (bytes_eq name (codes "send")) (option_map Send (send_words words)) _ (ap (option_map Send) (send_off words e))
    (choice (bytes_eq name (codes "mix")) (option_map Mix (mix_words words)) _ (ap (option_map Mix) (mix_off words e))
    (choice (bytes_eq name (codes "attend")) (option_map Attend (mix_words words)) _ (ap (option_map Attend) (mix_off words e))
    (choice (bytes_eq name (codes "cascade")) (option_map Cascade (cascade_words words)) _ (ap (λ o. option_map Cascade (option_map before_conference o)) (channel_off words e))
    (choice (bytes_eq name (codes "make")) (make_words words) _ (make_off words e)
    (choice (bytes_eq name (codes "live")) (option_map Live (mix_words words)) _ (ap (option_map Live) (mix_off words e))
    (choice (bytes_eq name (codes "watch")) (option_map Watch (mix_words words)) _ (ap (option_map Watch) (mix_off words e))
    (choice (bytes_eq name (codes "relay")) (option_map Relay (send_words words)) _ (ap (option_map Relay) (send_off words e))
    (choice (bytes_eq name (codes "channel")) (option_map Channel (channel_words words)) _ (ap (option_map Channel) (channel_off words e))
    (choice (bytes_eq name (codes "show")) (option_map Show (list_words words)) _ (ap (option_map Show) (list_off words e))
    (choice (bytes_eq name (codes "times")) (option_map Times (list_words words)) _ (ap (option_map Times) (list_off words e))
    (choice (bytes_eq name (codes "script")) (option_map Script (read_words words)) _ (ap (option_map Script) (read_off words e))
    (choice (bytes_eq name (codes "check")) (option_map Check (option_map to_check (mix_words words))) _ (ap (λ o. option_map Check (option_map to_check o)) (mix_off words e))
    (choice (bytes_eq name (codes "help")) (help_words words) _ (help_off words e)
    (choice (bytes_eq name (codes "--help")) (help_words words) _ (help_off words e)
    (choice (bytes_eq name (codes "-h")) (help_words words) _ (help_off words e)
    (choice (bytes_eq name (codes "version")) (version_words words) _ (version_off words e)
    (choice (bytes_eq name (codes "--version")) (version_words words) None (version_off words e) refl)))))))))))))))))))

-- the same of a list of words, of which the first is the name
pub command_off_rest : (words : List (String Global)) → 1 ≤ length words
    → false ≡ list_all (λ w. is_word (string_bytes {Z = Global} w)) (take (length words - 1) (drop 1 words)) → command (map (string_bytes {Z = Global}) words) ≡ None
command_off_rest [] lt e = absurd (omega arith)
command_off_rest (name ∷ rest) lt e =
    let all : take (length (name ∷ rest) - 1) (drop 1 (name ∷ rest)) ≡ drop 1 (name ∷ rest) = take_rest (name ∷ rest) 1 in
    command_off (string_bytes {Z = Global} name) (map (string_bytes {Z = Global}) rest)
    (sym (e ∙ ap (list_all (λ w. is_word (string_bytes {Z = Global} w))) all ∙ list_all-map (string_bytes {Z = Global}) is_word rest))

pub plain_rest : (words : List (String Global)) → true ≡ list_all (λ w. is_word (string_bytes {Z = Global} w)) (take (length words - 1) (drop 1 words))
    → list_all is_word (drop 1 (map (string_bytes {Z = Global}) words)) ≡ true
plain_rest [] e = refl
plain_rest (name ∷ rest) e =
    let all : take (length (name ∷ rest) - 1) (drop 1 (name ∷ rest)) ≡ drop 1 (name ∷ rest) = take_rest (name ∷ rest) 1 in
    sym (e ∙ ap (list_all (λ w. is_word (string_bytes {Z = Global} w))) all ∙ list_all-map (string_bytes {Z = Global}) is_word rest)
