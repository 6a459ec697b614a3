-- What is typed and sent, computed on examples.
use Rattle.std.proofs.Common.{◌≡◌, ℕ, zero, suc, true, false, Some, None, List, [], ◌∷◌, length, refl}
use Rattle.std.specs.Prelude.{map}
use Rattle.rtt_base.specs.declared.blocks.TextBlock.{TextBlock}
use Rattle.stream_spec.specs.Own.{Sent, Stream}
use Rattle.stream_spec.specs.Typed.{Event, Text, Ask, entries, sents, packet_at}

abbrev c : Stream
c = record { ssrc = 1001; first = 0; base = 0; generations = 2 }

abbrev block : ℕ → List ℕ → TextBlock
block o t = record { offset = o; text = t }

abbrev A : List ℕ
A = 65 ∷ []

abbrev B : List ℕ
B = 66 ∷ []

abbrev sent : ℕ → List ℕ → Sent
sent m t = record { source = 1001; media = m; text = t }

-- A typed at 0, B at 300
abbrev typed_a : List Event
typed_a = Text A ∷ []

abbrev typed_b : List Event
typed_b = Text B ∷ Ask 0 ∷ typed_a

abbrev asked : List Event
asked = Ask 1200 ∷ Ask 900 ∷ Ask 600 ∷ Ask 300 ∷ typed_b

two_letters : sents (entries c 300 asked) ≡ sent 900 [] ∷ sent 600 [] ∷ sent 300 B ∷ sent 0 A ∷ []
two_letters = refl

first_packet : packet_at c 300 typed_a 0 ≡ Some (record { marker_bit = true; seq = 0; timestamp = 0; ssrc = 1001; source = 1001; older = block 16383 [] ∷ block 16383 [] ∷ []; primary = A })
first_packet = refl

last_packet : packet_at c 300 (Ask 600 ∷ Ask 300 ∷ typed_b) 900 ≡ Some (record { marker_bit = false; seq = 3; timestamp = 900; ssrc = 1001; source = 1001; older = block 600 B ∷ block 300 [] ∷ []; primary = [] })
last_packet = refl

-- not before the interval has passed, and not once all was repeated
asked_early : packet_at c 300 (Ask 0 ∷ typed_a) 299 ≡ None
asked_early = refl

asked_late : packet_at c 300 asked 1500 ≡ None
asked_late = refl

-- asked after a long pause while text is still to be repeated
long_pause : sents (entries c 300 (Ask 90000 ∷ Ask 60000 ∷ Ask 30000 ∷ typed_b)) ≡ sent 24000 [] ∷ sent 16000 [] ∷ sent 8000 B ∷ sent 0 A ∷ []
long_pause = refl

-- with three generations the steps are shorter: the third repeat of B lies 15000 behind it
abbrev three : Stream
three = record { ssrc = 1001; first = 0; base = 0; generations = 3 }

long_pause_of_three : sents (entries three 300 (Ask 120000 ∷ Ask 90000 ∷ Ask 60000 ∷ Ask 30000 ∷ typed_b)) ≡ sent 20000 [] ∷ sent 15000 [] ∷ sent 10000 [] ∷ sent 5000 B ∷ sent 0 A ∷ []
long_pause_of_three = refl

-- without generations nothing is repeated, and each packet with a text before it has no M bit
abbrev none : Stream
none = record { ssrc = 1001; first = 0; base = 0; generations = 0 }

once : sents (entries none 300 asked) ≡ sent 300 B ∷ sent 0 A ∷ []
once = refl

plain_packet : packet_at none 300 typed_b 300 ≡ Some (record { marker_bit = false; seq = 1; timestamp = 300; ssrc = 1001; source = 1001; older = []; primary = B })
plain_packet = refl

-- a text of 1026 octets, 342 times U+20AC, which has three octets: 341 characters fit
abbrev wide : ℕ → List ℕ
wide zero = []
wide (suc n) = 226 ∷ 130 ∷ 172 ∷ wide n

cut_between : sents (entries c 300 (Ask 300 ∷ Ask 0 ∷ Text (wide 342) ∷ [])) ≡ sent 300 (wide 1) ∷ sent 0 (wide 341) ∷ []
cut_between = refl

-- one letter, and then 341 times U+20AC: the last character would be cut
cut_before : map (λ s. length s.text) (sents (entries c 300 (Ask 300 ∷ Ask 0 ∷ Text (65 ∷ wide 341) ∷ []))) ≡ 3 ∷ 1021 ∷ []
cut_before = refl
