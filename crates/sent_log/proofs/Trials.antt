-- What the tests send.
use Rattle.std.proofs.Common.{◌≡◌, ℕ, zero, suc, ◌+◌, ◌<◌, ◌^◌, true, List, [], ◌∷◌, inl, inr, refl, ap, subst, arith}
use Rattle.stream_spec.specs.Lists.{In}
use Rattle.stream_spec.specs.Own.{Sent, Stream, has_text_in}
use Rattle.packetizer.specs.declared.outputs.PacketizerSettings.{PacketizerSettings}
use Rattle.packetizer.specs.OutputSettings.{stream_of}
use Rattle.packetizer.specs.Speakers.{EachIsNext, text_of}
use Rattle.sent_log.specs.States.{AreLawful, State, sent_to, sents}

-- so many packets without text, newest first, one each millisecond
abbrev pub counted : ℕ → List (ℕ × Sent)
counted zero = []
counted (suc n) = (n, record { source = 1001; media = n; text = [] }) ∷ counted n

-- they were sent to the one terminal
abbrev pub log_with : PacketizerSettings → ℕ → State
log_with settings n = record { settings = settings; sources = 1001 ∷ []; sent = counted n } ∷ []

pub one_counted : (settings : PacketizerSettings) (n : ℕ) → sent_to 0 n (λ sources. text_of sources 0 n []) (log_with settings n) ≡ log_with settings (n + 1)
one_counted settings n = let next : suc n ≡ n + 1 = omega arith in ap (λ k. log_with settings k) next

all_before : (n : ℕ) (x : Sent) → In x (sents (counted n)) → x.media < n
all_before zero x i = absurd i
all_before (suc n) x (inl e) = let media = ap (λ (s : Sent). s.media) e in omega (arith, media)
all_before (suc n) x (inr i) = let r = all_before n x i in omega (arith, r)

no_text : (g : ℕ) (past : List Sent) → g ≡ 0 → has_text_in g past ≡ true → ⊥
no_text g past none some = let t : has_text_in 0 past ≡ true = subst (λ k. has_text_in k past ≡ true) none some in cc t

each_counted : (c : Stream) → c.generations ≡ 0 → (n : ℕ) → n < 2 ^ 31 → EachIsNext c (sents (counted n))
each_counted c none zero few = tt
each_counted c none (suc n) few = (
  record {
    later = λ x i. let r = all_before n x i in (r, omega (arith, r, few));
    near = λ some. absurd (no_text c.generations _ none some);
    text = (omega arith, ([], (refl, refl)));
  },
  each_counted c none n (omega arith),
)

pub counted_is_lawful : (settings : PacketizerSettings) → settings.generations ≡ 0 → (n : ℕ) → n < 2 ^ 31 → AreLawful (log_with settings n)
counted_is_lawful settings none n few zero d l = each_counted (stream_of settings) none n few
counted_is_lawful settings none n few (suc k) d l = absurd (omega arith)
