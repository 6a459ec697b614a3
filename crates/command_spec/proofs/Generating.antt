-- What is generated from a number: a conference that keeps all limits, and scripts that can be sent.
use Rattle.std.proofs.Common.{◌≡◌, ◌≢◌, ℕ, zero, suc, ◌+◌, ◌*◌, ◌/◌, ◌%◌, ◌<◌, ◌≤◌, Bool, true, false, List, [], ◌∷◌, ◌++◌, length, get_or, length-append, refl, ap, sym, ◌∙◌, subst, arith, lit<, lit≤, inl, inr}
use Rattle.std.specs.Prelude.{map, filter, codes, decimal, All, AllPairs, IsUtf8, IsTrue, not, nat_le, ◌==◌, if◌then◌else◌}
use Rattle.std.specs.List.{range_with_len}
use Rattle.std.specs.Char.{encode_utf8}
use Rattle.std.proofs.Math.Nat.{mod-lt}
use Rattle.std.proofs.lemmas.Bool.{le-leb, cases_lt, not-true as not_true}
use Rattle.std.proofs.lemmas.Fmt.{decimal_digit, decimal_step, decimal_injective}
use Rattle.std.proofs.lemmas.List.{append_cancel_left, append_cancel_right, length-map}
use Rattle.std.proofs.lemmas.List.Elements.{All-nil, All-cons, All-head, All-tail, All-map, All-filter, All-weaker, filter_passes}
use Rattle.std.proofs.lemmas.List.FromFn.{get_or-map-range_with_len, length-map-range_with_len}
use Rattle.std.proofs.lemmas.List.Kept.{AllPairs-cons, AllPairs-filter}
use Rattle.std.proofs.lemmas.List.Sums.{count_by-le-length, length-filter}
use Rattle.std.proofs.lemmas.Str.{IsUtf8-nil, IsUtf8-append}
use Rattle.file_spec.specs.declared.limits.TheConstants.{LAST_MOMENT}
use Rattle.file_spec.specs.declared.conference_lines.LegLine.{LegLine}
use Rattle.file_spec.specs.declared.conference_lines.PlanLine.{PlanLine}
use Rattle.file_spec.specs.declared.conference_lines.What.TheVariants.{Lose, Delay, Twice}
use Rattle.file_spec.specs.Conference.{is_name, is_name_octet, is_same_packet}
use Rattle.file_spec.specs.Kept.{AreLegs, Differ, IsConference, IsLeg, IsShort}
use Rattle.file_spec.specs.Script.{ScriptLine}
use Rattle.file_spec.specs.Stays.{stays_at}
use Rattle.command_spec.specs.Draws.{Drawing, draw, give, next, times}
use Rattle.command_spec.specs.Generated.{Generated, Typist, behind_word, conference_of, delay, drawn, generated, leg, letter, mixer, plan_line, script_from, text, typist, what, without_repeats}
use Rattle.command_spec.specs.Scripts.{AreLines, InOrder}
use Rattle.file_spec.proofs.NameTexts.{one_ascii as one_letter}

-- ---- whatever the state is, this holds of what is drawn
abbrev Always : {A : Type 0} → (A → Type 0) → Drawing A → Type 0
Always P drawing = (state : ℕ) → P (drawing state).0

below : (m : ℕ) → 0 < m → Always (λ n. n < m) (draw m)
unfolding draw
below m h state = mod-lt (next state / 65536) h

every : {A : Type 0} (P : A → Type 0) (drawing : Drawing A) → Always P drawing → (n : ℕ) → Always (λ xs. All P xs) (times n drawing)
unfolding times
every P drawing h zero state = All-nil P
every P drawing h (suc n) state = All-cons P _ _ (h state) (every P drawing h n (drawing state).1)

count : {A : Type 0} (drawing : Drawing A) (n : ℕ) → Always (λ xs. length xs ≡ n) (times n drawing)
unfolding times
count drawing zero state = refl
count drawing (suc n) state = let e = count drawing n (drawing state).1 in omega (arith, e)

-- ---- what is typed
pub record IsTyped (octets : List ℕ) : Type 0 where
  pub utf8 : IsUtf8 octets
  pub short : length octets ≤ 15

letters : (cs : List ℕ) → All (λ c. c < 128) cs → IsUtf8 cs
letters [] h = IsUtf8-nil
letters (c ∷ cs) h = IsUtf8-append (c ∷ []) cs (one_letter c (All-head (λ x. x < 128) c cs h)) (letters cs (All-tail (λ x. x < 128) c cs h))

letter_is : Always (λ c. c < 128) letter
letter_is state = let h = below 26 (lit< tt) state in omega (arith, h)

pub record IsBehind (octets : List ℕ) : Type 0 where
  pub utf8 : IsUtf8 octets
  pub short : length octets ≤ 3

behind : (e : ℕ) → IsBehind (behind_word e)
unfolding encode_utf8
behind e = go (e == 0) (e == 1) (e == 2)
  where
    go : (a b c : Bool) → IsBehind (if a then codes ". " else (if b then 226 ∷ 128 ∷ 168 ∷ [] else (if c then 8 ∷ [] else [])))
    go true b c = record { utf8 = (46 ∷ 32 ∷ [], (refl, refl)); short = lit≤ tt }
    go false true c = record { utf8 = (8232 ∷ [], (refl, refl)); short = lit≤ tt }
    go false false true = record { utf8 = (8 ∷ [], (refl, refl)); short = lit≤ tt }
    go false false false = record { utf8 = IsUtf8-nil; short = lit≤ tt }

text_is : Always IsTyped text
unfolding text
text_is state =
    let more = draw 12 state in
    let word = times (1 + more.0) letter more.1 in
    let few = below 12 (lit< tt) state in
    let long = count letter (1 + more.0) more.1 in
    let end = behind (draw 8 word.1).0 in
    record {
      utf8 = IsUtf8-append word.0 (behind_word (draw 8 word.1).0) (letters word.0 (every (λ c. c < 128) letter letter_is (1 + more.0) more.1)) end.utf8;
      short = omega (arith, few, long, end.short, length-append word.0 (behind_word (draw 8 word.1).0));
    }

-- a line that is typed between these moments
pub record IsSaid (least most : ℕ) (l : ScriptLine) : Type 0 where
  pub low : least ≤ l.at
  pub high : l.at ≤ most
  pub typed : IsTyped l.text

wider : (a b c d : ℕ) → c ≤ a → b ≤ d → (l : ScriptLine) → IsSaid a b l → IsSaid c d l
wider a b c d low high l h = let x = h.low in let y = h.high in record { low = omega arith; high = omega arith; typed = h.typed }

said : (n at : ℕ) → Always (λ ls. All (IsSaid at (at + n * 999)) ls) (script_from n at)
unfolding script_from
said zero at state = All-nil _
said (suc n) at state =
    let t = text state in
    let pause = draw 900 t.1 in
    let less = below 900 (lit< tt) t.1 in
    let next = at + (100 + pause.0) in
    All-cons (IsSaid at (at + suc n * 999)) _ _ (record { low = omega arith; high = omega arith; typed = text_is state })
    (All-weaker (IsSaid next (next + n * 999)) (IsSaid at (at + suc n * 999)) (wider next (next + n * 999) at (at + suc n * 999) (omega arith) (omega (arith, less))) _ (said n next pause.1))

ordered : (n at : ℕ) → Always InOrder (script_from n at)
unfolding script_from
ordered zero at state = tt
ordered (suc n) at state =
    let t = text state in
    let pause = draw 900 t.1 in
    let next = at + (100 + pause.0) in
    (All-weaker (IsSaid next (next + n * 999)) (λ l. at ≤ l.at) (λ l h. let x = h.low in omega arith) _ (said n next pause.1), ordered n next pause.1)

forty : (n at : ℕ) → Always (λ ls. length ls ≡ n) (script_from n at)
unfolding script_from
forty zero at state = refl
forty (suc n) at state =
    let t = text state in
    let pause = draw 900 t.1 in
    let e = forty n (at + (100 + pause.0)) pause.1 in
    omega (arith, e)

-- What is typed by one leg in 41 seconds: 40 lines, each of at most 15 octets.
pub record IsTypist (t : Typist) : Type 0 where
  pub first : t.first < 32768
  pub ordered : InOrder t.script
  pub said : All (IsSaid 0 41000) t.script
  pub lines : length t.script ≡ 40

typist_is : Always IsTypist typist
unfolding typist
typist_is state =
    let at = draw 1000 (draw 32768 state).1 in
    let soon = below 1000 (lit< tt) (draw 32768 state).1 in
    record {
      first = below 32768 (lit< tt) state;
      ordered = ordered 40 at.0 at.1;
      said = All-weaker (IsSaid at.0 (at.0 + 40 * 999)) (IsSaid 0 41000) (wider at.0 (at.0 + 40 * 999) 0 41000 (omega arith) (omega (arith, soon))) _ (said 40 at.0 at.1);
      lines = forty 40 at.0 at.1;
    }

-- ---- what becomes of packets
pub record IsInPlan (legs : ℕ) (p : PlanLine) : Type 0 where
  pub terminal : p.terminal < legs
  pub delay : IsShort p.what

late_is : (a ms : ℕ) → a < 2000 → Delay a ≡ Delay ms → ms ≤ 60000
late_is a ms h e = let same : a ≡ ms = cc in omega (arith, same)

happens : Always IsShort what
happens state = go ((draw 4 state).0 == 2) ((draw 4 state).0 == 3) (draw 4 state).1
  where
    go : (a b : Bool) (s : ℕ) → IsShort ((if a then delay else give (if b then Twice else Lose)) s).0
    go true b s = λ ms e. late_is (draw 2000 s).0 ms (below 2000 (lit< tt) s) e
    go false true s = λ ms e. absurd (cc e)
    go false false s = λ ms e. absurd (cc e)

in_plan : (legs : ℕ) → 0 < legs → Always (IsInPlan legs) (plan_line legs)
unfolding plan_line
in_plan legs h state =
    let terminal = draw legs state in
    let packet = draw 400 terminal.1 in
    record { terminal = below legs h state; delay = happens packet.1 }

-- what stays of a list without its repeats
stays : (P : PlanLine → Type 0) (ps : List PlanLine) → All P ps → All P (without_repeats ps)
stays P [] h = All-nil P
stays P (p ∷ ps) h = All-cons P p _ (All-head P p ps h) (All-filter (λ q. not (is_same_packet p q)) P (without_repeats ps) (stays P ps (All-tail P p ps h)))

no_longer : (ps : List PlanLine) → length (without_repeats ps) ≤ length ps
no_longer [] = lit≤ tt
no_longer (p ∷ ps) =
    let keep : PlanLine → Bool = λ q. not (is_same_packet p q) in
    let a = length-filter keep (without_repeats ps) in
    let b = count_by-le-length keep (without_repeats ps) in
    let c = no_longer ps in
    omega (arith, a, b, c)

other : (p : PlanLine) (ps : List PlanLine) → All (λ q. is_same_packet p q ≡ false) (filter (λ q. not (is_same_packet p q)) ps)
other p ps =
    let keep : PlanLine → Bool = λ q. not (is_same_packet p q) in
    All-weaker (λ q. keep q ≡ true) (λ q. is_same_packet p q ≡ false) (λ q e. not_true (is_same_packet p q) e) _ (filter_passes keep ps)

abbrev Other : PlanLine → PlanLine → Type 0
Other a b = is_same_packet a b ≡ false

all_differ : (ps : List PlanLine) → AllPairs Other (without_repeats ps)
all_differ [] = λ i j d less within. absurd (omega arith)
all_differ (p ∷ ps) = AllPairs-cons Other p _ (other p (without_repeats ps)) (AllPairs-filter Other (λ q. not (is_same_packet p q)) (without_repeats ps) (all_differ ps))

-- ---- the legs
digit : (d : ℕ) → d < 10 → is_name_octet (48 + d) ≡ true
digit d h =
    let low : nat_le 48 (48 + d) ≡ true = le-leb 48 (48 + d) (omega arith) in
    let high : nat_le (48 + d) 57 ≡ true = le-leb (48 + d) 57 (omega arith) in
    rw low (rw high refl)

one_digit : (d : ℕ) → d < 10 → is_name (codes "L" ++ (48 + d) ∷ []) ≡ true
one_digit d h = let e = digit d h in rw e refl

two_digits : (d e : ℕ) → d < 10 → e < 10 → is_name (codes "L" ++ (48 + d) ∷ (48 + e) ∷ []) ≡ true
two_digits d e h k = let x = digit d h in let y = digit e k in rw x (rw y refl)

two_of : (i : ℕ) → 10 ≤ i → i < 100 → decimal i ≡ (48 + i / 10) ∷ (48 + i % 10) ∷ []
two_of i low high =
    let tens : i / 10 < 10 = omega arith in
    decimal_step i low (omega arith) ∙ ap (λ ds. ds ++ (48 + i % 10) ∷ []) (decimal_digit (i / 10) tens)

pub named : (i : ℕ) → i < 100 → IsTrue (is_name (codes "L" ++ decimal i))
named i h = elim (cases_lt i 10) [
  | inl less ↦ subst (λ ds. is_name (codes "L" ++ ds) ≡ true) (sym (decimal_digit i less)) (one_digit i less)
  | inr more ↦ subst (λ ds. is_name (codes "L" ++ ds) ≡ true) (sym (two_of i more h)) (two_digits (i / 10) (i % 10) (omega arith) (mod-lt i (lit< tt)))
]

leg_is : (i : ℕ) → i < 100 → IsLeg (leg i)
leg_is i h = record {
  name = named i h;
  types = record { t140 = record { low = lit≤ tt; high = lit≤ tt }; red = record { low = lit≤ tt; high = lit≤ tt }; differ = λ e. omega (arith, e) };
  generations = lit≤ tt;
  stay = record { from = lit≤ tt; until = λ end e. absurd (cc e); some = λ end e. absurd (cc e) };
}

two_differ : (i j : ℕ) → i < j → j < 100 → Differ (leg i) (leg j)
two_differ i j less h = record {
  names = λ e. apart (append_cancel_left (codes "L") (decimal i) (decimal j) e);
  ssrcs = λ e. omega (arith, e);
  outputs = λ e. apart (append_cancel_right (decimal i) (decimal j) (codes ".out") e);
}
  where
    apart : decimal i ≡ decimal j → ⊥
    apart e = let same = decimal_injective i j (omega arith) (omega arith) e in omega (arith, same)

abbrev legs_of : ℕ → List LegLine
legs_of n = map leg (range_with_len 0 n)

leg_at : (n k : ℕ) (d : LegLine) → k < n → get_or (legs_of n) k d ≡ leg k
leg_at n k d h = get_or-map-range_with_len leg 0 n k k d h (omega arith)

legs_are : (P : LegLine → Type 0) (n : ℕ) → n ≤ 16 → ((i : ℕ) → i < 100 → P (leg i)) → All P (legs_of n)
legs_are P n few h = λ k d within.
    let here : k < n = omega (arith, length-map-range_with_len leg 0 n) in
    subst P (sym (leg_at n k d here)) (h k (omega arith))

legs_keep : (n : ℕ) → n ≤ 16 → AreLegs (legs_of n)
legs_keep n few = record {
  most = omega (arith, length-map-range_with_len leg 0 n);
  each = legs_are IsLeg n few leg_is;
  differ = λ i j d less within.
      let here : j < n = omega (arith, length-map-range_with_len leg 0 n) in
      subst (λ a. Differ a (get_or (legs_of n) j d)) (sym (leg_at n i d (omega arith))) (subst (λ b. Differ (leg i) b) (sym (leg_at n j d here)) (two_differ i j less (omega arith)));
}

-- ---- the conference
conference_is : (n : ℕ) (lines : List PlanLine) → 2 ≤ n → n ≤ 16 → All (IsInPlan n) lines → length lines ≤ 200 → IsConference (conference_of n (without_repeats lines))
conference_is n lines some few plan short = record {
  two = omega (arith, length-map-range_with_len leg 0 n);
  legs = legs_keep n few;
  room = λ t. let a = count_by-le-length (λ (l : LegLine). stays_at t l.stay) (legs_of n) in omega (arith, length-map-range_with_len leg 0 n, a);
  tick = record { low = lit≤ tt; high = lit≤ tt };
  spacing = record { low = lit≤ tt; high = lit≤ tt };
  wait = lit≤ tt;
  turns = record { low = lit≤ tt; high = lit≤ tt };
  relabel = λ n e. absurd (cc e);
  mtu = λ n e. absurd (cc e);
  mixer = record { seq = lit< tt; differs = legs_are (λ l. l.ssrc ≢ mixer.ssrc) n few (λ i h e. omega (arith, e)) };
  plan = record {
    most = let a = no_longer lines in omega arith;
    terminals = All-weaker (IsInPlan n) (λ p. p.terminal < length (legs_of n)) (λ p h. let x = h.terminal in omega (arith, length-map-range_with_len leg 0 n)) _ (stays (IsInPlan n) lines plan);
    delays = All-weaker (IsInPlan n) (λ p. IsShort p.what) (λ p h. h.delay) _ (stays (IsInPlan n) lines plan);
    differ = all_differ lines;
  };
  service = record { gone = λ n e. absurd (cc e); operator = λ o e. absurd (cc e); recorded = λ p e. absurd (cc e) };
}

-- ---- the whole
-- What is generated: as many scripts and first numbers as legs.
pub record IsMade (made : Generated) : Type 0 where
  pub conference : IsConference made.conference
  pub few : length made.conference.legs ≤ 16
  pub scripts : All AreLines made.scripts
  pub each_script : length made.scripts ≡ length made.conference.legs
  pub firsts : All (λ n. n < 32768) made.firsts
  pub each_first : length made.firsts ≡ length made.conference.legs
  pub said : All (λ script. All (IsSaid 0 41000) script) made.scripts
  pub forty : All (λ script. length script ≡ 40) made.scripts

lines_are : (t : Typist) → IsTypist t → AreLines t.script
lines_are t h = record {
  ordered = h.ordered;
  early = All-weaker (IsSaid 0 41000) (λ l. l.at ≤ LAST_MOMENT) (λ l x. let y = x.high in omega arith) _ h.said;
  texts = All-weaker (IsSaid 0 41000) (λ l. IsUtf8 l.text) (λ l x. x.typed.utf8) _ h.said;
}

each : (P : Typist → Type 0) (Q : List ScriptLine → Type 0) → ((t : Typist) → P t → Q t.script) → (ts : List Typist) → All P ts → All Q (map (λ t. t.script) ts)
each P Q f ts h = All-map Q (λ t. t.script) ts (All-weaker P (λ t. Q t.script) f ts h)

made_is : Always IsMade drawn
made_is state =
    let more = draw 15 state in
    let typists = times (2 + more.0) typist more.1 in
    let lines = times 200 (plan_line (2 + more.0)) typists.1 in
    let legs = 2 + more.0 in
    let less = below 15 (lit< tt) state in
    let as_many = count typist legs more.1 in
    let all = every IsTypist typist typist_is legs more.1 in
    record {
      conference = conference_is legs lines.0 (omega arith) (omega (arith, less)) (every (IsInPlan legs) (plan_line legs) (in_plan legs (omega arith)) 200 typists.1) (let e = count (plan_line legs) 200 typists.1 in omega (arith, e));
      few = omega (arith, less, length-map-range_with_len leg 0 legs);
      scripts = each IsTypist AreLines lines_are typists.0 all;
      each_script = length-map typists.0 (λ (t : Typist). t.script) ∙ (as_many ∙ sym (length-map-range_with_len leg 0 legs));
      firsts = All-map (λ n. n < 32768) (λ (t : Typist). t.first) typists.0 (All-weaker IsTypist (λ t. t.first < 32768) (λ t h. h.first) _ all);
      each_first = length-map typists.0 (λ (t : Typist). t.first) ∙ (as_many ∙ sym (length-map-range_with_len leg 0 legs));
      said = each IsTypist (λ script. All (IsSaid 0 41000) script) (λ t h. h.said) typists.0 all;
      forty = each IsTypist (λ script. length script ≡ 40) (λ t h. h.lines) typists.0 all;
    }

pub generated_is : (n : ℕ) → IsMade (generated n)
unfolding generated
generated_is n = made_is n
