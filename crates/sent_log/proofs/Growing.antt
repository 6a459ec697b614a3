-- Where turns and texts are appended, what entries stand for stays.
use Rattle.std.proofs.Common.{◌≡◌, ℕ, zero, suc, ◌+◌, ◌<◌, ◌≤◌, List, [], ◌∷◌, ◌++◌, length, get_or, take, drop, set, refl, ap, subst, sym, ◌∙◌, arith, append_assoc}
use Rattle.std.specs.Prelude.{◌-◌, All, map, reverse, slice_index, slice_index_or}
use Rattle.std.proofs.lemmas.List.{append-nil, drop-append-le, get_or_append_left, get_or_read, length-append, length-drop, length-set, length_push, take-append-le}
use Rattle.std.proofs.lemmas.List.Elements.{All-tail}
use Rattle.stream_spec.specs.Own.{Sent}
use Rattle.packetizer.specs.Speakers.{text_of}
use Rattle.sent_log.specs.declared.logs.SentLog.TheInside.{Inside}
use Rattle.sent_log.specs.declared.terminals.LoggedPacket.{LoggedPacket}
use Rattle.sent_log.specs.declared.terminals.TerminalLog.{TerminalLog}
use Rattle.sent_log.specs.declared.turns.Turn.{Turn}
use Rattle.sent_log.specs.Insides.{IsEntry, IsLog, IsTerminal, sending_of, sent_by, state_of, turn_at}
use Rattle.sent_log.specs.Lists.{EachGrows, Grows, list_at, octets_at}
use Rattle.sent_log.specs.States.{Sending, State, said, sents}

-- ---- one list

pub grows_same : {X : Type 0} (xs : List X) → Grows xs xs
grows_same xs = ([], sym (append-nil xs))

pub grows_by : {X : Type 0} (xs ys more : List X) → ys ≡ xs ++ more → Grows xs ys
grows_by xs ys more e = (more, e)

pub grows_on : {X : Type 0} (a b c : List X) → Grows a b → Grows b c → Grows a c
grows_on {X} a b c p q = (p.0 ++ q.0, q.1 ∙ (ap (λ (xs : List X). xs ++ q.0) p.1 ∙ append_assoc a p.0 q.0))

pub grown_length : {X : Type 0} (a b : List X) → Grows a b → length a ≤ length b
grown_length a b p = omega (arith, ap length p.1, length-append a p.0)

-- ---- lists of texts

pub each_same : (xs : List (List ℕ)) → EachGrows xs xs
each_same xs = record { count = omega arith; each = λ n. grows_same (list_at xs n) }

pub each_on : (a b c : List (List ℕ)) → EachGrows a b → EachGrows b c → EachGrows a c
each_on a b c p q = record {
  count = omega (arith, p.count, q.count);
  each = λ n. grows_on (list_at a n) (list_at b n) (list_at c n) (p.each n) (q.each n);
}

list_push : (xs : List (List ℕ)) (n : ℕ) → list_at (xs ++ [] ∷ []) n ≡ list_at xs n
list_push [] zero = refl
list_push [] (suc n) = refl
list_push (x ∷ xs) zero = refl
list_push (x ∷ xs) (suc n) = list_push xs n

-- an empty list more
pub each_push : (xs : List (List ℕ)) → EachGrows xs (xs ++ [] ∷ [])
each_push xs = record {
  count = omega (arith, length_push xs []);
  each = λ n. subst (λ (ys : List ℕ). Grows (list_at xs n) ys) (sym (list_push xs n)) (grows_same (list_at xs n));
}

set_grows : (xs : List (List ℕ)) (i n : ℕ) (ys : List ℕ) → Grows (list_at xs i) ys → Grows (list_at xs n) (list_at (set xs i ys) n)
set_grows [] i n ys g = grows_same []
set_grows (x ∷ xs) zero zero ys g = g
set_grows (x ∷ xs) zero (suc n) ys g = grows_same (list_at xs n)
set_grows (x ∷ xs) (suc i) zero ys g = grows_same x
set_grows (x ∷ xs) (suc i) (suc n) ys g = set_grows xs i n ys g

-- one list grew
pub each_set : (xs : List (List ℕ)) (i : ℕ) (ys : List ℕ) → Grows (list_at xs i) ys → EachGrows xs (set xs i ys)
each_set xs i ys g = record {
  count = omega (arith, length-set xs i ys);
  each = λ n. set_grows xs i n ys g;
}

pub each_written : (xs : List (List ℕ)) (i : ℕ) (x ys : List ℕ) → i < length xs → x ≡ get_or xs i x → Grows x ys → EachGrows xs (set xs i ys)
each_written xs i x ys l e g = each_set xs i ys (subst (λ (zs : List ℕ). Grows zs ys) (get_or_read xs i x l e []) g)

-- ---- an entry

pub octets_still : (xs ys : List ℕ) (place len : ℕ) → Grows xs ys → place + len ≤ length xs → octets_at ys place len ≡ octets_at xs place len
octets_still xs ys place len g w =
    ap (λ (zs : List ℕ). octets_at zs place len) g.1
    ∙ (ap (λ (zs : List ℕ). take len zs) (drop-append-le place xs g.0 (omega arith)) ∙ take-append-le len (drop place xs) g.0 (omega (arith, length-drop place xs)))

turn_still : (old new : List Turn) (n : ℕ) → Grows old new → n < length old → turn_at new n ≡ turn_at old n
turn_still old new n g l = ap (λ (ts : List Turn). turn_at ts n) g.1 ∙ get_or_append_left old g.0 (record { now = 0; media = 0 }) n l

entry_same : (turns turns' : List Turn) (texts texts' : List (List ℕ)) (first : ℕ) (sources : List ℕ) (e : LoggedPacket) → Grows turns turns' → EachGrows texts texts' → IsEntry turns texts first sources e
    → sent_by turns' texts' first sources e ≡ sent_by turns texts first sources e
entry_same turns turns' texts texts' first sources e g h k =
    let turn = turn_still turns turns' e.turn g k.turn in
    let text = octets_still (list_at texts (first + e.source)) (list_at texts' (first + e.source)) e.place e.len (h.each (first + e.source)) k.within in
    ap (λ (t : Turn). (t.now, text_of sources e.source t.media (octets_at (list_at texts' (first + e.source)) e.place e.len))) turn
    ∙ ap (λ (xs : List ℕ). ((turn_at turns e.turn).now, text_of sources e.source (turn_at turns e.turn).media xs)) text

entry_still : (turns turns' : List Turn) (texts texts' : List (List ℕ)) (first : ℕ) (sources : List ℕ) (e : LoggedPacket) → Grows turns turns' → EachGrows texts texts' → IsEntry turns texts first sources e → IsEntry turns' texts' first sources e
entry_still turns turns' texts texts' first sources e g h k = record {
  turn = omega (arith, k.turn, grown_length turns turns' g);
  source = k.source;
  short = k.short;
  within = omega (arith, k.within, grown_length (list_at texts (first + e.source)) (list_at texts' (first + e.source)) (h.each (first + e.source)));
}

-- ---- a terminal, and all of them

pub map_same : {X Y : Type 0} (f g : X → Y) (xs : List X) → All (λ x. f x ≡ g x) xs → map f xs ≡ map g xs
map_same f g [] a = refl
map_same {X} {Y} f g (x ∷ xs) a =
    ap (λ (y : Y). y ∷ map f xs) (a 0 x (omega arith)) ∙ ap (λ (ys : List Y). g x ∷ ys) (map_same f g xs (All-tail (λ (z : X). f z ≡ g z) x xs a))

terminal_same : (turns turns' : List Turn) (texts texts' : List (List ℕ)) (t : TerminalLog) → Grows turns turns' → EachGrows texts texts' → IsTerminal turns texts t → sending_of turns' texts' t ≡ sending_of turns texts t
terminal_same turns turns' texts texts' t g h k =
    let sources = t.sources.items in
    ap (λ (sent : List (ℕ × Sent)). record { settings = t.settings; sources = sources; sent = reverse sent })
    (map_same (sent_by turns' texts' t.first sources) (sent_by turns texts t.first sources) t.entries.items
    (λ i d l. entry_same turns turns' texts texts' t.first sources _ g h (k.entries i d l)))

terminal_still : (turns turns' : List Turn) (texts texts' : List (List ℕ)) (t : TerminalLog) → Grows turns turns' → EachGrows texts texts' → IsTerminal turns texts t → IsTerminal turns' texts' t
terminal_still turns turns' texts texts' t g h k = record {
  settings = k.settings;
  distinct = k.distinct;
  lists = omega (arith, k.lists, h.count);
  each = k.each;
  entries = λ i d l. entry_still turns turns' texts texts' t.first t.sources.items _ g h (k.entries i d l);
  runs = λ s d l.
      let r = k.runs s d l in
      let grows = h.each (t.first + s) in record {
        order = r.order;
        within = omega (arith, r.within, grown_length (list_at texts (t.first + s)) (list_at texts' (t.first + s)) grows);
        is = λ j. octets_still (list_at texts (t.first + s)) (list_at texts' (t.first + s)) (slice_index_or t.runs.items s d).from ((slice_index_or t.runs.items s d).to - (slice_index_or t.runs.items s d).from) grows (omega (arith, r.order, r.within))
            ∙ (r.is j ∙ ap (λ (x : Sending). said (slice_index t.sources.items s) (sents x.sent)) (sym (terminal_same turns turns' texts texts' t g h k)));
      };
}

pub all_same : (turns turns' : List Turn) (texts texts' : List (List ℕ)) (ts : List TerminalLog) → Grows turns turns' → EachGrows texts texts' → All (IsTerminal turns texts) ts
    → map (sending_of turns' texts') ts ≡ map (sending_of turns texts) ts
all_same turns turns' texts texts' ts g h a = map_same (sending_of turns' texts') (sending_of turns texts) ts (λ i d l. terminal_same turns turns' texts texts' _ g h (a i d l))

pub all_still : (turns turns' : List Turn) (texts texts' : List (List ℕ)) (ts : List TerminalLog) → Grows turns turns' → EachGrows texts texts' → All (IsTerminal turns texts) ts → All (IsTerminal turns' texts') ts
all_still turns turns' texts texts' ts g h a = λ i d l. terminal_still turns turns' texts texts' _ g h (a i d l)

-- where the lists of a log grew
pub lists_same : (i : Inside) (log : State) (texts : List (List ℕ)) → EachGrows i.texts.items texts → IsLog i → state_of i ≡ log → map (sending_of i.turns.items texts) i.terminals.items ≡ log
lists_same i log texts h a v = all_same i.turns.items i.turns.items i.texts.items texts i.terminals.items (grows_same i.turns.items) h a ∙ v

pub lists_still : (i : Inside) (texts : List (List ℕ)) → EachGrows i.texts.items texts → IsLog i → All (IsTerminal i.turns.items texts) i.terminals.items
lists_still i texts h a = all_still i.turns.items i.turns.items i.texts.items texts i.terminals.items (grows_same i.turns.items) h a
