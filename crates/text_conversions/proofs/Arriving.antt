-- What a script sends arrives, all of it in time.
use Rattle.std.proofs.Common.{◌≡◌, ℕ, suc, ◌+◌, ◌%◌, ◌<◌, ◌≤◌, ◌^◌, Bool, true, false, cond, inl, inr, Some, List, [], ◌∷◌, ◌++◌, length, refl, ap, subst, sym, ◌∙◌, arith}
use Rattle.std.specs.Prelude.{map, max, not, ◌==◌, ◌&&◌, ◌||◌, nat_lt, nat_le, All}
use Rattle.std.specs.List.{list_any}
use Rattle.std.proofs.lemmas.Bool.Decides.{nat_tests}
use Rattle.wire_spec.specs.Packets.{Packet, Arrival}
use Rattle.wire_spec.specs.Text.{text_of}
use Rattle.wire_spec.specs.Dump.{Item, sent_item, latest, arrived, arrivals_with, arrivals_after, arrivals, dump, usual_limit, Recording}
use Rattle.file_spec.specs.Script.{ScriptLine}
use Rattle.stream_spec.specs.Lists.{In}
use Rattle.stream_spec.specs.Numbering.{Numbered, nearest, greatest, number_after, number_it, numbered, first_number, has_number, distinct_from, in_time}
use Rattle.stream_spec.specs.History.{History, Entry, Placed, Lawful, placed, entry_of, top_place, IsNear, Come, by_place, places}
use Rattle.stream_spec.specs.Own.{Stream, own_packet, come_from, NearEach, packet_after, entry_after, sent_history}
use Rattle.stream_spec.specs.Typed.{Event, Text, Ask, Turned, sents, entry_at, entries, waiting, due_at, IsScript}
use Rattle.stream_spec.proofs.Lists.{in_left, in_right}
use Rattle.stream_spec.proofs.Grows.{grown, placed_grown, packet_stays}
use Rattle.stream_spec.proofs.Sent.{the_last, last_packet, length_sent, sent_own}
use Rattle.stream_spec.proofs.OwnPackets.{names_own, own_come}
use Rattle.stream_spec.proofs.Typing.{paced}
use Rattle.packetizer.specs.declared.senders.SenderSettings.{SenderSettings}
use Rattle.packetizer.specs.SenderSettings.{AreSettings, stream_of}
use Rattle.packetizer.specs.SenderStanding.{sent_by, history_sent}
use Rattle.wire_spec.specs.SentPackets.{packet_written}
use Rattle.packetizer.proofs.Sending.{length_sents}
use Rattle.command_spec.specs.Scripts.{AreLines, events_through}
use Rattle.text_conversions.specs.Scripts.{records_of, records_sent, recording_sent}
use Rattle.text_conversions.proofs.ReadBack.{Backs, all_back, items_back}
use Rattle.text_conversions.proofs.Typed.{script_through, lawful_sent}
use Rattle.wire_spec.specs.declared.limits.TheConstants.{LAST_RECORD_MOMENT}
use Rattle.stream_spec.proofs.Plain.{place_to as place_under, put_last as by_place_last}

-- the history of entries
abbrev pub hist : SenderSettings → List Turned → History
hist settings es = sent_history (stream_of settings) (sents es)

-- the entries with their moments, newest first
abbrev pub pairs : SenderSettings → List Turned → List (ℕ × Placed)
pairs settings [] = []
pairs settings (e ∷ es) = (e.at, the_last (stream_of settings) (sents es) e.sent) ∷ pairs settings es

abbrev pub arrivals_sent : SenderSettings → List Turned → List Arrival
arrivals_sent settings [] = []
arrivals_sent settings (e ∷ es) = record { time = e.at; packet = packet_after (stream_of settings) (sents es) e.sent } ∷ arrivals_sent settings es

-- ---- the moments never fall
abbrev Rises : List Turned → Type 0
Rises [] = Unit {0}
Rises (e ∷ es) = ((f : Turned) → In f es → f.at ≤ e.at) × Rises es

rises : (c : Stream) (i : ℕ) (past : List Event) → c.generations ≤ 3 → 1 ≤ i → IsScript past → Rises (entries c i past)
rises c i [] few o s = tt
rises c i (Text text ∷ past) few o s = rises c i past few o s.1
rises c i (Ask t ∷ past) few o s = go (due_at c i past t) (rises c i past few o s.2)
  where
    go : (b : Bool) → Rises (entries c i past) → Rises (cond b (entry_at c (entries c i past) (waiting c i past) t ∷ entries c i past) (entries c i past))
    go true r = (λ f j. let p = (paced c i past few o s.2).early f j in omega (arith, p.1, s.0), r)
    go false r = r

-- ---- the recording's arrivals
after_more : (settings : SenderSettings) (xs : List Item) (x : Item) (past : List Arrival) → arrivals_after settings.ssrc settings.payload_types past (xs ++ x ∷ []) ≡ arrivals_with settings.ssrc settings.payload_types x (arrivals_after settings.ssrc settings.payload_types past xs)
after_more settings [] x past = refl
after_more settings (y ∷ xs) x past = after_more settings xs x (arrivals_with settings.ssrc settings.payload_types y past)

map_more : {X Y : Type 0} (f : X → Y) (xs : List X) (x : X) → map f (xs ++ x ∷ []) ≡ map f xs ++ f x ∷ []
map_more f [] x = refl
map_more f (y ∷ xs) x = ap (λ zs. f y ∷ zs) (map_more f xs x)

time_is : (settings : SenderSettings) (es : List Turned) (t : ℕ) → ((f : Turned) → In f es → f.at ≤ t) → max t (latest (arrivals_sent settings es)) ≡ t
time_is settings [] t h = omega arith
time_is settings (e ∷ es) t h = let l = h e (inl refl) in omega arith

arrive : (settings : SenderSettings) (es : List Turned) → Backs settings es → Rises es → arrivals_after settings.ssrc settings.payload_types [] (map sent_item (records_of settings es)) ≡ arrivals_sent settings es
arrive settings [] b r = refl
arrive settings (e ∷ es) b r =
    let p : Packet = packet_after (stream_of settings) (sents es) e.sent in
    let one : ℕ × List ℕ = (e.at, packet_written settings.payload_types p) in
    ap (arrivals_after settings.ssrc settings.payload_types []) (map_more sent_item (records_of settings es) one)
    ∙ (after_more settings (map sent_item (records_of settings es)) (sent_item one) []
    ∙ (ap (λ (past : List Arrival). arrived e.at (text_of (packet_written settings.payload_types p) (Some settings.ssrc) settings.payload_types) past) (arrive settings es b.1 r.1)
    ∙ (ap (λ q. arrived e.at q (arrivals_sent settings es)) b.0.text_is
    ∙ ap (λ (n : ℕ). let a : Arrival = record { time = n; packet = p } in a ∷ arrivals_sent settings es) (time_is settings es e.at r.0))))

-- ---- they come from the history
pairs_in : (settings : SenderSettings) (es : List Turned) (a : ℕ × Placed) → In a (pairs settings es) → In a.1 (placed (hist settings es))
pairs_in settings [] a i = absurd i
pairs_in settings (e ∷ es) a i =
    let last : Placed = the_last (stream_of settings) (sents es) e.sent in
    subst (λ (xs : List Placed). In a.1 xs) (sym (placed_grown (hist settings es) (entry_after settings.generations (sents es) e.sent))) (elim i [
      | inl q ↦ in_right a.1 (placed (hist settings es)) (last ∷ []) (inl (ap (λ (x : ℕ × Placed). x.1) q))
      | inr j ↦ in_left a.1 (placed (hist settings es)) (last ∷ []) (pairs_in settings es a j)
    ])

come_stays : (h : History) (f : Entry) (xs : List (ℕ × Placed)) → ((a : ℕ × Placed) → In a xs → In a.1 (placed h)) → come_from (grown h f) xs ≡ come_from h xs
come_stays h f [] i = refl
come_stays h f (a ∷ xs) i =
    ap (λ (p : Packet). let x : Arrival = record { time = a.0; packet = p } in x ∷ come_from (grown h f) xs) (packet_stays h f a.1 (i a (inl refl)))
    ∙ ap (λ (ys : List Arrival). let x : Arrival = record { time = a.0; packet = own_packet h a.1 } in x ∷ ys) (come_stays h f xs (λ b j. i b (inr j)))

come_is : (settings : SenderSettings) (es : List Turned) → come_from (hist settings es) (pairs settings es) ≡ arrivals_sent settings es
come_is settings [] = refl
come_is settings (e ∷ es) =
    ap (λ (p : Packet). let x : Arrival = record { time = e.at; packet = p } in x ∷ come_from (hist settings (e ∷ es)) (pairs settings es)) (last_packet (stream_of settings) (sents es) e.sent)
    ∙ ap (λ (ys : List Arrival). let x : Arrival = record { time = e.at; packet = packet_after (stream_of settings) (sents es) e.sent } in x ∷ ys)
    (come_stays (hist settings es) (entry_after settings.generations (sents es) e.sent) (pairs settings es) (pairs_in settings es) ∙ come_is settings es)

-- ---- each is near, and in time
last_place : (settings : SenderSettings) (es : List Turned) (e : Turned) → (the_last (stream_of settings) (sents es) e.sent).place ≡ length es
last_place settings es e = length_sent settings.generations (sents es) ∙ length_sents es

-- these are the first entries of a lawful history
record Front (settings : SenderSettings) (h : History) (es : List Turned) : Type 0 where
  law : Lawful h
  first : h.first ≡ settings.seq
  within : (a : ℕ × Placed) → In a (pairs settings es) → In a.1 (placed h)

front_of : (settings : SenderSettings) (h : History) (e : Turned) (es : List Turned) → Front settings h (e ∷ es) → Front settings h es
front_of settings h e es f = record { law = f.law; first = f.first; within = λ a i. f.within a (inr i) }

named_is : (settings : SenderSettings) (h : History) (e : Turned) (es : List Turned) → Front settings h (e ∷ es)
    → entry_of h (own_packet h (the_last (stream_of settings) (sents es) e.sent)) ≡ the_last (stream_of settings) (sents es) e.sent
named_is settings h e es f = names_own h (the_last (stream_of settings) (sents es) e.sent) f.law (f.within (e.at, the_last (stream_of settings) (sents es) e.sent) (inl refl))

top_is : (settings : SenderSettings) (h : History) (es : List Turned) → Front settings h es → (top_place h (come_from h (pairs settings es)) ≤ length es) × (length es ≤ top_place h (come_from h (pairs settings es)) + 1)
top_is settings h [] f = (omega arith, omega arith)
top_is settings h (e ∷ es) f =
    let r = top_is settings h es (front_of settings h e es f) in
    let n = ap (λ (x : Placed). x.place) (named_is settings h e es f) ∙ last_place settings es e in
    (omega (arith, r.0, r.1, n), omega (arith, r.0, r.1, n))

near_one : (settings : SenderSettings) (h : History) (es : List Turned) (k : ℕ) → k ≡ length es → Front settings h es → IsNear h k (come_from h (pairs settings es))
near_one settings h [] k e f = tt
near_one settings h (x ∷ es) k e f = let r = top_is settings h (x ∷ es) f in (omega (arith, r.1), omega (arith, r.0))

near : (settings : SenderSettings) (h : History) (es : List Turned) → Front settings h es → NearEach h (pairs settings es)
near settings h [] f = tt
near settings h (e ∷ es) f =
    let g = front_of settings h e es f in
    (f.within (e.at, the_last (stream_of settings) (sents es) e.sent) (inl refl), (near_one settings h es (the_last (stream_of settings) (sents es) e.sent).place (last_place settings es e) g, near settings h es g))

-- ---- the numbers count up by one
abbrev start : SenderSettings → ℕ
start settings = settings.seq % 65536 + 65536

nearest_next : (first n top seq : ℕ) → top + 1 ≡ first % 65536 + 65536 + n → seq ≡ (first + n) % 65536 → nearest top seq ≡ first % 65536 + 65536 + n
nearest_next first n top seq a b = omega arith

first_seq : (first n seq : ℕ) → n ≡ 0 → seq ≡ (first + n) % 65536 → seq + 65536 ≡ first % 65536 + 65536 + n
first_seq first n seq a b = omega arith

seq_is : (settings : SenderSettings) (h : History) (e : Turned) (es : List Turned) → Front settings h (e ∷ es) → (own_packet h (the_last (stream_of settings) (sents es) e.sent)).seq ≡ (settings.seq + length es) % 65536
seq_is settings h e es f = ap (λ n. (n + (the_last (stream_of settings) (sents es) e.sent).place) % 65536) f.first ∙ ap (λ n. (settings.seq + n) % 65536) (last_place settings es e)

record Counted (settings : SenderSettings) (h : History) (es : List Turned) : Type 0 where
  below : (u : Numbered) → In u (numbered (come_from h (pairs settings es))) → u.number < start settings + length es
  top : greatest (numbered (come_from h (pairs settings es))) ≤ start settings + length es
  next : (seq : ℕ) → seq ≡ (settings.seq + length es) % 65536 → number_after (numbered (come_from h (pairs settings es))) seq ≡ start settings + length es

counted : (settings : SenderSettings) (h : History) (es : List Turned) → Front settings h es → Counted settings h es
counted settings h [] f = record { below = λ u i. absurd i; top = omega arith; next = λ seq q. first_seq settings.seq 0 seq refl q }
counted settings h (e ∷ es) f =
    let r = counted settings h es (front_of settings h e es f) in
    let number = r.next (own_packet h (the_last (stream_of settings) (sents es) e.sent)).seq (seq_is settings h e es f) in
    let most : greatest (numbered (come_from h (pairs settings (e ∷ es)))) + 1 ≡ start settings + length (e ∷ es) = greatest_is (numbered (come_from h (pairs settings es))) _ number r.below in
    record {
      below = λ u i. elim i [ inl q ↦ omega (arith, number, ap (λ (x : Numbered). x.number) q) | inr j ↦ omega (arith, r.below u j) ];
      top = omega (arith, most);
      next = λ seq q. nearest_next settings.seq (length (e ∷ es)) (greatest (numbered (come_from h (pairs settings (e ∷ es))))) seq most q;
    }
  where
    below_all : (past : List Numbered) (n : ℕ) → 0 < n → ((u : Numbered) → In u past → u.number < n) → greatest past < n
    below_all [] n l b = omega arith
    below_all (u ∷ past) n l b = let r = below_all past n l (λ v i. b v (inr i)) in let k = b u (inl refl) in omega arith

    greatest_is : (past : List Numbered) (n : ℕ) → n ≡ start settings + length es → ((u : Numbered) → In u past → u.number < start settings + length es) → max (greatest past) n + 1 ≡ start settings + length (e ∷ es)
    greatest_is past n q b = let r = below_all past (start settings + length es) (omega arith) b in omega arith

-- what has a greater number than all before it is in time
first_le : (past : List Numbered) (m n : ℕ) → m ≤ n → ((u : Numbered) → In u past → u.number < n) → first_number m past ≤ n
first_le [] m n l b = l
first_le (u ∷ past) m n l b = first_le past u.number n (let k = b u (inl refl) in omega arith) (λ v i. b v (inr i))

none_same : (past : List Numbered) (n : ℕ) → ((u : Numbered) → In u past → u.number < n) → has_number past n ≡ false
none_same [] n b = refl
none_same (u ∷ past) n b =
    let other : (u.number == n) ≡ false = (let k = b u (inl refl) in grind (arith, nat_tests)) in
    ap (λ t. t || has_number past n) other ∙ none_same past n (λ v i. b v (inr i))

none_greater : (wait t : ℕ) (past : List Numbered) (n : ℕ) → ((u : Numbered) → In u past → u.number < n) → list_any (λ x. nat_lt n x.number && nat_le (x.time + wait) t) past ≡ false
none_greater wait t [] n b = refl
none_greater wait t (u ∷ past) n b =
    let other : nat_lt n u.number ≡ false = (let k = b u (inl refl) in grind (arith, nat_tests)) in
    ap (λ q. (q && nat_le (u.time + wait) t) || list_any (λ x. nat_lt n x.number && nat_le (x.time + wait) t) past) other ∙ none_greater wait t past n (λ v i. b v (inr i))

none_distinct : (past : List Numbered) (n : ℕ) → ((u : Numbered) → In u past → u.number < n) → distinct_from (suc n) past ≡ 0
none_distinct [] n b = refl
none_distinct (u ∷ past) n b =
    let other : nat_le (suc n) u.number ≡ false = (let k = b u (inl refl) in grind (arith, nat_tests)) in
    let r = none_distinct past n (λ v i. b v (inr i)) in
    ap (λ q. cond (q && not (has_number past u.number)) 1 0 + distinct_from (suc n) past) other ∙ omega arith

greatest_in_time : (wait : ℕ) (e : Numbered) (past : List Numbered) → ((u : Numbered) → In u past → u.number < e.number) → in_time wait e past ≡ true
greatest_in_time wait e past b =
    let low : nat_le (first_number e.number past) e.number ≡ true = le_true (first_number e.number past) e.number (first_le past e.number e.number (omega arith) b) in
    rw (low, none_same past e.number b, none_greater wait e.time past e.number b, none_distinct past e.number b) refl
  where
    le_true : (m n : ℕ) → m ≤ n → nat_le m n ≡ true
    le_true m n l = grind (arith, nat_tests)

-- ---- the places that came are all
places_are : (wait : ℕ) (settings : SenderSettings) (h : History) (es : List Turned) → Front settings h es → places wait h (come_from h (pairs settings es)) ≡ placed (hist settings es)
places_are wait settings h [] f = refl
places_are wait settings h (e ∷ es) f =
    let last : Placed = the_last (stream_of settings) (sents es) e.sent in
    let past = come_from h (pairs settings es) in
    let a : Arrival = record { time = e.at; packet = own_packet h last } in
    let g = front_of settings h e es f in
    let r = counted settings h es g in
    let number = r.next (own_packet h last).seq (seq_is settings h e es f) in
    let came = greatest_in_time wait (number_it (numbered past) a) (numbered past) (λ u i. let k = r.below u i in omega (arith, number)) in
    let all = length_sent settings.generations (sents es) in
    let size = length_sents es in
    let place = last_place settings es e in
    ap (λ b. cond b (by_place (entry_of h (own_packet h last)) (places wait h past)) (places wait h past)) came
    ∙ (ap (λ x. by_place x (places wait h past)) (named_is settings h e es f)
    ∙ (ap (by_place last) (places_are wait settings h es g)
    ∙ (by_place_last last (placed (hist settings es)) (λ y i. let k = place_under [] (hist settings es).entries y i in omega arith)
    ∙ sym (placed_grown (hist settings es) (entry_after settings.generations (sents es) e.sent)))))

-- ---- what a recording gives
pub record Arrives (settings : SenderSettings) (lines : List ScriptLine) (t : ℕ) (past : List Arrival) : Type 0 where
  pub come : Come (history_sent settings (events_through lines t)) past
  pub all : (wait : ℕ) → places wait (history_sent settings (events_through lines t)) past ≡ placed (history_sent settings (events_through lines t))

came : (settings : SenderSettings) (lines : List ScriptLine) (t : ℕ) → AreSettings settings → AreLines lines → t < 2 ^ 31 → Arrives settings lines t (arrivals_sent settings (sent_by settings (events_through lines t)))
came settings lines t k a l =
    let es = sent_by settings (events_through lines t) in
    let h = history_sent settings (events_through lines t) in
    let law = lawful_sent settings lines t k a l in
    let f : Front settings h es = record { law = law; first = refl; within = pairs_in settings es } in
    record {
      come = subst (Come h) (come_is settings es) (own_come settings.generations h law (sent_own (stream_of settings) (sents es)) (pairs settings es) (near settings h es f));
      all = λ wait. subst (λ (xs : List Arrival). places wait h xs ≡ placed h) (come_is settings es) (places_are wait settings h es f);
    }

pub recording_arrives : (settings : SenderSettings) (lines : List ScriptLine) (t : ℕ) → AreSettings settings → settings.ssrc < 2 ^ 32 → AreLines lines → t < 2 ^ 31 → All (λ r. r.0 ≤ LAST_RECORD_MOMENT) (records_sent settings lines t)
    → length (recording_sent settings lines t) ≤ usual_limit → Arrives settings lines t (arrivals (recording_sent settings lines t) settings.ssrc settings.payload_types)
unfolding arrivals
recording_arrives settings lines t k b a l early small =
    let es = sent_by settings (events_through lines t) in
    let script = script_through lines t a l in
    let is : arrivals_after settings.ssrc settings.payload_types [] (dump usual_limit (recording_sent settings lines t)).items ≡ arrivals_sent settings es =
    ap (λ (r : Recording). arrivals_after settings.ssrc settings.payload_types [] r.items) (items_back settings lines t k b a l early small)
    ∙ arrive settings es (all_back settings (events_through lines t) k b script) (rises (stream_of settings) settings.interval (events_through lines t) k.generations (let m = k.least in omega arith) script) in
    subst (Arrives settings lines t) (sym is) (came settings lines t k a l)
