-- Where all that was sent to a terminal comes, in order, what is heard is what was sent.
use Rattle.std.proofs.Common.{◌≡◌, ℕ, suc, ◌+◌, ◌<◌, ◌≤◌, ◌^◌, Bool, true, false, cond, not, inl, inr, Some, Ok, List, [], ◌∷◌, ◌++◌, length, append-nil, append_assoc, refl, ap, subst, sym, ◌∙◌, arith}
use Rattle.std.specs.Prelude.{◌==◌, ◌&&◌, nat_le, nat_lt, map, filter, max, IsUtf8, if◌then◌else◌}
use Rattle.std.specs.List.{AllZip, concat, list_any}
use Rattle.std.proofs.lemmas.Bool.{cases_Bool, and_from, or_from, le-leb, lt-leb, le-ltb}
use Rattle.std.proofs.lemmas.Bool.Decides.{nat_tests}
use Rattle.std.proofs.lemmas.List.{length-map, map-append}
use Rattle.std.proofs.lemmas.List.Elements.{filter-append}
use Rattle.std.proofs.lemmas.Str.{IsUtf8-append, IsUtf8-nil}
use Rattle.wire_spec.specs.Packets.{Packet, Arrival, has_text}
use Rattle.wire_spec.specs.Text.{text_of}
use Rattle.wire_spec.specs.Dump.{arrivals_after, arrived, latest, sent_item}
use Rattle.wire_spec.proofs.SentBack.{sent_back}
use Rattle.stream_spec.specs.Lists.{In}
use Rattle.stream_spec.specs.Numbering.{Numbered, distinct_from, first_number, has_number, in_time, is_given_up, number_it, numbered, used}
use Rattle.stream_spec.specs.Hearing.{heard}
use Rattle.stream_spec.specs.History.{Come, History, IsNear, Lawful, Placed, by_place, entry_of, placed, places, top_place}
use Rattle.stream_spec.specs.Kept.{Block, Item as Told, is_text_of, kept, texts}
use Rattle.stream_spec.specs.Own.{NearEach, Sendable, Sent, Stream, come_from, entry_after, own_packet, packet_after, sent_history}
use Rattle.stream_spec.proofs.Lists.{any_in, in_left, in_right}
use Rattle.stream_spec.proofs.Grows.{packet_stays, placed_grown}
use Rattle.stream_spec.proofs.Sent.{last_packet, length_sent, sent_lawful, sent_own, the_last}
use Rattle.stream_spec.proofs.Fitting.{few_octets, packet_fits}
use Rattle.stream_spec.proofs.OwnPackets.{names_own, own_come}
use Rattle.stream_spec.proofs.Matched.{IsFirst, counted, first_is}
use Rattle.stream_spec.proofs.Walks.{beside, first_place, first_seq, is_first, l1}
use Rattle.stream_spec.proofs.GivingUp.{cause_at, has_in, is_cause}
use Rattle.mixer_spec.specs.Headline.{AllUsed, Hop, IsHop}
use Rattle.mixer_spec.proofs.OneHop.{told_whole}
use Rattle.view_spec.specs.Seen.{Fate, Reception, Text, fate_at, fate_of, many}
use Rattle.view_spec.specs.Markers.{marker_count, markers_in}
use Rattle.view_spec.proofs.Markers.{markers_kept}
use Rattle.terminal.proofs.Listening.{many_more}
use Rattle.terminal.specs.Terminals.{one_if}
use Rattle.packetizer.specs.declared.outputs.PacketizerSettings.{PacketizerSettings}
use Rattle.packetizer.specs.OutputSettings.{AreSettings, stream_of}
use Rattle.packetizer.specs.Sending.{octets_of}
use Rattle.sent_log.specs.States.{records_of, sents}
use Rattle.playback.specs.Whole.{said}
use Rattle.stream_spec.proofs.Plain.{place_to as place_below, put_last}
use Rattle.mixer_spec.proofs.Arriving.{length_placed as placed_count}
use Rattle.wire_spec.proofs.Plain.{arrivals_more}

-- ---- each packet is read as it was sent
-- the sources of all have 32 bits
abbrev pub AreWords : List Sent → Type 0
AreWords zs = (z : Sent) → In z zs → z.source < 2 ^ 32

packet_back : (settings : PacketizerSettings) (zs : List Sent) (e : Sent) → AreSettings settings → settings.ssrc < 2 ^ 32 → e.source < 2 ^ 32 → Sendable (stream_of settings) (e ∷ zs)
    → text_of (octets_of settings zs e) (Some settings.ssrc) settings.payload_types ≡ Ok (packet_after (stream_of settings) zs e)
packet_back settings zs e k ssrc own s =
    let c = stream_of settings in
    let p : Packet = packet_after c zs e in
    let fits = packet_fits settings.payload_types c zs e k.t140 k.red k.differ k.generations ssrc own s in
    let few = few_octets settings.payload_types c zs e k.generations s in
    let asked : (p.ssrc == settings.ssrc) ≡ true = grind (arith, nat_tests) in
    sent_back settings.payload_types p (Some settings.ssrc) fits asked few

-- what arrives, newest first
abbrev pub arrived_all : PacketizerSettings → List (ℕ × Sent) → List Arrival
arrived_all settings [] = []
arrived_all settings (x ∷ past) = record { time = max x.0 (latest (arrived_all settings past)); packet = packet_after (stream_of settings) (sents past) x.1 } ∷ arrived_all settings past

abbrev row : PacketizerSettings → List (ℕ × Sent) → ℕ × Sent → ℕ × List ℕ
row settings past x = (x.0, octets_of settings (sents past) x.1)

pub arrive : (settings : PacketizerSettings) (sent : List (ℕ × Sent)) → AreSettings settings → settings.ssrc < 2 ^ 32 → AreWords (sents sent) → Sendable (stream_of settings) (sents sent)
    → arrivals_after settings.ssrc settings.payload_types [] (map sent_item (records_of settings sent)) ≡ arrived_all settings sent
arrive settings [] k b w s = refl
arrive settings (x ∷ past) k b w s =
    let items = map sent_item (records_of settings past) in
    ap (arrivals_after settings.ssrc settings.payload_types []) (map-append sent_item (records_of settings past) (row settings past x ∷ []))
    ∙ (arrivals_more settings.ssrc settings.payload_types [] items (sent_item (row settings past x))
    ∙ (ap (λ r. arrived x.0 r (arrivals_after settings.ssrc settings.payload_types [] items)) (packet_back settings (sents past) x.1 k b (w x.1 (inl refl)) s)
    ∙ ap (λ (came_in : List Arrival). arrived x.0 (Ok (packet_after (stream_of settings) (sents past) x.1)) came_in) (arrive settings past k b (λ z i. w z (inr i)) s.1)))

-- so many of what comes have this fate
abbrev pub counted_if : Bool → ℕ → ℕ
counted_if b n = if b then n else 0

one_more : (b : Bool) (n : ℕ) → counted_if b n + one_if b ≡ counted_if b (suc n)
one_more true n = omega arith
one_more false n = refl

pub fates : (p : Fate → Bool) (wait : ℕ) (settings : PacketizerSettings) (sent : List (ℕ × Sent)) → AreSettings settings → settings.ssrc < 2 ^ 32 → AreWords (sents sent) → Sendable (stream_of settings) (sents sent)
    → many p (fate_at (record { ssrc = settings.ssrc; payload_types = settings.payload_types; wait = wait })) (map sent_item (records_of settings sent)) ≡ counted_if (p Text) (length sent)
fates p wait settings [] k b w s = go (p Text)
  where
    go : (t : Bool) → 0 ≡ counted_if t 0
    go true = refl
    go false = refl
fates p wait settings (x ∷ past) k b w s =
    let r : Reception = record { ssrc = settings.ssrc; payload_types = settings.payload_types; wait = wait } in
    let items = map sent_item (records_of settings past) in
    let item = sent_item (row settings past x) in
    let is : fate_at r item ≡ Text = ap fate_of (packet_back settings (sents past) x.1 k b (w x.1 (inl refl)) s) in
    ap (many p (fate_at r)) (map-append sent_item (records_of settings past) (row settings past x ∷ []))
    ∙ (many_more p r items item
    ∙ (ap (λ (f : Fate). many p (fate_at r) items + one_if (p f)) is
    ∙ (ap (λ (n : ℕ). n + one_if (p Text)) (fates p wait settings past k b (λ z i. w z (inr i)) s.1) ∙ one_more (p Text) (length past))))

-- ---- the history of all
-- all entries of what was sent so far are in the history h, and their packets are the same there
record Within (h : History) (c : Stream) (zs : List Sent) : Type 0 where
  there : (x : Placed) → In x (placed (sent_history c zs)) → In x (placed h)
  same : (x : Placed) → In x (placed (sent_history c zs)) → own_packet h x ≡ own_packet (sent_history c zs) x

in_grown : (c : Stream) (zs : List Sent) (e : Sent) (x : Placed) → In x (placed (sent_history c zs)) → In x (placed (sent_history c (e ∷ zs)))
in_grown c zs e x i = subst (λ (ps : List Placed). In x ps) (sym (placed_grown (sent_history c zs) (entry_after c.generations zs e))) (in_left x (placed (sent_history c zs)) (the_last c zs e ∷ []) i)

last_in : (c : Stream) (zs : List Sent) (e : Sent) → In (the_last c zs e) (placed (sent_history c (e ∷ zs)))
last_in c zs e = subst (λ (ps : List Placed). In (the_last c zs e) ps) (sym (placed_grown (sent_history c zs) (entry_after c.generations zs e))) (in_right (the_last c zs e) (placed (sent_history c zs)) (the_last c zs e ∷ []) (inl refl))

before : (h : History) (c : Stream) (zs : List Sent) (e : Sent) → Within h c (e ∷ zs) → Within h c zs
before h c zs e w = record {
  there = λ x i. w.there x (in_grown c zs e x i);
  same = λ x i. w.same x (in_grown c zs e x i) ∙ packet_stays (sent_history c zs) (entry_after c.generations zs e) x i;
}

-- the entries, newest first, each with the moment at which its packet arrives
abbrev pairs : PacketizerSettings → List (ℕ × Sent) → List (ℕ × Placed)
pairs settings [] = []
pairs settings (x ∷ past) = (max x.0 (latest (arrived_all settings past)), the_last (stream_of settings) (sents past) x.1) ∷ pairs settings past

come_is : (h : History) (settings : PacketizerSettings) (sent : List (ℕ × Sent)) → Within h (stream_of settings) (sents sent) → come_from h (pairs settings sent) ≡ arrived_all settings sent
come_is h settings [] w = refl
come_is h settings (x ∷ past) w =
    let c = stream_of settings in
    let zs = sents past in
    let t = max x.0 (latest (arrived_all settings past)) in
    ap (λ (p : Packet). record { time = t; packet = p } ∷ come_from h (pairs settings past)) (w.same (the_last c zs x.1) (last_in c zs x.1) ∙ last_packet c zs x.1)
    ∙ ap (λ (came_in : List Arrival). record { time = t; packet = packet_after c zs x.1 } ∷ came_in) (come_is h settings past (before h c zs x.1 w))

-- ---- each is near the one before
count_is : (past : List (ℕ × Sent)) → length (sents past) ≡ length past
count_is past = length-map past (λ x. x.1)

place_is : (h : History) → Lawful h → (settings : PacketizerSettings) (past : List (ℕ × Sent)) (e : Sent) → Within h (stream_of settings) (e ∷ sents past) → (entry_of h (own_packet h (the_last (stream_of settings) (sents past) e))).place ≡ length past
place_is h law settings past e w =
    let c = stream_of settings in
    ap (λ (x : Placed). x.place) (names_own h (the_last c (sents past) e) law (w.there (the_last c (sents past) e) (last_in c (sents past) e)))
    ∙ (length_sent c.generations (sents past) ∙ count_is past)

top_low : (h : History) → Lawful h → (settings : PacketizerSettings) (sent : List (ℕ × Sent)) → Within h (stream_of settings) (sents sent) → top_place h (come_from h (pairs settings sent)) ≤ length sent
top_low h law settings [] w = omega arith
top_low h law settings (x ∷ past) w =
    let r = top_low h law settings past (before h (stream_of settings) (sents past) x.1 w) in
    let p = place_is h law settings past x.1 w in
    omega (arith, r, p)

top_high : (h : History) → Lawful h → (settings : PacketizerSettings) (x : ℕ × Sent) (past : List (ℕ × Sent)) → Within h (stream_of settings) (sents (x ∷ past)) → length past ≤ top_place h (come_from h (pairs settings (x ∷ past)))
top_high h law settings x past w = let p = place_is h law settings past x.1 w in omega (arith, p)

near_past : (h : History) → Lawful h → (settings : PacketizerSettings) (past : List (ℕ × Sent)) (k : ℕ) → k ≡ length past → Within h (stream_of settings) (sents past) → IsNear h k (come_from h (pairs settings past))
near_past h law settings [] k e w = tt
near_past h law settings (y ∷ rest) k e w = (omega (arith, e, top_high h law settings y rest w), omega (arith, e, top_low h law settings (y ∷ rest) w))

near : (h : History) → Lawful h → (settings : PacketizerSettings) (sent : List (ℕ × Sent)) → Within h (stream_of settings) (sents sent) → NearEach h (pairs settings sent)
near h law settings [] w = tt
near h law settings (x ∷ past) w =
    let c = stream_of settings in
    let zs = sents past in
    let earlier = before h c zs x.1 w in
    (w.there (the_last c zs x.1) (last_in c zs x.1), (near_past h law settings past (the_last c zs x.1).place (length_sent c.generations zs ∙ count_is past) earlier, near h law settings past earlier))

-- ---- each comes in time
first_before : (h : History) (p d : ℕ) (a : Arrival) (past : List Arrival) → IsFirst h p d (a ∷ past) → IsFirst h p d past
first_before h p d a [] f = tt
first_before h p d a (b ∷ past) f = f

first_zero : (h : History) → Lawful h → (settings : PacketizerSettings) (sent : List (ℕ × Sent)) → Within h (stream_of settings) (sents sent) → first_place h (come_from h (pairs settings sent)) ≡ 0
first_zero h law settings [] w = refl
first_zero h law settings (x ∷ []) w = place_is h law settings [] x.1 w
first_zero h law settings (x ∷ y ∷ rest) w = first_zero h law settings (y ∷ rest) (before h (stream_of settings) (sents (y ∷ rest)) x.1 w)

-- what holds of the packets so far
record Arriving (h : History) (d : ℕ) (settings : PacketizerSettings) (sent : List (ℕ × Sent)) : Type 0 where
  law : Lawful h
  within : Within h (stream_of settings) (sents sent)
  first : IsFirst h 0 d (come_from h (pairs settings sent))
  come : Come h (come_from h (pairs settings sent))

-- the last to arrive
abbrev last_arrival : History → PacketizerSettings → ℕ × Sent → List (ℕ × Sent) → Arrival
last_arrival h settings x past = record { time = max x.0 (latest (arrived_all settings past)); packet = own_packet h (the_last (stream_of settings) (sents past) x.1) }

earlier : (h : History) (d : ℕ) (settings : PacketizerSettings) (x : ℕ × Sent) (past : List (ℕ × Sent)) → Arriving h d settings (x ∷ past) → Arriving h d settings past
earlier h d settings x past a = record {
  law = a.law;
  within = before h (stream_of settings) (sents past) x.1 a.within;
  first = first_before h 0 d (last_arrival h settings x past) (come_from h (pairs settings past)) a.first;
  come = a.come.3;
}

abbrev last_number : History → PacketizerSettings → ℕ × Sent → List (ℕ × Sent) → Numbered
last_number h settings x past = number_it (numbered (come_from h (pairs settings past))) (last_arrival h settings x past)

number_is : (h : History) (d : ℕ) (settings : PacketizerSettings) (x : ℕ × Sent) (past : List (ℕ × Sent)) → Arriving h d settings (x ∷ past) → (last_number h settings x past).number ≡ length past + d
number_is h d settings x past a =
    let n = (counted h 0 d (last_arrival h settings x past) (come_from h (pairs settings past)) a.first a.come).here in
    omega (arith, n, place_is h a.law settings past x.1 a.within)

below : (h : History) (d : ℕ) (settings : PacketizerSettings) (sent : List (ℕ × Sent)) → Arriving h d settings sent → (u : Numbered) → In u (numbered (come_from h (pairs settings sent))) → u.number < length sent + d
below h d settings [] a u i = absurd i
below h d settings (x ∷ past) a u (inl e) = omega (arith, ap (λ (z : Numbered). z.number) e, number_is h d settings x past a)
below h d settings (x ∷ past) a u (inr i) = let r = below h d settings past (earlier h d settings x past a) u i in omega (arith, r)

abbrev AllBelow : ℕ → List Numbered → Type 0
AllBelow n es = (u : Numbered) → In u es → u.number < n

none_has : (n : ℕ) (es : List Numbered) → AllBelow n es → has_number es n ≡ false
none_has n es f = elim (cases_Bool (has_number es n)) [
  | inl t ↦ let r = has_in n es t in absurd (omega (arith, f r.0 r.1, r.2))
  | inr e ↦ e
]

distinct_none : (n : ℕ) (es : List Numbered) → AllBelow n es → distinct_from (suc n) es ≡ 0
distinct_none n [] f = refl
distinct_none n (e ∷ es) f = let l = f e (inl refl) in rw (lt-leb (suc n) e.number (omega (arith, l))) (omega (arith, distinct_none n es (λ u i. f u (inr i))))

none_up : (wait t n : ℕ) (es : List Numbered) → AllBelow n es → is_given_up wait es t n ≡ false
none_up wait t n es f = or_from (list_any (is_cause wait t n) es) (nat_lt 64 (distinct_from (suc n) es)) causes (le-ltb 64 (distinct_from (suc n) es) (omega (arith, distinct_none n es f)))
  where
    causes : list_any (is_cause wait t n) es ≡ false
    causes = elim (cases_Bool (list_any (is_cause wait t n) es)) [
      | inl q ↦ let r = any_in (is_cause wait t n) es q in absurd (omega (arith, f r.0 r.1, (cause_at wait t n r.0 r.2).0))
      | inr e ↦ e
    ]

first_low : (h : History) (d n : ℕ) (past : List Arrival) → IsFirst h 0 d past → d ≤ n → first_number n (numbered past) ≤ n
first_low h d n [] f l = omega arith
first_low h d n (b ∷ past) f l = omega (arith, l, first_is h 0 d n b past f)

timely : (wait : ℕ) (h : History) (d : ℕ) (settings : PacketizerSettings) (x : ℕ × Sent) (past : List (ℕ × Sent)) → Arriving h d settings (x ∷ past) → in_time wait (last_number h settings x past) (numbered (come_from h (pairs settings past))) ≡ true
timely wait h d settings x past a =
    let e = last_number h settings x past in
    let n = e.number in
    let es = numbered (come_from h (pairs settings past)) in
    let is : n ≡ length past + d = number_is h d settings x past a in
    let more = earlier h d settings x past a in
    let low : AllBelow n es = λ u i. let r = below h d settings past more u i in omega (arith, r, is) in
    and_from (nat_le (first_number n es) n) (not (has_number es n) && not (is_given_up wait es e.time n))
    (le-leb (first_number n es) n (first_low h d n (come_from h (pairs settings past)) more.first (omega (arith, is))))
    (and_from (not (has_number es n)) (not (is_given_up wait es e.time n)) (ap not (none_has n es low)) (ap not (none_up wait e.time n es low)))

-- ---- so all places came
all_places : (wait : ℕ) (h : History) (d : ℕ) (settings : PacketizerSettings) (sent : List (ℕ × Sent)) → Arriving h d settings sent → places wait h (come_from h (pairs settings sent)) ≡ placed (sent_history (stream_of settings) (sents sent))
all_places wait h d settings [] a = refl
all_places wait h d settings (x ∷ past) a =
    let c = stream_of settings in
    let zs = sents past in
    let last = the_last c zs x.1 in
    let came = come_from h (pairs settings past) in
    rw (timely wait h d settings x past a)
    (ap (λ (y : Placed). by_place y (places wait h came)) (names_own h last a.law (a.within.there last (last_in c zs x.1)))
    ∙ (ap (by_place last) (all_places wait h d settings past (earlier h d settings x past a))
    ∙ (put_last last (placed (sent_history c zs)) (λ y i. let r = place_below [] (sent_history c zs).entries y i in omega (arith, r)) ∙ sym (placed_grown (sent_history c zs) (entry_after c.generations zs x.1)))))

-- ---- what was sent, as a history that came whole
pub record AllCame (settings : PacketizerSettings) (sent : List (ℕ × Sent)) (wait : ℕ) : Type 0 where
  pub law : Lawful (sent_history (stream_of settings) (sents sent))
  pub come : Come (sent_history (stream_of settings) (sents sent)) (arrived_all settings sent)
  pub places_are : places wait (sent_history (stream_of settings) (sents sent)) (arrived_all settings sent) ≡ placed (sent_history (stream_of settings) (sents sent))

pub all_came : (settings : PacketizerSettings) (sent : List (ℕ × Sent)) (wait : ℕ) → AreSettings settings → Sendable (stream_of settings) (sents sent) → AllCame settings sent wait
all_came settings sent wait k s =
    let c = stream_of settings in
    let h = sent_history c (sents sent) in
    let law = sent_lawful c (sents sent) k.generations s in
    let w : Within h c (sents sent) = record { there = λ x i. i; same = λ x i. refl } in
    let came = come_from h (pairs settings sent) in
    let come : Come h came = own_come c.generations h law (sent_own c (sents sent)) (pairs settings sent) (near h law settings sent w) in
    let first : IsFirst h 0 (first_seq came) came = subst (λ (n : ℕ). IsFirst h n (first_seq came) came) (first_zero h law settings sent w) (is_first h came) in
    let all = all_places wait h (first_seq came) settings sent (record { law = law; within = w; first = first; come = come }) in
    let same = come_is h settings sent w in
    record {
      law = law;
      come = subst (λ (came_in : List Arrival). Come h came_in) same come;
      places_are = subst (λ (came_in : List Arrival). places wait h came_in ≡ placed h) same all;
    }

-- ---- its text
abbrev joined : List Placed → List ℕ
joined ps = concat (texts (map Block ps))

joined_append : (xs ys : List Placed) → joined (xs ++ ys) ≡ joined xs ++ joined ys
joined_append [] ys = refl
joined_append (x ∷ xs) ys = ap (λ (t : List ℕ). x.text ++ t) (joined_append xs ys) ∙ sym (append_assoc x.text (joined xs) (joined ys))

no_text : (t : List ℕ) → has_text t ≡ false → [] ≡ t
no_text [] e = refl
no_text (x ∷ t) e = absurd (cc e)

one_joined : (s : ℕ) (x : Placed) → joined (filter (is_text_of s) (x ∷ [])) ≡ (if x.source == s then x.text else [])
one_joined s x = go (x.source == s) (has_text x.text) refl
  where
    go : (b t : Bool) → has_text x.text ≡ t → joined (cond (b && t) (x ∷ []) []) ≡ cond b x.text []
    go false t e = refl
    go true true e = append-nil x.text
    go true false e = no_text x.text e

said_is : (c : Stream) (s : ℕ) (zs : List Sent) → joined (filter (is_text_of s) (placed (sent_history c zs))) ≡ said s zs
said_is c s [] = refl
said_is c s (e ∷ zs) =
    let h = sent_history c zs in
    let last = the_last c zs e in
    ap (λ (ps : List Placed). joined (filter (is_text_of s) ps)) (placed_grown h (entry_after c.generations zs e))
    ∙ (ap joined (filter-append (is_text_of s) (placed h) (last ∷ []))
    ∙ (joined_append (filter (is_text_of s) (placed h)) (filter (is_text_of s) (last ∷ []))
    ∙ (ap (λ (t : List ℕ). t ++ joined (filter (is_text_of s) (last ∷ []))) (said_is c s zs) ∙ ap (λ (t : List ℕ). said s zs ++ t) (one_joined s last))))

pub said_utf8 : (c : Stream) (s : ℕ) (zs : List Sent) → Sendable c zs → IsUtf8 (said s zs)
said_utf8 c s [] q = IsUtf8-nil
said_utf8 c s (e ∷ zs) q = IsUtf8-append (said s zs) _ (said_utf8 c s zs q.1) (go (e.source == s))
  where
    go : (b : Bool) → IsUtf8 (cond b e.text [])
    go true = q.0.text.1
    go false = IsUtf8-nil

-- ---- what is heard of it
told_is : (settings : PacketizerSettings) (sent : List (ℕ × Sent)) (wait s : ℕ) → AllCame settings sent wait
    → kept (sent_history (stream_of settings) (sents sent)) (places wait (sent_history (stream_of settings) (sents sent)) (arrived_all settings sent)) s ≡ map Block (filter (is_text_of s) (placed (sent_history (stream_of settings) (sents sent))))
told_is settings sent wait s a =
    let p : Hop = record { sent = sent_history (stream_of settings) (sents sent); wait = wait; came = arrived_all settings sent; source = s } in
    let q : IsHop p = record { lawful = a.law; come = a.come } in
    let all : AllUsed p = λ x i. subst (λ (ps : List Placed). In x ps) (sym a.places_are) i in
    told_whole p q all

pub heard_is : (settings : PacketizerSettings) (sent : List (ℕ × Sent)) (wait s : ℕ) → AllCame settings sent wait → concat (heard wait (arrived_all settings sent) s) ≡ said s (sents sent)
heard_is settings sent wait s a =
    let c = stream_of settings in
    let h = sent_history c (sents sent) in
    ap concat (l1 wait h a.law (arrived_all settings sent) a.come s)
    ∙ (ap (λ (xs : List Told). concat (texts xs)) (told_is settings sent wait s a) ∙ said_is c s (sents sent))

no_markers : (ps : List Placed) → markers_in (map Block ps) ≡ 0
no_markers [] = refl
no_markers (p ∷ ps) = no_markers ps

pub markers_none : (settings : PacketizerSettings) (sent : List (ℕ × Sent)) (wait s : ℕ) → AllCame settings sent wait → marker_count wait (arrived_all settings sent) s ≡ 0
markers_none settings sent wait s a =
    let h = sent_history (stream_of settings) (sents sent) in
    markers_kept wait h a.law (arrived_all settings sent) a.come s ∙ (ap markers_in (told_is settings sent wait s a) ∙ no_markers (filter (is_text_of s) (placed h)))

zip_length : {X Y : Type 0} (P : X → Y → Type 0) (xs : List X) (ys : List Y) → AllZip P xs ys → length xs ≡ length ys
zip_length P [] [] q = refl
zip_length P [] (y ∷ ys) q = absurd q
zip_length P (x ∷ xs) [] q = absurd q
zip_length P (x ∷ xs) (y ∷ ys) q = ap suc (zip_length P xs ys q.1)

pub all_used_is : (settings : PacketizerSettings) (sent : List (ℕ × Sent)) (wait : ℕ) → AllCame settings sent wait → length (used wait (numbered (arrived_all settings sent))) ≡ length sent
all_used_is settings sent wait a =
    let c = stream_of settings in
    let h = sent_history c (sents sent) in
    zip_length _ (used wait (numbered (arrived_all settings sent))) (places wait h (arrived_all settings sent)) (beside wait h (arrived_all settings sent) a.come)
    ∙ (ap (λ (ps : List Placed). length ps) a.places_are ∙ (placed_count [] h.entries ∙ (length_sent c.generations (sents sent) ∙ count_is sent)))
