-- What is heard of a source's own packets, when they come in order, each with the next number: all texts, and no marker.
use Rattle.std.proofs.Common.{◌≡◌, ℕ, suc, ◌+◌, ◌-◌, ◌<◌, ◌≤◌, ◌^◌, ◌%◌, Bool, true, false, Option, Some, None, List, [], ◌∷◌, ◌++◌, refl, ap, sym, ◌∙◌, subst, arith, inl, inr, map, filter, append-nil, append_assoc}
use Rattle.std.specs.Prelude.{◌&&◌, max, nat_le, nat_lt, if◌then◌else◌}
use Rattle.std.specs.List.{list_any}
use Rattle.std.proofs.lemmas.Bool.{eq-eqb, le-ltb, lt-leb, le-leb, ne_eqb}
use Rattle.std.proofs.lemmas.List.Elements.{filter-append}
use Rattle.wire_spec.specs.Packets.{Arrival, back, has_text}
use Rattle.wire_spec.specs.Dump.{latest}
use Rattle.stream_spec.specs.Lists.{In}
use Rattle.stream_spec.specs.Numbering.{Numbered, by_number, distinct_from, first_number, greatest, has_number, in_time, is_given_up, nearest, number_after, numbered, used}
use Rattle.stream_spec.specs.Hearing.{first_number_of, heard, heard_by, is_marked, is_new, is_packet_of, last_of, marker, missing, missing_before, missing_between, new_texts}
use Rattle.stream_spec.specs.ChunksBy.{texts_added}
use Rattle.stream_spec.proofs.Timestamps.{nearest_high, nearest_low, nearest_mod}
use Rattle.stream_spec.proofs.Taking.{heard_by_more, heard_used, last_end_of as last_more}
use Rattle.command_spec.specs.Splitting.{Group, moment_of, packet_of, packets_from, timestamp_of}
use Rattle.command_spec.proofs.Carrying.{AllSendable, came_after}

-- ---- lists whose numbers are all below n
abbrev AllBelow : ℕ → List Numbered → Type 0
AllBelow n us = (u : Numbered) → In u us → u.number < n

none_has : (us : List Numbered) (n : ℕ) → AllBelow n us → has_number us n ≡ false
none_has [] n f = refl
none_has (u ∷ us) n f = let l = f u (inl refl) in rw (ne_eqb u.number n (λ e. omega (arith, l, e))) (none_has us n (λ v i. f v (inr i)))

none_over : (wait t n : ℕ) (us : List Numbered) → AllBelow n us → list_any (λ x. nat_lt n x.number && nat_le (x.time + wait) t) us ≡ false
none_over wait t n [] f = refl
none_over wait t n (u ∷ us) f = let l = f u (inl refl) in rw (le-ltb n u.number (omega (arith, l))) (none_over wait t n us (λ v i. f v (inr i)))

none_from : (n : ℕ) (us : List Numbered) → AllBelow n us → distinct_from (suc n) us ≡ 0
none_from n [] f = refl
none_from n (u ∷ us) f = let l = f u (inl refl) in let rest = none_from n us (λ v i. f v (inr i)) in rw (lt-leb (suc n) u.number (omega (arith, l))) (omega (arith, rest))

not_given_up : (wait t n : ℕ) (us : List Numbered) → AllBelow n us → is_given_up wait us t n ≡ false
not_given_up wait t n us f = rw (none_over wait t n us f, none_from n us f) refl

first_up : (k n : ℕ) (us : List Numbered) → k ≤ n → AllBelow n us → first_number k us ≤ n
first_up k n [] l f = l
first_up k n (u ∷ us) l f = let b = f u (inl refl) in first_up u.number n us (omega (arith, b)) (λ v i. f v (inr i))

-- the next number is in time
in_order : (wait : ℕ) (e : Numbered) (us : List Numbered) → AllBelow e.number us → in_time wait e us ≡ true
in_order wait e us f = rw (le-leb (first_number e.number us) e.number (first_up e.number e.number us (omega arith) f), none_has us e.number f, not_given_up wait e.time e.number us f) refl

last_by_number : (e : Numbered) (us : List Numbered) → AllBelow e.number us → by_number e us ≡ us ++ e ∷ []
last_by_number e [] f = refl
last_by_number e (u ∷ us) f = let l = f u (inl refl) in rw (le-ltb e.number u.number (omega (arith, l))) (ap (λ vs. u ∷ vs) (last_by_number e us (λ v i. f v (inr i))))

-- ---- packets of the source s that came in order: m is the number of the last
pub record InOrder (wait s : ℕ) (past : List Arrival) (m : ℕ) (texts : List (List ℕ)) : Type 0 where
  pub high : 65536 ≤ m
  pub top : greatest (numbered past) ≡ m
  pub some : Numbered
  pub others : List Numbered
  pub not_first : numbered past ≡ some ∷ others
  pub below : AllBelow (suc m) (numbered past)
  pub below_used : AllBelow (suc m) (used wait (numbered past))
  pub last : Numbered
  pub last_is : last_of None (filter (is_packet_of s) (used wait (numbered past))) ≡ Some last
  pub last_number : last.number ≡ m
  pub heard_is : heard_by (used wait (numbered past)) s ≡ texts

next_number : (m seq : ℕ) → 65536 ≤ m → seq ≡ (m + 1) % 2 ^ 16 → nearest m seq ≡ suc m
next_number m seq h e =
    let low = nearest_low m seq h in
    let high = nearest_high m seq h in
    let same = nearest_mod m seq (omega (arith, e)) in
    omega (arith, low, high, same, e)

after_some : (us : List Numbered) (some : Numbered) (others : List Numbered) (seq : ℕ) → us ≡ some ∷ others → number_after us seq ≡ nearest (greatest us) seq
after_some us some others seq e = subst (λ vs. number_after vs seq ≡ nearest (greatest vs) seq) (sym e) refl

below_more : (n : ℕ) (us vs : List Numbered) → AllBelow n us → AllBelow n vs → AllBelow n (us ++ vs)
below_more n [] vs f g = g
below_more n (u ∷ us) vs f g = λ v i. elim i [ inl e ↦ subst (λ (x : Numbered). x.number < n) (sym e) (f u (inl refl)) | inr j ↦ below_more n us vs (λ w k. f w (inr k)) g v j ]

-- ---- what a packet in plain form adds, before which nothing is missing
abbrev sent_at : ℕ → ℕ → ℕ → ℕ → ℕ → List ℕ → Numbered
sent_at time number s seq timestamp text = record { time = time; number = number; packet = packet_of s seq timestamp text }

plain_piece : (present : ℕ → Bool) (first : ℕ) (prev : Option Numbered) (time number s seq timestamp : ℕ) (text : List ℕ) → has_text text ≡ true
    → missing_before present first prev (sent_at time number s seq timestamp text) ≡ 0
    → (if is_marked present first prev (sent_at time number s seq timestamp text) then marker ∷ [] else []) ++ new_texts prev (sent_at time number s seq timestamp text) ≡ text ∷ []
plain_piece present first prev time number s seq timestamp text h z =
    let none : is_marked present first prev (sent_at time number s seq timestamp text) ≡ false = ap (λ n. nat_lt 0 n && is_new prev (back timestamp 0)) z in
    ap (λ (b : Bool). (if b then marker ∷ [] else []) ++ new_texts prev (sent_at time number s seq timestamp text)) none
    ∙ ap (λ (b : Bool). if b then text ∷ [] else []) h

adds_plain : (us : List Numbered) (time number s seq timestamp : ℕ) (text : List ℕ) → has_text text ≡ true
    → missing_before (has_number us) (first_number_of us (sent_at time number s seq timestamp text)) (last_of None (filter (is_packet_of s) us)) (sent_at time number s seq timestamp text) ≡ 0
    → texts_added us (sent_at time number s seq timestamp text) s ≡ text ∷ []
adds_plain us time number s seq timestamp text h z =
    let e : Numbered = sent_at time number s seq timestamp text in
    let prev : Option Numbered = last_of None (filter (is_packet_of s) us) in
    ap (λ (b : Bool). if b then (if is_marked (has_number us) (first_number_of us e) prev e then marker ∷ [] else []) ++ new_texts prev e else []) (eq-eqb s s refl)
    ∙ plain_piece (has_number us) (first_number_of us e) prev time number s seq timestamp text h z

none_between : (present : ℕ → Bool) (low high : ℕ) → high ≤ suc low → missing_between present low high ≡ 0
none_between present low high l = let z : high - (low + 1) ≡ 0 = omega (arith, l) in ap (λ d. missing present (low + 1) d) z

-- ---- one more
pub order_more : (wait s m timestamp : ℕ) (past : List Arrival) (time seq : ℕ) (text : List ℕ) (texts : List (List ℕ)) → InOrder wait s past m texts → seq ≡ (m + 1) % 2 ^ 16 → has_text text ≡ true
    → InOrder wait s (record { time = time; packet = packet_of s seq timestamp text } ∷ past) (suc m) (texts ++ text ∷ [])
order_more wait s m timestamp past time seq text texts o q h = record {
  high = omega (arith, o.high);
  top = omega (arith, o.top, number);
  some = e;
  others = us;
  not_first = refl;
  below = λ v i. elim i [ inl w ↦ let same = ap (λ (x : Numbered). x.number) w in omega (arith, same, number) | inr j ↦ let l = o.below v j in omega (arith, l) ];
  below_used = subst (AllBelow (suc (suc m))) (sym used_is)
      (below_more (suc (suc m)) (used wait us) (e ∷ []) (λ v i. let l = o.below_used v i in omega (arith, l))
      (λ v i. elim i [ inl w ↦ let same = ap (λ (x : Numbered). x.number) w in omega (arith, same, number) | inr j ↦ absurd j ]));
  last = e;
  last_is = ap (λ (vs : List Numbered). last_of None (filter (is_packet_of s) vs)) used_is
      ∙ (ap (last_of None) (filter-append (is_packet_of s) (used wait us) (e ∷ []) ∙ ap (λ (vs : List Numbered). filter (is_packet_of s) (used wait us) ++ vs) own)
      ∙ last_more None (filter (is_packet_of s) (used wait us)) e);
  last_number = number;
  heard_is = ap (λ (vs : List Numbered). heard_by vs s) used_is
      ∙ (heard_by_more (used wait us) e s (λ v i. let l = o.below_used v i in omega (arith, l, number))
      ∙ (ap (λ ts. ts ++ texts_added (used wait us) e s) o.heard_is
      ∙ ap (λ ts. texts ++ ts) (adds_plain (used wait us) time (number_after us seq) s seq timestamp text h missing_none)));
}
  where
    us : List Numbered
    us = numbered past

    number : number_after us seq ≡ suc m
    number = after_some us o.some o.others seq o.not_first ∙ (ap (λ t. nearest t seq) o.top ∙ next_number m seq o.high q)

    e : Numbered
    e = sent_at time (number_after us seq) s seq timestamp text

    used_is : used wait (e ∷ us) ≡ used wait us ++ e ∷ []
    used_is =
        ap (λ (b : Bool). if b then by_number e (used wait us) else used wait us) (in_order wait e us (λ v i. let l = o.below v i in omega (arith, l, number)))
        ∙ last_by_number e (used wait us) (λ v i. let l = o.below_used v i in omega (arith, l, number))

    own : filter (is_packet_of s) (e ∷ []) ≡ e ∷ []
    own = ap (λ (b : Bool). if b then e ∷ [] else []) (eq-eqb s s refl)

    missing_none : missing_before (has_number (used wait us)) (first_number_of (used wait us) e) (last_of None (filter (is_packet_of s) (used wait us))) e ≡ 0
    missing_none =
        ap (λ (prev : Option Numbered). missing_before (has_number (used wait us)) (first_number_of (used wait us) e) prev e) o.last_is
        ∙ none_between (has_number (used wait us)) o.last.number e.number (omega (arith, number, o.last_number))

-- the first
pub order_first : (wait s timestamp time : ℕ) (text : List ℕ) → has_text text ≡ true → InOrder wait s (record { time = time; packet = packet_of s 0 timestamp text } ∷ []) 65536 (text ∷ [])
order_first wait s timestamp time text h = record {
  high = omega arith;
  top = refl;
  some = e;
  others = [];
  not_first = refl;
  below = λ v i. elim i [ inl w ↦ let same = ap (λ (x : Numbered). x.number) w in omega (arith, same) | inr j ↦ absurd j ];
  below_used = subst (AllBelow (suc 65536)) (sym used_is) (λ v i. elim i [ inl w ↦ let same = ap (λ (x : Numbered). x.number) w in omega (arith, same) | inr j ↦ absurd j ]);
  last = e;
  last_is = ap (λ (vs : List Numbered). last_of None (filter (is_packet_of s) vs)) used_is ∙ ap (last_of None) (ap (λ (b : Bool). if b then e ∷ [] else []) (eq-eqb s s refl));
  last_number = refl;
  heard_is = ap (λ (vs : List Numbered). heard_by vs s) used_is
      ∙ (heard_by_more [] e s (λ v i. absurd i) ∙ adds_plain [] time 65536 s 0 timestamp text h (none_between (has_number []) 65536 65536 (omega arith)));
}
  where
    e : Numbered
    e = sent_at time 65536 s 0 timestamp text

    used_is : used wait (e ∷ []) ≡ e ∷ []
    used_is = ap (λ (b : Bool). if b then e ∷ [] else []) (in_order wait e [] (λ v i. absurd i))

-- ---- all
rows_heard : (wait s m seq least : ℕ) (past : List Arrival) (texts : List (List ℕ)) (gs : List Group) → InOrder wait s past m texts → seq ≡ (m + 1) % 2 ^ 16 → AllSendable gs
    → heard wait (came_after past (packets_from s seq least gs)) s ≡ texts ++ map (λ g. g.text) gs
rows_heard wait s m seq least past texts [] o q a = heard_used wait past s ∙ (o.heard_is ∙ sym (append-nil texts))
rows_heard wait s m seq least past texts (g ∷ gs) o q a =
    rows_heard wait s (suc m) ((seq + 1) % 2 ^ 16) ((timestamp_of least g + 1) % 2 ^ 32)
    (record { time = max (moment_of g) (latest past); packet = packet_of s seq (timestamp_of least g) g.text } ∷ past) (texts ++ g.text ∷ []) gs
    (order_more wait s m (timestamp_of least g) past (max (moment_of g) (latest past)) seq g.text texts o q a.0.some) (omega (arith, q)) a.1
    ∙ append_assoc texts (g.text ∷ []) (map (λ g. g.text) gs)

pub all_heard : (wait s : ℕ) (gs : List Group) → AllSendable gs → heard wait (came_after [] (packets_from s 0 0 gs)) s ≡ map (λ g. g.text) gs
all_heard wait s [] a = refl
all_heard wait s (g ∷ gs) a =
    rows_heard wait s 65536 1 ((timestamp_of 0 g + 1) % 2 ^ 32)
    (record { time = max (moment_of g) 0; packet = packet_of s 0 (timestamp_of 0 g) g.text } ∷ []) (g.text ∷ []) gs
    (order_first wait s (timestamp_of 0 g) (max (moment_of g) 0) g.text a.0.some) refl a.1
