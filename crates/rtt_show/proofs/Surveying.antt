-- One packet more of a stream.
use Rattle.std.proofs.Common.{◌≡◌, ℕ, suc, ◌+◌, Bool, true, false, cond, List, [], ◌∷◌, ◌++◌, length, map, filter, refl, ap, sym, ◌∙◌, subst, arith, Some}
use Rattle.std.specs.Prelude.{◌&&◌, min, max, Result, Ok, Err, Option, if◌then◌else◌}
use Rattle.std.specs.List.{filter_map, cons_option, list_all}
use Rattle.std.proofs.lemmas.List.Elements.{filter_map-append}
use Rattle.std.proofs.lemmas.List.Folds.{list_all-append}
use Rattle.rtt_base.specs.declared.text_packets.PayloadTypes.{PayloadTypes}
use Rattle.wire_spec.specs.declared.faults.TextFault.{TextFault}
use Rattle.wire_spec.specs.declared.faults.TextFault.TheVariants.{Short, Version, Padding, Sources, WrongType, Cut, Many, Long, NotText, Foreign}
use Rattle.wire_spec.specs.Packets.{Packet, Arrival}
use Rattle.wire_spec.specs.Text.{text_of}
use Rattle.wire_spec.specs.Dump.{Item, sent_item, arrived, latest, arrivals_after}
use Rattle.stream_spec.specs.Numbering.{numbered, number_it}
use Rattle.view_spec.specs.Seen.{Reception}
use Rattle.command_spec.specs.Firsts.{Firsts, firsts, with_name, with_names}
use Rattle.command_spec.specs.Streams.{source_in, sources, text_at, is_like_text, are_like_text}
use Rattle.command_spec.specs.Showing.{hearing, least_time, greatest_time, refused_as, is_refused_as}
use Rattle.rtt_show.specs.Surveys.{seen, is_like, is_read, all_faults, IsSurvey, SpreadsAs, SurveysMore, refused_after, names_after}
use Rattle.rtt_show.specs.Spreads.{IsSpread}
use Rattle.rtt_show.specs.declared.spreads.Spread.{Spread}
use Rattle.rtt_show.specs.Finds.{one_if}
use Rattle.report_spec.specs.Guesses.{is_ok}
use Rattle.rtt_show.specs.declared.surveys.Survey.{Survey}
use Rattle.wire_spec.proofs.Plain.{arrivals_more as after_more}

pub least_more : (came : List Item) (item : Item) → least_time (came ++ item ∷ []) ≡ min (least_time came) item.time
least_more [] item = omega arith
least_more (c ∷ came) item = ap (min c.time) (least_more came item) ∙ omega arith

pub greatest_more : (came : List Item) (item : Item) → greatest_time (came ++ item ∷ []) ≡ max (greatest_time came) item.time
greatest_more [] item = omega arith
greatest_more (c ∷ came) item = ap (max c.time) (greatest_more came item) ∙ omega arith

-- one that passes is one more
pub filter_more : {X : Type 0} (p : X → Bool) (xs : List X) (x : X) → length (filter p (xs ++ x ∷ [])) ≡ (if p x then suc (length (filter p xs)) else length (filter p xs))
filter_more p [] x = go (p x)
  where
    go : (b : Bool) → length (cond b (x ∷ []) []) ≡ cond b 1 0
    go true = refl
    go false = refl
filter_more p (y ∷ ys) x = go (p y) (p x) (filter_more p ys x)
  where
    go : (b c : Bool) → length (filter p (ys ++ x ∷ [])) ≡ cond c (suc (length (filter p ys))) (length (filter p ys))
        → length (cond b (y ∷ filter p (ys ++ x ∷ [])) (filter p (ys ++ x ∷ []))) ≡ cond c (suc (length (cond b (y ∷ filter p ys) (filter p ys)))) (length (cond b (y ∷ filter p ys) (filter p ys)))
    go true true e = ap suc e
    go true false e = ap suc e
    go false true e = e
    go false false e = e

pub count_more : {X : Type 0} (p : X → Bool) (old new : ℕ) (xs : List X) (x : X) → old ≡ length (filter p xs) → new ≡ old + one_if (p x) → new ≡ length (filter p (xs ++ x ∷ []))
count_more p old new xs x e n = n ∙ (ap (λ k. k + one_if (p x)) e ∙ (go (p x) (length (filter p xs)) ∙ sym (filter_more p xs x)))
  where
    go : (b : Bool) (n : ℕ) → n + one_if b ≡ (if b then suc n else n)
    go true n = omega arith
    go false n = omega arith

with_names_more : (f : Firsts) (names : List ℕ) (more : List ℕ) → with_names f (names ++ more) ≡ with_names (with_names f names) more
with_names_more f [] more = refl
with_names_more f (n ∷ names) more = with_names_more (with_name f n) names more

-- a name more, or none
pub firsts_more : {X : Type 0} (name : X → Option ℕ) (xs : List X) (x : X) → firsts (filter_map name (xs ++ x ∷ [])) ≡ with_names (firsts (filter_map name xs)) (filter_map name (x ∷ []))
firsts_more name xs x = ap firsts (filter_map-append name xs (x ∷ [])) ∙ with_names_more (record { kept = []; others = 0 }) (filter_map name xs) (filter_map name (x ∷ []))

-- ---- the counts of refusals
counts_more : (n : TextFault → ℕ) (t : Result Packet TextFault) → refused_after (map n all_faults) (seen t) ≡ map (λ fault. if is_refused_as fault t then suc (n fault) else n fault) all_faults
counts_more n (Ok packet) = refl
counts_more n (Err Short) = refl
counts_more n (Err Version) = refl
counts_more n (Err Padding) = refl
counts_more n (Err Sources) = refl
counts_more n (Err WrongType) = refl
counts_more n (Err Cut) = refl
counts_more n (Err Many) = refl
counts_more n (Err Long) = refl
counts_more n (Err NotText) = refl
counts_more n (Err Foreign) = refl

pub refused_more : (r : Reception) (came : List Item) (item : Item) (fault : TextFault) → refused_as r (came ++ item ∷ []) fault ≡ (if is_refused_as fault (text_at r.ssrc r.payload_types item) then suc (refused_as r came fault) else refused_as r came fault)
refused_more r came item fault = filter_more (λ i. is_refused_as fault (text_at r.ssrc r.payload_types i)) came item

pub map_alike : {X Y : Type 0} (f g : X → Y) → ((x : X) → f x ≡ g x) → (xs : List X) → map f xs ≡ map g xs
map_alike f g e [] = refl
map_alike f g e (x ∷ xs) = ap (λ y. y ∷ map f xs) (e x) ∙ ap (λ ys. g x ∷ ys) (map_alike f g e xs)

sources_more : (f : Firsts) (t : Result Packet TextFault) → with_names f (cons_option (source_in t) []) ≡ names_after f (seen t)
sources_more f (Ok packet) = refl
sources_more f (Err fault) = refl

-- a packet more of the stream
-- ---- the numbers
pub arrives_more : (payload_types : PayloadTypes) (ssrc : ℕ) (came : List Item) (at : ℕ) (octets : List ℕ)
    → arrivals_after ssrc payload_types [] (came ++ sent_item (at, octets) ∷ []) ≡ arrived at (text_of octets (Some ssrc) payload_types) (arrivals_after ssrc payload_types [] came)
arrives_more payload_types ssrc came at octets = after_more ssrc payload_types [] came (sent_item (at, octets))

spread_more : (old new : Spread) (past : List Arrival) (at : ℕ) (t : Result Packet TextFault) → IsSpread old (numbered past) → SpreadsAs old (seen t) new → IsSpread new (numbered (arrived at t past))
spread_more old new past at (Ok packet) i m =
    m.1.more (numbered past) (number_it (numbered past) (record { time = max at (latest past); packet = packet })) i (sym (m.1.is (numbered past) i))
spread_more old new past at (Err fault) i m = subst (λ (s : Spread). IsSpread s (numbered past)) (sym m) i

pub survey_more : (payload_types : PayloadTypes) (ssrc : ℕ) (old new : Survey) (came : List Item) (at : ℕ) (octets : List ℕ) → IsSurvey payload_types ssrc old came → SurveysMore old at (seen (text_of octets (Some ssrc) payload_types)) new → IsSurvey payload_types ssrc new (came ++ sent_item (at, octets) ∷ [])
survey_more payload_types ssrc old new came at octets i m =
    let item = sent_item (at, octets) in
    let t = text_at ssrc payload_types item in
    let r = hearing payload_types ssrc in
    record {
      from = m.from ∙ (ap (λ n. min n item.time) i.from ∙ sym (least_more came item));
      to = m.to ∙ (ap (λ n. max n item.time) i.to ∙ sym (greatest_more came item));
      refused = m.refused ∙ (ap (λ ns. refused_after ns (seen t)) i.refused ∙ (counts_more (refused_as r came) t ∙ map_alike _ (refused_as r (came ++ item ∷ [])) (λ fault. sym (refused_more r came item fault)) all_faults));
      sources = m.sources ∙ (ap (λ f. names_after f (seen t)) i.sources ∙ (sym (sources_more (sources ssrc payload_types came) t) ∙ sym (firsts_more (λ x. source_in (text_at ssrc payload_types x)) came item)));
      spread = subst (λ (past : List Arrival). IsSpread new.spread (numbered past)) (sym (arrives_more payload_types ssrc came at octets)) (spread_more old.spread new.spread (arrivals_after ssrc payload_types [] came) at (text_of octets (Some ssrc) payload_types) i.spread m.spread);
    }

-- ---- whether packets are like texts
like_seen : (t : Result Packet TextFault) → is_like (seen t) ≡ is_like_text t
like_seen (Ok packet) = refl
like_seen (Err Short) = refl
like_seen (Err Version) = refl
like_seen (Err Padding) = refl
like_seen (Err Sources) = refl
like_seen (Err WrongType) = refl
like_seen (Err Cut) = refl
like_seen (Err Many) = refl
like_seen (Err Long) = refl
like_seen (Err NotText) = refl
like_seen (Err Foreign) = refl

pub read_ok : (t : Result Packet TextFault) → is_read (seen t) ≡ is_ok t
read_ok (Ok packet) = refl
read_ok (Err fault) = refl

and_true : (b : Bool) → (b && true) ≡ b
and_true true = refl
and_true false = refl

pub likes_more : (ssrc : ℕ) (payload_types : PayloadTypes) (old new : Bool) (came : List Item) (item : Item) → old ≡ are_like_text ssrc payload_types came → new ≡ (old && is_like (seen (text_at ssrc payload_types item))) → new ≡ are_like_text ssrc payload_types (came ++ item ∷ [])
likes_more ssrc payload_types old new came item e n =
    let p : Item → Bool = λ i. is_like_text (text_at ssrc payload_types i) in
    n ∙ (ap (λ b. old && b) (like_seen (text_at ssrc payload_types item)) ∙ (ap (λ b. b && p item) e
    ∙ (ap (λ b. list_all p came && b) (sym (and_true (p item))) ∙ sym (list_all-append p came (item ∷ [])))))
