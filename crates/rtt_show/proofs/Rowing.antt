-- Packets of a stream that come in a row.
use Rattle.std.proofs.Common.{◌≡◌, ℕ, suc, ◌+◌, ◌-◌, ◌%◌, ◌^◌, ◌<◌, ◌≤◌, Bool, true, false, cond, Option, Some, Result, Ok, Err, List, [], ◌∷◌, ◌++◌, length, map, refl, ap, sym, ◌∙◌, subst, arith}
use Rattle.std.specs.Prelude.{◌&&◌, ◌==◌, nat_lt, nat_le, min, max, unwrap_or}
use Rattle.std.specs.List.{list_any}
use Rattle.std.proofs.lemmas.Bool.{true≢false, eq-eqb, ne_eqb, lt-leb, le-leb, le-ltb}
use Rattle.rtt_base.specs.Steps.{◌>>=◌}
use Rattle.rtt_base.specs.declared.blocks.TextBlock.{TextBlock}
use Rattle.rtt_base.specs.declared.text_packets.PayloadTypes.{PayloadTypes}
use Rattle.rtt_base.specs.declared.limits.TheConstants.{MOST_PACKET_OCTETS}
use Rattle.wire_spec.specs.declared.faults.RtpFault.{RtpFault}
use Rattle.wire_spec.specs.declared.faults.TextFault.{TextFault}
use Rattle.wire_spec.specs.declared.faults.TextFault.TheVariants.{Sources, Long, Foreign}
use Rattle.wire_spec.specs.Faults.{header_fault, blocks_fault}
use Rattle.wire_spec.specs.Packets.{Packet, Arrival}
use Rattle.wire_spec.specs.Rtp.{Reading, rtp}
use Rattle.wire_spec.specs.Red.{red}
use Rattle.wire_spec.specs.Text.{accepted, is_asked, refused_as, short_within, text_of, text_of_short, text_packet, text_within}
use Rattle.wire_spec.specs.declared.limits.TheConstants.{LAST_RECORD_MOMENT}
use Rattle.wire_spec.specs.Dump.{Item, What, Whole, Rtcp, Cut, Large, arrivals_after, arrivals_with, arrived, sent_item}
use Rattle.stream_spec.specs.Numbering.{Numbered, numbered, number_after, nearest, greatest, first_number, has_number, distinct_from, in_time, by_number, used}
use Rattle.command_spec.specs.Firsts.{Firsts, firsts, with_name}
use Rattle.command_spec.specs.Streams.{source_in, sources, text_at}
use Rattle.command_spec.specs.Showing.{hearing, is_refused_as}
use Rattle.command_spec.specs.Reading.{usual_wait}
use Rattle.report_spec.specs.Numbers.{late, lost_among, lost_from}
use Rattle.report_spec.specs.Times.{number_lines}
use Rattle.report_spec.specs.Missed.{late_count}
use Rattle.stream_spec.proofs.Rising.{length_by_number}
use Rattle.rtt_show.specs.declared.origins.Origin.{Origin}
use Rattle.rtt_show.specs.declared.rows.Row.{Row}
use Rattle.command_spec.specs.Showing as showing
use Rattle.view_spec.specs.declared.counts.Counts.{Counts}
use Rattle.terminal.specs.declared.terminals.Terminal.{Terminal}
use Rattle.terminal.specs.Terminals.{Heard, counts_of}
use Rattle.rtt_show.specs.declared.spreads.Spread.{Spread}
use Rattle.rtt_show.specs.declared.surveys.Survey.{Survey}
use Rattle.rtt_show.specs.Rows.{AreTexts, Ascends, IsOrigin, IsRow, IsStraight, RowsMore, SurveysRow, begin_of, only}
use Rattle.rtt_show.specs.Shown.{settings_of}
use Rattle.rtt_show.specs.Spreads.{IsSpread}
use Rattle.rtt_show.specs.Surveys.{all_faults, firsts_of}
use Rattle.rtt_show.proofs.Straying.{late_in_time, used_few}
use Rattle.rtt_show.proofs.Surveying.{arrives_more, map_alike, firsts_more, greatest_more, least_more, refused_more}
use Rattle.stream_spec.proofs.Plain.{all_numbered as numbered_length}

-- ---- a header
abbrev has_ok : {A E : Type 0} → Result A E → Bool
has_ok (Ok x) = true
has_ok (Err e) = false

abbrev ok_or : {A E : Type 0} → A → Result A E → A
ok_or d (Ok x) = x
ok_or d (Err e) = d

blocks_in : {E : Type 0} (x : Result (List TextBlock) E) (r : Reading) (p : Packet) → (x >>= (λ blocks. Ok (text_packet r blocks))) ≡ Ok p → (p.source ≡ unwrap_or r.csrc r.ssrc) × (p.seq ≡ r.seq)
blocks_in (Ok blocks) r p e = let is : text_packet r blocks ≡ p = ap (ok_or p) e in (ap (λ (q : Packet). q.source) (sym is), ap (λ (q : Packet). q.seq) (sym is))
blocks_in (Err f) r p e = absurd (true≢false (sym (ap has_ok e)))

accepted_in : {B : Type 0} (asked several : Bool) (r : Reading) (k : Reading → Result B TextFault) (x : B) → (cond asked (cond several (Err Sources) (Ok r)) (Err Foreign) >>= k) ≡ Ok x → k r ≡ Ok x
accepted_in true true r k x e = absurd (true≢false (sym (ap has_ok e)))
accepted_in true false r k x e = e
accepted_in false several r k x e = absurd (true≢false (sym (ap has_ok e)))

short_in : (octets : List ℕ) (asked : Option ℕ) (payload_types : PayloadTypes) (r : Reading) (p : Packet) → rtp octets ≡ Ok r → text_of_short octets asked payload_types ≡ Ok p → (p.source ≡ unwrap_or r.csrc r.ssrc) × (p.seq ≡ r.seq)
unfolding short_within
short_in octets asked payload_types r p h e =
    let k : Reading → Result Packet TextFault = λ read. refused_as blocks_fault (red read.payload read.pt payload_types) >>= (λ blocks. Ok (text_packet read blocks)) in
    let here : (refused_as header_fault (Ok r) >>= (λ reading. accepted asked reading >>= k)) ≡ Ok p = subst (λ (x : Result Reading RtpFault). (refused_as header_fault x >>= (λ reading. accepted asked reading >>= k)) ≡ Ok p) h e in
    blocks_in (refused_as blocks_fault (red r.payload r.pt payload_types)) r p (accepted_in (is_asked asked r.ssrc) (nat_lt 1 r.cc) r k p here)

pub origin_is : (octets : List ℕ) (r : Reading) (o : Origin) → rtp octets ≡ Ok r → o.source ≡ unwrap_or r.csrc r.ssrc → o.seq ≡ r.seq → IsOrigin o octets
unfolding text_within
origin_is octets r o h s n asked payload_types p e = let q = go (nat_lt MOST_PACKET_OCTETS (length octets)) e in (q.0 ∙ sym s, q.1 ∙ sym n)
  where
    go : (b : Bool) → cond b (Err Long) (text_of_short octets asked payload_types) ≡ Ok p → (p.source ≡ unwrap_or r.csrc r.ssrc) × (p.seq ≡ r.seq)
    go true q = absurd (true≢false (sym (ap has_ok q)))
    go false q = short_in octets asked payload_types r p h q

-- ---- numbers
top_is : (first : ℕ) (e : Numbered) (past : List Numbered) → Ascends first (e ∷ past) → greatest (e ∷ past) ≡ first + length past
top_is first e [] a = omega (arith, a.0)
top_is first e (d ∷ past) a = let t = top_is first d past a.1 in omega (arith, a.0, t)

next_is : (f k seq : ℕ) → seq ≡ (f + suc k) % 65536 → nearest (f + 65536 + k) seq ≡ f + 65536 + suc k
next_is f k seq e = omega (arith, e)

-- the number of the next packet
number_is : (f seq : ℕ) (past : List Numbered) → Ascends (f + 65536) past → seq ≡ (f + length past) % 65536 → f < 65536 → number_after past seq ≡ f + 65536 + length past
number_is f seq [] a e small = omega (arith, small, e)
number_is f seq (d ∷ past) a e small = ap (λ n. nearest n seq) (top_is (f + 65536) d past a) ∙ next_is f (length past) seq e

-- ---- each packet is used, and none is late
none_both : (n : ℕ) → n ≡ 0 → 0 + n ≡ 0
none_both n e = omega (arith, e)

module _ (first : ℕ) where
  absent : (n : ℕ) (past : List Numbered) → Ascends first past → first + length past ≤ n → has_number past n ≡ false
  absent n [] a l = refl
  absent n (x ∷ past) a l = rw (ne_eqb x.number n (λ q. omega (arith, q, a.0, l))) (absent n past a.1 (omega (arith, l)))

  none_above : (n : ℕ) (past : List Numbered) → Ascends first past → first + length past ≤ n → distinct_from (suc n) past ≡ 0
  none_above n [] a l = refl
  none_above n (x ∷ past) a l = rw (lt-leb (suc n) x.number (omega (arith, a.0, l))) (none_both (distinct_from (suc n) past) (none_above n past a.1 (omega (arith, l))))

  none_waits : (wait t n : ℕ) (past : List Numbered) → Ascends first past → first + length past ≤ n → list_any (λ x. nat_lt n x.number && nat_le (x.time + wait) t) past ≡ false
  none_waits wait t n [] a l = refl
  none_waits wait t n (x ∷ past) a l = rw (le-ltb n x.number (omega (arith, a.0, l))) (none_waits wait t n past a.1 (omega (arith, l)))

  first_low : (n : ℕ) (past : List Numbered) → Ascends first past → first + length past ≤ n → first_number n past ≤ n
  first_low n [] a l = omega arith
  first_low n (x ∷ past) a l = let low = first_low x.number past a.1 (omega (arith, a.0)) in omega (arith, low, a.0, l)

  timely : (wait : ℕ) (e : Numbered) (past : List Numbered) → Ascends first (e ∷ past) → in_time wait e past ≡ true
  timely wait e past a =
      let l : first + length past ≤ e.number = omega (arith, a.0) in
      rw (le-leb (first_number e.number past) e.number (first_low e.number past a.1 l), absent e.number past a.1 l, none_waits wait e.time e.number past a.1 l, none_above e.number past a.1 l) refl

-- they stand one behind the other, the lowest first
abbrev Climbs : ℕ → List Numbered → Type 0
Climbs n [] = Unit {0}
Climbs n (u ∷ us) = (u.number ≡ n) × Climbs (suc n) us

climbs_more : (n : ℕ) (us : List Numbered) (e : Numbered) → Climbs n us → e.number ≡ n + length us → Climbs n (by_number e us)
climbs_more n [] e c q = (omega (arith, q), tt)
climbs_more n (u ∷ us) e c q = rw (le-ltb e.number u.number (omega (arith, q, c.0))) (c.0, climbs_more (suc n) us e c.1 (omega (arith, q)))

used_climb : (wait first : ℕ) (past : List Numbered) → Ascends first past → Climbs first (used wait past) × (length (used wait past) ≡ length past)
used_climb wait first [] a = (tt, refl)
used_climb wait first (e ∷ past) a =
    let r = used_climb wait first past a.1 in
    rw (timely first wait e past a) (climbs_more first (used wait past) e r.0 (omega (arith, a.0, r.1)), length_by_number e (used wait past) ∙ ap suc r.1)

none_lost : (wait n : ℕ) (past us : List Numbered) → Climbs (suc n) us → lost_from wait past n us ≡ []
none_lost wait n past [] c = refl
none_lost wait n past (u ∷ us) c =
    let here : u.number - suc n ≡ 0 = omega (arith, c.0) in
    rw here (none_lost wait u.number past us (subst (λ (m : ℕ). Climbs (suc m) us) (sym c.0) c.1))

lost_none : (wait n : ℕ) (past us : List Numbered) → Climbs n us → lost_among wait past us ≡ []
lost_none wait n past [] c = refl
lost_none wait n past (u ∷ us) c = none_lost wait u.number past us (subst (λ (m : ℕ). Climbs (suc m) us) (sym c.0) c.1)

late_count_none : (wait first : ℕ) (past : List Numbered) → Ascends first past → late_count wait past ≡ 0
late_count_none wait first [] a = refl
late_count_none wait first (e ∷ past) a = late_in_time wait e past (timely first wait e past a) ∙ late_count_none wait first past a.1

nothing : {X : Type 0} (xs : List X) → length xs ≡ 0 → xs ≡ []
nothing [] e = refl
nothing (x ∷ xs) e = absurd (omega (arith, e))

-- such a stream has no line of a number
pub no_numbers : (ssrc first : ℕ) (past : List Numbered) → Ascends first past → number_lines ssrc past ≡ []
no_numbers ssrc first past a =
    rw (lost_none usual_wait first past (used usual_wait past) (used_climb usual_wait first past a).0, nothing (late usual_wait past) (late_count_none usual_wait first past a)) refl

-- ---- a packet more
one_arrives : (time : ℕ) (r : Result Packet TextFault) (before : List Arrival) → length (arrived time r before) ≤ length before + 1
one_arrives time (Ok p) before = omega arith
one_arrives time (Err f) before = omega arith

item_arrives : (ssrc : ℕ) (payload_types : PayloadTypes) (time : ℕ) (w : What) (before : List Arrival) → length (arrivals_with ssrc payload_types (record { time = time; what = w }) before) ≤ length before + 1
item_arrives ssrc payload_types time (Whole octets) before = one_arrives time (text_of octets (Some ssrc) payload_types) before
item_arrives ssrc payload_types time Rtcp before = omega arith
item_arrives ssrc payload_types time Cut before = omega arith
item_arrives ssrc payload_types time Large before = omega arith

few_before : (ssrc : ℕ) (payload_types : PayloadTypes) (before : List Arrival) (came : List Item) → length (arrivals_after ssrc payload_types before came) ≤ length before + length came
few_before ssrc payload_types before [] = omega arith
few_before ssrc payload_types before (item ∷ came) =
    let one : length (arrivals_with ssrc payload_types item before) ≤ length before + 1 = item_arrives ssrc payload_types item.time item.what before in
    let rest : length (arrivals_after ssrc payload_types (arrivals_with ssrc payload_types item before) came) ≤ length (arrivals_with ssrc payload_types item before) + length came = few_before ssrc payload_types (arrivals_with ssrc payload_types item before) came in
    omega (arith, one, rest)

few_arrive : (ssrc : ℕ) (payload_types : PayloadTypes) (came : List Item) → length (arrivals_after ssrc payload_types [] came) ≤ length came
few_arrive ssrc payload_types came = omega (arith, few_before ssrc payload_types [] came)

length_more : {X : Type 0} (xs : List X) (x : X) → length (xs ++ x ∷ []) ≡ length xs + 1
length_more [] x = refl
length_more (y ∷ xs) x = ap suc (length_more xs x) ∙ omega arith

-- the source of one more
only_more : (old new : ℕ) (came : List Item) (item : Item) → (0 < length came → new ≡ old) → with_name (only old came) new ≡ only new (came ++ item ∷ [])
only_more old new [] item s = refl
only_more old new (c ∷ came) item s = ap (λ (k : ℕ). with_name (only k (c ∷ came)) new) (sym (s (omega arith))) ∙ rw (eq-eqb new new refl) refl

first_same : (old new : ℕ) (xs : List Numbered) → (0 < length xs → new ≡ old) → Ascends (old + 65536) xs → Ascends (new + 65536) xs
first_same old new [] e a = tt
first_same old new (x ∷ xs) e a = subst (λ (k : ℕ). Ascends (k + 65536) (x ∷ xs)) (sym (e (omega arith))) a

module _ (ssrc : ℕ) (payload_types : PayloadTypes) (old new : Row) (at : ℕ) (octets : List ℕ) (origin : Origin) (came : List Item) (o : IsOrigin origin octets) (m : RowsMore old at origin new) (n : old.packets ≡ length came) where
  abbrev past : List Arrival
  past = arrivals_after ssrc payload_types [] came

  abbrev item : Item
  item = sent_item (at, octets)

  count : (r : Result Packet TextFault) → text_of octets (Some ssrc) payload_types ≡ r → AreTexts ssrc payload_types (came ++ item ∷ []) → length (arrived at r past) ≡ length came + 1
  count r x texts =
      ap (λ (r : Result Packet TextFault). length (arrived at r past)) (sym x)
      ∙ (ap (λ (a : List Arrival). length a) (sym (arrives_more payload_types ssrc came at octets)) ∙ (texts ∙ length_more came item))

  text_more : (p : Packet) → text_of octets (Some ssrc) payload_types ≡ Ok p → length past ≡ length came → IsStraight old ssrc payload_types came → IsStraight new ssrc payload_types (came ++ item ∷ [])
  text_more p x before s =
      let from = o (Some ssrc) payload_types p x in
      let all : length (numbered past) ≡ length came = numbered_length past ∙ before in
      let was : Ascends (new.first + 65536) (numbered past) = first_same old.first new.first (numbered past) (λ some. (m.still (omega (arith, n, all, some))).1) s.numbers in
      let seq : p.seq ≡ (new.first + length (numbered past)) % 65536 = from.1 ∙ (m.seq ∙ ap (λ (k : ℕ). (new.first + k) % 65536) (n ∙ sym all)) in
      let now : Ascends (new.first + 65536) (numbered (arrived at (Ok p) past)) = (number_is new.first p.seq (numbered past) was seq m.small, was) in
      record {
        numbers = subst (λ (a : List Arrival). Ascends (new.first + 65536) (numbered a)) (sym (arrives_more payload_types ssrc came at octets))
            (subst (λ (r : Result Packet TextFault). Ascends (new.first + 65536) (numbered (arrived at r past))) (sym x) now);
        sources = firsts_more (λ i. source_in (text_at ssrc payload_types i)) came item
            ∙ rw x (ap (λ (f : Firsts). with_name f p.source) s.sources ∙ (ap (with_name (only old.source came)) (from.0 ∙ sym m.source) ∙ only_more old.source new.source came item (λ some. (m.still (omega (arith, n, some))).0)));
        refused = λ fault. refused_more (hearing payload_types ssrc) came item fault ∙ rw x (s.refused fault);
      }

  straight_more : (AreTexts ssrc payload_types came → IsStraight old ssrc payload_types came) → AreTexts ssrc payload_types (came ++ item ∷ []) → IsStraight new ssrc payload_types (came ++ item ∷ [])
  straight_more f texts = go (text_of octets (Some ssrc) payload_types) refl
    where
      go : (r : Result Packet TextFault) → text_of octets (Some ssrc) payload_types ≡ r → IsStraight new ssrc payload_types (came ++ item ∷ [])
      go (Err fault) x = let c : length past ≡ length came + 1 = count (Err fault) x texts in absurd (omega (arith, c, few_arrive ssrc payload_types came))
      go (Ok p) x =
          let c : suc (length past) ≡ length came + 1 = count (Ok p) x texts in
          let before : length past ≡ length came = omega (arith, c) in
          text_more p x before (f before)

begin_same : (b : Bool) (origin now : Origin) → b ≡ false → cond b origin now ≡ now
begin_same true origin now e = absurd (true≢false e)
begin_same false origin now e = refl

pub rows_more_by : (old new : Row) (at : ℕ) (origin begin : Origin) (from to : ℕ) → begin ≡ begin_of old origin → origin.source ≡ begin.source → origin.seq ≡ (begin.seq + old.packets) % 65536 → begin.seq < 2 ^ 16 → from ≡ min old.from at → to ≡ max old.to at → new ≡ record { source = begin.source; first = begin.seq; packets = old.packets + 1; from = from; to = to } → RowsMore old at origin new
rows_more_by old new at origin begin from to b s q small f t e = subst (RowsMore old at origin) (sym e) (record {
  packets = refl;
  from = f;
  to = t;
  source = sym s;
  seq = q;
  small = small;
  still = λ some. let is : begin ≡ record { source = old.source; seq = old.first } = b ∙ begin_same (old.packets == 0) origin (record { source = old.source; seq = old.first }) (ne_eqb old.packets 0 (λ z. omega (arith, z, some))) in (ap (λ (o : Origin). o.source) is, ap (λ (o : Origin). o.seq) is);
})

pub row_more : (old new : Row) (at : ℕ) (octets : List ℕ) (origin : Origin) → IsOrigin origin octets → RowsMore old at origin new → (came : List Item) → IsRow old came → IsRow new (came ++ sent_item (at, octets) ∷ [])
row_more old new at octets origin o m came i =
    let item = sent_item (at, octets) in
    record {
      packets = m.packets ∙ (ap (λ n. n + 1) i.packets ∙ sym (length_more came item));
      from = m.from ∙ (ap (λ n. min n at) i.from ∙ sym (least_more came item));
      to = m.to ∙ (ap (λ n. max n at) i.to ∙ sym (greatest_more came item));
      straight = λ ssrc payload_types texts. straight_more ssrc payload_types old new at octets origin came o m i.packets (i.straight ssrc payload_types) texts;
    }

pub row_none : (row : Row) → row.packets ≡ 0 → row.from ≡ LAST_RECORD_MOMENT → row.to ≡ 0 → IsRow row []
row_none row n f t = record {
  packets = n;
  from = f;
  to = t;
  straight = λ ssrc payload_types texts. record { numbers = tt; sources = refl; refused = λ fault. refl };
}

-- ---- what is found out of a row
first_is : (n first : ℕ) (e : Numbered) (past : List Numbered) → Ascends first (e ∷ past) → first_number n (e ∷ past) ≡ first
first_is n first e [] a = omega (arith, a.0)
first_is n first e (d ∷ past) a = first_is e.number first d past a.1

spread_is : (row : Row) (s : Spread) (past : List Numbered) → Ascends (row.first + 65536) past → row.packets ≡ length past → 0 < row.packets → s.packets ≡ row.packets → s.first ≡ row.first + 65536 → s.top ≡ row.first + 65536 + (row.packets - 1) → IsSpread s past
spread_is row s [] a n some p f t = absurd (omega (arith, n, some))
spread_is row s (e ∷ past) a n some p f t = record {
  packets = p ∙ n;
  first = f ∙ sym (first_is 0 (row.first + 65536) e past a);
  top = omega (arith, t, n, top_is (row.first + 65536) e past a);
}

only_is : (source : ℕ) (came : List Item) → 0 < length came → firsts (source ∷ []) ≡ only source came
only_is source [] some = absurd (omega (arith, some))
only_is source (x ∷ came) some = refl

pub survey_is : (row : Row) (s : Survey) → 0 < row.packets → s.from ≡ row.from → s.to ≡ row.to → s.refused ≡ map (λ fault. 0) all_faults → firsts_of s.sources ≡ firsts (row.source ∷ []) → s.spread.packets ≡ row.packets → s.spread.first ≡ row.first + 65536 → s.spread.top ≡ row.first + 65536 + (row.packets - 1)
    → SurveysRow row s
survey_is row s some from to refused sources p f t payload_types ssrc came i texts =
    let straight = i.straight ssrc payload_types texts in
    let past = arrivals_after ssrc payload_types [] came in
    record {
      from = from ∙ i.from;
      to = to ∙ i.to;
      refused = refused ∙ map_alike (λ fault. 0) (showing.refused_as (hearing payload_types ssrc) came) (λ fault. sym (straight.refused fault)) all_faults;
      sources = sources ∙ (only_is row.source came (omega (arith, some, i.packets)) ∙ sym straight.sources);
      spread = spread_is row s.spread (numbered past) straight.numbers (i.packets ∙ (sym texts ∙ sym (numbered_length past))) some p f t;
    }

-- where so many packets are used, each is one of text
pub all_texts : (payload_types : PayloadTypes) (ssrc : ℕ) (row : Row) (t : Terminal) (sources : List ℕ) (came : List Item) → IsRow row came → Heard t (settings_of payload_types ssrc) sources came → (counts_of t).used ≡ row.packets → AreTexts ssrc payload_types came
all_texts payload_types ssrc row t sources came i h u =
    let past = arrivals_after ssrc payload_types [] came in
    let is : (counts_of t).used ≡ length (used usual_wait (numbered past)) = ap (λ (n : Counts). n.used) h.counts in
    omega (arith, is, u, i.packets, used_few usual_wait (numbered past), numbered_length past, few_arrive ssrc payload_types came)
