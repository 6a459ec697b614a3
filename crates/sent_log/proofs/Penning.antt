-- Pens, and what they know of what was sent.
use Rattle.std.proofs.Common.{◌≡◌, ℕ, zero, suc, ◌+◌, ◌-◌, ◌%◌, ◌<◌, ◌≤◌, ◌^◌, Bool, true, false, cond, inl, inr, List, [], ◌∷◌, length, get_or, set, drop, map, Some, refl, ap, subst, sym, ◌∙◌, arith}
use Rattle.std.specs.Prelude.{All, max, not, slice_get, slice_index, slice_index_or, slice_set}
use Rattle.std.specs.List.{AllByRecursion, list_any}
use Rattle.std.proofs.lemmas.Bool.{cases_eq, ne_eqb}
use Rattle.std.proofs.lemmas.List.{drop-map, drop_all, get_or-map, get_or-set_other, get_or-set_same, length-drop, length-map, length-set, map-append, reverse-reverse}
use Rattle.std.proofs.lemmas.List.Elements.{All-from_recursion, All-head, All-push, All-tail}
use Rattle.std.proofs.lemmas.Option.{get_or_from_slice_get, slice_get-get_or, slice_get_within}
use Rattle.stream_spec.specs.Own.{Sent, has_text_in, sent_of}
use Rattle.packetizer.specs.declared.slots.KeptBlock.{KeptBlock}
use Rattle.packetizer.specs.Kept.{blocks_kept}
use Rattle.packetizer.specs.WindowStanding.{kept_last}
use Rattle.packetizer.specs.WindowStanding as window
use Rattle.packetizer.proofs.Repeating.{due_is, is_text, kept_more, shifted}
use Rattle.rtp_text.specs.Writing.{packet_with}
use Rattle.wire_spec.specs.SentPackets.{packet_written}
use Rattle.packetizer.specs.OutputSettings.{stream_of}
use Rattle.packetizer.specs.Speakers.{EachIsNext}
use Rattle.packetizer.specs.OutputStanding.{speaker_of}
use Rattle.packetizer.proofs.Speaking.{own_sent, packet_is}
use Rattle.sent_log.specs.declared.repeats.PacketKey.{PacketKey}
use Rattle.sent_log.specs.declared.pens.Pen.{Pen}
use Rattle.sent_log.specs.declared.terminals.LoggedPacket.{LoggedPacket}
use Rattle.sent_log.specs.declared.terminals.TerminalLog.{TerminalLog}
use Rattle.sent_log.specs.declared.turns.Turn.{Turn}
use Rattle.sent_log.specs.Insides.{IsEntry, IsTerminal, sending_of, sent_by, turn_at}
use Rattle.sent_log.specs.Pens.{AreLast, IsPacket, IsPenOf, kept_by, sent_before, text_sent}
use Rattle.sent_log.specs.Repeats.{AreBelow, anew, fresh, last_kept, nothing, with_one}
use Rattle.sent_log.specs.States.{Sending, first_sent, sents}
use Rattle.sent_log.specs.Writing.{HasText, HasTexts, entry_at, have_text, head_in, kept_in, packet_in, text_in}
use Rattle.sent_log.proofs.Rendering.{each_first, entry_next, sent_count}
use Rattle.sent_log.proofs.Running.{apart}

-- ---- nothing was written

pub none_first : (sent : List (ℕ × Sent)) → first_sent 0 sent ≡ []
none_first sent = drop_all (length sent - 0) sent (omega arith)

fresh_last : (x : Sending) (source : ℕ) (r : List PacketKey) → r ≡ fresh → AreLast x 0 source r
fresh_last x source r e = subst (λ (q : List PacketKey). AreLast x 0 source q) (sym e) (record {
  below =
      All-from_recursion (λ (k : PacketKey). k.sent ≡ true → k.number < length x.sent) (nothing ∷ nothing ∷ nothing ∷ [])
      ((λ q. cc q), ((λ q. cc q), ((λ q. cc q), tt)));
  kept = record { last = ap (λ (past : List (ℕ × Sent)). kept_last 3 x.settings.timestamp (sent_of (slice_index x.sources source) (sents past))) (sym (none_first x.sent)) };
})

pub pen_fresh : (x : Sending) (p : Pen) → x.settings.seq < 65536 → p.seq ≡ x.settings.seq → length p.sources.items ≡ length x.sources → All (λ r. r ≡ fresh) p.sources.items → IsPenOf x 0 p
pen_fresh x p l s n a = record {
  seq = omega (arith, l, s);
  each = n;
  last = λ source r at. fresh_last x source r (sym (get_or_from_slice_get p.sources.items source r r at) ∙ a source r (slice_get_within p.sources.items source r at));
}

-- ---- what stands in the log

pub has_texts : (turns : List Turn) (texts : List (List ℕ)) (t : TerminalLog) → IsTerminal turns texts t → HasTexts texts t
has_texts turns texts t k = record {
  lists = k.lists;
  each = λ i d l. let e = k.entries i d l in record { source = e.source; short = e.short; within = e.within };
}

pub has_text : (turns : List Turn) (texts : List (List ℕ)) (t : TerminalLog) (e : LoggedPacket) → IsEntry turns texts t.first t.sources.items e → HasText texts t e
has_text turns texts t e k = record { source = k.source; short = k.short; within = k.within }

pub all_short : (turns : List Turn) (texts : List (List ℕ)) (t : TerminalLog) → IsTerminal turns texts t → All (λ e. e.len < 1024) t.entries.items
all_short turns texts t k = λ i d l. (k.entries i d l).short

text_is : (turns : List Turn) (texts : List (List ℕ)) (t : TerminalLog) (number : ℕ) → number < length t.entries.items → text_in texts t (entry_at t.entries.items number) ≡ text_sent (sending_of turns texts t).sent number
text_is turns texts t number l =
    let f = sent_by turns texts t.first t.sources.items in
    let none : Sent = record { source = 0; media = 0; text = [] } in
    let zero_entry : LoggedPacket = record { turn = 0; place = 0; len = 0; source = 0 } in
    sym (ap (λ (xs : List (ℕ × Sent)). (slice_index_or xs number (0, none)).1.text) (reverse-reverse (map f t.entries.items))
    ∙ ap (λ (y : ℕ × Sent). y.1.text) (get_or-map f t.entries.items number zero_entry (0, none) l))

kept_same : (turns : List Turn) (texts : List (List ℕ)) (t : TerminalLog) (k : PacketKey) → (k.sent ≡ true → k.number < length t.entries.items) → kept_in texts t k ≡ kept_by (sending_of turns texts t).sent k
kept_same turns texts t k l = ap (λ (xs : List ℕ). let b : KeptBlock = record { sent = k.sent; timestamp = k.timestamp; text = xs } in b) (go k.sent refl)
  where
    go : (b : Bool) → k.sent ≡ b → cond b (text_in texts t (entry_at t.entries.items k.number)) [] ≡ cond b (text_sent (sending_of turns texts t).sent k.number) []
    go true q = text_is turns texts t k.number (l q)
    go false q = refl

all_same : (turns : List Turn) (texts : List (List ℕ)) (t : TerminalLog) (kept : List PacketKey) → AreBelow (length t.entries.items) kept → map (kept_in texts t) kept ≡ map (kept_by (sending_of turns texts t).sent) kept
all_same turns texts t [] a = refl
all_same turns texts t (k ∷ kept) a =
    let P = λ (x : PacketKey). x.sent ≡ true → x.number < length t.entries.items in
    rw (kept_same turns texts t k (All-head P k kept a), all_same turns texts t kept (All-tail P k kept a)) refl

last_of_three : (g base : ℕ) (zs : List Sent) → g ≤ 3 → drop (3 - g) (kept_last 3 base zs) ≡ kept_last g base zs
last_of_three zero base zs l = refl
last_of_three (suc zero) base zs l = refl
last_of_three (suc (suc zero)) base zs l = refl
last_of_three (suc (suc (suc zero))) base zs l = refl
last_of_three (suc (suc (suc (suc g)))) base zs l = absurd (omega arith)

-- the numbers that a pen keeps are below the count of entries
pub below_count : (turns : List Turn) (texts : List (List ℕ)) (t : TerminalLog) (number source : ℕ) (r : List PacketKey) → AreLast (sending_of turns texts t) number source r → AreBelow (length t.entries.items) r
below_count turns texts t number source r a = subst (λ (n : ℕ). AreBelow n r) (sym (sent_count turns texts t)) a.below

-- what is kept are the blocks of a window
kept_are : (turns : List Turn) (texts : List (List ℕ)) (t : TerminalLog) (number source g : ℕ) (r : List PacketKey) → AreLast (sending_of turns texts t) number source r → g ≤ 3
    → map (kept_in texts t) (last_kept g r) ≡ kept_last g t.settings.timestamp (sent_before (sending_of turns texts t) number source)
kept_are turns texts t number source g r a l =
    sym (drop-map (kept_in texts t) (3 - g) r)
    ∙ (ap (λ (bs : List KeptBlock). drop (3 - g) bs) (all_same turns texts t r (below_count turns texts t number source r a) ∙ a.kept.last)
    ∙ last_of_three g t.settings.timestamp (sent_before (sending_of turns texts t) number source) l)

-- ---- the packet

pub packet_made : (turns : List Turn) (texts : List (List ℕ)) (t : TerminalLog) (number : ℕ) (e : LoggedPacket) (pen : Pen) (r : List PacketKey) (octets : List ℕ) (at seq timestamp : ℕ) → IsTerminal turns texts t
    → slice_get t.entries.items number ≡ Some e → IsPenOf (sending_of turns texts t) number pen → slice_get pen.sources.items e.source ≡ Some r → seq ≡ pen.seq
    → timestamp ≡ (t.settings.timestamp + (turn_at turns e.turn).media) % 2 ^ 32 → at ≡ (turn_at turns e.turn).now
    → octets ≡ packet_in texts t (last_kept t.settings.generations r) e (head_in t (not (have_text texts t (last_kept (max 1 t.settings.generations) r))) seq timestamp e.source)
    → IsPacket (sending_of turns texts t) number octets at
packet_made turns texts t number e pen r octets at seq timestamp k g p there q s a is = λ lawful.
    let x = sending_of turns texts t in
    let settings = t.settings in
    let sent = sent_by turns texts t.first t.sources.items e in
    let past = sents (first_sent number x.sent) in
    let next = entry_next turns texts t number e g in
    let all = subst (λ (xs : List (ℕ × Sent)). EachIsNext (stream_of settings) (sents xs)) next (each_first (stream_of settings) (number + 1) x.sent lawful) in
    let last = p.last e.source r there in
    let zs = sent_before x number e.source in
    let generations = settings.generations in
    let few : max 1 generations ≤ 3 = omega (arith, k.settings.generations) in
    let markers : have_text texts t (last_kept (max 1 generations) r) ≡ has_text_in (max 1 generations) zs =
    ap (λ (bs : List KeptBlock). list_any is_text bs) (kept_are turns texts t number e.source (max 1 generations) r last few) ∙ due_is (max 1 generations) settings.timestamp (kept_last (max 1 generations) settings.timestamp zs) zs (record { last = refl }) in
    let marker_bit = not (have_text texts t (last_kept (max 1 generations) r)) in
    let blocks = kept_are turns texts t number e.source generations r last k.settings.generations in
    let count : seq ≡ (settings.seq + length past) % 65536 = q ∙ (p.seq ∙ ap (λ (n : ℕ). (settings.seq + n) % 65536) (sym (past_count x number past refl (slice_get_within t.entries.items number e g) (sent_count turns texts t)))) in (
      sent,
      next,
      a,
      is
          ∙ (ap (λ (bs : List KeptBlock). packet_written settings.payload_types (packet_with (head_in t marker_bit seq timestamp e.source) (blocks_kept timestamp bs) (text_in texts t e))) blocks
          ∙ packet_is settings settings past sent.1 (speaker_of settings past sent.1.source) marker_bit seq timestamp k.settings refl all.1 all.0 refl (ap not markers) count s),
    )
  where
    past_count : (x : Sending) (n : ℕ) (past : List Sent) → past ≡ sents (first_sent n x.sent) → n < length t.entries.items → length t.entries.items ≡ length x.sent → length past ≡ n
    past_count x n past e l m =
        omega (arith, ap (λ (zs : List Sent). length zs) e, length-map (first_sent n x.sent) (λ (y : ℕ × Sent). y.1), length-drop (length x.sent - n) x.sent, l, m)

-- ---- one packet more

below_more : (n : ℕ) (r : List PacketKey) (now : PacketKey) → AreBelow n r → (now.sent ≡ true → now.number < n) → AreBelow n (with_one now r)
below_more n [] now a b = All-push (λ (k : PacketKey). k.sent ≡ true → k.number < n) [] now a b
below_more n (k ∷ kept) now a b =
    let P = λ (x : PacketKey). x.sent ≡ true → x.number < n in
    All-push P kept now (All-tail P k kept a) b

shifted_map : (f : PacketKey → KeptBlock) (r : List PacketKey) (now : PacketKey) → 0 < length r → map f (with_one now r) ≡ shifted (map f r) (f now)
shifted_map f [] now l = absurd (omega arith)
shifted_map f (k ∷ kept) now l = map-append f kept (now ∷ [])

-- there are three
three_kept : (x : Sending) (number source : ℕ) (r : List PacketKey) → AreLast x number source r → length r ≡ 3
three_kept x number source r a = sym (length-map r (kept_by x.sent)) ∙ ap (λ (bs : List KeptBlock). length bs) a.kept.last

-- of its source
own_last : (x : Sending) (number source : ℕ) (sent : ℕ × Sent) (r : List PacketKey) (timestamp : ℕ) → first_sent (number + 1) x.sent ≡ sent ∷ first_sent number x.sent → sent.1.source ≡ slice_index x.sources source
    → AreLast x number source r → number < length x.sent → timestamp ≡ (x.settings.timestamp + sent.1.media) % 2 ^ 32 → text_sent x.sent number ≡ sent.1.text
    → AreLast x (number + 1) source (with_one (record { sent = true; timestamp = timestamp; number = number }) r)
own_last x number source sent r timestamp next own a l s w =
    let now : PacketKey = record { sent = true; timestamp = timestamp; number = number } in
    let zs = sent_before x number source in
    let more : sent_before x (number + 1) source ≡ sent.1 ∷ zs =
    ap (λ (ys : List (ℕ × Sent)). sent_of (slice_index x.sources source) (sents ys)) next
    ∙ (ap (λ (n : ℕ). sent_of n (sent.1 ∷ sents (first_sent number x.sent))) (sym own)
    ∙ (own_sent sent.1 (sents (first_sent number x.sent)) ∙ ap (λ (n : ℕ). sent.1 ∷ sent_of n (sents (first_sent number x.sent))) own)) in
    record {
      below = below_more (length x.sent) r now a.below (λ q. l);
      kept =
          subst (λ (ys : List Sent). window.WindowStandsFor 3 x.settings.timestamp (map (kept_by x.sent) (with_one now r)) ys) (sym more)
          (kept_more 3 x.settings.timestamp zs sent.1 timestamp (text_sent x.sent number) (map (kept_by x.sent) r) (map (kept_by x.sent) (with_one now r)) a.kept s w (shifted_map (kept_by x.sent) r now (omega (arith, three_kept x number source r a))));
    }

-- of another source
other_last : (x : Sending) (number source : ℕ) (sent : ℕ × Sent) (r : List PacketKey) → first_sent (number + 1) x.sent ≡ sent ∷ first_sent number x.sent → (sent.1.source ≡ slice_index x.sources source → ⊥)
    → AreLast x number source r → AreLast x (number + 1) source r
other_last x number source sent r next other a =
    let same : sent_before x (number + 1) source ≡ sent_before x number source =
    ap (λ (ys : List (ℕ × Sent)). sent_of (slice_index x.sources source) (sents ys)) next ∙ without (slice_index x.sources source) (sents (first_sent number x.sent)) other in
    record {
      below = a.below;
      kept = subst (λ (ys : List Sent). window.WindowStandsFor 3 x.settings.timestamp (map (kept_by x.sent) r) ys) (sym same) a.kept;
    }
  where
    without : (s : ℕ) (past : List Sent) → (sent.1.source ≡ s → ⊥) → sent_of s (sent.1 ∷ past) ≡ sent_of s past
    without s past differ = rw (ne_eqb sent.1.source s differ) refl

pub pen_more : (turns : List Turn) (texts : List (List ℕ)) (t : TerminalLog) (number : ℕ) (e : LoggedPacket) (old new : Pen) (timestamp : ℕ) → IsTerminal turns texts t
    → slice_get t.entries.items number ≡ Some e → IsEntry turns texts t.first t.sources.items e → IsPenOf (sending_of turns texts t) number old
    → timestamp ≡ (t.settings.timestamp + (turn_at turns e.turn).media) % 2 ^ 32 → new.seq ≡ (old.seq + 1) % 65536
    → ((d : List PacketKey) → new.sources.items ≡ slice_set old.sources.items e.source (with_one (record { sent = true; timestamp = timestamp; number = number }) (slice_index_or old.sources.items e.source d)))
    → IsPenOf (sending_of turns texts t) (number + 1) new
pen_more turns texts t number e old new timestamp k g h p s q u =
    let x = sending_of turns texts t in
    let sent = sent_by turns texts t.first t.sources.items e in
    let next = entry_next turns texts t number e g in
    let now : PacketKey = record { sent = true; timestamp = timestamp; number = number } in
    let here : number < length t.entries.items = slice_get_within t.entries.items number e g in
    let l : number < length x.sent = omega (arith, here, sent_count turns texts t) in
    let rs = old.sources.items in
    let before = get_or rs e.source fresh in
    let many : length rs ≡ length t.sources.items = p.each in
    let size : length new.sources.items ≡ length t.sources.items = ap (λ (ys : List (List PacketKey)). length ys) (u fresh) ∙ (length-set rs e.source (with_one now before) ∙ many) in
    let zero_entry : LoggedPacket = record { turn = 0; place = 0; len = 0; source = 0 } in
    let text : text_sent x.sent number ≡ text_in texts t e =
    sym (text_is turns texts t number here) ∙ ap (λ (en : LoggedPacket). text_in texts t en) (get_or_from_slice_get t.entries.items number e zero_entry g) in
    record {
      seq = counted old.seq new.seq t.settings.seq number p.seq q;
      each = size;
      last = λ source r at.
          let read : r ≡ get_or (set rs e.source (with_one now before)) source fresh = sym (get_or_from_slice_get new.sources.items source r fresh at) ∙ ap (λ (ys : List (List PacketKey)). get_or ys source fresh) (u fresh) in
          let within : source < length t.sources.items = omega (arith, slice_get_within new.sources.items source r at, size) in
          elim (cases_eq source e.source) [
            | inl same ↦
                let there = slice_get-get_or rs e.source fresh (omega (arith, many, h.source)) in
                let is : r ≡ with_one now before =
                read
                ∙ (ap (λ (i : ℕ). get_or (set rs e.source (with_one now before)) i fresh) same ∙ get_or-set_same rs e.source (with_one now before) fresh (omega (arith, many, h.source))) in
                subst (λ (i : ℕ). AreLast x (number + 1) i r) (sym same)
                (subst (λ (y : List PacketKey). AreLast x (number + 1) e.source y) (sym is) (own_last x number e.source sent before timestamp next refl (p.last e.source before there) l s text))
            | inr other ↦
                let there = slice_get-get_or rs source fresh (omega (arith, many, within)) in
                let is : r ≡ get_or rs source fresh = read ∙ get_or-set_other rs e.source source (with_one now before) fresh other in
                subst (λ (y : List PacketKey). AreLast x (number + 1) source y) (sym is)
                (other_last x number source sent (get_or rs source fresh) next (λ z. apart t.sources.items e.source source k.distinct h.source within (λ w. other (sym w)) z) (p.last source (get_or rs source fresh) there))
          ];
    }
  where
    counted : (old new first n : ℕ) → old ≡ (first + n) % 65536 → new ≡ (old + 1) % 65536 → new ≡ (first + (n + 1)) % 65536
    counted old new first n p q = omega arith

-- each is as if nothing was sent
pub all_anew : (rs : List (List PacketKey)) → All (λ r. r ≡ fresh) (map anew rs)
all_anew rs = All-from_recursion (λ (r : List PacketKey). r ≡ fresh) (map anew rs) (go rs)
  where
    go : (xs : List (List PacketKey)) → AllByRecursion (λ (r : List PacketKey). r ≡ fresh) (map anew xs)
    go [] = tt
    go (x ∷ xs) = (refl, go xs)
