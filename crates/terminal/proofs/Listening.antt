-- A terminal that is told of one more packet, or of the end.
use Rattle.std.proofs.Common.{◌≡◌, ℕ, ◌+◌, ◌<◌, ◌≤◌, Bool, true, false, cond, inl, inr, List, [], ◌∷◌, ◌++◌, Some, refl, ap, sym, ◌∙◌, arith, length, Result, Ok, Err, subst}
use Rattle.std.specs.Prelude.{OnOk, All, filter, slice_index, slice_index_or}
use Rattle.std.specs.List.{concat}
use Rattle.std.proofs.lemmas.List.{length-map, length-append}
use Rattle.std.proofs.lemmas.List.Elements.{filter-append}
use Rattle.wire_spec.specs.declared.faults.TextFault.{TextFault}
use Rattle.wire_spec.specs.declared.faults.TextFault.TheVariants as faults
use Rattle.wire_spec.specs.Packets.{Packet, Arrival, AreTextArrivals}
use Rattle.wire_spec.specs.Text.{text_of}
use Rattle.wire_spec.specs.Dump.{Item, Rtcp, arrivals_with, sent_item}
use Rattle.stream_spec.specs.Numbering.{Numbered, numbered, used}
use Rattle.stream_spec.specs.Hearing.{heard, heard_by}
use Rattle.stream_spec.specs.ChunksBy.{used_ready}
use Rattle.reorder_buffer.specs.Stories.{Story, Given, begun, ended, dues, due_at, ready_dues}
use Rattle.receiver.specs.declared.source_texts.SourceText.{SourceText}
use Rattle.receiver.specs.Each.{IsHeardOf, markers_by}
use Rattle.receiver.specs.declared.settings.EarSettings.{EarSettings}
use Rattle.receiver.specs.declared.ears.Ear.{Ear}
use Rattle.receiver.specs.Hears.{told, all_given, IsToldOf, arrival_count, is_quiet, is_finished, ready_packets, Becomes, AllReady, Hears, text_for}
use Rattle.receiver.specs.EarEach.{HearsEach, GathersEach}
use Rattle.receiver.specs.EarPlain.{IsTextFor, HearsPlain}
use Rattle.receiver.proofs.Given.{ready_stamped}
use Rattle.receiver.proofs.Giving.{told_given}
use Rattle.receiver.proofs.ReadyBy.{heard_dues, told_arrived}
use Rattle.stream_spec.proofs.HeardTexts.{heard_utf8}
use Rattle.view_spec.specs.declared.counts.Counts.{Counts}
use Rattle.view_spec.specs.Seen.{Reception, Fate, NoPacket, fate_of, fate_of_what, fate_at, is_packet, is_refused, is_foreign, many, arrivals_at, counts_at}
use Rattle.terminal.proofs.Markers.{markers_are}
use Rattle.terminal.specs.declared.settings.TerminalSettings.{TerminalSettings}
use Rattle.terminal.specs.declared.terminals.Terminal.{Terminal}
use Rattle.terminal.specs.Terminals.{reception, ear_settings, one_if, is_spent, IsEmpty, IsUnread, HearsTexts, SameCounts, CountsAs, Counted, Listens, IsTextOf, Heard}
use Rattle.view_spec.proofs.Plain.{same_counts}
use Rattle.wire_spec.proofs.Plain.{arrivals_more}

pub on_ok2 : {X E P Q R : Type 0} (r : Result X E) → OnOk r P → OnOk r Q → (P → Q → R) → OnOk r R
on_ok2 (Ok x) p q f = f p q
on_ok2 (Err e) p q f = tt

pub on_ok5 : {X E P Q R S T U : Type 0} (r : Result X E) → OnOk r P → OnOk r Q → OnOk r R → OnOk r S → OnOk r T → (P → Q → R → S → T → U) → OnOk r U
on_ok5 (Ok x) p q r s t f = f p q r s t
on_ok5 (Err e) p q r s t f = tt

-- nothing came yet
pub nothing_yet : (e : Ear) (c : TerminalSettings) (sources : List ℕ) (texts : List SourceText) → Hears e (ear_settings c) sources (begun c.wait) → length texts ≡ length sources → All IsEmpty texts → HearsEach e (ear_settings c) sources (begun c.wait) texts
nothing_yet e c sources texts h n none = record {
  hears = h;
  each = n;
  heard = λ k d l. let empty = none k d (omega (arith, n, l)) in record { text = empty.text; markers = empty.markers };
}

-- the ear was told
becomes_text : (l k : Terminal) (f : EarSettings → Story → Story) (c : TerminalSettings) (sources : List ℕ) (story : Story) → Becomes l.ear k.ear f → (f (ear_settings c) story).given ≡ story.given → k.heard ≡ l.heard → k.counts.used ≡ l.counts.used → HearsTexts l c sources story
    → HearsTexts k c sources (f (ear_settings c) story)
becomes_text l k f c sources story b same t u h = record {
  hears = record {
    hears = b.hears (ear_settings c) sources story h.hears.hears;
    each = ap (λ v. length v.items) t ∙ h.hears.each;
    heard = λ i d below. subst (λ (gs : List Given). IsHeardOf (slice_index sources i) (ready_packets gs) (slice_index_or k.heard.items i d)) (sym same)
        (subst (λ (x : SourceText). IsHeardOf (slice_index sources i) (ready_packets story.given) x) (sym (ap (λ v. slice_index_or v.items i d) t)) (h.hears.heard i d below));
  };
  used = u ∙ (h.used ∙ ap (λ (gs : List Given). length gs) (sym same));
}

pub told_text : (l k : Terminal) (at : ℕ) (octets : List ℕ) (c : TerminalSettings) (sources : List ℕ) (story : Story) → Becomes l.ear k.ear (λ settings s. told s at (text_for settings octets)) → k.heard ≡ l.heard → k.counts.used ≡ l.counts.used → HearsTexts l c sources story
    → HearsTexts k c sources (told story at (text_of octets (Some c.ssrc) c.payload_types))
told_text l k at octets c sources story b = becomes_text l k (λ settings s. told s at (text_for settings octets)) c sources story b (told_given story at (text_of octets (Some c.ssrc) c.payload_types))

pub ended_text : (l k : Terminal) (c : TerminalSettings) (sources : List ℕ) (story : Story) → Becomes l.ear k.ear (λ settings s. ended s) → k.heard ≡ l.heard → k.counts.used ≡ l.counts.used → HearsTexts l c sources story → HearsTexts k c sources (ended story)
ended_text l k c sources story b = becomes_text l k (λ settings s. ended s) c sources story b refl

-- ---- one more item behind those that came
pub many_more : (p : Fate → Bool) (r : Reception) (came : List Item) (item : Item) → many p (fate_at r) (came ++ item ∷ []) ≡ many p (fate_at r) came + one_if (p (fate_at r item))
many_more p r came item =
    ap length (filter-append (λ i. p (fate_at r i)) came (item ∷ []))
    ∙ (length-append (filter (λ i. p (fate_at r i)) came) (filter (λ i. p (fate_at r i)) (item ∷ [])) ∙ ap (λ n. many p (fate_at r) came + n) (one (p (fate_at r item))))
  where
    one : (b : Bool) → length (cond b (item ∷ []) []) ≡ one_if b
    one true = refl
    one false = refl

one_at_most : (b : Bool) → one_if b ≤ 1
one_at_most true = omega arith
one_at_most false = omega arith

-- what is a packet is counted, and each but once
fate_counted : (old new : Counts) (r : Reception) (came : List Item) (item : Item) → Counted old r came → CountsAs (fate_at r item) old new → is_packet (fate_at r item) ≡ true → Counted new r (came ++ item ∷ [])
fate_counted old new r came item n c p =
    let one : one_if (is_packet (fate_at r item)) ≡ 1 = ap one_if p in
    record {
      packets = omega (arith, n.packets, c.packets, many_more is_packet r came item);
      refused = omega (arith, n.refused, c.refused, many_more is_refused r came item);
      foreign = omega (arith, n.foreign, c.foreign, many_more is_foreign r came item);
      few_refused = omega (arith, n.few_refused, c.refused, c.packets, one, one_at_most (is_refused (fate_at r item)));
      few_foreign = omega (arith, n.few_foreign, c.foreign, c.packets, one, one_at_most (is_foreign (fate_at r item)));
    }

-- octets are a packet
is_counted : (x : Result Packet TextFault) → is_packet (fate_of x) ≡ true
is_counted (Ok p) = refl
is_counted (Err faults.Short) = refl
is_counted (Err faults.Version) = refl
is_counted (Err faults.Padding) = refl
is_counted (Err faults.Sources) = refl
is_counted (Err faults.WrongType) = refl
is_counted (Err faults.Cut) = refl
is_counted (Err faults.Many) = refl
is_counted (Err faults.Long) = refl
is_counted (Err faults.NotText) = refl
is_counted (Err faults.Foreign) = refl

-- the ear was told of one more
told_more : (story : Story) (c : TerminalSettings) (came : List Item) (at : ℕ) (octets : List ℕ) → IsToldOf story (arrivals_at (reception c) came)
    → IsToldOf (told story at (text_of octets (Some c.ssrc) c.payload_types)) (arrivals_at (reception c) (came ++ sent_item (at, octets) ∷ []))
told_more story c came at octets t =
    subst (IsToldOf (told story at (text_of octets (Some c.ssrc) c.payload_types))) (sym (arrivals_more c.ssrc c.payload_types [] came (sent_item (at, octets)))) (told_arrived story (arrivals_at (reception c) came) at (text_of octets (Some c.ssrc) c.payload_types) t)

-- one more packet of the stream came, and what is settled was heard
pub took : (l k m : Terminal) (at : ℕ) (octets : List ℕ) (p : Packet) → Becomes l.ear k.ear (λ settings s. told s at (text_for settings octets)) → text_for l.ear.settings octets ≡ Ok p → k.heard ≡ l.heard
    → k.counts ≡ record l.counts { packets = l.counts.packets + 1 } → is_finished k.ear ≡ is_finished l.ear → arrival_count k.ear ≤ arrival_count l.ear + 1 → is_spent k ≡ is_spent l
    → ((c : TerminalSettings) (sources : List ℕ) (story : Story) → HearsTexts k c sources story → HearsTexts m c sources (all_given story)) → SameCounts k.counts m.counts → is_quiet m.ear ≡ true → arrival_count m.ear ≡ arrival_count k.ear → is_finished m.ear ≡ is_finished k.ear → is_spent m ≡ is_spent k
    → (c : TerminalSettings) (sources : List ℕ) (came : List Item) → Listens l c sources came → Listens m c sources (came ++ sent_item (at, octets) ∷ [])
took l k m at octets p b e t n f a w g same quiet arrivals finished spent c sources came li =
    let x = text_of octets (Some c.ssrc) c.payload_types in
    let now = told_more li.story c came at octets li.told in
    let ok : x ≡ Ok p = sym (ap (λ (q : EarSettings). text_for q octets) li.hears.hears.hears.asked) ∙ e in
    let counts : CountsAs (fate_of x) l.counts m.counts = subst (λ (y : Result Packet TextFault). CountsAs (fate_of y) l.counts m.counts) (sym ok) (record {
      packets = same.packets ∙ ap (λ (q : Counts). q.packets) n;
      refused = omega (arith, same.refused, ap (λ (q : Counts). q.refused) n);
      foreign = omega (arith, same.foreign, ap (λ (q : Counts). q.foreign) n);
    }) in
    record {
      story = all_given (told li.story at x);
      hears = g c sources (told li.story at x) (told_text l k at octets c sources li.story b t (ap (λ (q : Counts). q.used) n) li.hears);
      told = record { arrivals = now.arrivals; moment = now.moment };
      some = li.some;
      counts = fate_counted l.counts m.counts (reception c) came (sent_item (at, octets)) li.counts counts (is_counted x);
      few = omega (arith, arrivals, a, li.few, same.packets, ap (λ (q : Counts). q.packets) n);
      quiet = quiet;
      open_still = finished ∙ (f ∙ li.open_still);
      whole = spent ∙ (w ∙ li.whole);
    }

-- one more packet of the stream came, and was heard where it lies
pub took_plain : (l m : Terminal) (at : ℕ) (octets : List ℕ) → HearsPlain l.ear m.ear at octets l.heard.items m.heard.items → IsTextFor l.ear.settings octets
    → m.counts ≡ record l.counts { packets = l.counts.packets + 1; used = l.counts.used + 1 } → is_quiet m.ear ≡ true → arrival_count m.ear ≤ arrival_count l.ear + 1 → is_finished m.ear ≡ is_finished l.ear → is_spent m ≡ is_spent l
    → (c : TerminalSettings) (sources : List ℕ) (came : List Item) → Listens l c sources came → Listens m c sources (came ++ sent_item (at, octets) ∷ [])
took_plain l m at octets g e n quiet arrivals finished spent c sources came li =
    let x = text_of octets (Some c.ssrc) c.payload_types in
    let now = told_more li.story c came at octets li.told in
    let ok : x ≡ Ok e.0 = sym (ap (λ (q : EarSettings). text_for q octets) li.hears.hears.hears.asked) ∙ e.1 in
    let counts : CountsAs (fate_of x) l.counts m.counts = subst (λ (y : Result Packet TextFault). CountsAs (fate_of y) l.counts m.counts) (sym ok) (record {
      packets = ap (λ (q : Counts). q.packets) n;
      refused = omega (arith, ap (λ (q : Counts). q.refused) n);
      foreign = omega (arith, ap (λ (q : Counts). q.foreign) n);
    }) in
    let d = g (ear_settings c) sources li.story li.hears.hears in
    let before : length (told li.story at x).given ≡ length li.story.given = ap (λ (gs : List Given). length gs) (told_given li.story at x) in
    record {
      story = all_given (told li.story at x);
      hears = record { hears = d.hears; used = omega (arith, d.used, before, li.hears.used, ap (λ (q : Counts). q.used) n) };
      told = record { arrivals = now.arrivals; moment = now.moment };
      some = li.some;
      counts = fate_counted l.counts m.counts (reception c) came (sent_item (at, octets)) li.counts counts (is_counted x);
      few = omega (arith, arrivals, li.few, ap (λ (q : Counts). q.packets) n);
      quiet = quiet;
      open_still = finished ∙ li.open_still;
      whole = spent ∙ li.whole;
    }

-- nothing came
pub listens_alike : (l m : Terminal) → m.ear ≡ l.ear → m.heard.items ≡ l.heard.items → m.counts ≡ l.counts → is_spent m ≡ is_spent l → (c : TerminalSettings) (sources : List ℕ) (came : List Item) → Listens l c sources came → Listens m c sources came
listens_alike l m e t n w c sources came li = record {
  story = li.story;
  hears = record {
    hears = subst (λ (texts : List SourceText). HearsEach m.ear (ear_settings c) sources li.story texts) (sym t) (subst (λ (x : Ear). HearsEach x (ear_settings c) sources li.story l.heard.items) (sym e) li.hears.hears);
    used = ap (λ (q : Counts). q.used) n ∙ li.hears.used;
  };
  told = li.told;
  some = li.some;
  counts = subst (λ (q : Counts). Counted q (reception c) came) (sym n) li.counts;
  few = omega (arith, ap arrival_count e, li.few, ap (λ (q : Counts). q.packets) n);
  quiet = ap is_quiet e ∙ li.quiet;
  open_still = ap is_finished e ∙ li.open_still;
  whole = w ∙ li.whole;
}

-- what was refused is counted
pub refused : (l k m : Terminal) (at : ℕ) (octets : List ℕ) (fault : TextFault) → Becomes l.ear k.ear (λ settings s. told s at (text_for settings octets)) → text_for l.ear.settings octets ≡ Err fault
    → m.ear ≡ k.ear → m.heard ≡ l.heard → m.counts.used ≡ l.counts.used → m.counts.packets ≡ l.counts.packets + 1 → m.counts.refused ≡ l.counts.refused + one_if (is_refused (fate_of (Err fault))) → m.counts.foreign ≡ l.counts.foreign + one_if (is_foreign (fate_of (Err fault)))
    → is_spent m ≡ is_spent l → is_quiet k.ear ≡ true → is_finished k.ear ≡ is_finished l.ear → arrival_count k.ear ≤ arrival_count l.ear + 1
    → (c : TerminalSettings) (sources : List ℕ) (came : List Item) → Listens l c sources came → Listens m c sources (came ++ sent_item (at, octets) ∷ [])
refused l k m at octets fault b e same t u p q f w quiet finished a c sources came li =
    let x = text_of octets (Some c.ssrc) c.payload_types in
    let now = told_more li.story c came at octets li.told in
    let err : x ≡ Err fault = sym (ap (λ (q : EarSettings). text_for q octets) li.hears.hears.hears.asked) ∙ e in
    let one : one_if (is_packet (fate_of (Err fault))) ≡ 1 = ap one_if (is_counted (Err fault)) in
    let counts : CountsAs (fate_of x) l.counts m.counts = subst (λ (y : Result Packet TextFault). CountsAs (fate_of y) l.counts m.counts) (sym err) (record { packets = omega (arith, p, one); refused = q; foreign = f }) in
    record {
      story = told li.story at x;
      hears = told_text l m at octets c sources li.story (subst (λ (e : Ear). Becomes l.ear e (λ settings s. told s at (text_for settings octets))) (sym same) b) t u li.hears;
      told = record { arrivals = now.arrivals; moment = now.moment };
      some = li.some;
      counts = fate_counted l.counts m.counts (reception c) came (sent_item (at, octets)) li.counts counts (is_counted x);
      few = omega (arith, ap arrival_count same, a, li.few, p);
      quiet = ap is_quiet same ∙ quiet;
      open_still = ap is_finished same ∙ (finished ∙ li.open_still);
      whole = w ∙ li.whole;
    }

-- of a packet whose octets are not there nothing is told, and it is counted
unread_counts : (r : Reception) (item : Item) (old new : Counts) → IsUnread item.what → new ≡ record old { packets = old.packets + 1; refused = old.refused + 1 } → CountsAs (fate_at r item) old new
unread_counts r item old new (inl e) n = let f = ap (fate_of_what r) e in record {
  packets = omega (arith, ap (λ (q : Counts). q.packets) n, ap (λ x. one_if (is_packet x)) f);
  refused = omega (arith, ap (λ (q : Counts). q.refused) n, ap (λ x. one_if (is_refused x)) f);
  foreign = omega (arith, ap (λ (q : Counts). q.foreign) n, ap (λ x. one_if (is_foreign x)) f);
}
unread_counts r item old new (inr e) n = let f = ap (fate_of_what r) e in record {
  packets = omega (arith, ap (λ (q : Counts). q.packets) n, ap (λ x. one_if (is_packet x)) f);
  refused = omega (arith, ap (λ (q : Counts). q.refused) n, ap (λ x. one_if (is_refused x)) f);
  foreign = omega (arith, ap (λ (q : Counts). q.foreign) n, ap (λ x. one_if (is_foreign x)) f);
}

unread_packet : (r : Reception) (item : Item) → IsUnread item.what → is_packet (fate_at r item) ≡ true
unread_packet r item (inl e) = ap (λ w. is_packet (fate_of_what r w)) e
unread_packet r item (inr e) = ap (λ w. is_packet (fate_of_what r w)) e

unread_arrivals : (c : TerminalSettings) (past : List Arrival) (item : Item) → IsUnread item.what → arrivals_with c.ssrc c.payload_types item past ≡ past
unread_arrivals c past item (inl e) = ap (λ w. arrivals_with c.ssrc c.payload_types (record { time = item.time; what = w }) past) e
unread_arrivals c past item (inr e) = ap (λ w. arrivals_with c.ssrc c.payload_types (record { time = item.time; what = w }) past) e

pub passed_over : (l m : Terminal) → m.ear ≡ l.ear → m.heard ≡ l.heard → m.counts ≡ record l.counts { packets = l.counts.packets + 1; refused = l.counts.refused + 1 } → is_spent m ≡ is_spent l
    → (c : TerminalSettings) (sources : List ℕ) (came : List Item) (item : Item) → IsUnread item.what → Listens l c sources came → Listens m c sources (came ++ item ∷ [])
passed_over l m e t n w c sources came item u li =
    let past = arrivals_more c.ssrc c.payload_types [] came item ∙ unread_arrivals c (arrivals_at (reception c) came) item u in
    record {
      story = li.story;
      hears = record {
        hears = record {
          hears = subst (λ (x : Ear). Hears x (ear_settings c) sources li.story) (sym e) li.hears.hears.hears;
          each = ap (λ v. length v.items) t ∙ li.hears.hears.each;
          heard = λ i d below. subst (λ (x : SourceText). IsHeardOf (slice_index sources i) (ready_packets li.story.given) x) (sym (ap (λ v. slice_index_or v.items i d) t)) (li.hears.hears.heard i d below);
        };
        used = ap (λ (q : Counts). q.used) n ∙ li.hears.used;
      };
      told = subst (IsToldOf li.story) (sym past) li.told;
      some = li.some;
      counts = fate_counted l.counts m.counts (reception c) came item li.counts (unread_counts (reception c) item l.counts m.counts u n) (unread_packet (reception c) item u);
      few = omega (arith, ap arrival_count e, li.few, ap (λ (q : Counts). q.packets) n);
      quiet = ap is_quiet e ∙ li.quiet;
      open_still = ap is_finished e ∙ li.open_still;
      whole = w ∙ li.whole;
    }

-- a record without a packet changes nothing
rtcp_same : (r : Reception) (p : Fate → Bool) (came : List Item) (item : Item) → item.what ≡ Rtcp → p NoPacket ≡ false → many p (fate_at r) (came ++ item ∷ []) ≡ many p (fate_at r) came
rtcp_same r p came item e f =
    let none : one_if (p (fate_at r item)) ≡ 0 = ap (λ w. one_if (p (fate_of_what r w))) e ∙ ap one_if f in
    omega (arith, many_more p r came item, none)

pub rtcp_passed : (t : Terminal) (c : TerminalSettings) (sources : List ℕ) (came : List Item) (item : Item) → item.what ≡ Rtcp → Listens t c sources came → Listens t c sources (came ++ item ∷ [])
rtcp_passed t c sources came item e li =
    let past : arrivals_at (reception c) (came ++ item ∷ []) ≡ arrivals_at (reception c) came =
    arrivals_more c.ssrc c.payload_types [] came item ∙ ap (λ w. arrivals_with c.ssrc c.payload_types (record { time = item.time; what = w }) (arrivals_at (reception c) came)) e in
    record {
      story = li.story;
      hears = li.hears;
      told = subst (IsToldOf li.story) (sym past) li.told;
      some = li.some;
      counts = record {
        packets = li.counts.packets ∙ sym (rtcp_same (reception c) is_packet came item e refl);
        refused = li.counts.refused ∙ sym (rtcp_same (reception c) is_refused came item e refl);
        foreign = li.counts.foreign ∙ sym (rtcp_same (reception c) is_foreign came item e refl);
        few_refused = li.counts.few_refused;
        few_foreign = li.counts.few_foreign;
      };
      few = li.few;
      quiet = li.quiet;
      open_still = li.open_still;
      whole = li.whole;
    }

pub finished : (l k m : Terminal) → Becomes l.ear k.ear (λ settings s. ended s) → AllReady l.ear → k.heard ≡ l.heard → k.counts ≡ l.counts → is_spent k ≡ is_spent l
    → ((c : TerminalSettings) (sources : List ℕ) (story : Story) → HearsTexts k c sources story → HearsTexts m c sources (all_given story)) → SameCounts k.counts m.counts → is_spent m ≡ is_spent k
    → (c : TerminalSettings) (sources : List ℕ) (came : List Item) → Listens l c sources came → Heard m c sources came
finished l k m b all t n w g same spent c sources came li = record {
  some = li.some;
  each = h.hears.each;
  texts = texts;
  utf8 = λ i d below. rw (texts i d (omega (arith, below, h.hears.each))).text (heard_utf8 c.wait past (slice_index sources i) (subst AreTextArrivals li.told.arrivals li.hears.hears.hears.texts));
  counts = same_counts m.counts (counts_at (reception c) came)
      (same.packets ∙ (ap (λ (q : Counts). q.packets) n ∙ li.counts.packets))
      uses
      (same.refused ∙ (ap (λ (q : Counts). q.refused) n ∙ li.counts.refused))
      (same.foreign ∙ (ap (λ (q : Counts). q.foreign) n ∙ li.counts.foreign));
  whole = spent ∙ (w ∙ li.whole);
}
  where
    past : List Arrival
    past = arrivals_at (reception c) came

    h : HearsTexts m c sources (all_given (ended li.story))
    h = g c sources (ended li.story) (ended_text l k c sources li.story b t (ap (λ (q : Counts). q.used) n) li.hears)

    due : ready_dues (ended li.story) ≡ dues li.story
    due = (all (ear_settings c) sources li.story li.hears.hears.hears).packets

    wait : li.story.wait ≡ c.wait
    wait = li.hears.hears.hears.wait

    used_same : length (dues li.story) ≡ length (used li.story.wait (numbered li.story.past))
    used_same = length-map (used li.story.wait (numbered li.story.past)) (due_at li.story.wait (numbered li.story.past))

    uses : m.counts.used ≡ length (used c.wait (numbered past))
    uses = h.used ∙ (ap (λ (gs : List Given). length gs) due ∙ (used_same
        ∙ (ap (λ w. length (used w (numbered li.story.past))) wait ∙ ap (λ (a : List Arrival). length (used c.wait (numbered a))) li.told.arrivals)))

    packets : ready_packets (ready_dues (ended li.story)) ≡ used_ready c.wait past
    packets = ap ready_packets due ∙ (ready_stamped li.story.wait (numbered li.story.past) (used li.story.wait (numbered li.story.past))
        ∙ (ap (λ w. used_ready w li.story.past) wait ∙ ap (used_ready c.wait) li.told.arrivals))

    heard_is : (s : ℕ) → heard_by (ready_packets (ready_dues (ended li.story))) s ≡ heard c.wait past s
    heard_is s = ap (λ (gs : List Given). heard_by (ready_packets gs) s) due ∙ (heard_dues li.story s ∙ (ap (λ w. heard w li.story.past s) wait ∙ ap (λ (a : List Arrival). heard c.wait a s) li.told.arrivals))

    texts : (i : ℕ) (d : SourceText) → i < length sources → IsTextOf (reception c) came (slice_index sources i) (slice_index_or m.heard.items i d)
    texts i d below =
        let o = h.hears.heard i d below in
        record {
          text = o.text ∙ ap concat (heard_is (slice_index sources i));
          markers = o.markers ∙ ap (λ (us : List Numbered). markers_by us (slice_index sources i)) packets ∙ markers_are c.wait past (slice_index sources i);
        }

-- all that is settled is heard
pub gathers : (l m : Terminal) (n : ℕ) → GathersEach l.ear m.ear n l.heard.items m.heard.items → m.counts.used ≡ l.counts.used + n → (c : TerminalSettings) (sources : List ℕ) (story : Story) → HearsTexts l c sources story → HearsTexts m c sources (all_given story)
gathers l m n g u c sources story h =
    let d = g (ear_settings c) sources story h.hears in
    record { hears = d.hears; used = omega (arith, d.used, h.used, u) }
