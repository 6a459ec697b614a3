-- What is heard of what a script sends.
use Rattle.std.proofs.Common.{◌≡◌, ℕ, ◌+◌, ◌<◌, ◌≤◌, ◌^◌, Bool, true, false, cond, inl, inr, List, [], ◌∷◌, ◌++◌, length, refl, ap, subst, sym, ◌∙◌, arith}
use Rattle.std.specs.Prelude.{filter, ◌==◌, ◌&&◌, ◌||◌, All}
use Rattle.std.specs.List.{concat, flat_map}
use Rattle.std.proofs.lemmas.Bool.{cases_lt, or_right as or_more}
use Rattle.std.proofs.lemmas.Bool.Decides.{nat_tests}
use Rattle.wire_spec.specs.Packets.{has_text}
use Rattle.wire_spec.specs.Dump.{arrivals, usual_limit}
use Rattle.file_spec.specs.Script.{ScriptLine}
use Rattle.stream_spec.specs.Lists.{In}
use Rattle.stream_spec.specs.Hearing.{heard}
use Rattle.stream_spec.specs.History.{History, Entry, Placed, Lawful, placed, placed_after}
use Rattle.stream_spec.specs.Kept.{Item, Marker, Block, has_place, kept, blocks_in, NoGap, is_text_of}
use Rattle.stream_spec.specs.Kept as kept_items
use Rattle.stream_spec.specs.Typed.{sents, primaries}
use Rattle.stream_spec.proofs.Gaps.{l4_no_marker, l4_all}
use Rattle.stream_spec.proofs.Walks.{l1}
use Rattle.stream_spec.proofs.Sent.{was_sent}
use Rattle.packetizer.specs.declared.senders.SenderSettings.{SenderSettings}
use Rattle.packetizer.specs.SenderSettings.{AreSettings, stream_of}
use Rattle.packetizer.specs.SenderStanding.{sent_by, history_sent}
use Rattle.packetizer.proofs.Sending.{own_sents}
use Rattle.stream_spec.proofs.Sent.{in_sent_of}
use Rattle.stream_spec.specs.Own.{Sent}
use Rattle.command_spec.specs.Scripts.{AreLines, text_of_lines, events_through}
use Rattle.text_conversions.specs.Scripts.{IsEnd}
use Rattle.text_conversions.specs.Scripts.{records_sent, recording_sent}
use Rattle.text_conversions.proofs.Arriving.{recording_arrives}
use Rattle.text_conversions.proofs.Typed.{script_through, lawful_sent, texts_sent}
use Rattle.wire_spec.specs.declared.limits.TheConstants.{LAST_RECORD_MOMENT}
use Rattle.stream_spec.proofs.Plain.{place_to as place_under}
use Rattle.packetizer.proofs.Scripts.{empty as no_text}

-- ---- no place is missing
has_all : (before es : List Entry) (k : ℕ) → length before ≤ k → k < length before + length es → has_place (placed_after before es) k ≡ true
has_all before [] k l m = absurd (omega arith)
has_all before (e ∷ es) k l m = elim (cases_lt (length before) k) [
  | inl lt ↦ or_more (length before == k) (has_place (placed_after (e ∷ before) es) k) (has_all (e ∷ before) es k (omega arith) (omega arith))
  | inr ge ↦ (let this : (length before == k) ≡ true = (let q : length before ≡ k = omega arith in grind (arith, nat_tests)) in ap (λ b. b || has_place (placed_after (e ∷ before) es) k) this)
]

no_gap : (h : History) → NoGap (placed h)
no_gap h = λ x y k i j l m. let u = place_under [] h.entries y j in has_all [] h.entries k (omega arith) (omega arith)

-- ---- the texts of the blocks
all_blocks : (items : List Item) → (In Marker items → ⊥) → concat (kept_items.texts items) ≡ flat_map (λ x. x.text) (blocks_in items)
all_blocks [] n = refl
all_blocks (Marker ∷ items) n = absurd (n (inl refl))
all_blocks (Block x ∷ items) n = ap (λ xs. x.text ++ xs) (all_blocks items (λ i. n (inr i)))

with_text : (s : ℕ) (xs : List Placed) → ((x : Placed) → In x xs → x.source ≡ s) → flat_map (λ x. x.text) (filter (is_text_of s) xs) ≡ flat_map (λ x. x.text) xs
with_text s [] o = refl
with_text s (x ∷ xs) o =
    let own : (x.source == s) ≡ true = (let q = o x (inl refl) in grind (arith, nat_tests)) in
    ap (λ b. flat_map (λ (y : Placed). y.text) (cond (b && has_text x.text) (x ∷ filter (is_text_of s) xs) (filter (is_text_of s) xs))) own
    ∙ go (has_text x.text) refl (with_text s xs (λ y i. o y (inr i)))
  where
    go : (b : Bool) → has_text x.text ≡ b → flat_map (λ (y : Placed). y.text) (filter (is_text_of s) xs) ≡ flat_map (λ (y : Placed). y.text) xs
        → flat_map (λ (y : Placed). y.text) (cond b (x ∷ filter (is_text_of s) xs) (filter (is_text_of s) xs)) ≡ x.text ++ flat_map (λ (y : Placed). y.text) xs
    go true q r = ap (λ ys. x.text ++ ys) r
    go false q r = r ∙ ap (λ ys. ys ++ flat_map (λ (y : Placed). y.text) xs) (sym (no_text x.text q))

placed_texts : (before es : List Entry) → flat_map (λ x. x.text) (placed_after before es) ≡ flat_map (λ e. e.text) es
placed_texts before [] = refl
placed_texts before (e ∷ es) = ap (λ xs. e.text ++ xs) (placed_texts (e ∷ before) es)

all_heard : (h : History) (s : ℕ) → Lawful h → ((x : Placed) → In x (placed h) → x.source ≡ s) → concat (kept_items.texts (kept h (placed h) s)) ≡ primaries h
all_heard h s law own =
    all_blocks (kept h (placed h) s) (l4_no_marker h (placed h) s (no_gap h))
    ∙ (ap (λ (xs : List Placed). flat_map (λ (x : Placed). x.text) xs) (l4_all h s law)
    ∙ (with_text s (placed h) own ∙ placed_texts [] h.entries))

one_source : (settings : SenderSettings) (lines : List ScriptLine) (t : ℕ) → AreSettings settings → AreLines lines → t < 2 ^ 31 → (x : Placed) → In x (placed (history_sent settings (events_through lines t))) → x.source ≡ settings.ssrc
one_source settings lines t k a l x i =
    let past = events_through lines t in
    let zs = sents (sent_by settings past) in
    let w = was_sent (stream_of settings) zs x i in
    let own = own_sents settings past (let m = k.least in omega arith) (script_through lines t a l) in
    w.source ∙ (in_sent_of settings.ssrc zs w.sent_one (subst (λ (ys : List Sent). In w.sent_one ys) (sym own) w.is_in)).1

pub script_heard : (settings : SenderSettings) (lines : List ScriptLine) (t wait : ℕ) → AreSettings settings → settings.ssrc < 2 ^ 32 → AreLines lines → t < 2 ^ 31 → IsEnd settings lines t
    → All (λ r. r.0 ≤ LAST_RECORD_MOMENT) (records_sent settings lines t) → length (recording_sent settings lines t) ≤ usual_limit
    → concat (heard wait (arrivals (recording_sent settings lines t) settings.ssrc settings.payload_types) settings.ssrc) ≡ text_of_lines lines
script_heard settings lines t wait k b a l e early small =
    let h = history_sent settings (events_through lines t) in
    let law = lawful_sent settings lines t k a l in
    let r = recording_arrives settings lines t k b a l early small in
    ap (λ (xs : List (List ℕ)). concat xs) (l1 wait h law (arrivals (recording_sent settings lines t) settings.ssrc settings.payload_types) r.come settings.ssrc)
    ∙ (ap (λ (i : List Placed). concat (kept_items.texts (kept h i settings.ssrc))) (r.all wait)
    ∙ (all_heard h settings.ssrc law (one_source settings lines t k a l) ∙ texts_sent settings lines t a e))
