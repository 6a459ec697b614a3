-- What a terminal that is not aware hears is named.
use Rattle.std.proofs.Common.{◌≡◌, ℕ, ◌<◌, ◌≤◌, Bool, true, false, cond, ◌⊎◌, inl, inr, Option, Some, None, List, [], ◌∷◌, ◌++◌, length, refl, ap, subst, sym, ◌∙◌, append_assoc, append-nil, arith}
use Rattle.std.specs.Prelude.{◌&&◌, filter, map, option_to_list, encode_utf8_all}
use Rattle.std.specs.Char.{encode_utf8}
use Rattle.std.specs.List.{AllZip}
use Rattle.std.proofs.lemmas.Bool.{eq-eqb, true≢false}
use Rattle.std.proofs.lemmas.List.{map-append}
use Rattle.std.proofs.lemmas.List.Elements.{filter-append}
use Rattle.view_spec.specs.TextViews.{label, label_after}
use Rattle.wire_spec.specs.Packets.{Arrival, Packet, has_text}
use Rattle.stream_spec.specs.Lists.{In}
use Rattle.stream_spec.specs.History.{Entry, Placed, Come, placed, placed_after}
use Rattle.stream_spec.specs.Kept.{is_entry_of, is_text_of, texts}
use Rattle.stream_spec.specs.Own.{Stream, entries_of, media_of, packet_after}
use Rattle.stream_spec.specs.Ready.{Chunk}
use Rattle.stream_spec.proofs.Lists.{in_append}
use Rattle.stream_spec.proofs.Walks.{l1}
use Rattle.mixer_spec.specs.Setups.{Setup, stream}
use Rattle.mixer_spec.specs.Composed.{Answer, Asked}
use Rattle.mixer_spec.specs.Table.{Table, TurnEntry, packets, sents, shared}
use Rattle.mixer_spec.specs.Core.{Event, after}
use Rattle.mixer_spec.specs.Laws.{AllTexts, AreTexts, IsComposed, SendsGiven, texts_given, texts_sent}
use Rattle.mixer_spec.specs.Through.{text_entries}
use Rattle.mixer_spec.specs.Headline.{Hop, IsHop, told}
use Rattle.mixer_spec.specs.Bridged.{IsMixed, IsRunning, hop_to, packets_to, told_at, told_by_packets}
use Rattle.mixer_spec.proofs.After.{core_good}
use Rattle.mixer_spec.proofs.Asks.{composed_law, end_composed_law, end_texts_law, texts_law}
use Rattle.mixer_spec.proofs.Bridged.{any_out_law, unaware_law}
use Rattle.mixer_spec.proofs.Final.{at_end, shared_texts_of}
use Rattle.mixer_spec.proofs.Runs.{run_law}
use Rattle.mixer_spec.proofs.Texts.{encode_some}
use Rattle.command_spec.specs.Stretches.{Stretch, runs}
use Rattle.command_spec.specs.Named.{AreNamed, IsPieceOf, Piece, answers, label_text, named, named_after, named_if, piece_text}
use Rattle.command_spec.specs.Heard.{HearsNamed, IsNamedRun, has_answer}
use Rattle.command_spec.proofs.Cutting.{all_law, each_law, hop_law}
use Rattle.command_spec.proofs.NamedNaming.{Composes, composed_pieces}
use Rattle.command_spec.proofs.Blocks.{Ahead, Before, Behind, Block, Follows, GoesOn, Heads, Waits, Walk}
use Rattle.mixer_spec.proofs.Arriving.{length_map as as_many}

-- ---- lists
-- from the last to the first
abbrev back : {X : Type 0} → List X → List X
back [] = []
back (x ∷ xs) = back xs ++ x ∷ []

back_append : {X : Type 0} (xs ys : List X) → back (xs ++ ys) ≡ back ys ++ back xs
back_append [] ys = sym (append-nil (back ys))
back_append (x ∷ xs) ys = ap (λ zs. zs ++ x ∷ []) (back_append xs ys) ∙ append_assoc (back ys) (back xs) (x ∷ [])

back_filter : {X : Type 0} (p : X → Bool) (xs : List X) → filter p (back xs) ≡ back (filter p xs)
back_filter p [] = refl
back_filter p (x ∷ xs) = filter-append p (back xs) (x ∷ []) ∙ (ap (λ zs. zs ++ filter p (x ∷ [])) (back_filter p xs) ∙ go (p x))
  where
    go : (b : Bool) → back (filter p xs) ++ cond b (x ∷ []) [] ≡ back (cond b (x ∷ filter p xs) (filter p xs))
    go true = refl
    go false = append-nil (back (filter p xs))

map_filter : {X Y : Type 0} (f : X → Y) (p : Y → Bool) (xs : List X) → map f (filter (λ x. p (f x)) xs) ≡ filter p (map f xs)
map_filter f p [] = refl
map_filter f p (x ∷ xs) = go (p (f x)) (map_filter f p xs)
  where
    go : (b : Bool) → map f (filter (λ x. p (f x)) xs) ≡ filter p (map f xs) → map f (cond b (x ∷ filter (λ x. p (f x)) xs) (filter (λ x. p (f x)) xs)) ≡ cond b (f x ∷ filter p (map f xs)) (filter p (map f xs))
    go true e = ap (λ zs. f x ∷ zs) e
    go false e = e

-- ---- what was sent are the answers
texts_of_entries : (before es : List Entry) → map (λ (x : Placed). x.text) (placed_after before es) ≡ map (λ (e : Entry). e.text) es
texts_of_entries before [] = refl
texts_of_entries before (e ∷ es) = ap (λ zs. e.text ∷ zs) (texts_of_entries (e ∷ before) es)

texts_of_packets : (base m : ℕ) (ps : List Packet) → map (λ (e : Entry). e.text) (entries_of base m ps) ≡ map (λ (p : Packet). p.primary) ps
texts_of_packets base m [] = refl
texts_of_packets base m (p ∷ ps) = ap (λ zs. p.primary ∷ zs) (texts_of_packets base (media_of base m p.timestamp) ps)

primaries : (c : Stream) (past : List TurnEntry) → map (λ (p : Packet). p.primary) (map (λ (a : Arrival). a.packet) (packets c past)) ≡ back (texts_sent past)
primaries c [] = refl
primaries c (e ∷ past) =
    let one : Arrival = record { time = e.at; packet = packet_after c (sents past) e.sent } in
    ap (map (λ (p : Packet). p.primary)) (map-append (λ (a : Arrival). a.packet) (packets c past) (one ∷ []))
    ∙ (map-append (λ (p : Packet). p.primary) (map (λ (a : Arrival). a.packet) (packets c past)) (one.packet ∷ [])
    ∙ ap (λ zs. zs ++ e.sent.text ∷ []) (primaries c past))

answers_back : (asks : List Asked) → back (texts_given asks) ≡ map (λ (g : Answer). g.text) (answers asks)
answers_back [] = refl
answers_back (a ∷ past) = go a.given (answers_back past)
  where
    go : (o : Option Answer) → back (texts_given past) ≡ map (λ (g : Answer). g.text) (answers past) → back (map (λ (g : Answer). g.text) (option_to_list o) ++ texts_given past) ≡ map (λ (g : Answer). g.text) (answers past ++ option_to_list o)
    go None h = h ∙ ap (map (λ (g : Answer). g.text)) (sym (append-nil (answers past)))
    go (Some g) h = ap (λ zs. zs ++ g.text ∷ []) h ∙ sym (map-append (λ (g : Answer). g.text) (answers past) (g ∷ []))

texts_of_source : (m : ℕ) (xs : List Placed) → ((x : Placed) → In x xs → x.source ≡ m) → map (λ (x : Placed). x.text) (filter (is_text_of m) xs) ≡ filter has_text (map (λ (x : Placed). x.text) xs)
texts_of_source m [] own = refl
texts_of_source m (x ∷ xs) own = go (is_entry_of m x) (has_text x.text) (eq-eqb x.source m (own x (inl refl))) (texts_of_source m xs (λ y i. own y (inr i)))
  where
    go : (a b : Bool) → a ≡ true → map (λ (x : Placed). x.text) (filter (is_text_of m) xs) ≡ filter has_text (map (λ (x : Placed). x.text) xs)
        → map (λ (x : Placed). x.text) (cond (a && b) (x ∷ filter (is_text_of m) xs) (filter (is_text_of m) xs)) ≡ cond b (x.text ∷ filter has_text (map (λ (x : Placed). x.text) xs)) (filter has_text (map (λ (x : Placed). x.text) xs))
    go false b p e = absurd (true≢false (sym p))
    go true true p e = ap (λ zs. x.text ∷ zs) e
    go true false p e = e

sent_answers : (s : Setup) (table : Table) (j : ℕ) → SendsGiven table j → ((x : Placed) → In x (placed (told_at s table j)) → x.source ≡ s.mixer)
    → map (λ (x : Placed). x.text) (text_entries (told_at s table j) s.mixer) ≡ filter has_text (map (λ (g : Answer). g.text) (answers (table.terminals j).asks))
sent_answers s table j sends own =
    let d = table.terminals j in
    texts_of_source s.mixer (placed (told_at s table j)) own
    ∙ (ap (filter has_text) (texts_of_entries [] (told_at s table j).entries ∙ (texts_of_packets s.base 0 (packets_to s j d.past) ∙ primaries (stream s j) d.past))
    ∙ (back_filter has_text (texts_sent d.past)
    ∙ (ap back sends
    ∙ (sym (back_filter has_text (texts_given d.asks))
    ∙ ap (filter has_text) (answers_back d.asks)))))

-- ---- the pieces that have text
abbrev has_piece : (ℕ → List ℕ) → Piece → Bool
has_piece name p = has_text (piece_text name p)

label_some : (on : Bool) (name : List ℕ) → label_after on name ≡ [] → ⊥
unfolding label_after label encode_utf8
label_some true name e = cc e
label_some false name e = cc e

empty_left : (xs ys : List ℕ) → has_text (xs ++ ys) ≡ false → xs ≡ []
empty_left [] ys e = refl
empty_left (x ∷ xs) ys e = absurd (true≢false e)

empty_right : (xs ys : List ℕ) → has_text (xs ++ ys) ≡ false → has_text ys ≡ false
empty_right [] ys e = e
empty_right (x ∷ xs) ys e = absurd (true≢false e)

-- a piece with no text has no label
empty_named : (name : ℕ → List ℕ) (who : Option ℕ) (p : Piece) → has_piece name p ≡ false → named who p ≡ who
empty_named name who p e = go p.label (empty_left (label_text (name p.leg) p.label) (encode_utf8_all p.behind) (empty_right (encode_utf8_all p.ahead) (label_text (name p.leg) p.label ++ encode_utf8_all p.behind) e))
  where
    go : (o : Option Bool) → label_text (name p.leg) o ≡ [] → named_if who p.leg o ≡ who
    go None e = refl
    go (Some on) e = absurd (label_some on (name p.leg) e)

filter_named : (name : ℕ → List ℕ) (who : Option ℕ) (ps : List Piece) → AreNamed who ps → AreNamed who (filter (has_piece name) ps)
filter_named name who [] a = tt
filter_named name who (p ∷ ps) a = go (has_piece name p) refl (filter_named name (named who p) ps a.1)
  where
    go : (b : Bool) → has_piece name p ≡ b → AreNamed (named who p) (filter (has_piece name) ps) → AreNamed who (cond b (p ∷ filter (has_piece name) ps) (filter (has_piece name) ps))
    go true e h = (a.0, h)
    go false e h = subst (λ (o : Option ℕ). AreNamed o (filter (has_piece name) ps)) (empty_named name who p e) h

filter_zip : (name : ℕ → List ℕ) (gs : List Answer) (ps : List Piece) → AllZip (IsPieceOf name) gs ps → AllZip (IsPieceOf name) (filter has_answer gs) (filter (has_piece name) ps)
filter_zip name [] [] z = tt
filter_zip name [] (p ∷ ps) z = absurd z
filter_zip name (g ∷ gs) [] z = absurd z
filter_zip name (g ∷ gs) (p ∷ ps) z = go (has_answer g) (has_piece name p) (ap has_text z.0.text) (filter_zip name gs ps z.1)
  where
    go : (a b : Bool) → a ≡ b → AllZip (IsPieceOf name) (filter has_answer gs) (filter (has_piece name) ps)
        → AllZip (IsPieceOf name) (cond a (g ∷ filter has_answer gs) (filter has_answer gs)) (cond b (p ∷ filter (has_piece name) ps) (filter (has_piece name) ps))
    go true true e h = (z.0, h)
    go true false e h = absurd (true≢false e)
    go false true e h = absurd (true≢false (sym e))
    go false false e h = h

zip_texts : (name : ℕ → List ℕ) (gs : List Answer) (ps : List Piece) → AllZip (IsPieceOf name) gs ps → map (λ (g : Answer). g.text) gs ≡ map (piece_text name) ps
zip_texts name [] [] z = refl
zip_texts name [] (p ∷ ps) z = absurd z
zip_texts name (g ∷ gs) [] z = absurd z
zip_texts name (g ∷ gs) (p ∷ ps) z = ap (λ t. t ∷ map (λ (g : Answer). g.text) gs) z.0.text ∙ ap (λ ts. piece_text name p ∷ ts) (zip_texts name gs ps z.1)

-- ---- a part of them
record Split (name : ℕ → List ℕ) (ts us : List (List ℕ)) (ps : List Piece) : Type 0 where
  left : List Piece
  right : List Piece
  is : ps ≡ left ++ right
  ts_are : ts ≡ map (piece_text name) left
  us_are : us ≡ map (piece_text name) right

split : (name : ℕ → List ℕ) (ts us : List (List ℕ)) (ps : List Piece) → ts ++ us ≡ map (piece_text name) ps → Split name ts us ps
split name [] us ps e = record { left = []; right = ps; is = refl; ts_are = refl; us_are = e }
split name (t ∷ ts) us [] e = absurd (cc e)
split name (t ∷ ts) us (p ∷ ps) e =
    let head : t ≡ piece_text name p = cc e in
    let tail : ts ++ us ≡ map (piece_text name) ps = cc e in
    let r = split name ts us ps tail in
    record { left = p ∷ r.left; right = r.right; is = ap (λ zs. p ∷ zs) r.is; ts_are = ap (λ z. z ∷ ts) head ∙ ap (λ zs. piece_text name p ∷ zs) r.ts_are; us_are = r.us_are }

named_right : (who : Option ℕ) (ps qs : List Piece) → AreNamed who (ps ++ qs) → AreNamed (named_after who ps) qs
named_right who [] qs a = a
named_right who (p ∷ ps) qs a = named_right (named who p) ps qs a.1

named_left : (who : Option ℕ) (ps qs : List Piece) → AreNamed who (ps ++ qs) → AreNamed who ps
named_left who [] qs a = tt
named_left who (p ∷ ps) qs a = (a.0, named_left (named who p) ps qs a.1)

named_run : (name : ℕ → List ℕ) (pieces : List Piece) (es run : List Placed) → AreNamed None pieces → map (λ (x : Placed). x.text) es ≡ map (piece_text name) pieces → Stretch es run → IsNamedRun name es pieces run
named_run name pieces es run n e t =
    let text : Placed → List ℕ = λ x. x.text in
    let whole : map text t.before ++ (map text run ++ map text t.behind) ≡ map (piece_text name) pieces =
    ap (λ zs. map text t.before ++ zs) (sym (map-append text run t.behind)) ∙ (sym (map-append text t.before (run ++ t.behind)) ∙ (ap (map text) (sym t.is) ∙ e)) in
    let a = split name (map text t.before) (map text run ++ map text t.behind) pieces whole in
    let b = split name (map text run) (map text t.behind) a.right a.us_are in
    let is : pieces ≡ a.left ++ (b.left ++ b.right) = a.is ∙ ap (λ zs. a.left ++ zs) b.is in
    record {
      stretch = t;
      before = a.left;
      part = b.left;
      behind = b.right;
      is = is;
      at = sym (as_many (piece_text name) a.left) ∙ (ap length (sym a.ts_are) ∙ as_many text t.before);
      text = b.ts_are;
      named = named_left (named_after None a.left) b.left b.right (named_right None a.left (b.left ++ b.right) (subst (AreNamed None) is n));
    }

-- ---- with no text, a piece is nothing
encoded_none : (cs : List ℕ) → has_text (encode_utf8_all cs) ≡ false → cs ≡ []
encoded_none [] e = refl
encoded_none (c ∷ cs) e = absurd (long (encode_utf8 c) (encode_some c) (empty_left (encode_utf8 c) (encode_utf8_all cs) e))
  where
    long : (xs : List ℕ) → 1 ≤ length xs → xs ≡ [] → ⊥
    long [] l q = omega arith
    long (x ∷ xs) l q = cc q

-- a walk may leave out what begins nothing
from_any : (σ : Block) (qs : List Piece) (τ : Block) → Walk (Before []) qs τ → (ρ : Block) × Walk σ qs ρ
from_any σ [] τ w = (σ, refl)
from_any σ (q ∷ qs) τ w = (τ, (w.0, go w.1.how, w.2))
  where
    first : (ahead : List ℕ) → Ahead (Before []) ahead → Ahead σ ahead
    first ahead a = record {
      before = a.before;
      from = elim a.from [ inl e ↦ inl e | inr e ↦ inl (let x : Before [] ≡ Before a.before = e in let y : [] ≡ a.before = cc x in sym y) ];
      closed = a.closed;
      unseen = a.unseen;
    }

    go : GoesOn (Before []) q w.0 ⊎ (Waits (Before []) q w.0 ⊎ Heads (Before []) q w.0) → Follows σ q w.0
    go (inl g) = absurd (let x : Before [] ≡ Behind g.leg g.sent = g.from in cc x)
    go (inr (inl h)) = record {
      how = inr (inl (record { leg = h.leg; ahead = h.ahead; piece_is = h.piece_is; is = first h.ahead h.is; to = h.to }));
      ahead_scalars = w.1.ahead_scalars;
      behind_scalars = w.1.behind_scalars;
    }
    go (inr (inr h)) = record {
      how = inr (inr (record { leg = h.leg; ahead = h.ahead; is_open = h.is_open; behind = h.behind; piece_is = h.piece_is; is = first h.ahead h.is; to = h.to; closed = h.closed }));
      ahead_scalars = w.1.ahead_scalars;
      behind_scalars = w.1.behind_scalars;
    }

skipped : (name : ℕ → List ℕ) (σ : Block) (p : Piece) (ρ : Block) (qs : List Piece) (τ : Block) → Follows σ p ρ → has_piece name p ≡ false → Walk ρ qs τ → (β : Block) × Walk σ qs β
skipped name σ p ρ qs τ f e w = elim f.how [
  | inl g ↦
      let none : g.behind ≡ [] = encoded_none g.behind (ap (has_piece name) (sym g.piece_is) ∙ e) in
      let same : ρ ≡ σ = g.to ∙ (ap (λ (l : List ℕ). Behind g.leg (g.sent ++ l)) none ∙ (ap (Behind g.leg) (append-nil g.sent) ∙ sym g.from)) in
      (τ, subst (λ (b : Block). Walk b qs τ) same w)
  | inr r ↦ elim r [
    | inl h ↦
        let none : h.ahead ≡ [] = encoded_none h.ahead (ap has_text (sym (append-nil (encode_utf8_all h.ahead))) ∙ (ap (has_piece name) (sym h.piece_is) ∙ e)) in
        let to : ρ ≡ Before h.is.before = h.to ∙ (ap (λ (l : List ℕ). Before (h.is.before ++ l)) none ∙ ap Before (append-nil h.is.before)) in
        elim h.is.from [
          | inl z ↦ from_any σ qs τ (subst (λ (b : Block). Walk b qs τ) (to ∙ ap Before z) w)
          | inr q ↦ (τ, subst (λ (b : Block). Walk b qs τ) (to ∙ sym q) w)
        ]
    | inr h ↦
        let text : has_text (encode_utf8_all h.ahead ++ (label_after h.is_open (name h.leg) ++ encode_utf8_all h.behind)) ≡ false = ap (has_piece name) (sym h.piece_is) ∙ e in
        absurd (label_some h.is_open (name h.leg) (empty_left (label_after h.is_open (name h.leg)) (encode_utf8_all h.behind) (empty_right (encode_utf8_all h.ahead) (label_after h.is_open (name h.leg) ++ encode_utf8_all h.behind) text)))
  ]
]

filter_walk : (name : ℕ → List ℕ) (σ : Block) (ps : List Piece) (τ : Block) → Walk σ ps τ → (ρ : Block) × Walk σ (filter (has_piece name) ps) ρ
filter_walk name σ [] τ w = (σ, refl)
filter_walk name σ (p ∷ ps) τ w = go (has_piece name p) refl (filter_walk name w.0 ps τ w.2)
  where
    go : (b : Bool) → has_piece name p ≡ b → (ρ : Block) × Walk w.0 (filter (has_piece name) ps) ρ → (ρ : Block) × Walk σ (cond b (p ∷ filter (has_piece name) ps) (filter (has_piece name) ps)) ρ
    go true e r = (r.0, (w.0, w.1, r.1))
    go false e r = skipped name σ p w.0 (filter (has_piece name) ps) r.0 w.1 e r.1

-- ---- the laws
-- What is heard, and that none of the pieces that were sent takes back what another leg typed.
pub record HearsApart (s : Setup) (asks : List Asked) (q : Hop) : Type 0 where
  pub named : HearsNamed s asks q
  pub block : Block
  pub walk : Walk (Before []) named.pieces block

pub apart_law : (s : Setup) (chunks : ℕ → List Chunk) (table : Table) (j : ℕ) → AllTexts chunks → IsComposed s chunks j (table.terminals j).asks → SendsGiven table j
    → ((x : Placed) → In x (placed (told_at s table j)) → x.source ≡ s.mixer)
    → (wait : ℕ) (came : List Arrival) → IsHop (hop_to (told_at s table j) s.mixer wait came)
    → HearsApart s (table.terminals j).asks (hop_to (told_at s table j) s.mixer wait came)
apart_law s chunks table j a c sends own wait came hop =
    let asks = (table.terminals j).asks in
    let q = hop_to (told_at s table j) s.mixer wait came in
    let all : Composes s asks = composed_pieces s chunks j asks a c in
    let pieces = filter (has_piece s.name) all.pieces in
    let sent : map (λ (x : Placed). x.text) (text_entries q.sent q.source) ≡ map (piece_text s.name) pieces =
    sent_answers s table j sends own ∙ (ap (filter has_text) (zip_texts s.name (answers asks) all.pieces all.all.of) ∙ sym (map_filter (piece_text s.name) has_text all.pieces)) in
    let named = filter_named s.name None all.pieces all.all.named in
    let cut = hop_law q hop in
    let walk = filter_walk s.name (Before []) all.pieces all.block all.walk in
    record {
      named = record {
        pieces = pieces;
        of = filter_zip s.name (answers asks) all.pieces all.all.of;
        sent = sent;
        named = named;
        text = l1 q.wait q.sent hop.lawful q.came hop.come q.source ∙ ap texts (sym (all_law (told q)));
        stretches = cut;
        heard = λ run i. named_run s.name pieces (text_entries q.sent q.source) run named sent (each_law (text_entries q.sent q.source) (runs (told q)) cut run i);
      };
      block = walk.0;
      walk = walk.1;
    }

pub sent_law : (s : Setup) (chunks : ℕ → List Chunk) (table : Table) (j : ℕ) → AllTexts chunks → IsComposed s chunks j (table.terminals j).asks → SendsGiven table j
    → ((x : Placed) → In x (placed (told_at s table j)) → x.source ≡ s.mixer)
    → (wait : ℕ) (came : List Arrival) → IsHop (hop_to (told_at s table j) s.mixer wait came)
    → HearsNamed s (table.terminals j).asks (hop_to (told_at s table j) s.mixer wait came)
sent_law s chunks table j a c sends own wait came hop = (apart_law s chunks table j a c sends own wait came hop).named

-- all that was sent is the mixer's, where each entry was
entry_source : (before es : List Entry) (x : Placed) → In x (placed_after before es) → (e : Entry) × In e es × (x.source ≡ e.source)
entry_source before [] x i = absurd i
entry_source before (e ∷ es) x (inl p) = (e, inl refl, ap (λ (z : Placed). z.source) p)
entry_source before (e ∷ es) x (inr i) = let r = entry_source (e ∷ before) es x i in (r.0, inr r.1, r.2)

packet_source : (base m : ℕ) (ps : List Packet) (e : Entry) → In e (entries_of base m ps) → (p : Packet) × In p ps × (e.source ≡ p.source)
packet_source base m [] e i = absurd i
packet_source base m (p ∷ ps) e (inl q) = (p, inl refl, ap (λ (z : Entry). z.source) q)
packet_source base m (p ∷ ps) e (inr i) = let r = packet_source base (media_of base m p.timestamp) ps e i in (r.0, inr r.1, r.2)

turn_source : (c : Stream) (m : ℕ) (past : List TurnEntry) → ((e : TurnEntry) → In e past → e.sent.source ≡ m) → (p : Packet) → In p (map (λ (a : Arrival). a.packet) (packets c past)) → p.source ≡ m
turn_source c m [] own p i = absurd i
turn_source c m (e ∷ past) own p i =
    let one : Arrival = record { time = e.at; packet = packet_after c (sents past) e.sent } in
    go (in_append p (map (λ (a : Arrival). a.packet) (packets c past)) (one.packet ∷ []) (subst (λ (ps : List Packet). In p ps) (map-append (λ (a : Arrival). a.packet) (packets c past) (one ∷ [])) i)) (turn_source c m past (λ x k. own x (inr k)) p)
  where
    go : In p (map (λ (a : Arrival). a.packet) (packets c past)) ⊎ In p (packet_after c (sents past) e.sent ∷ []) → (In p (map (λ (a : Arrival). a.packet) (packets c past)) → p.source ≡ m) → p.source ≡ m
    go (inl j) h = h j
    go (inr (inl q)) h = ap (λ (z : Packet). z.source) q ∙ own e (inl refl)
    go (inr (inr j)) h = absurd j

pub all_mixers : (s : Setup) (j : ℕ) (past : List TurnEntry) → ((e : TurnEntry) → In e past → e.sent.source ≡ s.mixer) → (x : Placed) → In x (placed (told_by_packets s j past)) → x.source ≡ s.mixer
all_mixers s j past own x i =
    let a = entry_source [] (told_by_packets s j past).entries x i in
    let b = packet_source s.base 0 (packets_to s j past) a.0 a.1 in
    a.2 ∙ (b.2 ∙ turn_source (stream s j) s.mixer past own b.0 b.1)

pub end_apart : (s : Setup) (chunks : ℕ → List Chunk) (tick turns : ℕ) (table : Table) → IsMixed s chunks tick turns table → (j : ℕ) → s.aware j ≡ false → j < s.legs
    → (wait : ℕ) (came : List Arrival) → Come (told_at s table j) came → HearsApart s (table.terminals j).asks (hop_to (told_at s table j) s.mixer wait came)
end_apart s chunks tick turns table m j u l wait came c =
    let r = run_law s chunks tick turns table m.over in
    let t = at_end s chunks tick turns j table m.setup m.texts l m.over in
    apart_law s (λ i. shared j (table.taken i)) table j
    (λ i. subst (λ (t : Table). AreTexts (shared j (t.taken i))) r.leads (shared_texts_of s chunks r.past j i (m.texts i)))
    (end_composed_law s chunks tick turns j table u m.over)
    (end_texts_law s chunks tick turns j table u m.over)
    (all_mixers s j (table.terminals j).past (λ e i. (t.timed.unaware u).own e i))
    wait came (record { lawful = (unaware_law s chunks tick turns table m j u l).out.lawful; come = c })

pub end_law : (s : Setup) (chunks : ℕ → List Chunk) (tick turns : ℕ) (table : Table) → IsMixed s chunks tick turns table → (j : ℕ) → s.aware j ≡ false → j < s.legs
    → (wait : ℕ) (came : List Arrival) → Come (told_at s table j) came → HearsNamed s (table.terminals j).asks (hop_to (told_at s table j) s.mixer wait came)
end_law s chunks tick turns table m j u l wait came c = (end_apart s chunks tick turns table m j u l wait came c).named

pub any_apart : (s : Setup) (chunks : ℕ → List Chunk) (past : List Event) → IsRunning s chunks past → (j : ℕ) → s.aware j ≡ false → j < s.legs
    → (wait : ℕ) (came : List Arrival) → Come (told_at s (after s chunks past).table j) came → HearsApart s ((after s chunks past).table.terminals j).asks (hop_to (told_at s (after s chunks past).table j) s.mixer wait came)
any_apart s chunks past r j u l wait came c =
    let table = (after s chunks past).table in
    apart_law s (λ i. shared j (table.taken i)) table j
    (λ i. shared_texts_of s chunks past j i (r.texts i))
    (composed_law s chunks past j u)
    (texts_law s chunks past j u)
    (all_mixers s j (table.terminals j).past (λ e i. (((core_good s r.setup chunks r.texts past).timed j l).unaware u).own e i))
    wait came (record { lawful = (any_out_law s chunks past r j l).lawful; come = c })

pub any_law : (s : Setup) (chunks : ℕ → List Chunk) (past : List Event) → IsRunning s chunks past → (j : ℕ) → s.aware j ≡ false → j < s.legs
    → (wait : ℕ) (came : List Arrival) → Come (told_at s (after s chunks past).table j) came → HearsNamed s ((after s chunks past).table.terminals j).asks (hop_to (told_at s (after s chunks past).table j) s.mixer wait came)
any_law s chunks past r j u l wait came c = (any_apart s chunks past r j u l wait came c).named
