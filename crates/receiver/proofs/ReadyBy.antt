-- The chunks of the packets that are ready by a moment are the chunks that are ready by then, and the first of all.
use Rattle.std.proofs.Common.{◌≡◌, ℕ, ◌<◌, ◌≤◌, Bool, true, false, cond, List, [], ◌∷◌, ◌++◌, refl, ap, sym, ◌∙◌, inl, inr, arith, map, append-nil, subst, Result, Ok, Err}
use Rattle.std.specs.Prelude.{filter, max}
use Rattle.std.proofs.Math.Nat.{max_comm}
use Rattle.std.proofs.lemmas.Bool.{leb-true, leb-false, false_from_ne_true}
use Rattle.std.proofs.lemmas.List.{map-append, append_cancel_left}
use Rattle.std.proofs.lemmas.List.Elements.{filter-append}
use Rattle.wire_spec.specs.declared.faults.TextFault.{TextFault}
use Rattle.wire_spec.specs.Packets.{Packet, Arrival}
use Rattle.wire_spec.specs.Dump.{latest, arrived}
use Rattle.stream_spec.specs.Lists.{In}
use Rattle.stream_spec.specs.Numbering.{Numbered, RisingNumbers, numbered, used}
use Rattle.stream_spec.specs.Hearing.{heard, heard_by}
use Rattle.stream_spec.specs.Ready.{Chunk, chunks}
use Rattle.stream_spec.specs.ChunksBy.{chunks_by}
use Rattle.stream_spec.proofs.ByNumber.{all_by, by_texts}
use Rattle.stream_spec.proofs.ChunkTexts.{chunk_texts}
use Rattle.stream_spec.specs.Fronts.{is_ready_by}
use Rattle.stream_spec.proofs.ReadyBy.{by_early, by_late, by_front}
use Rattle.stream_spec.proofs.Lists.{in_filter, filter_in}
use Rattle.reorder_buffer.specs.Stories.{Story, Given, dues, ready_dues, is_due}
use Rattle.receiver.specs.declared.settings.EarSettings.{EarSettings}
use Rattle.receiver.specs.Hears.{told, IsToldOf, ready_packet, ready_packets, whole_ready, whole_chunks}
use Rattle.receiver.proofs.Given.{dues_rise, ready_stamped}

-- ---- filters
filter_twice : {X : Type 0} (p : X → Bool) (xs : List X) → filter p (filter p xs) ≡ filter p xs
filter_twice p [] = refl
filter_twice p (x ∷ xs) = go (p x) refl (filter_twice p xs)
  where
    go : (t : Bool) → p x ≡ t → filter p (filter p xs) ≡ filter p xs → filter p (cond t (x ∷ filter p xs) (filter p xs)) ≡ cond t (x ∷ filter p xs) (filter p xs)
    go true e h = rw e (ap (λ ys. x ∷ ys) h)
    go false e h = h

-- what stands behind all that pass does not pass
rest_fails : {X : Type 0} (p : X → Bool) (xs zs : List X) → xs ≡ filter p xs ++ zs → (z : X) → In z zs → p z ≡ false
rest_fails p xs zs e z i = false_from_ne_true (p z) (λ t. subst (In z) none (filter_in p z zs i t))
  where
    none : filter p zs ≡ []
    none = append_cancel_left (filter p xs) (filter p zs) []
        (ap (λ ys. ys ++ filter p zs) (sym (filter_twice p xs)) ∙ (sym (filter-append p (filter p xs) zs) ∙ (sym (ap (filter p) e) ∙ sym (append-nil (filter p xs)))))

-- ---- of a story
pub chunks_due : (settings : EarSettings) (source : ℕ) (story : Story) → story.wait ≡ settings.wait → whole_chunks settings source story ≡ chunks_by 0 (ready_packets (dues story)) source
chunks_due settings source story w =
    ap (λ n. chunks n 0 story.past source) (sym w)
    ∙ (all_by story.wait 0 story.past source
    ∙ ap (λ us. chunks_by 0 us source) (sym (ready_stamped story.wait (numbered story.past) (used story.wait (numbered story.past)))))

pub chunks_ready : (settings : EarSettings) (source : ℕ) (story : Story) (rest : List Given) → story.wait ≡ settings.wait → dues story ≡ ready_dues story ++ rest
    → chunks_by 0 (ready_packets (ready_dues story)) source ≡ whole_ready settings source story
chunks_ready settings source story rest w o =
    sym (ap (filter (is_ready_by story.moment)) (chunks_due settings source story w ∙ ap (λ us. chunks_by 0 us source) parts)
    ∙ (by_late story.moment 0 source (ready_packets rest) (ready_packets (ready_dues story)) (subst RisingNumbers parts (dues_rise story)) (later rest (λ g i. i))
    ∙ by_early story.moment 0 source (ready_packets (ready_dues story)) (sooner (ready_dues story) (λ g i. i))))
  where
    parts : ready_packets (dues story) ≡ ready_packets (ready_dues story) ++ ready_packets rest
    parts = ap ready_packets o ∙ map-append ready_packet (ready_dues story) rest

    later : (gs : List Given) → ((g : Given) → In g gs → In g rest) → (v : Numbered) → In v (ready_packets gs) → story.moment < v.time
    later [] f v i = absurd i
    later (g ∷ gs) f v (inl e) =
        let late = rest_fails (is_due story.moment) (dues story) rest o g (f g (inl refl)) in
        let n = leb-false g.ready story.moment late in omega (arith, ap (λ (u : Numbered). u.time) e)
    later (g ∷ gs) f v (inr i) = later gs (λ h j. f h (inr j)) v i

    sooner : (gs : List Given) → ((g : Given) → In g gs → In g (ready_dues story)) → (v : Numbered) → In v (ready_packets gs) → v.time ≤ story.moment
    sooner [] f v i = absurd i
    sooner (g ∷ gs) f v (inl e) =
        let soon = leb-true g.ready story.moment (in_filter (is_due story.moment) g (dues story) (f g (inl refl))).1 in omega (arith, ap (λ (u : Numbered). u.time) e)
    sooner (g ∷ gs) f v (inr i) = sooner gs (λ h j. f h (inr j)) v i

pub chunks_front : (settings : EarSettings) (source : ℕ) (story : Story) (given rest : List Given) → story.wait ≡ settings.wait → dues story ≡ given ++ rest
    → (more : List Chunk) × (whole_chunks settings source story ≡ chunks_by 0 (ready_packets given) source ++ more)
chunks_front settings source story given rest w o =
    let parts : ready_packets (dues story) ≡ ready_packets given ++ ready_packets rest = ap ready_packets o ∙ map-append ready_packet given rest in
    let f = by_front 0 source (ready_packets rest) (ready_packets given) (subst RisingNumbers parts (dues_rise story)) in
    (f.0, chunks_due settings source story w ∙ (ap (λ us. chunks_by 0 us source) parts ∙ f.1))

-- what is heard of all used packets
pub heard_dues : (story : Story) (s : ℕ) → heard_by (ready_packets (dues story)) s ≡ heard story.wait story.past s
heard_dues story s =
    sym (by_texts 0 (ready_packets (dues story)) s)
    ∙ (ap (λ us. map (λ (c : Chunk). c.text) (chunks_by 0 us s)) (ready_stamped story.wait (numbered story.past) (used story.wait (numbered story.past)))
    ∙ (ap (map (λ (c : Chunk). c.text)) (sym (all_by story.wait 0 story.past s)) ∙ chunk_texts story.wait 0 story.past s))

-- what a recording tells is told to the ear
pub told_arrived : (story : Story) (past : List Arrival) (at : ℕ) (x : Result Packet TextFault) → IsToldOf story past → IsToldOf (told story at x) (arrived at x past)
told_arrived story past at (Err f) t = t
told_arrived story past at (Ok p) t =
    let moment : max story.moment at ≡ max at (latest past) = ap (λ n. max n at) t.moment ∙ max_comm (latest past) at in
    record {
      arrivals = ap (λ (n : ℕ). record { time = n; packet = p } ∷ story.past) moment ∙ ap (λ (a : List Arrival). record { time = max at (latest past); packet = p } ∷ a) t.arrivals;
      moment = moment;
    }
