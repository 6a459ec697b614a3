-- What is ready by a moment is a front of all used packets and of all chunks, whatever comes at that moment or later.
use Rattle.std.proofs.Common.{◌≡◌, ℕ, ◌<◌, ◌≤◌, List, [], ◌∷◌, ◌++◌, inl, inr, refl, ap, subst, sym, ◌∙◌}
use Rattle.std.specs.Prelude.{map, filter}
use Rattle.std.proofs.lemmas.Bool.{le-leb, lt-leb}
use Rattle.std.proofs.lemmas.List.{append-nil, map-append}
use Rattle.wire_spec.specs.Packets.{Arrival}
use Rattle.stream_spec.specs.Lists.{In}
use Rattle.stream_spec.specs.Numbering.{Numbered, Falling, RisingNumbers, numbered, first_number, used}
use Rattle.stream_spec.specs.Ready.{chunks, ready_of}
use Rattle.stream_spec.specs.ChunksBy.{stamped, used_ready, chunks_by}
use Rattle.stream_spec.specs.Fronts.{IsFront, AreFrom, is_packet_ready_by, packets_ready_by, is_ready_by, chunks_ready_by}
use Rattle.stream_spec.proofs.ByNumber.{all_by}
use Rattle.stream_spec.proofs.Rising.{used_rises}
use Rattle.stream_spec.proofs.ReadyBy.{rising_stamped, by_early, by_late, by_front}
use Rattle.stream_spec.proofs.Settled.{Split, Stays, split, stays}

-- ---- packets
all_ready : (t : ℕ) (us vs : List Numbered) → ((u : Numbered) → In u us → u.time ≤ t) → filter (is_packet_ready_by t) (us ++ vs) ≡ us ++ filter (is_packet_ready_by t) vs
all_ready t [] vs f = refl
all_ready t (u ∷ us) vs f = rw (le-leb u.time t (f u (inl refl))) (ap (λ ws. u ∷ ws) (all_ready t us vs (λ v i. f v (inr i))))

none_ready : (t : ℕ) (us : List Numbered) → ((u : Numbered) → In u us → t < u.time) → filter (is_packet_ready_by t) us ≡ []
none_ready t [] f = refl
none_ready t (u ∷ us) f = rw (lt-leb u.time t (f u (inl refl))) (none_ready t us (λ v i. f v (inr i)))

-- what bears its moment comes of a packet
unstamped : (wait : ℕ) (past us : List Numbered) (v : Numbered) → In v (map (stamped wait past) us) → (u : Numbered) × In u us × (ready_of wait past u ≡ v.time)
unstamped wait past [] v i = absurd i
unstamped wait past (u ∷ us) v (inl e) = (u, inl refl, sym (ap (λ (w : Numbered). w.time) e))
unstamped wait past (u ∷ us) v (inr i) = let r = unstamped wait past us v i in (r.0, inr r.1, r.2)

-- `out`: the used packets of the earlier arrivals that are ready by t, with the moments at which they are ready. They are
-- the first of all used packets.
pub record Front (wait t : ℕ) (more earlier : List Arrival) : Type 0 where
  pub out : List Numbered
  pub held : List Numbered
  pub parts : used_ready wait earlier ≡ out ++ held
  pub soon : (u : Numbered) → In u out → u.time ≤ t
  pub late : (u : Numbered) → In u held → t < u.time
  pub ready_are : packets_ready_by wait t earlier ≡ out
  pub rest : List Numbered
  pub all : used_ready wait (more ++ earlier) ≡ out ++ rest

pub front_is : (wait t : ℕ) (more earlier : List Arrival) → Falling (numbered earlier) → AreFrom t more → Front wait t more earlier
front_is wait t more [] f g = record {
  out = [];
  held = [];
  parts = refl;
  soon = λ u i. absurd i;
  late = λ u i. absurd i;
  ready_are = refl;
  rest = used_ready wait (more ++ []);
  all = refl;
}
front_is wait t more (a ∷ before) f g = record {
  out = out;
  held = held;
  parts = parts;
  soon = soon;
  late = late;
  ready_are = ap (filter (is_packet_ready_by t)) parts ∙ (all_ready t out held soon ∙ (ap (λ us. out ++ us) (none_ready t held late) ∙ append-nil out));
  rest = map (stamped wait whole) r.settled.held;
  all = ap (map (stamped wait whole)) r.settled.used_is
      ∙ (map-append (stamped wait whole) s.out r.settled.held ∙ ap (λ us. us ++ map (stamped wait whole) r.settled.held) r.same);
}
  where
    past : List Numbered
    past = numbered (a ∷ before)

    whole : List Numbered
    whole = numbered (more ++ a ∷ before)

    first : ℕ
    first = first_number 0 past

    s : Split wait t past first
    s = split wait t past first f (λ n. refl)

    r : Stays wait t whole past first s.front s.out
    r = stays wait t more (a ∷ before) first s.front s.out g s.settled

    out : List Numbered
    out = map (stamped wait past) s.out

    held : List Numbered
    held = map (stamped wait past) s.settled.held

    parts : used_ready wait (a ∷ before) ≡ out ++ held
    parts = ap (map (stamped wait past)) s.settled.used_is ∙ map-append (stamped wait past) s.out s.settled.held

    soon : (v : Numbered) → In v out → v.time ≤ t
    soon v i = let u = unstamped wait past s.out v i in subst (λ (n : ℕ). n ≤ t) u.2 (s.sooner u.0 u.1)

    late : (v : Numbered) → In v held → t < v.time
    late v i = let u = unstamped wait past s.settled.held v i in subst (λ (n : ℕ). t < n) u.2 (s.later u.0 u.1)

pub packets_front : (wait t : ℕ) (more earlier : List Arrival) → Falling (numbered earlier) → AreFrom t more
    → IsFront (packets_ready_by wait t earlier) (used_ready wait (more ++ earlier))
packets_front wait t more earlier f g =
    let p = front_is wait t more earlier f g in
    (p.rest, p.all ∙ ap (λ (us : List Numbered). us ++ p.rest) (sym p.ready_are))

-- ---- chunks
rises : (wait : ℕ) (a : List Arrival) → RisingNumbers (used_ready wait a)
rises wait a = rising_stamped wait (numbered a) (used wait (numbered a)) (used_rises wait (numbered a))

-- the chunks of the first used packets are a front of all chunks
pub chunks_front : (wait place s : ℕ) (a : List Arrival) (us vs : List Numbered) → used_ready wait a ≡ us ++ vs → IsFront (chunks_by place us s) (chunks wait place a s)
chunks_front wait place s a us vs e =
    let b = by_front place s vs us (subst RisingNumbers e (rises wait a)) in
    (b.0, all_by wait place a s ∙ (ap (λ ws. chunks_by place ws s) e ∙ b.1))

pub settled_front : (wait place s t : ℕ) (more earlier : List Arrival) → Falling (numbered earlier) → AreFrom t more
    → IsFront (chunks_ready_by wait place t earlier s) (chunks wait place (more ++ earlier) s)
settled_front wait place s t more earlier f g =
    let p = front_is wait t more earlier f g in
    let same : chunks_ready_by wait place t earlier s ≡ chunks_by place p.out s
    = ap (filter (is_ready_by t)) (all_by wait place earlier s ∙ ap (λ us. chunks_by place us s) p.parts)
    ∙ (by_late t place s p.held p.out (subst RisingNumbers p.parts (rises wait earlier)) p.late ∙ by_early t place s p.out p.soon) in
    subst (λ cs. IsFront cs (chunks wait place (more ++ earlier) s)) (sym same) (chunks_front wait place s (more ++ earlier) p.out p.rest p.all)
