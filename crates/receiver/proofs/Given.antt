-- Used packets rise in number and are no more than came, and those that were given are the first of them.
use Rattle.std.proofs.Common.{◌≡◌, ℕ, ◌+◌, ◌<◌, ◌≤◌, Option, Some, None, List, [], ◌∷◌, ◌++◌, refl, ap, sym, ◌∙◌, inl, inr, arith, length, map, length-append, append_assoc, subst}
use Rattle.std.specs.Option.{ForSome}
use Rattle.std.proofs.lemmas.List.{map-append, length-map}
use Rattle.rtt_base.specs.declared.limits.TheConstants.{MOST_TEXT_OCTETS}
use Rattle.mixer_spec.specs.Laws.{AreShortArrivals}
use Rattle.mixer_spec.proofs.HeardShort.{numbered_short}
use Rattle.wire_spec.specs.Packets.{IsTextPacket, AreTextArrivals, Packet}
use Rattle.stream_spec.specs.Lists.{In}
use Rattle.stream_spec.specs.Numbering.{Numbered, RisingNumbers, numbered, used}
use Rattle.stream_spec.specs.ChunksBy.{stamped}
use Rattle.stream_spec.proofs.Rising.{used_rises, rising_below}
use Rattle.stream_spec.proofs.Lists.{in_right, in_left}
use Rattle.stream_spec.proofs.ReadyBy.{rising_stamped}
use Rattle.stream_spec.proofs.Matched.{used_in}
use Rattle.reorder_buffer.specs.Stories.{Story, Given, gave, dues, due_at}
use Rattle.reorder_buffer.specs.Tracks.{Tracks}
use Rattle.reorder_buffer.specs.States.{State, arrival_count}
use Rattle.reorder_buffer.proofs.Giving.{order_is}
use Rattle.receiver.specs.Hears.{ready_packet, ready_packets, last_after}
use Rattle.stream_spec.proofs.HeardTexts.{numbered_texts}
use Rattle.stream_spec.proofs.Plain.{used_fits as length-used, all_numbered as numbered_length}

-- ---- in rising number
pub ready_stamped : (wait : ℕ) (past us : List Numbered) → ready_packets (map (due_at wait past) us) ≡ map (stamped wait past) us
ready_stamped wait past [] = refl
ready_stamped wait past (u ∷ us) = ap (λ xs. stamped wait past u ∷ xs) (ready_stamped wait past us)

pub dues_rise : (story : Story) → RisingNumbers (ready_packets (dues story))
dues_rise story = rw (ready_stamped story.wait (numbered story.past) (used story.wait (numbered story.past))) (rising_stamped story.wait (numbered story.past) _ (used_rises story.wait (numbered story.past)))

-- ---- what was given is a front of what is due
pub record Fronts (story : Story) : Type 0 where
  pub rest : List Given
  pub is : dues story ≡ story.given ++ rest

pub fronts : (s : State) (story : Story) → Tracks s story → Fronts story
fronts s story k =
    let o = order_is s story k in
    let held : List Given = map (due_at story.wait (numbered story.past)) s.held in
    record { rest = s.settled ++ held; is = o.dues_are ∙ (ap (λ gs. gs ++ held) o.ready_is ∙ append_assoc story.given s.settled held) }

pub given_fits : (s : State) (story : Story) → Tracks s story → length story.given ≤ arrival_count s
given_fits s story t =
    let f = fronts s story t in
    let all : length (dues story) ≡ length (used story.wait (numbered story.past)) = length-map (used story.wait (numbered story.past)) (due_at story.wait (numbered story.past)) in
    let few = length-used story.wait (numbered story.past) in
    let came : length (numbered story.past) ≡ length story.past = numbered_length story.past in
    let two : length (dues story) ≡ length story.given + length f.rest = ap length f.is ∙ length-append story.given f.rest in
    omega (arith, t.follows.arrivals)

-- the packets given before are below the one given now
pub above_given : (s : State) (story : Story) (g : Given) → Tracks s (gave story g) → (y : Numbered) → In y (ready_packets story.given) → y.number < g.number
above_given s story g t = rising_below (ready_packets story.given) (ready_packet g) (ready_packets (fronts s (gave story g) t).rest) all
  where
    all : RisingNumbers (ready_packets story.given ++ ready_packet g ∷ ready_packets (fronts s (gave story g) t).rest)
    all = let r = dues_rise (gave story g) in
        rw ((fronts s (gave story g) t).is, map-append ready_packet (story.given ++ g ∷ []) (fronts s (gave story g) t).rest, map-append ready_packet story.given (g ∷ []), append_assoc (ready_packets story.given) (ready_packet g ∷ []) (ready_packets (fronts s (gave story g) t).rest)) at r

pub next_rises : (s : State) (story : Story) (g : Given) → Tracks s (gave story g) → ForSome (last_after None (ready_packets story.given)) (λ latest. latest < g.number)
next_rises s story g t latest e = above (ready_packets story.given) None (λ n q. absurd (cc)) (above_given s story g t) e
  where
    above : (us : List Numbered) (last : Option ℕ) → ((n : ℕ) → last ≡ Some n → n < g.number) → ((y : Numbered) → In y us → y.number < g.number) → last_after last us ≡ Some latest → latest < g.number
    above [] last p q h = p latest h
    above (u ∷ us) last p q h = above us (Some u.number) (λ n k. let m : u.number ≡ n = cc in let l = q u (inl refl) in omega (arith, m)) (λ y i. q y (inr i)) h

-- a packet that was given came
given_back : (story : Story) (g : Given) (us : List Numbered) → In g (map (due_at story.wait (numbered story.past)) us) → (u : Numbered) × In u us × (g.packet ≡ u.packet)
given_back story g [] i = absurd i
given_back story g (u ∷ us) (inl e) = (u, inl refl, ap (λ (h : Given). h.packet) e)
given_back story g (u ∷ us) (inr i) = let r = given_back story g us i in (r.0, inr r.1, r.2)

given_came : (s : State) (story : Story) (g : Given) → Tracks s (gave story g) → (u : Numbered) × In u (numbered story.past) × (g.packet ≡ u.packet)
given_came s story g t =
    let f = fronts s (gave story g) t in
    let here : In g (dues (gave story g)) = subst (λ (gs : List Given). In g gs) (sym f.is) (in_left g (story.given ++ g ∷ []) f.rest (in_right g story.given (g ∷ []) (inl refl))) in
    let u = given_back story g (used story.wait (numbered story.past)) here in
    (u.0, used_in story.wait (numbered story.past) u.0 u.1, u.2)

pub given_text : (s : State) (story : Story) (g : Given) → Tracks s (gave story g) → AreTextArrivals story.past → IsTextPacket g.packet
given_text s story g t texts = let u = given_came s story g t in subst IsTextPacket (sym u.2) (numbered_texts story.past texts u.0 u.1)

-- and is no longer than those that came
pub given_short : (s : State) (story : Story) (g : Given) → Tracks s (gave story g) → AreShortArrivals story.past → length g.packet.primary ≤ MOST_TEXT_OCTETS
given_short s story g t short =
    let u = given_came s story g t in subst (λ (p : Packet). length p.primary ≤ MOST_TEXT_OCTETS) (sym u.2) (numbered_short story.past short u.0 u.1).1

-- ---- the last number
pub last_snoc : (last : Option ℕ) (us : List Numbered) (u : Numbered) → last_after last (us ++ u ∷ []) ≡ Some u.number
last_snoc last [] u = refl
last_snoc last (v ∷ us) u = last_snoc (Some v.number) us u
