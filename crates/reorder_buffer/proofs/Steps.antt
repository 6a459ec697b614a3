-- Each change of what is held keeps what it stands for.
use Rattle.std.proofs.Common.{◌≡◌, ℕ, suc, ◌+◌, ◌<◌, ◌≤◌, List, [], ◌∷◌, ◌++◌, length, refl, ap, subst, sym, ◌∙◌, arith, append_assoc, length-append, None, Some}
use Rattle.std.specs.Prelude.{map, max}
use Rattle.stream_spec.specs.Numbering.{Numbered, numbered}
use Rattle.reorder_buffer.specs.Stories.{Story, Given, due_at, went}
use Rattle.rtt_base.specs.declared.text_packets.TextPacket.{TextPacket}
use Rattle.reorder_buffer.specs.States.{State, latest_from, next_latest, settled_over, settled_first, passed, with_packet}
use Rattle.reorder_buffer.specs.Tracks.{SameBut, Holding, Phase, Before, Within, Follows, Tracks}
use Rattle.reorder_buffer.proofs.Settling.{settle_step, none_some}
use Rattle.reorder_buffer.proofs.Arriving.{few}
use Rattle.reorder_buffer.specs.Holding.{HoldsNumbers}
use Rattle.reorder_buffer.proofs.Keeping.{later}
use Rattle.reorder_buffer.proofs.Timing.{timed_later}

pub map_more : (f : Numbered → Given) (xs ys : List Numbered) → map f (xs ++ ys) ≡ map f xs ++ map f ys
map_more f [] ys = refl
map_more f (x ∷ xs) ys = ap (λ zs. f x ∷ zs) (map_more f xs ys)

-- ---- the first that is held is settled
settle_holding : (s : State) (past : List Numbered) (given : List Given) (to : ℕ) (held : List Numbered) → s.held ≡ held → latest_from s.wait s.moment s.front s.latest held ≡ Some to → Holding s past given → Holding (settled_over s to held) past given
settle_holding s past given to [] e can h = absurd (none_some to can)
settle_holding s past given to (x ∷ xs) e can h =
    let long : length s.held ≡ suc (length xs) = ap length e in
    let holds = subst (λ (us : List Numbered). HoldsNumbers s.wait past s.moment s.first s.front h.out us) e h.holds in
    let r = settle_step s.wait past s.moment s.first s.front h.out s.latest to x xs h.falling holds h.timed (λ l. h.crowd (omega arith)) can in
    let next : x.number + 1 ≡ suc x.number = omega arith in
    let it : Given = record { number = x.number; ready = to; packet = x.packet } in
    record {
      out = h.out ++ x ∷ [];
      holds = rw next r.0;
      falling = h.falling;
      timed = rw next r.1;
      settled_is = sym (append_assoc given s.settled (it ∷ []))
          ∙ (ap (λ gs. gs ++ it ∷ []) h.settled_is
          ∙ (ap (λ n. map (due_at s.wait past) h.out ++ record { number = x.number; ready = n; packet = x.packet } ∷ []) (sym r.2)
          ∙ sym (map_more (due_at s.wait past) h.out (x ∷ []))));
      room = let m = h.room in omega arith;
      crowd = λ l n. let m = h.room in absurd (omega arith);
    }

pub settle_follows : (s : State) (story : Story) (to : ℕ) → next_latest s ≡ Some to → Follows s story → Follows (settled_first s to) story
settle_follows s story to can f = go s.held refl f.phase
  where
    go : (held : List Numbered) → s.held ≡ held → Phase s story → Follows (settled_over s to held) story
    go [] e p = f
    go (x ∷ xs) e (Before w) = absurd (clash (sym e ∙ w.held))
      where
        clash : x ∷ xs ≡ [] → ⊥
        clash q = cc
    go (x ∷ xs) e (Within h) = record {
      wait = f.wait;
      moment = f.moment;
      arrivals = f.arrivals;
      top = f.top;
      phase = Within (settle_holding s (numbered story.past) story.given to (x ∷ xs) e (subst (λ (us : List Numbered). latest_from s.wait s.moment s.front s.latest us ≡ Some to) e can) h);
    }

pub settle_less : (s : State) (to : ℕ) → 0 < length s.held → length (settled_first s to).held < length s.held
settle_less s to l = go s.held refl
  where
    go : (held : List Numbered) → s.held ≡ held → length (settled_over s to held).held < length s.held
    go [] e = let n : length s.held ≡ 0 = ap length e in absurd (omega arith)
    go (x ∷ xs) e = let n : length s.held ≡ suc (length xs) = ap length e in omega arith

pub settle_same : (first s : State) (to : ℕ) → SameBut first s → SameBut first (settled_first s to)
settle_same first s to same = go s.held refl
  where
    go : (held : List Numbered) → s.held ≡ held → SameBut first (settled_over s to held)
    go [] e = same
    go (x ∷ xs) e = record {
      wait = same.wait;
      moment = same.moment;
      arrivals = same.arrivals;
      finished = same.finished;
      first = same.first;
      top = same.top;
      packets = same.packets;
      current = same.current;
      total = let n : length s.held ≡ suc (length xs) = ap length e in let t = same.total in
          let it : Given = record { number = x.number; ready = to; packet = x.packet } in
          let a = length-append s.settled (it ∷ []) in omega arith;
    }

-- ---- another packet is current
pub follows_with : (s : State) (q : TextPacket) (story : Story) → Follows s story → Follows (with_packet s q) story
follows_with s q story f = record { wait = f.wait; moment = f.moment; arrivals = f.arrivals; top = f.top; phase = go f.phase }
  where
    go : Phase s story → Phase (with_packet s q) story
    go (Before w) = Before (record { past = w.past; given = w.given; settled = w.settled; held = w.held; latest = w.latest })
    go (Within h) = Within (record { out = h.out; holds = h.holds; falling = h.falling; timed = h.timed; settled_is = h.settled_is; room = h.room; crowd = h.crowd })

pub tracks_with : (s : State) (q : TextPacket) (story : Story) → Tracks s story → Tracks (with_packet s q) story
tracks_with s q story k = record { follows = follows_with s q story k.follows; still = k.still }

-- ---- time goes on
pub later_holding : (s : State) (t : ℕ) (past : List Numbered) (given : List Given) → s.moment ≤ t → next_latest s ≡ None → Holding s past given → Holding (record s { moment = t }) past given
later_holding s t past given l still h = record {
  out = h.out;
  holds = later s.wait past s.moment t s.first s.front h.out s.held l h.holds;
  falling = h.falling;
  timed = timed_later s.wait past s.moment t s.first s.front s.latest l h.timed;
  settled_is = h.settled_is;
  room = h.room;
  crowd = λ m n. let u = few s still in absurd (omega arith);
}

pub pass_follows : (s : State) (story : Story) (now : ℕ) → Tracks s story → Follows (passed s now) (went story now)
pass_follows s story now k = record {
  wait = k.follows.wait;
  moment = ap (λ m. max m now) k.follows.moment;
  arrivals = k.follows.arrivals;
  top = k.follows.top;
  phase = go k.follows.phase;
}
  where
    go : Phase s story → Phase (passed s now) (went story now)
    go (Before w) = Before (record { past = w.past; given = w.given; settled = w.settled; held = w.held; latest = w.latest })
    go (Within h) = Within (later_holding s (max s.moment now) (numbered story.past) story.given (omega arith) k.still h)
