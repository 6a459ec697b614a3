-- A live call keeps what it promises.
use Rattle.std.proofs.Common.{◌≡◌, ℕ, ◌*◌, ◌<◌, ◌≤◌, ◌^◌, true, false, Some, Ok, List, [], ◌++◌, length, ap, refl, subst, sym, ◌∙◌, append_assoc, arith}
use Rattle.std.specs.Prelude.{map}
use Rattle.std.proofs.Math.Nat.{mul-le-mul_left}
use Rattle.wire_spec.specs.Packets.{Arrival}
use Rattle.wire_spec.specs.Text.{text_of}
use Rattle.file_spec.specs.declared.conference_lines.LegLine.{LegLine}
use Rattle.file_spec.specs.Conference.{Conference, conference_from}
use Rattle.file_spec.specs.Kept.{IsConference}
use Rattle.stream_spec.specs.Ready.{Chunk}
use Rattle.stream_spec.specs.History.{Come, History}
use Rattle.stream_spec.specs.Own.{Own}
use Rattle.stream_spec.specs.Own as histories
use Rattle.stream_spec.specs.Carries.{CarriesFront}
use Rattle.mixer_spec.specs.Chunks.{texts_of}
use Rattle.mixer_spec.specs.Setups.{AllStay, IsAnother, generations_of, leg_at, setup}
use Rattle.mixer_spec.specs.Table.{Table, chunks_taken, is_idle, is_quiet, shared}
use Rattle.mixer_spec.specs.Legs.{left}
use Rattle.mixer_spec.specs.Core.{Core, Event, after, turns_in}
use Rattle.mixer_spec.specs.Laws.{AllTexts, chunks_given}
use Rattle.mixer_spec.specs.Bridged.{IsOut, IsPair, IsRunning, cutting_of, hop_to, shared_texts, told_at, waiting_texts}
use Rattle.mixer_spec.specs.Headlines.{hop_behind}
use Rattle.mixer_spec.proofs.After.{core_good}
use Rattle.mixer_spec.proofs.Asks.{composed_law, given_law, texts_law}
use Rattle.mixer_spec.proofs.Bridged.{any_front_law, any_out_law}
use Rattle.mixer_spec.proofs.OfFiles.{four, is_cutting}
use Rattle.mixer_spec.proofs.TwoHops.{hops_law}
use Rattle.command_spec.specs.Mixing.{sent_to}
use Rattle.command_spec.proofs.Fitting.{timed_within, written_within}
use Rattle.std.proofs.lemmas.List.Elements.{All-from_recursion, All-same}
use Rattle.mixer_spec.proofs.OneHop.{one_hop}
use Rattle.stream_spec.proofs.Still.{come_still, lawful_still}
use Rattle.mixer_spec.proofs.Carries.{texts_append}
use Rattle.mixer_spec.proofs.Conferences.{accepted_law, media_law, setup_law}
use Rattle.mixer_spec.proofs.Done.{below_all, quiet_parts}
use Rattle.mixer_spec.proofs.Kept.{core_kept}
use Rattle.mixer_spec.proofs.Legs.{in_order}
use Rattle.mixer_spec.proofs.Lists.{nil}
use Rattle.mixer_spec.proofs.Paced.{Timed}
use Rattle.mixer_spec.proofs.Through.{groups_more}
use Rattle.file_spec.specs.declared.conference_lines.Form.TheVariants.{Links}
use Rattle.command_spec.proofs.SentBack.{below_legs}
use Rattle.command_spec.proofs.Ssrcs.{HasSsrcs, ssrcs_fit}
use Rattle.stream_spec.specs.Links.{Takes}
use Rattle.live_spec.specs.Live.{AreLive}
use Rattle.command_spec.proofs.Sending.{all_mixers}
use Rattle.command_spec.proofs.Showing.{any_law as named_law}
use Rattle.command_spec.specs.Seen.{IsNamedThere}
use Rattle.command_spec.proofs.PrintedNames.{names_print}
use Rattle.live_spec.specs.Served.{Closed, End, IsDrained, IsServed, chunks_live, came_live, given_to, heard_live, hearing_at}
use Rattle.live_spec.specs.HeadLive.{IsGiven, IsToldAsOne, IsToldLive, ServedIsHeadLive, inward_live}
use Rattle.live_spec.proofs.ServeTexts.{live_texts}
use Rattle.live_spec.proofs.HeardLive.{live_heard, one_sender}
use Rattle.live_spec.proofs.Sharing.{shared_live}
use Rattle.live_spec.proofs.Back.{read_back}
use Rattle.live_spec.proofs.Composing.{composed_more}
use Rattle.live_spec.proofs.LinksStay.{links_stay}

-- what a call says of its table
record Serves (c : Conference) (takes : ℕ → Takes) (given : ℕ → List (List ℕ)) (end : End) (table : Table) : Type 0 where
  gives : (j : ℕ) (leg : LegLine) → leg_at c.legs j ≡ Some leg → given j ≡ given_to c table j leg
  drained : end ≡ Closed → (j : ℕ) → j < length c.legs → IsDrained c takes table j
  idle : end ≡ Closed → is_idle (setup c) table ≡ true

-- what is promised of it
record Promises (c : Conference) (takes : ℕ → Takes) (given : ℕ → List (List ℕ)) (end : End) (table : Table) : Type 0 where
  sent : (j : ℕ) (leg : LegLine) → leg_at c.legs j ≡ Some leg → IsGiven c table end j leg (given j)
  told : (j i : ℕ) → IsPair (setup c) j i → IsToldLive c takes table end j i
  told_as_one : (j : ℕ) → j < length c.legs → (setup c).aware j ≡ false → IsToldAsOne c takes table end j

-- these events are a live run of a conference of links
record Runs (c : Conference) (takes : ℕ → Takes) (past : List Event) : Type 0 where
  is : IsConference c
  fits : HasSsrcs c
  stay : AllStay (setup c)
  counts : List (ℕ → ℕ)
  live : AreLive (setup c) (hearing_at c) takes (chunks_live c takes) counts past
  few : turns_in past ≤ c.turns

module _ (c : Conference) (takes : ℕ → Takes) (given : ℕ → List (List ℕ)) (end : End) (past : List Event) (r : Runs c takes past) where
  abbrev at : Core
  at = after (setup c) (chunks_live c takes) past

  abbrev w : Table
  w = (after (setup c) (chunks_live c takes) past).table

  abbrev told : ℕ → History
  told j = told_at (setup c) (after (setup c) (chunks_live c takes) past).table j

  abbrev rest_of : ℕ → List Chunk
  rest_of i = left ((after (setup c) (chunks_live c takes) past).legs i)

  span : (setup c).step * turns_in past < 2 ^ 31
  span = let up = mul-le-mul_left (setup c).step r.few in let m = media_law c r.is in omega (arith, up, m)

  heard_texts : AllTexts (chunks_live c takes)
  heard_texts = live_texts (hearing_at c) takes (λ i. four c.mtu)

  running : IsRunning (setup c) (chunks_live c takes) past
  running = record { setup = setup_law c r.is; texts = heard_texts; span = span }

  timed : (j : ℕ) → j < (setup c).legs → Timed (setup c) w.seats j (turns_in past) w.media (w.terminals j).past
  timed j low = (core_good (setup c) (setup_law c r.is) (chunks_live c takes) heard_texts past).timed j low

  -- what is heard are the texts of all chunks
  heard_is : (i : ℕ) → texts_of (chunks_live c takes i) ≡ heard_live c takes i
  heard_is i = live_heard c takes i

  all_given : (j i : ℕ) → j < (setup c).legs → IsAnother i j → shared j (w.taken i) ≡ chunks_taken (w.taken i)
  all_given j i low n = shared_live (setup c) (hearing_at c) takes (chunks_live c takes) r.counts past r.stay r.live j i low n

  module _ (v : Serves c takes given end w) where
    quiet : end ≡ Closed → (j : ℕ) → j < (setup c).legs → is_quiet (setup c) j (w.terminals j) ≡ true
    quiet q j low = below_all (λ k. is_quiet (setup c) k (w.terminals k)) (setup c).legs j (v.idle q) low

    -- ---- the packets
    sent_to_it : (j : ℕ) (leg : LegLine) → leg_at c.legs j ≡ Some leg → IsGiven c w end j leg (given j)
    sent_to_it j leg there =
        let low = below_legs c.legs j leg there in
        let out : IsOut (setup c) j (w.terminals j) (told j) = any_out_law (setup c) (chunks_live c takes) past running j low in
        let generations : generations_of (leg_at c.legs j) ≡ leg.generations = ap generations_of there in
        record {
          lawful = out.lawful;
          own = subst (λ (g : ℕ). Own g (told j)) generations out.own;
          packets = ap (map (λ octets. text_of octets (Some c.mixer.ssrc) leg.payload_types)) (v.gives j leg there) ∙ read_back c w (turns_in past) r.is r.fits span j leg there (timed j low) out.packets_are;
          closed = λ q. subst (λ (g : ℕ). histories.Closed g (told j)) generations (out.closed (quiet q j low));
          fit = λ most limit.
              All-same (λ (octets : List ℕ). length octets ≤ most) (given j) (given_to c w j leg) (v.gives j leg there)
              (All-from_recursion (λ (octets : List ℕ). length octets ≤ most) (given_to c w j leg)
              (written_within leg.payload_types most (sent_to c w j) (timed_within c w (turns_in past) r.is j leg there (timed j low) most limit)));
        }

    -- ---- an aware terminal
    told_it : (j i : ℕ) → IsPair (setup c) j i → IsToldLive c takes w end j i
    told_it j i p =
        let x = (setup c).ssrc i in
        let f : CarriesFront (told j) x (shared_texts w j i) (waiting_texts w j i) = any_front_law (setup c) (chunks_live c takes) past running j i p in
        let same = all_given j i p.terminal p.other in
        let back = texts_of (rest_of i) in
        let all : shared_texts w j i ++ back ≡ heard_live c takes i =
        ap (λ cs. texts_of cs ++ back) same ∙ (sym (texts_append (chunks_taken (w.taken i)) (rest_of i)) ∙ (ap texts_of (in_order (setup c) (chunks_live c takes) past i) ∙ heard_is i)) in
        let front : CarriesFront (told j) x (heard_live c takes i) (waiting_texts w j i ++ back) =
        subst (λ (ts : List (List ℕ)). CarriesFront (told j) x ts (waiting_texts w j i ++ back)) all (groups_more _ (shared_texts w j i) (waiting_texts w j i) back f) in
        let lawful = (any_out_law (setup c) (chunks_live c takes) past running j p.terminal).lawful in
        record {
          rest = waiting_texts w j i ++ back;
          front = front;
          left = (rest_of i, in_order (setup c) (chunks_live c takes) past i, refl);
          one_hop = λ wait came comes. one_hop (hop_behind (setup c) w j i wait came) (record { lawful = lawful; come = comes });
          headline = λ h from wait came comes.
              hops_law (cutting_of c) (is_cutting c) (inward_live c takes i h) (hop_behind (setup c) w j i wait came) (record { lawful = lawful_still h from.lawful; come = come_still h (came_live c takes i) from.come })
              (record { lawful = lawful; come = comes }) 0 (heard_live c takes i) (waiting_texts w j i ++ back)
              (record { before = []; after = []; count = refl; whole = sym (one_sender c takes i from.alone) ∙ sym (nil (heard_live c takes i)) }) front;
          whole = λ q.
              let none = (quiet_parts (setup c) j i (w.terminals j) (quiet q j p.terminal) p.leg p.other).0 in
              subst (λ (ts : List (List ℕ)). CarriesFront (told j) x ts []) (ap texts_of (same ∙ (v.drained q i p.leg).taken) ∙ heard_is i)
              (subst (λ (cs : List Chunk). CarriesFront (told j) x (shared_texts w j i) (texts_of cs)) none f);
        }

    -- ---- another terminal
    told_one : (j : ℕ) → j < length c.legs → (setup c).aware j ≡ false → IsToldAsOne c takes w end j
    told_one j low u =
        let chunks = chunks_live c takes in
        let d = w.terminals j in
        let some : (i : ℕ) → IsAnother i j → chunks i ≡ shared j (w.taken i) ++ rest_of i =
        λ i n. sym (in_order (setup c) chunks past i) ∙ ap (λ cs. cs ++ rest_of i) (sym (all_given j i low n)) in
        let kept : (i : ℕ) → IsAnother i j → chunks_given i d.asks ++ d.waits i ≡ chunks_taken (w.taken i) =
        λ i n. ap (λ cs. cs ++ d.waits i) (sym (given_law (setup c) chunks past j i u)) ∙ (core_kept (setup c) chunks past j i n ∙ all_given j i low n) in
        let both : (wait : ℕ) (came : List Arrival) → Come (told j) came → IsNamedThere (setup c) d.asks (hop_to (told j) c.mixer.ssrc wait came) =
        λ wait came comes. named_law (setup c) chunks past (names_print c r.is) running j u low wait came comes in
        record {
          source = all_mixers (setup c) j d.past (λ e k. ((timed j low).unaware u).own e k);
          one_hop = λ wait came comes. one_hop (hop_to (told j) c.mixer.ssrc wait came) (record { lawful = (any_out_law (setup c) chunks past running j low).lawful; come = comes });
          composed = composed_more (setup c) (λ i. shared j (w.taken i)) chunks j d.asks (λ i n. (rest_of i, some i n)) (composed_law (setup c) chunks past j u);
          sent = texts_law (setup c) chunks past j u;
          named = λ wait came comes. (both wait came comes).0;
          shown_named = λ wait came comes. (both wait came comes).1;
          front = λ i li n.
              let given = chunks_given i d.asks in
              let behind = d.waits i ++ rest_of i in
              let all : chunks i ≡ given ++ behind = sym (in_order (setup c) chunks past i) ∙ (ap (λ cs. cs ++ rest_of i) (sym (kept i n)) ∙ append_assoc given (d.waits i) (rest_of i)) in
              (texts_of behind, sym (heard_is i) ∙ (ap texts_of all ∙ texts_append given behind));
          whole = λ q i li n.
              let given = chunks_given i d.asks in
              let none = (quiet_parts (setup c) j i d (quiet q j low) li n).0 in
              ap texts_of (sym (nil given) ∙ (ap (λ cs. given ++ cs) (sym none) ∙ (kept i n ∙ (v.drained q i li).taken))) ∙ heard_is i;
        }

    promised : Promises c takes given end w
    promised = record { sent = sent_to_it; told = told_it; told_as_one = told_one }

pub head_law : ServedIsHeadLive
head_law octets c takes given end printed read v =
    let is = (accepted_law Links octets c read).0 in
    let few = v.few in
    let turned = v.live.turned in
    let runs : Runs c takes v.live.past = record { is = is; fits = ssrcs_fit Links octets c read; stay = links_stay octets c read is; counts = v.live.counts; live = v.live.live; few = omega (arith, few, turned) } in
    let serves : Serves c takes given end v.table = record { gives = v.gives; drained = v.drained; idle = v.idle } in
    let p = subst (λ (t : Table). Promises c takes given end t) v.live.leads (promised c takes given end v.live.past runs (subst (λ (t : Table). Serves c takes given end t) (sym v.live.leads) serves)) in
    record { served = v; sent = p.sent; told = p.told; told_as_one = p.told_as_one }

-- the run that it tells is the call's
pub same_run : (octets : List ℕ) (c : Conference) (takes : ℕ → Takes) (given : ℕ → List (List ℕ)) (end : End) (printed : List ℕ) (read : conference_from Links octets ≡ Ok c) (v : IsServed c takes given end printed)
    → (head_law octets c takes given end printed read v).served ≡ v
unfolding head_law
same_run octets c takes given end printed read v = refl
