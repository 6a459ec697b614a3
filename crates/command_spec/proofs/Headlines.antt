-- The headline of a conference that was mixed.
use Rattle.std.proofs.Common.{◌≡◌, ℕ, suc, ◌+◌, ◌*◌, ◌<◌, ◌≤◌, Bool, true, false, cond, Ok, Some, List, [], ◌∷◌, ◌++◌, length, refl, ap, subst, sym, ◌∙◌, arith}
use Rattle.std.specs.Prelude.{map, flat_map, remove, if◌then◌else◌}
use Rattle.std.specs.List.{AllByRecursion, concat, enumerate_from}
use Rattle.std.proofs.Math.Nat.{mul-le-mul_left}
use Rattle.wire_spec.specs.Packets.{Arrival}
use Rattle.wire_spec.specs.Dump.{dump_written}
use Rattle.file_spec.specs.declared.conference_lines.Form.TheVariants.{Files}
use Rattle.file_spec.specs.declared.conference_lines.LegLine.{LegLine}
use Rattle.file_spec.specs.Conference.{Conference, conference_from}
use Rattle.file_spec.specs.Kept.{IsConference}
use Rattle.stream_spec.specs.Numbering.{numbered, used}
use Rattle.stream_spec.specs.Hearing.{heard}
use Rattle.stream_spec.specs.History.{History, Come, placed, Lawful}
use Rattle.stream_spec.specs.Own.{own_packet, Own, Closed}
use Rattle.stream_spec.specs.Carries.{Carries}
use Rattle.stream_spec.specs.Ready.{chunks}
use Rattle.view_spec.specs.declared.counts.Counts.{Counts}
use Rattle.view_spec.specs.Shown.{shown}
use Rattle.view_spec.specs.Views.{Source, aware_view, unaware_view}
use Rattle.mixer_spec.specs.Setups.{AllStay, leg_at, generations_of}
use Rattle.mixer_spec.specs.Table.{Table}
use Rattle.mixer_spec.specs.Headline.{IsHop}
use Rattle.mixer_spec.specs.Chunks.{texts_of}
use Rattle.mixer_spec.specs.Bridged.{IsConferenceMixed, IsHeardOf, IsMixed, IsPair, leg_chunks, packets_to, pieces_heard, shared_texts}
use Rattle.mixer_spec.specs.Behind.{Bridged}
use Rattle.mixer_spec.proofs.Conferences.{accepted_law, plan_law}
use Rattle.mixer_spec.proofs.Chunks.{texts_cut}
use Rattle.mixer_spec.proofs.OfFiles.{heard_of, hops_law, is_cutting, mixed_law, aware_law, other_law, shared_law as part_law}
use Rattle.mixer_spec.proofs.Final.{AtEnd, at_end, taken_law}
use Rattle.mixer_spec.proofs.Told.{out_of as told_out}
use Rattle.mixer_spec.proofs.Bridged.{all_stay_law}
use Rattle.mixer_spec.proofs.Staying.{shared_law, stay_law}
use Rattle.stream_spec.proofs.ChunkTexts.{chunk_texts}
use Rattle.command_spec.proofs.Showing.{end_law as named_law}
use Rattle.command_spec.proofs.PrintedNames.{names_print}
use Rattle.command_spec.specs.Work.{Contents, Made}
use Rattle.command_spec.specs.Outcomes.{Done, outcome, AllStored}
use Rattle.view_spec.specs.Seen.{Text, fate_at, arrivals_at, counts_at, source_at}
use Rattle.command_spec.specs.Mixing.{counted, sent_to, out_of, came_to, reception_of, speaker_of, view_of, views, outs, input_at, mixing}
use Rattle.command_spec.specs.Bridges.{Bridge, cut_by, setup_of, IsFrom, inward, chunks_of, told_to, comes_to, onward_from_mixer, records_of, counts_behind, view_behind, IsHeard, IsHeardAsOne, IsMixedFrom, IsBridged}
use Rattle.command_spec.specs.Cascaded.{IsSeen}
use Rattle.command_spec.proofs.Ssrcs.{HasSsrcs, ssrcs_fit}
use Rattle.command_spec.proofs.Reached.{reached}
use Rattle.command_spec.proofs.Stored.{stored_at}
use Rattle.command_spec.proofs.SentBack.{IsBack, below_legs, all_back, out_is, map_twice}
use Rattle.command_spec.proofs.Fitting.{fits_all}
use Rattle.command_spec.proofs.Coming.{comes, texts_come, all_count, none_refused, none_foreign, many_come}
use Rattle.view_spec.proofs.Plain.{same_counts}

-- ---- what is seen
-- the view of a leg that has these arrivals and counts
abbrev view_with : Conference → ℕ → LegLine → List Arrival → Counts → List ℕ
view_with c j leg a counts =
    if leg.aware then aware_view leg.name (map (λ (l : LegLine). let s : Source = record { name = l.name; display = shown (concat (heard c.wait a l.ssrc)) } in s) (remove c.legs j)) counts
    else unaware_view leg.name (shown (concat (heard c.wait a c.mixer.ssrc))) counts

seen_with : (c : Conference) (table : Table) (j : ℕ) (leg : LegLine) → view_of c table j leg ≡ view_with c j leg (arrivals_at (reception_of c leg) (came_to c table j leg)) (counts_at (reception_of c leg) (came_to c table j leg))
seen_with c table j leg = go leg.aware
  where
    go : (b : Bool)
        → cond b (aware_view leg.name (map (source_at (reception_of c leg) (came_to c table j leg)) (map speaker_of (remove c.legs j))) (counts_at (reception_of c leg) (came_to c table j leg)))
        (unaware_view leg.name (shown (concat (heard c.wait (arrivals_at (reception_of c leg) (came_to c table j leg)) c.mixer.ssrc))) (counts_at (reception_of c leg) (came_to c table j leg)))
        ≡ cond b (aware_view leg.name (map (λ (l : LegLine). let s : Source = record { name = l.name; display = shown (concat (heard c.wait (arrivals_at (reception_of c leg) (came_to c table j leg)) l.ssrc)) } in s) (remove c.legs j)) (counts_at (reception_of c leg) (came_to c table j leg)))
        (unaware_view leg.name (shown (concat (heard c.wait (arrivals_at (reception_of c leg) (came_to c table j leg)) c.mixer.ssrc))) (counts_at (reception_of c leg) (came_to c table j leg)))
    go true = ap (λ ss. aware_view leg.name ss (counts_at (reception_of c leg) (came_to c table j leg))) (map_twice (source_at (reception_of c leg) (came_to c table j leg)) speaker_of (remove c.legs j))
    go false = refl

view_is : (b : Bridge) (j : ℕ) (leg : LegLine) → AllByRecursion (IsBack b.conference.mixer.ssrc leg.payload_types) (sent_to b.conference b.table j) → view_of b.conference b.table j leg ≡ view_behind b j leg
view_is b j leg k =
    seen_with b.conference b.table j leg
    ∙ (ap (λ (a : List Arrival). view_with b.conference j leg a (counts_at (reception_of b.conference leg) (came_to b.conference b.table j leg))) come
    ∙ ap (λ (n : Counts). view_with b.conference j leg (comes_to b j) n) counts)
  where
    come : arrivals_at (reception_of b.conference leg) (came_to b.conference b.table j leg) ≡ comes_to b j
    come = comes (reception_of b.conference leg) b.conference.plan j (sent_to b.conference b.table j) k

    texts : AllByRecursion (λ i. fate_at (reception_of b.conference leg) i ≡ Text) (came_to b.conference b.table j leg)
    texts = texts_come (reception_of b.conference leg) b.conference.plan j (sent_to b.conference b.table j) k

    counts : counts_at (reception_of b.conference leg) (came_to b.conference b.table j leg) ≡ counts_behind (onward_from_mixer b j)
    counts = same_counts (counts_at (reception_of b.conference leg) (came_to b.conference b.table j leg)) (counts_behind (onward_from_mixer b j))
        (all_count (reception_of b.conference leg) (came_to b.conference b.table j leg) texts ∙ many_come leg.payload_types b.conference.plan j (sent_to b.conference b.table j))
        (ap (λ (a : List Arrival). length (used b.conference.wait (numbered a))) come)
        (none_refused (reception_of b.conference leg) (came_to b.conference b.table j leg) texts)
        (none_foreign (reception_of b.conference leg) (came_to b.conference b.table j leg) texts)

-- of all legs from number n on
views_from : (b : Bridge) (n : ℕ) (legs : List LegLine) → ((j : ℕ) (leg : LegLine) → leg_at legs j ≡ Some leg → view_of b.conference b.table (n + j) leg ≡ view_behind b (n + j) leg)
    → flat_map (λ x. view_of b.conference b.table x.0 x.1) (enumerate_from n legs) ≡ flat_map (λ x. view_behind b x.0 x.1) (enumerate_from n legs)
views_from b n [] same = refl
views_from b n (l ∷ legs) same =
    let none : n + 0 ≡ n = omega arith in
    let first : view_of b.conference b.table n l ≡ view_behind b n l = subst (λ k. view_of b.conference b.table k l ≡ view_behind b k l) none (same 0 l refl) in
    let rest = views_from b (n + 1) legs (λ j leg e. let k : n + suc j ≡ n + 1 + j = omega arith in subst (λ m. view_of b.conference b.table m leg ≡ view_behind b m leg) k (same (suc j) leg e)) in
    λ i. first i ++ rest i

-- ---- what is heard
-- the legs are mixed to the end
record IsWhole (b : Bridge) : Type 0 where
  is : IsConference b.conference
  over : IsConferenceMixed b.conference (input_at b.inputs) b.table

mixed_of : (b : Bridge) → IsWhole b → IsMixed (setup_of b) (leg_chunks b.conference (input_at b.inputs)) b.conference.tick b.conference.turns b.table
mixed_of b w = mixed_law b.conference (input_at b.inputs) b.table w.is w.over

pair_heard : (b : Bridge) → IsWhole b → (j i : ℕ) → IsPair (setup_of b) j i → IsHeard b j i
pair_heard b w j i p = record {
  bridged = bridged;
  headline = λ h is. (bridged h).headline (hop h is) b.conference.wait (comes_to b j) (come h);
  carries_all = λ st h. subst (Carries (told_to b j) ((setup_of b).ssrc i)) (whole h st) (bridged h).carries;
  headline_all = λ st h is. (all_stay_law (cut_by b) (is_cutting b.conference) (setup_of b) (leg_chunks b.conference (input_at b.inputs)) b.conference.tick b.conference.turns b.table st (mixed_of b w) j i p (inward b i h) (hop h is) (heard_all h st) b.conference.wait (comes_to b j) (come h)).1;
}
  where
    bridged : (h : History) → Bridged (cut_by b) (setup_of b) b.table j i (told_to b j) (inward b i h) (chunks_of b i)
    bridged h = aware_law b.conference (input_at b.inputs) b.table w.is w.over j i p h

    hop : (h : History) → IsFrom b i h → IsHop (inward b i h)
    hop h is = hops_law b.conference (input_at b.inputs) i h is

    come : (h : History) → Come (told_to b j) (comes_to b j)
    come h = (aware_law b.conference (input_at b.inputs) b.table w.is w.over j i p h).comes b.conference.plan (plan_law b.conference w.is)

    heard_all : (h : History) → AllStay (setup_of b) → IsHeardOf (cut_by b) (inward b i h) i (leg_chunks b.conference (input_at b.inputs) i)
    heard_all h st = subst (IsHeardOf (cut_by b) (inward b i h) i) (sym (stay_law (setup_of b) i (chunks_of b i) st)) (heard_of b.conference (input_at b.inputs) i h)

    whole : (h : History) → AllStay (setup_of b) → shared_texts b.table j i ≡ pieces_heard (cut_by b) (inward b i h)
    whole h st =
        ap texts_of (shared_law (setup_of b) (leg_chunks b.conference (input_at b.inputs)) b.conference.tick b.conference.turns j i b.table st p.terminal p.other w.over
        ∙ (taken_law (setup_of b) (leg_chunks b.conference (input_at b.inputs)) b.conference.tick b.conference.turns i b.table p.leg w.over ∙ (heard_all h st).is))
        ∙ (texts_cut (cut_by b) (chunks b.conference.wait i (inward b i h).came (inward b i h).source) ∙ ap (flat_map (cut_by b)) (chunk_texts b.conference.wait i (inward b i h).came (inward b i h).source))

one_heard : (b : Bridge) → IsWhole b → (j : ℕ) → j < length b.conference.legs → (setup_of b).aware j ≡ false → IsHeardAsOne b j
one_heard b w j l u =
    let o = other_law b.conference (input_at b.inputs) b.table w.is w.over j u l in
    let come = o.comes b.conference.plan (plan_law b.conference w.is) in
    let both = named_law (setup_of b) (leg_chunks b.conference (input_at b.inputs)) b.conference.tick b.conference.turns b.table (names_print b.conference w.is) (mixed_of b w) j u l b.conference.wait (comes_to b j) come in
    record {
      bridged = o;
      one_hop = o.one_hop b.conference.wait (comes_to b j) come;
      named = both.0;
      shown_named = both.1;
      part = part_law b.conference (input_at b.inputs) b.table w.is w.over j;
    }

-- what was sent to a leg, aware or not, is a history, which is closed
record IsTold (b : Bridge) (j g : ℕ) : Type 0 where
  lawful : Lawful (told_to b j)
  own : Own g (told_to b j)
  closed : Closed g (told_to b j)
  packets_are : packets_to (setup_of b) j (b.table.terminals j).past ≡ map (own_packet (told_to b j)) (placed (told_to b j))

is_told : (b : Bridge) → IsWhole b → (j : ℕ) → j < length b.conference.legs → IsTold b j ((setup_of b).generations j)
is_told b w j l =
    let m = mixed_of b w in
    let a : AtEnd (setup_of b) b.conference.turns j b.table = at_end (setup_of b) (leg_chunks b.conference (input_at b.inputs)) b.conference.tick b.conference.turns j b.table m.setup m.texts l w.over in
    let up : (setup_of b).step * a.made ≤ (setup_of b).step * b.conference.turns = mul-le-mul_left (setup_of b).step a.few in
    let o = told_out (setup_of b) m.setup b.table.seats j a.made b.table.media (b.table.terminals j) (omega (arith, up, m.span)) a.timed in
    record { lawful = o.lawful; own = o.own; closed = o.closed a.quiet; packets_are = o.packets_are }

-- ---- the whole
-- of any conference that keeps all limits, mixed over any octets
pub seen_of : (held after : Contents) (printed : List ℕ) (b : Bridge) → IsConference b.conference → HasSsrcs b.conference → IsConferenceMixed b.conference (input_at b.inputs) b.table
    → printed ≡ views b.conference b.table → AllStored (outs b.conference b.table) held after → IsSeen after printed b
seen_of held after printed b is fits over views_are stored = record {
  outs = λ j leg at.
      let g : generations_of (leg_at b.conference.legs j) ≡ leg.generations = ap generations_of at in
      let t = subst (IsTold b j) g (is_told b w j (below_legs b.conference.legs j leg at)) in
      (dump_written (records_of b j leg), there j leg at, out_is b j leg (back j leg at) (fits_all b.conference (input_at b.inputs) b.table is over j leg at) t.lawful t.own t.closed t.packets_are);
  views = views_are ∙ views_from b 0 b.conference.legs (λ j leg at. let k : j ≡ 0 + j = omega arith in subst (λ n. view_of b.conference b.table n leg ≡ view_behind b n leg) k (view_is b j leg (back j leg at)));
  heard = pair_heard b w;
  heard_as_one = one_heard b w;
}
  where
    w : IsWhole b
    w = record { is = is; over = over }

    there : (j : ℕ) (leg : LegLine) → leg_at b.conference.legs j ≡ Some leg → after leg.output ≡ Some (dump_written (records_of b j leg))
    there j leg at =
        let k : 0 + j ≡ j = omega arith in
        stored_at (out_of b.conference b.table) (λ n l. refl) 0 b.conference.legs held after w.is.legs.differ stored j leg at ∙ ap (λ n. Some (dump_written (records_of b n leg))) k

    back : (j : ℕ) (leg : LegLine) → leg_at b.conference.legs j ≡ Some leg → AllByRecursion (IsBack b.conference.mixer.ssrc leg.payload_types) (sent_to b.conference b.table j)
    back j leg at = all_back b.conference (input_at b.inputs) b.table w.is fits over j leg at

-- of one that was read
pub seen : (held after : Contents) (octets printed : List ℕ) (b : Bridge) → conference_from Files octets ≡ Ok b.conference → IsConferenceMixed b.conference (input_at b.inputs) b.table
    → printed ≡ views b.conference b.table → AllStored (outs b.conference b.table) held after → IsSeen after printed b
seen held after octets printed b read over views_are stored =
    seen_of held after printed b (accepted_law Files octets b.conference read).0 (ssrcs_fit Files octets b.conference read) over views_are stored

is_bridged : (held after : Contents) (file printed : List ℕ) (b : Bridge) → IsMixedFrom held file b → printed ≡ views b.conference b.table ++ counted b.conference b.inputs → AllStored (outs b.conference b.table) held after
    → IsBridged held after file printed
is_bridged held after file printed b m views_are stored =
    let s = seen held after m.read.0 (views b.conference b.table) b m.read.2 m.over refl stored in
    record { bridge = b; mixed = m; outs = s.outs; views = views_are ∙ ap (λ (v : List ℕ). v ++ counted b.conference b.inputs) s.views; heard = s.heard; heard_as_one = s.heard_as_one }

pub bridged : (held after : Contents) (file printed : List ℕ) (files : List Made) → outcome held (mixing file) ≡ Done printed files → AllStored files held after → IsBridged held after file printed
bridged held after file printed files e stored =
    let r = reached held file printed files e in
    is_bridged held after file printed r.bridge r.mixed r.views_are (subst (λ (fs : List Made). AllStored fs held after) r.outs_are stored)
