-- What is heard of a stream, packet by packet.
use Rattle.std.proofs.Common.{◌≡◌, ℕ, ◌+◌, ◌≤◌, false, cond, Some, Result, Ok, Err, List, [], ◌∷◌, ◌++◌, map, refl, ap, sym, ◌∙◌, subst, arith}
use Rattle.std.specs.Prelude.{max, ◌==◌}
use Rattle.std.proofs.lemmas.Bool.{ne_eqb}
use Rattle.std.proofs.lemmas.List.{map-append}
use Rattle.rtt_base.specs.declared.text_packets.PayloadTypes.{PayloadTypes}
use Rattle.rtt_base.specs.declared.text_packets.TextPacket.{TextPacket}
use Rattle.wire_spec.specs.declared.faults.TextFault.{TextFault}
use Rattle.wire_spec.specs.Packets.{Packet, Arrival}
use Rattle.wire_spec.specs.Text.{text_of}
use Rattle.wire_spec.specs.Dump.{Item, arrivals_after, arrivals_with, sent_item}
use Rattle.stream_spec.specs.Numbering.{numbered, number_after, greatest, nearest}
use Rattle.command_spec.specs.Firsts.{Firsts, with_name}
use Rattle.command_spec.specs.Reading.{usual_wait}
use Rattle.command_spec.specs.Streams.{source_in, sources, text_at}
use Rattle.reorder_buffer.specs.declared.answers.Due.{Due}
use Rattle.reorder_buffer.specs.Stories.{Story, Given, begun, came, ended, given_of, given_packet, dues, ready_dues}
use Rattle.reorder_buffer.specs.States.{State, with_packet}
use Rattle.reorder_buffer.specs.Tracks.{Tracks}
use Rattle.reorder_buffer.specs.Views.{next_number}
use Rattle.reorder_buffer.specs.Told.{LeadsStory, Gives, GivesAtOnce, GaveReady, AllReady}
use Rattle.reorder_buffer.proofs.Steps.{tracks_with}
use Rattle.receiver.specs.Hears.{IsToldOf, told}
use Rattle.receiver.proofs.ReadyBy.{told_arrived}
use Rattle.rtt_show.specs.Surveys.{firsts_of}
use Rattle.rtt_show.proofs.Surveying.{firsts_more}
use Rattle.rtt_times.specs.declared.stream_packets.TimedPacket.{TimedPacket}
use Rattle.rtt_times.specs.declared.stream_packets.StreamPackets.{StreamPackets}
use Rattle.rtt_times.specs.Heard.{Counts, Drains, Hearing, HearsOctets, HearsPacket, IsEmpty, IsHeard, Listening, came_in, due_in, number_from, with_given}
use Rattle.wire_spec.proofs.Plain.{arrivals_more as after_more}

-- ---- numbers
high : (a : Arrival) (before : List Arrival) → 65536 ≤ greatest (numbered (a ∷ before))
high a [] = omega arith
high a (b ∷ before) = let h = high b before in omega (arith, h)

-- the number of the next packet
pub next_is : (past : List Arrival) (seq : ℕ) → number_from (greatest (numbered past)) seq ≡ number_after (numbered past) seq
next_is [] seq = refl
next_is (a ∷ before) seq =
    let top = greatest (numbered (a ∷ before)) in
    let some : (top == 0) ≡ false = ne_eqb top 0 (λ e. let h = high a before in omega (arith, h, e)) in
    ap (λ b. cond b (seq + 65536) (nearest top seq)) some

-- ---- what the tracker gives
-- what was taken out so far
abbrev pub Drained : State → List Due → State → List Due → Type 0
Drained old used now more = (story : Story) → Tracks old story → used ≡ map due_in story.given → (given : List Given) × Tracks now (with_given story given) × (more ≡ map due_in given)

pub drained_none : (t : State) (used : List Due) → Drained t used t used
drained_none t used story k e = (story.given, k, e)

pub drained_more : (old now new : State) (used more : List Due) (due : Due) → Drained old used now more → Gives now new due → Drained old used new (more ++ due ∷ [])
drained_more old now new used more due d g story k e =
    let q = d story k e in
    (q.0 ++ given_of due new.current ∷ [], g (with_given story q.0) q.1, ap (λ (ds : List Due). ds ++ due ∷ []) q.2 ∙ sym (map-append due_in q.0 (given_of due new.current ∷ [])))

pub drained_all : (old now : State) (used more : List Due) → Drained old used now more → GaveReady now → Drains old used now more
drained_all old now used more d all story k e =
    let q = d story k e in
    let is : q.0 ≡ ready_dues story = all (with_given story q.0) q.1 in
    (subst (λ (gs : List Given). Tracks now (with_given story gs)) is q.1, q.2 ∙ ap (map due_in) is)

-- ---- a packet
-- what is kept of it, whatever was given
counted_as : (old new : StreamPackets) (t u : State) (story : Story) (names : Firsts) (p : Packet) (at : ℕ) (given : List Given) → Hearing t old story names
    → firsts_of new.sources ≡ with_name (firsts_of old.sources) p.source → new.came.items ≡ old.came.items ++ record { number = number_from old.top p.seq; time = max old.moment at } ∷ []
    → new.top ≡ max old.top (number_from old.top p.seq) → new.moment ≡ max old.moment at → new.used.items ≡ map due_in given
    → Tracks u (with_given (came story at p) given) → Hearing u new (with_given (came story at p) given) (with_name names p.source)
counted_as old new t u story names p at given h s c to m e k =
    let number : number_from old.top p.seq ≡ number_after (numbered story.past) p.seq = ap (λ n. number_from n p.seq) h.top ∙ next_is story.past p.seq in
    let time : max old.moment at ≡ max story.moment at = ap (λ n. max n at) h.moment in
    record {
      wait = h.wait;
      tracks = k;
      sources = s ∙ ap (λ (f : Firsts). with_name f p.source) h.sources;
      used = e;
      came = c ∙ (ap (λ (xs : List TimedPacket). xs ++ record { number = number_from old.top p.seq; time = max old.moment at } ∷ []) h.came
          ∙ (ap (λ (n : ℕ). came_in (numbered story.past) ++ record { number = n; time = max old.moment at } ∷ []) number
          ∙ ap (λ (n : ℕ). came_in (numbered story.past) ++ record { number = number_after (numbered story.past) p.seq; time = n } ∷ []) time));
      top = to ∙ (ap (λ (n : ℕ). max n (number_from old.top p.seq)) h.top ∙ ap (λ (n : ℕ). max (greatest (numbered story.past)) n) number);
      moment = m ∙ time;
    }

-- it comes, and the tracker gives what is ready
pub hears_current : (t u v : State) (old mid new : StreamPackets) (p : Packet) (at : ℕ) → Counts p.source p.seq at old mid → LeadsStory t u (λ story. came story at p) → Drains u mid.used.items v new.used.items
    → new.sources ≡ mid.sources → new.came ≡ mid.came → new.top ≡ mid.top → new.moment ≡ mid.moment → HearsPacket at p t old v new
hears_current t u v old mid new p at c l d s ca to m story names h =
    let q = d (came story at p) (l story h.tracks) (ap (λ us. us.items) c.used ∙ h.used) in
    (ready_dues (came story at p), counted_as old new t v story names p at (ready_dues (came story at p)) h (ap firsts_of s ∙ c.sources) (ap (λ xs. xs.items) ca ∙ c.came) (to ∙ c.top) (m ∙ c.moment) q.1 q.0)

-- it is given at once
pub hears_viewed : (t u : State) (old mid new : StreamPackets) (p : Packet) (at number ready : ℕ) → Counts p.source p.seq at old mid → number ≡ next_number t p.seq → GivesAtOnce t u at number ready
    → new.used.items ≡ mid.used.items ++ record { number = number; ready = ready } ∷ [] → new.sources ≡ mid.sources → new.came ≡ mid.came → new.top ≡ mid.top → new.moment ≡ mid.moment → HearsPacket at p t old u new
hears_viewed t u old mid new p at number ready c n g us s ca to m story names h =
    let given = story.given ++ given_packet number ready p ∷ [] in
    let used : new.used.items ≡ map due_in given = us ∙ (ap (λ (v : List Due). v ++ record { number = number; ready = ready } ∷ []) (ap (λ v. v.items) c.used ∙ h.used) ∙ sym (map-append due_in story.given (given_packet number ready p ∷ []))) in
    (given, counted_as old new t u story names p at given h (ap firsts_of s ∙ c.sources) (ap (λ xs. xs.items) ca ∙ c.came) (to ∙ c.top) (m ∙ c.moment) used (g p n story h.tracks))

-- another packet was current
pub with_packet_heard : (t u : State) (q : TextPacket) (old new : StreamPackets) (p : Packet) (at : ℕ) → HearsPacket at p (with_packet t q) old u new → HearsPacket at p t old u new
with_packet_heard t u q old new p at h story names k = h story names (record {
  wait = k.wait;
  tracks = tracks_with t q story k.tracks;
  sources = k.sources;
  used = k.used;
  came = k.came;
  top = k.top;
  moment = k.moment;
})

-- ---- records
sources_more : (ssrc : ℕ) (payload_types : PayloadTypes) (items : List Item) (at : ℕ) (octets : List ℕ) (p : Packet) → text_of octets (Some ssrc) payload_types ≡ Ok p → sources ssrc payload_types (items ++ sent_item (at, octets) ∷ []) ≡ with_name (sources ssrc payload_types items) p.source
sources_more ssrc payload_types items at octets p x = firsts_more (λ item. source_in (text_at ssrc payload_types item)) items (sent_item (at, octets)) ∙ rw x refl

sources_same : (ssrc : ℕ) (payload_types : PayloadTypes) (items : List Item) (at : ℕ) (octets : List ℕ) (f : TextFault) → text_of octets (Some ssrc) payload_types ≡ Err f → sources ssrc payload_types (items ++ sent_item (at, octets) ∷ []) ≡ sources ssrc payload_types items
sources_same ssrc payload_types items at octets f x = firsts_more (λ item. source_in (text_at ssrc payload_types item)) items (sent_item (at, octets)) ∙ rw x refl

-- a packet of text of the stream
pub text_heard : (ssrc : ℕ) (payload_types : PayloadTypes) (at : ℕ) (octets : List ℕ) (p : Packet) (t u : State) (old new : StreamPackets) → text_of octets (Some ssrc) payload_types ≡ Ok p → HearsPacket at p t old u new → HearsOctets ssrc payload_types at octets t old u new
text_heard ssrc payload_types at octets p t u old new x h items l =
    let past = arrivals_after ssrc payload_types [] items in
    let q = h l.story (sources ssrc payload_types items) l.hearing in
    let now = told_arrived l.story past at (text_of octets (Some ssrc) payload_types) l.told in
    let now_p : IsToldOf (came l.story at p) (arrivals_with ssrc payload_types (sent_item (at, octets)) past) = subst (λ (r : Result Packet TextFault). IsToldOf (told l.story at r) (arrivals_with ssrc payload_types (sent_item (at, octets)) past)) x now in
    record {
      story = with_given (came l.story at p) q.0;
      told = subst (IsToldOf (with_given (came l.story at p) q.0)) (sym (after_more ssrc payload_types [] items (sent_item (at, octets)))) (record { arrivals = now_p.arrivals; moment = now_p.moment });
      hearing = subst (Hearing u new (with_given (came l.story at p) q.0)) (sym (sources_more ssrc payload_types items at octets p x)) q.1;
    }

-- what is none
pub no_text_heard : (ssrc : ℕ) (payload_types : PayloadTypes) (at : ℕ) (octets : List ℕ) (f : TextFault) (t : State) (q : TextPacket) (old : StreamPackets) → text_of octets (Some ssrc) payload_types ≡ Err f → HearsOctets ssrc payload_types at octets t old (with_packet t q) old
no_text_heard ssrc payload_types at octets f t q old x items l =
    let past = arrivals_after ssrc payload_types [] items in
    let now = told_arrived l.story past at (text_of octets (Some ssrc) payload_types) l.told in
    let same : IsToldOf l.story (arrivals_with ssrc payload_types (sent_item (at, octets)) past) = subst (λ (r : Result Packet TextFault). IsToldOf (told l.story at r) (arrivals_with ssrc payload_types (sent_item (at, octets)) past)) x now in
    record {
      story = l.story;
      told = subst (IsToldOf l.story) (sym (after_more ssrc payload_types [] items (sent_item (at, octets)))) same;
      hearing = subst (Hearing (with_packet t q) old l.story) (sym (sources_same ssrc payload_types items at octets f x)) (record {
        wait = l.hearing.wait;
        tracks = tracks_with t q l.story l.hearing.tracks;
        sources = l.hearing.sources;
        used = l.hearing.used;
        came = l.hearing.came;
        top = l.hearing.top;
        moment = l.hearing.moment;
      });
    }

-- ---- the begin and the end
pub nothing_heard : (ssrc : ℕ) (payload_types : PayloadTypes) (t : State) (h : StreamPackets) → Tracks t (begun usual_wait) → IsEmpty h → Listening ssrc payload_types t h []
nothing_heard ssrc payload_types t h k e = record {
  story = begun usual_wait;
  told = record { arrivals = refl; moment = refl };
  hearing = record { wait = refl; tracks = k; sources = e.sources; used = e.used; came = e.came; top = e.top; moment = e.moment };
}

pub all_heard : (ssrc : ℕ) (payload_types : PayloadTypes) (t u v : State) (old new : StreamPackets) (items : List Item) → Listening ssrc payload_types t old items → LeadsStory t u ended → AllReady t → Drains u old.used.items v new.used.items → new.sources ≡ old.sources → new.came ≡ old.came
    → IsHeard ssrc payload_types new items
all_heard ssrc payload_types t u v old new items l e all d s c =
    let story = l.story in
    let past = arrivals_after ssrc payload_types [] items in
    let q = d (ended story) (e story l.hearing.tracks) l.hearing.used in
    let whole : new.used.items ≡ map due_in (dues story) = q.1 ∙ ap (map due_in) (all story l.hearing.tracks) in
    record {
      sources = ap firsts_of s ∙ l.hearing.sources;
      numbers = record {
        used = whole ∙ (ap (λ (w : ℕ). map due_in (dues (record story { wait = w }))) l.hearing.wait ∙ ap (λ (a : List Arrival). map due_in (dues (record story { wait = usual_wait; past = a }))) l.told.arrivals);
        came = ap (λ xs. xs.items) c ∙ (l.hearing.came ∙ ap (λ (a : List Arrival). came_in (numbered a)) l.told.arrivals);
      };
    }
