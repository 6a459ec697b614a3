-- What was given is a front of all chunks.
use Rattle.std.proofs.Common.{◌≡◌, ℕ, Bool, true, false, List, [], ◌∷◌, ◌++◌, refl, ap, subst, sym, ◌∙◌, arith, append_assoc, cond}
use Rattle.std.specs.Prelude.{map, filter, nat_le}
use Rattle.std.proofs.lemmas.List.{map-append}
use Rattle.wire_spec.specs.Packets.{Arrival}
use Rattle.stream_spec.specs.Numbering.{Numbered, Falling, numbered, used}
use Rattle.stream_spec.specs.Ready.{Chunk, chunk, chunks}
use Rattle.stream_spec.specs.ChunksBy.{chunks_by}
use Rattle.reorder_buffer.specs.Stories.{Story, Given, dues_of, is_due}
use Rattle.reorder_buffer.specs.States.{State}
use Rattle.reorder_buffer.specs.Tracks.{Tracks}
use Rattle.reorder_buffer.specs.Tracks as tracks
use Rattle.reorder_buffer.proofs.Giving.{order_is}
use Rattle.rtpdump_io.specs.declared.readers.DumpReader.{DumpReader}
use Rattle.rtpdump_io.specs.Reading.{to_come}
use Rattle.receiver.specs.declared.settings.EarSettings.{EarSettings}
use Rattle.receiver.specs.Hears.{ready_packet, ready_packets, texts_left}
use Rattle.receiver.specs.Cuts.{chunks_given}
use Rattle.receiver.proofs.HandedOut.{given_append}
use Rattle.receiver.proofs.Given.{ready_stamped}
use Rattle.leg.specs.declared.legs.Leg.{Leg}
use Rattle.stream_spec.specs.Fronts.{IsFront, AreFrom, is_packet_ready_by}
use Rattle.leg.specs.Gives.{LegPast, came_of, chunks_of, Phase, Within, Behind, Stands}
use Rattle.file_spec.specs.Primaries.{primary_limit}
use Rattle.leg.proofs.Later.{all_later}
use Rattle.stream_spec.proofs.Fronts.{front_is, chunks_front}

-- ---- a tracker
ready_filter : (t : ℕ) (gs : List Given) → filter (is_packet_ready_by t) (ready_packets gs) ≡ ready_packets (filter (is_due t) gs)
ready_filter t [] = refl
ready_filter t (g ∷ gs) = go (nat_le g.ready t) (ready_filter t gs)
  where
    go : (b : Bool) → filter (is_packet_ready_by t) (ready_packets gs) ≡ ready_packets (filter (is_due t) gs)
        → cond b (ready_packet g ∷ filter (is_packet_ready_by t) (ready_packets gs)) (filter (is_packet_ready_by t) (ready_packets gs)) ≡ ready_packets (cond b (g ∷ filter (is_due t) gs) (filter (is_due t) gs))
    go true e = ap (λ (us : List Numbered). ready_packet g ∷ us) e
    go false e = e

tracks_fall : (s : State) (story : Story) → tracks.Phase s story → Falling (numbered story.past)
tracks_fall s story (tracks.Before w) = subst (λ (a : List Arrival). Falling (numbered a)) (sym w.past) tt
tracks_fall s story (tracks.Within h) = h.falling

given_front : (buffer : State) (settings : EarSettings) (source : ℕ) (story : Story) (more : List Arrival) → Tracks buffer story → story.wait ≡ settings.wait → AreFrom story.moment more
    → IsFront (chunks_by 0 (ready_packets story.given) source) (chunks settings.wait 0 (more ++ story.past) source)
given_front buffer settings source story more k w g =
    let p = front_is story.wait story.moment more story.past (tracks_fall buffer story k.follows.phase) g in
    let o = order_is buffer story k in
    let past : List Numbered = numbered story.past in
    let out : p.out ≡ ready_packets story.given ++ ready_packets buffer.settled
    = sym p.ready_are ∙ (ap (filter (is_packet_ready_by story.moment)) (sym (ready_stamped story.wait past (used story.wait past)))
    ∙ (ready_filter story.moment (dues_of story.wait past) ∙ (ap ready_packets o.ready_is ∙ map-append ready_packet story.given buffer.settled))) in
    subst (λ (n : ℕ). IsFront (chunks_by 0 (ready_packets story.given) source) (chunks n 0 (more ++ story.past) source)) w
    (chunks_front story.wait 0 source (more ++ story.past) (ready_packets story.given) (ready_packets buffer.settled ++ p.rest)
    (p.all ∙ (ap (λ us. us ++ p.rest) out ∙ append_assoc (ready_packets story.given) (ready_packets buffer.settled) p.rest)))

-- ---- a leg
module _ {S : Type 0} (left : S → List ℕ) where
  came_later : (reader : DumpReader S) (past : LegPast) (story : Story) → Phase left reader past story
      → (more : List Arrival) × (came_of past ≡ more ++ story.past) × AreFrom story.moment more
  came_later reader past story (Within o r) =
      let l = all_later (primary_limit past.settings.long) past.settings.ssrc past.settings.payload_types (to_come left reader).items r.came in (
        l.more,
        sym r.same ∙ (l.is ∙ ap (λ (a : List Arrival). l.more ++ a) (sym r.told.arrivals)),
        λ a i. let q = l.times a i in omega (arith, r.told.moment),
      )
  came_later reader past story (Behind e w) = ([], sym w.came, λ a i. absurd i)

  pub given_is_front : (leg : Leg S) (past : LegPast) → Stands left leg past → IsFront past.gave (chunks_of past)
  given_is_front leg past s =
      let h = s.gave.hears in
      let m = came_later leg.reader past s.story s.phase in
      let f = given_front leg.ear.buffer past.settings past.settings.ssrc s.story m.0 h.tracks h.wait m.2 in
      let still : List Chunk = map (chunk 0 leg.ear.ready) (texts_left leg.ear) in (
        still ++ chunks_given past.settings.cut f.0,
        ap (chunks_given past.settings.cut) (ap (λ (a : List Arrival). chunks past.settings.wait 0 a past.settings.ssrc) m.1 ∙ f.1)
            ∙ (given_append past.settings.cut (chunks_by 0 (ready_packets s.story.given) past.settings.ssrc) f.0
            ∙ (ap (λ (cs : List Chunk). cs ++ chunks_given past.settings.cut f.0) (sym s.gave.chunks) ∙ append_assoc past.gave still (chunks_given past.settings.cut f.0))),
      )
