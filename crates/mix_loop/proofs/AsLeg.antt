-- What a leg gives, as that of the leg with any number.
use Rattle.std.proofs.Common.{◌≡◌, ℕ, Bool, true, false, Option, None, Some, List, [], ◌∷◌, ◌++◌, refl, ap, sym, ◌∙◌}
use Rattle.std.specs.Prelude.{filter, map}
use Rattle.std.proofs.lemmas.List.{map-append}
use Rattle.stream_spec.specs.Fronts.{IsFront, is_ready_by}
use Rattle.wire_spec.specs.Packets.{Arrival}
use Rattle.stream_spec.specs.Hearing.{marker}
use Rattle.stream_spec.specs.Ready.{Chunk, chunk, chunks}
use Rattle.stream_spec.specs.Still.{still}
use Rattle.stream_spec.specs.Links.{Came, Datagram, Large, Quiet, Closed, Takes}
use Rattle.live_spec.specs.Told.{Former, Hearing, Told, all_by, all_former, all_told, former_chunks, last_chunks, ready_by, ready_told, ready_until, sender_chunks, told_by, told_came}
use Rattle.view_spec.specs.declared.tallies.Tally.{Tally}
use Rattle.live_spec.specs.Tally.{tally_by, tally_came}
use Rattle.mixer_spec.specs.Pieces.{chunks_cut, pieces}
use Rattle.mix_loop.specs.Ports.{of_leg}
use Rattle.mix_loop.proofs.OfLeg.{chunks_of_leg, cut_of_leg, filter_of_leg}
use Rattle.live_leg.specs.LinkLegs.{Item}
use Rattle.live_leg.specs.Items.{AreItems, text_in, texts_in}
use Rattle.live_leg.specs.Items as item
use Rattle.mix_loop.specs.Covers.{Covers, as_leg}

text_as : (p j : ℕ) (x : Item) → map (of_leg j) (text_in p x) ≡ text_in j x
text_as p j (item.Text ready octets) = refl
text_as p j item.Seen = refl
text_as p j item.Silent = refl
text_as p j item.End = refl
text_as p j (item.Fault why) = refl

texts_as : (p j : ℕ) (xs : List Item) → map (of_leg j) (texts_in p xs) ≡ texts_in j xs
texts_as p j [] = refl
texts_as p j (x ∷ xs) =
    let one = text_as p j x in
    let more = texts_as p j xs in
    map-append (of_leg j) (text_in p x) (texts_in p xs) ∙ (λ ι. one ι ++ more ι)

until_as : (leg t : ℕ) (cs : List Chunk) → map (of_leg leg) (map (ready_until t) cs) ≡ map (ready_until t) (map (of_leg leg) cs)
until_as leg t [] = refl
until_as leg t (c ∷ cs) = ap (λ ds. of_leg leg (ready_until t c) ∷ ds) (until_as leg t cs)

module _ (leg : ℕ) (h : Hearing) where
  came_as : (d : Told) (t : ℕ) (c : Came) → told_came (as_leg leg h) d t c ≡ told_came h d t c
  came_as d t (Datagram octets) = refl
  came_as d t Large = refl
  came_as d t Quiet = refl
  came_as d t Closed = refl

  told_as : (takes : Takes) → told_by (as_leg leg h) takes ≡ told_by h takes
  told_as [] = refl
  told_as (a ∷ past) = came_as (told_by (as_leg leg h) past) a.at a.came ∙ ap (λ (d : Told). told_came h d a.at a.came) (told_as past)

  came_tally : (d : Told) (t : ℕ) (c : Came) (y : Tally) → tally_came (as_leg leg h) d t c y ≡ tally_came h d t c y
  came_tally d t (Datagram octets) y = refl
  came_tally d t Large y = refl
  came_tally d t Quiet y = refl
  came_tally d t Closed y = refl

  pub tally_as : (takes : Takes) → tally_by (as_leg leg h) takes ≡ tally_by h takes
  tally_as [] = refl
  tally_as (a ∷ past) =
      let told = told_as past in
      let same = tally_as past in
      came_tally (told_by (as_leg leg h) past) a.at a.came (tally_by (as_leg leg h) past) ∙ (λ ι. tally_came h (told ι) a.at a.came (same ι))

  sender_as : (ssrc : ℕ) (past : List Arrival) → map (of_leg leg) (sender_chunks h ssrc past) ≡ sender_chunks (as_leg leg h) ssrc past
  sender_as ssrc past =
      sym (cut_of_leg (pieces h.piece) leg (chunks h.wait h.leg (still past) ssrc)) ∙ ap (λ cs. chunks_cut (pieces h.piece) cs) (chunks_of_leg leg h.leg h.wait (still past) ssrc)

  last_as : (sender : Option ℕ) (past : List Arrival) → map (of_leg leg) (last_chunks h sender past) ≡ last_chunks (as_leg leg h) sender past
  last_as None past = refl
  last_as (Some ssrc) past = sender_as ssrc past

  former_as : (f : Former) → map (of_leg leg) (former_chunks h f) ≡ former_chunks (as_leg leg h) f
  former_as f =
      let cs = sender_chunks h f.ssrc f.past in
      map-append (of_leg leg) (map (ready_until f.until) cs) (chunk h.leg f.until marker ∷ [])
      ∙ ap (λ ds. ds ++ chunk leg f.until marker ∷ []) (until_as leg f.until cs ∙ ap (map (ready_until f.until)) (sender_as f.ssrc f.past))

  formers_as : (before : List Former) → map (of_leg leg) (all_former h before) ≡ all_former (as_leg leg h) before
  formers_as [] = refl
  formers_as (f ∷ before) =
      let one = former_as f in
      let more = formers_as before in
      map-append (of_leg leg) (all_former h before) (former_chunks h f) ∙ (λ ι. more ι ++ one ι)

  all_told_as : (d : Told) → map (of_leg leg) (all_told h d) ≡ all_told (as_leg leg h) d
  all_told_as d =
      let before = formers_as d.before in
      let last = last_as d.sender d.past in
      map-append (of_leg leg) (all_former h d.before) (last_chunks h d.sender d.past) ∙ (λ ι. before ι ++ last ι)

  ready_told_as : (d : Told) → map (of_leg leg) (ready_told h d) ≡ ready_told (as_leg leg h) d
  ready_told_as d = go d.closed
    where
      some : Bool → Told
      some b = record { before = d.before; sender = d.sender; past = d.past; moment = d.moment; closed = b }

      go : (b : Bool) → map (of_leg leg) (ready_told h (some b)) ≡ ready_told (as_leg leg h) (some b)
      go true = all_told_as d
      go false =
          sym (filter_of_leg (is_ready_by d.moment) leg (λ c. refl) (all_told h d))
          ∙ ap (λ cs. filter (is_ready_by d.moment) cs) (all_told_as d)

  pub all_as : (takes : Takes) → map (of_leg leg) (all_by h takes) ≡ all_by (as_leg leg h) takes
  all_as takes = all_told_as (told_by h takes) ∙ ap (all_told (as_leg leg h)) (sym (told_as takes))

  ready_as : (takes : Takes) → map (of_leg leg) (ready_by h takes) ≡ ready_by (as_leg leg h) takes
  ready_as takes = ready_told_as (told_by h takes) ∙ ap (ready_told (as_leg leg h)) (sym (told_as takes))

  are_as : (takes : Takes) (items : List Item) → AreItems h takes items → AreItems (as_leg leg h) takes items
  are_as [] items a = a
  are_as (t ∷ past) items a = (
    a.0,
    a.1,
    a.2,
    are_as past a.0 a.3,
    a.4,
    sym (texts_as h.leg leg items) ∙ (ap (λ cs. map (of_leg leg) cs) a.5 ∙ ready_as (t ∷ past)),
  )

  front_as : (takes : Takes) (items : List Item) → IsFront (texts_in h.leg items) (all_by h takes) → IsFront (texts_in leg items) (all_by (as_leg leg h) takes)
  front_as takes items f = (
    map (of_leg leg) f.0,
    sym (all_as takes)
        ∙ (ap (λ cs. map (of_leg leg) cs) f.1
        ∙ (map-append (of_leg leg) (texts_in h.leg items) f.0 ∙ ap (λ cs. cs ++ map (of_leg leg) f.0) (texts_as h.leg leg items))),
  )

  pub covers_as : (takes : Takes) (items : List Item) → Covers h takes items → Covers (as_leg leg h) takes items
  covers_as takes items c = record {
    later = c.later;
    counting = c.counting;
    given = c.given;
    tail = c.tail;
    left = c.left;
    takes_are = c.takes_are;
    are = are_as c.counting c.given c.are;
    no_signals = c.no_signals;
    items_are = c.items_are;
    last = c.last;
    front = front_as takes (c.given ++ c.tail) c.front;
  }

  -- the texts of these are all that is heard
  pub whole_as : (takes : Takes) (items : List Item) → texts_in h.leg items ≡ all_by h takes → texts_in leg items ≡ all_by (as_leg leg h) takes
  whole_as takes items e = sym (texts_as h.leg leg items) ∙ (ap (λ cs. map (of_leg leg) cs) e ∙ all_as takes)
