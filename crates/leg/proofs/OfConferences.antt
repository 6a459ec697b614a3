-- What is asked of the legs of a conference.
use Rattle.std.proofs.Common.{◌≡◌, ℕ, Option, None, Some, List, refl, ap, sym, ◌∙◌}
use Rattle.file_spec.specs.declared.conference_lines.LegLine.{LegLine}
use Rattle.file_spec.specs.Conference.{Conference}
use Rattle.stream_spec.specs.Ready.{Chunk, chunks}
use Rattle.stream_spec.specs.Still.{is_lively_chunk, still}
use Rattle.stream_spec.proofs.StillChunks.{chunks_still}
use Rattle.std.specs.Prelude.{filter, map}
use Rattle.mixer_spec.specs.Setups.{setup, in_stay, is_in_stay, ssrc_of, from_of, until_of}
use Rattle.mixer_spec.specs.Bridged.{cutting_of, input_limit, leg_arrivals, leg_chunks}
use Rattle.mixer_spec.specs.Pieces.{chunks_cut, pieces}
use Rattle.mixer_spec.specs.Rooms.{piece_within}
use Rattle.receiver.specs.Cuts.{chunks_given, cut_within}
use Rattle.mix_loop.specs.Mixing.{StayAs}
use Rattle.mix_loop.specs.Ports.{of_leg}
use Rattle.mix_loop.proofs.OfLeg.{chunks_of_leg, cut_of_leg, filter_of_leg}
use Rattle.leg.specs.Feds.{Asked, chunks_asked}
use Rattle.leg.specs.Answers.{AreChunks, AreOfConference}
use Rattle.mixer_spec.proofs.Plain.{leg_there as some_leg, leg_found as line_at}
use Rattle.mixer_spec.proofs.Conferences.{no_leg}

-- ---- what is handed out is what is mixed
-- of the chunks of a leg that are no keep-alives their pieces
cut_is : (o : Option ℕ) (cs : List Chunk) → chunks_given (cut_within o) cs ≡ chunks_cut (pieces (piece_within o)) (filter is_lively_chunk cs)
cut_is None cs = refl
cut_is (Some most) cs = refl

-- whose they are is not asked
given_of_leg : (o : Option ℕ) (j : ℕ) (cs : List Chunk) → chunks_given (cut_within o) (map (of_leg j) cs) ≡ map (of_leg j) (chunks_given (cut_within o) cs)
given_of_leg o j cs =
    cut_is o (map (of_leg j) cs)
    ∙ (ap (chunks_cut (pieces (piece_within o))) (filter_of_leg is_lively_chunk j (λ c. refl) cs)
    ∙ (cut_of_leg (pieces (piece_within o)) j (filter is_lively_chunk cs) ∙ ap (map (of_leg j)) (sym (cut_is o cs))))

pub asked_law : (c : Conference) (inputs : ℕ → List ℕ) (asked : ℕ → Asked) → AreOfConference c inputs asked → AreChunks (setup c) asked (leg_chunks c inputs)
asked_law c inputs asked are = record {
  legs = λ j low.
      let s = setup c in
      let r = some_leg c.legs j low in
      let past = leg_arrivals (input_limit c) (Some r.0) (inputs j) in
      let heard : leg_chunks c inputs j ≡ in_stay s j (chunks_given (cut_within c.mtu) (chunks c.wait j past r.0.ssrc)) =
      ap (in_stay s j)
      (ap (λ (o : Option LegLine). chunks_cut (cutting_of c) (chunks c.wait j (still (leg_arrivals (input_limit c) o (inputs j))) (ssrc_of o))) r.1
      ∙ (ap (chunks_cut (cutting_of c)) (chunks_still c.wait j past r.0.ssrc) ∙ sym (cut_is c.mtu (chunks c.wait j past r.0.ssrc)))) in
      heard
      ∙ (ap (λ cs. in_stay s j (chunks_given (cut_within c.mtu) cs)) (sym (chunks_of_leg j 0 c.wait past r.0.ssrc))
      ∙ (ap (in_stay s j) (given_of_leg c.mtu j (chunks c.wait 0 past r.0.ssrc))
      ∙ (filter_of_leg (λ (x : Chunk). is_in_stay s j x.ready) j (λ x. refl) (chunks_given (cut_within c.mtu) (chunks c.wait 0 past r.0.ssrc))
      ∙ ap (λ a. map (of_leg j) (in_stay s j (chunks_asked a))) (sym (are j r.0 r.1)))));
  above = λ j high. ap (λ (o : Option LegLine). in_stay (setup c) j (chunks_cut (cutting_of c) (chunks c.wait j (still (leg_arrivals (input_limit c) o (inputs j))) (ssrc_of o)))) (no_leg c.legs j high);
}

-- ---- stays
pub stays_law : (c : Conference) → StayAs (setup c) c.legs
stays_law c j l e = let at = line_at c.legs j l e in (ap from_of at, ap until_of at)
