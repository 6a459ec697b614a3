-- The outputs to the terminals, before anything was sent.
use Rattle.std.proofs.Common.{◌≡◌, ℕ, ◌<◌, inl, inr, List, [], ◌∷◌, ◌++◌, length, ap, sym, ◌∙◌, subst, arith}
use Rattle.std.specs.Prelude.{IfOk, Result, Ok, Err}
use Rattle.std.proofs.lemmas.List.{length-map}
use Rattle.std.proofs.lemmas.Grind.{same_number_lists}
use Rattle.std.proofs.lemmas.Option.{get_or_from_slice_get}
use Rattle.file_spec.specs.Conference.{Conference}
use Rattle.mixer_spec.specs.Setups.{setup}
use Rattle.packetizer.specs.declared.outputs.PacketizerSettings.{PacketizerSettings}
use Rattle.packetizer.specs.OutputStanding.{PacketizerStandsFor, speaker_of}
use Rattle.packetizer.specs.OutputStates.{State}
use Rattle.mixer.specs.Making.{source_counts}
use Rattle.mixer_posts.specs.Streams.{AreSourcesAt, settings_at, payload_types_at}
use Rattle.mixer_posts.proofs.Streaming.{count_law}
use Rattle.rtt_live.specs.declared.far_ends.FarEnds.{FarEnds}
use Rattle.rtt_live.specs.Ends.{WereGiven, count_sources, counts_of}
use Rattle.rtt_live.specs.Listeners.{NoneHeard}
use Rattle.rtt_live.specs.Opened.{AreUnused}
use Rattle.rtt_live.specs.Outputs.{HasSentNone, NoneSent}
use Rattle.wire_spec.proofs.Plain.{get_map as map_there}
use Rattle.stream_spec.proofs.Plain.{get_at as some_there, get_push as pushed}

-- ---- one by one
pub output_made : {E : Type 0} (c : Conference) (j : ℕ) (settings : PacketizerSettings) (sources slice : List ℕ) (r : Result State E) → settings ≡ settings_at (setup c) (payload_types_at c j) j → slice ≡ sources → AreSourcesAt (setup c) j sources
    → IfOk r (λ o. PacketizerStandsFor settings slice o []) → IfOk r (λ o. HasSentNone c j o)
output_made c j settings sources slice (Ok o) is same are h = (sources, are, subst (λ (x : PacketizerSettings). PacketizerStandsFor x sources o []) is (subst (λ (xs : List ℕ). PacketizerStandsFor settings xs o []) same h))
output_made c j settings sources slice (Err x) is same are h = tt

pub sent_none_more : (c : Conference) (os : List State) (o : State) (j : ℕ) → length os ≡ j → NoneSent c os → HasSentNone c j o → NoneSent c (os ++ o ∷ [])
sent_none_more c os o j len all one k x e = elim (pushed os o k x e) [
  | inl f ↦ all k x f
  | inr q ↦ subst (λ (i : ℕ). HasSentNone c i x) (sym (q.0 ∙ len)) (subst (λ (y : State). HasSentNone c j y) (sym q.1) one)
]

-- ---- all
module _ {O : Type 0} (tells : Type 0) (given : O → List (List ℕ)) (faults : O → ℕ) (c : Conference) (far : FarEnds O) where
  -- nothing was given to ends that are unused, and their terminals heard nothing
  pub were_none : length far.links.items ≡ length c.legs → AreUnused given faults far.links.items → NoneSent c far.outputs.items → NoneHeard far.listeners.items → WereGiven tells given faults far (setup c) (payload_types_at c) []
  were_none many unused unsent none = record {
    many = many;
    each = λ j low.
        let o = some_there far.outputs.items j (let wrote = far.wrote in omega (arith, low, many, wrote)) in
        let first = unsent j o.0 o.1 in
        record {
          sources = first.0;
          are = first.1;
          wrote = λ x e. subst (λ (y : State). PacketizerStandsFor (settings_at (setup c) (payload_types_at c j) j) first.0 y []) (cc (sym o.1 ∙ e)) first.2;
          gave = λ link e. let u = unused j link e in (u.1, λ t. u.0);
          heard = λ l e. none j l e;
        };
  }

  -- there are as many sources as for the mixer
  pub counts_are : WereGiven tells given faults far (setup c) (payload_types_at c) [] → counts_of far ≡ source_counts c
  counts_are w =
      let outputs = far.outputs.items in
      let wrote = far.wrote in
      let many : length (counts_of far) ≡ length outputs = length-map outputs count_sources in
      let all : length (source_counts c) ≡ length c.legs = length-map c.legs _ in
      same_number_lists (counts_of far) (source_counts c) (omega (arith, many, all, wrote, w.many))
      (λ k low.
      let here : k < length c.legs = omega (arith, low, many, wrote, w.many) in
      let o = some_there outputs k (omega (arith, low, many)) in
      let leg = some_there c.legs k here in
      let at = w.each k here in
      let count : count_sources o.0 ≡ length at.sources = ap (λ (xs : List _). length xs) (at.wrote o.0 o.1).speakers ∙ length-map at.sources (speaker_of (settings_at (setup c) (payload_types_at c k) k) []) in
      get_or_from_slice_get (counts_of far) k (count_sources o.0) 0 (map_there count_sources outputs k o.0 o.1)
      ∙ (count ∙ sym (get_or_from_slice_get (source_counts c) k (length at.sources) 0 (count_law c k leg.0 at.sources leg.1 at.are))))
