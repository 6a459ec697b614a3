-- Octets that are taken behind those that are held.
use Rattle.std.proofs.Common.{◌≡◌, ℕ, ◌+◌, ◌<◌, ◌≤◌, inl, inr, Bool, cond, List, [], ◌∷◌, ◌++◌, append_assoc, length, take, drop, None, Some, refl, sym, ap, subst, ◌∙◌, arith, length-append, length-take, append-nil}
use Rattle.std.specs.Prelude.{◌≢◌}
use Rattle.std.proofs.lemmas.Bool.{lt-ltb, le-ltb, cases_lt}
use Rattle.std.proofs.lemmas.List.{take-append-drop}
use Rattle.file_spec.specs.declared.frame_kinds.FrameKind.{FrameKind}
use Rattle.file_spec.specs.declared.frame_kinds.FrameKind.TheVariants.{Time, Length, TooLarge, NotText, EndsInside, Full, ManyFrames}
use Rattle.file_spec.specs.declared.frame_limits.TheConstants.{FRAME_HEAD_OCTETS}
use Rattle.rtt_base.specs.declared.limits.TheConstants.{MOST_TEXT_OCTETS}
use Rattle.file_spec.specs.Frames.{Place, frame_fault, frame_of, length_of, place_behind, reading_from, lasting}
use Rattle.file_spec.proofs.Readings.{whole, begun, same_head, held_frame, held_fault}
use Rattle.text_conversions.specs.Fronts.{needed}
use Rattle.text_conversions.specs.Fronts.{place_of, view_of}
use Rattle.text_conversions.specs.Readers.{LeadsFrames, Fails, IsTaken, FrameIsRefused}
use Rattle.text_conversions.specs.declared.fronts.FrameView.{FrameView}
use Rattle.text_conversions.specs.declared.readers.FrameReader.{FrameReader}
use Rattle.file_spec.specs.declared.frames.Frame.{Frame}

needs_head : (held : List ℕ) → length held < FRAME_HEAD_OCTETS → needed held ≡ FRAME_HEAD_OCTETS
needs_head held l = ap (λ (b : Bool). cond b FRAME_HEAD_OCTETS (FRAME_HEAD_OCTETS + length_of held)) (lt-ltb (length held) FRAME_HEAD_OCTETS l)

needs_text : (held : List ℕ) → FRAME_HEAD_OCTETS ≤ length held → needed held ≡ FRAME_HEAD_OCTETS + length_of held
needs_text held l = ap (λ (b : Bool). cond b FRAME_HEAD_OCTETS (FRAME_HEAD_OCTETS + length_of held)) (le-ltb (length held) FRAME_HEAD_OCTETS l)

-- some octets are still needed, and not many
pub record Needs (held : List ℕ) : Type 0 where
  pub some : length held < needed held
  pub few : needed held ≤ FRAME_HEAD_OCTETS + MOST_TEXT_OCTETS

pub needs : (p : Place) (held : List ℕ) → frame_fault p held ≡ Some EndsInside → Needs held
needs p held e = elim (cases_lt (length held) FRAME_HEAD_OCTETS) [
  | inl short ↦ let n = needs_head held short in record { some = omega (arith, n); few = omega (arith, n) }
  | inr long ↦ (
      let n = needs_text held long in
      let b = begun p held long e in
      let cut = b.cut in
      let few = b.passes.few in
      record { some = omega (arith, n, cut); few = omega (arith, n, few) })
]

-- what is whole then is just a frame
pub just_whole : (p : Place) (held part : List ℕ) → length held + length part ≤ needed held → frame_fault p (held ++ part) ≡ None
    → length (held ++ part) ≡ FRAME_HEAD_OCTETS + length_of (held ++ part)
just_whole p held part few e =
    let w = whole p (held ++ part) e in
    let there = w.there in
    let size = length-append held part in
    elim (cases_lt (length held) FRAME_HEAD_OCTETS) [
      | inl short ↦ let n = needs_head held short in omega (arith, n, there, size, few)
      | inr long ↦ let n = needs_text held long in let s = (same_head held part long).size in omega (arith, n, s, there, size, few)
    ]

pub leads_frame : (p : Place) (held part : List ℕ) → length held + length part ≤ needed held → frame_fault p (held ++ part) ≡ None
    → LeadsFrames p held part (frame_of (held ++ part) ∷ []) (place_behind p (frame_of (held ++ part))) []
leads_frame p held part few e more =
    ap (λ octets. reading_from p octets) (sym (append_assoc held part more)) ∙ held_frame p (held ++ part) more e (just_whole p held part few e)

pub leads_on : (p : Place) (held part : List ℕ) → LeadsFrames p held part [] p (held ++ part)
leads_on p held part more = ap (λ octets. reading_from p octets) (sym (append_assoc held part more))

pub fails_here : (p : Place) (held piece : List ℕ) (taken : ℕ) (kind : FrameKind) → frame_fault p (held ++ take taken piece) ≡ Some kind → kind ≢ EndsInside
    → Fails p held piece (record { offset = p.byte; kind = kind })
fails_here p held piece taken kind e lasts more =
    ap (λ octets. reading_from p (held ++ (octets ++ more))) (sym (take-append-drop taken piece))
    ∙ ap (λ octets. reading_from p (held ++ octets)) (append_assoc (take taken piece) (drop taken piece) more)
    ∙ ap (λ octets. reading_from p octets) (sym (append_assoc held (take taken piece) (drop taken piece ++ more)))
    ∙ held_fault p (held ++ take taken piece) (drop taken piece ++ more) kind e lasts

-- ---- what one step does
part_fits : (held piece : List ℕ) (taken : ℕ) → length held + taken ≤ needed held → taken ≤ length piece → length held + length (take taken piece) ≤ needed held
part_fits held piece taken few within = let size = length-take taken piece in omega (arith, size, few, within)

pub takes_frame : (old new : FrameReader) (piece : List ℕ) (before out : List Frame) (taken : ℕ) (held : List ℕ) (v : FrameView) → length old.held + taken ≤ needed old.held → taken ≤ length piece → held ≡ old.held ++ take taken piece
    → frame_fault (place_of old.place) held ≡ None → view_of v ≡ frame_of held → out ≡ before ++ view_of v ∷ [] → place_of new.place ≡ place_behind (place_of old.place) (view_of v) → new.held ≡ []
    → IsTaken old new piece before out taken
takes_frame old new piece before out taken held v few within h e view o q n = record {
  more = view_of v ∷ [];
  out_is = o;
  leads = subst (λ left. LeadsFrames (place_of old.place) old.held (take taken piece) (view_of v ∷ []) (place_of new.place) left) (sym n)
      (subst (λ place. LeadsFrames (place_of old.place) old.held (take taken piece) (view_of v ∷ []) place []) (sym q)
      (subst (λ (f : Frame). LeadsFrames (place_of old.place) old.held (take taken piece) (f ∷ []) (place_behind (place_of old.place) f) []) (sym (view ∙ ap frame_of h))
      (leads_frame (place_of old.place) old.held (take taken piece) (part_fits old.held piece taken few within) (subst (λ octets. frame_fault (place_of old.place) octets ≡ None) h e))));
}

pub takes_none : (old new : FrameReader) (piece : List ℕ) (out : List Frame) (taken : ℕ) → new.held ≡ old.held ++ take taken piece → new.place ≡ old.place → IsTaken old new piece out out taken
takes_none old new piece out taken h q = record {
  more = [];
  out_is = sym (append-nil out);
  leads = subst (λ place. LeadsFrames (place_of old.place) old.held (take taken piece) [] (place_of place) new.held) (sym q)
      (subst (λ left. LeadsFrames (place_of old.place) old.held (take taken piece) [] (place_of old.place) left) (sym h) (leads_on (place_of old.place) old.held (take taken piece)));
}

lasts_at : (offset : ℕ) (kind : FrameKind) → kind ≢ EndsInside → lasting (Some (record { offset = offset; kind = kind })) ≡ Some (record { offset = offset; kind = kind })
lasts_at offset Time n = refl
lasts_at offset Length n = refl
lasts_at offset TooLarge n = refl
lasts_at offset NotText n = refl
lasts_at offset EndsInside n = absurd (n refl)
lasts_at offset Full n = refl
lasts_at offset ManyFrames n = refl

pub refuses : (old new : FrameReader) (piece : List ℕ) (out : List Frame) (taken : ℕ) (held : List ℕ) (kind : FrameKind) → held ≡ old.held ++ take taken piece
    → frame_fault (place_of old.place) held ≡ Some kind → kind ≢ EndsInside → new.fault ≡ Some (record { offset = old.place.byte; kind = kind })
    → FrameIsRefused old new piece out out (record { offset = old.place.byte; kind = kind })
refuses old new piece out taken held kind h e lasts f = record {
  same = refl;
  fails = fails_here (place_of old.place) old.held piece taken kind (subst (λ octets. frame_fault (place_of old.place) octets ≡ Some kind) h e) lasts;
  lasts = lasts_at old.place.byte kind lasts;
  fault_is = f;
}
