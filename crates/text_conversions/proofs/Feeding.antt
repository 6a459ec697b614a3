-- Pieces, one behind the other.
use Rattle.std.proofs.Common.{◌≡◌, ℕ, ◌+◌, ◌-◌, ◌≤◌, List, [], ◌∷◌, ◌++◌, append_assoc, append-nil, take-add, length, length-drop, take, drop, Option, None, Some, refl, sym, ap, subst, ◌∙◌, arith, append-nil as nothing_more}
use Rattle.std.proofs.lemmas.List.{take-append-drop}
use Rattle.file_spec.specs.declared.frames.Frame.{Frame}
use Rattle.file_spec.specs.declared.frames.FrameRefusal.{FrameRefusal}
use Rattle.file_spec.specs.declared.frame_kinds.FrameKind.TheVariants.{EndsInside}
use Rattle.file_spec.specs.Frames.{Place, Reading, frame_fault, read_frames, reading_from, start, lasting, lasting_fault}
use Rattle.file_spec.proofs.Readings.{nothing_left, read_no_further}
use Rattle.text_conversions.specs.Fronts.{place_of}
use Rattle.text_conversions.specs.Readers.{after, LeadsFrames, given_by, Goes, Stands, IsFed, IsTaken, FrameIsRefused}
use Rattle.text_conversions.specs.declared.readers.FrameReader.{FrameReader}
use Rattle.text_conversions.specs.declared.batches.TheConstants.{MOST_BATCH_FRAMES}
use Rattle.wire_spec.proofs.Plain.{rest_is as rest_of}

-- ---- step behind step
pub leads_both : (p q r : Place) (held left last one two : List ℕ) (fs gs : List Frame) → LeadsFrames p held one fs q left → LeadsFrames q left two gs r last → LeadsFrames p held (one ++ two) (fs ++ gs) r last
leads_both p q r held left last one two fs gs a b more =
    ap (λ octets. reading_from p (held ++ octets)) (append_assoc one two more)
    ∙ a (two ++ more)
    ∙ ap (after fs) (b more)
    ∙ ap (λ hs. let y : Reading = record { frames = hs; fault = (reading_from r (last ++ more)).fault } in y) (sym (append_assoc fs gs (reading_from r (last ++ more)).frames))

-- so much of a piece was taken, and gave these frames
pub record Fills (old now : FrameReader) (piece : List ℕ) (out : List Frame) (taken : ℕ) : Type 0 where
  pub leads : LeadsFrames (place_of old.place) old.held (take taken piece) out (place_of now.place) now.held

pub fills_first : (r : FrameReader) (piece : List ℕ) → Fills r r piece [] 0
fills_first r piece = record { leads = λ more. refl }

fills_more : (old now new : FrameReader) (piece : List ℕ) (before out : List Frame) (taken more : ℕ) → Fills old now piece before taken → IsTaken now new (drop taken piece) before out more → Fills old new piece out (taken + more)
fills_more old now new piece before out taken more f t = record {
  leads = subst (λ octets. LeadsFrames (place_of old.place) old.held octets out (place_of new.place) new.held) (sym (take-add taken more piece))
      (subst (λ fs. LeadsFrames (place_of old.place) old.held (take taken piece ++ take more (drop taken piece)) fs (place_of new.place) new.held) (sym t.out_is)
      (leads_both (place_of old.place) (place_of now.place) (place_of new.place) old.held now.held new.held (take taken piece) (take more (drop taken piece)) before t.more f.leads t.leads));
}

-- a fault behind frames
abbrev pub FailsBehind : Place → List ℕ → List ℕ → List Frame → FrameRefusal → Type 0
FailsBehind p held piece out fault = (more : List ℕ) → reading_from p (held ++ (piece ++ more)) ≡ record { frames = out; fault = Some fault }

fails_behind : (old now new : FrameReader) (piece : List ℕ) (before out : List Frame) (taken : ℕ) (fault : FrameRefusal) → Fills old now piece before taken → FrameIsRefused now new (drop taken piece) before out fault
    → FailsBehind (place_of old.place) old.held piece out fault
fails_behind old now new piece before out taken fault f t more =
    ap (λ octets. reading_from (place_of old.place) (old.held ++ (octets ++ more))) (sym (take-append-drop taken piece))
    ∙ ap (λ octets. reading_from (place_of old.place) (old.held ++ octets)) (append_assoc (take taken piece) (drop taken piece) more)
    ∙ f.leads (drop taken piece ++ more)
    ∙ ap (after before) (t.fails more)
    ∙ ap (λ fs. let y : Reading = record { frames = fs; fault = Some fault } in y) (append-nil before ∙ sym t.same)

-- ---- what was given before
abbrev is_last : Place → List ℕ → Option FrameRefusal
is_last p [] = None
is_last p (x ∷ xs) = Some (record { offset = p.byte; kind = EndsInside })

-- of a frame that is begun there is none
begun_reading : (p : Place) (held : List ℕ) → frame_fault p held ≡ Some EndsInside → reading_from p held ≡ record { frames = []; fault = is_last p held }
begun_reading p [] e = nothing_left p
begun_reading p (x ∷ xs) e = read_no_further p (x ∷ xs) EndsInside (omega arith) e

no_last : (p : Place) (held : List ℕ) → lasting (is_last p held) ≡ None
no_last p [] = refl
no_last p (x ∷ xs) = refl

-- what octets are read as, behind which a frame is begun
reads_begun : (p : Place) (held octets : List ℕ) → Goes p held None octets → frame_fault p held ≡ Some EndsInside → (read_frames octets).fault ≡ is_last p held
reads_begun p held octets g e =
    ap (λ (o : List ℕ). (read_frames o).fault) (sym (nothing_more octets))
    ∙ ap (λ (r : Reading). r.fault) (g [])
    ∙ ap (λ (o : List ℕ). (reading_from p o).fault) (nothing_more held)
    ∙ ap (λ (r : Reading). r.fault) (begun_reading p held e)

pub record Given (p : Place) (held before behind : List ℕ) (out : List Frame) : Type 0 where
  pub frames : given_by before ++ out ≡ given_by behind
  pub lasts : lasting_fault behind ≡ None
  pub goes : Goes p held None behind

given : (p q : Place) (held left octets piece : List ℕ) (out : List Frame) → Goes p held None octets → LeadsFrames p held piece out q left → frame_fault q left ≡ Some EndsInside → Given q left octets (octets ++ piece) out
given p q held left octets piece out g l e = record {
  frames = sym front;
  lasts = ap lasting (reads_begun q left (octets ++ piece) goes e) ∙ no_last q left;
  goes = goes;
}
  where
    all : (more : List ℕ) → read_frames ((octets ++ piece) ++ more) ≡ after (given_by octets ++ out) (reading_from q (left ++ more))
    all more =
        ap (λ (o : List ℕ). read_frames o) (append_assoc octets piece more)
        ∙ g (piece ++ more)
        ∙ ap (after (given_by octets)) (l more)
        ∙ ap (λ fs. let y : Reading = record { frames = fs; fault = (reading_from q (left ++ more)).fault } in y) (sym (append_assoc (given_by octets) out (reading_from q (left ++ more)).frames))

    front : given_by (octets ++ piece) ≡ given_by octets ++ out
    front =
        ap (λ (o : List ℕ). given_by o) (sym (nothing_more (octets ++ piece)))
        ∙ ap (λ (r : Reading). r.frames) (all [])
        ∙ ap (λ (o : List ℕ). (given_by octets ++ out) ++ (reading_from q o).frames) (nothing_more left)
        ∙ ap (λ (r : Reading). (given_by octets ++ out) ++ r.frames) (begun_reading q left e)
        ∙ append-nil (given_by octets ++ out)

    goes : Goes q left None (octets ++ piece)
    goes more = all more ∙ ap (λ fs. after fs (reading_from q (left ++ more))) (sym front)

pub feeds : (old new : FrameReader) (piece octets : List ℕ) (out : List Frame) (taken : ℕ) → old.fault ≡ None → new.fault ≡ None → Fills old new piece out taken → frame_fault (place_of new.place) new.held ≡ Some EndsInside
    → Stands old octets → IsFed new octets (octets ++ take taken piece) out None
feeds old new piece octets out taken o n f e s =
    let g = given (place_of old.place) (place_of new.place) old.held new.held octets (take taken piece) out (subst (λ fault. Goes (place_of old.place) old.held fault octets) o s) f.leads e in
    record { frames = g.frames; fault_is = g.lasts; stands = subst (λ fault. Goes (place_of new.place) new.held fault (octets ++ take taken piece)) (sym n) g.goes }

-- a fault that is met
pub meets : (old new : FrameReader) (piece octets : List ℕ) (out : List Frame) (fault : FrameRefusal) → old.fault ≡ None → new.fault ≡ Some fault → FailsBehind (place_of old.place) old.held piece out fault → lasting (Some fault) ≡ Some fault
    → Stands old octets → IsFed new octets (octets ++ piece) out (Some fault)
meets old new piece octets out fault o n f lasts s = record {
  frames = sym front;
  fault_is = ap (λ (o : List ℕ). lasting (read_frames o).fault) (sym (nothing_more (octets ++ piece))) ∙ ap (λ (r : Reading). lasting r.fault) (all []) ∙ lasts;
  stands = subst (λ fault. Goes (place_of new.place) new.held fault (octets ++ piece)) (sym n) (lasts, λ more. all more ∙ ap (λ fs. let y : Reading = record { frames = fs; fault = Some fault } in y) (sym front));
}
  where
    g : Goes (place_of old.place) old.held None octets
    g = subst (λ fault. Goes (place_of old.place) old.held fault octets) o s

    all : (more : List ℕ) → read_frames ((octets ++ piece) ++ more) ≡ record { frames = given_by octets ++ out; fault = Some fault }
    all more =
        ap (λ (o : List ℕ). read_frames o) (append_assoc octets piece more)
        ∙ g (piece ++ more)
        ∙ ap (after (given_by octets)) (f more)

    front : given_by (octets ++ piece) ≡ given_by octets ++ out
    front = ap (λ (o : List ℕ). given_by o) (sym (nothing_more (octets ++ piece))) ∙ ap (λ (r : Reading). r.frames) (all [])

-- a fault that was met before
pub still : (r : FrameReader) (piece octets : List ℕ) (fault : FrameRefusal) → r.fault ≡ Some fault → Stands r octets → IsFed r octets (octets ++ piece) [] (Some fault)
still r piece octets fault n s = record {
  frames = append-nil (given_by octets) ∙ sym front;
  fault_is = ap (λ (o : List ℕ). lasting (read_frames o).fault) (sym (nothing_more (octets ++ piece))) ∙ ap (λ (r : Reading). lasting r.fault) (all []) ∙ g.0;
  stands = subst (λ fault. Goes (place_of r.place) r.held fault (octets ++ piece)) (sym n) (g.0, λ more. all more ∙ ap (λ fs. let y : Reading = record { frames = fs; fault = Some fault } in y) (sym front));
}
  where
    g : Goes (place_of r.place) r.held (Some fault) octets
    g = subst (λ fault. Goes (place_of r.place) r.held fault octets) n s

    all : (more : List ℕ) → read_frames ((octets ++ piece) ++ more) ≡ record { frames = given_by octets; fault = Some fault }
    all more = ap (λ (o : List ℕ). read_frames o) (append_assoc octets piece more) ∙ g.1 (piece ++ more)

    front : given_by (octets ++ piece) ≡ given_by octets
    front = ap (λ (o : List ℕ). given_by o) (sym (nothing_more (octets ++ piece))) ∙ ap (λ (r : Reading). r.frames) (all [])

-- ---- the end
pub ends_whole : (r : FrameReader) (octets : List ℕ) → r.fault ≡ None → frame_fault (place_of r.place) r.held ≡ Some EndsInside → length r.held ≡ 0 → Stands r octets → None ≡ (read_frames octets).fault
ends_whole r octets o e z s = sym (reads_begun (place_of r.place) r.held octets (subst (λ fault. Goes (place_of r.place) r.held fault octets) o s) e ∙ none r.held z)
  where
    none : (held : List ℕ) → length held ≡ 0 → is_last (place_of r.place) held ≡ None
    none [] z = refl
    none (x ∷ xs) z = absurd (omega (arith, z))

pub ends_inside : (r : FrameReader) (octets : List ℕ) (fault : FrameRefusal) → r.fault ≡ None → frame_fault (place_of r.place) r.held ≡ Some EndsInside → (length r.held ≡ 0 → ⊥) → fault ≡ record { offset = r.place.byte; kind = EndsInside } → Stands r octets
    → Some fault ≡ (read_frames octets).fault
ends_inside r octets fault o e z f s = sym (reads_begun (place_of r.place) r.held octets (subst (λ fault. Goes (place_of r.place) r.held fault octets) o s) e ∙ some r.held z)
  where
    some : (held : List ℕ) → (length held ≡ 0 → ⊥) → is_last (place_of r.place) held ≡ Some fault
    some [] z = absurd (z refl)
    some (x ∷ xs) z = ap (λ (f : FrameRefusal). Some f) (sym f)

pub ends_so : (r : FrameReader) (octets : List ℕ) (fault : FrameRefusal) → r.fault ≡ Some fault → Stands r octets → Some fault ≡ (read_frames octets).fault
ends_so r octets fault n s =
    let g = subst (λ fault. Goes (place_of r.place) r.held fault octets) n s in
    sym (ap (λ (o : List ℕ). (read_frames o).fault) (sym (nothing_more octets)) ∙ ap (λ (r : Reading). r.fault) (g.1 []))

-- ---- the loop
pub record Feeding (old now : FrameReader) (piece : List ℕ) (out : List Frame) (taken : ℕ) : Type 0 where
  pub fills : Fills old now piece out taken
  pub no_fault : now.fault ≡ None
  pub few : length out ≤ MOST_BATCH_FRAMES
  pub within : taken ≤ length piece

pub feeding_first : (r : FrameReader) (piece : List ℕ) (out : List Frame) → out ≡ [] → r.fault ≡ None → Feeding r r piece out 0
feeding_first r piece out e o = record {
  fills = subst (λ fs. Fills r r piece fs 0) (sym e) (fills_first r piece);
  no_fault = o;
  few = subst (λ fs. length fs ≤ MOST_BATCH_FRAMES) (sym e) (omega arith);
  within = omega arith;
}

pub feeding_more : (old now new : FrameReader) (piece rest : List ℕ) (before out : List Frame) (taken more : ℕ) → rest ≡ take (length piece - taken) (drop taken piece) → Feeding old now piece before taken → IsTaken now new rest before out more
    → new.fault ≡ None → length out ≤ MOST_BATCH_FRAMES → more ≤ length rest → Feeding old new piece out (taken + more)
feeding_more old now new piece rest before out taken more r f t o few within = record {
  fills = fills_more old now new piece before out taken more f.fills (subst (λ octets. IsTaken now new octets before out more) (r ∙ rest_of piece taken) t);
  no_fault = o;
  few = few;
  within = (let size = ap (λ (octets : List ℕ). length octets) (r ∙ rest_of piece taken) in let left = length-drop taken piece in let w = f.within in omega (arith, size, left, w, within));
}

pub feeds_all : (old now : FrameReader) (piece octets : List ℕ) (out : List Frame) (taken : ℕ) → old.fault ≡ None → Feeding old now piece out taken → frame_fault (place_of now.place) now.held ≡ Some EndsInside → Stands old octets → IsFed now octets (octets ++ take taken piece) out None
feeds_all old now piece octets out taken o f e s = feeds old now piece octets out taken o f.no_fault f.fills e s

pub meets_one : (old now new : FrameReader) (piece rest octets : List ℕ) (before out : List Frame) (taken : ℕ) (fault : FrameRefusal) → old.fault ≡ None → rest ≡ take (length piece - taken) (drop taken piece) → Feeding old now piece before taken → FrameIsRefused now new rest before out fault
    → Stands old octets → IsFed new octets (octets ++ piece) out (Some fault)
meets_one old now new piece rest octets before out taken fault o r f t s =
    let refused = subst (λ octets. FrameIsRefused now new octets before out fault) (r ∙ rest_of piece taken) t in
    meets old new piece octets out fault o refused.fault_is (fails_behind old now new piece before out taken fault f.fills refused) refused.lasts s

-- nothing came yet
pub goes_new : (held : List ℕ) → held ≡ [] → Goes start held None []
goes_new held e more =
    ap (λ fs. after fs (reading_from start more)) (sym (ap (λ (r : Reading). r.frames) (nothing_left start)))
    ∙ ap (λ (h : List ℕ). after (given_by []) (reading_from start (h ++ more))) (sym e)
