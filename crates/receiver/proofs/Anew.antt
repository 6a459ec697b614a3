-- An ear that begins anew.
use Rattle.std.proofs.Common.{◌≡◌, ℕ, true, None, List, [], ◌∷◌, inl, inr, length, refl, ap, sym, ◌∙◌, map, subst}
use Rattle.std.proofs.lemmas.Bool.{cases_eq}
use Rattle.std.proofs.lemmas.Grind.{not_there}
use Rattle.std.proofs.lemmas.List.{length-map}
use Rattle.stream_spec.specs.Hearing.{AreHeardTexts}
use Rattle.stream_spec.specs.Ready.{chunk}
use Rattle.reorder_buffer.specs.Stories.{Story, begun}
use Rattle.reorder_buffer.specs.Tracks.{Tracks}
use Rattle.receiver.specs.Each.{sources_count}
use Rattle.receiver.specs.PiecesLeft.{is_given}
use Rattle.receiver.specs.Stands.{Stands, latest_number}
use Rattle.receiver.proofs.HandedOut.{given_nil}
use Rattle.receiver.proofs.Giving.{given_left}
use Rattle.receiver.specs.declared.settings.EarSettings.{EarSettings}
use Rattle.receiver.specs.declared.ears.Ear.{Ear}
use Rattle.receiver.specs.Hears.{BeginsAnew, IsGiving, texts_left}

-- it listens to one source
pub one_source : (e : Ear) → ∥ IsGiving e ∥₁ → sources_count e.receiver ≡ 1
one_source e is = elim (cases_eq (sources_count e.receiver) 1) [ inl same ↦ same | inr other ↦ absurd (not_there is (λ i. other (one i))) ]
  where
    one : IsGiving e → sources_count e.receiver ≡ 1
    one i = sym (length-map e.receiver.listed.items (λ l. l.source)) ∙ ap (λ (xs : List ℕ). length xs) i.4.hears.stands.listed

pub begins : (old new : Ear) (ssrc : ℕ) → new.settings ≡ record old.settings { ssrc = ssrc } → ((story : Story) → Tracks old.buffer story → Tracks new.buffer (begun story.wait))
    → Stands new.receiver (ssrc ∷ []) [] → latest_number new.receiver ≡ None → is_given new.piece ≡ true → BeginsAnew old new ssrc
begins old new ssrc is tracks stands latest heard settings source story gave g =
    let none : texts_left new ≡ [] = given_left new.settings.cut new.piece new.buffer.current heard in
    record {
      hears = record {
        asked = is ∙ ap (λ (k : EarSettings). record { ssrc = ssrc; payload_types = k.payload_types; wait = k.wait; long = k.long; cut = k.cut }) g.hears.asked;
        wait = refl;
        tracks = subst (λ (w : ℕ). Tracks new.buffer (begun w)) g.hears.wait (tracks story g.hears.tracks);
        stands = stands;
        latest = latest;
        texts = tt;
      };
      chunks = ap (map (chunk 0 new.ready)) none ∙ sym (given_nil settings.cut);
      texts = subst AreHeardTexts (sym none) tt;
    }
