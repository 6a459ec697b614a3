-- What a mixer sends to a terminal may be sent there, each text after those before it.
use Rattle.std.proofs.Common.{◌≡◌, ℕ, Bool, true, false, cond, List, [], ◌∷◌, ◌++◌, map, refl, ap, subst, sym, ◌∙◌}
use Rattle.std.specs.Prelude.{◌==◌}
use Rattle.stream_spec.specs.Own.{Sent}
use Rattle.mixer_spec.specs.Setups.{Setup, stream}
use Rattle.mixer_spec.specs.Table.{Call, TurnEntry, after_calls, sents}
use Rattle.packetizer.specs.Speakers.{EachIsNext}
use Rattle.mixer.specs.declared.batches.Post.{Post}
use Rattle.mixer.specs.States.{State}
use Rattle.mixer.specs.Standing.{MixerStandsFor}
use Rattle.mixer.proofs.Nexts.{each_is_next}
use Rattle.mixer_posts.specs.Posts.{AreNext, sent_by, sent_of_post, sents_to}
use Rattle.mixer_posts.proofs.Entering.{entered_law}

pub texts_are : (past : List TurnEntry) → map (λ (x : ℕ × Sent). x.1) (map (λ e. (e.at, e.sent)) past) ≡ sents past
texts_are [] = refl
texts_are (e ∷ past) = ap (λ (xs : List Sent). e.sent ∷ xs) (texts_are past)

pub are_next : (s : Setup) (m : State) (calls : List Call) → MixerStandsFor s m calls → AreNext s (sent_by s calls)
are_next s m calls h j sources l a =
    let past = ((after_calls s calls).terminals j).past in
    subst (λ (xs : List Sent). EachIsNext (stream s j) xs) (sym (ap (λ (xs : List (ℕ × Sent)). map (λ (x : ℕ × Sent). x.1) xs) (entered_law s calls j sources l a) ∙ texts_are past))
    (each_is_next s m calls j l h)

-- without the last one
pub next_before : (s : Setup) (now : ℕ) (p : Post) (sent : List (ℕ × Post)) → AreNext s ((now, p) ∷ sent) → AreNext s sent
next_before s now p sent h j sources l a = go (p.terminal == j) (h j sources l a)
  where
    go : (b : Bool) → EachIsNext (stream s j) (map (λ (x : ℕ × Sent). x.1) (cond {A = List (ℕ × Sent)} b ((now, sent_of_post sources p) ∷ []) [] ++ sents_to sources j sent)) → EachIsNext (stream s j) (map (λ (x : ℕ × Sent). x.1) (sents_to sources j sent))
    go true e = e.1
    go false e = e
