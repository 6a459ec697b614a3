-- What a log notes of the posts that it takes.
use Rattle.std.proofs.Common.{◌≡◌, ◌<◌, ℕ, zero, suc, Ok, Err, inl, inr, Some, List, [], ◌∷◌, ◌++◌, length, refl, ap, sym, subst, ◌∙◌, arith}
use Rattle.std.specs.Prelude.{Result, OnErr, OnOk, slice_get, slice_index, slice_set, if◌then◌else◌}
use Rattle.std.proofs.lemmas.Bool.{cases_eq, eq-eqb, ne_eqb}
use Rattle.std.proofs.lemmas.List.{length-map}
use Rattle.std.proofs.lemmas.Option.{same_Some}
use Rattle.rtt_base.specs.declared.text_packets.PayloadTypes.{PayloadTypes}
use Rattle.stream_spec.specs.Own.{Sent}
use Rattle.file_spec.specs.Conference.{Conference}
use Rattle.mixer_spec.specs.Setups.{Setup, setup}
use Rattle.packetizer.specs.Speakers.{text_of}
use Rattle.mixer.specs.declared.batches.Post.{Post}
use Rattle.mixer.specs.Making.{source_counts}
use Rattle.mixer_posts.specs.Posts.{AreNext, sents_to}
use Rattle.mixer_posts.specs.Streams.{payload_types_at}
use Rattle.sent_log.specs.States.{HasSource, Sending, State, sent_to, with_sent}
use Rattle.rtt_mix.specs.Logs.{HasSent, IsNew, IsSentTo, sources_in}
use Rattle.sent_log.proofs.Recorded.{terminal_there as found_at}
use Rattle.sent_log.proofs.Noting.{sent_to_is as sent_is}
use Rattle.stream_spec.proofs.Plain.{get_push as pushed}

-- ---- lists
set_there : (log : State) (i : ℕ) (x y : Sending) → slice_get (slice_set log i x) i ≡ Some y → y ≡ x
set_there [] i x y at = absurd (cc at)
set_there (z ∷ log) zero x y at = sym (same_Some x y at)
set_there (z ∷ log) (suc i) x y at = set_there log i x y at

set_other : (log : State) (i j : ℕ) (x : Sending) → (i ≡ j → ⊥) → slice_get (slice_set log i x) j ≡ slice_get log j
set_other [] i j x n = refl
set_other (z ∷ log) zero zero x n = absurd (n refl)
set_other (z ∷ log) zero (suc j) x n = refl
set_other (z ∷ log) (suc i) zero x n = refl
set_other (z ∷ log) (suc i) (suc j) x n = set_other log i j x (λ e. n (ap suc e))

set_sources : (log : State) (i : ℕ) (x y : Sending) → slice_get log i ≡ Some x → y.sources ≡ x.sources → sources_in (slice_set log i y) ≡ sources_in log
set_sources [] i x y at same = refl
set_sources (z ∷ log) zero x y at same = ap (λ (sources : List ℕ). length sources ∷ sources_in log) (same ∙ ap (λ (w : Sending). w.sources) (sym (same_Some z x at)))
set_sources (z ∷ log) (suc i) x y at same = ap (λ counts. length z.sources ∷ counts) (set_sources log i x y at same)

-- ---- a post is noted
pub has_source : (log : State) (terminal source : ℕ) → terminal < length (sources_in log) → source < slice_index (sources_in log) terminal → HasSource log terminal source
has_source [] terminal source low below = absurd (omega arith)
has_source (x ∷ log) zero source low below = below
has_source (x ∷ log) (suc terminal) source low below = has_source log terminal source (omega (arith, low)) below

-- what is sent of the post's terminal, which has these sources, with this text
abbrev pub of_post : Post → List ℕ → List ℕ → Sent
of_post p text sources = text_of sources p.source p.media text

-- what the log has of each terminal, behind a post more
noted : (old new : State) (now : ℕ) (p : Post) → p.terminal < length old → new ≡ sent_to p.terminal now (of_post p p.text) old
    → (s : Setup) (payload_types : ℕ → PayloadTypes) (posts : List (ℕ × Post)) → HasSent s payload_types old posts → HasSent s payload_types new ((now, p) ∷ posts)
noted old new now p low is s payload_types posts has j less x at =
    let own = found_at old p.terminal low in
    let sent_of : List ℕ → Sent = of_post p p.text in
    let own_then : Sending = with_sent now (sent_of own.0.sources) own.0 in
    let there : slice_get (slice_set old p.terminal own_then) j ≡ Some x = subst (λ (log : State). slice_get log j ≡ Some x) (is ∙ sent_is old p.terminal now sent_of own.0 own.1) at in
    elim (cases_eq p.terminal j) [
      | inl q ↦
          let here : x ≡ own_then = set_there old p.terminal own_then x (subst (λ (k : ℕ). slice_get (slice_set old p.terminal own_then) k ≡ Some x) (sym q) there) in
          let before = has j less own.0 (subst (λ (k : ℕ). slice_get old k ≡ Some own.0) q own.1) in
          let more : (now, sent_of own.0.sources) ∷ own.0.sent ≡ sents_to own.0.sources j ((now, p) ∷ posts) =
          rw (eq-eqb p.terminal j q) (ap (λ (sent : List (ℕ × Sent)). (now, sent_of own.0.sources) ∷ sent) before.sent) in
          subst (λ (y : Sending). IsSentTo s (payload_types j) j ((now, p) ∷ posts) y) (sym here) (record { settings = before.settings; sources = before.sources; sent = more })
      | inr n ↦
          let before = has j less x (sym (set_other old p.terminal j own_then n) ∙ there) in
          record { settings = before.settings; sources = before.sources; sent = rw (ne_eqb p.terminal j n) before.sent }
    ]

pub sent_ok : {E : Type 0} (r : Result (Unit {0}) E) (old new : State) (now : ℕ) (p : Post) (text : List ℕ) → p.terminal < length (sources_in old) → text ≡ p.text
    → OnOk r (new ≡ sent_to p.terminal now (of_post p text) old)
    → OnOk r ((s : Setup) (payload_types : ℕ → PayloadTypes) (posts : List (ℕ × Post)) → AreNext s ((now, p) ∷ posts) → HasSent s payload_types old posts → HasSent s payload_types new ((now, p) ∷ posts))
sent_ok (Ok x) old new now p text low same is =
    λ s payload_types posts next has.
    noted old new now p (omega (arith, low, length-map old (λ (x : Sending). length x.sources))) (is ∙ ap (λ (octets : List ℕ). sent_to p.terminal now (of_post p octets) old) same) s payload_types posts has
sent_ok (Err x) old new now p text low same is = tt

-- each terminal has the sources that it had
pub same_sources : {E : Type 0} (r : Result (Unit {0}) E) (old new : State) (terminal at : ℕ) (sent_of : List ℕ → Sent) → terminal < length (sources_in old)
    → OnOk r (new ≡ sent_to terminal at sent_of old) → OnErr r (new ≡ old) → sources_in new ≡ sources_in old
same_sources (Ok x) old new terminal at sent_of low ok err =
    let own = found_at old terminal (omega (arith, low, length-map old (λ (x : Sending). length x.sources))) in
    ap (λ log. sources_in log) (ok ∙ sent_is old terminal at sent_of own.0 own.1) ∙ set_sources old terminal own.0 (with_sent at (sent_of own.0.sources) own.0) own.1 refl
same_sources (Err x) old new terminal at sent_of low ok err = ap (λ log. sources_in log) err

-- ---- a log of terminals to which nothing was sent
pub record IsNewAt (c : Conference) (j : ℕ) (x : Sending) : Type 0 where
  pub silent : IsSentTo (setup c) (payload_types_at c j) j [] x
  pub count : slice_get (source_counts c) j ≡ Some (length x.sources)

abbrev pub AreNew : Conference → State → Type 0
AreNew c log = (j : ℕ) (x : Sending) → slice_get log j ≡ Some x → IsNewAt c j x

pub new_more : (c : Conference) (old new : State) (j : ℕ) (x : Sending) → AreNew c old → length old ≡ j → IsNewAt c j x → new ≡ old ++ x ∷ [] → AreNew c new
new_more c old new j x all long here is = λ k y at. elim (pushed old x k y (subst (λ (log : State). slice_get log k ≡ Some y) is at)) [
  | inl before ↦ all k y before
  | inr q ↦
      let there : k ≡ j = q.0 ∙ long in
      subst (λ (i : ℕ). IsNewAt c i y) (sym there) (subst (λ (z : Sending). IsNewAt c j z) (sym q.1) here)
]

counts_are : (log : State) (counts : List ℕ) → length log ≡ length counts → ((j : ℕ) (x : Sending) → slice_get log j ≡ Some x → slice_get counts j ≡ Some (length x.sources)) → sources_in log ≡ counts
counts_are [] [] many each = refl
counts_are [] (n ∷ counts) many each = absurd (omega (arith, many))
counts_are (x ∷ log) [] many each = absurd (omega (arith, many))
counts_are (x ∷ log) (n ∷ counts) many each =
    let here : n ≡ length x.sources = same_Some n (length x.sources) (each 0 x refl) in
    ap (λ (k : ℕ). k ∷ sources_in log) (sym here) ∙ ap (λ ns. n ∷ ns) (counts_are log counts (omega (arith, many)) (λ j y at. each (suc j) y at))

pub is_new : (c : Conference) (log : State) → length log ≡ length c.legs → AreNew c log → IsNew c log
is_new c log many all = record {
  terminals = many;
  sources = counts_are log (source_counts c) (omega (arith, many, length-map c.legs (λ leg. if leg.aware then length c.legs else 1))) (λ j x at. (all j x at).count);
  silent = λ j less x at. (all j x at).silent;
}
