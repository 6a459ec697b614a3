-- Calls of a mixer whose packets are sent.
use Rattle.std.proofs.Common.{◌≡◌, ◌≤◌, ◌<◌, ℕ, Bool, true, false, true≢false, Ok, Err, List, ◌∷◌, length, refl, ap, sym, subst, ◌∙◌, arith}
use Rattle.std.specs.Prelude.{◌↔◌, Result, IsOk, OnErr, OnOk, is_ok}
use Rattle.rtt_base.specs.declared.text_packets.PayloadTypes.{PayloadTypes}
use Rattle.stream_spec.specs.Ready.{Chunk}
use Rattle.mixer_spec.specs.Setups.{Setup}
use Rattle.mixer_spec.specs.Table.{Call, Turn, after_calls}
use Rattle.mix_loop.specs.Items.{IsOf}
use Rattle.mix_loop.specs.Addresses.{Address}
use Rattle.mix_loop.specs.Mixers.{Keeps}
use Rattle.mixer.specs.declared.batches.Post.{Post}
use Rattle.mixer.specs.Allowed.{IsOffer}
use Rattle.mixer.specs.States.{legs_of}
use Rattle.mixer.specs.Standing.{LeadsByCall, MixerStandsFor}
use Rattle.mixer.specs.Turns.{HasBatch, OfCalls, posts_at}
use Rattle.mixer_posts.specs.States.{SendingState}
use Rattle.mixer_posts.specs.Posts.{AreNext, IsHaltedIn, TakesAll, TakesFirst, sent_by, with_posts}
use Rattle.mixer_posts.specs.Standing.{HaltsFor, SendsFor}
use Rattle.mixer_posts.proofs.Nexts.{are_next}
use Rattle.rtt_base.specs.declared.limits.TheConstants.{MOST_TEXT_OCTETS}

pub ok_is : {E : Type 0} (r : Result (Unit {0}) E) (b : Bool) → (IsOk r ↔ (b ≡ true)) → is_ok r ≡ b
ok_is (Ok x) true e = refl
ok_is (Ok x) false e = absurd (true≢false (sym (e.0 refl)))
ok_is (Err x) true e = absurd (true≢false (sym (e.1 refl)))
ok_is (Err x) false e = refl

pub offered_text : (leg : ℕ) (c : Chunk) (octets : List ℕ) → IsOf leg c → octets ≡ c.text → length octets ≤ MOST_TEXT_OCTETS → IsOffer c
offered_text leg c octets h e few = record { some = h.text; utf8 = h.utf8; short = (let same = ap (λ (xs : List ℕ). length xs) e in omega (arith, same, few)) }

pub on_ok : {E : Type 0} (r : Result (Unit {0}) E) (P Q : Type 0) → (P → Q) → OnOk r P → OnOk r Q
on_ok (Ok x) P Q f h = f h
on_ok (Err x) P Q f h = tt

pub on_err : {E : Type 0} (r : Result (Unit {0}) E) (P Q : Type 0) → (P → Q) → OnErr r P → OnErr r Q
on_err (Ok x) P Q f h = tt
on_err (Err x) P Q f h = f h

-- as many legs and turns, and the same addresses
abbrev pub KeepsAll : {O : Type 0} → (O → List Address) → SendingState O → SendingState O → Type 0
KeepsAll {O} addresses old new = Keeps (λ (m : SendingState O). legs_of m.mixer) (λ (m : SendingState O). m.mixer.turns) (λ (m : SendingState O). addresses m.outbound) old new

-- a turn was made, and what it sends was taken
pub turn_sent : {O : Type 0} (took : O → Setup → (ℕ → PayloadTypes) → List (ℕ × Post) → Type 0) (sources : O → List ℕ) (horizon now : ℕ) (old new : SendingState O) (posts : List Post) → now < horizon
    → LeadsByCall old.mixer new.mixer (Turn now) → old.mixer.turns ≤ 4999999 → OfCalls old.mixer (λ s table. HasBatch s now table posts)
    → TakesAll took old.outbound new.outbound now posts → sources new.outbound ≡ sources old.outbound
    → (s : Setup) (payload_types : ℕ → PayloadTypes) (calls : List Call) → SendsFor took sources horizon old s payload_types calls → SendsFor took sources horizon new s payload_types (Turn now ∷ calls)
turn_sent took sources horizon now old new posts soon leads few has takes same s payload_types calls h =
    let is : posts ≡ posts_at s now (after_calls s calls) = has s calls h.stands in
    let stands : MixerStandsFor s new.mixer (Turn now ∷ calls) = leads s calls h.stands h.stands.allowed in
    let next : AreNext s (with_posts now posts (sent_by s calls)) = subst (λ (ps : List Post). AreNext s (with_posts now ps (sent_by s calls))) (sym is) (are_next s new.mixer (Turn now ∷ calls) stands) in
    record {
      stands = stands;
      sent = subst (λ (ps : List Post). took new.outbound s payload_types (with_posts now ps (sent_by s calls))) is (takes s payload_types (sent_by s calls) next h.sent);
      all = ap (λ (xs : List ℕ). length xs) same ∙ h.all;
      early = (soon, h.early);
      few = omega (arith, few, h.stands.turns);
    }

-- or not to its end
pub turn_halted : {O : Type 0} (took : O → Setup → (ℕ → PayloadTypes) → List (ℕ × Post) → Type 0) (halted : O → Setup → (ℕ → PayloadTypes) → List (ℕ × Post) → ℕ → Post → Type 0) (sources : O → List ℕ) (horizon now : ℕ) (old new : SendingState O) (posts : List Post)
    → LeadsByCall old.mixer new.mixer (Turn now) → OfCalls old.mixer (λ s table. HasBatch s now table posts)
    → TakesFirst halted took old.outbound new.outbound now posts
    → (s : Setup) (payload_types : ℕ → PayloadTypes) (calls : List Call) → SendsFor took sources horizon old s payload_types calls → HaltsFor halted new s payload_types calls now
turn_halted took halted sources horizon now old new posts leads has takes s payload_types calls h =
    let is : posts ≡ posts_at s now (after_calls s calls) = has s calls h.stands in
    let stands : MixerStandsFor s new.mixer (Turn now ∷ calls) = leads s calls h.stands h.stands.allowed in
    let next : AreNext s (with_posts now posts (sent_by s calls)) = subst (λ (ps : List Post). AreNext s (with_posts now ps (sent_by s calls))) (sym is) (are_next s new.mixer (Turn now ∷ calls) stands) in
    subst (λ (ps : List Post). IsHaltedIn halted new.outbound s payload_types (sent_by s calls) now ps) is (takes s payload_types (sent_by s calls) next h.sent)
