-- What the packets of a terminal carry after allowed calls.
use Rattle.std.proofs.Common.{◌≡◌, ℕ, ◌<◌, true, false, List, subst}
use Rattle.std.specs.Prelude.{filter}
use Rattle.wire_spec.specs.Packets.{has_text}
use Rattle.stream_spec.specs.Ready.{Chunk}
use Rattle.stream_spec.specs.Carries.{CarriesFront}
use Rattle.mixer_spec.specs.Chunks.{texts_of}
use Rattle.mixer_spec.specs.Setups.{Setup, IsSetup}
use Rattle.mixer_spec.specs.Table.{Call, Table, shared, history_to, after_calls}
use Rattle.mixer_spec.specs.Calls.{took}
use Rattle.mixer_spec.specs.Laws.{IsComposed, chunks_given, texts_given, texts_sent, carried}
use Rattle.mixer_spec.proofs.Final.{front_law}
use Rattle.mixer_spec.proofs.Asks.{composed_law, texts_law, given_law}
use Rattle.mixer.specs.Allowed.{AreAllowed}
use Rattle.mixer.specs.Words.{given_to}
use Rattle.mixer.proofs.Allowing.{events_law, good_taken}
use Rattle.mixer.proofs.Going.{shared_to}

pub front_sent : (s : Setup) (calls : List Call) (j i : ℕ) → IsSetup s → AreAllowed s calls → s.aware j ≡ true → j < s.legs → i < s.legs → (i ≡ j → ⊥)
    → let d = (after_calls s calls).terminals j in
    CarriesFront (history_to s j d.past) (s.ssrc i) (texts_of (given_to s j i calls)) (texts_of (d.waits i))
front_sent s calls j i is a aw lj li n =
    let e = events_law s calls a in
    let f = subst (λ (w : Table). CarriesFront (history_to s j (w.terminals j).past) (s.ssrc i) (texts_of (shared j (w.taken i))) (texts_of ((w.terminals j).waits i))) e.table
    (front_law s (λ i. took s i calls) e.past j i is (λ i. (good_taken s calls a i).texts) aw lj li n) in
    subst (λ (cs : List Chunk). CarriesFront (history_to s j ((after_calls s calls).terminals j).past) (s.ssrc i) (texts_of cs) (texts_of (((after_calls s calls).terminals j).waits i))) (shared_to s calls j i) f

-- ---- at a terminal that is not aware
pub composed_sent : (s : Setup) (calls : List Call) (j : ℕ) → AreAllowed s calls → s.aware j ≡ false
    → let w = after_calls s calls in
    IsComposed s (λ i. shared j (w.taken i)) j (w.terminals j).asks
composed_sent s calls j a u = let e = events_law s calls a in subst (λ (w : Table). IsComposed s (λ i. shared j (w.taken i)) j (w.terminals j).asks) e.table (composed_law s (λ i. took s i calls) e.past j u)

pub texts_composed : (s : Setup) (calls : List Call) (j : ℕ) → AreAllowed s calls → s.aware j ≡ false
    → let d = (after_calls s calls).terminals j in
    filter has_text (texts_sent d.past) ≡ filter has_text (texts_given d.asks)
texts_composed s calls j a u =
    let e = events_law s calls a in subst (λ (w : Table). filter has_text (texts_sent (w.terminals j).past) ≡ filter has_text (texts_given (w.terminals j).asks)) e.table (texts_law s (λ i. took s i calls) e.past j u)

pub given_composed : (s : Setup) (calls : List Call) (j i : ℕ) → AreAllowed s calls → s.aware j ≡ false
    → let d = (after_calls s calls).terminals j in
    carried i d.past ≡ chunks_given i d.asks
given_composed s calls j i a u = let e = events_law s calls a in subst (λ (w : Table). carried i (w.terminals j).past ≡ chunks_given i (w.terminals j).asks) e.table (given_law s (λ i. took s i calls) e.past j i u)
