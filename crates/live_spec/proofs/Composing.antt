-- What a composer gives of what is shared, it gives of all of which that is a front.
use Rattle.std.proofs.Common.{◌≡◌, ℕ, List, [], ◌∷◌, ◌++◌, ap, sym, ◌∙◌, append_assoc}
use Rattle.stream_spec.specs.Ready.{Chunk}
use Rattle.stream_spec.specs.Fronts.{IsFront}
use Rattle.mixer_spec.specs.Setups.{IsAnother, Setup}
use Rattle.mixer_spec.specs.Composed.{Asked}
use Rattle.mixer_spec.specs.Laws.{IsAnswered, IsComposed, chunks_given}

again : (given waits more rest some all : List Chunk) → given ++ (waits ++ more) ≡ some → all ≡ some ++ rest → given ++ (waits ++ (more ++ rest)) ≡ all
again given waits more rest some all e f =
    ap (λ cs. given ++ cs) (sym (append_assoc waits more rest)) ∙ (sym (append_assoc given (waits ++ more) rest) ∙ (ap (λ cs. cs ++ rest) e ∙ sym f))

answered_more : (s : Setup) (some all : ℕ → List Chunk) (own : ℕ) (past : List Asked) (a : Asked) → ((i : ℕ) → IsAnother i own → IsFront (some i) (all i)) → IsAnswered s some own past a → IsAnswered s all own past a
answered_more s some all own past a front w = record {
  waits = w.waits;
  due = w.due;
  front = λ i n.
      let f = w.front i n in
      let g = front i n in
      (f.0 ++ g.0, again (chunks_given i past) (w.waits i) f.0 g.0 (some i) (all i) f.1 g.1);
  waiting = w.waiting;
  answers = w.answers;
}

pub composed_more : (s : Setup) (some all : ℕ → List Chunk) (own : ℕ) (asks : List Asked) → ((i : ℕ) → IsAnother i own → IsFront (some i) (all i)) → IsComposed s some own asks → IsComposed s all own asks
composed_more s some all own [] front w = tt
composed_more s some all own (a ∷ past) front w = (answered_more s some all own past a front w.0, composed_more s some all own past front w.1)
