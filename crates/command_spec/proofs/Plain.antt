-- Facts of outcomes that more than one proof cites.
use Rattle.command_spec.specs.Outcomes as outcomes
use Rattle.command_spec.specs.Outcomes.{Done, IsDone, Missing, Outcome, Served, Same, Stores}
use Rattle.command_spec.specs.Work.{Made, Contents}
use Rattle.std.proofs.Common.{List, [], ℕ, ◌∙◌}

pub done_map : (o : Outcome) (P Q : List ℕ → List Made → Type 0) → ((printed : List ℕ) (files : List Made) → P printed files → Q printed files) → IsDone o P → IsDone o Q
done_map (Missing n) P Q f d = absurd d
done_map (outcomes.Refused n refusal) P Q f d = absurd d
done_map (Done printed files) P Q f d = f printed files d
done_map (Served c) P Q f d = (d.0, f d.0 [] d.1)

pub stores_since : (file : Made) (old between new : Contents) → Same old between → Stores file between new → Stores file old new
stores_since file old between new same s = record { stored = s.stored; others = λ name other. s.others name other ∙ same name }
