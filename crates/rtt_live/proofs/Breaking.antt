-- A live call with a board that was given up.
use Rattle.std.proofs.Common.{ℕ, List, inl, inr, refl}
use Rattle.file_spec.specs.Conference.{Conference}
use Rattle.stream_spec.specs.Links.{Takes}
use Rattle.live_spec.specs.Served.{End}
use Rattle.rtt_live.specs.Calls.{BrokeOff, WasTapped}
use Rattle.rtt_live.specs.Spans.{Span}
use Rattle.rtt_live.specs.Taps.{Notice}
use Rattle.rtt_live.proofs.Returning.{was_broken}

-- before it began
pub none_given : (tells : Type 0) (span : Span) (given : ℕ → List (ℕ × List ℕ)) (taken : ℕ → Takes) (c : Conference) → BrokeOff tells span given taken given c
none_given tells span given taken c = inr (λ t j line p at e. inl refl)

-- when it was over
pub after_all : (stands : List Notice → Type 0) (tells : Type 0) (span : Span) (before : ℕ → List (ℕ × List ℕ)) (taken : ℕ → Takes) (given : ℕ → List (ℕ × List ℕ)) (c : Conference) (end : End) (printed : List ℕ)
    → WasTapped stands tells span taken given c end printed → BrokeOff tells span before taken given c
after_all stands tells span before taken given c end printed w = inl (was_broken tells span taken given c end printed w.was)
