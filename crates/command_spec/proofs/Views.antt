-- What is printed of a lawful history.
use Rattle.std.proofs.Common.{◌≡◌, List, ℕ, ap}
use Rattle.std.specs.List.{concat}
use Rattle.stream_spec.specs.History.{History, Lawful, Come}
use Rattle.stream_spec.proofs.Walks.{l1}
use Rattle.view_spec.specs.Shown.{shown}
use Rattle.view_spec.specs.Views.{text_view}
use Rattle.command_spec.specs.declared.requests.ReadRequest.{ReadRequest}
use Rattle.view_spec.specs.Seen.{counts_at}
use Rattle.command_spec.specs.Reading.{usual_wait, reception, records_of, arrivals_of, read_view, history_view}

-- the view of what is heard is that of what is kept
pub same_view : (h : History) → Lawful h → (r : ReadRequest) (octets : List ℕ) → Come h (arrivals_of r octets) → read_view r octets ≡ history_view h r octets
unfolding read_view history_view
same_view h law r octets come = ap (λ t. text_view (shown (concat t)) (counts_at (reception r) (records_of octets))) (l1 usual_wait h law (arrivals_of r octets) come r.source)
