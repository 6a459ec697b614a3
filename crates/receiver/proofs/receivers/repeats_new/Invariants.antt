use Rattle.std.proofs.Common.{◌≡◌, ◌-◌, ◌*◌, ◌≤◌, drop}
use Rattle.rtp_text.specs.Reading.{headers_of}
use Rattle.rtp_text.specs.Views.{headers_in}
use Rattle.receiver.specs.Plain.{any_gives_since}
use Rattle.receiver.proofs.receivers.repeats_new.Given as goal

abbrev pub invariant-loop-place : goal.invariant-loop-place
invariant-loop-place l = (l.place ≤ l.view.count) × (any_gives_since l.seen l.view.timestamp (headers_of (l.view.count - l.place) (drop (4 * l.place) l.view.headers.now)) ≡ any_gives_since l.seen l.view.timestamp (headers_in l.view))

abbrev pub decreases-loop-place : goal.decreases-loop-place
decreases-loop-place l = l.view.count - l.place
