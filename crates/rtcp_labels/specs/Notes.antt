-- Events that are noted one after the other: the first 64, and whether there were more.
use Rattle.std.specs.Prelude.{ℕ, Bool, true, List, [], ◌∷◌, ◌++◌, length, Result, Ok, nat_lt, if◌then◌else◌}
use Rattle.rtt_base.specs.Steps.{◌>>=◌}
use Rattle.wire_spec.specs.declared.events.Event.{Event}
use Rattle.wire_spec.specs.declared.rtcp_faults.RtcpRefusal.{RtcpRefusal}
use Rattle.wire_spec.specs.Rtcp.{Told}

pub record Notes : Type 0 where
  pub events : List Event
  pub many : Bool

abbrev pub notes : List Event → Bool → Notes
notes events many = record { events = events; many = many }

abbrev pub noted : Notes → Event → Notes
noted n e = if nat_lt (length n.events) 64 then notes (n.events ++ e ∷ []) n.many else notes n.events true

abbrev pub all_noted : Notes → List Event → Notes
all_noted n [] = n
all_noted n (e ∷ es) = all_noted (noted n e) es

-- what is noted, and the octets behind
pub record Noted : Type 0 where
  pub noted : Notes
  pub rest : List ℕ

abbrev pub after : Notes → Result Told RtcpRefusal → Result Noted RtcpRefusal
after n read = read >>= λ told. Ok (record { noted = all_noted n told.events; rest = told.rest })

abbrev pub after_all : Notes → Result (List Event) RtcpRefusal → Result Notes RtcpRefusal
after_all n read = read >>= λ events. Ok (all_noted n events)
