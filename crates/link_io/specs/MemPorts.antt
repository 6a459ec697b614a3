-- What links in memory hold (profile): of a port the first entry that is its own, and that entry's counts.
use Rattle.std.specs.Prelude.{ℕ, Bool, true, false, List, [], ◌∷◌, Option, Some, None, cond, map, nat_eq}
use Rattle.std.specs.Option.{option_map_or}
use Rattle.stream_spec.specs.Links.{Takes}
use Rattle.rtt_io.specs.declared.faults.Faults.{Faults}
use Rattle.rtt_io.specs.Counts.{counted}
use Rattle.link_io.specs.declared.mem_ports.MemLead.{MemLead}
use Rattle.link_io.specs.declared.mem_ports.MemPort.{MemPort}
use Rattle.link_io.specs.Told.{takes_told}
use Rattle.link_io.specs.GivenTold.{gives_told}

-- the entry is that of this port
abbrev pub is_of : ℕ → MemPort → Bool
is_of port entry = nat_eq entry.number port

-- the first entry of a port
abbrev pub entry_of : List MemPort → ℕ → Option MemPort
entry_of [] port = None
entry_of (entry ∷ entries) port = cond (is_of port entry) (Some entry) (entry_of entries port)

-- what an entry has; where there is none, nothing was opened, came, was given or failed
abbrev pub is_there : Option MemPort → Bool
is_there None = false
is_there (Some entry) = true

abbrev pub takes_in : Option MemPort → Takes
takes_in entry = option_map_or (λ (e : MemPort). takes_told e.taken.items) entry []

abbrev pub given_in : Option MemPort → List (ℕ × List ℕ)
given_in entry = option_map_or (λ (e : MemPort). gives_told e.given.items) entry []

abbrev pub own_count : Option MemPort → ℕ
own_count entry = option_map_or (λ (e : MemPort). e.faults.own) entry 0

abbrev pub object_count : Option MemPort → ℕ
object_count entry = option_map_or (λ (e : MemPort). e.faults.objects) entry 0

-- a link was opened at the port
abbrev pub opened_of : List MemPort → ℕ → Bool
opened_of entries port = is_there (entry_of entries port)

-- the links that were opened, each with its port and its peer
abbrev pub leads_of : List MemLead → List (ℕ × List ℕ)
leads_of leads = map (λ (l : MemLead). (l.port, l.to)) leads

-- what came at the port
abbrev pub takes_of : List MemPort → ℕ → Takes
takes_of entries port = takes_in (entry_of entries port)

-- what was given at the port
abbrev pub given_of : List MemPort → ℕ → List (ℕ × List ℕ)
given_of entries port = given_in (entry_of entries port)

-- the faults of the calls that open the port, with those that no entry counts
abbrev pub own_of : Faults → List MemPort → ℕ → ℕ
own_of others entries port = counted others.own (own_count (entry_of entries port))

-- the faults of the ends of the port, with those that no entry counts
abbrev pub objects_of : Faults → List MemPort → ℕ → ℕ
objects_of others entries port = counted others.objects (object_count (entry_of entries port))
