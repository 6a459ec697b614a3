use Rattle.std.proofs.Common.{◌∙◌, ap, refl, sym, ◌≡◌, ◌++◌, ◌∷◌, [], None}
use Rattle.std.specs.List.{position}
use Rattle.link_io.specs.Told.{takes_told}
use Rattle.link_io.specs.GivenTold.{gives_told}
use Rattle.rtt_io.specs.declared.faults.Faults.{Faults}
use Rattle.link_io.specs.MemPorts.{is_of, is_there, takes_in, given_in, own_count, object_count}
use Rattle.link_io.proofs.Entries.{added, placed, unplaced, stay_opened, told, Changes}
use Rattle.link_io.proofs.mem_links.MemLinks.open.Goals as goal
use Rattle.rtt_io.proofs.Keyed.{becomes_part, stays, count_stays}
use Rattle.link_io.specs.declared.mem_ports.MemPort.{MemPort}

pub returns-in-Some-clause-ok : goal.returns-in-Some-clause-ok
returns-in-Some-clause-ok c =
    placed c.args.self.now.ports.items c.args.port c.in-Some._at (c.in-Some.ensures ∙ ap (position (is_of c.args.port)) c.as_slice.ensures.value)

-- an entry of the port stands behind the others
addition : (c : goal.In_ok-push) (entry : MemPort) → entry.number ≡ c.args.port → Changes c.args.self.now.ports.items (c.args.self.now.ports.items ++ entry ∷ []) c.args.port None entry
addition c entry = added c.args.self.now.ports.items c.args.port entry (unplaced c.args.self.now.ports.items c.args.port (c.in_default.ensures ∙ ap (position (is_of c.args.port)) c.as_slice.ensures.value))

pub returns-clause-ok : goal.returns-clause-ok
returns-clause-ok c = rw c.in_ok-push.ensures.items (becomes_part told (addition c _ refl) is_there)

pub returns-clause-stay_opened : goal.returns-clause-stay_opened
returns-clause-stay_opened c = rw c.in_ok-push.ensures.items (stay_opened (addition c _ refl))

pub returns-clause-same_taken : goal.returns-clause-same_taken
returns-clause-same_taken c = rw c.in_ok-push.ensures.items (stays told (addition c _ refl) takes_in (sym (ap takes_told c.new.ensures.items)))

pub returns-clause-same_given : goal.returns-clause-same_given
returns-clause-same_given c = rw c.in_ok-push.ensures.items (stays told (addition c _ refl) given_in (sym (ap gives_told c.new-2.ensures.items)))

pub returns-clause-same_own : goal.returns-clause-same_own
returns-clause-same_own c = rw c.in_ok-push.ensures.items (count_stays told (addition c _ refl) own_count (sym (ap (λ (x : Faults). x.own) c.none.ensures)) _)

pub returns-clause-same_objects : goal.returns-clause-same_objects
returns-clause-same_objects c = rw c.in_ok-push.ensures.items (count_stays told (addition c _ refl) object_count (sym (ap (λ (x : Faults). x.objects) c.none.ensures)) _)
