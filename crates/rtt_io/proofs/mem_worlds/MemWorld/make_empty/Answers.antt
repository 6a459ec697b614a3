use Rattle.std.proofs.Common.{◌∙◌, Some, ap, refl, sym, ◌≡◌, ◌++◌, ◌∷◌, [], None}
use Rattle.std.specs.List.{position}
use Rattle.rtt_io.specs.declared.faults.Faults.{Faults}
use Rattle.rtt_io.specs.Files.{is_named, own_count, object_count, octets_in}
use Rattle.rtt_io.proofs.Files.{written, unplaced, added, Changes, told}
use Rattle.rtt_io.proofs.mem_worlds.MemWorld.make_empty.Goals as goal
use Rattle.std.proofs.Math.ListN.{set}
use Rattle.rtt_io.specs.declared.mem_files.MemFile.{MemFile}
use Rattle.rtt_io.proofs.Keyed.{becomes_part, count_stays, others_stay}

-- the file of the name alone is another one
change : (c : goal.After-self-1) (file : MemFile) → file.name ≡ c.index_mut-file.result.now.name → Changes c.args.self.now.files.items (set c.args.self.now.files.items c.in-Some.at file) c.args.name.now (Some c.index_mut-file.result.now) file
change c file = written c.args.self.now.files.items c.args.name.now c.in-Some.at c.index_mut-file.result.now file (c.in-Some.ensures ∙ ap (position (is_named c.args.name.now)) c.as_slice.ensures.value) c.index_mut-file.ensures.value

pub returns-in-Some-clause-ok : goal.returns-in-Some-clause-ok
returns-in-Some-clause-ok c = becomes_part told (change c _ refl) octets_in ∙ ap Some c.clear.ensures

pub returns-in-Some-clause-others : goal.returns-in-Some-clause-others
returns-in-Some-clause-others c = others_stay told (change c _ refl) octets_in

pub returns-in-Some-clause-same_own : goal.returns-in-Some-clause-same_own
returns-in-Some-clause-same_own c = count_stays told (change c _ refl) own_count refl _

pub returns-in-Some-clause-same_objects : goal.returns-in-Some-clause-same_objects
returns-in-Some-clause-same_objects c = count_stays told (change c _ refl) object_count refl _

-- a file of the name stands behind the others
addition : (c : goal.In_ok-push) (file : MemFile) → file.name ≡ c.args.name.now → Changes c.args.self.now.files.items (c.args.self.now.files.items ++ file ∷ []) c.args.name.now None file
addition c file = added c.args.self.now.files.items c.args.name.now file (unplaced c.args.self.now.files.items c.args.name.now (c.in_default.ensures ∙ ap (position (is_named c.args.name.now)) c.as_slice.ensures.value))

pub returns-clause-ok : goal.returns-clause-ok
returns-clause-ok c = rw c.in_ok-push.ensures.items (becomes_part told (addition c _ c.in_ok-from_text.ensures) octets_in ∙ ap Some c.new.ensures)

pub returns-clause-others : goal.returns-clause-others
returns-clause-others c = rw c.in_ok-push.ensures.items (others_stay told (addition c _ c.in_ok-from_text.ensures) octets_in)

pub returns-clause-same_own : goal.returns-clause-same_own
returns-clause-same_own c = rw c.in_ok-push.ensures.items (count_stays told (addition c _ c.in_ok-from_text.ensures) own_count (sym (ap (λ (x : Faults). x.own) c.none.ensures)) _)

pub returns-clause-same_objects : goal.returns-clause-same_objects
returns-clause-same_objects c = rw c.in_ok-push.ensures.items (count_stays told (addition c _ c.in_ok-from_text.ensures) object_count (sym (ap (λ (x : Faults). x.objects) c.none.ensures)) _)
