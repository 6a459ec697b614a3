use Rattle.std.proofs.Common.{◌∙◌, ap, refl}
use Rattle.std.specs.List.{position}
use Rattle.rtt_io.specs.Files.{is_named}
use Rattle.rtt_io.proofs.Files.{written, unplaced}
use Rattle.rtt_io.proofs.Holding.{stores, stores_nothing}
use Rattle.rtt_io.proofs.mem_worlds.MemWorld.store.Goals as goal

pub returns-in-Some : goal.returns-in-Some
returns-in-Some c =
    stores (written c.args.self.now.files.items c.args.name.now c.in-Some.at c.index_mut-file.result.now _ (c.in-Some.ensures ∙ ap (position (is_named c.args.name.now)) c.as_slice.ensures.value) c.index_mut-file.ensures.value refl) refl refl

pub returns-in_default : goal.returns-in_default
returns-in_default c =
    stores_nothing c.args.octets (unplaced c.args.self.now.files.items c.args.name.now (c.in_default.ensures ∙ ap (position (is_named c.args.name.now)) c.as_slice.ensures.value))
