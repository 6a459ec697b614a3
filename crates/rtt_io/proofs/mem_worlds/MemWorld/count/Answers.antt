use Rattle.std.proofs.Common.{◌∙◌, ap, refl}
use Rattle.std.specs.List.{position}
use Rattle.rtt_io.specs.Files.{is_named}
use Rattle.rtt_io.proofs.Files.{written, unplaced}
use Rattle.rtt_io.proofs.Holding.{counts_of_one, counts_of_all}
use Rattle.rtt_io.proofs.mem_worlds.MemWorld.count.Goals as goal

pub returns-in-Some : goal.returns-in-Some
returns-in-Some c =
    let change = written c.args.self.now.files.items c.args.name.now c.in-Some.at c.index_mut-file.result.now _ (c.in-Some.ensures ∙ ap (position (is_named c.args.name.now)) c.as_slice.ensures.value) c.index_mut-file.ensures.value refl in
    counts_of_one c.args.more change refl c.and-file.ensures.own c.and-file.ensures.objects refl

pub returns-in-None : goal.returns-in-None
returns-in-None c =
    counts_of_all c.args.more (unplaced c.args.self.now.files.items c.args.name.now (c.in-None.ensures ∙ ap (position (is_named c.args.name.now)) c.as_slice.ensures.value)) refl c.and-self.ensures.own c.and-self.ensures.objects
