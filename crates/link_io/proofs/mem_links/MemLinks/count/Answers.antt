use Rattle.std.proofs.Common.{◌∙◌, ap, refl}
use Rattle.std.specs.List.{position}
use Rattle.link_io.specs.MemPorts.{is_of}
use Rattle.link_io.proofs.Entries.{written, unplaced}
use Rattle.link_io.proofs.Holding.{counts_of_one, counts_of_all}
use Rattle.link_io.proofs.mem_links.MemLinks.count.Goals as goal

pub returns-in-Some : goal.returns-in-Some
returns-in-Some c =
    let change = written c.args.self.now.ports.items c.args.port c.in-Some.at c.index_mut-entry.result.now _ (c.in-Some.ensures ∙ ap (position (is_of c.args.port)) c.as_slice.ensures.value) c.index_mut-entry.ensures.value refl in
    counts_of_one c.args.more change refl refl c.and-entry.ensures.own c.and-entry.ensures.objects refl (record { leads = refl; moment = refl; pauses = refl })

pub returns-in-None : goal.returns-in-None
returns-in-None c =
    counts_of_all c.args.more (unplaced c.args.self.now.ports.items c.args.port (c.in-None.ensures ∙ ap (position (is_of c.args.port)) c.as_slice.ensures.value)) refl c.and-self.ensures.own c.and-self.ensures.objects (record { leads = refl; moment = refl; pauses = refl })
