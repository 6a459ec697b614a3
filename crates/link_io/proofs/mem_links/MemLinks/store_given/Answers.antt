use Rattle.std.proofs.Common.{◌∙◌, ap, refl}
use Rattle.std.specs.List.{position}
use Rattle.link_io.specs.GivenTold.{gives_told}
use Rattle.link_io.specs.MemPorts.{is_of, takes_in, given_in}
use Rattle.link_io.proofs.Entries.{written, unplaced}
use Rattle.link_io.proofs.Holding.{stores, stores_nothing}
use Rattle.link_io.proofs.mem_links.MemLinks.store_given.Goals as goal

pub returns-in-Some : goal.returns-in-Some
returns-in-Some c =
    stores given_in takes_in (written c.args.self.now.ports.items c.args.port c.in-Some.at c.index_mut-entry.result.now _ (c.in-Some.ensures ∙ ap (position (is_of c.args.port)) c.as_slice.ensures.value) c.index_mut-entry.ensures.value refl) refl refl refl (record { leads = refl; moment = refl; pauses = refl })

pub returns-in_default : goal.returns-in_default
returns-in_default c =
    stores_nothing given_in takes_in (gives_told c.args.given.items) (unplaced c.args.self.now.ports.items c.args.port (c.in_default.ensures ∙ ap (position (is_of c.args.port)) c.as_slice.ensures.value))
