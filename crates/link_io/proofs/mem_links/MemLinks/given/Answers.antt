use Rattle.std.proofs.Common.{◌∙◌, ap, refl}
use Rattle.std.specs.List.{position}
use Rattle.link_io.specs.MemPorts.{is_of}
use Rattle.link_io.proofs.Entries.{found, unplaced}
use Rattle.link_io.proofs.mem_links.MemLinks.given.Goals as goal

pub returns-in-Some : goal.returns-in-Some
returns-in-Some c = rw (found c.args.self.now.ports.items c.args.port c.in-Some.at c.index.result.now (c.in-Some.ensures ∙ ap (position (is_of c.args.port)) c.as_slice.ensures.value) c.index.ensures, c.as_slice-in-Some.ensures.value) refl

pub returns-in-None : goal.returns-in-None
returns-in-None c = rw (unplaced c.args.self.now.ports.items c.args.port (c.in-None.ensures ∙ ap (position (is_of c.args.port)) c.as_slice.ensures.value)) refl
