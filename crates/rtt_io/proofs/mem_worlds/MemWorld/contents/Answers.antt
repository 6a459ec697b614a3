use Rattle.std.proofs.Common.{◌≡◌, ◌∙◌, None, ap, refl}
use Rattle.std.specs.List.{position}
use Rattle.rtt_io.specs.Files.{is_named, file_of}
use Rattle.rtt_io.proofs.Files.{written, unplaced}
use Rattle.rtt_io.proofs.mem_worlds.MemWorld.contents.Goals as goal

pub returns-in_err-at : goal.returns-in_err-at
returns-in_err-at c =
    let none : file_of c.args.self.now.files.items c.args.name.now ≡ None = unplaced c.args.self.now.files.items c.args.name.now (c.in_err-at.ensures ∙ ap (position (is_named c.args.name.now)) c.as_slice.ensures.value) in
    rw (c.from_residual.ensures, none) refl

pub returns : goal.returns
returns c =
    let w = written c.args.self.now.files.items c.args.name.now c.in_ok-at.at c.index.result.now c.index.result.now (c.in_ok-at.ensures ∙ ap (position (is_named c.args.name.now)) c.as_slice.ensures.value) c.index.ensures refl in
    rw (w.was, c.as_slice-2.ensures) refl
