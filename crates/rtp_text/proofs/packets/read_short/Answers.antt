use Rattle.std.proofs.Common.{refl}
use Rattle.std.proofs.lemmas.Result.{err_from_is_err_and}
use Rattle.wire_spec.specs.Text.{short_within}
use Rattle.rtp_text.proofs.Viewing.{primary_is, redundant_is}
use Rattle.wire_spec.specs.Packets.{primary}
use Rattle.rtp_text.proofs.packets.read_short.Goals as goal

pub returns-in_err-read_rtp-clause-exact : goal.returns-in_err-read_rtp-clause-exact
unfolding short_within
returns-in_err-read_rtp-clause-exact c =
    let p = err_from_is_err_and c.from_residual.result c.from_residual.ensures.1 in
    rw (p.1, p.2, c.in_err-read_rtp.ensures) refl

pub returns-in_err-view-clause-exact : goal.returns-in_err-view-clause-exact
unfolding short_within
returns-in_err-view-clause-exact c =
    let p = err_from_is_err_and c.from_residual-in_err-view.result c.from_residual-in_err-view.ensures.1 in
    rw (p.1, p.2, c.in_ok-read_rtp.ensures, c.in_err-view.ensures) refl

pub returns-in_err-read_blocks-clause-exact : goal.returns-in_err-read_blocks-clause-exact
unfolding short_within
returns-in_err-read_blocks-clause-exact c =
    let p = err_from_is_err_and c.from_residual-in_err-read_blocks.result c.from_residual-in_err-read_blocks.ensures.1 in
    rw (p.1, p.2, c.in_ok-read_rtp.ensures, c.in_ok-view.ensures, c.in_err-read_blocks.ensures.exact) refl

pub returns-clause-exact : goal.returns-clause-exact
unfolding short_within
returns-clause-exact c =
    rw (c.in_ok-read_rtp.ensures, c.in_ok-view.ensures, c.in_ok-read_blocks.ensures.exact, redundant_is c.read_blocks.new.out (primary c.read_blocks.new.text), primary_is c.read_blocks.new.out (primary c.read_blocks.new.text), c.unwrap_or-out.ensures) refl
