use Rattle.std.proofs.Common.{◌≡◌, ◌<◌, ℕ, Some, None, List, length, get_or, ap, sym, ◌∙◌, arith}
use Rattle.std.specs.Prelude.{All}
use Rattle.command_spec.specs.Scripts.{AreLines}
use Rattle.command_spec.proofs.Generating.{IsSaid}
use Rattle.text_conversions.specs.Scripts.{sending_of}
use Rattle.text_conversions.proofs.SendLines.{script_typed}
use Rattle.rtt_make.specs.Mades.{made_of}
use Rattle.rtt_make.proofs.Bounds.{few_scripts, is_made, never_full_line, script_at}
use Rattle.rtt_make.proofs.senders.recording_of.Goals as goal

pub overflow_cast-leg : goal.overflow_cast-leg
overflow_cast-leg c = let few = few_scripts (made_of c.args.made.now) (is_made c.args.made.now c.requires.generated) in omega (arith, few, c.requires.within)

pub leg_ssrc-requires : goal.leg_ssrc-requires
leg_ssrc-requires c = let few = few_scripts (made_of c.args.made.now) (is_made c.args.made.now c.requires.generated) in omega (arith, few, c.requires.within)

pub bounds-as_slice-leg : goal.bounds-as_slice-leg
bounds-as_slice-leg c =
    let made = is_made c.args.made.now c.requires.generated in
    let a = made.each_script in
    let b = made.each_first in
    let e = ap (λ (l : List ℕ). length l) c.as_slice.ensures in
    omega (arith, a, b, e, c.requires.within)

pub send_script-requires-clause-lines : goal.send_script-requires-clause-lines
send_script-requires-clause-lines c =
    script_typed c.index-as_slice-leg.result
    (script_at (λ s. AreLines s) c.args.made.now.scripts c.as_slice-2.result.now c.args.leg c.index-as_slice-leg.result c.as_slice-2.ensures c.index-as_slice-leg.is c.requires.within
    (is_made c.args.made.now c.requires.generated).scripts)

-- A script has too little text to be full.
pub unreachable-requires : goal.unreachable-requires
unreachable-requires c =
    let made = is_made c.args.made.now c.requires.generated in
    let script = c.index-as_slice-leg.result in
    let said = script_at (λ s. All (IsSaid 0 41000) s) c.args.made.now.scripts c.as_slice-2.result.now c.args.leg script c.as_slice-2.ensures c.index-as_slice-leg.is c.requires.within made.said in
    let forty = script_at (λ s. length s ≡ 40) c.args.made.now.scripts c.as_slice-2.result.now c.args.leg script c.as_slice-2.ensures c.index-as_slice-leg.is c.requires.within made.forty in
    let cause = rw c.in-Err-Full.field-0-is at c.in-Err-Full.ensures.cause in
    let none = never_full_line (sending_of c.usual_settings-settings.result) script said forty in
    let false : Some c.in-Err-Full.field-0-0 ≡ None = sym cause ∙ none in
    cc
