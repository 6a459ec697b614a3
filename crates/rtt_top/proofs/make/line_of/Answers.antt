use Rattle.std.proofs.Common.{◌≡◌, ◌∙◌, ℕ, List, [], ap, length, rules, sym, subst}
use Rattle.command_spec.specs.Generated.{Generated}
use Rattle.command_spec.specs.Sums.{sums_mixed}
use Rattle.command_spec.specs.Work.{Makes}
use Rattle.command_spec.specs.declared.faults.Fault.{Fault}
use Rattle.command_spec.specs.Making.{making, makes_summary, recordings}
use Rattle.rtt_make.specs.Mades.{made_of}
use Rattle.rtt_make.proofs.Bounds.{is_made}
use Rattle.rtt_top.specs.Makings.{IsWhy}
use Rattle.rtt_top.proofs.MadeLines.{as_many, why}
use Rattle.rtt_top.proofs.make.line_of.Goals as goal

pub mix_held-requires : goal.mix_held-requires
mix_held-requires g c =
    let each : length c.in-Ok-recordings_of.inputs.items ≡ length c.in-Ok.made.conference.legs =
    as_many (made_of c.in-Ok.made) c.in-Ok-recordings_of.inputs.items (is_made c.in-Ok.made (c.args.number, c.in-Ok.ensures)).each_script c.in-Ok-recordings_of.ensures in
    search rules

pub returns-in-Err-clause-why : goal.returns-in-Err-clause-why
returns-in-Err-clause-why g c =
    subst (λ (f : Fault). IsWhy (making c.args.number) f) (sym c.fault_in_memory.ensures)
    (why c.args.number (made_of c.in-Ok.made) c.in-Ok-recordings_of.inputs.items c.in-Ok.ensures c.in-Ok-recordings_of.ensures c.in-Err.fault c.in-Err.ensures.mixes)

pub returns-clause-line : goal.returns-clause-line
returns-clause-line g c =
    let n = c.args.number in
    let made = made_of c.in-Ok.made in
    let mixed = c.in-Ok-mix_held.mixed in
    ap (λ (m : Generated). makes_summary n m (sums_mixed m.conference (recordings m))) (sym c.in-Ok.ensures)
    ∙ (ap (λ (inputs : List (List ℕ)). makes_summary n made (sums_mixed made.conference inputs)) (sym c.in-Ok-recordings_of.ensures)
    ∙ (ap (makes_summary n made) c.in-Ok-mix_held.ensures.mixes.sums ∙ ap (λ (line : List ℕ). Makes line []) (sym c.in-Ok-summary_of.ensures)))
