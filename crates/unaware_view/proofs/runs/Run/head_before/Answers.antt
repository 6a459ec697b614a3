use Rattle.unaware_view.proofs.runs.Run.head_before.Goals as goal
use Rattle.std.proofs.Common.{◌≡◌, Bool, true, length, length-append, ap, sym, ◌∙◌, arith}
use Rattle.view_spec.specs.TextViews.{label_after}
use Rattle.mixer_spec.proofs.Texts.{label_less}
use Rattle.unaware_view.specs.Runs.{is_headed, label_room}
use Rattle.unaware_view.proofs.RunSteps.{headed_parts}

pub label-requires : goal.label-requires
label-requires c =
    let heads : is_headed c.args.self.now c.args.c ≡ true = sym c.is_headed.ensures ∙ c.if-not-is_headed.false in
    let room = ap (λ (b : Bool). label_room b c.args.name.now) (headed_parts c.args.self.now c.args.c heads).0 in
    omega (arith, room, label_less c.args.self.now.is_open c.args.name.now, c.requires)

pub returns-clause-fits : goal.returns-clause-fits
returns-clause-fits c =
    let heads : is_headed c.args.self.now c.args.c ≡ true = sym c.is_headed.ensures ∙ c.if-not-is_headed.false in
    let room = ap (λ (b : Bool). label_room b c.args.name.now) (headed_parts c.args.self.now c.args.c heads).0 in
    let out = ap length c.label.ensures in
    let sum = length-append c.args.out.now (label_after c.args.self.now.is_open c.args.name.now) in
    omega (arith, room, out, sum, label_less c.args.self.now.is_open c.args.name.now)
