use Rattle.std.proofs.Common.{◌≡◌, ◌-◌, refl, map}
use Rattle.std.proofs.lemmas.Result.{IfOk-weaker}
use Rattle.wire_spec.specs.Dump.{sent_item}
use Rattle.rtt_show.specs.declared.losses.Losses.{Losses}
use Rattle.rtt_show.specs.Records.{OfRecords}
use Rattle.rtt_show.specs.Missed.{IsMissed, IsMissedOf}
use Rattle.rtt_show.proofs.Following.{missed_in_order}
use Rattle.rtt_show.proofs.losses.missed_of.Goals as goal

pub returns-then-spread-used : goal.returns-then-spread-used
returns-then-spread-used c = λ records a.
    let less : c.saturating_sub-above.result ≡ c.args.used - 1 = search in
    missed_in_order c.args.payload_types c.args.ssrc c.args.used c.saturating_sub-above.result c.args.spread (record { lost = c.missing.result; late = 0 }) (map sent_item records) c.if-spread-used.true less c.missing.ensures refl

pub returns : goal.returns
returns c =
    let Is : Losses → Type 0 = λ m. OfRecords c.args.records.now (IsMissed c.args.payload_types c.args.ssrc m) in
    let IsOf : Losses → Type 0 = λ m. OfRecords c.args.records.now (IsMissedOf c.args.payload_types c.args.ssrc c.args.spread c.args.used m) in
    IfOk-weaker c.strays_of.result Is IsOf (λ m h records a i u. h records a) c.strays_of.ensures
