use Rattle.std.proofs.Common.{◌≡◌, sym, subst}
use Rattle.std.specs.Prelude.{OnErr, OnOk}
use Rattle.sent_log.specs.States.{HasSource, State, sent_to}
use Rattle.rtt_mix.proofs.Noting.{has_source, of_post, same_sources, sent_ok}
use Rattle.rtt_mix.proofs.logs.LogPostSink.send.Goals as goal

pub send-requires-clause-source : goal.send-requires-clause-source
send-requires-clause-source c =
    let post = c.args.post.now in
    subst (λ (log : State). HasSource log post.terminal post.source) (sym c.self.view_is) (has_source c.args.self.now post.terminal post.source c.requires.post.below c.requires.post.source)

pub returns-clause-took : goal.returns-clause-took
returns-clause-took c =
    let post = c.args.post.now in
    let text = c.as_slice-text.result.now in
    let ok = subst (λ (log : State). OnOk c.send.result (c.send.new.self ≡ sent_to post.terminal c.args.now (of_post post text) log)) c.self.view_is c.send.ensures.ok in
    sent_ok c.send.result c.args.self.now c.send.new.self c.args.now post text c.requires.post.below c.as_slice-text.ensures.value ok

pub returns-clause-sources : goal.returns-clause-sources
returns-clause-sources c =
    let post = c.args.post.now in
    let text = c.as_slice-text.result.now in
    let ok = subst (λ (log : State). OnOk c.send.result (c.send.new.self ≡ sent_to post.terminal c.args.now (of_post post text) log)) c.self.view_is c.send.ensures.ok in
    let err = subst (λ (log : State). OnErr c.send.result (c.send.new.self ≡ log)) c.self.view_is c.send.ensures.err in
    same_sources c.send.result c.args.self.now c.send.new.self post.terminal c.args.now (of_post post text) c.requires.post.below ok err
