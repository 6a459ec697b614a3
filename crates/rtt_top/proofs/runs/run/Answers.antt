use Rattle.std.proofs.Common.{◌≡◌, true, true≢false, Some, [], inl, refl, ap, sym, subst, ◌∙◌}
use Rattle.command_spec.specs.declared.faults.Fault.TheVariants.{WrongWords}
use Rattle.rtt_words.specs.Commands.{checked, meaning, mixed}
use Rattle.rtt_words.specs.Words.{Check, Live, Watch}
use Rattle.rtt_top.specs.Lives.{uses_no_link}
use Rattle.rtt_top.specs.Outside.{left_by, outside_at, outside_over, output_at}
use Rattle.rtt_top.specs.Runs.{asked_by}
use Rattle.rtt_top.specs.Trials.{tries_no_port}
use Rattle.rtt_top.proofs.Ending.{no_words, no_memory}
use Rattle.rtt_top.proofs.Linked.{failed_call, no_call, no_words_call, other_is_no_check, other_is_not_live, runs_linked}
use Rattle.rtt_top.proofs.Living.{runs_call, runs_served}
use Rattle.rtt_top.proofs.Trying.{failed_untold, look_of, other_untold, wrong_untold}
use Rattle.rtt_top.proofs.runs.run.Goals as goal

pub returns-in-Err-Wrong-clause-runs : goal.returns-in-Err-Wrong-clause-runs
returns-in-Err-Wrong-clause-runs g c =
    no_words (asked_by c.args.words.now) g.W.World.tells g.K.Sink.tells g.E.Sink.tells
    (outside_over g.W.World g.K.Sink g.L.Links c.args.world.now c.args.out.now c.args.links.now)
    (output_at g.E.Sink c.args.err.now) (output_at g.E.Sink c.finish.new.err) c.finish.result
    WrongWords [] (c.command_of.ensures.wrong (cc (c.in-Err-Wrong.is, c.in-Err-Wrong.field-0-is))) (inl refl) c.finish.ensures.status c.finish.ensures.silent c.finish.ensures.front c.finish.ensures.told

pub returns-in-Err-Wrong-clause-call : goal.returns-in-Err-Wrong-clause-call
returns-in-Err-Wrong-clause-call g c =
    let here = outside_over g.W.World g.K.Sink g.L.Links c.args.world.now c.args.out.now c.args.links.now in
    no_words_call (asked_by c.args.words.now) g.W.World.tells g.K.Sink.tells g.L.Links.tells here here c.finish.result
    (c.command_of.ensures.wrong (cc (c.in-Err-Wrong.is, c.in-Err-Wrong.field-0-is)))

pub returns-in-Err-Wrong-clause-looks : goal.returns-in-Err-Wrong-clause-looks
returns-in-Err-Wrong-clause-looks g c =
    let here = output_at g.K.Sink c.args.out.now in
    wrong_untold g.W.World.tells g.K.Sink.tells g.P.Ports.tells (g.P.Ports.answers c.args.ports.now) (g.W.World.contents c.args.world.now) here here c.finish.result
    (asked_by c.args.words.now) (c.command_of.ensures.wrong (cc (c.in-Err-Wrong.is, c.in-Err-Wrong.field-0-is)))

pub returns-in-Err-NoMemory-clause-looks : goal.returns-in-Err-NoMemory-clause-looks
returns-in-Err-NoMemory-clause-looks g c =
    let here = output_at g.K.Sink c.args.out.now in
    let finish = c.finish-in-Err-NoMemory in
    failed_untold g.W.World.tells g.K.Sink.tells g.P.Ports.tells (g.P.Ports.answers c.args.ports.now) (g.W.World.contents c.args.world.now) here here finish.result
    (asked_by c.args.words.now) finish.ensures.status

pub returns-in-Err-NoMemory-clause-runs : goal.returns-in-Err-NoMemory-clause-runs
returns-in-Err-NoMemory-clause-runs g c =
    let finish = c.finish-in-Err-NoMemory in
    no_memory (asked_by c.args.words.now) g.W.World.tells g.K.Sink.tells g.E.Sink.tells
    (outside_over g.W.World g.K.Sink g.L.Links c.args.world.now c.args.out.now c.args.links.now)
    (output_at g.E.Sink c.args.err.now) (output_at g.E.Sink finish.new.err) finish.result
    [] finish.ensures.status finish.ensures.silent finish.ensures.front finish.ensures.told

pub returns-in-Err-NoMemory-clause-call : goal.returns-in-Err-NoMemory-clause-call
returns-in-Err-NoMemory-clause-call g c =
    let here = outside_over g.W.World g.K.Sink g.L.Links c.args.world.now c.args.out.now c.args.links.now in
    let finish = c.finish-in-Err-NoMemory in
    failed_call (asked_by c.args.words.now) g.W.World.tells g.K.Sink.tells g.L.Links.tells here finish.result finish.ensures.status

pub returns-in-Live : goal.returns-in-Live
returns-in-Live g c =
    let call = c.serve_file in
    let old = outside_over g.W.World g.K.Sink g.L.Links c.args.world.now c.args.out.now c.args.links.now in
    let new = outside_over g.W.World g.K.Sink g.L.Links call.new.world call.new.out call.new.links in
    let m = mixed c.in-Live.call in
    let is : asked_by c.args.words.now ≡ Some (Live m) = c.in-Ok.ensures.asked ∙ ap (λ k. Some (meaning k)) c.in-Live.is in
    record {
      runs = runs_served (Live m) is refl (λ name ending ends. ends) call.ensures.ends;
      call = runs_call (asked_by c.args.words.now) (Live m) g.W.World.tells g.K.Sink.tells g.L.Links.tells old new call.result is (record { served = call.ensures.served; given_up = call.ensures.given_up });
      offline = λ none. call.ensures.offline (subst (λ w. uses_no_link w call.result ≡ true) is none);
      looks = look_of g.W.World.tells g.K.Sink.tells g.P.Ports.tells (g.P.Ports.answers c.args.ports.now) (g.W.World.contents c.args.world.now) (output_at g.K.Sink c.args.out.now) (output_at g.K.Sink call.new.out) call.result (asked_by c.args.words.now) (Live m) is tt;
      untried = λ none. refl;
      let_go = λ none. none;
    }

pub returns-in-Watch : goal.returns-in-Watch
returns-in-Watch g c =
    let call = c.serve_file-in-Watch in
    let old = outside_over g.W.World g.K.Sink g.L.Links c.args.world.now c.args.out.now c.args.links.now in
    let new = outside_over g.W.World g.K.Sink g.L.Links call.new.world call.new.out call.new.links in
    let m = mixed c.in-Watch.call in
    let is : asked_by c.args.words.now ≡ Some (Watch m) = c.in-Ok.ensures.asked ∙ ap (λ k. Some (meaning k)) c.in-Watch.is in
    record {
      runs = runs_served (Watch m) is refl (λ name ending ends. ends) call.ensures.ends;
      call = runs_call (asked_by c.args.words.now) (Watch m) g.W.World.tells g.K.Sink.tells g.L.Links.tells old new call.result is (record { served = call.ensures.served; given_up = call.ensures.given_up });
      offline = λ none. call.ensures.offline (subst (λ w. uses_no_link w call.result ≡ true) is none);
      looks = look_of g.W.World.tells g.K.Sink.tells g.P.Ports.tells (g.P.Ports.answers c.args.ports.now) (g.W.World.contents c.args.world.now) (output_at g.K.Sink c.args.out.now) (output_at g.K.Sink call.new.out) call.result (asked_by c.args.words.now) (Watch m) is tt;
      untried = λ none. refl;
      let_go = λ none. none;
    }

pub returns-in_default : goal.returns-in_default
returns-in_default g c =
    let command = c.in-Ok.command in
    let done = c.carry_out in
    let off = other_is_not_live command c.in_default.not-Live c.in_default.not-Watch in
    let links = left_by g.L.Links c.args.links.now in
    let old = outside_at g.W.World g.K.Sink c.args.world.now c.args.out.now in
    let new = outside_at g.W.World g.K.Sink done.new.world done.new.out in
    record {
      runs = runs_linked (asked_by c.args.words.now) (meaning command) g.W.World.tells g.K.Sink.tells g.E.Sink.tells old new links links (output_at g.E.Sink c.args.err.now) (output_at g.E.Sink done.new.err)
          done.result c.in-Ok.ensures.asked off done.ensures;
      call = no_call (asked_by c.args.words.now) (meaning command) g.W.World.tells g.K.Sink.tells g.L.Links.tells (outside_over g.W.World g.K.Sink g.L.Links c.args.world.now c.args.out.now c.args.links.now)
          (outside_over g.W.World g.K.Sink g.L.Links done.new.world done.new.out c.args.links.now) done.result c.in-Ok.ensures.asked off;
      offline = λ e. refl;
      looks = look_of g.W.World.tells g.K.Sink.tells g.P.Ports.tells (g.P.Ports.answers c.args.ports.now) (g.W.World.contents c.args.world.now) (output_at g.K.Sink c.args.out.now) (output_at g.K.Sink done.new.out) done.result (asked_by c.args.words.now) (meaning command) c.in-Ok.ensures.asked
          (other_untold g.W.World.tells g.K.Sink.tells g.P.Ports.tells (g.P.Ports.answers c.args.ports.now) (g.W.World.contents c.args.world.now) (output_at g.K.Sink c.args.out.now) (output_at g.K.Sink done.new.out) done.result (meaning command) (other_is_no_check command c.in_default.not-Check));
      untried = λ e. refl;
      let_go = λ e. e;
    }

pub returns-in-Check : goal.returns-in-Check
returns-in-Check g c =
    let done = c.run_check in
    let w = checked c.in-Check.words in
    let is : asked_by c.args.words.now ≡ Some (Check w) = c.in-Ok.ensures.asked ∙ ap (λ k. Some (meaning k)) c.in-Check.is in
    let links = left_by g.L.Links c.args.links.now in
    let old = outside_at g.W.World g.K.Sink c.args.world.now c.args.out.now in
    let new = outside_at g.W.World g.K.Sink done.new.world done.new.out in
    record {
      runs = runs_linked (asked_by c.args.words.now) (Check w) g.W.World.tells g.K.Sink.tells g.E.Sink.tells old new links links (output_at g.E.Sink c.args.err.now) (output_at g.E.Sink done.new.err)
          done.result is refl done.ensures.runs;
      call = no_call (asked_by c.args.words.now) (Check w) g.W.World.tells g.K.Sink.tells g.L.Links.tells (outside_over g.W.World g.K.Sink g.L.Links c.args.world.now c.args.out.now c.args.links.now)
          (outside_over g.W.World g.K.Sink g.L.Links done.new.world done.new.out c.args.links.now) done.result is refl;
      offline = λ e. refl;
      looks = look_of g.W.World.tells g.K.Sink.tells g.P.Ports.tells (g.P.Ports.answers c.args.ports.now) (g.W.World.contents c.args.world.now) (output_at g.K.Sink c.args.out.now) (output_at g.K.Sink done.new.out) done.result (asked_by c.args.words.now) (Check w) is done.ensures.looks;
      untried = λ e. absurd (true≢false (sym e ∙ ap tries_no_port is));
      let_go = done.ensures.let_go;
    }
