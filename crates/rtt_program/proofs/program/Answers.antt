use Rattle.std.proofs.Common.{◌≡◌, true, IfOk, List, Result, Ok, String, Global, drop, ap, sym, subst, ◌∙◌, ℕ}
use Rattle.std.specs.Prelude.{OnErr}
use Rattle.std.specs.Process.{exit_status}
use Rattle.rtt_top.specs.Lives.{RunsCall, uses_no_link}
use Rattle.rtt_top.specs.Outside.{outside_over, output_at}
use Rattle.rtt_top.specs.Runs.{Runs, asked_by}
use Rattle.rtt_top.specs.Trials.{RunsLook, tries_no_port}
use Rattle.rtt_program.proofs.program.Goals as goal

-- what holds of the words that were run and of the status holds of the words that came and of the exit
carried : {V E : Type 0} (words : Result V E) (all : V) (asked : V → List (String Global)) (P : List (String Global) → ℕ → Type 0) (run : List (String Global)) (exit status : ℕ)
    → words ≡ Ok all → run ≡ asked all → exit ≡ status → P run status → IfOk words (λ v. P (asked v) exit)
carried words all asked P run exit status is same exits holds =
    subst (λ w. IfOk w (λ v. P (asked v) exit)) (sym is) (subst (λ items. P items exit) same (subst (P run) (sym exits) holds))

-- nothing is said of words that could not be read, where they were
not_failed : {V E : Type 0} (P : Type 0) (words : Result V E) (all : V) → words ≡ Ok all → OnErr words P
not_failed P words all is = subst (λ w. OnErr w P) (sym is) tt

pub returns : goal.returns
returns g c =
    let old = outside_over g.W.World g.K.Sink g.L.Links c.args.world.now c.args.out.now c.args.links.now in
    let run = c.run-status in
    let new = outside_over g.W.World g.K.Sink g.L.Links run.new.world run.new.out run.new.links in
    let before = output_at g.E.Sink c.args.err.now in
    let after = output_at g.E.Sink run.new.err in
    let is_run = c.after_name-words.ensures ∙ ap (λ items. drop 1 items) c.as_slice.ensures.value in
    let Carried : (List (String Global) → ℕ → Type 0) → Type 0 = λ P. P c.after_name-words.result.now run.result → IfOk c.args.words (λ all. P (drop 1 all.items) (exit_status c.exit_with-2.result)) in
    let carry : (P : List (String Global) → ℕ → Type 0) → Carried P =
    λ P. carried c.args.words c.in-Ok.all (λ all. drop 1 all.items) P c.after_name-words.result.now (exit_status c.exit_with-2.result) run.result c.in-Ok.is is_run c.exit_with-2.ensures in
    record {
      runs = carry (λ items status. Runs (asked_by items) g.W.World.tells g.K.Sink.tells g.E.Sink.tells old new before after status) run.ensures.runs;
      call = carry (λ items status. RunsCall (asked_by items) g.W.World.tells g.K.Sink.tells g.L.Links.tells old new status) run.ensures.call;
      offline = carry (λ items status. uses_no_link (asked_by items) status ≡ true → run.new.links ≡ c.args.links.now) run.ensures.offline;
      looks = carry (λ items status. RunsLook (asked_by items) g.W.World.tells g.K.Sink.tells g.P.Ports.tells (g.P.Ports.answers c.args.ports.now) (g.W.World.contents c.args.world.now)
          (output_at g.K.Sink c.args.out.now) (output_at g.K.Sink run.new.out) status) run.ensures.looks;
      untried = carry (λ items status. tries_no_port (asked_by items) ≡ true → run.new.ports ≡ c.args.ports.now) run.ensures.untried;
      let_go = run.ensures.let_go;
      no_memory = not_failed _ c.args.words c.in-Ok.all c.in-Ok.is;
      same = not_failed _ c.args.words c.in-Ok.all c.in-Ok.is;
      told = λ t. not_failed _ c.args.words c.in-Ok.all c.in-Ok.is;
    }
