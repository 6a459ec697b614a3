use Rattle.std.proofs.Common.{◌≡◌, ℕ, List, length, IfOk, map, lit<, rules, tests, eqb}
use Rattle.std.specs.Prelude.{not}
use Rattle.file_spec.specs.Lines.{words}
use Rattle.std.proofs.lemmas.Iterator.Consumers.{map_from_collect, YieldsList-from_filter}
use Rattle.std.proofs.lemmas.Iterator.Splits.{YieldsList-from_str_split}
use Rattle.conf_text.proofs.conference_reader.words_of.Goals as goal

pub returns-in-Ok : goal.returns-in-Ok
returns-in-Ok c =
    let all : IfOk c.collect.result (λ w. map (λ x. x.now) w.items ≡ words c.args.line.now) = map_from_collect _ c.collect.ensures.ran
    (YieldsList-from_filter _ (λ (w : List ℕ). not (eqb (length w) 0)) (YieldsList-from_str_split 32 c.args.line.now (lit< tt) (cc) (cc) (cc)) c.filter.ensures.closure (λ x b q k. search (rules, tests))) in
    rw c.in-Ok.is at all
