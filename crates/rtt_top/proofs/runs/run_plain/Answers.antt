use Rattle.std.proofs.Common.{refl, inl, []}
use Rattle.command_spec.specs.declared.faults.Fault.TheVariants.{WrongWords}
use Rattle.rtt_top.specs.Outside.{outside_at, output_at}
use Rattle.rtt_top.specs.Runs.{asked_by}
use Rattle.rtt_top.proofs.Ending.{no_words, no_memory}
use Rattle.rtt_top.proofs.Plain.{is_other, none_of, only_none, words_are_plain}
use Rattle.rtt_top.proofs.runs.run_plain.Goals as goal

pub returns-in-Err-Wrong-clause-runs : goal.returns-in-Err-Wrong-clause-runs
returns-in-Err-Wrong-clause-runs g c =
    no_words (asked_by c.args.words.now) g.W.World.tells g.K.Sink.tells g.E.Sink.tells
    (outside_at g.W.World g.K.Sink c.args.world.now c.args.out.now)
    (output_at g.E.Sink c.args.err.now) (output_at g.E.Sink c.finish.new.err) c.finish.result
    WrongWords [] (c.command_of.ensures.wrong (cc (c.in-Err-Wrong.is, c.in-Err-Wrong.field-0-is))) (inl refl) c.finish.ensures.status c.finish.ensures.silent c.finish.ensures.front c.finish.ensures.told

pub returns-in-Err-NoMemory-clause-runs : goal.returns-in-Err-NoMemory-clause-runs
returns-in-Err-NoMemory-clause-runs g c =
    let finish = c.finish-in-Err-NoMemory in
    no_memory (asked_by c.args.words.now) g.W.World.tells g.K.Sink.tells g.E.Sink.tells
    (outside_at g.W.World g.K.Sink c.args.world.now c.args.out.now)
    (output_at g.E.Sink c.args.err.now) (output_at g.E.Sink finish.new.err) finish.result
    [] finish.ensures.status finish.ensures.silent finish.ensures.front finish.ensures.told

pub returns-in-Ok-clause-only : goal.returns-in-Ok-clause-only
returns-in-Ok-clause-only g c = λ other.
    only_none c.carry_out_plain.result (none_of c.carry_out_plain.result (is_other (asked_by c.args.words.now) _ _ c.carry_out_plain.ensures.plain c.in-Ok.ensures.asked other))

pub returns-in-Ok-clause-untouched : goal.returns-in-Ok-clause-untouched
returns-in-Ok-clause-untouched g c = λ other.
    let same = c.carry_out_plain.ensures.same (none_of c.carry_out_plain.result (is_other (asked_by c.args.words.now) _ _ c.carry_out_plain.ensures.plain c.in-Ok.ensures.asked other)) in
    (same.0, same.1)

pub returns-in-Err-Wrong-clause-only : goal.returns-in-Err-Wrong-clause-only
returns-in-Err-Wrong-clause-only g c = λ other.
    absurd (words_are_plain (asked_by c.args.words.now) (c.command_of.ensures.wrong (cc (c.in-Err-Wrong.is, c.in-Err-Wrong.field-0-is))) other)
