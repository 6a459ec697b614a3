use Rattle.std.proofs.Common.{◌+◌, ap, sym, ◌∙◌, refl, arith}
use Rattle.std.specs.Prelude.{◌==◌, position}
use Rattle.rtt_show.specs.declared.groups.Group.{Group}
use Rattle.rtt_show.proofs.Grouping.{on_ok, grouped_at, grouped_new, grouped_other}
use Rattle.rtt_show.proofs.groups.Groups.take.Goals as goal

pub returns-in-Some-clause-more : goal.returns-in-Some-clause-more
returns-in-Some-clause-more c =
    on_ok c.add.result (λ a of limit items is small e w.
    grouped_at of limit c.args.self.now c.add.new.self items c.args.name c.in-Some.place (c.args.at, c.args.packet.now) is e
    (sym (c.in-Some.ensures ∙ ap (position (λ (group : Group). group.name == c.args.name)) c.as_slice.ensures.value)) a c.add.ensures.others w)
    c.add.ensures.added

pub returns-then-len-lt-MOST_SOURCES-clause-more :
    goal.returns-then-len-lt-MOST_SOURCES-clause-more
returns-then-len-lt-MOST_SOURCES-clause-more c =
    on_ok c.begin.result (λ b of limit items is small e w.
    grouped_new of limit c.args.self.now c.begin.new.self items c.args.name (c.args.at, c.args.packet.now) is small e
    (c.in_default.ensures ∙ ap (position (λ (group : Group). group.name == c.args.name)) c.as_slice.ensures.value) (omega (arith, c.if-len-lt-MOST_SOURCES.true, c.len.ensures)) b c.begin.ensures.others w)
    c.begin.ensures.begun

pub returns-clause-more : goal.returns-clause-more
returns-clause-more c = λ of limit items is small e w.
    grouped_other of limit c.args.self.now (record { groups = c.args.self.now.groups; others = c.args.self.now.others + 1 }) items c.args.name (c.args.at, c.args.packet.now) e
    (c.in_default.ensures ∙ ap (position (λ (group : Group). group.name == c.args.name)) c.as_slice.ensures.value) (λ l. omega (arith, l, c.if-len-lt-MOST_SOURCES.false, c.len.ensures)) refl refl w
