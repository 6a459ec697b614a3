use Rattle.std.proofs.Common.{ℕ, List, ◌++◌, map, ap, sym, ◌∙◌, subst}
use Rattle.wire_spec.specs.Dump.{sent_item}
use Rattle.rtt_show.specs.declared.views.Shape.{Shape}
use Rattle.rtpdump_io.specs.InMemory.{AreRecords}
use Rattle.rtt_show.specs.Whole.{shape_view}
use Rattle.rtt_show.proofs.Grouping.{on_ok}
use Rattle.rtt_show.proofs.Showing.{pair_shown}
use Rattle.rtt_show.proofs.views.show_group.Goals as goal

pub returns-in-Pair : goal.returns-in-Pair
returns-in-Pair c =
    let name = c.args.group.now.name in
    on_ok c.show_pair.result (λ shown records a.
    shown records (subst (λ (octets : List ℕ). AreRecords octets records) (sym c.as_slice-records.ensures) a)
    ∙ (ap (λ xs. c.args.out.now ++ xs) (pair_shown name c.ssrc_in.result c.type_in.result (map sent_item records) c.ssrc_in.ensures c.type_in.ensures)
    ∙ ap (λ (s : Shape). c.args.out.now ++ shape_view s name (map sent_item records)) (sym c.in-Pair.is)))
    c.show_pair.ensures
