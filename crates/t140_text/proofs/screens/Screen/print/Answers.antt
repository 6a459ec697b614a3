use Rattle.std.proofs.Common.{◌++◌, sym, ◌∙◌, arith}
use Rattle.std.proofs.lemmas.Bool.Decides.{nat_tests}
use Rattle.t140_text.proofs.Runs.{longer_by, bells-plain, cr-plain, read_on}
use Rattle.t140_text.proofs.screens.Screen.print.Goals as goal

pub returns-in_ok-push_str : goal.returns-in_ok-push_str
returns-in_ok-push_str c rest whole r =
    let plain = c.args.plain.now in
    record {
      past = r.past ++ plain;
      holds = record {
        text = c.in_ok-push_str.ensures.bytes ∙ longer_by _ plain r.past c.requires r.holds.text;
        rung = r.holds.rung ∙ sym (bells-plain plain r.past c.requires);
        cr = sym (cr-plain plain r.past c.requires (let e = c.is_empty.ensures in let t = c.if-not-is_empty.true in grind (arith, nat_tests)));
      };
      is = read_on plain rest r.past _ c.requires r.is;
    }
