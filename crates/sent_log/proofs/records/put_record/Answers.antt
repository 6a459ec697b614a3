use Rattle.std.proofs.Common.{◌≡◌, ◌+◌, ◌-◌, length, refl, arith}
use Rattle.sent_log.specs.declared.records.TheConstants.{NO_HEAD}
use Rattle.sent_log.proofs.Overwriting.{record_put}
use Rattle.sent_log.proofs.records.put_record.Goals as goal

pub returns-clause-record : goal.returns-clause-record
returns-clause-record c =
    let made = c.append_packet-at.ensures.made in
    let eight : length NO_HEAD ≡ 8 = refl in
    let size : (c.len-end.result - c.len-front.result) + length c.leave_head.new.page ≡ length c.append_packet-at.new.out =
    omega (arith, c.len-front.ensures.value, c.len-end.ensures.value, c.append_packet-at.ensures.some) in
    record {
      octets = made.octets;
      at = c.append_packet-at.result;
      behind =
          record_put c.args.page.now c.leave_head.new.page c.append_packet-at.new.out c.overwrite.new.self made.octets NO_HEAD c.record_head-head.result c.len-start.result c.append_packet-at.result (c.len-end.result - c.len-front.result)
          c.leave_head.ensures.hole eight made.behind c.len-start.ensures.value c.record_head-head.ensures size c.overwrite.ensures;
      is = made.is;
    }
