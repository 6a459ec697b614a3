use Rattle.std.proofs.Common.{◌≡◌, ◌<◌, ◌≤◌, ◌+◌, Ok, ◌∙◌, sym, ap, arith, length}
use Rattle.std.proofs.lemmas.Bool.{ltb-true, ltb-false}
use Rattle.rtpdump_io.proofs.Recordings.{nothing_left, few_left, all_there, found_bad_length, found_too_large, found_end, found_too_long, found_record, record_all, nothing_all}
use Rattle.rtpdump_io.proofs.Entries.{hands_out}
use Rattle.rtpdump_io.proofs.readers.DumpReader.any_record.Goals as goal

pub returns-then-number-eq0-clause-found : goal.returns-then-number-eq0-clause-found
returns-then-number-eq0-clause-found g c = λ t.
    let eight : length c.read_full.new.buf ≡ 8 = omega arith in
    let read = c.in_ok-number.ensures in
    nothing_left _ _ _ _ _ _ (read.given t) eight (read.ended t) c.if-number-eq0.true

pub returns-then-number-lt8-clause-found : goal.returns-then-number-lt8-clause-found
returns-then-number-lt8-clause-found g c = λ t.
    let eight : length c.read_full.new.buf ≡ 8 = omega arith in
    let read = c.in_ok-number.ensures in
    few_left _ _ _ _ _ _ (read.given t) eight (read.ended t) c.if-number-eq0.false c.if-number-lt8.true

pub returns-then-is_short-clause-found : goal.returns-then-is_short-clause-found
returns-then-is_short-clause-found g c = λ t.
    let eight : length c.read_full.new.buf ≡ 8 = omega arith in
    let read = c.in_ok-number.ensures in
    found_bad_length _ _ c.from_octets-head.result.size c.from_octets-head.result.packet_size c.from_octets-head.result.time _ c.read_full.new.buf _ (all_there _ _ _ _ (read.given t) eight c.if-number-lt8.false) eight c.from_octets-head.ensures.size c.from_octets-head.ensures.packet_size c.from_octets-head.ensures.time (ltb-true _ _ (sym c.is_short.ensures ∙ c.if-is_short.true))

pub returns-then-end-from-clause-found : goal.returns-then-end-from-clause-found
returns-then-end-from-clause-found g c = λ t.
    let eight : length c.read_full.new.buf ≡ 8 = omega arith in
    let read = c.in_ok-number.ensures in
    let size : 8 ≤ c.from_octets-head.result.size = ltb-false _ _ (sym c.is_short.ensures ∙ c.if-is_short.false) in
    let large : c.args.self.now.limit < c.args.self.now.offset + c.from_octets-head.result.size = omega (arith, c.from.ensures, c.from-2.ensures) in
    found_too_large _ _ c.from_octets-head.result.size c.from_octets-head.result.packet_size c.from_octets-head.result.time _ c.read_full.new.buf _ (all_there _ _ _ _ (read.given t) eight c.if-number-lt8.false) eight c.from_octets-head.ensures.size c.from_octets-head.ensures.packet_size c.from_octets-head.ensures.time size large

pub returns-then-not-branch-clause-found : goal.returns-then-not-branch-clause-found
returns-then-not-branch-clause-found g c = λ t.
    let eight : length c.read_full.new.buf ≡ 8 = omega arith in
    let read = c.in_ok-number.ensures in
    let size : 8 ≤ c.from_octets-head.result.size = ltb-false _ _ (sym c.is_short.ensures ∙ c.if-is_short.false) in
    let fits : c.args.self.now.offset + c.from_octets-head.result.size ≤ c.args.self.now.limit = omega (arith, c.from.ensures, c.from-2.ensures) in
    rw c.body.ensures.same_offset (found_end _ _ c.from_octets-head.result.size c.from_octets-head.result.packet_size c.from_octets-head.result.time _ c.read_full.new.buf _ (all_there _ _ _ _ (read.given t) eight c.if-number-lt8.false) eight c.from_octets-head.ensures.size c.from_octets-head.ensures.packet_size c.from_octets-head.ensures.time size fits (c.in_ok-body.ensures.missing t (ap Ok c.if-not-branch.true)))

pub returns-then-is_late-clause-found : goal.returns-then-is_late-clause-found
returns-then-is_late-clause-found g c = λ t.
    let eight : length c.read_full.new.buf ≡ 8 = omega arith in
    let read = c.in_ok-number.ensures in
    let size : 8 ≤ c.from_octets-head.result.size = ltb-false _ _ (sym c.is_short.ensures ∙ c.if-is_short.false) in
    let fits : c.args.self.now.offset + c.from_octets-head.result.size ≤ c.args.self.now.limit = omega (arith, c.from.ensures, c.from-2.ensures) in
    rw c.body.ensures.same_offset (found_too_long _ _ c.from_octets-head.result.size c.from_octets-head.result.packet_size c.from_octets-head.result.time _ c.read_full.new.buf _ (all_there _ _ _ _ (read.given t) eight c.if-number-lt8.false) eight c.from_octets-head.ensures.size c.from_octets-head.ensures.packet_size c.from_octets-head.ensures.time _ size fits (c.in_ok-body.ensures.there t (ap Ok c.if-not-branch.false)) (ltb-true _ _ (sym c.is_late.ensures ∙ c.if-is_late.true)))

pub returns-clause-found : goal.returns-clause-found
returns-clause-found g c = λ t.
    let eight : length c.read_full.new.buf ≡ 8 = omega arith in
    let read = c.in_ok-number.ensures in
    let size : 8 ≤ c.from_octets-head.result.size = ltb-false _ _ (sym c.is_short.ensures ∙ c.if-is_short.false) in
    let fits : c.args.self.now.offset + c.from_octets-head.result.size ≤ c.args.self.now.limit = omega (arith, c.from.ensures, c.from-2.ensures) in
    rw c.from.ensures (found_record _ _ c.from_octets-head.result.size c.from_octets-head.result.packet_size c.from_octets-head.result.time _ c.read_full.new.buf _ (all_there _ _ _ _ (read.given t) eight c.if-number-lt8.false) eight c.from_octets-head.ensures.size c.from_octets-head.ensures.packet_size c.from_octets-head.ensures.time c.args.with_rtcp _ _ size fits (c.in_ok-body.ensures.there t (ap Ok c.if-not-branch.false)) (ltb-false _ _ (sym c.is_late.ensures ∙ c.if-is_late.false)) (c.in_ok-body.ensures.kept t (ap Ok c.if-not-branch.false)) _ c.item.ensures)

pub returns-then-number-eq0-clause-all : goal.returns-then-number-eq0-clause-all
returns-then-number-eq0-clause-all g c = λ t.
    let read = c.in_ok-number.ensures in
    nothing_all _ _ _ _ _ (read.given t) c.if-number-eq0.true

pub returns-clause-all : goal.returns-clause-all
returns-clause-all g c = λ t.
    let eight : length c.read_full.new.buf ≡ 8 = omega arith in
    let read = c.in_ok-number.ensures in
    let size : 8 ≤ c.from_octets-head.result.size = ltb-false _ _ (sym c.is_short.ensures ∙ c.if-is_short.false) in
    rw c.from.ensures (record_all _ _ _ c.read_full.new.buf _ _ (all_there _ _ _ _ (read.given t) eight c.if-number-lt8.false) eight size (c.in_ok-body.ensures.there t (ap Ok c.if-not-branch.false)))

pub returns-clause-rtcp : goal.returns-clause-rtcp
returns-clause-rtcp g c = λ t.
    let eight : length c.read_full.new.buf ≡ 8 = omega arith in
    let read = c.in_ok-number.ensures in
    let size : 8 ≤ c.from_octets-head.result.size = ltb-false _ _ (sym c.is_short.ensures ∙ c.if-is_short.false) in
    hands_out c.args.with_rtcp c.from_octets-head.result.size c.from_octets-head.result.packet_size c.from_octets-head.result.time _ c.read_full.new.buf _ _ _ (all_there _ _ _ _ (read.given t) eight c.if-number-lt8.false) eight c.from_octets-head.ensures.size size (c.in_ok-body.ensures.there t (ap Ok c.if-not-branch.false)) (c.in_ok-body.ensures.kept t (ap Ok c.if-not-branch.false)) _ c.item.ensures
