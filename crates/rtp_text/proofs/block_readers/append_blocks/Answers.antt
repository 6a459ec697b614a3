use Rattle.std.proofs.Common.{◌≡◌, ℕ, List, [], ◌∷◌, ◌++◌, Result, Ok, length, length-drop, take, drop, ap, subst, ◌∙◌, arith}
use Rattle.std.proofs.lemmas.List.{take_rest}
use Rattle.std.proofs.lemmas.Str.{IsAscii-drop}
use Rattle.rtt_base.specs.declared.blocks.TextBlock.{TextBlock}
use Rattle.wire_spec.specs.declared.faults.RedFault.{RedFault}
use Rattle.wire_spec.specs.Packets.{primary}
use Rattle.wire_spec.specs.Steps.{Gives}
use Rattle.rtp_text.specs.Reading.{after_block}
use Rattle.rtp_text.proofs.Steps.{next_block, next_size, block_length, primary_last}
use Rattle.rtp_text.proofs.block_readers.append_blocks.Goals as goal

pub loop-left-preserved : goal.loop-left-preserved
loop-left-preserved c =
    let i = c.loop-left.invariant in
    let left = c.loop-left.left in
    let heads = c.loop-left.ahead.now in
    let rest = c.loop-left.rest.now in
    let h = c.redundant_header-header.result in
    let some = c.loop-left-test.true in
    let is = c.redundant_header-header.ensures.value in
    let text : c.split_at.result.0.now ≡ take h.size rest = c.split_at.ensures.front ∙ ap (λ (n : ℕ). take n rest) c.from.ensures in
    let back : c.split_at.result.1.now ≡ drop h.size rest = c.split_at.ensures.back ∙ ap (λ (n : ℕ). drop n rest) c.from.ensures in
    let taken = subst (λ (t : List ℕ). after_block c.loop-left.out h.offset t ≡ Ok c.append_block.new.out) text c.in_ok-append_block.ensures in
    let size = next_size left heads h some is in
    let gone = ap (λ (l : List ℕ). length l) back in
    record {
      read = rw (take_rest heads 4, back) (next_block left c.loop-left.out c.append_block.new.out heads rest h _ some is taken i.read);
      plain = λ p. rw back (IsAscii-drop rest h.size (i.plain p));
      room = omega (arith, i.room, some, block_length c.loop-left.out c.append_block.new.out h.offset (take h.size rest) taken);
      ahead = rw (take_rest heads 4) (omega (arith, i.ahead, some, length-drop 4 heads));
      there = rw (take_rest heads 4) (omega (arith, size, i.there, gone, length-drop h.size rest));
      fits = rw (take_rest heads 4) (omega (arith, size, i.there, i.fits, gone, length-drop h.size rest));
    }

pub returns : goal.returns
returns c =
    let none : c.loop-left.left ≡ 0 = omega (arith, c.loop-left-test.false) in
    subst (λ (read : Result (List TextBlock) RedFault). Gives (λ _. c.loop-left.out ++ primary c.put_primary.new.out ∷ []) c.put_primary.result read)
    (primary_last c.loop-left.left c.loop-left.out c.loop-left.ahead.now c.loop-left.rest.now none ∙ c.loop-left.invariant.read) (c.put_primary.ensures c.loop-left.out)
