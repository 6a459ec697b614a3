use Rattle.std.proofs.Common.{List, [], ◌∷◌, ◌++◌, ap, ◌∙◌, sym, subst, Result, arith}
use Rattle.rtt_base.specs.declared.blocks.TextBlock.{TextBlock}
use Rattle.wire_spec.specs.declared.faults.RedFault.{RedFault}
use Rattle.wire_spec.specs.Packets.{primary}
use Rattle.wire_spec.specs.Steps.{Gives}
use Rattle.wire_spec.specs.Red.{blocks_at, checked}
use Rattle.rtp_text.specs.Reading.{headers_of, after_blocks}
use Rattle.rtp_text.proofs.Steps.{too_short, too_long, texts_read, after_none}
use Rattle.rtp_text.proofs.block_readers.read_texts.Goals as goal

pub returns-then-texts-older : goal.returns-then-texts-older
returns-then-texts-older c = too_short c.args.most (headers_of c.args.count c.args.headers.now) c.args.texts.now (omega (arith, c.requires.older))

pub returns-then-texts-older-2 : goal.returns-then-texts-older-2
returns-then-texts-older-2 c =
    too_long c.args.most (headers_of c.args.count c.args.headers.now) c.args.texts.now (omega (arith, c.requires.older)) (omega (arith, c.requires.older))

pub returns : goal.returns
returns c =
    let hs = headers_of c.args.count c.args.headers.now in
    let texts = c.args.texts.now in
    let same = ap (λ (front : List TextBlock). after_blocks front (checked (blocks_at hs texts))) c.requires.none ∙ after_none (checked (blocks_at hs texts))
    ∙ sym (texts_read c.args.most hs texts (omega (arith, c.requires.older)) (omega (arith, c.requires.older))) in
    subst (λ (read : Result (List TextBlock) RedFault). Gives (λ _. c.append_blocks.new.out ++ primary c.append_blocks.new.text ∷ []) c.append_blocks.result read) same c.append_blocks.ensures
