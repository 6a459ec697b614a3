use Rattle.std.proofs.Common.{◌≡◌, ℕ, List, [], ◌∷◌, ◌++◌, length, Result, Ok, Err, ap, ◌∙◌, arith, rules}
use Rattle.std.specs.Prelude.{IsOk, OnOk}
use Rattle.rtt_base.specs.declared.blocks.TextBlock.{TextBlock}
use Rattle.wire_spec.specs.Packets.{primary}
use Rattle.rtp_text.proofs.Steps.{block_refused, block_taken}
use Rattle.rtp_text.proofs.block_readers.put_primary.Goals as goal

on_ok : {T E P : Type 0} (r : Result T E) → IsOk r → OnOk r P → P
on_ok (Ok x) i p = p
on_ok (Err x) i p = absurd (search (rules, i))

pub returns-then-not-passes : goal.returns-then-not-passes
returns-then-not-passes c = λ front. block_refused front 0 c.args.text.now c.if-not-passes.ensures

pub returns : goal.returns
returns c =
    let put : c.append.new.self ≡ c.args.text.now =
    on_ok c.append.result (c.append.ensures.room.1 (omega (arith, c.requires.fits, ap (λ (l : List ℕ). length l) c.clear.ensures))) c.append.ensures.ok ∙ ap (λ (l : List ℕ). l ++ c.args.text.now) c.clear.ensures in
    λ front. block_taken front 0 c.args.text.now (front ++ primary c.append.new.self ∷ []) c.if-not-passes.ensures (ap (λ (t : List ℕ). front ++ primary t ∷ []) put)
