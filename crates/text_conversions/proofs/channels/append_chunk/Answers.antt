use Rattle.std.proofs.Common.{◌≡◌, ◌++◌, List, ℕ, length, subst}
use Rattle.std.specs.Prelude.{OnOk}
use Rattle.std.specs.Int.{w16, to_be_bytes}
use Rattle.text_conversions.proofs.Framing.{same_time}
use Rattle.text_conversions.proofs.channels.append_chunk.Goals as goal

pub returns : goal.returns
returns c =
    let chunk = c.args.chunk.now in
    subst (λ (time : List ℕ). OnOk c.write_frame.result (c.write_frame.new.out ≡ c.args.out.now ++ (time ++ (to_be_bytes w16 (length chunk.text) ++ chunk.text)))) (same_time chunk.ready) c.write_frame.ensures.ok
