use Rattle.std.proofs.Math.Logic.{∥∥₁_map}
use Rattle.std.proofs.lemmas.Str.{is_utf8-from_IsUtf8}
use Rattle.stream_spec.specs.Ready.{chunk_of}
use Rattle.example_gateway.proofs.Ears.{gave_giving}
use Rattle.example_gateway.proofs.legs.Leg.listen.Goals as goal

pub invariant_of-self : goal.invariant_of-self
invariant_of-self c =
    let e = c.next-self.ensures in
    let chunk = c.next-self.new.chunk in
    record {
      giving = ∥∥₁_map c.args.self.now.giving (gave_giving c.args.self.now.ear c.next-self.new.self (chunk_of chunk) c.next-self.result e.some e.none);
      text = λ there. is_utf8-from_IsUtf8 chunk.text (e.utf8 there);
    }
