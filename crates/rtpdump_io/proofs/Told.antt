-- A fault that is none of the source is the recording's.
use Rattle.std.proofs.Common.{ℕ, List, ap}
use Rattle.std.specs.Prelude.{Err}
use Rattle.std.proofs.lemmas.Bool.{true≢false}
use Rattle.wire_spec.specs.declared.faults.DumpKind.{DumpKind}
use Rattle.wire_spec.specs.declared.faults.DumpKind.TheVariants as kinds
use Rattle.wire_spec.specs.Dump.{Recording}
use Rattle.rtpdump_io.specs.declared.items.DumpFault.{DumpFault}
use Rattle.rtpdump_io.specs.Reading.{Gives, IsFaultOf}

pub gives_fault : (fault : DumpFault) (out : List ℕ) (old new : Recording) → Gives (Err fault) out old new → IsFaultOf old fault
gives_fault fault out old new = go fault.kind
  where
    go : (kind : DumpKind) → Gives (Err (record { offset = fault.offset; kind = kind })) out old new → IsFaultOf old (record { offset = fault.offset; kind = kind })
    go kinds.NotDump g e = ap (λ (q : Recording). q.fault) g
    go kinds.BadLength g e = ap (λ (q : Recording). q.fault) g
    go kinds.EndsInside g e = ap (λ (q : Recording). q.fault) g
    go kinds.TooLong g e = ap (λ (q : Recording). q.fault) g
    go kinds.TooLarge g e = ap (λ (q : Recording). q.fault) g
    go kinds.Read g e = absurd (true≢false e)
