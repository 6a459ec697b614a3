-- Facts of what is shown that more than one crate cites.
use Rattle.std.proofs.Common.{◌≡◌}
use Rattle.view_spec.specs.declared.counts.Counts.{Counts}

pub same_counts : (a b : Counts) → a.packets ≡ b.packets → a.used ≡ b.used → a.refused ≡ b.refused → a.foreign ≡ b.foreign → a ≡ b
same_counts a b p u r f = λ i. record { packets = p i; used = u i; refused = r i; foreign = f i }
