-- The recording is opened, split and handed back.
use Rattle.std.proofs.Common.{◌≡◌, ◌≢◌, ℕ, ◌≤◌, cond, Some, List, [], ◌∷◌, length, refl, sym, subst, ◌∙◌, arith}
use Rattle.std.specs.Prelude.{AllPairs, map, nat_lt}
use Rattle.std.proofs.lemmas.List.{get_or-map, length-map}
use Rattle.rtt_io.specs.Counts.{Rose, counted}
use Rattle.wire_spec.specs.Dump.{dump}
use Rattle.rtpdump_io.specs.declared.items.RecordingFault.{RecordingFault}
use Rattle.rtpdump_io.specs.declared.items.RecordingFault.TheVariants.{Dump, NoMemory}
use Rattle.rtpdump_io.specs.Faults.{FaultOf, IsSourceFault}
use Rattle.file_spec.specs.declared.conference_lines.LegLine.{LegLine}
use Rattle.file_spec.specs.Conference.{Conference}
use Rattle.file_spec.specs.Kept.{Differ}
use Rattle.command_spec.specs.Work.{Contents}
use Rattle.command_spec.specs.Splitting.{Trunk}
use Rattle.command_spec.specs.Cascading.{trunk_limit, trunk_of}
use Rattle.rtt_mix.proofs.Opening.{rose_behind}
use Rattle.cascade.specs.Cascades.{IsUnsplit, trunk_fault}
use Rattle.cascade.proofs.Ending.{refused_at}
use Rattle.command_spec.proofs.CascadeOutputs.{by_bool}

-- the SSRCs of the legs differ
pub ssrcs_differ : (legs : List LegLine) → AllPairs (λ a b. Differ a b) legs → AllPairs (λ a b. a ≢ b) (map (λ (leg : LegLine). leg.ssrc) legs)
ssrcs_differ [] q i j d low high = absurd (omega arith)
ssrcs_differ (x ∷ xs) q i j d low high =
    let size = length-map (x ∷ xs) (λ (leg : LegLine). leg.ssrc) in
    λ same. (q i j x low (omega (arith, size))).ssrcs
    (sym (get_or-map (λ (leg : LegLine). leg.ssrc) (x ∷ xs) i x d (omega (arith, size))) ∙ (same ∙ get_or-map (λ (leg : LegLine). leg.ssrc) (x ∷ xs) j x d (omega (arith, size))))

pub limit_fits : (c : Conference) → trunk_limit c ≤ 4194304
limit_fits c = by_bool (λ b. cond b 524288 2097152 ≤ 4194304) (nat_lt 16 (length c.legs)) (λ t. omega arith) (λ f. omega arith)

-- the count of its name rose, where its reading failed
pub risen : (old mid new : List ℕ → ℕ) (file name : List ℕ) (before after : ℕ) → ((n : List ℕ) → mid n ≡ old n) → name ≡ file → before ≡ 0 → new name ≡ counted (mid name) after
    → Rose before after → Rose (old file) (new file)
risen old mid new file name before after same named fresh added rose =
    subst (λ (n : List ℕ). Rose (old n) (new n)) named
    (rose_behind (old name) (mid name) (new name) after (omega (arith, same name)) added (subst (λ x. Rose x after) fresh rose))

-- ---- what is told of its fault
pub unsplit : (Told Call Object : Type 0) (held : Contents) (file : List ℕ) (ssrc : ℕ) (c : Conference) (octets : List ℕ) (t : Trunk) (fault : RecordingFault) → t ≡ trunk_of c ssrc → (Told → held file ≡ Some octets)
    → (IsSourceFault fault → Object) → (Told → FaultOf (dump t.limit octets) fault) → IsUnsplit Told Call Object held file c (trunk_fault fault)
unsplit Told Call Object held file ssrc c octets t (Dump fault) same there failed of =
    (refl, failed, λ none told. refused_at held file ssrc c octets t fault same (there told) (of told none))
unsplit Told Call Object held file ssrc c octets t NoMemory same there failed of = tt
