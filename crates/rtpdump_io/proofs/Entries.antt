-- The records of a recording with the octets of those of RTCP, one by one.
use Rattle.std.proofs.Common.{◌≡◌, ◌∙◌, ℕ, ◌-◌, ◌≤◌, ◌&&◌, Bool, true, false, cond, nat_eq, nat_lt, List, [], ◌∷◌, ◌++◌, length, take, refl, sym, ap, subst, arith, Result, Ok, Err, IfOk, length-take}
use Rattle.std.proofs.lemmas.Bool.{le-ltb}
use Rattle.wire_spec.specs.declared.faults.DumpKind.{DumpKind}
use Rattle.wire_spec.specs.Dump.{Place, opening, size_of, dump_step}
use Rattle.wire_spec.specs.Recorded.{Entry, body_of, at_most_4224, octets_of, entries_by, entries_within, entries_at, entries_from, entries}
use Rattle.rtpdump_io.specs.Input.{Passes}
use Rattle.rtpdump_io.specs.Found.{opened_as, found_as, kind_of, kept_of, wanted_of}
use Rattle.rtpdump_io.specs.Entries.{entry_as, entries_as, HandsOutRtcp, entries_coming}
use Rattle.rtpdump_io.specs.declared.readers.Stage.{Stage}
use Rattle.rtpdump_io.specs.declared.readers.Stage.TheVariants.{Opening, Records}
use Rattle.rtpdump_io.specs.declared.items.DumpItem.{DumpItem}
use Rattle.rtpdump_io.specs.declared.items.DumpItem.TheVariants as answer
use Rattle.rtt_base.specs.declared.limits.TheConstants.{MOST_PACKET_OCTETS}
use Rattle.rtpdump_io.proofs.Recordings.{unrolls, body_is}

-- the records from a place on are the first and those behind it
unrolled : (limit : ℕ) (p : Place) → entries_at limit p ≡ entries_by (entries_at limit) p.rest (dump_step limit p)
unfolding entries_at entries_within
unrolled limit = unrolls limit (λ n. entries_within n limit) (λ more p. entries_by more p.rest) (record {
  none = λ p more. refl;
  some = λ n p. refl;
  broken = λ f g p fault. refl;
  next = λ f g p item q e. ap (λ (es : List Entry). record { item = item; octets = octets_of item.what (body_of p.rest) } ∷ es) e;
})

-- ---- one record

-- what was kept of a record of RTCP
kept_is : (k : ℕ) (v : List ℕ) → k ≤ length v → take (kept_of k k) v ≡ at_most_4224 (take k v)
kept_is k v within =
    let size : length (take k v) ≡ k = simp length-take (omega arith) in
    rw (size, le-ltb k k (omega arith)) (go (nat_lt MOST_PACKET_OCTETS k))
  where
    go : (b : Bool) → take (cond b 0 k) v ≡ cond b [] (take k v)
    go true = refl
    go false = refl

handed : (with_rtcp : Bool) (p k at : ℕ) (u v out : List ℕ) → body_of u ≡ take k v → k ≤ length v → out ≡ take (kept_of (wanted_of with_rtcp p k) k) v → HandsOutRtcp with_rtcp u out (Ok (kind_of p k at))
handed with_rtcp p k at u v out body within kept = go (nat_eq p 0) (nat_lt k p) (nat_lt MOST_PACKET_OCTETS p) kept
  where
    go : (b1 b2 b3 : Bool) → out ≡ take (kept_of (cond (b1 && with_rtcp) k p) k) v → HandsOutRtcp with_rtcp u out (Ok (cond b1 (answer.Rtcp at) (cond b2 (answer.Cut at) (cond b3 (answer.Large at) (answer.Packet at)))))
    go true b2 b3 o = λ wanted.
        let all : out ≡ take (kept_of k k) v = o ∙ ap (λ (b : Bool). take (kept_of (cond (true && b) k p) k) v) wanted in
        all ∙ kept_is k v within ∙ ap at_most_4224 (sym body)
    go false true b3 o = tt
    go false false true o = tt
    go false false false o = tt

pub hands_out : (with_rtcp : Bool) (size packet time : ℕ) (u h v w out : List ℕ) → u ≡ h ++ v → length h ≡ 8 → size ≡ size_of h → 8 ≤ size → Passes (size - 8) v w → out ≡ take (kept_of (wanted_of with_rtcp packet (size - 8)) (size - 8)) v → (item : DumpItem) → item ≡ kind_of packet (size - 8) time → HandsOutRtcp with_rtcp u out (Ok item)
hands_out with_rtcp size packet time u h v w out cut eight told large p kept item is =
    let body : body_of u ≡ take (size - 8) v = body_is 0 0 u h v cut eight (size - 8) (omega (arith, told, large)) in
    rw is (handed with_rtcp packet (size - 8) time u v out body p.enough kept)

-- ---- what a call answers

behind : (limit : ℕ) (r : Result DumpItem DumpKind) (rest out : List ℕ) (q : Place) → HandsOutRtcp true rest out r → entries_by (entries_at limit) rest (found_as r out q) ≡ entries_as r out (entries_at limit q)
behind limit (Ok (answer.Packet at)) rest out q h = refl
behind limit (Ok (answer.Rtcp at)) rest out q h = ap (λ (octets : List ℕ). entry_as (answer.Rtcp at) octets (entries_at limit q)) (sym (h refl))
behind limit (Ok (answer.Cut at)) rest out q h = refl
behind limit (Ok (answer.Large at)) rest out q h = refl
behind limit (Ok answer.End) rest out q h = refl
behind limit (Err kind) rest out q h = refl

pub entries_of : {E : Type 0} (with_rtcp : Bool) (limit : ℕ) (p q : Place) (out : List ℕ) (old new : List Entry) (r : Result (Result DumpItem DumpKind) E) → with_rtcp ≡ true → IfOk r (λ found. dump_step limit p ≡ found_as found out q) → IfOk r (λ found. HandsOutRtcp with_rtcp p.rest out found) → old ≡ entries_at limit p → new ≡ entries_at limit q → IfOk r (λ found. old ≡ entries_as found out new)
entries_of with_rtcp limit p q out old new (Ok found) wanted e h a b =
    a ∙ unrolled limit p ∙ ap (entries_by (entries_at limit) p.rest) e
    ∙ behind limit found p.rest out q (subst (λ (b : Bool). HandsOutRtcp b p.rest out found) wanted h) ∙ ap (entries_as found out) (sym b)
entries_of with_rtcp limit p q out old new (Err failed) wanted e h a b = tt

pub entries_at_records : (stage : Stage) (limit other byte : ℕ) (octets : List ℕ) → stage ≡ Records → limit ≡ other → entries_coming stage limit byte octets ≡ entries_at other (record { byte = byte; rest = octets })
entries_at_records stage limit other byte octets e l = rw (e, l) refl

from_opening : (limit : ℕ) (octets : List ℕ) (found : Result (Unit {0}) DumpKind) (p : Place) → opening octets ≡ opened_as found p → entries limit octets ≡ entries_from limit (opened_as found p)
unfolding entries
from_opening limit octets found p e = ap (entries_from limit) e

pub entries_broken : (stage : Stage) (limit offset : ℕ) (octets : List ℕ) (found : Result (Unit {0}) DumpKind) (p : Place) (kind : DumpKind) → stage ≡ Opening → opening octets ≡ opened_as found p → found ≡ Err kind → entries_coming stage limit offset octets ≡ []
entries_broken stage limit offset octets found p kind e opened is = rw e (from_opening limit octets found p opened ∙ ap (λ (f : Result (Unit {0}) DumpKind). entries_from limit (opened_as f p)) is)

pub entries_done : (stage : Stage) (limit other offset : ℕ) (octets : List ℕ) (found : Result (Unit {0}) DumpKind) (p : Place) (u : Unit {0}) → stage ≡ Opening → opening octets ≡ opened_as found p → found ≡ Ok u → other ≡ limit → entries_coming stage limit offset octets ≡ entries_at other p
entries_done stage limit other offset octets found p u e opened is l = rw (e, l) (from_opening limit octets found p opened ∙ ap (λ (f : Result (Unit {0}) DumpKind). entries_from limit (opened_as f p)) is)
