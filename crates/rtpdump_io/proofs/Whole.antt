-- a record that is nothing but a packet, of which all lies in a block
use Rattle.std.proofs.Common.{◌≡◌, ◌≢◌, ◌∙◌, ℕ, ◌+◌, ◌-◌, ◌≤◌, false, List, ◌++◌, length, take, drop, refl, sym, ap, arith, Ok, length-append, length-drop, length-take, append_assoc}
use Rattle.std.proofs.lemmas.Bool.{le-ltb, ne_eqb}
use Rattle.std.proofs.lemmas.List.{take-append-le, drop-append-le, drop-drop, take-append-drop}
use Rattle.wire_spec.specs.Dump.{dump_step}
use Rattle.rtpdump_io.specs.Input.{Passes}
use Rattle.rtpdump_io.specs.Heads.{IsWholePacket}
use Rattle.rtpdump_io.specs.Found.{found_as, kind_of, kept_of, wanted_of}
use Rattle.rtpdump_io.specs.declared.record_heads.RecordHead.{RecordHead}
use Rattle.rtpdump_io.specs.declared.items.DumpItem.TheVariants as answer
use Rattle.rtt_base.specs.declared.limits.TheConstants.{MOST_PACKET_OCTETS}
use Rattle.rtpdump_io.proofs.Recordings.{found_record, record_all}

cut : (held left : List ℕ) → held ++ left ≡ take 8 held ++ (drop 8 held ++ left)
cut held left = ap (λ (l : List ℕ). l ++ left) (sym (take-append-drop 8 held)) ∙ append_assoc (take 8 held) (drop 8 held) left

module _ (size : ℕ) (held left : List ℕ) (few : 8 ≤ size) (there : size ≤ length held) where
  sum : 8 + (size - 8) ≡ size
  sum = omega (arith, few)

  fits : size - 8 ≤ length (drop 8 held)
  fits = simp length-drop (omega (arith, few, there))

  passes : Passes (size - 8) (drop 8 held ++ left) (drop size held ++ left)
  passes = record {
    enough = omega (arith, fits, length-append (drop 8 held) left);
    rest = sym (drop-append-le (size - 8) (drop 8 held) left fits ∙ ap (λ (l : List ℕ). l ++ left) (drop-drop (size - 8) 8 held ∙ ap (λ (n : ℕ). drop n held) sum));
  }

  body_is : take (size - 8) (drop 8 held) ≡ take (size - 8) (drop 8 held ++ left)
  body_is = sym (take-append-le (size - 8) (drop 8 held) left fits)

  eight : length (take 8 held) ≡ 8
  eight = simp length-take (omega (arith, few, there))

kept_is : (packet size : ℕ) → packet ≢ 0 → packet + 8 ≡ size → packet ≤ MOST_PACKET_OCTETS → kept_of (wanted_of false packet (size - 8)) (size - 8) ≡ size - 8
kept_is packet size some all most =
    let k : size - 8 ≡ packet = omega (arith, all) in
    rw (k, ne_eqb packet 0 some, le-ltb packet packet (omega arith), le-ltb MOST_PACKET_OCTETS packet most) refl

kind_is : (packet size time : ℕ) → packet ≢ 0 → packet + 8 ≡ size → packet ≤ MOST_PACKET_OCTETS → answer.Packet time ≡ kind_of packet (size - 8) time
kind_is packet size time some all most =
    let k : size - 8 ≡ packet = omega (arith, all) in
    rw (k, ne_eqb packet 0 some, le-ltb packet packet (omega arith), le-ltb MOST_PACKET_OCTETS packet most) refl

module _ (limit byte : ℕ) (held left : List ℕ) (head : RecordHead) (w : IsWholePacket limit byte held head) where
  few_of : 8 ≤ head.size
  few_of = omega (arith, w.all)

  found : dump_step limit (record { byte = byte; rest = held ++ left }) ≡ found_as (Ok (answer.Packet head.time)) (take (head.size - 8) (drop 8 held)) (record { byte = byte + head.size; rest = drop head.size held ++ left })
  found =
      let kept = kept_is head.packet_size head.size w.some w.all w.fits in
      found_record limit byte head.size head.packet_size head.time (held ++ left) (take 8 held) (drop 8 held ++ left) (cut held left) (eight head.size held left few_of w.there) w.size w.packet_size w.time false (drop head.size held ++ left) (take (head.size - 8) (drop 8 held)) few_of w.within (passes head.size held left few_of w.there) w.early
      (body_is head.size held left few_of w.there ∙ ap (λ (n : ℕ). take n (drop 8 held ++ left)) (sym kept)) (answer.Packet head.time) (kind_is head.packet_size head.size head.time w.some w.all w.fits)

  all : byte + head.size + length (drop head.size held ++ left) ≡ byte + length (held ++ left)
  all = record_all byte head.size (held ++ left) (take 8 held) (drop 8 held ++ left) (drop head.size held ++ left) (cut held left) (eight head.size held left few_of w.there) few_of (passes head.size held left few_of w.there)

  module _ (size more : ℕ) (rest behind : List ℕ) (size_is : size ≡ head.size) (more_is : more ≡ head.size) (rest_is : rest ≡ drop size held) (behind_is : behind ≡ left) where
    -- a step finds it
    pub found_whole : (out : List ℕ) → out ≡ take (size - 8) (drop 8 held) → dump_step limit (record { byte = byte; rest = held ++ left }) ≡ found_as (Ok (answer.Packet head.time)) out (record { byte = byte + more; rest = rest ++ behind })
    found_whole out e = rw (e, rest_is, behind_is, size_is, more_is) found

    -- its octets and those behind it are all
    pub all_whole : byte + more + length (rest ++ behind) ≡ byte + length (held ++ left)
    all_whole = rw (rest_is, behind_is, size_is, more_is) all
