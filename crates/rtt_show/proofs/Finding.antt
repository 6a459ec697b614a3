-- One record more of a recording.
use Rattle.std.proofs.Common.{◌≡◌, ℕ, suc, ◌+◌, ◌<◌, ◌≤◌, ◌^◌, Bool, true, false, cond, List, [], ◌∷◌, ◌++◌, length, refl, ap, sym, ◌∙◌, subst, arith}
use Rattle.std.specs.Prelude.{Option, None, Some, Result, Ok, Err}
use Rattle.rtt_base.specs.declared.text_packets.PayloadTypes.{PayloadTypes}
use Rattle.rtt_base.specs.declared.limits.TheConstants.{MOST_PACKET_OCTETS}
use Rattle.wire_spec.specs.declared.faults.RtpFault.{RtpFault}
use Rattle.wire_spec.specs.Rtp.{Reading, rtp}
use Rattle.wire_spec.specs.Dump.{Item, Whole, sent_item}
use Rattle.rtpdump_io.specs.InMemory.{IsRecord}
use Rattle.rtpdump_io.specs.declared.items.DumpItem.{DumpItem}
use Rattle.rtpdump_io.specs.declared.items.DumpItem.TheVariants as items
use Rattle.rtpdump_io.specs.Answers.{record_of}
use Rattle.command_spec.specs.Streams.{Sort, Headed, sort_of, sort_of_what, is_rtcp, is_same_sort, is_of_text, stream_of, pair_of, pair, headed}
use Rattle.command_spec.specs.Streams as sorts
use Rattle.command_spec.specs.Showing.{how_many}
use Rattle.command_spec.proofs.HeaderTypes.{header_read, type_read}
use Rattle.rtt_show.specs.declared.findings.Findings.{Findings}
use Rattle.rtt_show.specs.declared.findings.OtherRecord.{OtherRecord}
use Rattle.rtt_show.specs.declared.findings.OtherRecord.TheVariants.{Rtcp, Cut, Large, NoRtp}
use Rattle.rtt_show.specs.declared.groups.Groups.{Groups}
use Rattle.rtt_show.specs.Groups.{Grouped, GroupsMore}
use Rattle.rtt_show.specs.Finds.{IsFound, IsNoPacket, FindsMore, Tallies, unread_sort, one_if}
use Rattle.rtt_show.proofs.Grouping.{passed}
use Rattle.rtt_show.proofs.Surveying.{filter_more}

-- one more, or none
how_many_more : (kind : Sort) (items : List Item) (item : Item) → how_many kind (items ++ item ∷ []) ≡ how_many kind items + one_if (is_same_sort kind (sort_of item))
how_many_more kind items item = filter_more (λ i. is_same_sort kind (sort_of i)) items item ∙ go (is_same_sort kind (sort_of item))
  where
    go : (b : Bool) → cond b (suc (how_many kind items)) (how_many kind items) ≡ how_many kind items + one_if b
    go true = omega arith
    go false = omega arith

counted : (kind : Sort) (items : List Item) (item : Item) (sort : Sort) (old new : ℕ) → sort_of item ≡ sort → old ≡ how_many kind items → new ≡ old + one_if (is_same_sort kind sort) → new ≡ how_many kind (items ++ item ∷ [])
counted kind items item sort old new s e n = n ∙ (ap (λ k. k + one_if (is_same_sort kind sort)) e ∙ (ap (λ (x : Sort). how_many kind items + one_if (is_same_sort kind x)) (sym s) ∙ sym (how_many_more kind items item)))

no_stream : (payload_types : PayloadTypes) (unread : OtherRecord) → stream_of payload_types (unread_sort unread) ≡ None
no_stream payload_types Rtcp = refl
no_stream payload_types Cut = refl
no_stream payload_types Large = refl
no_stream payload_types NoRtp = refl

no_pair : (payload_types : PayloadTypes) (unread : OtherRecord) → pair_of payload_types (unread_sort unread) ≡ None
no_pair payload_types Rtcp = refl
no_pair payload_types Cut = refl
no_pair payload_types Large = refl
no_pair payload_types NoRtp = refl

groups_same : (of : Sort → Option ℕ) (limit : ℕ) (old new : Groups) (items : List Item) → new ≡ old → Grouped of limit old items → Grouped of limit new items
groups_same of limit old new items e w = subst (λ (g : Groups). Grouped of limit g items) (sym e) w

-- a record of which no packet is read
pub tallied : (old new : Findings) (item : Item) (unread : OtherRecord) → sort_of item ≡ unread_sort unread → Tallies old unread new → FindsMore old item new
tallied old new item unread s t items f =
    let sort = unread_sort unread in
    subst (λ (payload_types : PayloadTypes). IsFound (record { payload_types = payload_types; streams = new.streams; pairs = new.pairs; rtcp = new.rtcp; cut = new.cut; large = new.large; no_rtp = new.no_rtp }) (items ++ item ∷ [])) (sym t.payload_types) (record {
      streams = passed (stream_of old.payload_types) (2 ^ 32) new.streams items item (ap (stream_of old.payload_types) s ∙ no_stream old.payload_types unread) (groups_same (stream_of old.payload_types) (2 ^ 32) old.streams new.streams items t.streams f.streams);
      pairs = passed (pair_of old.payload_types) (2 ^ 39) new.pairs items item (ap (pair_of old.payload_types) s ∙ no_pair old.payload_types unread) (groups_same (pair_of old.payload_types) (2 ^ 39) old.pairs new.pairs items t.pairs f.pairs);
      rtcp = counted sorts.Rtcp items item sort old.rtcp new.rtcp s f.rtcp t.rtcp;
      cut = counted sorts.Cut items item sort old.cut new.cut s f.cut t.cut;
      large = counted sorts.Large items item sort old.large new.large s f.large t.large;
      no_rtp = counted sorts.NoRtp items item sort old.no_rtp new.no_rtp s f.no_rtp t.no_rtp;
    })

uncounted : (kind : Sort) (items : List Item) (item : Item) (header : Reading) (n : ℕ) → sort_of item ≡ Headed header → is_same_sort kind (Headed header) ≡ false → n ≡ how_many kind items → n ≡ how_many kind (items ++ item ∷ [])
uncounted kind items item header n s none e = counted kind items item (Headed header) n n s e (nothing_more ∙ ap (λ b. n + one_if b) (sym none))
  where
    nothing_more : n ≡ n + 0
    nothing_more = omega arith

-- a packet of a stream
pub of_stream : (old new : Findings) (r : ℕ × List ℕ) (header : Reading) → sort_of (sent_item r) ≡ Headed header → is_of_text old.payload_types header ≡ true → header.ssrc < 2 ^ 32 → IsRecord r
    → GroupsMore old.streams header.ssrc r new.streams → new ≡ record old { streams = new.streams } → FindsMore old (sent_item r) new
of_stream old new r header s t small is g e items f =
    let payload_types = old.payload_types in
    let item = sent_item r in
    let named : stream_of payload_types (sort_of item) ≡ Some header.ssrc = ap (stream_of payload_types) s ∙ ap (λ b. cond b (Some header.ssrc) None) t in
    let other : pair_of payload_types (sort_of item) ≡ None = ap (pair_of payload_types) s ∙ ap (λ b. cond b None (Some (pair header.ssrc header.pt))) t in
    subst (λ (x : Findings). IsFound x (items ++ item ∷ [])) (sym e) (record {
      streams = g (stream_of payload_types) (2 ^ 32) items is small named f.streams;
      pairs = passed (pair_of payload_types) (2 ^ 39) old.pairs items item other f.pairs;
      rtcp = uncounted sorts.Rtcp items item header old.rtcp s refl f.rtcp;
      cut = uncounted sorts.Cut items item header old.cut s refl f.cut;
      large = uncounted sorts.Large items item header old.large s refl f.large;
      no_rtp = uncounted sorts.NoRtp items item header old.no_rtp s refl f.no_rtp;
    })

-- a packet of a pair
pub of_pair : (old new : Findings) (r : ℕ × List ℕ) (header : Reading) → sort_of (sent_item r) ≡ Headed header → is_of_text old.payload_types header ≡ false → pair header.ssrc header.pt < 2 ^ 39 → IsRecord r
    → GroupsMore old.pairs (pair header.ssrc header.pt) r new.pairs → new ≡ record old { pairs = new.pairs } → FindsMore old (sent_item r) new
of_pair old new r header s t small is g e items f =
    let payload_types = old.payload_types in
    let item = sent_item r in
    let named : pair_of payload_types (sort_of item) ≡ Some (pair header.ssrc header.pt) = ap (pair_of payload_types) s ∙ ap (λ b. cond b None (Some (pair header.ssrc header.pt))) t in
    let other : stream_of payload_types (sort_of item) ≡ None = ap (stream_of payload_types) s ∙ ap (λ b. cond b (Some header.ssrc) None) t in
    subst (λ (x : Findings). IsFound x (items ++ item ∷ [])) (sym e) (record {
      streams = passed (stream_of payload_types) (2 ^ 32) old.streams items item other f.streams;
      pairs = g (pair_of payload_types) (2 ^ 39) items is small named f.pairs;
      rtcp = uncounted sorts.Rtcp items item header old.rtcp s refl f.rtcp;
      cut = uncounted sorts.Cut items item header old.cut s refl f.cut;
      large = uncounted sorts.Large items item header old.large s refl f.large;
      no_rtp = uncounted sorts.NoRtp items item header old.no_rtp s refl f.no_rtp;
    })

-- what a header tells
is_read : (octets : List ℕ) (header : Reading) → sort_of_what (Whole octets) ≡ Headed header → rtp octets ≡ Ok header
is_read octets header e = go (is_rtcp octets) (rtp octets) refl e
  where
    head_or : Sort → Reading
    head_or (Headed h) = h
    head_or _ = header

    go : (b : Bool) (q : Result Reading RtpFault) → rtp octets ≡ q → cond b sorts.Rtcp (headed q) ≡ Headed header → rtp octets ≡ Ok header
    go true q r m = absurd (cc)
    go false (Ok h) r m = r ∙ ap Ok (ap head_or m)
    go false (Err f) r m = absurd (cc)

-- a payload type has seven bits
pub small_pair : (octets : List ℕ) (header : Reading) → sort_of_what (Whole octets) ≡ Headed header → header.ssrc < 2 ^ 32 → pair header.ssrc header.pt < 2 ^ 39
small_pair octets header e s = omega (arith, s, type_read octets header (header_read octets header (is_read octets header e)))

-- a header has octets
pub some_octets : (octets : List ℕ) (header : Reading) → sort_of_what (Whole octets) ≡ Headed header → 0 < length octets
unfolding rtp
some_octets [] header e = absurd (cc)
some_octets (x ∷ octets) header e = omega arith

pub is_record : (at : ℕ) (octets : List ℕ) → at < 2 ^ 32 → length octets ≤ MOST_PACKET_OCTETS → IsRecord (at, octets)
is_record at octets a l = record { moment = a; fits = omega (arith, l) }

-- what is no packet is what it is, whatever octets are there
pub sort_without : (item : DumpItem) (octets : List ℕ) → IsNoPacket item → sort_of (record_of item octets) ≡ sort_of (record_of item [])
sort_without (items.Packet at) octets n = absurd (n at refl)
sort_without (items.Rtcp at) octets n = refl
sort_without (items.Cut at) octets n = refl
sort_without (items.Large at) octets n = refl
sort_without items.End octets n = refl
