-- What arrives out of the files of what came of a link is what came by its takes.
use Rattle.std.proofs.Common.{◌≡◌, ℕ, ◌+◌, ◌-◌, ◌≤◌, Bool, true, false, cond, eqb, Some, List, [], ◌∷◌, ◌++◌, length, map, refl, ap, sym, ◌∙◌, subst, arith}
use Rattle.std.specs.Prelude.{Result, Ok, Err, max, reverse}
use Rattle.std.specs.List.{flat_map, AllByRecursion}
use Rattle.std.proofs.lemmas.Bool.Decides.{Decides-eqb}
use Rattle.std.proofs.lemmas.List.{append-nil, map-append, reverse-append}
use Rattle.rtt_base.specs.declared.text_packets.PayloadTypes.{PayloadTypes}
use Rattle.wire_spec.specs.declared.faults.TextFault.{TextFault}
use Rattle.wire_spec.specs.Packets.{Packet, Arrival}
use Rattle.wire_spec.specs.Rtp.{rtp}
use Rattle.wire_spec.specs.Text.{short_within, text_of, text_of_short, text_within}
use Rattle.wire_spec.specs.Dump.{Whole, Rtcp, Item, Recording, latest, arrived, arrivals_with, arrivals_after, arrivals}
use Rattle.stream_spec.specs.Ready.{chunks}
use Rattle.stream_spec.specs.Still.{still}
use Rattle.command_spec.specs.Streams as sorts
use Rattle.command_spec.specs.Streams.{AreGiven, is_rtcp, is_name, stream_of, headed}
use Rattle.command_spec.proofs.ShownAsRead.{arrives_alike}
use Rattle.stream_spec.specs.Links.{Came, Datagram, Large, Quiet, Closed, Takes}
use Rattle.mixer_spec.specs.Pieces.{chunks_cut, pieces}
use Rattle.live_spec.specs.Told.{Hearing, Told, told_by, all_by}
use Rattle.live_spec.specs.ToldLaws.{Plain, plain_by, plain_packet}
use Rattle.live_spec.proofs.Unfollowed.{all_plain, unfollowed_law}
use Rattle.live_spec.specs.Recorded.{Entry, Part, Parts, part_written, has_room, with_entry, begun_with, noted, recorded}
use Rattle.live_spec.specs.Came.{datagrams, later, part_arrivals, parts_arrivals}
use Rattle.live_spec.specs.Laws.{what_is, item_in, latest_take, NeverFall, AreTakesFor, last_file}
use Rattle.live_spec.proofs.Growing.{IsGood, noted_by, recorded_good}
use Rattle.live_spec.proofs.Reading.{file_read}
use Rattle.command_spec.proofs.SentBack.{all_push}

-- ---- what is no text

module _ (ssrc : ℕ) (payload_types : PayloadTypes) where
  -- nothing arrives of it
  abbrev IsNone : List ℕ → Type 0
  IsNone octets = (t : ℕ) (past : List Arrival) → arrived t (text_of octets (Some ssrc) payload_types) past ≡ past

  by_first : (octets : List ℕ) → arrived 0 (text_of octets (Some ssrc) payload_types) [] ≡ [] → IsNone octets
  by_first octets e = λ t past. go t past (text_of octets (Some ssrc) payload_types) e
    where
      go : (t : ℕ) (past : List Arrival) (r : Result Packet TextFault) → arrived 0 r [] ≡ [] → arrived t r past ≡ past
      go t past (Err f) h = refl
      go t past (Ok p) h = absurd (cc)

  -- RTCP is none
  rtcp_is_none : AreGiven payload_types → (octets : List ℕ) → is_rtcp octets ≡ true → IsNone octets
  rtcp_is_none g octets r =
      by_first octets
      (sym (arrives_alike payload_types ssrc (record { time = 0; what = Whole octets } ∷ []) g.0 g.1)
      ∙ ap (λ (b : Bool). arrivals_after ssrc payload_types [] (cond (is_name ssrc (stream_of payload_types (cond b sorts.Rtcp (headed (rtp octets))))) (record { time = 0; what = Whole octets } ∷ []) [])) r)

  -- no octets are none
  nothing_is_none : (octets : List ℕ) → eqb (length octets) 0 ≡ true → IsNone octets
  unfolding text_within short_within rtp
  nothing_is_none [] e = λ t past. refl
  nothing_is_none (x ∷ octets) e =
      let none : length (x ∷ octets) ≡ 0 = (Decides-eqb (length (x ∷ octets)) 0).0 e in
      absurd (omega (arith, none))

  heard_alike : AreGiven payload_types → (t : ℕ) (octets : List ℕ) (past : List Arrival) → arrivals_with ssrc payload_types (record { time = t; what = what_is octets }) past ≡ arrived t (text_of octets (Some ssrc) payload_types) past
  heard_alike g t octets past = go (is_rtcp octets) refl
    where
      by_size : (c : Bool) → eqb (length octets) 0 ≡ c → arrivals_with ssrc payload_types (record { time = t; what = cond c Rtcp (Whole octets) }) past ≡ arrived t (text_of octets (Some ssrc) payload_types) past
      by_size true e = sym (nothing_is_none octets e t past)
      by_size false e = refl

      go : (b : Bool) → is_rtcp octets ≡ b → arrivals_with ssrc payload_types (record { time = t; what = cond (eqb (cond b 0 (length octets)) 0) Rtcp (Whole octets) }) past ≡ arrived t (text_of octets (Some ssrc) payload_types) past
      go true r = sym (rtcp_is_none g octets r t past)
      go false r = by_size (eqb (length octets) 0) refl

-- ---- texts, one by one

-- a text at its moment; what is none is nothing
abbrev with_text : ℕ → Result Packet TextFault → List Arrival → List Arrival
with_text t (Ok p) past = record { time = t; packet = p } ∷ past
with_text t (Err f) past = past

-- the texts among entries, which stand newest first
abbrev texts : (most ssrc : ℕ) → PayloadTypes → List Entry → List Arrival
texts most ssrc payload_types [] = []
texts most ssrc payload_types (e ∷ past) = with_text e.at (text_within most e.octets (Some ssrc) payload_types) (texts most ssrc payload_types past)

abbrev latest_entry : List Entry → ℕ
latest_entry [] = 0
latest_entry (e ∷ past) = e.at

abbrev EntriesRise : List Entry → Type 0
EntriesRise [] = Unit {0}
EntriesRise (e ∷ past) = (latest_entry past ≤ e.at) × EntriesRise past

-- none comes later than the last entry
texts_before : (ssrc : ℕ) (payload_types : PayloadTypes) (past : List Entry) → EntriesRise past → latest (texts 1023 ssrc payload_types past) ≤ latest_entry past
texts_before ssrc payload_types [] r = omega arith
texts_before ssrc payload_types (e ∷ past) r = go (text_of e.octets (Some ssrc) payload_types) (texts_before ssrc payload_types past r.1)
  where
    go : (q : Result Packet TextFault) → latest (texts 1023 ssrc payload_types past) ≤ latest_entry past → latest (with_text e.at q (texts 1023 ssrc payload_types past)) ≤ e.at
    go (Ok p) h = omega arith
    go (Err f) h = omega (arith, h, r.0)

-- ---- what was told of its SSRC

record IsTold (h : Hearing) (takes : Takes) : Type 0 where
  texts_are : (plain_by h takes).past ≡ texts h.most h.ssrc h.payload_types (datagrams takes)
  early : (plain_by h takes).moment ≤ latest_take takes

told_text : (d : Plain) (t : ℕ) (r : Result Packet TextFault) → d.moment ≤ t → ((plain_packet d t r).past ≡ with_text t r d.past) × ((plain_packet d t r).moment ≤ t)
told_text d t (Ok p) h =
    let m : max d.moment t ≡ t = omega (arith, h) in
    (ap (λ (n : ℕ). record { time = n; packet = p } ∷ d.past) m, omega (arith, h))
told_text d t (Err f) h = (refl, h)

told : (h : Hearing) (takes : Takes) → NeverFall takes → IsTold h takes
told h [] r = record { texts_are = refl; early = omega arith }
told h (a ∷ takes) r = go a.came (told h takes r.1)
  where
    go : (c : Came) → IsTold h takes → IsTold h (record { at = a.at; came = c } ∷ takes)
    go (Datagram octets) m =
        let one = told_text (plain_by h takes) a.at (text_within h.most octets (Some h.ssrc) h.payload_types) (omega (arith, m.early, r.0)) in
        record {
          texts_are = one.0 ∙ ap (λ (past : List Arrival). with_text a.at (text_within h.most octets (Some h.ssrc) h.payload_types) past) m.texts_are;
          early = one.1;
        }
    go Large m = record { texts_are = m.texts_are; early = omega (arith, m.early, r.0) }
    go Quiet m = record { texts_are = m.texts_are; early = omega (arith, m.early, r.0) }
    go Closed m = record { texts_are = m.texts_are; early = omega (arith, m.early, r.0) }

-- the datagrams' moments never fall either
record DoRise (takes : Takes) : Type 0 where
  rise : EntriesRise (datagrams takes)
  latest_is : latest_entry (datagrams takes) ≤ latest_take takes

do_rise : (takes : Takes) → NeverFall takes → DoRise takes
do_rise [] r = record { rise = tt; latest_is = omega arith }
do_rise (a ∷ takes) r = go a.came (do_rise takes r.1)
  where
    go : (c : Came) → DoRise takes → DoRise (record { at = a.at; came = c } ∷ takes)
    go (Datagram octets) d = record { rise = (omega (arith, d.latest_is, r.0), d.rise); latest_is = omega arith }
    go Large d = record { rise = d.rise; latest_is = omega (arith, d.latest_is, r.0) }
    go Quiet d = record { rise = d.rise; latest_is = omega (arith, d.latest_is, r.0) }
    go Closed d = record { rise = d.rise; latest_is = omega (arith, d.latest_is, r.0) }

-- ---- what arrives out of files

module _ (start ssrc : ℕ) (payload_types : PayloadTypes) (given : AreGiven payload_types) where
  arrive_push : (past : List Arrival) (items : List Item) (x : Item) → arrivals_after ssrc payload_types past (items ++ x ∷ []) ≡ arrivals_with ssrc payload_types x (arrivals_after ssrc payload_types past items)
  arrive_push past [] x = refl
  arrive_push past (y ∷ items) x = arrive_push (arrivals_with ssrc payload_types y past) items x

  -- out of one file
  abbrev out_of : Part → List Arrival
  out_of p = arrivals_after ssrc payload_types [] (map (item_in p.begins) p.entries)

  out_is : (p : Part) → IsGood start p → arrivals (part_written start p) ssrc payload_types ≡ out_of p
  unfolding arrivals
  out_is p g = ap (λ (r : Recording). arrivals_after ssrc payload_types [] r.items) (file_read start p g.short g.early g.small)

  out_more : (p : Part) (e : Entry) → out_of (with_entry p e) ≡ arrived (e.at - p.begins) (text_of e.octets (Some ssrc) payload_types) (out_of p)
  out_more p e =
      ap (λ (items : List Item). arrivals_after ssrc payload_types [] items) (map-append (item_in p.begins) p.entries (e ∷ []))
      ∙ arrive_push [] (map (item_in p.begins) p.entries) (item_in p.begins e)
      ∙ heard_alike ssrc payload_types given (e.at - p.begins) e.octets (out_of p)

  -- by the clock of the links
  put_on : (begins t : ℕ) (r : Result Packet TextFault) (past : List Arrival) → begins ≤ t → begins + latest past ≤ t → map (later begins) (arrived (t - begins) r past) ≡ with_text t r (map (later begins) past)
  put_on begins t (Err f) past b l = refl
  put_on begins t (Ok p) past b l =
      let m : begins + max (t - begins) (latest past) ≡ t = omega (arith, b, l) in
      ap (λ (n : ℕ). record { time = n; packet = p } ∷ map (later begins) past) m

  -- of several files
  abbrev out_of_all : Parts → List Arrival
  out_of_all ps = flat_map (λ (p : Part). map (later p.begins) (out_of p)) (ps.last ∷ reverse ps.over)

  text_append : (t : ℕ) (r : Result Packet TextFault) (xs ys : List Arrival) → with_text t r xs ++ ys ≡ with_text t r (xs ++ ys)
  text_append t (Ok p) xs ys = refl
  text_append t (Err f) xs ys = refl

  -- the greatest moment out of the last file is none behind that of all
  last_before : (begins t : ℕ) (past more : List Arrival) → begins ≤ t → latest (map (later begins) past ++ more) ≤ t → begins + latest past ≤ t
  last_before begins t [] more b l = omega (arith, b)
  last_before begins t (a ∷ past) more b l = l

  record IsOut (past : List Entry) (ps : Parts) : Type 0 where
    begun : ps.last.begins ≤ latest_entry past
    are : out_of_all ps ≡ texts 1023 ssrc payload_types past

  out_more_all : (past : List Entry) (e : Entry) (ps : Parts) → EntriesRise (e ∷ past) → IsOut past ps → IsOut (e ∷ past) (record { over = ps.over; last = with_entry ps.last e })
  out_more_all past e ps rise o =
      let r = text_of e.octets (Some ssrc) payload_types in
      let more = flat_map (λ (p : Part). map (later p.begins) (out_of p)) (reverse ps.over) in
      let begins : ps.last.begins ≤ e.at = omega (arith, o.begun, rise.0) in
      let soon : latest (out_of_all ps) ≤ e.at =
      subst (λ (xs : List Arrival). latest xs ≤ e.at) (sym o.are) (omega (arith, texts_before ssrc payload_types past rise.1, rise.0)) in
      record {
        begun = begins;
        are =
            ap (λ (xs : List Arrival). map (later ps.last.begins) xs ++ more) (out_more ps.last e)
            ∙ ap (λ (xs : List Arrival). xs ++ more) (put_on ps.last.begins e.at r (out_of ps.last) begins (last_before ps.last.begins e.at (out_of ps.last) more begins soon))
            ∙ text_append e.at r (map (later ps.last.begins) (out_of ps.last)) more
            ∙ ap (λ (xs : List Arrival). with_text e.at r xs) o.are;
      }

  out_begun_all : (past : List Entry) (e : Entry) (ps : Parts) → IsOut past ps → IsOut (e ∷ past) (record { over = ps.over ++ ps.last ∷ []; last = begun_with e })
  out_begun_all past e ps o =
      let r = text_of e.octets (Some ssrc) payload_types in
      let f : Part → List Arrival = λ p. map (later p.begins) (out_of p) in
      record {
        begun = omega arith;
        are =
            ap (λ (xs : List Arrival). map (later e.at) xs ++ flat_map f (reverse (ps.over ++ ps.last ∷ []))) (heard_alike ssrc payload_types given (e.at - e.at) e.octets [])
            ∙ ap (λ (xs : List Arrival). xs ++ flat_map f (reverse (ps.over ++ ps.last ∷ []))) (put_on e.at e.at r [] (omega arith) (omega arith))
            ∙ text_append e.at r [] (flat_map f (reverse (ps.over ++ ps.last ∷ [])))
            ∙ ap (λ (qs : List Part). with_text e.at r (flat_map f qs)) (reverse-append ps.over (ps.last ∷ []))
            ∙ ap (λ (xs : List Arrival). with_text e.at r xs) o.are;
      }

  out_noted : (past : List Entry) (e : Entry) (ps : Parts) → EntriesRise (e ∷ past) → IsOut past ps → IsOut (e ∷ past) (noted start ps e)
  out_noted past e ps rise o = go (has_room start ps.last e)
    where
      go : (b : Bool) → IsOut (e ∷ past) (noted_by b ps e)
      go true = out_more_all past e ps rise o
      go false = out_begun_all past e ps o

  out_recorded : (past : List Entry) → EntriesRise past → IsOut past (recorded start past)
  out_recorded [] rise = record { begun = omega arith; are = refl }
  out_recorded (e ∷ past) rise = out_noted past e (recorded start past) rise (out_recorded past rise.1)

  same_out : (ps : List Part) → AllByRecursion (IsGood start) ps → flat_map (part_arrivals start ssrc payload_types) ps ≡ flat_map (λ (p : Part). map (later p.begins) (out_of p)) ps
  same_out [] g = refl
  same_out (p ∷ ps) g =
      ap (λ (xs : List Arrival). map (later p.begins) xs ++ flat_map (part_arrivals start ssrc payload_types) ps) (out_is p g.0)
      ∙ ap (λ (xs : List Arrival). map (later p.begins) (out_of p) ++ xs) (same_out ps g.1)

all_reversed : {X : Type 0} (P : X → Type 0) (xs : List X) → AllByRecursion P xs → AllByRecursion P (reverse xs)
all_reversed P [] a = tt
all_reversed P (x ∷ xs) a = subst (AllByRecursion P) (sym (reverse-append (x ∷ []) xs)) (all_push P (reverse xs) x (all_reversed P xs a.1) a.0)

pub files_heard : (start : ℕ) (h : Hearing) (takes : Takes) → AreTakesFor h takes → parts_arrivals start h.ssrc h.payload_types (recorded start (datagrams takes)) ≡ (told_by h takes).past
files_heard start h takes a =
    let d = do_rise takes a.rise in
    let ps = recorded start (datagrams takes) in
    let g = recorded_good start (datagrams takes) a.short in
    same_out start h.ssrc h.payload_types a.types (ps.last ∷ reverse ps.over) (g.last, all_reversed (IsGood start) ps.over g.over)
    ∙ (out_recorded start h.ssrc h.payload_types a.types (datagrams takes) d.rise).are
    ∙ ap (λ (n : ℕ). texts n h.ssrc h.payload_types (datagrams takes)) (sym a.brief)
    ∙ sym (told h takes a.rise).texts_are
    ∙ sym (ap (λ (d : Told). d.past) (unfollowed_law h takes a.alone).told)

-- ---- one file

no_more : {X : Type 0} (xs : List X) (x : X) → xs ++ x ∷ [] ≡ [] → ⊥
no_more [] x e = cc
no_more (y ∷ xs) x e = cc

first_begins : (start : ℕ) (past : List Entry) → (recorded start past).over ≡ [] → (recorded start past).last.begins ≡ 0
first_begins start [] h = refl
first_begins start (e ∷ past) h = go (has_room start (recorded start past).last e) (first_begins start past) h
  where
    go : (b : Bool) → ((recorded start past).over ≡ [] → (recorded start past).last.begins ≡ 0) → (noted_by b (recorded start past) e).over ≡ [] → (noted_by b (recorded start past) e).last.begins ≡ 0
    go true before f = before f
    go false before f = absurd (no_more (recorded start past).over (recorded start past).last f)

no_later : (past : List Arrival) → map (later 0) past ≡ past
no_later [] = refl
no_later (a ∷ past) =
    let m : 0 + a.time ≡ a.time = omega arith in
    ap (λ (n : ℕ). record { time = n; packet = a.packet } ∷ map (later 0) past) m ∙ ap (λ (xs : List Arrival). a ∷ xs) (no_later past)

one_file : (start ssrc : ℕ) (payload_types : PayloadTypes) (ps : Parts) → ps.over ≡ [] → ps.last.begins ≡ 0 → parts_arrivals start ssrc payload_types ps ≡ arrivals (part_written start ps.last) ssrc payload_types
one_file start ssrc payload_types ps none zero =
    let f = part_arrivals start ssrc payload_types in
    ap (λ (qs : List Part). f ps.last ++ flat_map f (reverse qs)) none
    ∙ append-nil (f ps.last)
    ∙ ap (λ (n : ℕ). map (later n) (arrivals (part_written start ps.last) ssrc payload_types)) zero
    ∙ no_later (arrivals (part_written start ps.last) ssrc payload_types)

pub file_heard : (start : ℕ) (h : Hearing) (takes : Takes) → AreTakesFor h takes → (recorded start (datagrams takes)).over ≡ [] → chunks_cut (pieces h.piece) (chunks h.wait h.leg (still (arrivals (last_file start takes) h.ssrc h.payload_types)) h.ssrc) ≡ all_by h takes
file_heard start h takes a none =
    let ps = recorded start (datagrams takes) in
    ap (λ (past : List Arrival). chunks_cut (pieces h.piece) (chunks h.wait h.leg (still past) h.ssrc))
    (sym (one_file start h.ssrc h.payload_types ps none (first_begins start (datagrams takes) none)) ∙ files_heard start h takes a)
    ∙ sym (all_plain h takes a.alone)
