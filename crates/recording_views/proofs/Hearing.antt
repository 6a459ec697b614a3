-- A terminal that is told of the records of a recording, one after another.
use Rattle.std.proofs.Common.{◌≡◌, ℕ, ◌≤◌, List, [], ◌∷◌, ◌++◌, length, refl, ap, sym, ◌∙◌, subst, arith, ◌⊎◌, inl, inr, append-nil, append_assoc}
use Rattle.wire_spec.specs.Dump.{Item, dump, usual_limit}
use Rattle.wire_spec.specs.Dump as dumps
use Rattle.rtpdump_io.specs.declared.items.DumpItem.{DumpItem}
use Rattle.rtpdump_io.specs.declared.items.DumpItem.TheVariants.{Rtcp, End}
use Rattle.rtpdump_io.specs.declared.readers.DumpReader.{DumpReader}
use Rattle.rtpdump_io.specs.Answers.{record_of}
use Rattle.rtpdump_io.proofs.Records.{ReadSome, none_read}
use Rattle.command_spec.specs.declared.requests.ReadRequest.{ReadRequest}
use Rattle.view_spec.specs.Seen.{text_seen}
use Rattle.command_spec.specs.Reading.{read_view}
use Rattle.terminal.specs.declared.terminals.Terminal.{Terminal}
use Rattle.terminal.specs.Terminals.{reception, counts_of, IsOpen, Listens}
use Rattle.terminal.proofs.Listening.{rtcp_passed}
use Rattle.terminal.specs.Told.{AppendsTextSeen, Takes}
use Rattle.recording_views.specs.Recordings.{asked_of, HasHeard}

-- nothing came
hears_none : (t : Terminal) → Takes t [] t
hears_none t c sources came l = subst (Listens t c sources) (sym (append-nil came)) l

-- one record more
pub hears_more : (before now after : Terminal) (items : List Item) (item : Item) → Takes before items now → Takes now (item ∷ []) after → Takes before (items ++ item ∷ []) after
hears_more before now after items item h one c sources came l =
    subst (Listens after c sources) (append_assoc came items (item ∷ [])) (one c sources (came ++ items) (h c sources came l))

-- what holds of the reader and the terminal between two records
pub record Going {S : Type 0} (tells : Type 0) (left : S → List ℕ) (faults : S → ℕ) (name : S → List ℕ) (before : DumpReader S) (l : Terminal) (now : DumpReader S) (m : Terminal) : Type 0 where
  pub items : List Item
  pub read : ReadSome tells left faults name before now items
  pub open_still : IsOpen m
  pub few : (counts_of m).packets ≤ length items
  pub hears : Takes l items m

pub begins : {S : Type 0} (tells : Type 0) (left : S → List ℕ) (faults : S → ℕ) (name : S → List ℕ) (reader : DumpReader S) (t : Terminal) → IsOpen t → (counts_of t).packets ≡ 0 → Going tells left faults name reader t reader t
begins tells left faults name reader t still none = record {
  items = [];
  read = none_read tells left faults name reader;
  open_still = still;
  few = omega (arith, none);
  hears = hears_none t;
}

-- what is no packet changes nothing
no_packet : (item : DumpItem) (octets : List ℕ) → ((at : ℕ) × (item ≡ Rtcp at)) ⊎ (item ≡ End) → (record_of item octets).what ≡ dumps.Rtcp
no_packet item octets (inl (at, e)) = ap (λ (i : DumpItem). (record_of i octets).what) e
no_packet item octets (inr e) = ap (λ (i : DumpItem). (record_of i octets).what) e

pub hears_no_packet : (t : Terminal) (item : DumpItem) (octets : List ℕ) → ((at : ℕ) × (item ≡ Rtcp at)) ⊎ (item ≡ End) → Takes t (record_of item octets ∷ []) t
hears_no_packet t item octets e c sources came l = rtcp_passed t c sources came (record_of item octets) (no_packet item octets e) l

-- what was heard of a recording is seen as its view
pub view_is : (r : ReadRequest) (octets : List ℕ) → text_seen (reception (asked_of r)) r.source (dump usual_limit octets).items ≡ read_view r octets
unfolding read_view
view_is r octets = refl

-- and what is printed of it is that view
pub text_is : (r : ReadRequest) (octets : List ℕ) (t : Terminal) (old new : List ℕ) → old ≡ [] → AppendsTextSeen t old new → HasHeard r octets t → new ≡ read_view r octets
text_is r octets t old new none seen h =
    let items = (dump usual_limit octets).items in
    seen (asked_of r) r.source items h
    ∙ (ap (λ v. v ++ text_seen (reception (asked_of r)) r.source items) none ∙ view_is r octets)
