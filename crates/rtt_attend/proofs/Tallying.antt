-- What is counted of an input, record by record.
use Rattle.std.proofs.Common.{◌≡◌, ℕ, ◌+◌, ◌≤◌, ◌<◌, Bool, true, false, List, [], ◌∷◌, length, refl, ap, sym, ◌∙◌, arith}
use Rattle.std.specs.Prelude.{Some, None, Ok, filter, if◌then◌else◌, min}
use Rattle.wire_spec.specs.Dump.{Item, Recording}
use Rattle.view_spec.specs.declared.tallies.Tally.{Tally}
use Rattle.view_spec.specs.Seen.{Fate, Foreigner, NoPacket, Refused, Text, is_foreign, is_packet, is_refused, is_text, many}
use Rattle.rtpdump_io.specs.declared.items.DumpItem.{DumpItem}
use Rattle.rtpdump_io.specs.declared.items.DumpItem.TheVariants.{Packet, Rtcp, Cut, Large, End}
use Rattle.rtpdump_io.specs.declared.readers.DumpReader.{DumpReader}
use Rattle.rtpdump_io.specs.Reading.{Gives, most_answers}
use Rattle.rtt_attend.specs.Counted.{CountsFate, IsCounted, IsFew, fate_at, fate_in, one_if, untallied}
use Rattle.rtt_attend.specs.Heard.{moment_of, tally_of}
use Rattle.rtt_attend.specs.declared.inputs.Sender.{Sender}
use Rattle.rtpdump_io.proofs.Records.{most_few as few_answers}

-- ---- how many of what came have a fate
many_first : {A : Type 0} (p : Fate → Bool) (f : A → Fate) (i : A) (rest : List A) → many p f (i ∷ rest) ≡ one_if (p (f i)) + many p f rest
many_first p f i rest = go (p (f i))
  where
    go : (b : Bool) → length (if b then i ∷ filter (λ x. p (f x)) rest else filter (λ x. p (f x)) rest) ≡ (if b then 1 else 0) + length (filter (λ x. p (f x)) rest)
    go true = omega arith
    go false = omega arith

-- one more was counted
one_counted : (r : Sender) (i : Item) (old new : Tally) (now rest all : List Item) → now ≡ i ∷ rest → CountsFate (fate_at r i) old new → IsCounted r old now all → IsCounted r new rest all
one_counted r i old new now rest all e c k = record {
  came = omega (arith, c.came, k.came, many_first is_packet (fate_at r) i rest, ap (many is_packet (fate_at r)) e);
  text = omega (arith, c.text, k.text, many_first is_text (fate_at r) i rest, ap (many is_text (fate_at r)) e);
  refused = omega (arith, c.refused, k.refused, many_first is_refused (fate_at r) i rest, ap (many is_refused (fate_at r)) e);
  foreign = omega (arith, c.foreign, k.foreign, many_first is_foreign (fate_at r) i rest, ap (many is_foreign (fate_at r)) e);
}

pub item_counted : (r : Sender) (item : DumpItem) (at : ℕ) (out : List ℕ) (old new : Tally) (now next : Recording) (all : List Item) → moment_of item ≡ Some at → Gives (Ok item) out now next
    → CountsFate (fate_in r item out) old new → IsCounted r old now.items all → IsCounted r new next.items all
item_counted r (Packet t) at out old new now next all is gives c k = one_counted r _ old new now.items next.items all (ap (λ (x : Recording). x.items) gives) c k
item_counted r (Rtcp t) at out old new now next all is gives c k = one_counted r _ old new now.items next.items all (ap (λ (x : Recording). x.items) gives) c k
item_counted r (Cut t) at out old new now next all is gives c k = one_counted r _ old new now.items next.items all (ap (λ (x : Recording). x.items) gives) c k
item_counted r (Large t) at out old new now next all is gives c k = one_counted r _ old new now.items next.items all (ap (λ (x : Recording). x.items) gives) c k
item_counted r End at out old new now next all is gives c k = absurd (cc is)

-- all were counted
pub all_counted : (r : Sender) (y : Tally) (all : List Item) → IsCounted r y [] all → record y { senders = min y.text 1 } ≡ tally_of r all
all_counted r y all k =
    let came : y.came ≡ many is_packet (fate_at r) all = omega (arith, k.came) in
    let text : y.text ≡ many is_text (fate_at r) all = omega (arith, k.text) in
    let refused : y.refused ≡ many is_refused (fate_at r) all = omega (arith, k.refused) in
    let foreign : y.foreign ≡ many is_foreign (fate_at r) all = omega (arith, k.foreign) in
    cc (came, text, refused, foreign)

-- ---- few are counted
-- so few that each record that may come can be counted
pub record StayFew {S : Type 0} (reader : DumpReader S) (y : Tally) : Type 0 where
  pub came : y.came + most_answers reader ≤ 4194306
  pub text : y.text ≤ y.came
  pub refused : y.refused ≤ y.came
  pub foreign : y.foreign ≤ y.came

pub are_few : {S : Type 0} (reader : DumpReader S) (y : Tally) → StayFew reader y → IsFew y
are_few reader y few = record { came = omega (arith, few.came); text = few.text; refused = few.refused; foreign = few.foreign }

pub none_counted : {S : Type 0} (reader : DumpReader S) → StayFew reader untallied
none_counted reader = record {
  came = omega (arith, few_answers reader.stage reader.offset);
  text = omega arith;
  refused = omega arith;
  foreign = omega arith;
}

-- all are left
pub none_yet : (r : Sender) (all : List Item) → IsCounted r untallied all all
none_yet r all = record { came = omega arith; text = omega arith; refused = omega arith; foreign = omega arith }

within : (p : Fate → Bool) (f : Fate) → p NoPacket ≡ false → one_if (p f) ≤ one_if (is_packet f)
within p Text e = one_at_most (p Text)
  where
    one_at_most : (b : Bool) → (if b then 1 else 0) ≤ 1
    one_at_most true = omega arith
    one_at_most false = omega arith
within p Refused e = one_at_most (p Refused)
  where
    one_at_most : (b : Bool) → (if b then 1 else 0) ≤ 1
    one_at_most true = omega arith
    one_at_most false = omega arith
within p Foreigner e = one_at_most (p Foreigner)
  where
    one_at_most : (b : Bool) → (if b then 1 else 0) ≤ 1
    one_at_most true = omega arith
    one_at_most false = omega arith
within p NoPacket e = omega (arith, ap one_if e)

one_packet : (f : Fate) → one_if (is_packet f) ≤ 1
one_packet Text = omega arith
one_packet Refused = omega arith
one_packet Foreigner = omega arith
one_packet NoPacket = omega arith

pub stay_few : {S : Type 0} (now next : DumpReader S) (fate : Fate) (old new : Tally) → most_answers next < most_answers now → CountsFate fate old new → StayFew now old → StayFew next new
stay_few now next fate old new nearer c few = record {
  came = omega (arith, few.came, nearer, c.came, one_packet fate);
  text = omega (arith, few.text, c.text, c.came, within is_text fate refl);
  refused = omega (arith, few.refused, c.refused, c.came, within is_refused fate refl);
  foreign = omega (arith, few.foreign, c.foreign, c.came, within is_foreign fate refl);
}
