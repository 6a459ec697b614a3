-- What a change of one entry, or of none, makes of links in memory.
use Rattle.std.proofs.Common.{◌≡◌, ℕ, Option, Some, None, refl, ap}
use Rattle.rtt_io.specs.Counts.{counted}
use Rattle.rtt_io.specs.declared.faults.Faults.{Faults}
use Rattle.rtt_io.proofs.Keyed.{adds_to_all, adds_to_one, becomes_part, count_stays, others_stay, stays}
use Rattle.link_io.specs.declared.mem_ports.MemPort.{MemPort}
use Rattle.link_io.specs.declared.mem_links.MemLinks.{MemLinks}
use Rattle.link_io.specs.MemPorts.{entry_of, is_there, takes_in, given_in, own_count, object_count}
use Rattle.link_io.specs.Held.{SameRest, Stores, Counts}
use Rattle.link_io.proofs.Entries.{Changes, told}

module _ {K L : Type 0} (kept : Option MemPort → K) (beside : Option MemPort → L) where
  -- what is kept in the one part of an entry alone is another
  pub stores : {old new : MemLinks} {port : ℕ} {f g : MemPort} → Changes old.ports.items new.ports.items port (Some f) g → beside (Some f) ≡ beside (Some g) → f.faults ≡ g.faults → new.faults ≡ old.faults → SameRest old new → Stores (λ links p. kept (entry_of links.ports.items p)) (λ links p. beside (entry_of links.ports.items p)) port (kept (Some g)) old new
  stores {old = old} c other same others rest = record {
    stored = λ _. becomes_part told c kept;
    others = others_stay told c kept;
    same_beside = stays told c beside other;
    same_opened = stays told c is_there refl;
    same_own = λ p. rw others (count_stays told c own_count (ap (λ (x : Faults). x.own) same) old.faults.own p);
    same_objects = λ p. rw others (count_stays told c object_count (ap (λ (x : Faults). x.objects) same) old.faults.objects p);
    same_rest = rest;
  }

  pub stores_nothing : {links : MemLinks} {port : ℕ} (it : K) → entry_of links.ports.items port ≡ None → Stores (λ links p. kept (entry_of links.ports.items p)) (λ links p. beside (entry_of links.ports.items p)) port it links links
  stores_nothing it none = record {
    stored = rw none (λ h. absurd (cc));
    others = λ p h. refl;
    same_beside = λ p. refl;
    same_opened = λ p. refl;
    same_own = λ p. refl;
    same_objects = λ p. refl;
    same_rest = record { leads = refl; moment = refl; pauses = refl };
  }

-- the faults of one entry are more
pub counts_of_one : {old new : MemLinks} {port : ℕ} {f g : MemPort} (more : Faults) → Changes old.ports.items new.ports.items port (Some f) g → takes_in (Some f) ≡ takes_in (Some g) → given_in (Some f) ≡ given_in (Some g) → g.faults.own ≡ counted f.faults.own more.own → g.faults.objects ≡ counted f.faults.objects more.objects → new.faults ≡ old.faults → SameRest old new → Counts port more old new
counts_of_one {old = old} more c taken given own objects others rest = record {
  own = rw others (adds_to_one told c own_count more.own own old.faults.own);
  objects = rw others (adds_to_one told c object_count more.objects objects old.faults.objects);
  same_opened = stays told c is_there refl;
  same_taken = stays told c takes_in taken;
  same_given = stays told c given_in given;
  same_rest = rest;
}

-- the faults that no entry counts are more
pub counts_of_all : {old new : MemLinks} {port : ℕ} (more : Faults) → entry_of old.ports.items port ≡ None → new.ports ≡ old.ports → new.faults.own ≡ counted old.faults.own more.own → new.faults.objects ≡ counted old.faults.objects more.objects → SameRest old new → Counts port more old new
counts_of_all {old = old} {new = new} {port = port} more none same own objects rest = record {
  own = rw same (adds_to_all port more.own old.faults.own new.faults.own (λ p. own_count (entry_of old.ports.items p)) (rw none (λ h. absurd (cc))) own);
  objects = rw same (adds_to_all port more.objects old.faults.objects new.faults.objects (λ p. object_count (entry_of old.ports.items p)) (rw none (λ h. absurd (cc))) objects);
  same_opened = λ p. rw same refl;
  same_taken = λ p. rw same refl;
  same_given = λ p. rw same refl;
  same_rest = rest;
}
