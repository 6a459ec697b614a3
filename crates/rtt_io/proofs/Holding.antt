-- What a change of one file, or of none, makes of a world.
use Rattle.std.proofs.Common.{◌≡◌, ℕ, List, Some, None, refl, sym, ap}
use Rattle.rtt_io.specs.Counts.{counted}
use Rattle.rtt_io.specs.declared.faults.Faults.{Faults}
use Rattle.rtt_io.specs.declared.mem_files.MemFile.{MemFile}
use Rattle.rtt_io.specs.declared.mem_worlds.MemWorld.{MemWorld}
use Rattle.rtt_io.specs.Files.{file_of, own_count, object_count, octets_in}
use Rattle.rtt_io.specs.Worlds.{Stores, Counts}
use Rattle.rtt_io.proofs.Files.{Changes, told}
use Rattle.rtt_io.proofs.Keyed.{adds_to_all, adds_to_one, becomes_part, count_stays, others_stay, stays}

pub stores : {old new : MemWorld} {name : List ℕ} {f g : MemFile} → Changes old.files.items new.files.items name (Some f) g → f.faults ≡ g.faults → new.faults ≡ old.faults → Stores name g.octets old new
stores {old = old} c same others = record {
  stored = λ _. becomes_part told c octets_in;
  others = others_stay told c octets_in;
  same_own = λ n. rw others (count_stays told c own_count (ap (λ (x : Faults). x.own) same) old.faults.own n);
  same_objects = λ n. rw others (count_stays told c object_count (ap (λ (x : Faults). x.objects) same) old.faults.objects n);
}

pub stores_nothing : {world : MemWorld} {name : List ℕ} (octets : List ℕ) → file_of world.files.items name ≡ None → Stores name octets world world
stores_nothing octets none = record {
  stored = rw none (λ h. absurd (cc));
  others = λ n h. refl;
  same_own = λ n. refl;
  same_objects = λ n. refl;
}

pub counts_of_one : {old new : MemWorld} {name : List ℕ} {f g : MemFile} (more : Faults) → Changes old.files.items new.files.items name (Some f) g → g.octets ≡ f.octets → g.faults.own ≡ counted f.faults.own more.own → g.faults.objects ≡ counted f.faults.objects more.objects → new.faults ≡ old.faults → Counts name more old new
counts_of_one {old = old} more c same own objects others = record {
  own = rw others (adds_to_one told c own_count more.own own old.faults.own);
  objects = rw others (adds_to_one told c object_count more.objects objects old.faults.objects);
  same_contents = stays told c octets_in (ap Some (sym same));
}

pub counts_of_all : {old new : MemWorld} {name : List ℕ} (more : Faults) → file_of old.files.items name ≡ None → new.files ≡ old.files → new.faults.own ≡ counted old.faults.own more.own → new.faults.objects ≡ counted old.faults.objects more.objects → Counts name more old new
counts_of_all {old = old} {new = new} {name = name} more none same own objects =
    rw same (record {
      own = adds_to_all name more.own old.faults.own new.faults.own (λ n. own_count (file_of old.files.items n)) (rw none (λ h. absurd (cc))) own;
      objects = adds_to_all name more.objects old.faults.objects new.faults.objects (λ n. object_count (file_of old.files.items n)) (rw none (λ h. absurd (cc))) objects;
      same_contents = λ n. refl;
    })
