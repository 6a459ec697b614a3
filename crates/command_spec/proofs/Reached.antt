-- What lies in the files of a conference where `mix` comes to its end.
use Rattle.std.proofs.Common.{◌≡◌, ℕ, suc, ◌+◌, Option, Some, None, List, [], ◌∷◌, ◌++◌, Result, Ok, Err, refl, ap, sym, ◌∙◌}
use Rattle.std.specs.Prelude.{All, Bool, true, false, if◌then◌else◌}
use Rattle.std.proofs.lemmas.List.{append-nil}
use Rattle.std.specs.List.{AllZip}
use Rattle.std.proofs.lemmas.List.Elements.{All-nil, All-cons}
use Rattle.wire_spec.specs.Dump.{dump}
use Rattle.wire_spec.specs.Dump as dumps
use Rattle.file_spec.specs.declared.conference_lines.Form.TheVariants.{Files}
use Rattle.file_spec.specs.declared.conference_lines.LegLine.{LegLine}
use Rattle.file_spec.specs.Conference.{Conference, conference_from}
use Rattle.file_spec.specs.Lines as lines
use Rattle.mixer_spec.specs.Setups.{setup}
use Rattle.mixer_spec.specs.Table.{Table}
use Rattle.mixer_spec.specs.Plain.{plain}
use Rattle.mixer_spec.specs.Bridged.{input_limit, leg_chunks}
use Rattle.command_spec.specs.declared.faults.Refusal.TheVariants.{AtByte}
use Rattle.command_spec.specs.Work.{Contents, Made, Steps, Reads, Refuses, Makes, Serves, and_prints}
use Rattle.command_spec.specs.Outcomes.{Outcome, Missing, Done, outcome, outcome_from}
use Rattle.command_spec.specs.Mixing.{views, outs, makes, input_at, unless_one_broken, counted, counts_lines, mixes, mixes_counted, reads_inputs, mixes_read, mixing}
use Rattle.command_spec.specs.Bridges.{Bridge, IsMixedFrom}

-- a file was there, and its octets lead to the end
pub found : (n : ℕ) (held : Contents) (name : List ℕ) (next : List ℕ → Steps) (printed : List ℕ) (files : List Made) → outcome_from n held (Reads name next) ≡ Done printed files
    → (octets : List ℕ) × (held name ≡ Some octets) × (outcome_from (n + 1) held (next octets) ≡ Done printed files)
found n held name next printed files e = go (held name) refl e
  where
    go : (o : Option (List ℕ)) → held name ≡ o → (elim o as (λ x. Outcome) [ None ↦ Missing n | Some octets ↦ outcome_from (n + 1) held (next octets) ]) ≡ Done printed files
        → (octets : List ℕ) × (held name ≡ Some octets) × (outcome_from (n + 1) held (next octets) ≡ Done printed files)
    go None h e = absurd (cc e)
    go (Some octets) h e = (octets, h, e)

-- the inputs were there
pub record AreFound (held : Contents) (n : ℕ) (legs : List LegLine) (next : List (List ℕ) → Steps) (printed : List ℕ) (files : List Made) : Type 0 where
  pub inputs : List (List ℕ)
  pub lie : AllZip (λ leg octets. held leg.input ≡ Some octets) legs inputs
  pub last : ℕ
  pub then_ : outcome_from last held (next inputs) ≡ Done printed files

pub inputs_found : (held : Contents) (n : ℕ) (legs : List LegLine) (next : List (List ℕ) → Steps) (printed : List ℕ) (files : List Made) → outcome_from n held (reads_inputs legs next) ≡ Done printed files
    → AreFound held n legs next printed files
inputs_found held n [] next printed files e = record { inputs = []; lie = tt; last = n; then_ = e }
inputs_found held n (leg ∷ legs) next printed files e =
    let f = found n held leg.input (λ octets. reads_inputs legs (λ more. next (octets ∷ more))) printed files e in
    let r = inputs_found held (n + 1) legs (λ more. next (f.0 ∷ more)) printed files f.2 in
    record { inputs = f.0 ∷ r.inputs; lie = (f.1, r.lie); last = r.last; then_ = r.then_ }

-- none of them is broken
pub record AreWhole (held : Contents) (m limit : ℕ) (inputs : List (List ℕ)) (steps : Steps) (printed : List ℕ) (files : List Made) : Type 0 where
  pub whole : All (λ octets. (dump limit octets).fault ≡ None) inputs
  pub then_ : outcome_from m held steps ≡ Done printed files

pub none_broken : (held : Contents) (m limit n : ℕ) (inputs : List (List ℕ)) (steps : Steps) (printed : List ℕ) (files : List Made) → outcome_from m held (unless_one_broken limit n inputs steps) ≡ Done printed files
    → AreWhole held m limit inputs steps printed files
none_broken held m limit n [] steps printed files e = record { whole = All-nil (λ octets. (dump limit octets).fault ≡ None); then_ = e }
none_broken held m limit n (octets ∷ more) steps printed files e = go (dump limit octets).fault refl e (none_broken held m limit (suc n) more steps printed files)
  where
    go : (o : Option dumps.Fault) → (dump limit octets).fault ≡ o
        → outcome_from m held (elim o as (λ x. Steps) [ None ↦ unless_one_broken limit (suc n) more steps | Some fault ↦ Refuses n (AtByte fault.byte fault.kind) ]) ≡ Done printed files
        → (outcome_from m held (unless_one_broken limit (suc n) more steps) ≡ Done printed files → AreWhole held m limit more steps printed files)
        → AreWhole held m limit (octets ∷ more) steps printed files
    go None h e rest = let r = rest e in record { whole = All-cons (λ octets. (dump limit octets).fault ≡ None) octets more h r.whole; then_ = r.then_ }
    go (Some fault) h e rest = absurd (cc e)

-- mixing was over
pub record IsReached (held : Contents) (file printed : List ℕ) (files : List Made) : Type 0 where
  pub bridge : Bridge
  pub mixed : IsMixedFrom held file bridge
  pub views_are : printed ≡ views bridge.conference bridge.table ++ counted bridge.conference bridge.inputs
  pub outs_are : files ≡ outs bridge.conference bridge.table

pub done_parts : (p q : List ℕ) (fs gs : List Made) → Done p fs ≡ Done q gs → (p ≡ q) × (fs ≡ gs)
done_parts p q fs gs e = (cc e, cc e)

-- what stands behind what steps print
pub prints_done : (more : List ℕ) (held : Contents) (m : ℕ) (steps : Steps) (printed : List ℕ) (files : List Made) → outcome_from m held (and_prints more steps) ≡ Done printed files
    → (front : List ℕ) × (outcome_from m held steps ≡ Done front files) × (printed ≡ front ++ more)
prints_done more held m (Reads name next) printed files e = go (held name) e (λ octets. prints_done more held (m + 1) (next octets) printed files)
  where
    go : (o : Option (List ℕ)) → (elim o as (λ x. Outcome) [ None ↦ Missing m | Some octets ↦ outcome_from (m + 1) held (and_prints more (next octets)) ]) ≡ Done printed files
        → ((octets : List ℕ) → outcome_from (m + 1) held (and_prints more (next octets)) ≡ Done printed files → (front : List ℕ) × (outcome_from (m + 1) held (next octets) ≡ Done front files) × (printed ≡ front ++ more))
        → (front : List ℕ) × ((elim o as (λ x. Outcome) [ None ↦ Missing m | Some octets ↦ outcome_from (m + 1) held (next octets) ]) ≡ Done front files) × (printed ≡ front ++ more)
    go None e rest = absurd (cc e)
    go (Some octets) e rest = rest octets e
prints_done more held m (Refuses input refusal) printed files e = absurd (cc e)
prints_done more held m (Makes front made) printed files e =
    let d = done_parts (front ++ more) printed made files e in (front, ap (Done front) d.1, sym d.0)
prints_done more held m (Serves c) printed files e = absurd (cc e)

-- of a mixing, where that is asked for
pub counted_done : (held : Contents) (m : ℕ) (c : Conference) (inputs : List (List ℕ)) (printed : List ℕ) (files : List Made) → outcome_from m held (mixes_counted c inputs) ≡ Done printed files
    → (front : List ℕ) × (outcome_from m held (mixes c inputs) ≡ Done front files) × (printed ≡ front ++ counted c inputs)
counted_done held m c inputs printed files e = go c.service.counts e
  where
    go : (b : Bool) → outcome_from m held (if b then and_prints (counts_lines c inputs) (mixes c inputs) else mixes c inputs) ≡ Done printed files
        → (front : List ℕ) × (outcome_from m held (mixes c inputs) ≡ Done front files) × (printed ≡ front ++ (if b then counts_lines c inputs else []))
    go true e = prints_done (counts_lines c inputs) held m (mixes c inputs) printed files e
    go false e = (printed, e, sym (append-nil printed))

-- what a mixing makes, and what is counted
pub counted_makes : (c : Conference) (inputs : List (List ℕ)) (printed : List ℕ) (files : List Made) → mixes c inputs ≡ Makes printed files → mixes_counted c inputs ≡ Makes (printed ++ counted c inputs) files
counted_makes c inputs printed files e = go c.service.counts
  where
    go : (b : Bool) → (if b then and_prints (counts_lines c inputs) (mixes c inputs) else mixes c inputs) ≡ Makes (printed ++ (if b then counts_lines c inputs else [])) files
    go true = ap (and_prints (counts_lines c inputs)) e
    go false = e ∙ ap (λ (p : List ℕ). Makes p files) (sym (append-nil printed))

pub reached : (held : Contents) (file printed : List ℕ) (files : List Made) → outcome held (mixing file) ≡ Done printed files → IsReached held file printed files
reached held file printed files e =
    let f = found 0 held file (λ octets. mixes_read (conference_from Files octets)) printed files e in go f.0 f.1 (conference_from Files f.0) refl f.2
  where
    over : (octets : List ℕ) → held file ≡ Some octets → (c : Conference) → conference_from Files octets ≡ Ok c → (inputs : List (List ℕ)) → AllZip (λ leg octets. held leg.input ≡ Some octets) c.legs inputs
        → All (λ octets. (dump (input_limit c) octets).fault ≡ None) inputs → (m : ℕ) (o : Option Table) → plain (setup c) c.tick c.turns (leg_chunks c (input_at inputs)) ≡ o
        → (front : List ℕ) → outcome_from m held (makes c o) ≡ Done front files → printed ≡ front ++ counted c inputs → IsReached held file printed files
    over octets h c r inputs lie whole m None p front e behind = absurd (cc e)
    over octets h c r inputs lie whole m (Some table) p front e behind =
        let d = done_parts (views c table) front (outs c table) files e in
        record {
          bridge = record { conference = c; inputs = inputs; table = table };
          mixed = record { read = (octets, h, r); inputs_lie = lie; whole = whole; over = p };
          views_are = behind ∙ ap (λ (v : List ℕ). v ++ counted c inputs) (sym d.0);
          outs_are = sym d.1;
        }

    go : (octets : List ℕ) → held file ≡ Some octets → (r : Result Conference lines.Refusal) → conference_from Files octets ≡ r → outcome_from 1 held (mixes_read r) ≡ Done printed files → IsReached held file printed files
    go octets h (Err refusal) r e = absurd (cc e)
    go octets h (Ok c) r e =
        let a = inputs_found held 1 c.legs (mixes_counted c) printed files e in
        let n = counted_done held a.last c a.inputs printed files a.then_ in
        let b = none_broken held a.last (input_limit c) 1 a.inputs (makes c (plain (setup c) c.tick c.turns (leg_chunks c (input_at a.inputs)))) n.0 files n.1 in
        over octets h c r a.inputs a.lie b.whole a.last (plain (setup c) c.tick c.turns (leg_chunks c (input_at a.inputs))) refl n.0 b.then_ n.2
