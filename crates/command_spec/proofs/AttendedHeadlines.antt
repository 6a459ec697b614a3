-- What comes of a conference that is named by its inputs.
use Rattle.std.proofs.Common.{◌≡◌, ℕ, ◌<◌, ◌^◌, Option, Some, None, List, ◌++◌, length, Result, Ok, Err, refl, ap, sym, subst, ◌∙◌}
use Rattle.std.specs.Prelude.{All}
use Rattle.std.specs.List.{AllZip}
use Rattle.wire_spec.specs.Dump.{dump}
use Rattle.file_spec.specs.declared.conference_lines.Form.TheVariants.{Files}
use Rattle.file_spec.specs.Conference.{Conference, conference_from}
use Rattle.file_spec.specs.Kept.{IsConference}
use Rattle.file_spec.specs.Lines as lines
use Rattle.mixer_spec.specs.Setups.{setup}
use Rattle.mixer_spec.specs.Table.{Table}
use Rattle.mixer_spec.specs.Plain.{plain}
use Rattle.mixer_spec.specs.Bridged.{input_limit, leg_chunks}
use Rattle.mixer_spec.proofs.Conferences.{accepted_law}
use Rattle.command_spec.specs.Work.{Made}
use Rattle.command_spec.specs.Outcomes.{AllStored, Done, outcome_from}
use Rattle.command_spec.specs.Mixing.{counted, input_at, makes, outs, views}
use Rattle.command_spec.specs.Attending.{Said, attends, attends_read, named, named_by, says_of}
use Rattle.command_spec.specs.Attended.{AttendedAreBridged, IsAttended}
use Rattle.command_spec.specs.Bridges.{Bridge}
use Rattle.command_spec.specs.Cascaded.{IsSeen}
use Rattle.command_spec.proofs.Headlines.{seen_of}
use Rattle.command_spec.proofs.Naming.{named_conference, ssrcs_told}
use Rattle.command_spec.proofs.Reached.{counted_done, done_parts, found, inputs_found, none_broken}
use Rattle.command_spec.proofs.Ssrcs.{HasSsrcs, ssrcs_fit}

named_fits : (says : ℕ → Said) (c : Conference) → HasSsrcs c → HasSsrcs (named_by says c)
named_fits says c fits = record { legs = ssrcs_told (λ ssrc. ssrc < 2 ^ 32) c.wait says (length c.legs) c.legs fits.legs; mixer = fits.mixer }

pub attended : AttendedAreBridged
attended held after file printed files e stored =
    let f = found 0 held file (λ octets. attends_read (conference_from Files octets)) printed files e in go f.0 f.1 (conference_from Files f.0) refl f.2
  where
    over : (octets : List ℕ) → held file ≡ Some octets → (c : Conference) → conference_from Files octets ≡ Ok c → (inputs : List (List ℕ)) → AllZip (λ leg octets. held leg.input ≡ Some octets) c.legs inputs
        → (n : Conference) → n ≡ named c inputs → All (λ octets. (dump (input_limit n) octets).fault ≡ None) inputs → (m : ℕ) (o : Option Table) → plain (setup n) n.tick n.turns (leg_chunks n (input_at inputs)) ≡ o
        → (front : List ℕ) → outcome_from m held (makes n o) ≡ Done front files → printed ≡ front ++ counted n inputs → IsAttended held after file printed
    over octets h c r inputs lie n is whole m None p front e behind = absurd (cc e)
    over octets h c r inputs lie n is whole m (Some table) p front e behind =
        let d = done_parts (views n table) front (outs n table) files e in
        let b : Bridge = record { conference = n; inputs = inputs; table = table } in
        let s = seen_of held after (views n table) b
        (subst IsConference (sym is) (named_conference (says_of c inputs) c (accepted_law Files octets c r).0))
        (subst HasSsrcs (sym is) (named_fits (says_of c inputs) c (ssrcs_fit Files octets c r)))
        p refl (subst (λ (fs : List Made). AllStored fs held after) (sym d.1) stored) in
        record {
          conference = c;
          bridge = b;
          attended = record { read = (octets, h, r); inputs_lie = lie; is_named = is; whole = whole; over = p };
          seen = subst (λ (v : List ℕ). IsSeen after v b) s.views s;
          views = behind ∙ ap (λ (v : List ℕ). v ++ counted n inputs) (sym d.0 ∙ s.views);
        }

    go : (octets : List ℕ) → held file ≡ Some octets → (r : Result Conference lines.Refusal) → conference_from Files octets ≡ r → outcome_from 1 held (attends_read r) ≡ Done printed files → IsAttended held after file printed
    go octets h (Err refusal) r e = absurd (cc e)
    go octets h (Ok c) r e =
        let a = inputs_found held 1 c.legs (attends c) printed files e in
        let n = named c a.inputs in
        let q = counted_done held a.last n a.inputs printed files a.then_ in
        let b = none_broken held a.last (input_limit n) 1 a.inputs (makes n (plain (setup n) n.tick n.turns (leg_chunks n (input_at a.inputs)))) q.0 files q.1 in
        over octets h c r a.inputs a.lie n refl b.whole a.last (plain (setup n) n.tick n.turns (leg_chunks n (input_at a.inputs))) refl q.0 b.then_ q.2
