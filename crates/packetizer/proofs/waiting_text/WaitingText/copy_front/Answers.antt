use Rattle.std.proofs.Common.{◌≡◌, ◌≤◌, ◌-◌, ℕ, List, ap, ◌∙◌, ◌++◌, length, length-take, take, min, arith}
use Rattle.packetizer.proofs.Fronts.{front_parts}
use Rattle.packetizer.proofs.waiting_text.WaitingText.copy_front.Goals as goal
use Rattle.rtt_base.specs.declared.limits.TheConstants.{MOST_TEXT_OCTETS}
use Rattle.stream_spec.proofs.Plain.{on_ok}

pub returns : goal.returns
returns c =
    let first = c.as_slices.result.0.now in
    let second = c.as_slices.result.1.now in
    let len = c.args.len in
    let part = c.min-from_first.result in
    let within : part ≡ min (length first) len = c.min-from_first.ensures in
    let few : len ≤ MOST_TEXT_OCTETS = c.requires.few in
    let one : c.append.new.self ≡ take part first =
    on_ok c.append.result (c.append.ensures.room.1 (omega (arith, within, few, ap (λ (l : List ℕ). length l) c.clear.ensures, length-take part first))) c.append.ensures.ok ∙ ap (λ (l : List ℕ). l ++ take part first) c.clear.ensures in
    let two : c.append_rest.new.text ≡ c.append.new.self ++ take (len - part) second = c.append_rest.ensures in
    two ∙ (ap (λ (l : List ℕ). l ++ take (len - part) second) one ∙ front_parts c.args.self.now first second len part (c.as_slices.ensures ∙ c.self.view_is) within)

pub append_rest-requires : goal.append_rest-requires
append_rest-requires c =
    let first = c.as_slices.result.0.now in
    let second = c.as_slices.result.1.now in
    let len = c.args.len in
    let part = c.min-from_first.result in
    let within : part ≡ min (length first) len = c.min-from_first.ensures in
    let few : len ≤ MOST_TEXT_OCTETS = c.requires.few in
    let one : c.append.new.self ≡ take part first =
    on_ok c.append.result (c.append.ensures.room.1 (omega (arith, within, few, ap (λ (l : List ℕ). length l) c.clear.ensures, length-take part first))) c.append.ensures.ok ∙ ap (λ (l : List ℕ). l ++ take part first) c.clear.ensures in
    omega (arith, within, few, ap (λ (l : List ℕ). length l) one, length-take part first, length-take (len - part) second)
