use Rattle.std.proofs.Common.{◌≡◌, ◌<◌, ◌+◌, ◌++◌, ℕ, List, length, refl, ap, sym, subst, ◌∙◌, add-one}
use Rattle.wire_spec.specs.Dump.{record_written}
use Rattle.text_conversions.specs.declared.recorders.Recorder.{Recorder}
use Rattle.command_spec.specs.Scripts.{events_until, events_through}
use Rattle.text_conversions.specs.Insides.{Records, IsAsked}
use Rattle.text_conversions.proofs.Events.{asked_until}
use Rattle.text_conversions.proofs.Asking.{asked_idle, asked_more, some_octets}
use Rattle.text_conversions.proofs.recorders.Recorder.ask.Goals as goal
use Rattle.text_conversions.proofs.recorders.Recorder.ask.Goals.{then-turn_into+in_ok-write_record, else-turn_into}

pub write_record-requires-clause-some : goal.write_record-requires-clause-some
write_record-requires-clause-some c =
    let k = c.requires.known in
    let now = c.args.self.now.now in
    subst (λ (xs : List ℕ). 0 < length xs) (sym c.as_slice.ensures.value) (some_octets k.settings (events_until k.lines now) now c.turn_into.new.out (c.if-turn_into.ensures.packet k.settings (events_until k.lines now) k.is_at.records.sender (asked_until k.lines now)))

pub returns-clause-asked : goal.returns-clause-asked
returns-clause-asked c = λ settings lines a.
    let old = c.args.self.now in
    let past = events_until lines old.now in
    let out = c.turn_into.new.out in
    let stands = c.turn_into.ensures.stands settings past a.records.sender (asked_until lines old.now) in
    let asked = λ (r : Recorder) (e : c.if-turn_into.self ≡ r) (n : r.now ≡ old.now) (x : Records settings r.sender r.octets (events_through lines old.now)).
    (let y : IsAsked settings lines (record { sender = c.if-turn_into.self.sender; octets = c.if-turn_into.self.octets; packet = c.if-turn_into.self.packet; now = c.if-turn_into.self.now + 1 }) = record {
      last = old.now;
      now = ap (λ (q : Recorder). q.now + 1) e ∙ (ap (λ (m : ℕ). m + 1) n ∙ add-one old.now);
      records = subst (λ (q : Recorder). Records settings q.sender q.octets (events_through lines old.now)) (sym e) x;
      typed = a.typed;
    } in y) in
    elim c.if-turn_into.branch [
      | then-turn_into+in_ok-write_record w ↦ asked (record { sender = c.turn_into.new.self; octets = w.write_record.new.out; packet = out; now = old.now }) w.self-is refl (
          asked_more settings old.sender c.turn_into.new.self old.octets w.write_record.new.out out past old.now a.records
          (w.if-turn_into.ensures.packet settings past a.records.sender (asked_until lines old.now)) stands
          (w.in_ok-write_record.ensures.ok ∙ ap (λ (p : List ℕ). old.octets ++ record_written (old.now, p)) w.as_slice.ensures.value))
      | else-turn_into w ↦ asked (record { sender = c.turn_into.new.self; octets = old.octets; packet = out; now = old.now }) w.self-is refl (
          asked_idle settings old.sender c.turn_into.new.self old.octets past old.now a.records (w.if-turn_into.ensures.packet settings past a.records.sender (asked_until lines old.now)) stands)
    ]
