use Rattle.std.proofs.Common.{◌≡◌, set, ◌<◌, Some, [], length, ap, subst, sym, ◌∙◌, arith}
use Rattle.std.specs.Prelude.{slice_get, if◌then◌else◌}
use Rattle.mixer_spec.specs.Rounds.{set_at}
use Rattle.mixer_places.specs.declared.rings.RingPosition.{RingPosition}
use Rattle.mixer_places.specs.declared.parts.Part.{Part}
use Rattle.mixer_places.specs.Rings.{end_of}
use Rattle.mixer_places.specs.Lanes.{Waiting, part_heard}
use Rattle.mixer_places.specs.LaneInsides.{waiting_in}
use Rattle.mixer_places.specs.SlotStanding.{SlotHolds}
use Rattle.mixer_places.proofs.Holding.{listened}
use Rattle.mixer_places.proofs.lanes.SourceQueue.listen.Goals as goal
use Rattle.stream_spec.proofs.Plain.{get_read}

pub invariant_of-self : goal.invariant_of-self
invariant_of-self c =
    let w = waiting_in c.self.inside in
    let p = c.index.result.now in
    let old = c.self.invariant in
    let l : c.args.terminal < length w.parts = omega (arith, c.requires, ap (λ (x : Waiting). length x.parts) c.self.view_is) in
    let g : slice_get w.parts c.args.terminal ≡ Some p = get_read w.parts c.args.terminal p l c.index.ensures in
    let heard : c.heard-heard.result ≡ part_heard c.args.on (end_of w.chunks) p = c.heard-heard.ensures ∙ ap (λ (e : RingPosition). part_heard c.args.on e p) c.end.ensures.place in
    record {
      taken = old.taken;
      listens = set_at old.listens c.args.terminal c.args.on;
      waits = if c.args.on then set_at old.waits c.args.terminal [] else old.waits;
      holds = subst (λ (x : Part). SlotHolds (record { chunks = w.chunks; parts = set w.parts c.args.terminal x }) old.taken (set_at old.listens c.args.terminal c.args.on) (if c.args.on then set_at old.waits c.args.terminal [] else old.waits)) (sym heard)
          (listened w old.taken old.listens old.waits old.holds c.args.terminal p g c.args.on);
      utf8 = old.utf8;
    }

pub returns-clause-holds : goal.returns-clause-holds
returns-clause-holds c = λ taken listens waits h.
    let w = waiting_in c.self.inside in
    let p = c.index.result.now in
    let l : c.args.terminal < length w.parts = omega (arith, c.requires, ap (λ (x : Waiting). length x.parts) c.self.view_is) in
    let g : slice_get w.parts c.args.terminal ≡ Some p = get_read w.parts c.args.terminal p l c.index.ensures in
    let heard : c.heard-heard.result ≡ part_heard c.args.on (end_of w.chunks) p = c.heard-heard.ensures ∙ ap (λ (e : RingPosition). part_heard c.args.on e p) c.end.ensures.place in
    let k : SlotHolds w taken listens waits = subst (λ (x : Waiting). SlotHolds x taken listens waits) (sym c.self.view_is) h in
    subst (λ (x : Part). SlotHolds (record { chunks = w.chunks; parts = set w.parts c.args.terminal x }) taken (set_at listens c.args.terminal c.args.on) (if c.args.on then set_at waits c.args.terminal [] else waits)) (sym heard)
    (listened w taken listens waits k c.args.terminal p g c.args.on)
