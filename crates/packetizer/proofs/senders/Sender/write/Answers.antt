use Rattle.std.proofs.Common.{◌≡◌, ℕ, List, Some, length, drop, ap, sym, subst, refl, ◌∙◌}
use Rattle.stream_spec.specs.Typed.{whole_front}
use Rattle.packetizer.specs.declared.senders.SenderSettings.{SenderSettings}
use Rattle.packetizer.specs.declared.senders.Last.{Last}
use Rattle.packetizer.specs.SenderSettings.{AreSettings}
use Rattle.packetizer.specs.SenderStates.{State}
use Rattle.packetizer.specs.SenderStanding.{SenderStandsFor, waits_for}
use Rattle.packetizer.proofs.Sending.{sent_whole, turned}
use Rattle.packetizer.proofs.senders.Sender.write.Goals as goal
use Rattle.rtt_base.specs.declared.limits.TheConstants.{MOST_TEXT_OCTETS}

pub returns-clause-octets : goal.returns-clause-octets
returns-clause-octets c = λ settings past s l d.
    let r = subst (λ (st : State). SenderStandsFor settings st past) (sym c.self.view_is) s in
    let k = subst (λ (x : SenderSettings). AreSettings x) r.settings_is c.self.invariant.settings in
    let text : c.front-text.result.now ≡ whole_front MOST_TEXT_OCTETS (waits_for settings past) = c.front-text.ensures.value ∙ ap (λ (w : List ℕ). whole_front MOST_TEXT_OCTETS w) r.waits in
    (sent_whole settings past c.args.now c.media_at-media.result c.front-text.result.now _ _ _ _ c.packet.result k (l, c.requires, r.script) d (c.media_at-media.ensures.value settings past s) text c.clear.ensures r.output c.packet.ensures.packet c.packet.ensures.stands).0

pub returns-clause-stands : goal.returns-clause-stands
returns-clause-stands c = λ settings past s l d.
    let r = subst (λ (st : State). SenderStandsFor settings st past) (sym c.self.view_is) s in
    let k = subst (λ (x : SenderSettings). AreSettings x) r.settings_is c.self.invariant.settings in
    let media = c.media_at-media.ensures.value settings past s in
    let given : c.front-text.result.now ≡ whole_front MOST_TEXT_OCTETS c.self.inside.waiting = c.front-text.ensures.value in
    let text : c.front-text.result.now ≡ whole_front MOST_TEXT_OCTETS (waits_for settings past) = given ∙ ap (λ (w : List ℕ). whole_front MOST_TEXT_OCTETS w) r.waits in
    turned settings past c.args.now _ _ c.front-text.result.now r l c.requires d refl given c.pass.ensures
    (sent_whole settings past c.args.now c.media_at-media.result c.front-text.result.now _ _ _ _ c.packet.result k (l, c.requires, r.script) d media text c.clear.ensures r.output c.packet.ensures.packet c.packet.ensures.stands).1
    (ap (λ (m : ℕ). let x : Last = record { at = c.args.now; media = m } in Some x) media)
