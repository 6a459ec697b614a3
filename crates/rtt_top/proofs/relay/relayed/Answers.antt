use Rattle.std.proofs.Common.{◌≡◌, List, ℕ, Ok, sym, subst}
use Rattle.command_spec.specs.Frames.{relay}
use Rattle.command_spec.specs.Scripts.{Sending}
use Rattle.rtt_words.specs.Tasks.{sending_of}
use Rattle.rtt_words.specs.Words.{SendWords, Relay}
use Rattle.rtt_words.specs.Commands.{sent}
use Rattle.text_conversions.specs.RelayAnswers.{IsRelayCause}
use Rattle.rtt_top.specs.Worlds.{ObjectFailedIn, OpenFailedIn, StopsOver}
use Rattle.rtt_top.proofs.Framing.{frames_sent, relay_stops}
use Rattle.rtt_top.proofs.relay.relayed.Goals as goal

pub returns-in-Ok-relay_frames-clause-made : goal.returns-in-Ok-relay_frames-clause-made
returns-in-Ok-relay_frames-clause-made g c =
    let s : SendWords = sent c.args.words.now in
    let Is : Sending → List ℕ → Type 0 = λ sending octets. relay sending octets ≡ Ok c.in-Ok-relay_frames.recording in
    let e = subst (λ octets. Is (sending_of s) octets) c.as_slice.ensures (subst (λ sending. Is sending c.as_slice.result.now) c.sender_settings.ensures.sending c.in-Ok-relay_frames.ensures.sent) in
    frames_sent g.W.World.tells (g.W.World.contents c.args.world.now s.file) (sending_of s) c.in-Ok.octets c.in-Ok-relay_frames.recording c.in-Ok.ensures.given e

pub returns-clause-stops : goal.returns-clause-stops
returns-clause-stops g c =
    let old = c.args.world.now in
    let new = c.read_input.new.world in
    let s : SendWords = sent c.args.words.now in
    let Is : Sending → List ℕ → Type 0 = λ sending octets. IsRelayCause c.in-Err-relay_frames.fault (relay sending octets) in
    let e = subst (λ octets. Is (sending_of s) octets) c.as_slice.ensures (subst (λ sending. Is sending c.as_slice.result.now) c.sender_settings.ensures.sending c.in-Err-relay_frames.ensures.cause) in
    subst (λ f. StopsOver g.W.World old new s.file (Relay s) f) (sym c.fault_of_relay.ensures)
    (relay_stops g.W.World.tells (g.W.World.contents old) s (OpenFailedIn g.W.World old new s.file) (ObjectFailedIn g.W.World old new s.file)
    c.in-Ok.octets c.in-Err-relay_frames.fault c.in-Ok.ensures.given e)
