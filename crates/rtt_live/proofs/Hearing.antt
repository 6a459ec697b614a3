-- What a terminal hears of the packets that are given to its link.
use Rattle.std.proofs.Common.{◌≡◌, ℕ, ◌+◌, ◌-◌, ◌<◌, ◌≤◌, true, true≢false, List, [], ◌∷◌, ◌++◌, Ok, Err, sym, ◌∙◌, subst, arith}
use Rattle.std.specs.Prelude.{Result, OnOk, OnErr}
use Rattle.std.proofs.lemmas.List.{map-append}
use Rattle.wire_spec.specs.Dump.{Item, sent_item}
use Rattle.terminal.specs.declared.settings.TerminalSettings.{TerminalSettings}
use Rattle.terminal.specs.declared.terminals.Terminal.{Terminal}
use Rattle.terminal.specs.Terminals.{IsWhole, Listens, counts_of, is_spent}
use Rattle.terminal.specs.Told.{TakesPacket}
use Rattle.live_spec.specs.Served.{came_at_once}
use Rattle.rtt_live.specs.Listeners.{IsListener}
use Rattle.rtt_base.specs.declared.limits.TheConstants.{MOST_ARRIVALS}

-- one packet more comes
pub came_more : (given : List (List ℕ)) (packet : List ℕ) → came_at_once given ++ sent_item (0, packet) ∷ [] ≡ came_at_once (given ++ packet ∷ [])
came_more given packet = sym (map-append (λ (p : List ℕ). sent_item (0, p)) given (packet ∷ []))

pub heard_more : (old new : Terminal) (settings : TerminalSettings) (sources : List ℕ) (packet : List ℕ) → TakesPacket old 0 packet new
    → (given : List (List ℕ)) → Listens old settings sources (came_at_once given) → Listens new settings sources (came_at_once (given ++ packet ∷ []))
heard_more old new settings sources packet takes given h = subst (λ (items : List Item). Listens new settings sources items) (came_more given packet) (takes settings sources (came_at_once given) h)

pub after_arrival : {E : Type 0} (r : Result (Unit {0}) E) (old new : Terminal) (settings : TerminalSettings) (sources : List ℕ) (packet : List ℕ)
    → IsListener (record { terminal = old; settings = settings; sources = sources }) → (counts_of old).packets < MOST_ARRIVALS - 1 → (counts_of new).packets ≤ (counts_of old).packets + 1
    → OnOk r (TakesPacket old 0 packet new) → OnOk r (IsWhole old) → OnErr r (is_spent new ≡ true)
    → IsListener (record { terminal = new; settings = settings; sources = sources })
after_arrival (Ok x) old new settings sources packet i few more takes whole spent = record {
  heard = λ w. let h = i.heard whole in (h.0 ++ packet ∷ [], heard_more old new settings sources packet takes h.0 h.1);
  few = omega (arith, few, more);
}
after_arrival (Err x) old new settings sources packet i few more takes whole spent = record {
  heard = λ w. absurd (true≢false (sym spent ∙ w));
  few = omega (arith, few, more);
}
