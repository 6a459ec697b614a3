-- Items none of which says that all was given, and which takes closed a link.
use Rattle.std.specs.Prelude.{◌≡◌, false, List, [], ◌∷◌}
use Rattle.stream_spec.specs.Links.{Takes, is_closed}
use Rattle.live_leg.specs.LinkLegs.{Item}
use Rattle.live_leg.specs.Items.{is_signal}

abbrev pub AreNoSignals : List Item → Type 0
AreNoSignals [] = Unit {0}
AreNoSignals (x ∷ xs) = (is_signal x ≡ false) × AreNoSignals xs

-- none but the last of these, the newest, closed the link
abbrev pub IsOpenBefore : Takes → Type 0
IsOpenBefore [] = Unit {0}
IsOpenBefore (t ∷ past) = is_closed past ≡ false
