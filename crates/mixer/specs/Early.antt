-- Turns whose moments a recording can hold: before 2^32 milliseconds.
use Rattle.std.specs.Prelude.{◌<◌, ◌^◌, List, [], ◌∷◌}
use Rattle.mixer_spec.specs.Table.{Call, Admit, Hush, Leave, Offer, Turn}

abbrev pub AreEarly : List Call → Type 0
AreEarly [] = Unit {0}
AreEarly (Admit i l ∷ past) = AreEarly past
AreEarly (Hush i ∷ past) = AreEarly past
AreEarly (Leave i ∷ past) = AreEarly past
AreEarly (Offer c ∷ past) = AreEarly past
AreEarly (Turn now ∷ past) = (now < 2 ^ 32) × AreEarly past
