-- The calls of the mixer that are allowed, and when a turn may be made after them (profile).
use Rattle.std.specs.Prelude.{◌≡◌, ◌+◌, ◌*◌, ◌^◌, ◌<◌, ◌≤◌, true, List, [], ◌∷◌, length, IsUtf8}
use Rattle.wire_spec.specs.Packets.{has_text}
use Rattle.stream_spec.specs.Ready.{Chunk}
use Rattle.mixer_spec.specs.Setups.{Setup, IsSetup, gap}
use Rattle.mixer_spec.specs.Table.{Call, Admit, Hush, Leave, Offer, Turn}
use Rattle.mixer_spec.specs.Calls.{IsAdmit, IsHush, turns_made}
use Rattle.rtt_base.specs.declared.limits.TheConstants.{LONGEST_STEP, MOST_TEXT_OCTETS}

-- a chunk of text
pub record IsOffer (c : Chunk) : Type 0 where
  pub some : has_text c.text ≡ true
  pub utf8 : IsUtf8 c.text
  pub short : length c.text ≤ MOST_TEXT_OCTETS

-- Each of these calls is allowed after those before it. A leg may be told to leave at any moment, and a turn may be made.
abbrev pub AreAllowed : Setup → List Call → Type 0
AreAllowed s [] = Unit {0}
AreAllowed s (Admit i l ∷ past) = IsAdmit s i l past × AreAllowed s past
AreAllowed s (Hush i ∷ past) = IsHush s i past × AreAllowed s past
AreAllowed s (Leave i ∷ past) = AreAllowed s past
AreAllowed s (Offer c ∷ past) = IsOffer c × AreAllowed s past
AreAllowed s (Turn now ∷ past) = AreAllowed s past

-- one turn more may be made: its media time lies within half the circle of timestamps
pub record MayTurn (s : Setup) (calls : List Call) : Type 0 where
  pub setup : IsSetup s
  pub near : gap s ≤ LONGEST_STEP
  pub span : s.step * (turns_made calls + 1) < 2 ^ 31
  pub allowed : AreAllowed s calls
