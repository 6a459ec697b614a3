-- What a conference keeps that a file describes (profile).
use Rattle.std.specs.Prelude.{◌≡◌, ◌≢◌, ◌<◌, ◌≤◌, ℕ, false, Some, IsTrue, List, length, All, AllPairs}
use Rattle.std.specs.Option.{ForSome}
use Rattle.rtt_base.specs.declared.text_packets.PayloadTypes.{PayloadTypes}
use Rattle.file_spec.specs.declared.limits.TheConstants.{FEWEST_LEGS, MOST_LEGS, LEAST_TICK, MOST_TICK, LEAST_SPACING, MOST_SPACING, LEAST_RELABEL, MOST_RELABEL, LEAST_MTU, MOST_MTU, LEAST_GONE, MOST_GONE, MOST_TURNS, MOST_GENERATIONS, MOST_PLAN_LINES, LONGEST_DELAY, FIRST_TYPE, LAST_TYPE}
use Rattle.file_spec.specs.declared.conference_lines.LegLine.{LegLine}
use Rattle.file_spec.specs.declared.conference_lines.MixerLine.{MixerLine}
use Rattle.file_spec.specs.declared.conference_lines.PlanLine.{PlanLine}
use Rattle.file_spec.specs.declared.conference_lines.What.{What}
use Rattle.file_spec.specs.declared.conference_lines.What.TheVariants.{Delay}
use Rattle.file_spec.specs.declared.services.OperatorLine.{OperatorLine}
use Rattle.file_spec.specs.declared.services.Service.{Service}
use Rattle.file_spec.specs.Conference.{Above, Conference, is_name, is_path, is_same_packet, port}
use Rattle.file_spec.specs.Services.{is_operator_word}
use Rattle.file_spec.specs.Sound.{IsBetween}
use Rattle.file_spec.specs.Stays.{IsStay, NeverCrowd}
use Rattle.rtt_base.specs.declared.limits.TheConstants.{LONGEST_WAIT}

-- two dynamic payload types (RFC 3551, section 3)
pub record AreTwoTypes (payload_types : PayloadTypes) : Type 0 where
  pub t140 : IsBetween FIRST_TYPE LAST_TYPE payload_types.t140
  pub red : IsBetween FIRST_TYPE LAST_TYPE payload_types.red
  pub differ : payload_types.t140 ≢ payload_types.red

-- a leg by itself: its name has 1 to 32 letters, digits, `.`, `_` and `-`
pub record IsLeg (leg : LegLine) : Type 0 where
  pub name : IsTrue (is_name leg.name)
  pub types : AreTwoTypes leg.payload_types
  pub generations : leg.generations ≤ MOST_GENERATIONS
  pub stay : IsStay leg.stay

-- two legs beside each other
pub record Differ (a b : LegLine) : Type 0 where
  pub names : a.name ≢ b.name
  pub ssrcs : a.ssrc ≢ b.ssrc
  pub outputs : a.output ≢ b.output

pub record AreLegs (legs : List LegLine) : Type 0 where
  pub most : length legs ≤ MOST_LEGS
  pub each : All (λ leg. IsLeg leg) legs
  pub differ : AllPairs (λ a b. Differ a b) legs

-- no leg has the mixer's SSRC
pub record IsMixerFor (legs : List LegLine) (mixer : MixerLine) : Type 0 where
  pub seq : mixer.seq < 65536
  pub differs : All (λ leg. leg.ssrc ≢ mixer.ssrc) legs

abbrev pub IsShort : What → Type 0
IsShort what = (ms : ℕ) → what ≡ Delay ms → ms ≤ LONGEST_DELAY

-- each line is about a packet to a leg, no two say the same of a packet
pub record IsPlanFor (legs : List LegLine) (plan : List PlanLine) : Type 0 where
  pub most : length plan ≤ MOST_PLAN_LINES
  pub terminals : All (λ p. p.terminal < length legs) plan
  pub delays : All (λ p. IsShort p.what) plan
  pub differ : AllPairs (λ a b. is_same_packet a b ≡ false) plan

abbrev pub IsTick : ℕ → Type 0
IsTick n = IsBetween LEAST_TICK MOST_TICK n

abbrev pub IsSpacing : ℕ → Type 0
IsSpacing n = IsBetween LEAST_SPACING MOST_SPACING n

abbrev pub IsWait : ℕ → Type 0
IsWait n = n ≤ LONGEST_WAIT

abbrev pub AreTurns : ℕ → Type 0
AreTurns n = IsBetween 1 MOST_TURNS n

abbrev pub IsRelabel : ℕ → Type 0
IsRelabel n = IsBetween LEAST_RELABEL MOST_RELABEL n

abbrev pub IsMtu : ℕ → Type 0
IsMtu n = IsBetween LEAST_MTU MOST_MTU n

abbrev pub IsGone : ℕ → Type 0
IsGone n = IsBetween LEAST_GONE MOST_GONE n

-- an operator is heard at a port that no leg has
pub record IsOperatorFor (legs : List LegLine) (line : OperatorLine) : Type 0 where
  pub at : IsBetween 1 65535 line.port
  pub word : IsTrue (is_operator_word line.word)
  pub differs : All (λ leg. port leg.input ≢ Some line.port) legs

pub record IsServiceFor (legs : List LegLine) (service : Service) : Type 0 where
  pub gone : ForSome service.gone (λ n. IsGone n)
  pub operator : ForSome service.operator (λ o. IsOperatorFor legs o)
  pub recorded : ForSome service.recorded (λ prefix. IsTrue (is_path prefix))

-- what the lines so far keep
pub record Keeps (above : Above) : Type 0 where
  pub legs : AreLegs above.legs
  pub tick : ForSome above.tick (λ n. IsTick n)
  pub spacing : ForSome above.spacing (λ n. IsSpacing n)
  pub wait : ForSome above.wait (λ n. IsWait n)
  pub turns : ForSome above.turns (λ n. AreTurns n)
  pub relabel : ForSome above.relabel (λ n. IsRelabel n)
  pub mtu : ForSome above.mtu (λ n. IsMtu n)
  pub mixer : ForSome above.mixer (λ m. IsMixerFor above.legs m)
  pub plan : IsPlanFor above.legs above.plan
  pub service : IsServiceFor above.legs above.service

-- what the whole keeps
pub record IsConference (c : Conference) : Type 0 where
  pub two : FEWEST_LEGS ≤ length c.legs
  pub legs : AreLegs c.legs
  pub room : NeverCrowd c.legs
  pub tick : IsTick c.tick
  pub spacing : IsSpacing c.spacing
  pub wait : IsWait c.wait
  pub turns : AreTurns c.turns
  pub relabel : ForSome c.relabel (λ n. IsRelabel n)
  pub mtu : ForSome c.mtu (λ n. IsMtu n)
  pub mixer : IsMixerFor c.legs c.mixer
  pub plan : IsPlanFor c.legs c.plan
  pub service : IsServiceFor c.legs c.service
