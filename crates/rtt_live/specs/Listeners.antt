-- What the terminal of a leg heard of the packets that were given to its link.
use Rattle.std.specs.Prelude.{◌≡◌, ℕ, ◌<◌, Bool, Some, List, ◌∷◌, [], ◌++◌, slice_get}
use Rattle.file_spec.specs.declared.conference_lines.LegLine.{LegLine}
use Rattle.file_spec.specs.Conference.{Conference}
use Rattle.mixer_spec.specs.Setups.{leg_at}
use Rattle.stream_spec.specs.Links.{Takes}
use Rattle.live_leg.specs.declared.tallies.LegTally.{LegTally}
use Rattle.terminal.specs.declared.settings.TerminalSettings.{TerminalSettings}
use Rattle.terminal.specs.declared.terminals.Terminal.{Terminal}
use Rattle.terminal.specs.Terminals.{Heard, IsWhole, Listens, counts_of}
use Rattle.live_spec.specs.Served.{End, came_at_once, live_printed, live_view, live_views}
use Rattle.rtt_base.specs.declared.limits.TheConstants.{MOST_ARRIVALS}
use Rattle.rtt_live.specs.Tallies.{AreTallies}

-- a terminal, and what it was made with
pub record Listening : Type 0 where
  pub terminal : Terminal
  pub settings : TerminalSettings
  pub sources : List ℕ

-- these packets were given, oldest first
abbrev pub HasHeard : Listening → List (List ℕ) → Type 0
HasHeard l given = Listens l.terminal l.settings l.sources (came_at_once given)

-- some were, where it is not spent; it can hear one more
pub record IsListener (l : Listening) : Type 0 where
  pub heard : IsWhole l.terminal → (given : List (List ℕ)) × HasHeard l given
  pub few : (counts_of l.terminal).packets < MOST_ARRIVALS

-- behind whatever was given, this packet was
abbrev pub HearsNext : Listening → List ℕ → Listening → Type 0
HearsNext old packet new = (given : List (List ℕ)) → HasHeard old given → HasHeard new (given ++ packet ∷ [])

-- nothing was given to any of these
abbrev pub NoneHeard : List Listening → Type 0
NoneHeard listeners = (j : ℕ) (l : Listening) → slice_get listeners j ≡ Some l → HasHeard l []

-- all that was given was heard to its end
abbrev pub HearsOut : Listening → TerminalSettings → List ℕ → Terminal → Type 0
HearsOut l settings sources t = (given : List (List ℕ)) → HasHeard l given
    → Heard t settings sources (came_at_once given)

-- what the terminal of the leg j shows of whatever was given was appended
abbrev pub AppendsView : Conference → ℕ → Listening → List ℕ → List ℕ → Type 0
AppendsView c j l old new =
    (leg : LegLine) (given : List (List ℕ)) → leg_at c.legs j ≡ Some leg → HasHeard l given
    → new ≡ old ++ live_view c j leg given

-- the same where the terminal is aware, or where it is not
abbrev pub AppendsViewTo : Bool → Conference → ℕ → Listening → List ℕ → List ℕ → Type 0
AppendsViewTo aware c j l old new =
    (leg : LegLine) (given : List (List ℕ)) → leg_at c.legs j ≡ Some leg → leg.aware ≡ aware → HasHeard l given
    → new ≡ old ++ live_view c j leg given

-- this is what the terminals show of whatever each was given
abbrev pub AreViewsOf : Conference → List Listening → List ℕ → Type 0
AreViewsOf c listeners views =
    (given : ℕ → List (List ℕ)) → ((j : ℕ) (l : Listening) → slice_get listeners j ≡ Some l → HasHeard l (given j)) → views ≡ live_views c given

-- this is printed of them, of how the call ended, and of what was counted
abbrev pub ArePrintedOf : Conference → List Listening → List LegTally → End → List ℕ → Type 0
ArePrintedOf c listeners tallies end printed =
    (takes : ℕ → Takes) (given : ℕ → List (List ℕ)) → AreTallies c takes tallies
    → ((j : ℕ) (l : Listening) → slice_get listeners j ≡ Some l → HasHeard l (given j))
    → printed ≡ live_printed c takes given end
