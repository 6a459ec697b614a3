-- What a buffer's state stands for.
use Rattle.std.specs.Prelude.{◌≡◌, ◌+◌, ◌<◌, ◌≤◌, Bool, List, [], ◌++◌, length, map, None}
use Rattle.stream_spec.specs.Numbering.{Numbered, numbered, greatest, has_number, Falling}
use Rattle.stream_spec.specs.Ready.{end_of}
use Rattle.reorder_buffer.specs.Stories.{Story, Given, due_at}
use Rattle.reorder_buffer.specs.States.{State, next_latest}
use Rattle.reorder_buffer.specs.Holding.{HoldsNumbers, Timed}
use Rattle.rtt_base.specs.declared.limits.TheConstants.{MOST_HELD}

-- A first packet came, and `given` was given. `out` is what is settled, given or not.
pub record Holding (s : State) (past : List Numbered) (given : List Given) : Type 0 where
  pub out : List Numbered
  pub holds : HoldsNumbers s.wait past s.moment s.first s.front out s.held
  pub falling : Falling past
  pub timed : Timed s.wait past s.moment s.first s.front s.latest
  pub settled_is : given ++ s.settled ≡ map (due_at s.wait past) out
  pub room : length s.held ≤ 65
  pub crowd : MOST_HELD < length s.held → has_number past s.front ≡ Bool.false → end_of s.wait past s.front ≡ s.moment

-- before the first packet
pub record Waiting (s : State) (story : Story) : Type 0 where
  pub past : story.past ≡ []
  pub given : story.given ≡ []
  pub settled : s.settled ≡ []
  pub held : s.held ≡ []
  pub latest : s.latest ≡ 0

pub data Phase (s : State) (story : Story) : Type 0 where
  Before : Waiting s story → Phase s story
  Within : Holding s (numbered story.past) story.given → Phase s story

pub record Follows (s : State) (story : Story) : Type 0 where
  pub wait : s.wait ≡ story.wait
  pub moment : s.moment ≡ story.moment
  pub arrivals : s.arrivals ≡ length story.past
  pub top : s.top ≡ greatest (numbered story.past)
  pub phase : Phase s story

-- the buffer was told and gave what the story says, and nothing more can be settled now
pub record Tracks (s : State) (story : Story) : Type 0 where
  pub follows : Follows s story
  pub still : next_latest s ≡ None

-- what settling leaves alone
pub record SameBut (s t : State) : Type 0 where
  pub wait : t.wait ≡ s.wait
  pub moment : t.moment ≡ s.moment
  pub arrivals : t.arrivals ≡ s.arrivals
  pub finished : t.finished ≡ s.finished
  pub first : t.first ≡ s.first
  pub top : t.top ≡ s.top
  pub packets : t.packets ≡ s.packets
  pub current : t.current ≡ s.current
  pub total : length t.settled + length t.held ≡ length s.settled + length s.held
