-- What lies outside a run at one moment.
use Rattle.std.specs.Prelude.{ℕ, List, []}
use Rattle.rtt_io.specs.Counts.{Rose}
use Rattle.rtt_io.specs.declared.sinks.Sink as sinks
use Rattle.rtt_io.specs.declared.worlds.World as worlds
use Rattle.stream_spec.specs.Links.{Takes}
use Rattle.link_io.specs.declared.links.Links as links
use Rattle.command_spec.specs.Work.{Contents}
use Rattle.rtt_mix.specs.Mixes.{NoOtherFailed}

-- What an output took, and how often it failed.
pub record Output : Type 0 where
  pub octets : List ℕ
  pub faults : ℕ

-- The links that were opened, oldest first, each with its port and its peer. What links left at their ports: what the takes of an inbound end gave, newest first, and the packets that an outbound end was given,
-- oldest first; how often a call that opens a port failed, and how often the ends of a port did; the last moment that their clock told, and
-- the number of pauses.
pub record LinksLeft : Type 0 where
  pub leads : List (ℕ × List ℕ)
  pub taken : ℕ → Takes
  pub given : ℕ → List (ℕ × List ℕ)
  pub calls : ℕ → ℕ
  pub ends : ℕ → ℕ
  pub moment : ℕ
  pub pauses : ℕ

-- where no link is used
abbrev pub no_links : LinksLeft
no_links = record { leads = []; taken = λ port. []; given = λ port. []; calls = λ port. 0; ends = λ port. 0; moment = 0; pauses = 0 }

-- The octets under each name; how often a call that opens or creates a name failed; how often the sources and sinks of a
-- name failed; the output; and what links left.
pub record Outside : Type 0 where
  pub contents : Contents
  pub calls : List ℕ → ℕ
  pub objects : List ℕ → ℕ
  pub out : Output
  pub links : LinksLeft

abbrev pub output : List ℕ → ℕ → Output
output octets faults = record { octets = octets; faults = faults }

abbrev pub outside : Contents → (List ℕ → ℕ) → (List ℕ → ℕ) → Output → Outside
outside contents calls objects out = record { contents = contents; calls = calls; objects = objects; out = out; links = no_links }

-- this sink, as an output
abbrev pub output_at : {K : Type 0} → sinks.Ghosts K → K → Output
output_at k out = output (k.took out) (k.faults out)

-- what lies outside, where this is the world and this the output
abbrev pub outside_at : {W S D P K : Type 0} → worlds.Ghosts W S D P → sinks.Ghosts K → W → K → Outside
outside_at w k world out = outside (w.contents world) (w.own_faults world) (w.object_faults world) (output_at k out)

-- what these links left
abbrev pub left_by : {L I O C : Type 0} → links.Ghosts L I O C → L → LinksLeft
left_by l left = record {
  leads = l.leads left;
  taken = l.taken_at left;
  given = l.given_at left;
  calls = l.own_faults left;
  ends = l.object_faults left;
  moment = l.moment left;
  pauses = l.pauses left;
}

-- the same, where links left this
abbrev pub with_links : Outside → LinksLeft → Outside
with_links o left = record o { links = left }

-- what lies outside, where this is the world, this the output and these the links
abbrev pub outside_over : {W S D P K L I O C : Type 0} → worlds.Ghosts W S D P → sinks.Ghosts K
    → links.Ghosts L I O C → W → K → L → Outside
outside_over w k l world out left = with_links (outside_at w k world out) (left_by l left)

-- the count of this name rose
abbrev pub RoseAt : (List ℕ → ℕ) → (List ℕ → ℕ) → List ℕ → Type 0
RoseAt old new name = Rose (old name) (new name)

-- the output failed
abbrev pub Failed : Output → Output → Type 0
Failed old new = Rose old.faults new.faults

-- a call that opens or creates this name failed
abbrev pub CallFailed : Outside → Outside → List ℕ → Type 0
CallFailed old new name = RoseAt old.calls new.calls name

-- a call that opens this name failed, and, where something lies there, none that opens another one, as far as the world tells
abbrev pub OpenFailed : (WorldTells : Type 0) → Outside → Outside → List ℕ → Type 0
OpenFailed WorldTells old new name = CallFailed old new name × (WorldTells → NoOtherFailed old.contents name old.calls new.calls)

-- a source or a sink of this name failed
abbrev pub ObjectFailed : Outside → Outside → List ℕ → Type 0
ObjectFailed old new name = RoseAt old.objects new.objects name
