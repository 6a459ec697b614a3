-- Which link of a conference failed.
use Rattle.std.specs.Prelude.{◌≡◌, ◌⊎◌, ℕ, Some, List}
use Rattle.rtt_io.specs.Counts.{Rose}
use Rattle.file_spec.specs.declared.conference_lines.LegLine.{LegLine}
use Rattle.file_spec.specs.Conference.{Conference, port}
use Rattle.mixer_spec.specs.Setups.{leg_at}
use Rattle.rtt_top.specs.Outside.{LinksLeft}

-- The leg of this number has this name, and its link could not be opened, or one of its ends failed.
pub record LegFailed (c : Conference) (leg : ℕ) (name : List ℕ) (old new : LinksLeft) : Type 0 where
  pub line : LegLine
  pub at : leg_at c.legs leg ≡ Some line
  pub named : name ≡ line.name
  pub number : ℕ
  pub is : port line.input ≡ Some number
  pub rose : Rose (old.calls number) (new.calls number) ⊎ Rose (old.ends number) (new.ends number)
