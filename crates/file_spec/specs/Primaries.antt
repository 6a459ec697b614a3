-- How long the primary texts of a leg's packets may be (profile).
use Rattle.std.specs.Prelude.{ℕ, Bool, if◌then◌else◌}
use Rattle.rtt_base.specs.declared.limits.TheConstants.{MOST_PRIMARY_OCTETS, MOST_TEXT_OCTETS}

-- Where a leg's texts may be long, what a packet leaves; else no more than any block may have.
abbrev pub primary_limit : Bool → ℕ
primary_limit long = if long then MOST_PRIMARY_OCTETS else MOST_TEXT_OCTETS
