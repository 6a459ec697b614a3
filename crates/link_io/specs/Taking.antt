-- What a `take` gave, as the definitions have it.
use Rattle.std.specs.Prelude.{ℕ, Bool, List, []}
use Rattle.stream_spec.specs.Links as link
use Rattle.link_io.specs.declared.ends.Came.{Came}
use Rattle.link_io.specs.declared.ends.Came.TheVariants as came
use Rattle.link_io.specs.declared.ends.LinkTake.{LinkTake}

-- where these octets lie beside it
abbrev pub came_of : Came → List ℕ → link.Came
came_of came.Datagram octets = link.Datagram octets
came_of came.Large octets = link.Large
came_of came.Quiet octets = link.Quiet
came_of came.Closed octets = link.Closed

abbrev pub taken_of : LinkTake → List ℕ → link.Taken
taken_of t octets = record { at = t.at; came = came_of t.came octets }

-- the link is closed with it
abbrev pub closes : Came → Bool
closes c = link.is_closing (came_of c [])
