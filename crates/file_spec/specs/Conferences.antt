-- A conference in the code as the definitions have it (profile).
use Rattle.file_spec.specs.Conference as conference
use Rattle.file_spec.specs.declared.conferences.Conference.{Conference}

abbrev pub meaning_of : Conference → conference.Conference
meaning_of c = record { legs = c.legs; tick = c.tick; spacing = c.spacing; wait = c.wait; turns = c.turns; relabel = c.relabel; mtu = c.mtu; mixer = c.mixer; plan = c.plan; service = c.service }
