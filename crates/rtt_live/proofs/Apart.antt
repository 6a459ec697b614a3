-- In a conference of links each leg's input is a port of its own, each leg has a place, and none comes later or goes.
use Rattle.file_spec.specs.declared.conference_lines.Form.TheVariants.{Links}
use Rattle.mixer_spec.proofs.Conferences.{accepted_law}
use Rattle.live_spec.proofs.LinksStay.{links_stay}
use Rattle.live_spec.proofs.LinksStay as stay
use Rattle.rtt_live.specs.Calls.{LinksAreApart}

pub apart_law : LinksAreApart
apart_law octets c e =
    let w = stay.apart_law octets c e in
    record { ports = w.each; apart = w.differ; stay = links_stay octets c e (accepted_law Links octets c e).0 }
