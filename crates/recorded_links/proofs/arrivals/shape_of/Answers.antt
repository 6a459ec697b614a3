use Rattle.std.proofs.Common.{refl, sym}
use Rattle.rtp_text.proofs.Plain.{older_count}
use Rattle.rtp_text.specs.Views.{packet_in}
use Rattle.recorded_links.proofs.arrivals.shape_of.Goals as goal

pub returns-in-Some : goal.returns-in-Some
returns-in-Some c =
    let view = c.in-Some.view in (
      packet_in view,
      record {
        read = c.in-Some.ensures.packet;
        ssrc = refl;
        seq = refl;
        blocks = older_count view.count view.headers.now view.older.now;
        blank = sym c.is_blank.ensures;
      },
    )
