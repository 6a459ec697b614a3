use Rattle.rtp_text.specs.Headers.{reading}
use Rattle.rtp_text.specs.Reading.{headers_of}
use Rattle.rtp_text.specs.Views.{older_at}
use Rattle.rtp_text.proofs.Viewing.{cut_read, packet_read}
use Rattle.rtp_text.proofs.views.view_texts.Goals as goal

pub returns-clause-packet : goal.returns-clause-packet
returns-clause-packet c =
    rw (c.unwrap_or.ensures) (packet_read (reading c.args.head.now) (older_at (headers_of c.args.count c.args.headers.now) c.in-Some.older.now) c.in-Some.primary.now)

pub returns-clause-texts : goal.returns-clause-texts
returns-clause-texts c = cut_read c.args.most (headers_of c.args.count c.args.headers.now) c.args.texts.now c.in-Some.older.now c.in-Some.primary.now (rw (← c.requires.older) c.in-Some.ensures)
