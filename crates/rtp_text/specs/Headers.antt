-- What a header that was read or is to be written stands for (RFC 3550, section 5.1).
use Rattle.rtp_text.specs.declared.headers.RtpView.{RtpView}
use Rattle.rtp_text.specs.declared.headers.RtpHead.{RtpHead}
use Rattle.wire_spec.specs.Rtp.{Reading, Head}

abbrev pub reading : RtpView → Reading
reading v =
    record { marker_bit = v.marker_bit; pt = v.pt; seq = v.seq; timestamp = v.timestamp; ssrc = v.ssrc; cc = v.cc; csrc = v.csrc; payload = v.payload.now }

abbrev pub spelled : RtpHead → Head
spelled h = record { marker_bit = h.marker_bit; pt = h.pt; seq = h.seq; timestamp = h.timestamp; ssrc = h.ssrc; csrc = h.csrc }
