-- What is usual where a command names nothing else (profile).
use Rattle.rtt_base.specs.declared.text_packets.PayloadTypes.{PayloadTypes}
use Rattle.file_spec.specs.declared.limits.TheConstants.{USUAL_T140, USUAL_RED}

-- where no payload types are named
abbrev pub usual_payload_types : PayloadTypes
usual_payload_types = record { t140 = USUAL_T140; red = USUAL_RED }
