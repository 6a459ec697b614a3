-- The refusals of a packet's header and of its blocks, as refusals of the packet (RFC 3550, section 5.1; RFC 2198, section 3).
use Rattle.wire_spec.specs.declared.faults.RtpFault.{RtpFault}
use Rattle.wire_spec.specs.declared.faults.RtpFault.TheVariants as rtp_faults
use Rattle.wire_spec.specs.declared.faults.RedFault.{RedFault}
use Rattle.wire_spec.specs.declared.faults.RedFault.TheVariants as red_faults
use Rattle.wire_spec.specs.declared.faults.TextFault.{TextFault}
use Rattle.wire_spec.specs.declared.faults.TextFault.TheVariants.{Short, Version, Padding, WrongType, Cut, Many, Long, NotText}

abbrev pub header_fault : RtpFault → TextFault
header_fault rtp_faults.Short = Short
header_fault rtp_faults.Version = Version
header_fault rtp_faults.Padding = Padding

abbrev pub blocks_fault : RedFault → TextFault
blocks_fault red_faults.WrongType = WrongType
blocks_fault red_faults.Cut = Cut
blocks_fault red_faults.Many = Many
blocks_fault red_faults.Long = Long
blocks_fault red_faults.NotText = NotText
