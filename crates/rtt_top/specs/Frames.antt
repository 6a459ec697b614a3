-- The faults of frames that are relayed or written.
use Rattle.std.specs.Prelude.{ℕ, ◌+◌}
use Rattle.file_spec.specs.declared.frames.FrameRefusal.{FrameRefusal}
use Rattle.file_spec.specs.declared.frame_limits.TheConstants.{FRAME_HEAD_OCTETS, MOST_FRAMES_OCTETS}
use Rattle.command_spec.specs.declared.faults.Refusal.TheVariants.{AtFrame}
use Rattle.command_spec.specs.declared.faults.Fault.{Fault}
use Rattle.command_spec.specs.declared.faults.Fault.TheVariants.{Refused, NoMemory}
use Rattle.text_conversions.specs.declared.relay_faults.ChannelFault.{ChannelFault}
use Rattle.text_conversions.specs.declared.relay_faults.ChannelFault.TheVariants as channel
use Rattle.text_conversions.specs.declared.relay_faults.RelayFault.{RelayFault}
use Rattle.text_conversions.specs.declared.relay_faults.RelayFault.TheVariants as relay
use Rattle.rtt_top.specs.Faults.{fault_of_dump}

-- so many octets are read of frames: those that frames may have, and the head of one more
abbrev pub most_read : ℕ
most_read = MOST_FRAMES_OCTETS + FRAME_HEAD_OCTETS

-- a refusal of frames of the first input
abbrev pub refused_frames : FrameRefusal → Fault
refused_frames fault = Refused 0 (AtFrame fault.offset fault.kind)

abbrev pub fault_of_relay : RelayFault → Fault
fault_of_relay (relay.Refused fault) = refused_frames fault
fault_of_relay relay.NoMemory = NoMemory

abbrev pub fault_of_channel : ChannelFault → Fault
fault_of_channel (channel.Dump fault) = fault_of_dump 0 fault
fault_of_channel (channel.Refused fault) = refused_frames fault
fault_of_channel channel.NoMemory = NoMemory
