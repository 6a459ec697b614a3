-- Packets at places, and how often a place is named (profile).
use Rattle.std.specs.Prelude.{◌≡◌, ℕ, ◌+◌, ◌==◌, Bool, true, false, ◌⊎◌, List, [], ◌∷◌, ◌++◌, length, get_or, slice_set}
use Rattle.rtt_base.specs.declared.text_packets.TextPacket.{TextPacket}

-- `spare`: the places whose packets are of no use; `current`: the place of the packet that is read or was given last
pub record Pool : Type 0 where
  pub packets : List TextPacket
  pub spare : List ℕ
  pub current : ℕ

abbrev pub no_packet : TextPacket
no_packet = record { marker_bit = false; seq = 0; timestamp = 0; ssrc = 0; source = 0; older = []; primary = [] }

abbrev pub packet_at : List TextPacket → ℕ → TextPacket
packet_at packets place = get_or packets place no_packet

abbrev pub current_packet : Pool → TextPacket
current_packet p = packet_at p.packets p.current

abbrev pub with_current : Pool → TextPacket → Pool
with_current p w = record p { packets = slice_set p.packets p.current w }

-- a new packet is current
abbrev pub with_new : Pool → Pool
with_new p = record p { packets = p.packets ++ no_packet ∷ []; current = length p.packets }

-- another place is current: a spare one, or where there is none a new one
abbrev pub IsRenewed : Pool → Pool → Type 0
IsRenewed old new =
    ((old.spare ≡ new.spare ++ new.current ∷ []) × (new.packets ≡ old.packets))
    ⊎ ((old.spare ≡ []) × (new.spare ≡ []) × (new.current ≡ length old.packets) × (new.packets ≡ old.packets ++ no_packet ∷ []))

-- the current place is spare, and this one is current
abbrev pub turned_to : Pool → ℕ → Pool
turned_to p place = record p { spare = p.spare ++ p.current ∷ []; current = place }

abbrev pub one_if : Bool → ℕ
one_if true = 1
one_if false = 0

-- how often the place is among these
abbrev pub times : ℕ → List ℕ → ℕ
times place [] = 0
times place (x ∷ xs) = one_if (x == place) + times place xs
