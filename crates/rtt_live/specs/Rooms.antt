-- Room for the legs of a live call.
use Rattle.std.specs.Prelude.{◌≡◌, ◌≤◌, ℕ, []}
use Rattle.std.specs.Vec.{vec_capacity}
use Rattle.workers.specs.Rooms.{HasRoom, IsUnused}
use Rattle.rtt_live.specs.declared.rooms.CallRoom.{CallRoom}

module _ {L G : Type 0} where
  -- nothing runs in it
  pub record IsUnusedCall (room : CallRoom L G) : Type 0 where
    pub lanes : IsUnused room.lanes
    pub no_port : room.ports.items ≡ []
    pub none_joined : room.joined.items ≡ []

  -- room for so many legs
  pub record HasCallRoom (n : ℕ) (room : CallRoom L G) : Type 0 where
    pub lanes : HasRoom n room.lanes
    pub no_port : room.ports.items ≡ []
    pub ports : n ≤ vec_capacity room.ports
    pub none_joined : room.joined.items ≡ []
    pub joined : n ≤ vec_capacity room.joined
