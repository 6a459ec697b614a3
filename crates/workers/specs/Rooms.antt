-- Room for lanes.
use Rattle.std.specs.Prelude.{◌≡◌, ◌≤◌, ℕ, [], vec_len}
use Rattle.std.specs.Global.{Vec}
use Rattle.std.specs.Vec.{vec_capacity}
use Rattle.workers.specs.declared.rooms.WorkerRoom.{WorkerRoom}

-- room for so many that come back
pub record HasRoomBack {F : Type 0} (n : ℕ) (room : Vec F) : Type 0 where
  pub none_back : room.items ≡ []
  pub back : n ≤ vec_capacity room

module _ {Q F G : Type 0} where
  -- nothing runs in it
  pub record IsUnused (room : WorkerRoom Q F G) : Type 0 where
    pub no_lane : room.lanes.items ≡ []
    pub none_back : room.back.items ≡ []

  -- room for so many lanes
  pub record HasRoom (n : ℕ) (room : WorkerRoom Q F G) : Type 0 where
    pub ends : vec_len room.ends ≡ n
    pub no_lane : room.lanes.items ≡ []
    pub lanes : n ≤ vec_capacity room.lanes
    pub none_back : room.back.items ≡ []
    pub back : n ≤ vec_capacity room.back
