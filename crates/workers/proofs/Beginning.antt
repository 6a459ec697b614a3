-- Lanes that are started, one for each of a list, each with an end of its own.
use Rattle.std.proofs.Common.{◌≡◌, ℕ, List}
use Rattle.std.specs.Global.{Vec}
use Rattle.std.specs.Vec.{vec_len}
use Rattle.workers.specs.declared.lanes.Worker.{Worker}
use Rattle.workers.specs.Lanes.{IsStarted}
use Rattle.workers.proofs.Matching.{Into}

-- the first of all are started, and as many ends are left as are still to be started
pub record AreStarting {Q F G E : Type 0} (stands : F → F → List Q → Type 0) (all rest : List F) (left : ℕ) (ends : Vec E) (lanes : Vec (Worker Q F G)) : Type 0 where
  pub into : Into (IsStarted stands) all rest left lanes
  pub ends_left : vec_len ends ≡ left
