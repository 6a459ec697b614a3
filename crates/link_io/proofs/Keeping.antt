-- What is kept behind others stands before them, newest first.
use Rattle.std.proofs.Common.{◌≡◌, List, [], ◌∷◌, ◌++◌, ap}
use Rattle.std.specs.Prelude.{map}
use Rattle.std.proofs.lemmas.List.{map-append, reverse-append}
use Rattle.link_io.specs.declared.mem_ins.TakeLog.{TakeLog}
use Rattle.link_io.specs.Told.{take_told, takes_told}
use Rattle.link_io.specs.declared.mem_outs.GivenPacket.{GivenPacket}
use Rattle.link_io.specs.GivenTold.{give_told, gives_told}

pub told_more : (told : List TakeLog) (t : TakeLog) → takes_told (told ++ t ∷ []) ≡ take_told t ∷ takes_told told
told_more told t = ap (λ ts. map take_told ts) (reverse-append told (t ∷ []))

pub given_more : (given : List GivenPacket) (g : GivenPacket) → gives_told (given ++ g ∷ []) ≡ gives_told given ++ give_told g ∷ []
given_more given g = map-append give_told given (g ∷ [])
