use Rattle.std.proofs.Common.{◌≡◌, List, []}
use Rattle.std.specs.Prelude.{All, IfSome}
use Rattle.recorded_links.specs.declared.calls.CallTrack.{CallTrack}
use Rattle.recorded_links.specs.Calls.{WaitsOn}
use Rattle.recorded_links.specs.Kept.{IsGivenOut, IsPlaceIn}
use Rattle.recorded_links.specs.Shelves.{noted}
use Rattle.recorded_links.proofs.Handing.{IsGoneTo}
use Rattle.recorded_links.proofs.handovers.give_out.Given as goal

abbrev pub invariant-loop-number : goal.invariant-loop-number
invariant-loop-number g l = record {
  gone : IsGoneTo (IsGivenOut l.port) l.number l.fn.places l.places;
  fresh_in : IfSome l.ends.0 (λ n. noted n.pass ≡ []);
  fresh_out : IfSome l.ends.1 (λ n. noted n.pass ≡ []);
  known_in : (rs : List CallTrack) → All (IsPlaceIn rs) l.fn.places → IfSome l.ends.0 (λ n. WaitsOn rs n.number n.pass);
  known_out : (rs : List CallTrack) → All (IsPlaceIn rs) l.fn.places → IfSome l.ends.1 (λ n. WaitsOn rs n.number n.pass);
}
