-- What a leg behind another mixer tells.
use Rattle.std.proofs.Common.{ℕ, []}
use Rattle.mixer_spec.specs.PieceLaws.{CharactersAreWhole, PiecesSayTheText}
use Rattle.mixer_spec.specs.Pieces.{characters}
use Rattle.command_spec.specs.Bridges.{onward_from}
use Rattle.command_spec.specs.Cascading.{trunk_of}
use Rattle.command_spec.specs.Cascaded.{to_recording}
use Rattle.promise_tests.specs.Cascade.{CascadesTellWhatWasTyped}
use Rattle.promise_tests.proofs.Typing.{all_pieces_at, at_all_pieces, only_pieces, only_typed}

pub cascades_tell : PiecesSayTheText → CharactersAreWhole → CascadesTellWhatWasTyped
cascades_tell said whole held after conference file ssrc printed c j i pair leg at on h law come =
    let p = to_recording (trunk_of c.bridge.conference ssrc) c.octets leg.ssrc h in
    let q = onward_from c.bridge j i in
    let behind = c.behind i leg at on in
    let some = behind.headline_by_character j pair h law come in
    record {
      only = only_pieces characters p q some.0.front [] some.0.back some.1;
      blocks = λ free. let b = behind.headline free j pair h law come in only_typed p q b.0.front [] b.0.back b.1;
      whole = λ stay. all_pieces_at said characters whole p q (at_all_pieces characters p q (behind.headline_all_by_character stay j pair h law come));
    }
