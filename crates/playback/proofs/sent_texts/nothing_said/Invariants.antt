use Rattle.std.proofs.Common.{◌≡◌, vec_len}
use Rattle.std.specs.Prelude.{All}
use Rattle.terminal.specs.Terminals.{IsEmpty}
use Rattle.playback.proofs.sent_texts.nothing_said.Given as goal

abbrev pub invariant-loop-source : goal.invariant-loop-source
invariant-loop-source l = record {
  count : vec_len l.texts ≡ l._source;
  empty : All IsEmpty l.texts.items;
}
