use Rattle.stream_spec.proofs.laws.still_keeps.Goals as goal
use Rattle.stream_spec.proofs.StillChunks.{chunks_still}
use Rattle.stream_spec.proofs.Still.{come_still, falls_still, lawful_still, numbered_still, placed_still, places_still, still_same, texts_still, used_still}

pub returns-clause-lawful : goal.returns-clause-lawful
returns-clause-lawful c = lawful_still

pub returns-clause-come : goal.returns-clause-come
returns-clause-come c = come_still

pub returns-clause-placed : goal.returns-clause-placed
returns-clause-placed c = placed_still

pub returns-clause-same : goal.returns-clause-same
returns-clause-same c = still_same

pub returns-clause-numbers : goal.returns-clause-numbers
returns-clause-numbers c = numbered_still

pub returns-clause-used : goal.returns-clause-used
returns-clause-used c = used_still

pub returns-clause-places : goal.returns-clause-places
returns-clause-places c = places_still

pub returns-clause-falls : goal.returns-clause-falls
returns-clause-falls c = falls_still

pub returns-clause-texts : goal.returns-clause-texts
returns-clause-texts c = texts_still

pub returns-clause-chunks : goal.returns-clause-chunks
returns-clause-chunks c = chunks_still
