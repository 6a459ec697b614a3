use Rattle.stream_spec.proofs.laws.chunks_are_heard.Goals as goal
use Rattle.stream_spec.proofs.ChunkTexts.{chunk_texts, chunks_rise}

pub returns-clause-texts : goal.returns-clause-texts
returns-clause-texts c = chunk_texts

pub returns-clause-ready : goal.returns-clause-ready
returns-clause-ready c = chunks_rise
