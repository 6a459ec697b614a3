use Rattle.std.proofs.Common.{ℕ, List, length, take, Result, Ok, Err, OnErr, sym, subst}
use Rattle.std.proofs.Math.Seq.{take-length}
use Rattle.std.specs.Io.KnownBytes.{Appends}
use Rattle.rtt_io.proofs.streams.write_stored.Goals as goal

-- all of a list is a front of it
front_of_all : {T E : Type 0} (P : List ℕ → Type 0) (xs : List ℕ) (r : Result T E) → P xs → OnErr r ((n : ℕ) × P (take n xs))
front_of_all P xs (Ok x) p = tt
front_of_all P xs (Err e) p = (length xs, subst P (sym (take-length xs)) p)

pub returns-in-Ok-clause-partly : goal.returns-in-Ok-clause-partly
returns-in-Ok-clause-partly g c =
    front_of_all (Appends (g.W.Write.contents c.args.to.now) (g.W.Write.contents c.write_whole.new.to)) c.args.octets.now c.store.result c.in-Ok.ensures.whole
