-- What `mix` tells.
use Rattle.std.proofs.Common.{ℕ, List, [], refl, subst}
use Rattle.mixer_spec.specs.Headline.{Hop}
use Rattle.mixer_spec.specs.PieceLaws.{CutIsWhole, PiecesSayTheText}
use Rattle.command_spec.specs.Bridges.{cut_by, inward, onward_from}
use Rattle.rtt_words.specs.Words.{Mix}
use Rattle.rtt_top.specs.Runs.{Prints}
use Rattle.promise_tests.specs.Mixed.{MixTellsWhatWasTyped}
use Rattle.promise_tests.proofs.Endings.{all_done}
use Rattle.promise_tests.proofs.Typing.{all_pieces_at, at_all_pieces, cuts, only_pieces}

pub mix_tells : PiecesSayTheText → CutIsWhole → (WorldTells OutTells ErrTells : Type 0) → MixTellsWhatWasTyped WorldTells OutTells ErrTells
mix_tells said whole WorldTells OutTells ErrTells old new before after m tells r =
    let l = r.made tells (all_done r.ending r.is_status) (Mix m) refl in
    let b = l.made.bridge in
    record {
      bridge = b;
      mixed = l.made.mixed;
      prints = λ t. subst (λ (octets : List ℕ). Prints octets old new) l.made.views (l.prints t);
      only = λ j i pair h from.
          only_pieces (cut_by b) (inward b i h) (onward_from b j i) _ [] _ ((l.made.heard j i pair).headline h from);
      whole = λ stay j i pair h from.
          all_pieces_at said (cut_by b) (cuts whole b.conference) (inward b i h) (onward_from b j i)
          (at_all_pieces (cut_by b) (inward b i h) (onward_from b j i) ((l.made.heard j i pair).headline_all stay h from));
    }
