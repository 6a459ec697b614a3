-- What a live call tells.
use Rattle.std.proofs.Common.{ℕ, List, [], ◌++◌, refl, subst, sym}
use Rattle.std.proofs.lemmas.List.{append-nil}
use Rattle.stream_spec.specs.StillLaws.{StillIsLawful, StillComes}
use Rattle.mixer_spec.specs.Setups.{setup}
use Rattle.stream_spec.specs.Carries.{Carries}
use Rattle.mixer_spec.specs.Bridged.{IsPart, cutting_of, pieces_heard, told_at}
use Rattle.mixer_spec.specs.Headline.{Hop, IsHop}
use Rattle.mixer_spec.specs.PieceLaws.{CutIsWhole, PiecesSayTheText}
use Rattle.mixer_spec.specs.PieceHeadline.{HopsHavePieces, PieceHeadlineAt}
use Rattle.mixer_spec.specs.Headlines.{hop_behind}
use Rattle.live_spec.specs.Served.{came_live}
use Rattle.live_spec.specs.HeadLive.{OneSenderIsHeard, inward_live}
use Rattle.promise_tests.specs.Live.{LiveCallsTellWhatWasTyped}
use Rattle.promise_tests.proofs.Typing.{all_pieces_at, cuts, only_pieces, pieces_but}
use Rattle.mixer_spec.proofs.Plain.{leg_there}

-- all of it is a part of it
abbrev all_of : (heard : List (List ℕ)) → IsPart 0 heard heard
all_of heard = record { before = []; after = []; count = refl; whole = sym (append-nil heard) }

pub live_tells : HopsHavePieces → CutIsWhole → PiecesSayTheText → StillIsLawful → StillComes → OneSenderIsHeard → LiveCallsTellWhatWasTyped
live_tells hops whole says lawful come one c takes given end printed live j i pair h from wait came then =
    let p = inward_live c takes i h in
    let q = hop_behind (setup c) live.served.table j i wait came in
    let leg = leg_there c.legs j pair.terminal in
    let told = live.told j i pair in
    let first : IsHop p = record { lawful = lawful h from.lawful; come = come h (came_live c takes i) from.come } in
    let second : IsHop q = record { lawful = (live.sent j leg.0 leg.1).lawful; come = then } in
    let cutting = cutting_of c in
    let is = cuts whole c in
    let so_far : PieceHeadlineAt cutting p q [] told.rest [] = told.headline h from wait came then in
    record {
      only = only_pieces cutting p q [] told.rest [] so_far;
      front = pieces_but says cutting is p q told.rest so_far;
      whole = λ closed.
          let carries = subst (λ (ts : List (List ℕ)). Carries (told_at (setup c) live.served.table j) ((setup c).ssrc i) ts) (one c takes i from.alone) (told.whole closed) in
          all_pieces_at says cutting is p q (hops cutting is p q first second 0 (pieces_heard cutting p) [] (all_of (pieces_heard cutting p)) carries);
    }
