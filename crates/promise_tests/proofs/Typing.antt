-- What the headline says of what was typed.
use Rattle.std.proofs.Common.{◌≡◌, ℕ, Option, None, Some, List, [], ◌++◌, map, refl, ap, sym, ◌∙◌, arith}
use Rattle.std.specs.List.{concat}
use Rattle.std.proofs.lemmas.List.{append-nil, map-append}
use Rattle.std.proofs.lemmas.List.Folds.{concat-append}
use Rattle.file_spec.specs.Conference.{Conference}
use Rattle.stream_spec.specs.Kept.{Block, Item, text_of, texts}
use Rattle.mixer_spec.specs.Through.{text_entries}
use Rattle.mixer_spec.specs.Headline.{Cut, HeadlineAt, Hop, IsCutAt, hears, said, told_by}
use Rattle.mixer_spec.specs.Pieces.{IsCutting, pieces}
use Rattle.mixer_spec.specs.PieceLaws.{CutIsWhole, PiecesSayTheText}
use Rattle.mixer_spec.specs.PieceHeadline.{PieceHeadline, PieceHeadlineAt, all_pieces}
use Rattle.mixer_spec.specs.Rooms.{piece_within}
use Rattle.mixer_spec.specs.Bridged.{cutting_of}
use Rattle.promise_tests.specs.Typed.{IsAllTyped, IsOnlyPieces, IsOnlyTyped, IsTypedBut, all_typed}

said_append : (xs ys : List Item) → said (xs ++ ys) ≡ said xs ++ said ys
said_append xs ys = ap concat (map-append text_of xs ys) ∙ concat-append (texts xs) (texts ys)

pub only_typed : (p q : Hop) (front rest back : List (List ℕ)) → HeadlineAt p q front rest back → IsOnlyTyped p q
only_typed p q front rest back e =
    record { items = told_by e.0.sent q; heard = e.2.joined; typed = e.2.blocks; order = e.2.order }

-- where nothing stands before what is sent on, nor behind what waits
but_of : (q : Hop) (cut : Cut) (rest : List (List ℕ)) (typed : List ℕ) → IsCutAt cut [] rest [] → concat (hears q) ≡ said (told_by cut.sent q)
    → said (cut.before ++ (told_by cut.sent q ++ (cut.waiting ++ cut.behind))) ≡ typed → concat (hears q) ++ concat rest ≡ typed
but_of q cut rest typed at joined whole =
    let tail : said (cut.waiting ++ cut.behind) ≡ concat rest =
    said_append cut.waiting cut.behind ∙ (ap (λ (x : List ℕ). x ++ said cut.behind) (ap concat at.waiting) ∙ (ap (λ (x : List ℕ). concat rest ++ x) (ap concat at.behind) ∙ append-nil (concat rest))) in
    ap (λ (x : List ℕ). x ++ concat rest) joined
    ∙ (ap (λ (x : List ℕ). said (told_by cut.sent q) ++ x) (sym tail)
    ∙ (sym (said_append (told_by cut.sent q) (cut.waiting ++ cut.behind))
    ∙ (ap (λ (x : List ℕ). x ++ said (told_by cut.sent q ++ (cut.waiting ++ cut.behind))) (sym (ap concat at.before))
    ∙ (sym (said_append cut.before (told_by cut.sent q ++ (cut.waiting ++ cut.behind)))
    ∙ whole))))

-- ---- in pieces
pub only_pieces : (cutting : List ℕ → List (List ℕ)) (p q : Hop) (front rest back : List (List ℕ)) → PieceHeadlineAt cutting p q front rest back → IsOnlyPieces cutting p q
only_pieces cutting p q front rest back e =
    record { items = told_by e.0.sent q; heard = e.2.joined; typed = e.2.pieces; order = e.2.order }

pub pieces_but : PiecesSayTheText → (cutting : List ℕ → List (List ℕ)) → IsCutting cutting → (p q : Hop) (rest : List (List ℕ)) → PieceHeadlineAt cutting p q [] rest [] → IsTypedBut p q rest
pieces_but says cutting is p q rest e first second =
    but_of q e.0 rest (all_typed p) e.1 e.2.joined (ap said (e.2.whole first second) ∙ says cutting is (map Block (text_entries p.sent p.source)))

pub all_pieces_at : PiecesSayTheText → (cutting : List ℕ → List (List ℕ)) → IsCutting cutting → (p q : Hop) → PieceHeadlineAt cutting p q [] [] [] → IsAllTyped p q
all_pieces_at says cutting is p q e first second = sym (append-nil (concat (hears q))) ∙ pieces_but says cutting is p q [] e first second

pub at_all_pieces : (cutting : List ℕ → List (List ℕ)) (p q : Hop) → PieceHeadline cutting p q (all_pieces cutting p) → PieceHeadlineAt cutting p q [] [] []
at_all_pieces cutting p q e = (all_pieces cutting p, record { before = refl; waiting = refl; behind = refl }, e)

-- that of a conference cuts
pub cuts : CutIsWhole → (c : Conference) → IsCutting (cutting_of c)
cuts whole c = go c.mtu
  where
    go : (mtu : Option ℕ) → IsCutting (pieces (piece_within mtu))
    go None = whole 1023 (omega arith)
    go (Some most) = whole 128 (omega arith)
