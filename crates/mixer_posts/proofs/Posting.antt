-- The posts of a turn, one behind the other, are those of the definition.
use Rattle.std.proofs.Common.{◌≡◌, ℕ, suc, ◌+◌, ◌<◌, List, [], ◌∷◌, ◌++◌, length, take, drop, get_or, add-one, refl, ap, subst, sym, ◌∙◌}
use Rattle.std.proofs.lemmas.List.Elements.{All-get_or}
use Rattle.std.proofs.lemmas.List.{take-append-drop}
use Rattle.std.proofs.Math.Seq.{drop-cons, take-suc}
use Rattle.rtt_base.specs.declared.text_packets.PayloadTypes.{PayloadTypes}
use Rattle.mixer_spec.specs.Setups.{Setup}
use Rattle.mixer.specs.declared.batches.Post.{Post}
use Rattle.mixer.specs.Posts.{ArePosts, IsPost}
use Rattle.mixer_posts.specs.Posts.{AreNext, IsHaltedIn, Takes, TakesAll, TakesSome, with_posts}
use Rattle.mixer_posts.proofs.Nexts.{next_before}

-- ---- one more
pub with_one : (now : ℕ) (xs : List Post) (p : Post) (sent : List (ℕ × Post)) → with_posts now (xs ++ p ∷ []) sent ≡ (now, p) ∷ with_posts now xs sent
with_one now [] p sent = refl
with_one now (x ∷ xs) p sent = with_one now xs p ((now, x) ∷ sent)

module _ {O : Type 0} (took : O → Setup → (ℕ → PayloadTypes) → List (ℕ × Post) → Type 0) (now : ℕ) (posts : List Post) where
  -- the first of them were taken
  abbrev pub Taken : ℕ → O → O → Type 0
  Taken i old new = TakesAll took old new now (take i posts)

  pub taken_more : (old mid new : O) (i : ℕ) (p : Post) → i < length posts → p ≡ get_or posts i p → Taken i old mid → Takes took mid new now p → Taken (i + 1) old new
  taken_more old mid new i p low is taken takes s payload_types sent next h =
      let before = with_posts now (take i posts) sent in
      let more : take (i + 1) posts ≡ take i posts ++ p ∷ [] = ap (λ n. take n posts) (add-one i) ∙ (take-suc posts i p low ∙ ap (λ (x : Post). take i posts ++ x ∷ []) (sym is)) in
      let all : with_posts now (take (i + 1) posts) sent ≡ (now, p) ∷ before = ap (λ xs. with_posts now xs sent) more ∙ with_one now (take i posts) p sent in
      let last : AreNext s ((now, p) ∷ before) = subst (λ (xs : List (ℕ × Post)). AreNext s xs) all next in
      subst (λ (xs : List (ℕ × Post)). took new s payload_types xs) (sym all) (takes s payload_types before last (taken s payload_types sent (next_before s now p before last) h))

-- those of the first may be sent that may be followed by others
next_front : (s : Setup) (now : ℕ) (ys : List Post) (sent : List (ℕ × Post)) → AreNext s (with_posts now ys sent) → AreNext s sent
next_front s now [] sent h = h
next_front s now (y ∷ ys) sent h = next_before s now y sent (next_front s now ys ((now, y) ∷ sent) h)

with_both : (now : ℕ) (xs ys : List Post) (sent : List (ℕ × Post)) → with_posts now (xs ++ ys) sent ≡ with_posts now ys (with_posts now xs sent)
with_both now [] ys sent = refl
with_both now (x ∷ xs) ys sent = with_both now xs ys ((now, x) ∷ sent)

-- the one at a place stands between those before it and those behind
around : (posts : List Post) (i : ℕ) (p : Post) → i < length posts → p ≡ get_or posts i p → posts ≡ take i posts ++ p ∷ drop (suc i) posts
around posts i p low is = sym (take-append-drop i posts) ∙ ap (λ (qs : List Post). take i posts ++ qs) (drop-cons posts i p low ∙ ap (λ (q : Post). q ∷ drop (suc i) posts) (sym is))

-- the first of them were taken, and maybe one more
pub halted_in : {O : Type 0} (took : O → Setup → (ℕ → PayloadTypes) → List (ℕ × Post) → Type 0) (halted : O → Setup → (ℕ → PayloadTypes) → List (ℕ × Post) → ℕ → Post → Type 0) (now : ℕ) (posts : List Post) (old mid new : O) (i : ℕ) (p : Post) → i < length posts → p ≡ get_or posts i p
    → Taken took now posts i old mid → TakesSome took halted mid new now p → (s : Setup) (payload_types : ℕ → PayloadTypes) (sent : List (ℕ × Post)) → AreNext s (with_posts now posts sent) → took old s payload_types sent → IsHaltedIn halted new s payload_types sent now posts
halted_in took halted now posts old mid new i p low is taken some s payload_types sent next h =
    let first = take i posts in
    let left = drop (suc i) posts in
    let are = around posts i p low is in
    let before = with_posts now first sent in
    let all : with_posts now posts sent ≡ with_posts now left ((now, p) ∷ before) = ap (λ ps. with_posts now ps sent) are ∙ with_both now first (p ∷ left) sent in
    let here : AreNext s ((now, p) ∷ before) = next_front s now left ((now, p) ∷ before) (subst (λ (xs : List (ℕ × Post)). AreNext s xs) all next) in
    record { first = first; next = p; left = left; are = are; halts = some s payload_types before here (taken s payload_types sent (next_before s now p before here) h) }

-- each of them is one, read as the loop reads it
pub is_post : (sources : List ℕ) (posts : List Post) (i : ℕ) (p : Post) → i < length posts → p ≡ get_or posts i p → ArePosts sources posts → IsPost sources p
is_post sources posts i p low is all = subst (IsPost sources) (sym is) (All-get_or (IsPost sources) posts i p low all)
