-- What a leg gave, answer by answer.
use Rattle.std.proofs.Common.{◌≡◌, Bool, true, false, true≢false, not, List, [], ◌∷◌, ◌++◌, refl, ap, sym, ◌∙◌, subst}
use Rattle.std.proofs.lemmas.List.{append-nil}
use Rattle.std.proofs.lemmas.Str.{IsUtf8-from_is_utf8, is_utf8-from_IsUtf8}
use Rattle.stream_spec.specs.Ready.{Chunk}
use Rattle.workers.specs.Giving.{items_by}
use Rattle.workers.specs.declared.lanes.Worker.{Worker}
use Rattle.workers.specs.Lanes.{LaneFollows, popped_of}
use Rattle.mix_loop.specs.declared.answers.Answer.{Answer}
use Rattle.mix_loop.specs.declared.items.Item.{Item}
use Rattle.mix_loop.specs.declared.items.Item.TheVariants as item
use Rattle.mix_loop.specs.Answers.{EndsOnce, GaveAs, GivesAnswer, gave_from, gave_of, is_later, said_in}
use Rattle.mix_loop.specs.Items.{Gave, IsSaid, gave_more, goes_on, is_open, nothing}
use Rattle.mix_loop.specs.Lanes.{LaneStands}
use Rattle.mix_loop.specs.Texts.{HasText}
use Rattle.stream_spec.proofs.Plain.{none_left as nothing_behind}

by_cases : {P : Type 0} (b : Bool) → (b ≡ true → P) → (b ≡ false → P) → P
by_cases true t f = t refl
by_cases false t f = f refl

module _ {F : Type 0} where
  -- ---- one answer
  goes_with : (x : Item F) (c : Chunk) (g : Gave F) → goes_on x ≡ true → is_open (gave_more x c g).ended ≡ is_open g.ended
  goes_with item.Chunk c g e = refl
  goes_with item.Later c g e = refl
  goes_with item.End c g e = absurd (true≢false (sym e))
  goes_with (item.Fault f) c g e = absurd (true≢false (sym e))

  ends_with : (x : Item F) (c : Chunk) (g : Gave F) → goes_on x ≡ false → is_open (gave_more x c g).ended ≡ false
  ends_with item.Chunk c g e = absurd (true≢false e)
  ends_with item.Later c g e = absurd (true≢false e)
  ends_with item.End c g e = refl
  ends_with (item.Fault f) c g e = refl

  more_closed : (x : Item F) (c : Chunk) (g : Gave F) → is_open g.ended ≡ false → is_open (gave_more x c g).ended ≡ false
  more_closed item.Chunk c g e = e
  more_closed item.Later c g e = e
  more_closed item.End c g e = refl
  more_closed (item.Fault f) c g e = refl

  later_adds_none : (x : Item F) (c : Chunk) (g : Gave F) → is_later x ≡ true → gave_more x c g ≡ g
  later_adds_none item.Chunk c g e = absurd (true≢false (sym e))
  later_adds_none item.Later c g e = refl
  later_adds_none item.End c g e = absurd (true≢false (sym e))
  later_adds_none (item.Fault f) c g e = absurd (true≢false (sym e))

  pub has_text_of : (x : Item F) (c : Chunk) → (x ≡ item.Chunk → IsSaid c) → HasText x c
  has_text_of x c h e = let is = h e in (is.text, is_utf8-from_IsUtf8 c.text is.utf8)

  pub is_said : (x : Item F) (c : Chunk) → HasText x c → x ≡ item.Chunk → IsSaid c
  is_said x c h e = let is = h e in record { text = is.0; utf8 = IsUtf8-from_is_utf8 c.text is.1 }

  -- ---- all answers
  gave_push : (g : Gave F) (xs : List (Answer F)) (a : Answer F) → gave_from g (xs ++ a ∷ []) ≡ gave_more a.item (said_in a) (gave_from g xs)
  gave_push g [] a = refl
  gave_push g (x ∷ xs) a = gave_push (gave_more x.item (said_in x) g) xs a

  stays_closed : (g : Gave F) (xs : List (Answer F)) → is_open g.ended ≡ false → is_open (gave_from g xs).ended ≡ false
  stays_closed g [] e = e
  stays_closed g (x ∷ xs) e = stays_closed (gave_more x.item (said_in x) g) xs (more_closed x.item (said_in x) g e)

  once_push : (g : Gave F) (xs : List (Answer F)) (a : Answer F) → is_open (gave_from g xs).ended ≡ true → EndsOnce xs → EndsOnce (xs ++ a ∷ [])
  once_push g [] a o t = ((λ e. refl), tt)
  once_push g (x ∷ xs) a o t = (
    (λ e. absurd (true≢false (sym o ∙ stays_closed (gave_more x.item (said_in x) g) xs (ends_with x.item (said_in x) g e)))),
    once_push (gave_more x.item (said_in x) g) xs a o t.1,
  )

  -- a front of the answers by which all has ended is all of them
  front_is_all : (g : Gave F) (xs rest : List (Answer F)) → is_open g.ended ≡ true → EndsOnce (xs ++ rest) → is_open (gave_from g xs).ended ≡ false → rest ≡ []
  front_is_all g [] rest o t e = absurd (true≢false (sym o ∙ e))
  front_is_all g (x ∷ xs) rest o t e =
      by_cases (goes_on x.item)
      (λ is. front_is_all (gave_more x.item (said_in x) g) xs rest (goes_with x.item (said_in x) g is ∙ o) t.1 e)
      (λ is. nothing_behind xs rest (t.0 is))

module _ {I F : Type 0} (stands : I → I → Gave F → Type 0) where
  -- one more step, by which an answer may have come
  pub answered : (first old new : I) (answers : List (Answer F)) (b : Bool) (a : Answer F) → b ≡ not (is_later a.item) → GivesAnswer stands old new a → GaveAs stands first old answers → is_open (gave_of answers).ended ≡ true
      → GaveAs stands first new (answers ++ items_by b a)
  answered first old new answers true a is gives s o = record {
    gives = subst (λ (g : Gave F). stands first new g) (sym (gave_push nothing answers a)) (gives first (gave_of answers) s.gives);
    once = once_push nothing answers a o s.once;
  }
  answered first old new answers false a is gives s o =
      let none : is_later a.item ≡ true = not_false (is_later a.item) (sym is) in
      let same = subst (λ (g : Gave F). stands first new g) (later_adds_none a.item (said_in a) (gave_of answers) none) (gives first (gave_of answers) s.gives) in
      subst (λ (l : List (Answer F)). GaveAs stands first new l) (sym (append-nil answers)) (record { gives = same; once = s.once })
    where
      not_false : (b : Bool) → not b ≡ false → b ≡ true
      not_false true e = refl
      not_false false e = absurd (true≢false e)

  -- by what was popped all has ended: it is all that was given
  pub all_came : (first back : I) (popped left : List (Answer F)) → GaveAs stands first back (popped ++ left) → is_open (gave_of popped).ended ≡ false → stands first back (gave_of popped)
  all_came first back popped left s e =
      let none = front_is_all nothing popped left refl s.once e in
      subst (λ (l : List (Answer F)). stands first back (gave_of l)) (ap (λ r. popped ++ r) none ∙ append-nil popped) s.gives

-- ---- a lane
module _ {L F G : Type 0} (stands : L → L → List (Answer F) → Type 0) (first old new : Worker (Answer F) L G) (gave : Gave F) where
  pub pulled : (a : Answer F) (x : Item F) (c : Chunk) → LaneStands stands first old gave → popped_of new ≡ popped_of old ++ a ∷ [] → LaneFollows stands old new → x ≡ a.item → c ≡ said_in a
      → LaneStands stands first new (gave_more x c gave)
  pulled a x c s more follows is text = record {
    popped = ap gave_of more
        ∙ (gave_push nothing (popped_of old) a
        ∙ (ap (gave_more a.item (said_in a)) s.popped ∙ (ap (λ y. gave_more y (said_in a) gave) (sym is) ∙ ap (λ y. gave_more x y gave) (sym text))));
    runs = λ f r. follows f (s.runs f r);
  }

  pub waited : LaneStands stands first old gave → popped_of new ≡ popped_of old → LaneFollows stands old new → LaneStands stands first new gave
  waited s same follows = record { popped = ap gave_of same ∙ s.popped; runs = λ f r. follows f (s.runs f r) }
