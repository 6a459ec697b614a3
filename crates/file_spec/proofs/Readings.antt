-- Frames, step by step, and what of them is known before the others came.
use Rattle.std.proofs.Common.{◌≡◌, ℕ, zero, suc, ◌+◌, ◌<◌, ◌≤◌, inl, inr, Bool, true, false, cond, eqb, ltb, leb, ◌||◌, ◌⊎◌, List, [], ◌∷◌, ◌++◌, length, take, drop, Option, None, Some, is_some, refl, sym, ap, subst, ◌∙◌, arith, length-drop, length-append}
use Rattle.std.specs.Prelude.{◌≢◌, not}
use Rattle.std.specs.Str.{is_utf8}
use Rattle.std.proofs.lemmas.Bool.{or_parts, ltb-false, leb-false, eqb-false, lt-ltb, le-ltb, ne_eqb, false≢true, cases_lt}
use Rattle.std.proofs.lemmas.List.{take-append-le}
use Rattle.file_spec.specs.declared.frames.Frame.{Frame}
use Rattle.file_spec.specs.declared.frame_kinds.FrameKind.{FrameKind}
use Rattle.file_spec.specs.declared.frame_kinds.FrameKind.TheVariants.{Time, Length, TooLarge, NotText, EndsInside}
use Rattle.file_spec.specs.declared.frame_kinds.FrameKind.TheVariants as frame
use Rattle.rtt_base.specs.declared.limits.TheConstants.{MOST_TEXT_OCTETS}
use Rattle.file_spec.specs.declared.frame_limits.TheConstants.{FRAME_HEAD_OCTETS, END_OF_FRAME_MOMENTS, MOST_FRAMES_OCTETS}
use Rattle.file_spec.specs.Frames.{Place, Reading, Step, End, Broken, Next, time_of, length_of, frame_of, head_fault, text_fault, or_text_fault, frame_fault, place_behind, step_or, frame_step, with_frame, reading_by, reading_within, reading_from}

-- ---- step by step
abbrev next_rest : Step → List ℕ
next_rest End = []
next_rest (Broken fault) = []
next_rest (Next frame place rest) = rest

abbrev is_next : Step → Bool
is_next End = false
is_next (Broken fault) = false
is_next (Next frame place rest) = true

-- what follows a frame is shorter
step_shorter : (p : Place) (octets : List ℕ) (fault : Option FrameKind) (f : Frame) (q : Place) (rest : List ℕ) → 0 < length octets → step_or p octets fault ≡ Next f q rest → length rest < length octets
step_shorter p octets (Some kind) f q rest some e = absurd (false≢true (ap is_next e))
step_shorter p octets None f q rest some e =
    let same : drop (FRAME_HEAD_OCTETS + length_of octets) octets ≡ rest = ap next_rest e in
    subst (λ (r : List ℕ). length r < length octets) same (omega (arith, length-drop (FRAME_HEAD_OCTETS + length_of octets) octets))

-- the step of octets, of which there are some
pub some_step : (p : Place) (octets : List ℕ) → 0 < length octets → frame_step p octets ≡ step_or p octets (frame_fault p octets)
unfolding frame_step
some_step p octets some = ap (λ (b : Bool). cond b End (step_or p octets (frame_fault p octets))) (ne_eqb (length octets) 0 (λ e. omega arith))

pub no_step : (p : Place) (octets : List ℕ) → length octets ≡ 0 → frame_step p octets ≡ End
unfolding frame_step
no_step p octets e = rw e refl

next_shorter : (p : Place) (octets : List ℕ) (f : Frame) (q : Place) (rest : List ℕ) → frame_step p octets ≡ Next f q rest → length rest < length octets
next_shorter p octets f q rest e = elim (cases_lt 0 (length octets)) [
  | inl some ↦ step_shorter p octets (frame_fault p octets) f q rest some (sym (some_step p octets some) ∙ e)
  | inr none ↦ absurd (false≢true (ap is_next (sym (no_step p octets (omega arith)) ∙ e)))
]

same_by : (more others : Place → List ℕ → Reading) (p : Place) (octets : List ℕ) (s : Step) → frame_step p octets ≡ s → ((q : Place) (rest : List ℕ) → length rest < length octets → more q rest ≡ others q rest) → reading_by more s ≡ reading_by others s
same_by more others p octets End e h = refl
same_by more others p octets (Broken fault) e h = refl
same_by more others p octets (Next f q rest) e h = ap (with_frame f) (h q rest (next_shorter p octets f q rest e))

ends_at_once : (p : Place) (octets : List ℕ) (more : Place → List ℕ → Reading) → length octets ≡ 0 → reading_by more (frame_step p octets) ≡ record { frames = []; fault = None }
ends_at_once p octets more e = ap (reading_by more) (no_step p octets e)

-- more steps than octets change nothing
enough : (n m : ℕ) (p : Place) (octets : List ℕ) → length octets ≤ n → length octets ≤ m → reading_within n p octets ≡ reading_within m p octets
unfolding reading_within
enough zero zero p octets h k = refl
enough zero (suc m) p octets h k = sym (ends_at_once p octets (reading_within m) (omega arith))
enough (suc n) zero p octets h k = ends_at_once p octets (reading_within n) (omega arith)
enough (suc n) (suc m) p octets h k =
    same_by (reading_within n) (reading_within m) p octets (frame_step p octets) refl (λ q rest lt. enough n m q rest (omega arith) (omega arith))

-- what is still to come is one step and what comes after it
pub unrolled : (p : Place) (octets : List ℕ) → reading_from p octets ≡ reading_by reading_from (frame_step p octets)
unfolding reading_from reading_within
unrolled p octets =
    enough (length octets) (suc (length octets)) p octets (omega arith) (omega arith)
    ∙ same_by (reading_within (length octets)) reading_from p octets (frame_step p octets) refl (λ q rest lt. enough (length octets) (length rest) q rest (omega arith) (omega arith))

pub nothing_left : (p : Place) → reading_from p [] ≡ record { frames = []; fault = None }
nothing_left p = unrolled p [] ∙ ends_at_once p [] reading_from refl

-- the frame in front, or its fault
pub read_on : (p : Place) (octets : List ℕ) → 0 < length octets → frame_fault p octets ≡ None
    → reading_from p octets ≡ with_frame (frame_of octets) (reading_from (place_behind p (frame_of octets)) (drop (FRAME_HEAD_OCTETS + length_of octets) octets))
read_on p octets some e = unrolled p octets ∙ ap (reading_by reading_from) (some_step p octets some ∙ ap (step_or p octets) e)

pub read_no_further : (p : Place) (octets : List ℕ) (kind : FrameKind) → 0 < length octets → frame_fault p octets ≡ Some kind → reading_from p octets ≡ record { frames = []; fault = Some (record { offset = p.byte; kind = kind }) }
read_no_further p octets kind some e = unrolled p octets ∙ ap (reading_by reading_from) (some_step p octets some ∙ ap (step_or p octets) e)

-- ---- what follows does not matter
pub record SameHead (xs ys : List ℕ) : Type 0 where
  pub time : time_of (xs ++ ys) ≡ time_of xs
  pub size : length_of (xs ++ ys) ≡ length_of xs
  pub behind : drop FRAME_HEAD_OCTETS (xs ++ ys) ≡ drop FRAME_HEAD_OCTETS xs ++ ys

pub same_head : (xs ys : List ℕ) → FRAME_HEAD_OCTETS ≤ length xs → SameHead xs ys
same_head (a ∷ b ∷ c ∷ d ∷ e ∷ f ∷ xs) ys l = record { time = refl; size = refl; behind = refl }
same_head [] ys l = absurd (omega arith)
same_head (a ∷ []) ys l = absurd (omega arith)
same_head (a ∷ b ∷ []) ys l = absurd (omega arith)
same_head (a ∷ b ∷ c ∷ []) ys l = absurd (omega arith)
same_head (a ∷ b ∷ c ∷ d ∷ []) ys l = absurd (omega arith)
same_head (a ∷ b ∷ c ∷ d ∷ e ∷ []) ys l = absurd (omega arith)

-- the tests of a head that is there
pub with_head : (p : Place) (xs : List ℕ) → FRAME_HEAD_OCTETS ≤ length xs → frame_fault p xs ≡ or_text_fault xs (head_fault p (time_of xs) (length_of xs))
with_head p xs l = ap (λ (b : Bool). cond b (Some EndsInside) (or_text_fault xs (head_fault p (time_of xs) (length_of xs)))) (le-ltb (length xs) FRAME_HEAD_OCTETS l)

pub no_head : (p : Place) (xs : List ℕ) → length xs < FRAME_HEAD_OCTETS → frame_fault p xs ≡ Some EndsInside
no_head p xs l = ap (λ (b : Bool). cond b (Some EndsInside) (or_text_fault xs (head_fault p (time_of xs) (length_of xs)))) (lt-ltb (length xs) FRAME_HEAD_OCTETS l)

-- a text that is not there to its end, and one that is
pub cut_text : (n : ℕ) (zs : List ℕ) → length zs < n → text_fault n zs ≡ Some EndsInside
cut_text n zs l = let t : ltb (length zs) n ≡ true = lt-ltb (length zs) n l in rw t refl

pub whole_text : (n : ℕ) (zs : List ℕ) → n ≤ length zs → text_fault n zs ≡ cond (not (is_utf8 (take n zs))) (Some NotText) None
whole_text n zs l = let t : ltb (length zs) n ≡ false = le-ltb (length zs) n l in rw t refl

same_text : (n : ℕ) (zs ys : List ℕ) → n ≤ length zs → text_fault n (zs ++ ys) ≡ text_fault n zs
same_text n zs ys l =
    whole_text n (zs ++ ys) (omega (arith, length-append zs ys))
    ∙ ap (λ (t : List ℕ). cond (not (is_utf8 t)) (Some NotText) None) (take-append-le n zs ys l)
    ∙ sym (whole_text n zs l)

-- a test that is decided
pub steady : (p : Place) (xs ys : List ℕ) → frame_fault p xs ≢ Some EndsInside → frame_fault p (xs ++ ys) ≡ frame_fault p xs
steady p xs ys h = elim (cases_lt (length xs) FRAME_HEAD_OCTETS) [
  | inl short ↦ absurd (h (no_head p xs short))
  | inr long ↦ (
      let s = same_head xs ys long in
      let here = with_head p xs long in
      with_head p (xs ++ ys) (omega (arith, length-append xs ys))
      ∙ ap (λ (t : ℕ). or_text_fault (xs ++ ys) (head_fault p t (length_of (xs ++ ys)))) s.time
      ∙ ap (λ (n : ℕ). or_text_fault (xs ++ ys) (head_fault p (time_of xs) n)) s.size
      ∙ go s (head_fault p (time_of xs) (length_of xs)) (λ e. h (here ∙ e))
      ∙ sym here)
]
  where
    go : SameHead xs ys → (o : Option FrameKind) → or_text_fault xs o ≢ Some EndsInside → or_text_fault (xs ++ ys) o ≡ or_text_fault xs o
    go s (Some kind) n = refl
    go s None n = elim (cases_lt (length (drop FRAME_HEAD_OCTETS xs)) (length_of xs)) [
      | inl cut ↦ absurd (n (cut_text (length_of xs) (drop FRAME_HEAD_OCTETS xs) cut))
      | inr there ↦ ap (λ (n : ℕ). text_fault n (drop FRAME_HEAD_OCTETS (xs ++ ys))) s.size
          ∙ ap (λ (zs : List ℕ). text_fault (length_of xs) zs) s.behind
          ∙ same_text (length_of xs) (drop FRAME_HEAD_OCTETS xs) ys there
    ]

no_fault : (b : Bool) → cond (not b) (Some NotText) None ≡ None → b ≡ true
no_fault true e = refl
no_fault false e = absurd (false≢true (ap (λ (o : Option FrameKind). is_some o) (sym e)))

-- what is known of a whole frame
pub record Whole (p : Place) (xs : List ℕ) : Type 0 where
  pub head : FRAME_HEAD_OCTETS ≤ length xs
  pub tests : head_fault p (time_of xs) (length_of xs) ≡ None
  pub there : FRAME_HEAD_OCTETS + length_of xs ≤ length xs
  pub text : is_utf8 (take (length_of xs) (drop FRAME_HEAD_OCTETS xs)) ≡ true

pub whole : (p : Place) (xs : List ℕ) → frame_fault p xs ≡ None → Whole p xs
whole p xs e = elim (cases_lt (length xs) FRAME_HEAD_OCTETS) [
  | inl short ↦ absurd (false≢true (ap (λ (o : Option FrameKind). is_some o) (sym e ∙ no_head p xs short)))
  | inr long ↦ go long (head_fault p (time_of xs) (length_of xs)) refl (sym (with_head p xs long) ∙ e)
]
  where
    go : FRAME_HEAD_OCTETS ≤ length xs → (o : Option FrameKind) → head_fault p (time_of xs) (length_of xs) ≡ o → or_text_fault xs o ≡ None → Whole p xs
    go long (Some kind) q f = absurd (false≢true (ap (λ (o : Option FrameKind). is_some o) (sym f)))
    go long None q f = elim (cases_lt (length (drop FRAME_HEAD_OCTETS xs)) (length_of xs)) [
      | inl cut ↦ absurd (false≢true (ap (λ (o : Option FrameKind). is_some o) (sym f ∙ cut_text (length_of xs) (drop FRAME_HEAD_OCTETS xs) cut)))
      | inr there ↦ record {
        head = long;
        tests = q;
        there = omega (arith, length-drop FRAME_HEAD_OCTETS xs);
        text = no_fault (is_utf8 (take (length_of xs) (drop FRAME_HEAD_OCTETS xs))) (sym (whole_text (length_of xs) (drop FRAME_HEAD_OCTETS xs) there) ∙ f);
      }
    ]

-- ---- octets that are held, and what follows them
-- just a frame
pub held_frame : (p : Place) (held more : List ℕ) → frame_fault p held ≡ None → length held ≡ FRAME_HEAD_OCTETS + length_of held
    → reading_from p (held ++ more) ≡ with_frame (frame_of held) (reading_from (place_behind p (frame_of held)) more)
held_frame p held more e size =
    let w = whole p held e in
    let s = same_head held more w.head in
    let same = steady p held more (λ (q : frame_fault p held ≡ Some EndsInside). false≢true (ap (λ (o : Option FrameKind). is_some o) (sym e ∙ q))) in
    let some : 0 < length (held ++ more) = omega (arith, length-append held more, w.head) in
    read_on p (held ++ more) some (same ∙ e)
    ∙ ap (λ (f : Frame). with_frame f (reading_from (place_behind p f) (drop (FRAME_HEAD_OCTETS + length_of (held ++ more)) (held ++ more)))) (frame_same s w)
    ∙ ap (λ (rest : List ℕ). with_frame (frame_of held) (reading_from (place_behind p (frame_of held)) rest)) (rest_same s w)
  where
    frame_same : SameHead held more → Whole p held → frame_of (held ++ more) ≡ frame_of held
    frame_same s w =
        ap (λ (t : ℕ). frame t (take (length_of (held ++ more)) (drop FRAME_HEAD_OCTETS (held ++ more)))) s.time
        ∙ ap (λ (n : ℕ). frame (time_of held) (take n (drop FRAME_HEAD_OCTETS (held ++ more)))) s.size
        ∙ ap (λ (zs : List ℕ). frame (time_of held) (take (length_of held) zs)) s.behind
        ∙ ap (λ (zs : List ℕ). frame (time_of held) zs) (take-append-le (length_of held) (drop FRAME_HEAD_OCTETS held) more (omega (arith, w.there, length-drop FRAME_HEAD_OCTETS held)))
      where
        frame : ℕ → List ℕ → Frame
        frame at text = record { at = at; text = text }

    rest_same : SameHead held more → Whole p held → drop (FRAME_HEAD_OCTETS + length_of (held ++ more)) (held ++ more) ≡ more
    rest_same s w =
        ap (λ (n : ℕ). drop (FRAME_HEAD_OCTETS + n) (held ++ more)) s.size
        ∙ ap (λ (n : ℕ). drop n (held ++ more)) (sym size)
        ∙ seam held
      where
        seam : (xs : List ℕ) → drop (length xs) (xs ++ more) ≡ more
        seam [] = refl
        seam (x ∷ xs) = seam xs

abbrev or_this : FrameKind → Option FrameKind → FrameKind
or_this kind None = kind
or_this kind (Some k) = k

abbrev some_kind : FrameKind → Option FrameKind
some_kind kind = Some kind

pub same_kind : (a b : FrameKind) → some_kind a ≡ Some b → a ≡ b
same_kind a b e = ap (or_this a) e

-- a fault that what follows does not mend
pub held_fault : (p : Place) (held more : List ℕ) (kind : FrameKind) → frame_fault p held ≡ Some kind → kind ≢ EndsInside
    → reading_from p (held ++ more) ≡ record { frames = []; fault = Some (record { offset = p.byte; kind = kind }) }
held_fault p held more kind e lasts = elim (cases_lt (length held) FRAME_HEAD_OCTETS) [
  | inl short ↦ absurd (lasts (same_kind kind EndsInside (sym e ∙ no_head p held short)))
  | inr long ↦ read_no_further p (held ++ more) kind (omega (arith, length-append held more)) (steady p held more (λ (q : frame_fault p held ≡ Some EndsInside). lasts (same_kind kind EndsInside (sym e ∙ q))) ∙ e)
]

-- ---- the tests of a head
pub chosen : {X : Type 0} (b : Bool) (x y z : X) → cond b x y ≡ z → ((b ≡ true) × (x ≡ z)) ⊎ ((b ≡ false) × (y ≡ z))
chosen true x y z e = inl (refl, e)
chosen false x y z e = inr (refl, e)

-- a head at which no test fails
pub record Passes (p : Place) (at n : ℕ) : Type 0 where
  pub rises : p.latest ≤ at
  pub early : at < END_OF_FRAME_MOMENTS
  pub some : 0 < n
  pub few : n ≤ MOST_TEXT_OCTETS
  pub small : p.byte + (FRAME_HEAD_OCTETS + n) ≤ MOST_FRAMES_OCTETS

never : (kind : FrameKind) → some_kind kind ≡ None → ⊥
never kind e = false≢true (sym (ap (λ (o : Option FrameKind). is_some o) e))

pub passes : (p : Place) (at n : ℕ) → head_fault p at n ≡ None → Passes p at n
passes p at n e =
    elim (chosen (ltb at p.latest || leb END_OF_FRAME_MOMENTS at) (some_kind Time) _ None e) [
      | inl h ↦ absurd (never Time h.1)
      | inr a ↦ elim (chosen (eqb n 0 || ltb MOST_TEXT_OCTETS n) (some_kind Length) _ None a.1) [
        | inl h ↦ absurd (never Length h.1)
        | inr b ↦ elim (chosen (ltb MOST_FRAMES_OCTETS (p.byte + (FRAME_HEAD_OCTETS + n))) (some_kind TooLarge) None None b.1) [
          | inl h ↦ absurd (never TooLarge h.1)
          | inr c ↦ (
              let t = or_parts _ _ a.0 in
              let l = or_parts _ _ b.0 in
              let rises = ltb-false _ _ t.0 in
              let early = leb-false _ _ t.1 in
              let some = eqb-false _ _ l.0 in
              let few = ltb-false _ _ l.1 in
              let small = ltb-false _ _ c.0 in
              record { rises = rises; early = omega (arith, early); some = more_than_none n some; few = few; small = small })
        ]
      ]
    ]
  where
    more_than_none : (k : ℕ) → (k ≡ 0 → ⊥) → 0 < k
    more_than_none zero h = absurd (h refl)
    more_than_none (suc k) h = omega arith

abbrev ends_inside : FrameKind → Bool
ends_inside Time = false
ends_inside Length = false
ends_inside TooLarge = false
ends_inside NotText = false
ends_inside EndsInside = true
ends_inside frame.Full = false
ends_inside frame.ManyFrames = false

other : (kind : FrameKind) → ends_inside kind ≡ false → some_kind kind ≡ Some EndsInside → ⊥
other kind k e = false≢true (sym k ∙ ap ends_inside (same_kind kind EndsInside e))

-- no head is cut
pub head_lasts : (p : Place) (at n : ℕ) → head_fault p at n ≡ Some EndsInside → ⊥
head_lasts p at n e =
    elim (chosen (ltb at p.latest || leb END_OF_FRAME_MOMENTS at) (some_kind Time) _ (Some EndsInside) e) [
      | inl h ↦ other Time refl h.1
      | inr a ↦ elim (chosen (eqb n 0 || ltb MOST_TEXT_OCTETS n) (some_kind Length) _ (Some EndsInside) a.1) [
        | inl h ↦ other Length refl h.1
        | inr b ↦ elim (chosen (ltb MOST_FRAMES_OCTETS (p.byte + (FRAME_HEAD_OCTETS + n))) (some_kind TooLarge) None (Some EndsInside) b.1) [
          | inl h ↦ other TooLarge refl h.1
          | inr c ↦ never EndsInside (sym c.1)
        ]
      ]
    ]

-- of a frame that is begun and whose head is there, the head passes and octets of the text are missing
pub record Begun (p : Place) (held : List ℕ) : Type 0 where
  pub passes : Passes p (time_of held) (length_of held)
  pub cut : length held < FRAME_HEAD_OCTETS + length_of held

pub begun : (p : Place) (held : List ℕ) → FRAME_HEAD_OCTETS ≤ length held → frame_fault p held ≡ Some EndsInside → Begun p held
begun p held long e = go (head_fault p (time_of held) (length_of held)) refl (sym (with_head p held long) ∙ e)
  where
    go : (o : Option FrameKind) → head_fault p (time_of held) (length_of held) ≡ o → or_text_fault held o ≡ Some EndsInside → Begun p held
    go (Some kind) q f = absurd (head_lasts p (time_of held) (length_of held) (q ∙ f))
    go None q f = elim (cases_lt (length (drop FRAME_HEAD_OCTETS held)) (length_of held)) [
      | inl cut ↦ record { passes = passes p (time_of held) (length_of held) q; cut = omega (arith, length-drop FRAME_HEAD_OCTETS held) }
      | inr there ↦ elim (chosen (not (is_utf8 (take (length_of held) (drop FRAME_HEAD_OCTETS held)))) (some_kind NotText) None (Some EndsInside) (sym (whole_text (length_of held) (drop FRAME_HEAD_OCTETS held) there) ∙ f)) [
        | inl h ↦ absurd (other NotText refl h.1)
        | inr h ↦ absurd (never EndsInside (sym h.1))
      ]
    ]
