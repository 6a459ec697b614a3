-- What was taken is written.
use Rattle.std.proofs.Common.{◌≡◌, ℕ, Bool, true, false, cond, inl, inr, List, [], ◌∷◌, ◌++◌, length, refl, sym, ap, subst, ◌∙◌, arith}
use Rattle.std.specs.Prelude.{◌==◌, ◌&&◌, ◌||◌, not}
use Rattle.std.specs.Str.{chars}
use Rattle.std.proofs.lemmas.Bool.{true≢false, ne_eqb}
use Rattle.wire_spec.specs.Packets.{has_text}
use Rattle.stream_spec.specs.Ready.{Chunk}
use Rattle.view_spec.specs.Characters.{is_open_after}
use Rattle.view_spec.specs.Shown.{ends_with_cr, loose, signs, survivors}
use Rattle.mixer_spec.specs.Chunks.{joined, has_chunk}
use Rattle.mixer_spec.specs.Laws.{AreTexts}
use Rattle.mixer_spec.specs.Composed.{after_cr, cr_last, from_seen, is_seen, own_part}
use Rattle.view_spec.specs.TextViews.{without_directions}
use Rattle.unaware_view.specs.declared.runs.Run.{Run}
use Rattle.unaware_view.specs.Runs.{GoesAlone, GoesOn, Heads, IsBegun, IsRun, Sends, behind, sent_of}

some_text : (cs : List Chunk) → AreTexts cs → not (length (joined cs) == 0) ≡ has_chunk cs
some_text [] a = refl
some_text (c ∷ cs) a = go c.text a.0
  where
    go : (t : List ℕ) → has_text t ≡ true → not (length (t ++ joined cs) == 0) ≡ true
    go [] h = absurd (true≢false (sym h))
    go (b ∷ bs) h = ap not (ne_eqb (length ((b ∷ bs) ++ joined cs)) 0 (λ q. omega (arith, q)))

-- it has the same run where only whether a chunk stands in it changed
same_run : (r q : Run) (alone behind_cr : Bool) (cs : List ℕ) → q ≡ record { erasable = r.erasable; after_cr = r.after_cr; ending = r.ending; has_chunk = q.has_chunk; labelled = r.labelled; is_open = r.is_open } → IsRun r alone behind_cr cs → IsRun q alone behind_cr cs
same_run r q alone behind_cr cs e h = subst (λ (x : Run). IsRun x alone behind_cr cs) (sym e) (record {
  ending = h.ending;
  part = elim h.part [
    | inl a ↦ inl (record { labelled = a.labelled; not_alone = a.not_alone; unseen = a.unseen; erasable = a.erasable; after_cr = a.after_cr })
    | inr b ↦ inr (record { labelled = b.labelled; seen = b.seen; erasable = b.erasable; after_cr = b.after_cr })
  ];
})

-- the text was written, and then it was noted whether the run has a chunk
pub written_step : (name : List ℕ) (r q next : Run) (alone behind_cr : Bool) (before octets after text : List ℕ) (chunks : List Chunk) (b any : Bool) → AreTexts chunks → octets ≡ joined chunks → any ≡ not (length octets == 0) → b ≡ (r.has_chunk || any)
    → Sends name r q alone behind_cr before (without_directions (chars octets)) text after → next ≡ record { erasable = q.erasable; after_cr = q.after_cr; ending = q.ending; has_chunk = b; labelled = q.labelled; is_open = q.is_open }
    → GoesOn name r next alone behind_cr before chunks text after
written_step name r q next alone behind_cr before octets after text chunks b any a e n k h x =
    let chunk : next.has_chunk ≡ b = ap (λ (y : Run). y.has_chunk) x in
    let same : next ≡ record { erasable = q.erasable; after_cr = q.after_cr; ending = q.ending; has_chunk = next.has_chunk; labelled = q.labelled; is_open = q.is_open } =
    x ∙ ap (λ (y : Bool). record { erasable = q.erasable; after_cr = q.after_cr; ending = q.ending; has_chunk = y; labelled = q.labelled; is_open = q.is_open }) (sym chunk) in
    record {
      sends = record {
        run_is = subst (λ (l : List ℕ). IsRun next alone behind_cr (before ++ without_directions (chars l))) e (same_run q next alone behind_cr (before ++ without_directions (chars octets)) same h.run_is);
        open_is = ap (λ (y : Run). y.is_open) x ∙ (h.open_is ∙ ap (λ l. is_open_after r.is_open (without_directions (chars l))) e);
        text_is = h.text_is ∙ ap (λ l. text ++ sent_of name r alone behind_cr before (without_directions (chars l))) e;
      };
      has_chunk = chunk ∙ (k ∙ ap (λ (y : Bool). r.has_chunk || y) (n ∙ (ap (λ (l : List ℕ). not (length l == 0)) e ∙ some_text chunks a)));
    }

-- Nothing was taken exactly where there is no chunk.
pub no_chunks : (octets : List ℕ) (chunks : List Chunk) → AreTexts chunks → octets ≡ joined chunks → (length octets == 0) ≡ not (has_chunk chunks)
no_chunks octets chunks a e = twice (length octets == 0) ∙ ap not (ap (λ (l : List ℕ). not (length l == 0)) e ∙ some_text chunks a)
  where
    twice : (b : Bool) → b ≡ not (not b)
    twice true = refl
    twice false = refl

-- the label went alone, or these were given
pub heads_none : (name : List ℕ) (r next : Run) (behind_cr : Bool) (before : List ℕ) (chunks : List Chunk) (text : List ℕ) → has_chunk chunks ≡ false → GoesAlone name r next text → Heads name r next behind_cr before chunks text
heads_none name r next behind_cr before [] text e h = h
heads_none name r next behind_cr before (c ∷ cs) text e h = absurd (true≢false e)

pub heads_some : (name : List ℕ) (r next : Run) (behind_cr : Bool) (before : List ℕ) (chunks : List Chunk) (text : List ℕ) → has_chunk chunks ≡ true → GoesOn name r next false behind_cr before chunks [] text → Heads name r next behind_cr before chunks text
heads_some name r next behind_cr before [] text e h = absurd (true≢false (sym e))
heads_some name r next behind_cr before (c ∷ cs) text e h = h

-- ---- what came last
last_more : (c : ℕ) (cs : List ℕ) → cr_last (c == 0x0D) cs ≡ ends_with_cr (c ∷ cs)
last_more c [] = refl
last_more c (d ∷ cs) = refl

-- what is seen ends as all does
seen_last : (behind_cr was : Bool) (run cs : List ℕ) → (length (from_seen behind_cr run cs) == 0) ≡ false → ends_with_cr (from_seen behind_cr run cs) ≡ cr_last was cs
seen_last behind_cr was run [] e = absurd (true≢false e)
seen_last behind_cr was run (c ∷ cs) e = go (is_seen behind_cr run c) e (seen_last behind_cr (c == 0x0D) (run ++ c ∷ []) cs)
  where
    go : (b : Bool) → (length (cond b (c ∷ cs) (from_seen behind_cr (run ++ c ∷ []) cs)) == 0) ≡ false
        → ((length (from_seen behind_cr (run ++ c ∷ []) cs) == 0) ≡ false → ends_with_cr (from_seen behind_cr (run ++ c ∷ []) cs) ≡ cr_last (c == 0x0D) cs)
        → ends_with_cr (cond b (c ∷ cs) (from_seen behind_cr (run ++ c ∷ []) cs)) ≡ ends_with_cr (c ∷ cs)
    go true q rest = refl
    go false q rest = rest q ∙ last_more c cs

behind_last : (alone behind_cr : Bool) (cs : List ℕ) → (not alone && length (from_seen behind_cr [] cs) == 0) ≡ false → after_cr alone behind_cr cs ≡ ends_with_cr (behind alone behind_cr cs)
behind_last true behind_cr [] e = refl
behind_last true behind_cr (c ∷ cs) e = refl
behind_last false behind_cr cs e = sym (seen_last behind_cr behind_cr [] cs e)

after_run : (r : Run) (alone behind_cr : Bool) (cs : List ℕ) → IsRun r alone behind_cr cs → after_cr alone behind_cr cs ≡ r.after_cr
after_run r alone behind_cr cs h = elim h.part [
  | inl a ↦ ap (λ (b : Bool). cr_last (not b && behind_cr) cs) a.not_alone ∙ a.after_cr
  | inr b ↦ behind_last alone behind_cr cs b.seen ∙ b.after_cr
]

-- a run that begins behind one with these characters
pub begun_is : (r next : Run) (alone behind_cr : Bool) (cs : List ℕ) → IsRun r alone behind_cr cs → IsBegun r next → IsRun next false (after_cr alone behind_cr cs) []
begun_is r next alone behind_cr cs h b = record {
  ending = b.ending;
  part = inl (record {
    labelled = b.labelled;
    not_alone = refl;
    unseen = refl;
    erasable = none (after_cr alone behind_cr cs) ∙ sym b.erasable;
    after_cr = after_run r alone behind_cr cs h ∙ sym b.after_cr;
  });
}
  where
    none : (x : Bool) → loose (survivors (signs (own_part x []))) ≡ 0
    none true = refl
    none false = refl

-- a run whose label is to come did not begin with it alone
pub to_come : (r : Run) (alone behind_cr : Bool) (cs : List ℕ) → r.labelled ≡ false → IsRun r alone behind_cr cs → IsRun r false behind_cr cs
to_come r alone behind_cr cs e h = elim h.part [
  | inl a ↦ subst (λ (b : Bool). IsRun r b behind_cr cs) a.not_alone h
  | inr b ↦ absurd (true≢false (sym b.labelled ∙ e))
]
