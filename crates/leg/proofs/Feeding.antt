-- What one more answer of a leg does.
use Rattle.std.proofs.Common.{◌≡◌, ◌≤◌, ℕ, Bool, true, false, true≢false, not, None, List, [], ◌∷◌, ◌++◌, Ok, Err, refl, ap, sym, ◌∙◌, subst, arith, inl, inr}
use Rattle.std.specs.Prelude.{Result, IfErr}
use Rattle.std.proofs.lemmas.Bool.{not-true}
use Rattle.wire_spec.specs.declared.faults.DumpKind.TheVariants.{Read}
use Rattle.stream_spec.specs.Ready.{Chunk}
use Rattle.rtt_io.specs.Counts.{Rose}
use Rattle.rtpdump_io.specs.declared.items.DumpFault.{DumpFault}
use Rattle.rtpdump_io.specs.Reading.{IsFaultOf, UnlessOfSource, is_of_source}
use Rattle.leg.specs.declared.steps.LegStep.{LegStep}
use Rattle.leg.specs.declared.steps.LegStep.TheVariants as step
use Rattle.leg.specs.Gives.{Stands, Follows, is_last, is_over, source_of}
use Rattle.mix_loop.specs.declared.items.Item.{Item}
use Rattle.mix_loop.specs.declared.items.Item.TheVariants as item
use Rattle.mix_loop.specs.declared.items.TextsEnd.{TextsEnd}
use Rattle.mix_loop.specs.declared.items.TextsEnd.TheVariants.{Open, AtEnd, AtFault}
use Rattle.mix_loop.specs.Items.{Gave, gave_more, goes_on, is_open, nothing}
use Rattle.leg.specs.declared.inlets.LegInlet.{LegInlet}
use Rattle.leg.specs.Feds.{Asked, GivesAs, Fed, past_of, recording_asked, chunks_asked, is_source_fault, item_for}

open_is : (e : TextsEnd DumpFault) → is_open e ≡ true → e ≡ Open
open_is Open o = refl
open_is AtEnd o = absurd (true≢false (sym o))
open_is (AtFault f) o = absurd (true≢false (sym o))

not_fault : (f : DumpFault) → ◌≡◌ {A = TextsEnd DumpFault} Open (AtFault f) → ⊥
not_fault f e = cc e

rose_later : (a b c : ℕ) → a ≤ b → Rose b c → Rose a c
rose_later a b c l (inl r) = inl (omega arith)
rose_later a b c l (inr r) = inr r

module _ {S : Type 0} (tells : Type 0) (left : S → List ℕ) (faults : S → ℕ) (name : S → List ℕ) where
  pub fed_none : (i : LegInlet S) → is_over i.leg ≡ false → Fed tells left faults name i i nothing
  fed_none i o = record { open_still = ap not (sym o); gives = λ t a s. s; never_falls = omega arith; read = λ f e. absurd (not_fault f e); calm = λ e. refl; same_name = refl }

  module _ (first old new : LegInlet S) (gave : Gave DumpFault) (fed : Fed tells left faults name first old gave) (not_over : is_over old.leg ≡ false)
      (rises : faults (source_of old.leg) ≤ faults (source_of new.leg)) (named : name (source_of new.leg) ≡ name (source_of old.leg)) where
    still : gave.ended ≡ Open
    still = open_is gave.ended (fed.open_still ∙ ap not not_over)

    before : tells → (a : Asked) → Stands left first.leg (past_of a []) → GivesAs left old.leg a gave.chunks Open
    before t a s = subst (λ (e : TextsEnd DumpFault). GivesAs left old.leg a gave.chunks e) still (fed.gives t a s)

    more_count : faults (source_of first.leg) ≤ faults (source_of new.leg)
    more_count = let x = fed.never_falls in omega (arith, x, rises)

    steady : faults (source_of new.leg) ≡ faults (source_of old.leg) → faults (source_of new.leg) ≡ faults (source_of first.leg)
    steady same = same ∙ fed.calm (ap is_source_fault still)

    open_with : (chunks : List Chunk) → is_over new.leg ≡ false → faults (source_of new.leg) ≡ faults (source_of old.leg)
        → (tells → (a : Asked) → Stands left old.leg (past_of a gave.chunks) → Stands left new.leg (past_of a chunks))
        → Fed tells left faults name first new (record { chunks = chunks; ended = gave.ended })
    open_with chunks o same g = record {
      open_still = ap is_open still ∙ ap not (sym o);
      gives = λ t a s.
          subst (λ (e : TextsEnd DumpFault). GivesAs left new.leg a chunks e) (sym still) (g t a (before t a s));
      never_falls = more_count;
      read = λ f e. absurd (not_fault f (sym still ∙ e));
      calm = λ e. steady same;
      same_name = named ∙ fed.same_name;
    }

    -- a record was read
    fed_more : is_over new.leg ≡ false → faults (source_of new.leg) ≡ faults (source_of old.leg) → (tells → (a : Asked) (heard : List Chunk) → Stands left old.leg (past_of a heard) → Stands left new.leg (past_of a heard)) → Fed tells left faults name first new gave
    fed_more o same g = open_with gave.chunks o same (λ t a s. g t a gave.chunks s)

    -- a text was heard
    fed_chunk : (c : Chunk) → is_over new.leg ≡ false → faults (source_of new.leg) ≡ faults (source_of old.leg)
        → (tells → (a : Asked) (heard : List Chunk) → Stands left old.leg (past_of a heard) → Stands left new.leg (past_of a (heard ++ c ∷ []))) → Fed tells left faults name first new (gave_more item.Chunk c gave)
    fed_chunk c o same g = open_with (gave.chunks ++ c ∷ []) o same (λ t a s. g t a gave.chunks s)

    fed_end : (c : Chunk) → is_over new.leg ≡ true → faults (source_of new.leg) ≡ faults (source_of old.leg) → (tells → (a : Asked) (heard : List Chunk) → Stands left old.leg (past_of a heard) → (heard ≡ chunks_asked a) × ((recording_asked a).fault ≡ None))
        → Fed tells left faults name first new (gave_more item.End c gave)
    fed_end c o same g = record {
      open_still = ap not (sym o);
      gives = λ t a s.
          g t a gave.chunks (before t a s);
      never_falls = more_count;
      read = λ f e. absurd (cc e);
      calm = λ e. steady same;
      same_name = named ∙ fed.same_name;
    }

    fed_fault : (f : DumpFault) (c : Chunk) → is_over new.leg ≡ true → (tells → (a : Asked) (heard : List Chunk) → Stands left old.leg (past_of a heard) → IsFaultOf (recording_asked a) f)
        → (f.kind ≡ Read → Rose (faults (source_of old.leg)) (faults (source_of new.leg))) → (is_of_source f.kind ≡ false → faults (source_of new.leg) ≡ faults (source_of old.leg))
        → Fed tells left faults name first new (gave_more (item.Fault f) c gave)
    fed_fault f c o g r same = record {
      open_still = ap not (sym o);
      gives = λ t a s. g t a gave.chunks (before t a s);
      never_falls = more_count;
      read = λ h e k. let is : f ≡ h = cc e in rose_later (faults (source_of first.leg)) (faults (source_of old.leg)) (faults (source_of new.leg)) fed.never_falls (r (ap (λ (x : DumpFault). x.kind) is ∙ k));
      calm = λ e. steady (same e);
      same_name = named ∙ fed.same_name;
    }

    -- one step of the leg, beside which this chunk was handed out
    pub fed_step : (c : Chunk) (r : Result LegStep DumpFault) → is_over new.leg ≡ is_last r → (tells → Follows left old.leg new.leg r c)
        → IfErr r (λ fault. fault.kind ≡ Read → Rose (faults (source_of old.leg)) (faults (source_of new.leg))) → UnlessOfSource r (faults (source_of new.leg) ≡ faults (source_of old.leg))
        → Fed tells left faults name first new (gave_more (item_for r) c gave)
    fed_step c (Ok step.Chunk) o f r same = fed_chunk c o same (λ t a heard s. f t (past_of a heard) s)
    fed_step c (Ok step.More) o f r same = fed_more o same (λ t a heard s. f t (past_of a heard) s)
    fed_step c (Ok step.End) o f r same = fed_end c o same (λ t a heard s. f t (past_of a heard) s)
    fed_step c (Err fault) o f r same = fed_fault fault c o (λ t a heard s. f t (past_of a heard) s) r same

-- more may come behind an item, where it may behind the answer
pub goes_on_is : (r : Result LegStep DumpFault) → goes_on (item_for r) ≡ not (is_last r)
goes_on_is (Ok step.Chunk) = refl
goes_on_is (Ok step.More) = refl
goes_on_is (Ok step.End) = refl
goes_on_is (Err fault) = refl

pub not_over : (b : Bool) (x : Item DumpFault) (r : Result LegStep DumpFault) → x ≡ item_for r → b ≡ is_last r → goes_on x ≡ true → b ≡ false
not_over b x r is o e = o ∙ not-true (is_last r) (sym (goes_on_is r) ∙ (ap goes_on (sym is) ∙ e))

-- nothing comes of a record that was read
pub more_from : (r : Result LegStep DumpFault) → item_for r ≡ item.Later → r ≡ Ok step.More
more_from (Ok step.Chunk) e = absurd (cc e)
more_from (Ok step.More) e = refl
more_from (Ok step.End) e = absurd (cc e)
more_from (Err fault) e = absurd (cc e)

-- a chunk comes of a chunk alone
pub chunk_from : (r : Result LegStep DumpFault) → item_for r ≡ item.Chunk → r ≡ Ok step.Chunk
chunk_from (Ok step.Chunk) e = refl
chunk_from (Ok step.More) e = absurd (cc e)
chunk_from (Ok step.End) e = absurd (cc e)
chunk_from (Err fault) e = absurd (cc e)
