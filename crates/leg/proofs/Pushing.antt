-- A leg at its queue that has pushed its last answer.
use Rattle.std.proofs.Common.{◌≡◌, ℕ, false, true≢false, not, List, ap, ◌∙◌, subst}
use Rattle.std.specs.Prelude.{is_none}
use Rattle.std.proofs.lemmas.Bool.{and_parts}
use Rattle.rtpdump_io.specs.declared.items.DumpFault.{DumpFault}
use Rattle.stream_spec.specs.Ready.{Chunk}
use Rattle.leg.specs.declared.legs.Leg.{Leg}
use Rattle.leg.specs.Gives.{is_over}
use Rattle.workers.specs.Passes.{pushed}
use Rattle.workers.proofs.Feeding.{empty_has}
use Rattle.mix_loop.specs.declared.answers.Answer.{Answer}
use Rattle.mix_loop.specs.declared.items.TextsEnd.{TextsEnd}
use Rattle.mix_loop.specs.declared.items.TextsEnd.TheVariants.{Open, AtEnd, AtFault}
use Rattle.mix_loop.specs.Answers.{gave_of}
use Rattle.mix_loop.specs.Items.{is_open}
use Rattle.leg.specs.Done.{DoneIsAll, IsWhole}
use Rattle.leg.specs.Feds.{Asked, Fed, GivesAs}

module _ {S : Type 0} (tells : Type 0) (left : S → List ℕ) (faults : S → ℕ) (name : S → List ℕ) where
  whole_of : (leg : Leg S) (a : Asked) (chunks : List Chunk) (e : TextsEnd DumpFault) → is_open e ≡ false → GivesAs left leg a chunks e → IsWhole a chunks e
  whole_of leg a chunks Open o g = true≢false o
  whole_of leg a chunks AtEnd o g = g
  whole_of leg a chunks (AtFault f) o g = g

  pub done_all : DoneIsAll tells left faults name
  done_all first f a t s st d =
      let parts = and_parts (is_over f.gives.leg) (is_none f.hand) d in
      let fed = subst (λ (l : List (Answer DumpFault)). Fed tells left faults name first f.gives (gave_of l)) (empty_has f.hand (pushed f.pass) parts.1) s.gives in
      whole_of f.gives.leg a (gave_of (pushed f.pass)).chunks (gave_of (pushed f.pass)).ended (fed.open_still ∙ ap not parts.0) (fed.gives t a st)
