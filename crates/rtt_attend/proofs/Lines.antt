-- The lines of what is counted of the inputs, leg by leg.
use Rattle.std.proofs.Common.{◌≡◌, ◌+◌, ◌<◌, ◌≤◌, ℕ, zero, suc, Some, List, [], ◌∷◌, ◌++◌, length, get_or, take, refl, ap, sym, ◌∙◌, arith}
use Rattle.std.specs.Prelude.{flat_map, slice_get}
use Rattle.std.specs.List.{enumerate_from}
use Rattle.std.proofs.lemmas.List.{append-nil, take_all}
use Rattle.std.proofs.lemmas.Grind.{flat_map-append}
use Rattle.std.proofs.lemmas.List.FromFn.{length-enumerate_from}
use Rattle.file_spec.specs.declared.conference_lines.LegLine.{LegLine}
use Rattle.file_spec.specs.Conference.{Conference}
use Rattle.view_spec.specs.Tallies.{tally_line}
use Rattle.mixer_posts.proofs.LegLines.{legs_more}
use Rattle.command_spec.specs.Inputs.{inputs_under}
use Rattle.command_spec.specs.Mixing.{counts_lines, leg_tally}
use Rattle.command_spec.specs.Work.{Contents}
use Rattle.rtt_mix.proofs.Opening.{leg_read_at}
use Rattle.rtt_attend.specs.declared.source_notes.SourceNotes.{SourceNotes}
use Rattle.rtt_attend.specs.Named.{AreTold, lines_below}

said_read_at : (all : List SourceNotes) (k : ℕ) (said : SourceNotes) → k < length all → said ≡ get_or all k said → slice_get all k ≡ Some said
said_read_at [] k said less is = absurd (omega arith)
said_read_at (x ∷ all) zero said less is = ap Some (sym is)
said_read_at (x ∷ all) (suc k) said less is = said_read_at all k said (omega arith) is

-- one line more
pub lines_more : (held : Contents) (c : Conference) (all : List SourceNotes) (k : ℕ) (leg : LegLine) (said : SourceNotes) (old new : List ℕ) → AreTold held c all → k < length c.legs → length all ≡ length c.legs
    → leg ≡ get_or c.legs k leg → said ≡ get_or all k said → old ≡ lines_below c (inputs_under held c.legs) k → new ≡ old ++ tally_line leg.name said.tally
    → new ≡ lines_below c (inputs_under held c.legs) (k + 1)
lines_more held c all k leg said old new told less many leg_is said_is before adds =
    let inputs = inputs_under held c.legs in
    let line : ℕ × LegLine → List ℕ = λ x. tally_line x.1.name (leg_tally c inputs x.0 x.1) in
    let below = take k (enumerate_from 0 c.legs) in
    let counts : said.tally ≡ leg_tally c inputs k leg = told.counts k said leg (said_read_at all k said (omega (arith, less, many)) said_is) (leg_read_at c.legs k leg less leg_is) in
    let here : (k, leg) ≡ (k, get_or c.legs k leg) = ap (λ (l : LegLine). (k, l)) leg_is in
    adds
    ∙ (ap (λ t. old ++ tally_line leg.name t) counts
    ∙ (ap (λ (xs : List ℕ). xs ++ line (k, leg)) before
    ∙ (ap (λ (ys : List ℕ). flat_map line below ++ ys) (sym (append-nil (line (k, leg))))
    ∙ (sym (flat_map-append line below ((k, leg) ∷ []))
    ∙ (ap (λ x. flat_map line (below ++ x ∷ [])) here
    ∙ sym (ap (flat_map line) (legs_more c k leg less)))))))

-- all of them
pub lines_all : (held : Contents) (c : Conference) (k : ℕ) (lines : List ℕ) → length c.legs ≤ k → lines ≡ lines_below c (inputs_under held c.legs) k → lines ≡ counts_lines c (inputs_under held c.legs)
lines_all held c k lines low is =
    is ∙ ap (flat_map (λ x. tally_line x.1.name (leg_tally c (inputs_under held c.legs) x.0 x.1))) (take_all k (enumerate_from 0 c.legs) (omega (arith, length-enumerate_from 0 c.legs, low)))
