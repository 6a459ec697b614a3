-- Of which legs the links were opened.
use Rattle.std.proofs.Common.{ℕ, List, ◌++◌, length, map, ap, sym, ◌∙◌, arith}
use Rattle.std.proofs.lemmas.List.{append-nil, take_all}
use Rattle.file_spec.specs.declared.conference_lines.LegLine.{LegLine}
use Rattle.file_spec.specs.Conference.{Conference}
use Rattle.rtt_live.specs.Opened.{LeadsAll, LeadsSome, link_of}

-- of none
pub some_none : (c : Conference) (leads : List (ℕ × List ℕ)) → LeadsSome c leads leads
some_none c leads = (0, sym (append-nil leads))

-- of all
pub some_all : (c : Conference) (old new : List (ℕ × List ℕ)) → LeadsAll c old new → LeadsSome c old new
some_all c old new all = (length c.legs, all ∙ ap (λ (legs : List LegLine). old ++ map link_of legs) (sym (take_all (length c.legs) c.legs (omega arith))))
