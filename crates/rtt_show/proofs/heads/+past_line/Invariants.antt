use Rattle.rtt_show.proofs.heads.+past_line.Given as goal

abbrev pub decreases-past_line : goal.decreases-past_line
decreases-past_line l = l.most
