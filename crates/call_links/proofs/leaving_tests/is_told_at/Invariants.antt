use Rattle.call_links.proofs.leaving_tests.is_told_at.Given as goal

-- so long as is said
abbrev pub ghosts-is_told_by : goal.ghosts-is_told_by
ghosts-is_told_by a = record { longest = a.longest }
