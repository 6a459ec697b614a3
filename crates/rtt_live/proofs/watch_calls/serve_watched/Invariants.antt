use Rattle.rtt_live.proofs.watch_calls.serve_watched.Given as goal

-- the board whose writer it is
abbrev pub ghosts-serve_on : goal.ghosts-serve_on
ghosts-serve_on g a = record { board = a.writer.board }
