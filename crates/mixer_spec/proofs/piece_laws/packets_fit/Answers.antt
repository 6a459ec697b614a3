use Rattle.mixer_spec.proofs.piece_laws.packets_fit.Goals as goal
use Rattle.mixer_spec.proofs.Rooms.{any_law, fit_law, piece_law, most_law}

pub returns-clause-fit : goal.returns-clause-fit
returns-clause-fit c = fit_law

pub returns-clause-any : goal.returns-clause-any
returns-clause-any c = any_law

pub returns-clause-piece : goal.returns-clause-piece
returns-clause-piece c = piece_law

pub returns-clause-most : goal.returns-clause-most
returns-clause-most c = most_law
