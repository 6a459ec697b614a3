use Rattle.rtt_base.proofs.Walking.{is_date, one_date}
use Rattle.rtt_base.proofs.laws.each_day_has_one_date.Goals as goal

pub returns-clause-is_date : goal.returns-clause-is_date
returns-clause-is_date c = is_date

pub returns-clause-one : goal.returns-clause-one
returns-clause-one c = one_date
