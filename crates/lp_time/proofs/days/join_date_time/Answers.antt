use Rattle.lp_time.proofs.DayLemmas.{joined_parts}
use Rattle.lp_time.proofs.days.join_date_time.Goals as goal

pub returns-clause-parts : goal.returns-clause-parts
returns-clause-parts c = joined_parts c.args.date.seconds c.args.date.exists.in_years
