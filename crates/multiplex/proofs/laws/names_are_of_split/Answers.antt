use Rattle.multiplex.proofs.Splits.{split_stars, split_plain}
use Rattle.multiplex.proofs.laws.names_are_of_split.Goals as goal

pub returns-clause-stars : goal.returns-clause-stars
returns-clause-stars c = split_stars

pub returns-clause-plain : goal.returns-clause-plain
returns-clause-plain c = split_plain
