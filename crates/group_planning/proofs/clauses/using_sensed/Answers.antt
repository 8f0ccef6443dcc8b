use Rattle.std.proofs.Common.{◌∙◌, false, [], List, subst}
use Rattle.query_types.specs.Meanings.{Answers}
use Rattle.query_types.specs.Parts.{parts_of}
use Rattle.group_planning.specs.Clauses.{items_sensed}
use Rattle.senses.specs.Senses.{listed_senses}
use Rattle.sensing.specs.Sensing.{Named}
use Rattle.group_planning.proofs.clauses.using_sensed.Goals as goal

pub items_sensed-requires-clause-all : goal.items_sensed-requires-clause-all
items_sensed-requires-clause-all c = c.front-using.ensures ∙ c.requires.using

pub returns : goal.returns
returns c = subst (λ (l : List Named). Answers listed_senses c.items_sensed.result (items_sensed false c.args.table.now c.args.moment.now [] l (parts_of c.args.query.now).aliases)) c.front-using.ensures c.items_sensed.ensures
