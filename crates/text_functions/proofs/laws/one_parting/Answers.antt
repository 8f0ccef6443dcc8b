use Rattle.text_functions.proofs.PartingLemmas.{parted, parted_one, parted_whole}
use Rattle.text_functions.proofs.laws.one_parting.Goals as goal

pub returns-clause-parted : goal.returns-clause-parted
returns-clause-parted c = λ part text some. parted part text some

pub returns-clause-one : goal.returns-clause-one
returns-clause-one c = λ part text others some is. parted_one part text others some is

pub returns-clause-whole : goal.returns-clause-whole
returns-clause-whole c = λ part text some. parted_whole part text _ (parted part text some)
