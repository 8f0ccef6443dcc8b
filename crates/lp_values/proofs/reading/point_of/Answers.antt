use Rattle.lp_values.proofs.ReadingLemmas.{point_from_memchr}
use Rattle.lp_values.proofs.reading.point_of.Goals as goal

pub returns : goal.returns
returns c = point_from_memchr c.args.text.now c.memchr.result c.memchr.ensures
