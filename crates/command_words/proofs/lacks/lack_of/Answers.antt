use Rattle.std.proofs.Common.{length, arith}
use Rattle.command_words.proofs.Few.{few}
use Rattle.command_words.proofs.lacks.lack_of.Goals as goal

pub prove-unreachable-requires : goal.prove-unreachable-requires
prove-unreachable-requires c =
    let short = few c.args.words.now (length c.args.words.now) (omega arith) (λ at within. c.requires at) in omega arith
