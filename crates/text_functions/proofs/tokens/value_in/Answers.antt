use Rattle.std.proofs.Common.{arith}
use Rattle.std.proofs.lemmas.Str.Pattern.{strip_prefix_char}
use Rattle.text_functions.proofs.ValueLemmas.{value_lacks, value_behind}
use Rattle.text_functions.proofs.tokens.value_in.Goals as goal

pub returns-in-Some : goal.returns-in-Some
returns-in-Some c =
    value_behind c.args.name.now c.args.token.now c.in-Some.rest.now c.strip_prefix-in-Some.result c.in-Some.ensures.cases (strip_prefix_char 61 c.in-Some.rest.now c.strip_prefix-in-Some.result c.strip_prefix-in-Some.ensures.cases (omega arith))

pub returns-in-None : goal.returns-in-None
returns-in-None c = value_lacks c.args.name.now c.args.token.now c.in-None.ensures.cases
