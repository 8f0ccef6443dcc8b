use Rattle.std.proofs.Common.{lit<}
use Rattle.command_words.proofs.Parts.{parts_split}
use Rattle.command_words.proofs.word.parts.Goals as goal

pub returns : goal.returns
returns c = parts_split c.args.word.now _ (c.split_once.ensures.byte (lit< tt) (λ w o found. found))
