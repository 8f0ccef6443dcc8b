use Rattle.std.proofs.Common.{◌≡◌, ◌++◌, take}
use Rattle.query_tree.proofs.given.add_texts.Given as goal

abbrev pub invariant-loop-text : goal.invariant-loop-text
invariant-loop-text l = l.to ≡ l.initial.to ++ take l.text-index l.text-items
