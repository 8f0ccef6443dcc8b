-- What a query begins with.
use Rattle.std.specs.Prelude.{◌≡◌, List, ◌++◌}
use Rattle.grammar.specs.Trees.{Token}
use Rattle.grammar.specs.Forms.{Kind as k}
use Rattle.grammar.specs.Rules.{query}
use Rattle.grammar.specs.Derivations.{Derivation, tokens}

-- the derivation's first tokens are these
abbrev pub BeginsWith : Derivation k.query query → List Token → Type 0
BeginsWith d front = (more : List Token) × (tokens d ≡ front ++ more)
