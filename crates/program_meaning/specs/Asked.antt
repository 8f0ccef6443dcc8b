-- What a run is asked: the options and the query that its words and its query's text stand for.
use Rattle.std.specs.Prelude.{◌≡◌, ℕ, List}
use Rattle.grammar.specs.Trees.{Query}
use Rattle.command_words.specs.declared.spec.Spec.{Spec}
use Rattle.command_words.specs.Table.{IsAsked}
use Rattle.command_words.specs.Usage.{AreFine}
use Rattle.command_words.specs.Words.{options_in}
use Rattle.query_text.specs.Texts.{IsQuery, IsOnlyQuery}
use Rattle.run_model.specs.Meanings.{Asked}

-- these are the option words of words that are fine and ask for this
pub record HasOptions (options : List (List ℕ)) (spec : Spec) : Type 0 where
  pub words : List (List ℕ)
  pub fine : AreFine words
  pub options_are : options_in words ≡ options
  pub asked : IsAsked words spec

-- what is asked stands for these options and this query, and no other
pub record Asks (asked : Asked) (spec : Spec) (q : Query) : Type 0 where
  pub options : HasOptions asked.words spec
  pub query : IsQuery asked.query q
  pub only : IsOnlyQuery asked.query q
