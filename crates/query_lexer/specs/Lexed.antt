-- The tokens of a text, and the text's length.
use Rattle.std.specs.Prelude.{ℕ, List}
use Rattle.query_lexer.specs.declared.token.Token.{Token}

pub record Lexed : Type 0 where
  pub items : List Token
  pub text_length : ℕ
