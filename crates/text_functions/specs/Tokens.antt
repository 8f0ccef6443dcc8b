-- Parts of a text between separators.
use Rattle.std.specs.Prelude.{ℕ, ◌+◌, ◌==◌, nat_eq, ℤ, List, ◌++◌, length, take, drop, reverse, find, slice_get, Option, None, option_map, option_and_then, unwrap_or, if◌then◌else◌, codes}
use Rattle.std.specs.List.{starts_with}
use Rattle.text_functions.specs.Pieces.{pieces, joined}
use Rattle.text_functions.specs.Positions.{natural}

-- the token of a number
abbrev pub token_by : List ℕ → ℤ → List ℕ → Option (List ℕ)
token_by text index separator =
    if length separator == 0 then None else option_and_then (λ n. slice_get (pieces separator text) n) (natural index)

abbrev pub token : List ℕ → ℤ → Option (List ℕ) → Option (List ℕ)
token text index separator = token_by text index (unwrap_or separator (codes ","))

-- what follows `name=` in the first token that begins so
abbrev pub value_by : List ℕ → List ℕ → List ℕ → Option (List ℕ)
value_by text name separator =
    if length separator == 0 then None
    else option_map (drop (length name + 1)) (find (λ t. starts_with nat_eq t (name ++ codes "=")) (pieces separator text))

abbrev pub value : List ℕ → List ℕ → Option (List ℕ) → Option (List ℕ)
value text name separator = value_by text name (unwrap_or separator (codes "&"))

-- what stands before the occurrence of a number, from 0 on, or the whole where there are fewer
abbrev pub prefix : List ℕ → ℤ → List ℕ → Option (List ℕ)
prefix text index separator =
    if length separator == 0 then None
    else option_map (λ n. joined separator (take (n + 1) (pieces separator text))) (natural index)

-- what stands behind the occurrence of a number from the right: the prefix of the text read backwards
abbrev pub suffix : List ℕ → ℤ → List ℕ → Option (List ℕ)
suffix text index separator = option_map reverse (prefix (reverse text) index (reverse separator))
