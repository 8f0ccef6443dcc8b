use Rattle.std.proofs.Common.{◌≡◌, ℕ, suc, zero, List, [], ◌∷◌, None, slice_get, get_or, refl, sym}
use Rattle.delimited_input.proofs.sampler.column_text.Goals as goal

none_there : (row : List (List ℕ)) (column : ℕ) → slice_get row column ≡ None → get_or row column [] ≡ []
none_there [] column e = refl
none_there (text ∷ texts) zero e = absurd cc
none_there (text ∷ texts) (suc column) e = none_there texts column e

pub returns-in-None : goal.returns-in-None
returns-in-None c = sym (none_there c.args.row.now c.args.column (sym c.in-None.ensures))
