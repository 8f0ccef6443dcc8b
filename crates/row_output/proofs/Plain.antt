-- An order that asks nothing leaves all rows, in their order.
use Rattle.std.specs.Prelude.{◌≡◌, ℕ, Bool, true, false, List, [], ◌∷◌, Option, None}
use Rattle.std.proofs.Common.{ap, ◌∙◌, refl}
use Rattle.order_top.specs.Finish.{Row, Finish, finished, precedes}
use Rattle.order_top.specs.Lists.{ordered, with_earlier}
use Rattle.row_output.specs.Orders.{IsPlain}

abbrev plain : Bool → Finish
plain descending = record { columns = []; descending = descending; distinct = false; top = None }

in_front : (descending : Bool) (row : Row) (rows : List Row) → with_earlier (precedes (plain descending)) row rows ≡ row ∷ rows
in_front true row [] = refl
in_front true row (next ∷ rows) = refl
in_front false row [] = refl
in_front false row (next ∷ rows) = refl

all_stay : (descending : Bool) (rows : List Row) → ordered (precedes (plain descending)) rows ≡ rows
all_stay descending [] = refl
all_stay descending (row ∷ rows) = ap (with_earlier (precedes (plain descending)) row) (all_stay descending rows) ∙ in_front descending row rows

pub all_left : (finish : Finish) → IsPlain finish → (rows : List Row) → finished finish rows ≡ rows
all_left finish (columns, distinct, top) rows =
    let At : List ℕ → Bool → Option ℕ → Finish = λ c b t. record { columns = c; descending = finish.descending; distinct = b; top = t } in
    let same : finish ≡ plain finish.descending = ap (λ c. At c finish.distinct finish.top) columns ∙ (ap (λ b. At [] b finish.top) distinct ∙ ap (λ t. At [] false t) top) in
    ap (λ (f : Finish). finished f rows) same ∙ all_stay finish.descending rows
