-- Texts of a head and a line for each row. The text of some rows begins that of more.
use Rattle.std.specs.Prelude.{◌≡◌, ℕ, List, ◌++◌, flat_map}
use Rattle.std.proofs.Common.{ap, sym, ◌∙◌, append_assoc}
use Rattle.std.proofs.lemmas.Grind.{flat_map-append}
use Rattle.lp_model.specs.Outside.{Begins}

abbrev pub lined : {X : Type 0} → List ℕ → (X → List ℕ) → List X → List ℕ
lined head line rows = head ++ flat_map line rows

-- the text of more rows stands behind that of some
pub lined_more : {X : Type 0} (head : List ℕ) (line : X → List ℕ) (rows more : List X) → lined head line (rows ++ more) ≡ lined head line rows ++ flat_map line more
lined_more head line rows more =
    ap (λ t. head ++ t) (flat_map-append line rows more) ∙ sym (append_assoc head (flat_map line rows) (flat_map line more))

pub lined_begins : {X : Type 0} (head : List ℕ) (line : X → List ℕ) (rows more : List X) (so_far : List ℕ) → so_far ≡ lined head line rows → Begins so_far (lined head line (rows ++ more))
lined_begins head line rows more so_far is = (flat_map line more, lined_more head line rows more ∙ ap (λ t. t ++ flat_map line more) (sym is))
