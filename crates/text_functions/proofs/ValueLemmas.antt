-- What follows a name and `=`.
use Rattle.std.specs.Prelude.{codes}
use Rattle.std.specs.List.{starts_with}
use Rattle.std.specs.Option.{option_copied}
use Rattle.std.specs.Str.Pattern.{FindsTextPrefix, StripsPrefix}
use denote.Ref.{Bor}
use Rattle.std.proofs.Common.{◌≡◌, ◌≢◌, ℕ, ◌+◌, true, false, nat_eq, if◌then◌else◌, List, ◌∷◌, ◌++◌, length, drop, Option, Some, None, MatchOption, refl, sym, ap, ◌∙◌}
use Rattle.std.proofs.lemmas.List.{append_assoc, append_cancel_left, drop_at, length-append}
use Rattle.std.proofs.lemmas.Slice.Eq.{starts_is}
use Rattle.std.proofs.lemmas.Bool.{false_from_ne_true}
use Rattle.std.proofs.lemmas.Bool.Decides.{Decides-eqb}

-- what a token has behind `name=`
abbrev behind_name : List ℕ → List ℕ → Option (List ℕ)
behind_name name token = if starts_with nat_eq token (name ++ codes "=") then Some (drop (length name + 1) token) else None

is_none : (name token : List ℕ) → ((rest : List ℕ) → token ≢ name ++ (61 ∷ rest)) → None ≡ behind_name name token
is_none name token none =
    let e : starts_with nat_eq token (name ++ codes "=") ≡ false =
    false_from_ne_true _ (λ is. none _ ((starts_is Decides-eqb token (name ++ codes "=") _ refl).0 is ∙ append_assoc name (codes "=") _)) in
    rw e refl

is_some : (name token value : List ℕ) → token ≡ name ++ (61 ∷ value) → Some value ≡ behind_name name token
is_some name token value whole =
    let whole' : token ≡ (name ++ codes "=") ++ value = whole ∙ sym (append_assoc name (codes "=") value) in
    let e : starts_with nat_eq token (name ++ codes "=") ≡ true = (starts_is Decides-eqb token (name ++ codes "=") _ refl).1 value whole' in
    let size : length (name ++ codes "=") ≡ length name + 1 = length-append name (codes "=") in
    let d : drop (length name + 1) token ≡ value = ap (drop (length name + 1)) whole' ∙ drop_at (name ++ codes "=") value (length name + 1) size in
    rw (e, d) refl

pub value_lacks : (name token : List ℕ) → FindsTextPrefix name token None → None ≡ behind_name name token
value_lacks name token none = is_none name token (λ rest e. none (61 ∷ rest) e)

stripped : (name token rest : List ℕ) → StripsPrefix (FindsTextPrefix name) token rest → token ≡ name ++ rest
stripped name token rest (n, finds, is, size) = finds.1 ∙ ap (λ (xs : List ℕ). name ++ xs) (sym is)

pub value_behind : (name token rest : List ℕ) (r : Option (Bor (List ℕ))) → StripsPrefix (FindsTextPrefix name) token rest → MatchOption r ((more : List ℕ) → rest ≢ 61 ∷ more) (λ x. rest ≡ 61 ∷ x.now) → option_copied r ≡ behind_name name token
value_behind name token rest None strips h =
    is_none name token (λ more e. h more (append_cancel_left name rest (61 ∷ more) (sym (stripped name token rest strips) ∙ e)))
value_behind name token rest (Some x) strips h =
    is_some name token x.now (stripped name token rest strips ∙ ap (λ (xs : List ℕ). name ++ xs) h)
