use Rattle.std.proofs.Common.{◌≡◌, List, ℕ, nat_eq, not, ap, ◌∙◌}
use Rattle.std.specs.List.{list_any}
use Rattle.std.specs.Cmp.Lexicographic.{pointwise}
use Rattle.indexmap.specs.IndexSet.{insert_key}
use Rattle.delimited_input.proofs.Naming.{noted_more, noted_told}
use Rattle.delimited_input.proofs.header.is_repeated.Goals as goal

pub returns-clause-told : goal.returns-clause-told
returns-clause-told c =
    let noted : List (List ℕ) = c.args.earlier.now.keys in
    λ names are. noted_told noted names c.args.name.now c.in_ok-is_new.is_new (c.in_ok-is_new.ensures.added ∙ ap (λ (folded : List ℕ). not (list_any (pointwise nat_eq folded) noted)) c.in_ok-of.ensures) are

pub returns-clause-noted : goal.returns-clause-noted
returns-clause-noted c =
    let noted : List (List ℕ) = c.args.earlier.now.keys in
    λ names are. noted_more noted names c.insert.new.self.keys c.args.name.now (c.in_ok-is_new.ensures.keys ∙ ap (insert_key (pointwise nat_eq) noted) c.in_ok-of.ensures) are
