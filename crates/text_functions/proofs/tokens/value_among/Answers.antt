use Rattle.std.specs.Prelude.{codes}
use Rattle.std.specs.List.{starts_with}
use Rattle.std.specs.Option.{option_map, option_copied}
use Rattle.std.proofs.Common.{◌+◌, ◌++◌, ℕ, Bool, List, nat_eq, length, drop, sym, ap, ◌∙◌}
use Rattle.text_functions.proofs.TokenLemmas.{value_here, value_next, value_last}
use Rattle.text_functions.proofs.tokens.value_among.Goals as goal

abbrev begins : List ℕ → List ℕ → Bool
begins name token = starts_with nat_eq token (name ++ codes "=")

abbrev behind : List ℕ → List ℕ → List ℕ
behind name token = drop (length name + 1) token

pub returns-in-Some-value_in : goal.returns-in-Some-value_in
returns-in-Some-value_in c =
    value_here (begins c.args.name.now) (behind c.args.name.now) c.args.separator.now c.loop-token.rest.now c.in-Some.token.now c.in-Some.next.now c.in-Some-value_in.value.now c.requires c.in-Some.ensures.cut c.in-Some-value_in.ensures
    ∙ ap (option_map (behind c.args.name.now)) (sym c.loop-token.invariant.same)

pub loop-token-preserved : goal.loop-token-preserved
loop-token-preserved c = record {
  same = c.loop-token.invariant.same ∙ value_next (begins c.args.name.now) (behind c.args.name.now) c.args.separator.now c.loop-token.rest.now c.in-Some.token.now c.in-Some.next.now c.requires c.in-Some.ensures.cut c.in_default-value_in.ensures;
  text = c.in-Some.ensures.utf8.1;
}

pub returns : goal.returns
returns c =
    value_last (begins c.args.name.now) (behind c.args.name.now) c.args.separator.now c.loop-token.rest.now (option_copied c.value_in-2.result) c.in_default.ensures.cut c.value_in-2.ensures
    ∙ ap (option_map (behind c.args.name.now)) (sym c.loop-token.invariant.same)
