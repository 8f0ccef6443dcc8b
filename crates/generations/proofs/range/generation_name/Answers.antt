use Rattle.std.proofs.Common.{rules, ◌≡◌, ◌<◌, ◌^◌, ◌++◌, ◌∷◌, ℕ, List, subst, ap, ◌∙◌}
use Rattle.std.specs.Fmt.{decimal}
use Rattle.std.proofs.lemmas.Fmt.{decimal-digits_of}
use Rattle.lp_outside.specs.NameFault.{IsRead}
use Rattle.run_model.specs.Logs.{generation_name}
use Rattle.generations.proofs.range.generation_name.Goals as goal

pub returns-in-Ok-try_push_str : goal.returns-in-Ok-try_push_str
unfolding generation_name
returns-in-Ok-try_push_str c =
    let written : c.as_str.result.now ≡ 46 ∷ decimal c.args.number = search rules in
    let small : c.args.number < 2 ^ 64 = c.ranges.number.fits in
    let is = written ∙ ap (λ t. 46 ∷ t) (decimal-digits_of c.args.number c.requires.some small) in
    subst (λ (t : List ℕ). IsRead (c.args.stem.now ++ t) c.with_suffix.result) is c.with_suffix.ensures
