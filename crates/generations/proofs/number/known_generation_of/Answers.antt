use Rattle.std.proofs.Common.{rules, Some, None, ◌∙◌}
use Rattle.std.proofs.lemmas.Slice.Eq.{strip_prefix_is}
use Rattle.generations.proofs.Numbers.{identity_behind, no_identity}
use Rattle.generations.proofs.number.known_generation_of.Goals as goal

pub returns-in-Some : goal.returns-in-Some
returns-in-Some c = identity_behind c.args.front.now c.args.identity.now c.as_bytes.result.now c.in-Some.text.now c.number_of.result (c.as_bytes.ensures.value ∙ c.as_str.ensures.text)
    (strip_prefix_is (λ a b. search rules) c.as_bytes.result.now c.args.front.now (Some c.in-Some.text) c.in-Some.ensures.cases) c.number_of.ensures

pub returns-in-None : goal.returns-in-None
returns-in-None c = no_identity c.args.front.now c.args.identity.now c.as_bytes.result.now (c.as_bytes.ensures.value ∙ c.as_str.ensures.text)
    (strip_prefix_is (λ a b. search rules) c.as_bytes.result.now c.args.front.now None c.in-None.ensures.cases)
