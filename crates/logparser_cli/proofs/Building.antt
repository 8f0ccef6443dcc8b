-- What is built of runs without a checkpoint: all that words ask which are fine.
use Rattle.std.proofs.Common.{◌≡◌, ◌&&◌, ℕ, Bool, true, List, Option, Some, None, is_none, refl, ap₂}
use Rattle.grammar.specs.Trees as model
use Rattle.command_words.specs.declared.spec.Spec.{Spec}
use Rattle.checkpointed_command.specs.Built.{all_built}
use Rattle.checkpointed_command.specs.Texts.{has_text, output_of}

no_some : {X : Type 0} (o : Option X) (b : Bool) → (is_none o && b) ≡ true → o ≡ None
no_some None b built = refl
no_some (Some x) b built = absurd cc

pub plain_built : (spec : Spec) (q : model.Query) → all_built spec q ≡ true → spec.checkpoint ≡ None
plain_built spec q built = no_some spec.checkpoint (has_text spec (output_of spec q)) built

pub built_plainly : (spec : Spec) (q : model.Query) → spec.checkpoint ≡ None → has_text spec (output_of spec q) ≡ true → all_built spec q ≡ true
built_plainly spec q plain text = ap₂ (λ (o : Option (List ℕ)) (b : Bool). is_none o && b) plain text
