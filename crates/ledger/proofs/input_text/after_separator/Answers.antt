use Rattle.std.proofs.Common.{◌-◌, ℕ, List, ◌∷◌, length, drop, get_or, ◌∙◌, ap, sym, arith}
use Rattle.std.proofs.lemmas.List.{take_all, length-drop}
use Rattle.ledger_model.specs.Inputs.{byte}
use Rattle.ledger.proofs.Cutters.{two_bytes}
use Rattle.ledger.proofs.input_text.after_separator.Goals as goal

pub returns-in-32 : goal.returns-in-32
returns-in-32 c = (byte (get_or c.args.text.now 0 0), c.if-is_character.ensures, two_bytes c.args.text.now (omega arith) (omega arith) ∙ ap (λ (t : List ℕ). get_or c.args.text.now 0 0 ∷ (32 ∷ t)) (sym (take_all (length c.args.text.now - 2) (drop 2 c.args.text.now) (omega (arith, length-drop 2 c.args.text.now)))))
