use Rattle.std.proofs.Common.{[], sym, ◌∙◌}
use Rattle.std.proofs.lemmas.List.{append-nil}
use Rattle.ledger_model.specs.Grammar.{payload_of}
use Rattle.ledger_model.proofs.Reading.{one_payload, payload_apart, payload_place}
use Rattle.ledger.proofs.laws.payloads_are_read_in_one_way.Goals as goal

pub returns-clause-one : goal.returns-clause-one
returns-clause-one c = λ a b f g e. (one_payload a b [] [] f g (append-nil (payload_of a) ∙ e ∙ sym (append-nil (payload_of b)))).0

pub returns-clause-no_front : goal.returns-clause-no_front
returns-clause-no_front c = λ a b more f g e. (one_payload a b more [] f g (e ∙ sym (append-nil (payload_of b)))).1

pub returns-clause-apart : goal.returns-clause-apart
returns-clause-apart c = λ entry place is breaks. payload_apart entry place is breaks

pub returns-clause-place : goal.returns-clause-place
returns-clause-place c = λ payload p q one two. payload_place payload p q one two
