use Rattle.std.proofs.Common.{◌∙◌, Some, None, ap, sym}
use Rattle.std.specs.Option.{option_copied}
use Rattle.sensing.proofs.Terms.{place_given}
use Rattle.sensing.proofs.calls.first_place.Goals as goal

pub returns-in-Some : goal.returns-in-Some
returns-in-Some c = c.place.ensures ∙ sym (place_given c.args.arguments.now.items.items (Some c.in-Some.argument.now) (sym (ap option_copied c.in-Some.is) ∙ c.get.ensures))

pub returns-in-None : goal.returns-in-None
returns-in-None c = sym (place_given c.args.arguments.now.items.items None (sym (ap option_copied c.in-None.is) ∙ c.get.ensures))
