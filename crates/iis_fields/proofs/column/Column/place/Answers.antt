use Rattle.std.proofs.Common.{Option, IfSome, ◌<◌, sym, subst, ℕ}
use Rattle.iis_fields.proofs.TableLemmas.{place_of-within}
use Rattle.iis_fields.proofs.column.Column.place.Goals as goal

pub returns-clause-within : goal.returns-clause-within
returns-clause-within c = subst (λ (r : Option ℕ). IfSome r (λ place. place < 22)) (sym c.self.inside.found) (place_of-within c.self.inside.name)
