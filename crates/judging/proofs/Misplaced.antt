-- What is misplaced, one part at a time.
use Rattle.std.proofs.Common.{◌≡◌, Bool, ◌||◌, List, ap, sym, ◌∙◌}
use Rattle.lp_values.specs.declared.kind.Kind.{Kind}
use Rattle.query_types.specs.Terms.{Maker}
use Rattle.senses.specs.Senses.{Sense, Senses, formed, is_key}
use Rattle.judging.specs.Judged.{all_misplaced, misplaced}

-- what is misplaced in what is made of others
pub formed_misplaced : (keys : List Sense) (free : Bool) (s : Sense) (kind : Kind) (by : Maker) (of : Senses) → s ≡ formed kind by of
    → misplaced keys free s ≡ all_misplaced keys (free || is_key keys s) of
formed_misplaced keys free s kind by of is = ap (misplaced keys free) is ∙ ap (λ x. all_misplaced keys (free || is_key keys x) of) (sym is)
