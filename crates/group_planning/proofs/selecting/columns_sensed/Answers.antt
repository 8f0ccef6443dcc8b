use Rattle.std.proofs.Common.{◌≡◌, ◌∙◌, ◌+◌, ◌++◌, ◌∷◌, [], List, map, drop, ap, sym, arith}
use Rattle.std.proofs.lemmas.List.{map_push}
use Rattle.query_types.specs.Planned.{columns_from}
use Rattle.query_types.specs.Terms.{Term, column}
use Rattle.senses.specs.declared.sense.SenseForm.{SenseForm, Field}
use Rattle.senses.specs.Senses.{Sense, field, sense_of}
use Rattle.group_planning.proofs.Steps.{star_step}
use Rattle.group_planning.proofs.selecting.columns_sensed.Goals as goal

pub loop-index-preserved : goal.loop-index-preserved
loop-index-preserved c =
    let columns = c.args.table.now.columns in
    let star = c.args.star in
    let i = c.loop-index.index in
    let front = map sense_of c.loop-index.senses.items in
    let behind = map (field star) (columns_from (i + 1) (drop (i + 1) columns)) in
    let more : map sense_of c.push.new.self.items ≡ front ++ field star (column i) ∷ [] =
    ap (λ (l : List SenseForm). map sense_of l) c.in_ok-push.ensures.items ∙ map_push sense_of c.loop-index.senses.items (Field star c.column-meaning.result)
    ∙ ap (λ (m : Term). front ++ field star m ∷ []) c.column-meaning.ensures in
    c.loop-index.invariant ∙ star_step star columns i front (omega (arith, c.len-index-end.ensures)) ∙ ap (λ (l : List Sense). l ++ behind) (sym more)
