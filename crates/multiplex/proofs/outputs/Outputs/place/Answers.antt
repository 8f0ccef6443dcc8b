use Rattle.std.proofs.Common.{◌≡◌, ◌∷◌, [], ◌++◌, List, ◌∙◌, ap}
use Rattle.std.proofs.lemmas.Result.{on_ok_weaker}
use Rattle.lp_values.specs.declared.value.Value.{Value}
use Rattle.multiplex.specs.Naming.{filled}
use Rattle.multiplex.specs.Placing.{index_among, after_row, StandFor, indices_of}
use Rattle.multiplex.proofs.Names.{both_ok}
use Rattle.multiplex.proofs.Standing.{stand_at, indices_at}
use Rattle.multiplex.proofs.outputs.Outputs.place.Goals as goal

pub returns-clause-stand : goal.returns-clause-stand
returns-clause-stand c = on_ok_weaker c.place_values.result
    (λ is rows stand. stand_at c.args.self.now c.place_values.new.self rows c.args.row.now (is ∙ ap (λ (l : List Value). after_row c.args.self.now (filled c.args.self.now.pattern l)) c.as_slice.ensures) stand) c.place_values.ensures.ok

pub returns-clause-indices : goal.returns-clause-indices
returns-clause-indices c =
    let old = c.args.self.now in
    let new = c.place_values.new.self in
    let values = c.args.row.now in
    both_ok c.place_values.result (λ index. new ≡ after_row old (filled old.pattern c.as_slice.result.now)) (λ index. index ≡ index_among old.names (filled old.pattern c.as_slice.result.now))
    (λ index. (rows : List (List Value)) → StandFor old rows → indices_of new (rows ++ values ∷ []) ≡ indices_of old rows ++ index ∷ [])
    (λ index is at rows stand. indices_at old new rows values index (is ∙ ap (λ (l : List Value). after_row old (filled old.pattern l)) c.as_slice.ensures) (at ∙ ap (λ (l : List Value). index_among old.names (filled old.pattern l)) c.as_slice.ensures) stand)
    c.place_values.ensures.ok c.place_values.ensures.index
