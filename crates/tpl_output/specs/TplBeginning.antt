-- What is out of a text by a template begins the whole.
use Rattle.std.specs.Prelude.{ℕ, Bool, true, false, List, [], ◌++◌}
use Rattle.std.proofs.Common.{ap, ◌∙◌, append_assoc}
use Rattle.lp_model.specs.Outside.{Begins}
use Rattle.lp_values.specs.declared.value.Value.{Value}
use Rattle.text_formats.specs.Lined.{lined_begins}
use Rattle.tpl_output.specs.Marks.{filled}
use Rattle.tpl_output.specs.Tpl.{TplState, IsTplText, tpl_of}

pub tpl_begins : (state : TplState) (fresh : Bool) (names : List (List ℕ)) (rows more : List (List Value)) (so_far : List ℕ) → IsTplText state names rows so_far → Begins so_far (tpl_of state.sections state.moment fresh names (rows ++ more))
tpl_begins state fresh names rows more so_far is =
    let foot = filled names state.moment false [] state.sections.footer in
    let begun = lined_begins (filled names state.moment false [] state.sections.header) (λ values. filled names state.moment true values state.sections.body) rows more so_far is.out in
    (begun.0 ++ foot, ap (λ t. t ++ foot) begun.1 ∙ append_assoc so_far begun.0 foot)
