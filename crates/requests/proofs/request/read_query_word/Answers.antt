use Rattle.std.proofs.Common.{ℕ, List, sym, ◌∙◌, subst}
use Rattle.query_text.specs.Texts.{IsQuery, IsOnlyQuery}
use Rattle.query_tree.specs.Views.{query_of}
use Rattle.requests.specs.Texts.{HoldsText}
use Rattle.requests.proofs.request.read_query_word.Goals as goal

-- the copy is the text of the bytes that were read
pub returns-in-Ok-text_of-clause-query : goal.returns-in-Ok-text_of-clause-query
returns-in-Ok-text_of-clause-query g c =
    let before = g.L.Logs.folder c.args.logs.now in
    let now = g.L.Logs.folder c.query_text.new.logs in
    let q = query_of c.in-Ok.query in
    let same = c.in-Ok-text_of.ensures in
    record {
      holds = subst (HoldsText before now c.args.word.now) (sym (same ∙ c.as_slice-read.ensures)) c.in_ok-bytes.ensures.text;
      query = subst (λ (text : List ℕ). IsQuery text q) (sym same) c.in-Ok.ensures.query;
      only = subst (λ (text : List ℕ). IsOnlyQuery text q) (sym same) c.in-Ok.ensures.only;
    }
