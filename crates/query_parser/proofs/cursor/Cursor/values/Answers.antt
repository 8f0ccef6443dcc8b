use Rattle.std.proofs.Common.{◌≡◌, List, [], ◌∷◌, ◌++◌, refl, sym, ap, append-nil}
use Rattle.std.proofs.lemmas.List.{map_push}
use Rattle.std.proofs.lemmas.Result.{err_from_is_err_and}
use Rattle.grammar.specs.Trees.{Tree}
use Rattle.grammar.specs.Trees.{Tree as tree}
use Rattle.grammar.specs.Trees as model
use Rattle.grammar.specs.Rules.{behind, is_separator, expr}
use Rattle.grammar.proofs.Answering.{reads_behind, so_far_start, so_far_as, so_far_more, so_far_end, so_far_map}
use Rattle.query_tree.specs.Views.{tree_of}
use Rattle.query_tree.specs.Views as views
use Rattle.grammar.specs.Forms.{Tok}
use Rattle.query_parser.proofs.Stopping.{stop_map, stop_first, stop_second, stop_more, given_ok, given_err}
use Rattle.query_parser.proofs.Steps.{reads_as, pushed, seen_shorter}
use Rattle.query_parser.proofs.cursor.Cursor.values.Goals as goal

pub returns-in_err-first : goal.returns-in_err-first
returns-in_err-first c =
    let p = err_from_is_err_and c.from_residual.result c.from_residual.ensures.1 in
    rw (p.1, p.2) (given_err (stop_map (stop_map (stop_first refl refl c.in_err-first.ensures.is))))

pub loop-self-init : goal.loop-self-init
loop-self-init c =
    let made : views.trees_of c.push.new.self ≡ tree_of c.in_ok-first.first ∷ [] = rw (c.in_ok-push.ensures.ok, c.new-items.ensures) refl in
    so_far_as (λ vs. ap (λ (l : List Tree). model.values (l ++ vs)) (sym made)) (so_far_map (so_far_start refl c.in_ok-first.ensures.is))

pub returns-in_err-_separator : goal.returns-in_err-_separator
returns-in_err-_separator c =
    let p = err_from_is_err_and c.from_residual-in_err-_separator.result c.from_residual-in_err-_separator.ensures.1 in
    rw (p.1, p.2) (given_err (stop_more is_separator refl refl (sym c.loop-self-test.ensures) c.loop-self.invariant (stop_map (stop_first refl refl (c.in_err-_separator.ensures.exact c.args.left).is))))

pub returns-in_err-item : goal.returns-in_err-item
returns-in_err-item c =
    let p = err_from_is_err_and c.from_residual-in_err-item.result c.from_residual-in_err-item.ensures.1 in
    rw (p.1, p.2) (given_err (stop_more is_separator refl refl (sym c.loop-self-test.ensures) c.loop-self.invariant (stop_map (stop_second refl (c.in_ok-_separator.ensures.exact c.args.left).is c.in_err-item.ensures.is))))

pub loop-self-preserved : goal.loop-self-preserved
loop-self-preserved c =
    let made : views.trees_of c.push-in-loop-self.new.self ≡ views.trees_of c.loop-self.items ++ (tree_of c.in_ok-item.item ∷ []) = rw c.in_ok-push-2.ensures.ok (map_push tree_of c.loop-self.items.items.items c.in_ok-item.item) in
    so_far_as (λ vs. ap (λ (l : List Tree). model.values l) (pushed _ _ _ made vs)) (so_far_more is_separator refl refl (sym c.loop-self-test.ensures) (reads_behind refl (c.in_ok-_separator.ensures.exact c.args.left).is c.in_ok-item.ensures.is) c.loop-self.invariant)

pub loop-self-smaller : goal.loop-self-smaller
loop-self-smaller c =
    seen_shorter {f = behind (Tok is_separator) expr} _ _ refl (reads_behind refl (c.in_ok-_separator.ensures.exact c.args.left).is c.in_ok-item.ensures.is)

pub returns : goal.returns
returns c =
    given_ok (reads_as (ap (λ (l : List Tree). model.values l) (append-nil _)) (so_far_end is_separator refl refl (sym c.loop-self-test.ensures) c.loop-self.invariant))
