use Rattle.std.proofs.Common.{◌≡◌, List, [], ◌∷◌, ◌++◌, refl, sym, ap, append-nil}
use Rattle.std.proofs.lemmas.List.{map_push}
use Rattle.std.proofs.lemmas.Result.{err_from_is_err_and}
use Rattle.grammar.specs.declared.Class.TheVariants as class
use Rattle.grammar.specs.Classes.{is_a}
use Rattle.grammar.specs.Rules.{a, behind, using}
use Rattle.grammar.specs.Trees.{Item}
use Rattle.query_tree.specs.Views.{item_of}
use Rattle.grammar.proofs.Answering.{reads_behind, so_far_start, so_far_as, so_far_more, so_far_end}
use Rattle.query_tree.specs.Views as views
use Rattle.query_parser.proofs.Stopping.{stop_map, stop_first, stop_second, stop_more, given_ok, given_err}
use Rattle.query_parser.proofs.Steps.{reads_as, pushed, seen_shorter}
use Rattle.query_parser.proofs.cursor.Cursor.aliases.Goals as goal

pub returns-in_err-first : goal.returns-in_err-first
returns-in_err-first c =
    let p = err_from_is_err_and c.from_residual.result c.from_residual.ensures.1 in
    rw (p.1, p.2) (given_err (stop_map (stop_first refl refl c.in_err-first.ensures.is)))

pub loop-self-init : goal.loop-self-init
loop-self-init c =
    let made : views.items_of c.push.new.self ≡ item_of c.in_ok-first.first ∷ [] = rw (c.in_ok-push.ensures.ok, c.new-items.ensures) refl in
    so_far_as (λ vs. ap (λ (l : List Item). l ++ vs) (sym made)) (so_far_start refl c.in_ok-first.ensures.is)

pub returns-in_err-_comma : goal.returns-in_err-_comma
returns-in_err-_comma c =
    let p = err_from_is_err_and c.from_residual-in_err-_comma.result c.from_residual-in_err-_comma.ensures.1 in
    rw (p.1, p.2) (given_err (stop_more (is_a class.Comma) refl refl (sym c.loop-self-test.ensures) c.loop-self.invariant (stop_map (stop_first refl refl (c.in_err-_comma.ensures.exact c.args.left).is))))

pub returns-in_err-item : goal.returns-in_err-item
returns-in_err-item c =
    let p = err_from_is_err_and c.from_residual-in_err-item.result c.from_residual-in_err-item.ensures.1 in
    rw (p.1, p.2) (given_err (stop_more (is_a class.Comma) refl refl (sym c.loop-self-test.ensures) c.loop-self.invariant (stop_map (stop_second refl (c.in_ok-_comma.ensures.exact c.args.left).is c.in_err-item.ensures.is))))

pub loop-self-preserved : goal.loop-self-preserved
loop-self-preserved c =
    let made : views.items_of c.push-in-loop-self.new.self ≡ views.items_of c.loop-self.items ++ (item_of c.in_ok-item.item ∷ []) = rw c.in_ok-push-2.ensures.ok (map_push item_of c.loop-self.items.items.items c.in_ok-item.item) in
    so_far_as (pushed _ _ _ made) (so_far_more (is_a class.Comma) refl refl (sym c.loop-self-test.ensures) (reads_behind refl (c.in_ok-_comma.ensures.exact c.args.left).is c.in_ok-item.ensures.is) c.loop-self.invariant)

pub loop-self-smaller : goal.loop-self-smaller
loop-self-smaller c =
    seen_shorter {f = behind (a class.Comma) using} _ _ refl (reads_behind refl (c.in_ok-_comma.ensures.exact c.args.left).is c.in_ok-item.ensures.is)

pub returns : goal.returns
returns c =
    given_ok (reads_as (append-nil _) (so_far_end (is_a class.Comma) refl refl (sym c.loop-self-test.ensures) c.loop-self.invariant))
