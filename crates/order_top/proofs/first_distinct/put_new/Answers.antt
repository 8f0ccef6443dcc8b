use Rattle.std.proofs.Common.{◌≡◌, ◌∙◌, ap, sym, subst, List, Bool, false, if◌then◌else◌}
use Rattle.indexmap.specs.IndexSet.{insert_key}
use Rattle.order_top.specs.Finish.{Row, same_row, precedes}
use Rattle.order_top.specs.Mirrors.{Mirrors, is_gone}
use Rattle.order_top.specs.Ordering.{Ordering}
use Rattle.order_top.proofs.Mirroring.{any_more, mirrors_without, popped, put_same}
use Rattle.order_top.proofs.first_distinct.put_new.Goals as goal

pub returns-in-Ok-clause-mirrors : goal.returns-in-Ok-clause-mirrors
returns-in-Ok-clause-mirrors c =
    let set = c.args.seen.now.keys in
    let put = c.in_ok-insert.ensures.keys ∙ (put_same set c.args.copy ∙ ap (insert_key same_row set) c.requires.copy) in
    mirrors_without (precedes c.args.first.now.finish) set c.args.first.now.kept c.args.row c.requires.mirrors c.requires.new c.put.new.self.kept c.in-Ok.gone c.in-Ok.ensures.gone c.forget.new.seen.keys
    (λ q. c.forget.ensures q ∙ ap (λ (b : Bool). if is_gone c.in-Ok.gone q then false else b) (any_more set c.args.row c.requires.new c.insert.new.self.keys put q))

pub returns-in-Err-clause-mirrors : goal.returns-in-Err-clause-mirrors
returns-in-Err-clause-mirrors c =
    let set = c.args.seen.now.keys in
    let put = c.in_ok-insert.ensures.keys ∙ (put_same set c.args.copy ∙ ap (insert_key same_row set) c.requires.copy) in
    let left : c.pop.new.self.keys ≡ set = popped set c.args.row c.requires.new c.insert.new.self.keys put c.pop.new.self.keys c.pop.result c.pop.ensures.keys c.pop.ensures.found.1 in
    subst (λ (l : List Row). Mirrors l c.put.new.self.kept) (sym left) (subst (λ (s : Ordering). Mirrors set s.kept) (sym c.in-Err.ensures.err) c.requires.mirrors)
