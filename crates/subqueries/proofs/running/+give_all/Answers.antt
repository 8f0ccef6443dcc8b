use Rattle.std.proofs.Common.{◌≡◌, ◌-◌, length, get_or, map, take, drop, Err, refl, arith, FitsSigned, w64}
use Rattle.std.proofs.lemmas.Int.{to_z-of_z}
use Rattle.std.proofs.lemmas.Result.{IfErr-at_err, IfErr-weaker, on_ok_weaker}
use Rattle.query_tree.specs.Views.{placed_given, query_of}
use Rattle.subqueries.specs.declared.fault.SubqueryFault.{SubqueryFault}
use Rattle.subqueries.specs.declared.fault.SubqueryFault.TheVariants as F
use Rattle.subqueries.specs.Refusing.{StopsBehind}
use Rattle.subqueries.proofs.Read.{all_none}
use Rattle.subqueries.proofs.Split.{head_rest, parted}
use Rattle.subqueries.proofs.Steps.{adds_none, adds_then, clashes_now, clashes_then, read_now, read_then, still_within, stops_now, stops_then, then_within}
use Rattle.subqueries.proofs.running.+give_all.Goals as goal

pub returns-in_default-places-clause-read : goal.returns-in_default-places-clause-read
returns-in_default-places-clause-read g t c =
    let given = g.L.Logs.given c.args.logs.now in
    all_none (g.L.Logs.folder c.args.logs.now) (map query_of c.args.queries.now) given given (omega arith)

pub returns-in_default-clause-gives : goal.returns-in_default-clause-gives
returns-in_default-clause-gives g t c =
    on_ok_weaker c.none_left.result
    (adds_none c.args.format c.args.spec.now c.args.moment (g.L.Logs.folder c.args.logs.now) (g.L.Logs.folder c.args.logs.now) c.args.queries.now c.args.places.now (map placed_given c.args.values.now.givens) c.args.values.now.lists c.in_default.len_below)
    c.none_left.ensures.none

pub returns-in_default-clause-within : goal.returns-in_default-clause-within
returns-in_default-clause-within g t c = on_ok_weaker c.none_left.result (λ none added same. still_within c.args.spec.now.errors c.args.bad (map placed_given c.args.values.now.givens) added c.requires.within same) c.none_left.ensures.none

pub returns-in-Ok-clause-gives : goal.returns-in-Ok-clause-gives
returns-in-Ok-clause-gives g t c =
    let range : FitsSigned w64 c.args.moment = c.ranges.moment in
    let old = g.L.Logs.folder c.args.logs.now in
    let mid = g.L.Logs.folder c.give_next.new.logs in
    let new = g.L.Logs.folder c.give_all.new.logs in
    let queries = c.args.queries.now in
    let rest = take (length queries - 1) (drop 1 queries) in
    let split = parted queries c.query-item.result c.in-len1-up.len_at_least c.query-item.is in
    let places = c.args.places.now in
    let others = take (length places - 1) (drop 1 places) in
    on_ok_weaker c.give_all.result
    (adds_then c.args.format c.args.spec.now c.args.moment old mid new queries rest c.query-item.result places others (get_or places 0 0) (map placed_given c.args.values.now.givens) (map placed_given c.give_next.new.values.givens) (map placed_given c.give_all.new.values.givens) c.args.values.now.lists c.give_next.new.values.lists c.give_all.new.values.lists c.args.bad c.in-Ok.bad split (head_rest places 0 c.in-len1-up-places.len_at_least) c.give_next.ensures.grows c.give_all.ensures.grows (simp to_z-of_z at c.in-Ok.ensures.gives))
    (simp to_z-of_z at c.give_all.ensures.gives)

pub returns-in-Ok-clause-stops : goal.returns-in-Ok-clause-stops
returns-in-Ok-clause-stops g t c =
    let range : FitsSigned w64 c.args.moment = c.ranges.moment in
    let old = g.L.Logs.folder c.args.logs.now in
    let mid = g.L.Logs.folder c.give_next.new.logs in
    let new = g.L.Logs.folder c.give_all.new.logs in
    let queries = c.args.queries.now in
    let rest = take (length queries - 1) (drop 1 queries) in
    let split = parted queries c.query-item.result c.in-len1-up.len_at_least c.query-item.is in
    let places = c.args.places.now in
    let others = take (length places - 1) (drop 1 places) in
    IfErr-weaker c.give_all.result (StopsBehind c.args.format c.args.spec.now c.args.moment mid new (map query_of rest) others c.in-Ok.bad) (StopsBehind c.args.format c.args.spec.now c.args.moment old new (map query_of queries) places c.args.bad)
    (λ fault. stops_then c.args.format c.args.spec.now c.args.moment old mid new queries rest c.query-item.result places others (get_or places 0 0) _ _ _ _ c.args.bad c.in-Ok.bad fault split (head_rest places 0 c.in-len1-up-places.len_at_least) c.give_next.ensures.grows c.give_all.ensures.grows (simp to_z-of_z at c.in-Ok.ensures.gives)) (simp to_z-of_z at c.give_all.ensures.stops)

pub returns-in-Ok-clause-within : goal.returns-in-Ok-clause-within
returns-in-Ok-clause-within g t c =
    let range : FitsSigned w64 c.args.moment = c.ranges.moment in
    let rest = take (length c.args.queries.now - 1) (drop 1 c.args.queries.now) in
    let places = c.args.places.now in
    let others = take (length places - 1) (drop 1 places) in
    then_within c.args.format c.args.spec.now c.args.moment c.give_all.result (g.L.Logs.folder c.args.logs.now) (g.L.Logs.folder c.give_next.new.logs) (g.L.Logs.folder c.give_all.new.logs) (query_of c.query-item.result) (map query_of rest) (get_or places 0 0) others
    (map placed_given c.args.values.now.givens) (map placed_given c.give_next.new.values.givens) (map placed_given c.give_all.new.values.givens) c.args.values.now.lists c.give_next.new.values.lists c.give_all.new.values.lists c.args.bad c.in-Ok.bad (simp to_z-of_z at c.in-Ok.ensures.gives) (simp to_z-of_z at c.give_all.ensures.gives) c.give_all.ensures.within

pub returns-in-Ok-clause-unread : goal.returns-in-Ok-clause-unread
returns-in-Ok-clause-unread g t c = λ name is.
    let range : FitsSigned w64 c.args.moment = c.ranges.moment in
    let queries = c.args.queries.now in
    let rest = take (length queries - 1) (drop 1 queries) in
    let split = parted queries c.query-item.result c.in-len1-up.len_at_least c.query-item.is in
    let places = c.args.places.now in
    let others = take (length places - 1) (drop 1 places) in
    let clashes = c.give_all.ensures.unread name is in
    clashes_then c.args.format c.args.spec.now c.args.moment (g.L.Logs.folder c.args.logs.now) (g.L.Logs.folder c.give_next.new.logs) (g.L.Logs.folder c.give_all.new.logs) queries rest c.query-item.result places others (get_or places 0 0) (map placed_given c.args.values.now.givens) (map placed_given c.give_next.new.values.givens)
    c.args.values.now.lists c.give_next.new.values.lists c.args.bad c.in-Ok.bad name (g.L.Logs.given c.args.logs.now) (g.L.Logs.given c.give_next.new.logs) (g.L.Logs.given c.give_all.new.logs) split (head_rest places 0 c.in-len1-up-places.len_at_least) c.give_next.ensures.grows c.give_all.ensures.grows (simp to_z-of_z at c.in-Ok.ensures.gives)
    c.give_next.ensures.read (simp to_z-of_z at clashes)

pub returns-in-Ok-clause-read : goal.returns-in-Ok-clause-read
returns-in-Ok-clause-read g t c =
    let queries = c.args.queries.now in
    let rest = take (length queries - 1) (drop 1 queries) in
    read_then (g.L.Logs.folder c.give_next.new.logs) (g.L.Logs.folder c.give_all.new.logs) queries rest c.query-item.result (g.L.Logs.given c.args.logs.now) (g.L.Logs.given c.give_next.new.logs) (g.L.Logs.given c.give_all.new.logs)
    (parted queries c.query-item.result c.in-len1-up.len_at_least c.query-item.is) c.give_all.ensures.grows c.give_next.ensures.read c.give_all.ensures.read

pub returns-in-Err-clause-stops : goal.returns-in-Err-clause-stops
returns-in-Err-clause-stops g t c =
    let range : FitsSigned w64 c.args.moment = c.ranges.moment in
    let queries = c.args.queries.now in
    let rest = take (length queries - 1) (drop 1 queries) in
    stops_now c.args.format c.args.spec.now c.args.moment (g.L.Logs.folder c.args.logs.now) (g.L.Logs.folder c.give_next.new.logs) queries rest c.query-item.result c.args.places.now c.args.bad c.in-Err.fault
    (parted queries c.query-item.result c.in-len1-up.len_at_least c.query-item.is) (simp to_z-of_z at c.in-Err.ensures.stops)

pub returns-in-Err-clause-unread : goal.returns-in-Err-clause-unread
returns-in-Err-clause-unread g t c = λ name is.
    let same : c.in-Err.fault ≡ F.Clash name = IfErr-at_err (λ (fault : SubqueryFault). c.in-Err.fault ≡ fault) is refl in
    let queries = c.args.queries.now in
    let rest = take (length queries - 1) (drop 1 queries) in
    clashes_now c.args.format c.args.spec.now c.args.moment (g.L.Logs.folder c.args.logs.now) (g.L.Logs.folder c.give_next.new.logs) queries rest c.query-item.result c.args.places.now c.args.bad name (g.L.Logs.given c.args.logs.now) (g.L.Logs.given c.give_next.new.logs)
    (parted queries c.query-item.result c.in-len1-up.len_at_least c.query-item.is) (c.in-Err.ensures.clash name (λ i. Err (same i))) (c.in-Err.ensures.unread name (λ i. Err (same i)))

pub returns-in-Err-clause-read : goal.returns-in-Err-clause-read
returns-in-Err-clause-read g t c =
    let queries = c.args.queries.now in
    let rest = take (length queries - 1) (drop 1 queries) in
    read_now (g.L.Logs.folder c.give_next.new.logs) queries rest c.query-item.result (g.L.Logs.given c.args.logs.now) (g.L.Logs.given c.give_next.new.logs)
    (parted queries c.query-item.result c.in-len1-up.len_at_least c.query-item.is) c.give_next.ensures.read
