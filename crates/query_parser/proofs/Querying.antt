-- A query made of its parts.
use Rattle.std.proofs.Common.{◌≡◌, ℕ, true, List, [], ◌++◌, length, map, Option, Some, None, option_map, refl, sym, ◌∙◌, ap, ap₂}
use Rattle.grammar.specs.Trees as model
use Rattle.grammar.specs.Trees.{Query as query}
use Rattle.query_tree.specs.declared.condition.Cond.{Cond}
use Rattle.query_tree.specs.declared.query.Query.{Query}
use Rattle.query_tree.specs.Views.{test_of, query_of, numbers_of}
use Rattle.query_parser.specs.declared.clauses.Selected.{Selected}
use Rattle.query_parser.specs.declared.query.Sourced.{Sourced}
use Rattle.query_parser.specs.declared.query.Ended.{Ended}
use Rattle.query_parser.specs.Clauses.{selected_of}
use Rattle.query_parser.specs.Conditions.{asked_between, conditions_with, count_from, Grown}
use Rattle.query_parser.specs.Queries.{sourced_of, ended_of, query_with}
use Rattle.query_parser.proofs.Conditioning.{plain_between, between_both, grown_both}

asked_all : {old new : List Query} (o : Option Cond) → Grown true old new (numbers_of o) → model.asked_of (conditions_with o (asked_between old new)) ≡ asked_between old new
asked_all None one = sym (plain_between one)
asked_all (Some c) one = refl

tested : (o : Option Cond) (qs : List model.Query) → option_map test_of o ≡ model.tested_of (conditions_with o qs)
tested None qs = refl
tested (Some c) qs = refl

between_start : (old new : List Query) → old ≡ [] → asked_between old new ≡ map query_of new
between_start old new is = ap (λ (l : List Query). asked_between l new) is

pub query_joined : (s : Selected) (u : Sourced) (e : Ended) (old mid new : List Query) → old ≡ [] → Grown true old mid (numbers_of u.condition) → Grown true mid new (numbers_of e.having)
    → query_with s u e new ≡ model.query_of (selected_of s) (sourced_of u (asked_between old mid)) (ended_of e (asked_between mid new))
query_joined s u e old mid new none one two =
    let asked : map query_of new ≡ model.asked_of (conditions_with u.condition (asked_between old mid)) ++ model.asked_of (conditions_with e.having (asked_between mid new))
    = sym (between_start old new none) ∙ sym (between_both one two) ∙ sym (ap₂ (λ (a b : List model.Query). a ++ b) (asked_all u.condition one) (asked_all e.having two)) in
    rw (tested u.condition (asked_between old mid), tested e.having (asked_between mid new), asked) refl

start : (old new : List Query) (ns : List ℕ) → old ≡ [] → Grown true old new ns → ns ≡ count_from 0 (length new)
start old new ns none one =
    let all : new ≡ one.added = one.grown ∙ ap (λ (l : List Query). l ++ one.added) none in
    one.numbered ∙ ap₂ (λ (k m : ℕ). count_from k m) (ap (λ (l : List Query). length l) none) (ap (λ (l : List Query). length l) (sym all))

pub numbers_joined : (old mid new : List Query) (ms ns : List ℕ) → old ≡ [] → Grown true old mid ms → Grown true mid new ns → ms ++ ns ≡ count_from 0 (length new)
numbers_joined old mid new ms ns none one two = start old new (ms ++ ns) none (grown_both one two)
