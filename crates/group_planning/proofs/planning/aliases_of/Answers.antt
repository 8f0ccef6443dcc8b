use Rattle.std.proofs.Common.{◌∙◌, ◌≤◌, ℕ, List, length, map, take, ap, sym, subst}
use Rattle.std.proofs.lemmas.List.{length-map}
use Rattle.query_types.specs.Parts.{parts_of}
use Rattle.group_planning.specs.Clauses.{with_all_named}
use Rattle.sensing.specs.Sensing.{Named, named_of}
use Rattle.sensing.specs.declared.alias.SenseAlias.{SenseAlias}
use Rattle.group_planning.proofs.Steps.{kept_front}
use Rattle.group_planning.proofs.planning.aliases_of.Goals as goal

pub returns-clause-before : goal.returns-clause-before
returns-clause-before c =
    let using = c.add_all_named.new.aliases.items in
    let all = c.add_all_named-2.new.aliases.items in
    let kept = kept_front c.args.table.now c.args.moment.now (map named_of using) (map named_of all) (parts_of c.args.query.now).items c.in_ok-add_all_named-2.ensures in
    let size = length-map using named_of in
    let whole = length-map all named_of in
    subst (λ (n : ℕ). n ≤ length all) (size ∙ sym (ap length c.as_slice-before.ensures.value)) (subst (λ (n : ℕ). length (map named_of using) ≤ n) whole kept.0)

pub returns-clause-using : goal.returns-clause-using
returns-clause-using c =
    let using = c.add_all_named.new.aliases.items in
    let all = c.add_all_named-2.new.aliases.items in
    let kept = kept_front c.args.table.now c.args.moment.now (map named_of using) (map named_of all) (parts_of c.args.query.now).items c.in_ok-add_all_named-2.ensures in
    ap (λ (n : ℕ). take n (map named_of all)) (ap length c.as_slice-before.ensures.value ∙ sym (length-map using named_of)) ∙ kept.1
    ∙ c.in_ok-add_all_named.ensures
    ∙ ap (λ (l : List SenseAlias). with_all_named c.args.table.now c.args.moment.now (map named_of l) (parts_of c.args.query.now).aliases) c.new-aliases.ensures.items

pub returns-clause-all : goal.returns-clause-all
returns-clause-all c =
    let using = c.add_all_named.new.aliases.items in
    let all = c.add_all_named-2.new.aliases.items in
    let items = (parts_of c.args.query.now).items in
    let kept = kept_front c.args.table.now c.args.moment.now (map named_of using) (map named_of all) items c.in_ok-add_all_named-2.ensures in
    c.in_ok-add_all_named-2.ensures
    ∙ ap (λ (l : List Named). with_all_named c.args.table.now c.args.moment.now l items) (sym (ap (λ (n : ℕ). take n (map named_of all)) (ap length c.as_slice-before.ensures.value ∙ sym (length-map using named_of)) ∙ kept.1))
