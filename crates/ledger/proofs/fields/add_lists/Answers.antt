use Rattle.std.proofs.Common.{rules, List, [], ◌++◌, length, map, refl, sym, ap, arith}
use Rattle.std.proofs.lemmas.List.{length-map}
use Rattle.ledger_model.specs.Numbers.{u32_bytes}
use Rattle.ledger_model.specs.Entries.{Kept}
use Rattle.ledger_model.specs.Grammar.{list_layout}
use Rattle.ledger.specs.Written.{kept_of}
use Rattle.lp_values.specs.declared.value.Value.{Value}
use Rattle.ledger.proofs.Spelled.{goes_then, spells_none, spells_more, spells_all, spells_as, joined_items}
use Rattle.ledger.proofs.fields.add_lists.Goals as goal

pub loop-list-init : goal.loop-list-init
loop-list-init g c = record {
  goes = c.add_count.ensures.goes;
  later = c.add_count.ensures.cause.later;
  same = search rules;
  spells = spells_none (λ (list : List Value). list_layout.spell (map kept_of list)) c.args.lists.now c.in_ok-add_count.ensures.spells;
}

pub loop-list-preserved : goal.loop-list-preserved
loop-list-preserved g c =
    let inv = c.loop-list.invariant in
    record {
      goes = goes_then inv.goes c.add_list.ensures.goes;
      later = omega (arith, inv.later, c.add_list.ensures.cause.later);
      same = search rules;
      spells = spells_more (u32_bytes (length c.args.lists.now)) (λ (list : List Value). list_layout.spell (map kept_of list)) c.args.lists.now c.loop-list.list-index c.list-item.result inv.spells (spells_as c.in_ok-add_list.ensures.spells (ap (λ (t : List Value). list_layout.spell (map kept_of t)) c.as_slice.ensures)) c.loop-list-test.true c.list-item.is;
    }

pub returns-in_err-add_list-clause-goes : goal.returns-in_err-add_list-clause-goes
returns-in_err-add_list-clause-goes g c = goes_then c.loop-list.invariant.goes c.add_list.ensures.goes

pub returns-clause-spells : goal.returns-clause-spells
returns-clause-spells g c = spells_all (u32_bytes (length c.args.lists.now)) (λ (list : List Value). list_layout.spell (map kept_of list)) c.args.lists.now c.loop-list.list-index _ c.loop-list.invariant.spells (omega arith) (λ i. u32_bytes (sym (length-map c.args.lists.now (map kept_of)) i) ++ joined_items (λ (before : List (List Kept)). list_layout) (map kept_of) (λ (list : List Value). list_layout.spell (map kept_of list)) (λ before list. refl) [] c.args.lists.now i)
