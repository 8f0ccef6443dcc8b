use Rattle.std.proofs.Common.{rules, List, [], ◌++◌, length, refl, sym, arith}
use Rattle.std.proofs.lemmas.List.{length-map}
use Rattle.ledger_model.specs.Layouts.{field}
use Rattle.ledger_model.specs.Numbers.{u64_bytes}
use Rattle.ledger_model.specs.Entries.{Kept}
use Rattle.ledger_model.specs.Grammar.{IsKept, kept_bytes}
use Rattle.ledger.specs.Written.{kept_of}
use Rattle.lp_values.specs.declared.value.Value.{Value}
use Rattle.ledger.proofs.Spelled.{goes_then, spells_none, spells_more, spells_all, joined_items}
use Rattle.ledger.proofs.fields.add_list.Goals as goal

pub loop-value-init : goal.loop-value-init
loop-value-init g c = record {
  goes = c.add_number.ensures.goes;
  later = c.add_number.ensures.cause.later;
  same = search rules;
  spells = spells_none (λ (value : Value). kept_bytes (kept_of value)) c.args.list.now c.in_ok-add_number.ensures.spells;
}

pub loop-value-preserved : goal.loop-value-preserved
loop-value-preserved g c =
    let inv = c.loop-value.invariant in
    record {
      goes = goes_then inv.goes c.add_value.ensures.goes;
      later = omega (arith, inv.later, c.add_value.ensures.cause.later);
      same = search rules;
      spells = spells_more (u64_bytes (length c.args.list.now)) (λ (value : Value). kept_bytes (kept_of value)) c.args.list.now c.loop-value.value-index c.value-item.result inv.spells c.in_ok-add_value.ensures.spells c.loop-value-test.true c.value-item.is;
    }

pub returns-in_err-add_value-clause-goes : goal.returns-in_err-add_value-clause-goes
returns-in_err-add_value-clause-goes g c = goes_then c.loop-value.invariant.goes c.add_value.ensures.goes

pub returns-clause-spells : goal.returns-clause-spells
returns-clause-spells g c = spells_all (u64_bytes (length c.args.list.now)) (λ (value : Value). kept_bytes (kept_of value)) c.args.list.now c.loop-value.value-index _ c.loop-value.invariant.spells (omega arith) (λ i. u64_bytes (sym (length-map c.args.list.now kept_of) i) ++ joined_items (λ (before : List Kept). field IsKept kept_bytes) kept_of (λ (value : Value). kept_bytes (kept_of value)) (λ before value. refl) [] c.args.list.now i)
