use Rattle.std.proofs.Common.{rules, [], ◌++◌, length, refl, sym, arith}
use Rattle.std.proofs.lemmas.List.{length-map}
use Rattle.ledger_model.specs.Numbers.{u32_bytes}
use Rattle.ledger_model.specs.Grammar.{output_layout}
use Rattle.ledger.specs.Written.{output_of}
use Rattle.ledger.specs.declared.entry.Output.{Output}
use Rattle.ledger.proofs.Spelled.{goes_then, spells_none, spells_more, spells_all, joined_items}
use Rattle.ledger.proofs.fields.add_outputs.Goals as goal

pub loop-output-init : goal.loop-output-init
loop-output-init g c = record {
  goes = c.add_count.ensures.goes;
  later = c.add_count.ensures.cause.later;
  same = search rules;
  spells = spells_none (λ (output : Output). (output_layout []).spell (output_of output)) c.args.outputs.now c.in_ok-add_count.ensures.spells;
}

pub loop-output-preserved : goal.loop-output-preserved
loop-output-preserved g c =
    let inv = c.loop-output.invariant in
    record {
      goes = goes_then inv.goes c.add_output.ensures.goes;
      later = omega (arith, inv.later, c.add_output.ensures.cause.later);
      same = search rules;
      spells = spells_more (u32_bytes (length c.args.outputs.now)) (λ (output : Output). (output_layout []).spell (output_of output)) c.args.outputs.now c.loop-output.output-index c.output-item.result inv.spells c.in_ok-add_output.ensures.spells c.loop-output-test.true c.output-item.is;
    }

pub returns-in_err-add_output-clause-goes : goal.returns-in_err-add_output-clause-goes
returns-in_err-add_output-clause-goes g c = goes_then c.loop-output.invariant.goes c.add_output.ensures.goes

pub returns-clause-spells : goal.returns-clause-spells
returns-clause-spells g c = spells_all (u32_bytes (length c.args.outputs.now)) (λ (output : Output). (output_layout []).spell (output_of output)) c.args.outputs.now c.loop-output.output-index _ c.loop-output.invariant.spells (omega arith) (λ i. u32_bytes (sym (length-map c.args.outputs.now output_of) i) ++ joined_items output_layout output_of (λ (output : Output). (output_layout []).spell (output_of output)) (λ before output. refl) [] c.args.outputs.now i)
