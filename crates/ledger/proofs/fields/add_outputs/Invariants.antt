use Rattle.std.proofs.Common.{◌≡◌, ◌≤◌, ◌++◌, [], length, take}
use Rattle.std.specs.List.{flat_map}
use Rattle.ledger.specs.Spelling.{Goes, Spells}
use Rattle.ledger_model.specs.Numbers.{u32_bytes}
use Rattle.ledger_model.specs.Grammar.{output_layout}
use Rattle.ledger.specs.Written.{output_of}
use Rattle.ledger.specs.declared.entry.Output.{Output}
use Rattle.ledger.proofs.fields.add_outputs.Given as goal

abbrev pub invariant-loop-output : goal.invariant-loop-output
invariant-loop-output g l = record {
  goes : Goes (g.D.Disk.state l.fn.disk) (g.D.Disk.state l.disk) l.ledger l.fn.speller l.speller;
  later : g.D.Disk.faults l.fn.disk ≤ g.D.Disk.faults l.disk;
  same : g.D.Disk.faults l.disk ≡ g.D.Disk.faults l.fn.disk;
  spells : Spells (g.D.Disk.state l.fn.disk) (g.D.Disk.state l.disk) l.ledger l.fn.speller l.speller (u32_bytes (length l.outputs) ++ flat_map (λ (output : Output). (output_layout []).spell (output_of output)) (take l.output-index l.outputs));
}
