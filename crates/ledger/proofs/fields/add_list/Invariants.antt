use Rattle.std.proofs.Common.{◌≡◌, ◌≤◌, ◌++◌, length, take}
use Rattle.std.specs.List.{flat_map}
use Rattle.ledger.specs.Spelling.{Goes, Spells}
use Rattle.ledger_model.specs.Numbers.{u64_bytes}
use Rattle.ledger_model.specs.Grammar.{kept_bytes}
use Rattle.ledger.specs.Written.{kept_of}
use Rattle.lp_values.specs.declared.value.Value.{Value}
use Rattle.ledger.proofs.fields.add_list.Given as goal

abbrev pub invariant-loop-value : goal.invariant-loop-value
invariant-loop-value g l = record {
  goes : Goes (g.D.Disk.state l.fn.disk) (g.D.Disk.state l.disk) l.ledger l.fn.speller l.speller;
  later : g.D.Disk.faults l.fn.disk ≤ g.D.Disk.faults l.disk;
  same : g.D.Disk.faults l.disk ≡ g.D.Disk.faults l.fn.disk;
  spells : Spells (g.D.Disk.state l.fn.disk) (g.D.Disk.state l.disk) l.ledger l.fn.speller l.speller (u64_bytes (length l.list) ++ flat_map (λ (value : Value). kept_bytes (kept_of value)) (take l.value-index l.list));
}
