use Rattle.std.proofs.Common.{◌≡◌, ◌≤◌, ◌++◌, List, length, take, map}
use Rattle.std.specs.List.{flat_map}
use Rattle.ledger.specs.Spelling.{Goes, Spells}
use Rattle.ledger_model.specs.Numbers.{u32_bytes}
use Rattle.ledger_model.specs.Grammar.{list_layout}
use Rattle.ledger.specs.Written.{kept_of}
use Rattle.lp_values.specs.declared.value.Value.{Value}
use Rattle.ledger.proofs.fields.add_lists.Given as goal

abbrev pub invariant-loop-list : goal.invariant-loop-list
invariant-loop-list g l = record {
  goes : Goes (g.D.Disk.state l.fn.disk) (g.D.Disk.state l.disk) l.ledger l.fn.speller l.speller;
  later : g.D.Disk.faults l.fn.disk ≤ g.D.Disk.faults l.disk;
  same : g.D.Disk.faults l.disk ≡ g.D.Disk.faults l.fn.disk;
  spells : Spells (g.D.Disk.state l.fn.disk) (g.D.Disk.state l.disk) l.ledger l.fn.speller l.speller (u32_bytes (length l.lists) ++ flat_map (λ (list : List Value). list_layout.spell (map kept_of list)) (take l.list-index l.lists));
}
