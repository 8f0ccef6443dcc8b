use Rattle.std.proofs.Common.{◌∙◌, ap, List, ℕ}
use Rattle.std.specs.Prelude.{bytes_eq}
use Rattle.indexmap.specs.IndexMap.{keys, insert_entry}
use Rattle.multiplex.specs.Placing.{index_among}
use Rattle.multiplex.proofs.Names.{index_new, entry_new}
use Rattle.multiplex.proofs.outputs.add_last.Goals as goal

pub returns-clause-index : goal.returns-clause-index
returns-clause-index c = c.in_ok-index.ensures.index ∙ ap (index_among (keys c.args.names.now)) c.in_ok-copy.ensures ∙ index_new (keys c.args.names.now) c.args.key.now c.requires.new

pub returns-clause-ok : goal.returns-clause-ok
returns-clause-ok c =
    let old = c.args.names.now.entries in
    c.in_ok-index.ensures.entries ∙ ap (λ (key : List ℕ). insert_entry bytes_eq old key c.args.name) c.in_ok-copy.ensures ∙ entry_new old c.args.key.now c.args.name c.requires.new
