use Rattle.std.proofs.Common.{◌≡◌, ℕ, List, ap, sym, subst}
use Rattle.ledger.specs.declared.entry.Output.{Output}
use Rattle.ledger.specs.Reader.{Position, CanRead, RefusedAt, IsRead}
use Rattle.ledger.specs.Placing.{place_layout, place_at}
use Rattle.ledger.specs.Outputs.{Cursor, loose_output}
use Rattle.ledger.proofs.Composing.{refused_first, refused_second, read_both}
use Rattle.ledger.proofs.Finding.{can_take, no_name, no_place, taken_all}
use Rattle.ledger_model.specs.Grammar.{name_field}
use Rattle.ledger.proofs.outputs.OutputReader.take.Goals as goal

pub returns-in-Err-clause-fault : goal.returns-in-Err-clause-fault
returns-in-Err-clause-fault g c = λ part p is entry k b less.
    let same = ap (λ (o : Cursor). o.position) c.self.view_is in
    let can = can_take (g.D.Disk.state c.args.disk.now) c.args.ledger.now entry k c.args.self.now b less c.self.inside.reader same in
    no_name (g.D.Disk.state c.args.disk.now) c.args.ledger.now entry k c.args.self.now b less c.self.inside.reader same Output c.in-Err.refused part p is (c.in-Err.ensures.gives b.file b.to can).1

pub returns-in-Err-take_place-clause-fault : goal.returns-in-Err-take_place-clause-fault
returns-in-Err-take_place-clause-fault g c = λ part p is entry k b less.
    let same = ap (λ (o : Cursor). o.position) c.self.view_is in
    let can = can_take (g.D.Disk.state c.args.disk.now) c.args.ledger.now entry k c.args.self.now b less c.self.inside.reader same in
    let named = c.in-Ok.ensures.gives b.file b.to can in
    no_place (g.D.Disk.state c.args.disk.now) c.args.ledger.now entry k c.args.self.now b less c.self.inside.reader same Output _ _ named.1 c.in-Err-take_place.refused part p is (c.in-Err-take_place.ensures.takes b.file b.to named.0).1

pub returns-clause-taken : goal.returns-clause-taken
returns-clause-taken g c = λ entry k b less.
    let same = ap (λ (o : Cursor). o.position) c.self.view_is in
    let can = can_take (g.D.Disk.state c.args.disk.now) c.args.ledger.now entry k c.args.self.now b less c.self.inside.reader same in
    let named = c.in-Ok.ensures.gives b.file b.to can in
    let placed = c.in-Ok-take_place.ensures.takes b.file b.to named.0 in
    taken_all (g.D.Disk.state c.args.disk.now) c.args.ledger.now entry k c.args.self.now b less c.self.inside.reader same (g.D.Disk.state c.take_place.new.disk) _ c.in-Ok.name c.in-Ok-take_place.place.0 c.in-Ok-take_place.place.1
    (record { position = c.take_place.new.reader; staged = c.self.inside.staged; count = c.self.inside.count }) named.1 placed.1 placed.0

-- a reader's own place, as the cursor tells it
here_or : (file : List ℕ) (to : ℕ) (inside told : Position) (P : ℕ → Type 0) → inside ≡ told → P inside.at → P told.at
here_or file to inside told P same p = subst (λ (o : Position). P o.at) same p

pub returns-in-Err-clause-reads : goal.returns-in-Err-clause-reads
returns-in-Err-clause-reads g c = λ file to can.
    let same = ap (λ (o : Cursor). o.position) c.self.view_is in
    let named = c.in-Err.ensures.gives file to (subst (CanRead (g.D.Disk.state c.args.disk.now) c.args.ledger.now file to) (sym same) can) in
    (named.0, here_or file to c.self.inside.reader c.args.self.now.position (λ (n : ℕ). RefusedAt loose_output file to n c.in-Err.refused) same (refused_first name_field (λ name. place_layout) file to _ _ named.1))

pub returns-in-Err-take_place-clause-reads : goal.returns-in-Err-take_place-clause-reads
returns-in-Err-take_place-clause-reads g c = λ file to can.
    let same = ap (λ (o : Cursor). o.position) c.self.view_is in
    let named = c.in-Ok.ensures.gives file to (subst (CanRead (g.D.Disk.state c.args.disk.now) c.args.ledger.now file to) (sym same) can) in
    let placed = c.in-Err-take_place.ensures.takes file to named.0 in
    (placed.0, here_or file to c.self.inside.reader c.args.self.now.position (λ (n : ℕ). RefusedAt loose_output file to n c.in-Err-take_place.refused) same (refused_second name_field (λ name. place_layout) file to _ _ _ _ named.1 placed.1))

pub returns-clause-reads : goal.returns-clause-reads
returns-clause-reads g c = λ file to can.
    let same = ap (λ (o : Cursor). o.position) c.self.view_is in
    let named = c.in-Ok.ensures.gives file to (subst (CanRead (g.D.Disk.state c.args.disk.now) c.args.ledger.now file to) (sym same) can) in
    let placed = c.in-Ok-take_place.ensures.takes file to named.0 in
    (placed.0, here_or file to c.self.inside.reader c.args.self.now.position (λ (n : ℕ). IsRead loose_output file to n c.take_place.new.reader.at (c.in-Ok.name, place_at c.in-Ok-take_place.place.0 c.in-Ok-take_place.place.1)) same (read_both name_field (λ name. place_layout) file to _ _ _ _ _ named.1 placed.1))
