use Rattle.std.proofs.Common.{arith}
use Rattle.ledger.proofs.Composing.{handed, refused_here, refused_moved}
use Rattle.ledger.proofs.Tagged.{columns_untagged, columns_none, columns_some, columns_refused, columns_unknown}
use Rattle.ledger_model.specs.Standings.{columns_field}
use Rattle.ledger.proofs.checking.columns.Goals as goal

pub returns-in_err-byte-clause-looks : goal.returns-in_err-byte-clause-looks
returns-in_err-byte-clause-looks g c = λ file to can.
    let k = c.in_err-byte.ensures.gives file to can in
    (k.0, handed c.from_residual.result c.in_err-byte.field-0.0 _ _ c.from_residual.ensures.1 (columns_untagged file to _ _ k.1))

pub returns-in-0-clause-looks : goal.returns-in-0-clause-looks
returns-in-0-clause-looks g c = λ file to can.
    let k = c.in_ok-byte.ensures.gives file to can in
    (k.0, columns_none file to _ _ _ (omega arith) k.1)

pub returns-in-Ok-clause-looks : goal.returns-in-Ok-clause-looks
returns-in-Ok-clause-looks g c = λ file to can.
    let k = c.in_ok-byte.ensures.gives file to can in
    let n = c.in-Ok.ensures.looks file to k.0 in
    (n.0, columns_some file to _ _ _ _ (omega arith) k.1 n.1)

pub returns-in-Err-clause-looks : goal.returns-in-Err-clause-looks
returns-in-Err-clause-looks g c = λ file to can.
    let k = c.in_ok-byte.ensures.gives file to can in
    let n = c.in-Err.ensures.looks file to k.0 in
    (n.0, refused_moved columns_field file to c.args.reader.now.at c.place-place.result c.in-Err.refused c.moved.result c.moved.ensures c.place-place.ensures (columns_refused file to _ _ _ _ (omega arith) k.1 n.1))

pub returns-in_default-clause-looks : goal.returns-in_default-clause-looks
returns-in_default-clause-looks g c = λ file to can.
    let k = c.in_ok-byte.ensures.gives file to can in
    (k.0, refused_here columns_field file to c.args.reader.now.at c.place-place.result c.damaged.result c.damaged.ensures c.place-place.ensures (columns_unknown file to _ _ _ (omega arith) (omega arith) k.1))
