use Rattle.ledger.proofs.Composing.{refused_moved}
use Rattle.ledger.specs.Counted.{kept_field}
use Rattle.ledger.proofs.checking.value.Goals as goal

pub returns-in-Err-clause-looks : goal.returns-in-Err-clause-looks
returns-in-Err-clause-looks g c = λ file to can.
    let v = c.in-Err.ensures.looks file to can in
    (v.0, refused_moved kept_field file to c.args.reader.now.at c.place-place.result c.in-Err.refused c.moved.result c.moved.ensures c.place-place.ensures v.1)
