use Rattle.ledger.proofs.Moving.{rewound}
use Rattle.ledger.proofs.reader.EntryReader.take_name.Goals as goal

pub returns-in-Err-clause-gives : goal.returns-in-Err-clause-gives
returns-in-Err-clause-gives g c = λ file to can.
    let k = c.in-Err.ensures.gives file to can in
    (rewound _ c.args.ledger.now file to c.find_name.new.self c.rewind.new.self k.0 c.rewind.ensures.to c.rewind.ensures.ahead, k.1)
