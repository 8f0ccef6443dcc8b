use Rattle.ledger.proofs.Moving.{rewound}
use Rattle.ledger.proofs.reader.EntryReader.take_text.Goals as goal

pub returns-in-Err-clause-reads : goal.returns-in-Err-clause-reads
returns-in-Err-clause-reads g c = λ file end can.
    let k = c.in-Err.ensures.reads file end can in
    (rewound _ c.args.ledger.now file end c.find_text.new.reader c.rewind.new.self k.0 c.rewind.ensures.to c.rewind.ensures.ahead, k.1)
