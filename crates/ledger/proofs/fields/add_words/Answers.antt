use Rattle.std.proofs.Common.{rules, ℕ, List, [], ◌++◌, length, refl, arith}
use Rattle.ledger_model.specs.Numbers.{u32_bytes, text_bytes}
use Rattle.ledger_model.specs.Grammar.{text_field}
use Rattle.ledger.proofs.Spelled.{goes_then, spells_none, spells_more, spells_all, same_joined}
use Rattle.ledger.proofs.fields.add_words.Goals as goal

pub loop-word-init : goal.loop-word-init
loop-word-init g c = record {
  goes = c.add_count.ensures.goes;
  later = c.add_count.ensures.cause.later;
  same = search rules;
  spells = spells_none text_bytes c.args.words.now c.in_ok-add_count.ensures.spells;
}

pub loop-word-preserved : goal.loop-word-preserved
loop-word-preserved g c =
    let inv = c.loop-word.invariant in
    record {
      goes = goes_then inv.goes c.add_word.ensures.goes;
      later = omega (arith, inv.later, c.add_word.ensures.cause.later);
      same = search rules;
      spells = spells_more (u32_bytes (length c.args.words.now)) text_bytes c.args.words.now c.loop-word.word-index c.word-item.result inv.spells c.in_ok-add_word.ensures.spells c.loop-word-test.true c.word-item.is;
    }

pub returns-in_err-add_word-clause-goes : goal.returns-in_err-add_word-clause-goes
returns-in_err-add_word-clause-goes g c = goes_then c.loop-word.invariant.goes c.add_word.ensures.goes

pub returns-clause-spells : goal.returns-clause-spells
returns-clause-spells g c = spells_all (u32_bytes (length c.args.words.now)) text_bytes c.args.words.now c.loop-word.word-index _ c.loop-word.invariant.spells (omega arith) (λ i. (u32_bytes (length c.args.words.now)) ++ same_joined (λ (before : List (List ℕ)). text_field) text_bytes (λ before text. refl) [] c.args.words.now i)
