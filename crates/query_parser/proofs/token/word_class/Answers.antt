use Rattle.std.proofs.Common.{true, false, sym, ◌∙◌, codes, refl}
use Rattle.query_tree.specs.Tokens.{same_word}
use Rattle.query_parser.proofs.Words.{same_by, classed}
use Rattle.query_parser.proofs.token.word_class.Goals as goal

pub returns-then-eq_ignore_ascii_case : goal.returns-then-eq_ignore_ascii_case
returns-then-eq_ignore_ascii_case c =
    let w = c.args.word.now in
    let one = same_by _ w (codes "COUNT") c.eq_ignore_ascii_case.ensures.test ∙ c.if-eq_ignore_ascii_case.true in
    sym (classed w true (same_word w (codes "PROPCOUNT")) (same_word w (codes "TIMESTAMP")) one refl refl)

pub returns-then-eq_ignore_ascii_case-2 : goal.returns-then-eq_ignore_ascii_case-2
returns-then-eq_ignore_ascii_case-2 c =
    let w = c.args.word.now in
    let one = same_by _ w (codes "COUNT") c.eq_ignore_ascii_case.ensures.test ∙ c.if-eq_ignore_ascii_case.false in
    let two = same_by _ w (codes "PROPCOUNT") c.eq_ignore_ascii_case-else-eq_ignore_ascii_case.ensures.test ∙ c.if-eq_ignore_ascii_case-2.true in
    sym (classed w false true (same_word w (codes "TIMESTAMP")) one two refl)

pub returns-then-eq_ignore_ascii_case-3 : goal.returns-then-eq_ignore_ascii_case-3
returns-then-eq_ignore_ascii_case-3 c =
    let w = c.args.word.now in
    let one = same_by _ w (codes "COUNT") c.eq_ignore_ascii_case.ensures.test ∙ c.if-eq_ignore_ascii_case.false in
    let two = same_by _ w (codes "PROPCOUNT") c.eq_ignore_ascii_case-else-eq_ignore_ascii_case.ensures.test ∙ c.if-eq_ignore_ascii_case-2.false in
    let three = same_by _ w (codes "TIMESTAMP") c.eq_ignore_ascii_case-else-eq_ignore_ascii_case-2.ensures.test ∙ c.if-eq_ignore_ascii_case-3.true in
    sym (classed w false false true one two three)

pub returns-else-eq_ignore_ascii_case-3 : goal.returns-else-eq_ignore_ascii_case-3
returns-else-eq_ignore_ascii_case-3 c =
    let w = c.args.word.now in
    let one = same_by _ w (codes "COUNT") c.eq_ignore_ascii_case.ensures.test ∙ c.if-eq_ignore_ascii_case.false in
    let two = same_by _ w (codes "PROPCOUNT") c.eq_ignore_ascii_case-else-eq_ignore_ascii_case.ensures.test ∙ c.if-eq_ignore_ascii_case-2.false in
    let three = same_by _ w (codes "TIMESTAMP") c.eq_ignore_ascii_case-else-eq_ignore_ascii_case-2.ensures.test ∙ c.if-eq_ignore_ascii_case-3.false in
    sym (classed w false false false one two three)
