use Rattle.std.proofs.Common.{◌≡◌, ℕ, ◌-◌, ◌≤◌, List, length, drop, length-drop, ap, ◌∙◌, arith}
use Rattle.std.specs.List.{prefix_len}
use Rattle.std.proofs.lemmas.List.{take_all}
use Rattle.std.proofs.lemmas.List.Sums.{prefix_len-le-length}
use Rattle.query_lexer.specs.Bytes.{is_digit}
use Rattle.query_lexer.proofs.numbers.digits_at.Goals as goal

pub returns-clause-within : goal.returns-clause-within
returns-clause-within c =
    let left : length (drop c.args.start c.args.bytes.now) ≡ length c.args.bytes.now - c.args.start = length-drop c.args.start c.args.bytes.now in
    let same = c.digits_length.ensures ∙ ap (λ (x : List ℕ). prefix_len is_digit x) (take_all (length c.args.bytes.now - c.args.start) (drop c.args.start c.args.bytes.now) (omega arith)) in
    let le : prefix_len is_digit (drop c.args.start c.args.bytes.now) ≤ length (drop c.args.start c.args.bytes.now) = prefix_len-le-length is_digit (drop c.args.start c.args.bytes.now) in
    let within = c.requires in
    omega arith
