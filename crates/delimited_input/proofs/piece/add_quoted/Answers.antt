use Rattle.std.proofs.Common.{◌≡◌, ◌≤◌, ◌+◌, ◌++◌, ◌∙◌, ℕ, List, length, drop, sym, ap, arith}
use Rattle.std.proofs.lemmas.List.{length-drop}
use Rattle.std.specs.List.{position_or_len}
use Rattle.memchr.specs.Find.{is_byte}
use Rattle.delimited_input.proofs.PieceLemmas.{added_last, added_more, doubled_within}
use Rattle.delimited_input.proofs.piece.add_quoted.Goals as goal

pub bytes_from-requires-in-loop-held : goal.bytes_from-requires-in-loop-held
bytes_from-requires-in-loop-held c = doubled_within c.args.line.now c.loop-held.to (sym c.is_doubled.ensures ∙ c.loop-held-test.true)

pub loop-held-preserved : goal.loop-held-preserved
loop-held-preserved c =
    let line = c.args.line.now in
    let to = c.loop-held.to in
    let two = sym c.is_doubled.ensures ∙ c.loop-held-test.true in
    let more = c.in_ok-add.ensures.ok ∙ ap (λ (bytes : List ℕ). c.loop-held.held ++ bytes) c.of.ensures in
    let here = ap (λ n. to + 2 + n) (c.length_before-in-loop-held.ensures.length ∙ ap (position_or_len (is_byte 34)) c.bytes_from-in-loop-held.ensures) in
    let left : length c.bytes_from-in-loop-held.result.now ≡ length (drop (to + 2) line) = ap length c.bytes_from-in-loop-held.ensures in
    let within : to + 2 + c.length_before-in-loop-held.result ≤ length line = omega (arith, left, length-drop (to + 2) line, doubled_within line to two, c.length_before-in-loop-held.ensures.fits) in
    added_more line c.args.from c.loop-held.at to (to + 2 + c.length_before-in-loop-held.result) c.args.held.now c.loop-held.held c.add.new.self c.loop-held.invariant two more here within

pub returns-clause-bytes : goal.returns-clause-bytes
returns-clause-bytes c =
    added_last c.args.line.now c.args.from c.loop-held.at c.loop-held.to c.args.held.now c.loop-held.held c.add-2.new.self c.loop-held.invariant
    (c.in_ok-add-2.ensures.ok ∙ ap (λ (bytes : List ℕ). c.loop-held.held ++ bytes) c.of-2.ensures)
