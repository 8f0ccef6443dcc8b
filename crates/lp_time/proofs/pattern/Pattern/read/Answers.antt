use Rattle.std.proofs.Common.{◌∙◌, ap, sym, ℕ, List, Ok, Err, Result, if◌then◌else◌, Bool}
use Rattle.lp_time.specs.declared.piece.Piece.{Piece}
use Rattle.lp_time.specs.Patterns.{pattern_in}
use Rattle.lp_time.proofs.PatternLemmas.{read_step, read_fault, read_end}
use Rattle.lp_time.proofs.pattern.Pattern.read.Goals as goal

abbrev chosen : List Piece → ℕ → Bool → Result (List Piece) ℕ
chosen pattern at b = if b then Ok pattern else Err at

pub loop-at-preserved : goal.loop-at-preserved
loop-at-preserved c =
    let some = c.in-Some.ensures.some in
    let step = read_step c.as_bytes-bytes.result.now c.loop-at.pattern c.loop-at.at c.loop-at.invariant.left c.bytes_from.result.now c.add_front.new.self c.in-Some.size
    c.loop-at-test.true c.bytes_from.ensures some.0 some.1 some.2 c.in-Some.ensures.within.1 in
    record { within = step.0; room = step.1; left = step.2 }

pub returns-in-None-clause-fault : goal.returns-in-None-clause-fault
returns-in-None-clause-fault c =
    ap pattern_in (sym c.as_bytes-bytes.ensures.value) ∙ read_fault c.as_bytes-bytes.result.now c.loop-at.pattern c.loop-at.at c.loop-at.invariant.left c.bytes_from.result.now c.loop-at-test.true c.bytes_from.ensures c.in-None.ensures.none

pub returns-then-has_items-clause-ok : goal.returns-then-has_items-clause-ok
returns-then-has_items-clause-ok c =
    let found = sym c.has_items.ensures ∙ c.if-has_items.true in
    ap pattern_in (sym c.as_bytes-bytes.ensures.value) ∙ (read_end c.as_bytes-bytes.result.now c.loop-at.pattern c.loop-at.at c.loop-at.invariant.left c.loop-at-test.false
    ∙ ap (λ (b : Bool). chosen c.loop-at.pattern c.loop-at.at b) found)

pub returns-else-has_items-clause-fault : goal.returns-else-has_items-clause-fault
returns-else-has_items-clause-fault c =
    let none = sym c.has_items.ensures ∙ c.if-has_items.false in
    ap pattern_in (sym c.as_bytes-bytes.ensures.value) ∙ (read_end c.as_bytes-bytes.result.now c.loop-at.pattern c.loop-at.at c.loop-at.invariant.left c.loop-at-test.false
    ∙ ap (λ (b : Bool). chosen c.loop-at.pattern c.loop-at.at b) none)
