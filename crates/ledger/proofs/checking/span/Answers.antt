use Rattle.std.proofs.Common.{◌≤◌, ◌<◌, ◌^◌, refl, arith}
use Rattle.ledger.proofs.Composing.{handed, narrowed, misfit, refused_narrower, refused_first, refused_second, refused_here, checks_behind}
use Rattle.ledger.proofs.Tagged.{checks_viewed, refused_viewed}
use Rattle.ledger_model.specs.Entries.{Span}
use Rattle.ledger_model.specs.Numbers.{number, u64_bytes, text_of}
use Rattle.ledger_model.specs.Layouts.{field, behind}
use Rattle.ledger_model.specs.Standings.{IsStanding}
use Rattle.ledger_model.specs.Grammar.{name_field}
use Rattle.ledger_model.proofs.Fields.{number_law}
use Rattle.ledger.proofs.checking.span.Goals as goal

pub returns-in_err-take_name-clause-looks : goal.returns-in_err-take_name-clause-looks
returns-in_err-take_name-clause-looks g c = λ file to can.
    let n = c.in_err-take_name.ensures.gives file to can in
    (n.0, handed c.from_residual.result c.in_err-take_name.field-0.0 _ _ c.from_residual.ensures.1 (refused_viewed (λ (span : Span). (span.identity, (span.from, (span.to, span.standing)))) (behind name_field (λ identity. behind number (λ from. behind (field (λ to. (to < 2 ^ 64) × (from ≤ to)) u64_bytes) (λ to. text_of (IsStanding to))))) file to c.args.reader.now.at c.in_err-take_name.field-0.0 (refused_first name_field (λ identity. behind number (λ from. behind (field (λ to. (to < 2 ^ 64) × (from ≤ to)) u64_bytes) (λ to. text_of (IsStanding to)))) file to _ _ n.1)))

pub returns-in_err-from-clause-looks : goal.returns-in_err-from-clause-looks
returns-in_err-from-clause-looks g c = λ file to can.
    let n = c.in_ok-take_name.ensures.gives file to can in
    let f = c.in_err-from.ensures.gives file to n.0 in
    (f.0, handed c.from_residual-in_err-from.result c.in_err-from.field-0.0 _ _ c.from_residual-in_err-from.ensures.1 (refused_viewed (λ (span : Span). (span.identity, (span.from, (span.to, span.standing)))) (behind name_field (λ identity. behind number (λ from. behind (field (λ to. (to < 2 ^ 64) × (from ≤ to)) u64_bytes) (λ to. text_of (IsStanding to))))) file to c.args.reader.now.at c.in_err-from.field-0.0 (refused_second name_field (λ identity. behind number (λ from. behind (field (λ to. (to < 2 ^ 64) × (from ≤ to)) u64_bytes) (λ to. text_of (IsStanding to)))) file to _ _ _ _ n.1 (refused_first number (λ from. behind (field (λ to. (to < 2 ^ 64) × (from ≤ to)) u64_bytes) (λ to. text_of (IsStanding to))) file to _ _ f.1))))

pub returns-in_err-to-clause-looks : goal.returns-in_err-to-clause-looks
returns-in_err-to-clause-looks g c = λ file to can.
    let n = c.in_ok-take_name.ensures.gives file to can in
    let f = c.in_ok-from.ensures.gives file to n.0 in
    let t = c.in_err-to.ensures.gives file to f.0 in
    (t.0, handed c.from_residual-in_err-to.result c.in_err-to.field-0.0 _ _ c.from_residual-in_err-to.ensures.1 (refused_viewed (λ (span : Span). (span.identity, (span.from, (span.to, span.standing)))) (behind name_field (λ identity. behind number (λ from. behind (field (λ to. (to < 2 ^ 64) × (from ≤ to)) u64_bytes) (λ to. text_of (IsStanding to))))) file to c.args.reader.now.at c.in_err-to.field-0.0 (refused_second name_field (λ identity. behind number (λ from. behind (field (λ to. (to < 2 ^ 64) × (from ≤ to)) u64_bytes) (λ to. text_of (IsStanding to)))) file to _ _ _ _ n.1 (refused_second number (λ from. behind (field (λ to. (to < 2 ^ 64) × (from ≤ to)) u64_bytes) (λ to. text_of (IsStanding to))) file to _ _ _ _ f.1 (refused_first (field (λ to. (to < 2 ^ 64) × (c.in_ok-from.from ≤ to)) u64_bytes) (λ to. text_of (IsStanding to)) file to _ _ (refused_narrower (λ n. n < 2 ^ 64) (λ to. (to < 2 ^ 64) × (c.in_ok-from.from ≤ to)) u64_bytes (λ n fits. fits.0) file to _ _ t.1))))))

pub returns-then-to-from-clause-looks : goal.returns-then-to-from-clause-looks
returns-then-to-from-clause-looks g c = λ file to can.
    let n = c.in_ok-take_name.ensures.gives file to can in
    let f = c.in_ok-from.ensures.gives file to n.0 in
    let t = c.in_ok-to.ensures.gives file to f.0 in
    (t.0, refused_viewed (λ (span : Span). (span.identity, (span.from, (span.to, span.standing)))) (behind name_field (λ identity. behind number (λ from. behind (field (λ to. (to < 2 ^ 64) × (from ≤ to)) u64_bytes) (λ to. text_of (IsStanding to))))) file to c.args.reader.now.at c.damaged.result (refused_second name_field (λ identity. behind number (λ from. behind (field (λ to. (to < 2 ^ 64) × (from ≤ to)) u64_bytes) (λ to. text_of (IsStanding to)))) file to _ _ _ _ n.1 (refused_second number (λ from. behind (field (λ to. (to < 2 ^ 64) × (from ≤ to)) u64_bytes) (λ to. text_of (IsStanding to))) file to _ _ _ _ f.1 (refused_first (field (λ to. (to < 2 ^ 64) × (c.in_ok-from.from ≤ to)) u64_bytes) (λ to. text_of (IsStanding to)) file to _ _ (refused_here (field (λ to. (to < 2 ^ 64) × (c.in_ok-from.from ≤ to)) u64_bytes) file to _ c.place-place.result c.damaged.result c.damaged.ensures c.place-place.ensures (misfit (λ n. n < 2 ^ 64) (λ to. (to < 2 ^ 64) × (c.in_ok-from.from ≤ to)) u64_bytes number_law (λ n fits. fits.0) file to _ _ _ t.1 (λ fits. omega (arith, c.if-to-from.true, fits.1))))))))

pub returns-clause-looks : goal.returns-clause-looks
returns-clause-looks g c = λ file to can.
    let n = c.in_ok-take_name.ensures.gives file to can in
    let f = c.in_ok-from.ensures.gives file to n.0 in
    let t = c.in_ok-to.ensures.gives file to f.0 in
    let s = c.standing.ensures.looks file to t.0 in (
      s.0,
      checks_viewed (λ (span : Span). (span.identity, (span.from, (span.to, span.standing)))) (λ parts. record { identity = parts.0; from = parts.1.0; to = parts.1.1.0; standing = parts.1.1.1 }) (behind name_field (λ identity. behind number (λ from. behind (field (λ to. (to < 2 ^ 64) × (from ≤ to)) u64_bytes) (λ to. text_of (IsStanding to))))) (λ parts. refl) file to _ _ c.standing.result
          (checks_behind name_field (λ identity. behind number (λ from. behind (field (λ to. (to < 2 ^ 64) × (from ≤ to)) u64_bytes) (λ to. text_of (IsStanding to)))) file to _ _ _ _ n.1 c.standing.result (checks_behind number (λ from. behind (field (λ to. (to < 2 ^ 64) × (from ≤ to)) u64_bytes) (λ to. text_of (IsStanding to))) file to _ _ _ _ f.1 c.standing.result
          (checks_behind (field (λ to. (to < 2 ^ 64) × (c.in_ok-from.from ≤ to)) u64_bytes) (λ to. text_of (IsStanding to)) file to _ _ _ _ (narrowed (λ n. n < 2 ^ 64) (λ to. (to < 2 ^ 64) × (c.in_ok-from.from ≤ to)) u64_bytes file to _ _ _ t.1 (omega arith, omega (arith, c.if-to-from.false))) c.standing.result s.1))),
    )
